use Rattle.check_state.proofs.Together.{quiet_passed}
use Rattle.check_state.proofs.places_ok.Goals as goal

pub quiet-requires : goal.quiet-requires
quiet-requires c = (c.requires.1, c.requires.0.range)

pub returns-then-quiet : goal.returns-then-quiet
returns-then-quiet c =
    let p = c.requires in
    quiet_passed _ _ _ p.0.range _ p.3 (c.quiet.ensures c.if-quiet.true)
