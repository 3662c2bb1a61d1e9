use Rattle.call_start.proofs.Begins.{all_groups}
use Rattle.call_start.proofs.all_credits.Goals as goal

pub returns : goal.returns
returns c =
    all_groups _ c.requires.0 _ c.lay_same.ensures
    c.lay_same-2.ensures c.lay_routers.ensures c.lay_same-3.ensures
    c.lay_same-4.ensures
