use Prim.Native.Nat.{◌+◌}
use lib.ListN.{get_or}
use Rattle.std.proofs.Common.{rules}
use Rattle.std.specs.Bool.{⊤}
use Rattle.std.proofs.lemmas.Iterator.{first_from_Range}
use Rattle.check_queues.specs.Lines.{Rests}
use Rattle.check_queues.proofs.Turns.{skip_found}
use Rattle.check_queues.proofs.busy_from.Goals as goal

pub returns : goal.returns
returns c =
    skip_found _ _ _ _ _ _ c.requires.0 c.find.result
    (first_from_Range _ _ _ c.find.result (λ i. ⊤)
    (λ i. Rests c.args.s.now (c.args.from + i) (get_or c.args.caps.now i 0)
    (get_or c.args.coming.now (c.args.from + i) 0)) c.find.ensures.ran (λ i q h. tt) (λ i q h. search rules))
