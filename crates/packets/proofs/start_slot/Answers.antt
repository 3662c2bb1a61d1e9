use native.Mathlib.Nat.{le_of_lt, mod-lt}
use borrow.Author.Rules.{rules}
use Rattle.packets.proofs.start_slot.Goals as goal

pub overflow_sub-result : goal.overflow_sub-result
overflow_sub-result c = le_of_lt (mod-lt _ (search rules))
