-- The plan of the lent tables: its counts, and what its sides and offsets are in the code's numbers.
use mathlib.Core.Path.{◌≡◌, refl, sym, ap, ◌∙◌}
use mathlib.Core.List.{List, []}
use Prim.Native.Nat.{ℕ, ◌+◌, ◌*◌}
use lib.ListN.{get_or}
use Rattle.packets.specs.declared.Packet.{Packet}
use Rattle.plan.specs.declared.Head.{Head}
use Rattle.plan.specs.Head.{destinations}
use Rattle.plan.specs.Plan.{Plan, S, no_side}
use Rattle.plan.specs.Tables.{table_plan}
use Rattle.plan_queues.specs.Queue.{Q}
use Rattle.theory.proofs.Cases.{exit_at}
use Rattle.bytes_layout.specs.Offsets.{queue_row}
use Rattle.phase_execute.proofs.Bytes.{unit_row}

module _ (h : Head) (routes : List (List ℕ)) (joints : List ℕ) where
  abbrev pl : Plan
  pl = table_plan h routes joints

  pub slots_are : h.slots ≡ S pl
  unfolding table_plan
  slots_are = refl

  -- the side by which the walk of a packet leaves router r
  pub exit_is : (r : ℕ) (x : Packet) → get_or (get_or routes r []) (h.actives + x.passive) no_side ≡ exit_at pl r x
  unfolding table_plan
  exit_is r x = refl

  -- Q's row
  pub unit_at : (r i : ℕ) {n at : ℕ} → n ≡ destinations h + 28 * r → at ≡ 2 + 39 * (n + 4 + i)
      → at ≡ queue_row pl (Q r i)
  unfolding table_plan
  unit_at r i en ea = ea ∙ ap (λ (k : ℕ). 2 + 39 * (k + 4 + i)) en ∙ sym (unit_row pl r i)
