-- The plan of the lent tables: its counts, and where its entries stand in the code's numbers.
use mathlib.Core.Path.{◌≡◌, sym, ap, ◌∙◌}
use mathlib.Core.List.{List}
use Prim.Native.Nat.{ℕ, ◌+◌, ◌*◌, ◌<◌}
use Rattle.plan.specs.declared.Head.{Head}
use Rattle.plan.specs.Head.{InRange, Counts}
use Rattle.plan.specs.Plan.{Plan, R}
use Rattle.plan.specs.Tables.{table_plan}
use Rattle.bytes_layout.specs.Offsets.{entry_row}
use Rattle.bytes_steps.specs.Counts.{table_from, table_at_lem}
use Rattle.next_queue.specs.Wiring.{Wiring}
use Rattle.phase_pick.proofs.Bytes.{entry_at_lem}

module _ (h : Head) (routes : List (List ℕ)) (joints : List ℕ) where
  abbrev pl : Plan
  pl = table_plan h routes joints

  -- an entry's bytes
  pub entry_is : (r o t : ℕ) {at : ℕ} → at ≡ table_from h + 2 * (128 * r + 32 * o + t) → at ≡ entry_row pl r o t
  unfolding table_plan
  entry_is r o t e =
      e ∙ ap (λ (k : ℕ). k + 2 * (128 * r + 32 * o + t)) (sym (table_at_lem pl)) ∙ sym (entry_at_lem pl r o t)

module _ {h : Head} {routes : List (List ℕ)} {joints homes : List ℕ} (w : Wiring h routes joints homes) where
  abbrev net : Plan
  net = table_plan h routes joints

  pub counts_of : Counts h
  counts_of = (w.range.routers.1, w.range.actives.1, w.range.passives.1)

  pub range_of : InRange net.head
  unfolding table_plan
  range_of = w.range

  pub is_router : {r : ℕ} → r < h.routers → r < R net
  unfolding table_plan
  is_router l = l
