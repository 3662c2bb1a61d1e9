-- The queue at a unit that a packet joins, by its number: what the code computes from the output's number and the side
-- by which the pair's walk comes in.
use mathlib.Core.Path.{◌≡◌, sym, ap, subst, ◌∙◌}
use mathlib.Core.List.{List}
use Prim.Native.Nat.{ℕ, ◌+◌, ◌*◌, ◌-◌, ◌/◌, ◌%◌, ◌≤◌, ◌<◌}
use native.Mathlib.Omega.{arith}
use borrow.Author.Tests.{lt-ltb, le-ltb}
use Rattle.packets.specs.declared.Packet.{Packet}
use Rattle.plan.specs.declared.Head.{Head}
use Rattle.plan.specs.Head.{destinations}
use Rattle.plan.specs.Plan.{Plan}
use Rattle.plan.specs.Tables.{table_plan}
use Rattle.plan_queues.specs.Queue.{number}
use Rattle.plan_queues.specs.Feeds.{to_unit, came_in}
use Rattle.rules.specs.Outputs.{outputs, output_at, output_number}
use Rattle.rules.specs.Valid.{Drives}
use Rattle.rules.proofs.OutNumbers.{drives_at, at_output}
use Rattle.bytes_steps.specs.Counts.{output_count}
use Rattle.next_queue.specs.Next.{no_queue, base_of, AtUnit}

module _ (h : Head) (routes : List (List ℕ)) (joints : List ℕ) (m : ℕ) (l : m < output_count h) (x : Packet) where
  abbrev net : Plan
  net = table_plan h routes joints

  below : m < outputs net
  unfolding table_plan
  below = l

  -- an output that leads to a unit, by its number
  numbered : (r : ℕ) → output_at net m ≡ to_unit r → (m ≡ destinations h + 6 * r + 4) × (r < h.routers)
  unfolding table_plan output_number
  numbered r u = (
    sym (at_output net m below) ∙ ap (output_number net) u,
    subst (Drives net) u (drives_at net m below),
  )

  pub of_interface : (q : ℕ) → m < destinations h → AtUnit net (output_at net m) x q
  of_interface q g r u = let n = numbered r u in absurd (omega arith)

  pub of_other : (q : ℕ) → destinations h ≤ m → ((m - destinations h) % 6 ≡ 4 → ⊥) → AtUnit net (output_at net m) x q
  of_other q g ne r u = let n = numbered r u in absurd (ne (omega arith))

  -- the side by which the walk comes in to the unit's router
  module _ {i : ℕ} (came : i ≡ came_in net x.active x.passive ((m - destinations h) / 6)) where
    side_is : (r : ℕ) → output_at net m ≡ to_unit r → (r < h.routers) × (i ≡ came_in net x.active x.passive r)
        × (base_of h ((m - destinations h) / 6) ≡ base_of h r)
    side_is r u =
        let n = numbered r u in
        let e : (m - destinations h) / 6 ≡ r = omega arith in
        (n.1, came ∙ ap (came_in net x.active x.passive) e, ap (base_of h) e)

    pub by_side : {q : ℕ} → i < 4 → q ≡ base_of h ((m - destinations h) / 6) + 4 + i → AtUnit net (output_at net m) x q
    unfolding table_plan number
    by_side g e r u =
        let s = side_is r u in
        rw (← s.1, lt-ltb r h.routers s.0, lt-ltb i 4 g) (e ∙ ap (λ (b : ℕ). b + 4 + i) s.2)

    pub by_none : {q : ℕ} → 4 ≤ i → q ≡ no_queue → AtUnit net (output_at net m) x q
    unfolding table_plan number
    by_none g e r u =
        let s = side_is r u in
        rw (← s.1, lt-ltb r h.routers s.0, le-ltb i 4 g) e
