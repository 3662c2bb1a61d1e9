-- The sender of a rank at an output, as the code numbers it.
use mathlib.Core.Path.{◌≡◌, refl}
use mathlib.Core.Logic.{◌⊎◌, inl, inr}
use mathlib.Core.Bool.{true, false}
use mathlib.Core.List.{List}
use mathlib.Core.Option.{none, some}
use Prim.Native.Nat.{ℕ, zero, suc, ◌+◌, ◌*◌, ◌-◌, ◌/◌, ◌%◌, ◌≤◌, ◌<◌}
use native.Mathlib.Omega.{arith}
use lib.Dec.{eqb, ltb}
use borrow.Author.Tests.{ltb-true, ltb-false, lt-ltb, le-ltb, ne_eqb}
use Rattle.basis.specs.Choice.{pick, test}
use Rattle.basis.specs.Bounded.{lt_or_ge}
use Rattle.plan.specs.declared.Head.{Head}
use Rattle.plan.specs.Head.{destinations}
use Rattle.plan.specs.Plan.{Plan}
use Rattle.plan.specs.Tables.{table_plan}
use Rattle.plan_queues.specs.Queue.{U, K, number, sender_at}
use Rattle.plan_queues.specs.Feeds.{of_side, to_unit, from_unit}
use Rattle.rules.specs.Outputs.{output_at, router_output, senders}
use Rattle.rules.specs.Write.{of_rank}
use Rattle.bytes_steps.specs.Counts.{output_count}
use Rattle.next_queue.specs.Next.{no_queue, base_of, number_or}
use Rattle.check_choices.specs.Picks.{sender_in, sender_of}

module _ (h : Head) (routes : List (List ℕ)) (joints : List ℕ) where
  abbrev net : Plan
  net = table_plan h routes joints

  -- a side's sender of rank k
  side_number : (r o k : ℕ) → r < h.routers → o < 4 → k < 5
      → base_of h r + 8 + 5 * o + k ≡ number_or net (some (sender_at r o k))
  unfolding table_plan number
  side_number r o zero hr ho hk = rw (lt-ltb r h.routers hr, lt-ltb o 4 ho)
  side_number r o (suc zero) hr ho hk = rw (lt-ltb r h.routers hr, lt-ltb o 4 ho)
  side_number r o (suc (suc k)) hr ho hk = by (lt_or_ge k o)
    where
      by : (k < o) ⊎ (o ≤ k)
          → base_of h r + 8 + 5 * o + suc (suc k) ≡ number_or net (some (K r (pick (ltb k o) k (suc k)) o))
      by (inl l) =
          let i : k < 4 = omega arith in
          let ne : k ≡ o → ⊥ = λ z. omega arith in
          rw (
            lt-ltb k o l,
            lt-ltb r h.routers hr,
            lt-ltb k 4 i,
            lt-ltb o 4 ho,
            ne_eqb k o ne,
            lt-ltb k o l,
          )
      by (inr g) =
          let i : suc k < 4 = omega arith in
          let j : o ≤ suc k = omega arith in
          let ne : suc k ≡ o → ⊥ = λ z. omega arith in
          rw (
            le-ltb k o g,
            lt-ltb r h.routers hr,
            lt-ltb (suc k) 4 i,
            lt-ltb o 4 ho,
            ne_eqb (suc k) o ne,
            le-ltb (suc k) o j,
          )

  side_rank_lem : (r o k : ℕ) → k < 5 → of_rank (senders (of_side r o)) k ≡ some (sender_at r o k)
  side_rank_lem r o zero l = refl
  side_rank_lem r o (suc zero) l = refl
  side_rank_lem r o (suc (suc zero)) l = refl
  side_rank_lem r o (suc (suc (suc zero))) l = refl
  side_rank_lem r o (suc (suc (suc (suc zero)))) l = refl
  side_rank_lem r o (suc (suc (suc (suc (suc k))))) l = absurd (omega arith)

  side_none : (r o k : ℕ) → 5 ≤ k → of_rank (senders (of_side r o)) k ≡ none
  side_none r o zero l = absurd (omega arith)
  side_none r o (suc zero) l = absurd (omega arith)
  side_none r o (suc (suc zero)) l = absurd (omega arith)
  side_none r o (suc (suc (suc zero))) l = absurd (omega arith)
  side_none r o (suc (suc (suc (suc zero)))) l = absurd (omega arith)
  side_none r o (suc (suc (suc (suc (suc k))))) l = refl

  unit_number : (r k : ℕ) → r < h.routers → k < 4 → base_of h r + k ≡ number_or net (some (U r k))
  unfolding table_plan number
  unit_number r k hr hk = rw (lt-ltb r h.routers hr, lt-ltb k 4 hk)

  unit_rank : (r k : ℕ) → k < 4 → of_rank (senders (to_unit r)) k ≡ some (U r k)
  unit_rank r zero l = refl
  unit_rank r (suc zero) l = refl
  unit_rank r (suc (suc zero)) l = refl
  unit_rank r (suc (suc (suc zero))) l = refl
  unit_rank r (suc (suc (suc (suc k)))) l = absurd (omega arith)

  unit_none : (r k : ℕ) → 4 ≤ k → of_rank (senders (to_unit r)) k ≡ none
  unit_none r zero l = absurd (omega arith)
  unit_none r (suc zero) l = absurd (omega arith)
  unit_none r (suc (suc zero)) l = absurd (omega arith)
  unit_none r (suc (suc (suc zero))) l = absurd (omega arith)
  unit_none r (suc (suc (suc (suc k)))) l = refl

  queue_number : (r k : ℕ) → r < h.routers
      → pick (ltb k 4) (base_of h r + 4 + k) no_queue ≡ number_or net (of_rank (senders (from_unit r)) k)
  unfolding table_plan number
  queue_number r zero hr = rw (lt-ltb r h.routers hr)
  queue_number r (suc zero) hr = rw (lt-ltb r h.routers hr)
  queue_number r (suc (suc zero)) hr = rw (lt-ltb r h.routers hr)
  queue_number r (suc (suc (suc zero))) hr = rw (lt-ltb r h.routers hr)
  queue_number r (suc (suc (suc (suc k)))) hr = rw (le-ltb (suc (suc (suc (suc k)))) 4 (omega arith))

  router_number : (r o k : ℕ) → r < h.routers → o < 6
      → sender_in h r o k ≡ number_or net (of_rank (senders (router_output r o)) k)
  unfolding sender_in
  router_number r o k hr ho = by (test (ltb o 4)) (test (eqb o 4)) (test (ltb k 4)) (test (ltb k 5))
    where
      by : (ltb o 4 ≡ true) ⊎ (ltb o 4 ≡ false) → (eqb o 4 ≡ true) ⊎ (eqb o 4 ≡ false)
          → (ltb k 4 ≡ true) ⊎ (ltb k 4 ≡ false) → (ltb k 5 ≡ true) ⊎ (ltb k 5 ≡ false)
          → sender_in h r o k ≡ number_or net (of_rank (senders (router_output r o)) k)
      by (inl x) y v (inl z) =
          rw (x, z, side_rank_lem r o k (ltb-true k 5 z)) (side_number r o k hr (ltb-true o 4 x) (ltb-true k 5 z))
      by (inl x) y v (inr z) = rw (x, z, side_none r o k (ltb-false k 5 z))
      by (inr x) (inl y) (inl z) v =
          rw (x, y, z, unit_rank r k (ltb-true k 4 z)) (unit_number r k hr (ltb-true k 4 z))
      by (inr x) (inl y) (inr z) v = rw (x, y, z, unit_none r k (ltb-false k 4 z))
      by (inr x) (inr y) z v = rw (x, y) (queue_number r k hr)

  -- what the code computes is the number of the sender of that rank
  pub sender_number : (m k : ℕ) → m < output_count h
      → sender_of h m k ≡ number_or net (of_rank (senders (output_at net m)) k)
  unfolding sender_of output_at table_plan number
  sender_number m k l = by k (lt_or_ge m h.actives) (lt_or_ge m (destinations h))
    where
      by : (k : ℕ) → (m < h.actives) ⊎ (h.actives ≤ m) → (m < destinations h) ⊎ (destinations h ≤ m)
          → sender_of h m k ≡ number_or net (of_rank (senders (output_at net m)) k)
      by zero (inl a) d =
          let i : m < destinations h = omega arith in
          rw (lt-ltb m (destinations h) i, lt-ltb m h.actives a, lt-ltb m h.actives a)
      by (suc k) (inl a) d =
          let i : m < destinations h = omega arith in
          rw (lt-ltb m (destinations h) i, lt-ltb m h.actives a, ne_eqb (suc k) 0 (λ z. omega arith))
      by zero (inr a) (inl d) =
          let i : m - h.actives < h.passives = omega arith in
          rw (lt-ltb m (destinations h) d, le-ltb m h.actives a, lt-ltb (m - h.actives) h.passives i)
          (omega arith)
      by (suc k) (inr a) (inl d) =
          rw (lt-ltb m (destinations h) d, le-ltb m h.actives a, ne_eqb (suc k) 0 (λ z. omega arith))
      by k (inr a) (inr d) =
          rw (le-ltb m (destinations h) d, le-ltb m h.actives a)
          (router_number ((m - destinations h) / 6) ((m - destinations h) % 6) k (omega arith) (omega arith))
