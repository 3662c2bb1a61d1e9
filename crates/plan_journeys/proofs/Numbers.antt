-- Each queue of a plan is the queue of its number, so different names have different numbers.
use mathlib.Core.Path.{◌≡◌, sym, ap, ◌∙◌}
use mathlib.Core.Logic.{◌⊎◌, inl, inr, ◌≢◌}
use Prim.Native.Nat.{ℕ, zero, suc, ◌+◌, ◌-◌, ◌*◌, ◌/◌, ◌%◌, ◌≤◌, ◌<◌}
use native.Mathlib.Omega.{arith}
use borrow.Author.Tests.{lt-ltb, le-ltb}
use Rattle.basis.specs.Bounded.{lt_or_ge}
use Rattle.plan.specs.Plan.{Plan, R, A}
use Rattle.plan_queues.specs.Queue.{Queue, active_out, active_in, passive_in, passive_out, U, Q, F, K, Exists, ahead}
use Rattle.plan_queues.specs.Queue.{back}
use Rattle.plan_queues.specs.Queue.{rank}
use Rattle.plan_queues.specs.Queue.{outs, router_base, in_base, number, queues, sender_at, in_router, queue_at}

module _ (pl : Plan) where
  -- the k-th queue of router r
  router_queue : (r k : ℕ) → r < R pl → k < 28 → queue_at pl (router_base pl r + k) ≡ in_router r k
  unfolding queue_at
  router_queue r k h l =
      let n : ℕ = router_base pl r + k in
      let d : (router_base pl r + k - outs pl) / 28 ≡ r = omega arith in
      let m : (router_base pl r + k - outs pl) % 28 ≡ k = omega arith in
      rw (
        le-ltb (router_base pl r + k) (A pl) (omega arith),
        le-ltb (router_base pl r + k) (outs pl) (omega arith),
        lt-ltb (router_base pl r + k) (in_base pl) (omega arith),
        queue_at,
        d,
        m,
      )

  -- the sender of rank j at side o
  sender_queue : (r o j : ℕ) → r < R pl → o < 4 → j < 5 → queue_at pl (router_base pl r + 8 + 5 * o + j) ≡ sender_at r o
      j
  sender_queue r o j h ho hj =
      let at : router_base pl r + 8 + 5 * o + j ≡ router_base pl r + (8 + 5 * o + j) = omega arith in
      let d : (8 + 5 * o + j - 8) / 5 ≡ o = omega arith in
      let m : (8 + 5 * o + j - 8) % 5 ≡ j = omega arith in
      ap (queue_at pl) at ∙ router_queue r (8 + 5 * o + j) h (omega arith)
      ∙ rw (le-ltb (8 + 5 * o + j) 4 (omega arith), le-ltb (8 + 5 * o + j) 8 (omega arith), d, m)

  crossing : (r i o : ℕ) → i ≢ o → sender_at r o (rank i o) ≡ K r i o
  crossing r i o ne = by (lt_or_ge i o)
    where
      by : (i < o) ⊎ (o ≤ i) → sender_at r o (rank i o) ≡ K r i o
      by (inl l) = let e : rank i o ≡ suc (suc i) = rw (lt-ltb i o l) in ap (sender_at r o) e ∙ rw (lt-ltb i o l)
      by (inr g) = past i g ne
        where
          past : (i : ℕ) → o ≤ i → i ≢ o → sender_at r o (rank i o) ≡ K r i o
          past zero g ne = absurd (ne (omega arith))
          past (suc j) g ne =
              let e : rank (suc j) o ≡ suc (suc j) = rw (le-ltb (suc j) o g) in
              let before : o ≤ j = omega arith in
              ap (sender_at r o) e ∙ rw (le-ltb j o before)

  rank_small : (i o : ℕ) → i < 4 → o < 4 → i ≢ o → rank i o < 5
  rank_small i o hi ho ne = by (lt_or_ge i o)
    where
      by : (i < o) ⊎ (o ≤ i) → rank i o < 5
      by (inl l) = rw (lt-ltb i o l) (omega arith)
      by (inr g) = rw (le-ltb i o g) (omega arith)

  -- the queue of a queue's number is that queue
  pub queue_at_lem : (q : Queue) → Exists pl q → queue_at pl (number pl q) ≡ q
  unfolding number queue_at
  queue_at_lem (active_out a) h = rw (lt-ltb a (A pl) h, queue_at)
  queue_at_lem (passive_out p) h =
      rw (le-ltb (A pl + p) (A pl) (omega arith), lt-ltb (A pl + p) (outs pl) (omega arith), queue_at)
      (ap passive_out (omega arith))
  queue_at_lem (U r i) (h, l) = router_queue r i h (omega arith) ∙ rw (lt-ltb i 4 l)
  queue_at_lem (Q r i) (h, l) =
      let at : router_base pl r + 4 + i ≡ router_base pl r + (4 + i) = omega arith in
      let m : 4 + i - 4 ≡ i = omega arith in
      ap (queue_at pl) at ∙ router_queue r (4 + i) h (omega arith)
      ∙ rw (le-ltb (4 + i) 4 (omega arith), lt-ltb (4 + i) 8 (omega arith), m)
  queue_at_lem (F ahead r o) (h, l) = sender_queue r o 0 h l (omega arith)
  queue_at_lem (F back r o) (h, l) = sender_queue r o 1 h l (omega arith)
  queue_at_lem (K r i o) (h, hi, ho, ne) = sender_queue r o (rank i o) h ho (rank_small i o hi ho ne) ∙ crossing r i o
      ne
  queue_at_lem (active_in a) h =
      rw (
        le-ltb (in_base pl + a) (A pl) (omega arith),
        le-ltb (in_base pl + a) (outs pl) (omega arith),
        le-ltb (in_base pl + a) (in_base pl) (omega arith),
        lt-ltb (in_base pl + a) (in_base pl + A pl) (omega arith),
        queue_at,
      )
      (ap active_in (omega arith))
  queue_at_lem (passive_in p) h =
      rw (
        le-ltb (in_base pl + A pl + p) (A pl) (omega arith),
        le-ltb (in_base pl + A pl + p) (outs pl) (omega arith),
        le-ltb (in_base pl + A pl + p) (in_base pl) (omega arith),
        le-ltb (in_base pl + A pl + p) (in_base pl + A pl) (omega arith),
        queue_at,
      )
      (ap passive_in (omega arith))

  -- different names have different numbers
  pub number_same : (x y : Queue) → Exists pl x → Exists pl y → number pl x ≡ number pl y → x ≡ y
  number_same x y hx hy e = sym (queue_at_lem x hx) ∙ ap (queue_at pl) e ∙ queue_at_lem y hy

  -- every number is below the count of queues
  pub number_below : (q : Queue) → Exists pl q → number pl q < queues pl
  unfolding number queues
  number_below (active_out a) h = omega arith
  number_below (passive_out p) h = omega arith
  number_below (U r i) (h, l) = omega arith
  number_below (Q r i) (h, l) = omega arith
  number_below (F ahead r o) (h, l) = omega arith
  number_below (F back r o) (h, l) = omega arith
  number_below (K r i o) (h, hi, ho, ne) = let k = rank_small i o hi ho ne in omega arith
  number_below (active_in a) h = omega arith
  number_below (passive_in p) h = omega arith
