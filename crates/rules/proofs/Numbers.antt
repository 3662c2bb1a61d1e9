-- Every number below the count of queues names a queue of the plan, which has that number; so do the senders of an
-- output. And their ranks are below their count.
use mathlib.Core.Path.{◌≡◌, refl, sym, subst}
use mathlib.Core.Logic.{◌⊎◌, inl, inr}
use mathlib.Core.Bool.{Bool, true, false}
use mathlib.Core.List.{List, [], ◌∷◌}
use mathlib.Core.Option.{some}
use Prim.Native.Nat.{ℕ, zero, suc, ◌+◌, ◌-◌, ◌/◌, ◌%◌, ◌≤◌, ◌<◌}
use native.Mathlib.Omega.{arith}
use lib.Dec.{ltb}
use lib.ListN.{length}
use borrow.Author.Tests.{ltb-true, ltb-false, lt-ltb, le-ltb}
use Rattle.basis.specs.Choice.{pick}
use Rattle.basis.specs.Bounded.{lt_or_ge}
use Rattle.plan.specs.Plan.{Plan, R, A}
use Rattle.plan_queues.specs.Queue.{Queue, K, Exists, outs, router_base, in_base, sender, number, queues, sender_at}
use Rattle.plan_queues.specs.Queue.{in_router}
use Rattle.plan_queues.specs.Queue.{queue_at}
use Rattle.plan_queues.specs.Feeds.{Output, of_active, of_passive, of_side, to_unit, from_unit}
use Rattle.plan_journeys.proofs.Places.{some_same, some_not_none}
use Rattle.rules.specs.Outputs.{senders}
use Rattle.rules.specs.Write.{of_rank}
use Rattle.rules.specs.Valid.{Drives}

-- what holds of both values of a choice, each where the test gives it
pub picked : {X : Type 0} (T : X → Type 0) (t : Bool) (a b : X) → (t ≡ true → T a) → (t ≡ false → T b) → T (pick t a b)
picked T true a b f g = f refl
picked T false a b f g = g refl

-- the rank of a sender is below their count
pub rank_below : (qs : List Queue) (k : ℕ) (q : Queue) → of_rank qs k ≡ some q → k < length qs
rank_below [] k q e = absurd (some_not_none e)
rank_below (p ∷ qs) zero q e = omega arith
rank_below (p ∷ qs) (suc k) q e = let l = rank_below qs k q e in omega arith

module _ (pl : Plan) where
  abbrev IsQueue : ℕ → Queue → Type 0
  IsQueue n q = Exists pl q × (number pl q ≡ n)

  sender_named : (r o j n : ℕ) → r < R pl → o < 4 → j < 5 → n ≡ sender pl r o j → IsQueue n (sender_at r o j)
  unfolding number
  sender_named r o zero n hr ho hj e = ((hr, ho), sym e)
  sender_named r o (suc zero) n hr ho hj e = ((hr, ho), sym e)
  sender_named r o (suc (suc k)) n hr ho hj e = by (lt_or_ge k o)
    where
      by : (k < o) ⊎ (o ≤ k) → IsQueue n (K r (pick (ltb k o) k (suc k)) o)
      by (inl l) = rw (lt-ltb k o l, lt-ltb k o l) ((hr, omega arith, ho, λ z. omega arith), sym e)
      by (inr g) =
          let h : o ≤ suc k = omega arith in
          rw (le-ltb k o g, le-ltb (suc k) o h) ((hr, omega arith, ho, λ z. omega arith), sym e)

  router_named : (r k n : ℕ) → r < R pl → k < 28 → n ≡ router_base pl r + k → IsQueue n (in_router r k)
  unfolding number
  router_named r k n hr hk e =
      picked (IsQueue n) (ltb k 4) _ _ (λ t. ((hr, ltb-true k 4 t), sym e))
      (λ t. let g = ltb-false k 4 t in
      picked (IsQueue n) (ltb k 8) _ _ (λ u. let z = ltb-true k 8 u in ((hr, omega arith), omega arith))
      (λ u. let z = ltb-false k 8 u in
      sender_named r ((k - 8) / 5) ((k - 8) % 5) n hr (omega arith) (omega arith) (omega arith)))

  queue_named : (n : ℕ) → n < queues pl → IsQueue n (queue_at pl n)
  unfolding queue_at queues number
  queue_named n h =
      picked (IsQueue n) (ltb n (A pl)) _ _ (λ t. (ltb-true n (A pl) t, refl))
      (λ t. let a = ltb-false n (A pl) t in
      picked (IsQueue n) (ltb n (outs pl)) _ _ (λ u. let b = ltb-true n (outs pl) u in (omega arith, omega arith))
      (λ u. let b = ltb-false n (outs pl) u in
      picked (IsQueue n) (ltb n (in_base pl)) _ _
      (λ v. let c = ltb-true n (in_base pl) v in
      router_named ((n - outs pl) / 28) ((n - outs pl) % 28) n (omega arith) (omega arith) (omega arith))
      (λ v. let c = ltb-false n (in_base pl) v in
      picked (IsQueue n) (ltb n (in_base pl + A pl)) _ _ (λ w. let d = ltb-true n (in_base pl + A pl) w in
      (omega arith, omega arith))
      (λ w. let d = ltb-false n (in_base pl + A pl) w in (omega arith, omega arith)))))

  -- the queue of a number is one of the plan's
  pub exists_at : (n : ℕ) → n < queues pl → Exists pl (queue_at pl n)
  exists_at n h = (queue_named n h).0

  -- and has that number
  pub at_number : (n : ℕ) → n < queues pl → number pl (queue_at pl n) ≡ n
  at_number n h = (queue_named n h).1

  side_exists : (r o k : ℕ) → r < R pl → o < 4 → k < 5 → Exists pl (sender_at r o k)
  side_exists r o k h ho hk = (sender_named r o k (sender pl r o k) h ho hk refl).0

  -- the sender of a rank at an output of the plan is a queue of the plan
  pub sender_exists : (o : Output) (k : ℕ) (q : Queue) → Drives pl o → of_rank (senders o) k ≡ some q → Exists pl q
  sender_exists (of_active a) zero q d e = subst (Exists pl) (some_same e) d
  sender_exists (of_active a) (suc k) q d e = absurd (some_not_none e)
  sender_exists (of_passive p) zero q d e = subst (Exists pl) (some_same e) d
  sender_exists (of_passive p) (suc k) q d e = absurd (some_not_none e)
  sender_exists (of_side r o) zero q (h, l) e = subst (Exists pl) (some_same e) (side_exists r o 0 h l (omega arith))
  sender_exists (of_side r o) (suc zero) q (h, l) e =
      subst (Exists pl) (some_same e) (side_exists r o 1 h l (omega arith))
  sender_exists (of_side r o) (suc (suc zero)) q (h, l) e =
      subst (Exists pl) (some_same e) (side_exists r o 2 h l (omega arith))
  sender_exists (of_side r o) (suc (suc (suc zero))) q (h, l) e =
      subst (Exists pl) (some_same e) (side_exists r o 3 h l (omega arith))
  sender_exists (of_side r o) (suc (suc (suc (suc zero)))) q (h, l) e =
      subst (Exists pl) (some_same e) (side_exists r o 4 h l (omega arith))
  sender_exists (of_side r o) (suc (suc (suc (suc (suc k))))) q d e = absurd (some_not_none e)
  sender_exists (to_unit r) zero q d e = subst (Exists pl) (some_same e) (d, omega arith)
  sender_exists (to_unit r) (suc zero) q d e = subst (Exists pl) (some_same e) (d, omega arith)
  sender_exists (to_unit r) (suc (suc zero)) q d e = subst (Exists pl) (some_same e) (d, omega arith)
  sender_exists (to_unit r) (suc (suc (suc zero))) q d e = subst (Exists pl) (some_same e) (d, omega arith)
  sender_exists (to_unit r) (suc (suc (suc (suc k)))) q d e = absurd (some_not_none e)
  sender_exists (from_unit r) zero q d e = subst (Exists pl) (some_same e) (d, omega arith)
  sender_exists (from_unit r) (suc zero) q d e = subst (Exists pl) (some_same e) (d, omega arith)
  sender_exists (from_unit r) (suc (suc zero)) q d e = subst (Exists pl) (some_same e) (d, omega arith)
  sender_exists (from_unit r) (suc (suc (suc zero))) q d e = subst (Exists pl) (some_same e) (d, omega arith)
  sender_exists (from_unit r) (suc (suc (suc (suc k)))) q d e = absurd (some_not_none e)
