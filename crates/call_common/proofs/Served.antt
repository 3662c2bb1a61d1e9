-- The length of a pair's walk is 0 exactly where the pair is not served: a walk that arrives has a router. Where it is
-- not, it is the number of routers on the walk.
use mathlib.Core.Path.{◌≡◌, ◌∙◌}
use mathlib.Core.Logic.{◌⊎◌, inl, inr}
use mathlib.Core.Bool.{true, false}
use mathlib.Core.List.{List, []}
use Prim.Native.Nat.{ℕ, zero, suc, ◌≤◌, ◌<◌}
use native.Mathlib.Omega.{arith}
use lib.ListN.{get_or}
use Rattle.basis.specs.Choice.{test}
use Rattle.basis.specs.Walk.{Spot, on, spot, is_on, on_count}
use Rattle.plan.specs.Head.{InRange}
use Rattle.plan.specs.Plan.{Plan, A, P, R, active, passive}
use Rattle.plan.specs.Rules.{home}
use Rattle.plan_walks.specs.Walk.{onward, walk_size}
use Rattle.plan_walks.specs.Served.{served}
use Rattle.plan_queues.specs.Feeds.{span}
use Rattle.load_arrivals.specs.Pairs.{pair_walk, lengths_of}
use Rattle.load.specs.Lent.{length_at_lem}

-- the first router counts
counts : {X : Type 0} (step : X → Spot X) (x : X) (n : ℕ) → 1 ≤ on_count step (suc n) (on x)
unfolding on_count spot
counts step x zero = omega arith
counts step x (suc n) = by (counts step x n) (test (is_on (spot step (suc n) (on x))))
  where
    by : 1 ≤ on_count step (suc n) (on x) → (is_on (spot step (suc n) (on x)) ≡ true)
        ⊎ (is_on (spot step (suc n) (on x)) ≡ false) → 1 ≤ on_count step (suc (suc n)) (on x)
    by l (inl e) = rw (e, on_count) (omega arith)
    by l (inr e) = rw (e, on_count) l

counts_some : {X : Type 0} (step : X → Spot X) (x : X) (n : ℕ) → 1 ≤ n → 1 ≤ on_count step n (on x)
counts_some step x zero l = absurd (omega arith)
counts_some step x (suc n) l = counts step x n

module _ (pl : Plan) (range : InRange pl.head) (a p : ℕ) where
  size_some : 1 ≤ walk_size pl (passive p) (home pl (active a))
  unfolding walk_size
  size_some = counts_some (onward pl (passive p)) (home pl (active a)) (R pl) range.routers.0

  module _ (lengths : List (List ℕ)) (of : lengths ≡ lengths_of pl) (la : a < A pl) (lp : p < P pl) where
    walk_is : get_or (get_or lengths a []) p 0 ≡ pair_walk pl a p
    walk_is = rw of (length_at_lem pl a p range.actives.1 range.passives.1 la lp)

    pub not_served : get_or (get_or lengths a []) p 0 ≡ 0 → served pl a p ≡ false
    unfolding pair_walk
    not_served z = by (test (served pl a p))
      where
        by : (served pl a p ≡ true) ⊎ (served pl a p ≡ false) → served pl a p ≡ false
        by (inl e) =
            let w : get_or (get_or lengths a []) p 0 ≡ walk_size pl (passive p) (home pl (active a)) = rw e at walk_is
            in
            let l = size_some in
            absurd (omega arith)
        by (inr e) = e

    pub is_served : (get_or (get_or lengths a []) p 0 ≡ 0 → ⊥) → served pl a p ≡ true
    unfolding pair_walk
    is_served n = by (test (served pl a p))
      where
        by : (served pl a p ≡ true) ⊎ (served pl a p ≡ false) → served pl a p ≡ true
        by (inl e) = e
        by (inr e) = absurd (n (rw e at walk_is))

    pub walk_span : (get_or (get_or lengths a []) p 0 ≡ 0 → ⊥) → get_or (get_or lengths a []) p 0 ≡ span pl a p
    unfolding pair_walk
    walk_span n = walk_is ∙ rw (is_served n)
