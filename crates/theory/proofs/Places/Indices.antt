-- The index of a router on a walk: what the search finds is where the walk stands, and it finds every router of a
-- served pair's walk.
use Rattle.std.proofs.Math.Option.{Option, some, none}
use mathlib.Core.Path.{◌≡◌, refl, sym, ap, ◌∙◌}
use mathlib.Core.Logic.{◌⊎◌, inl, inr}
use mathlib.Core.Bool.{true, false, true≢false, false≢true}
use Prim.Native.Nat.{ℕ, zero, suc, ◌<◌}
use native.Mathlib.Nat.{not-suc-le-zero}
use native.Mathlib.Omega.{arith}
use borrow.Author.Tests.{eqb-true, eq-eqb}
use Rattle.basis.specs.Choice.{test}
use Rattle.basis.specs.Bounded.{below_suc}
use Rattle.basis.specs.Walk.{Spot, on, end, lost}
use Rattle.plan.specs.Plan.{Plan, Port, Interface, active, passive, R, A, P}
use Rattle.plan.specs.Rules.{home}
use Rattle.plan_walks.specs.Walk.{walked}
use Rattle.plan_walks.specs.Served.{Served}
use Rattle.plan_walks.specs.Steps.{stands_on, index_in, index_on}
use Rattle.plan_queues.specs.Feeds.{Stands}
use Rattle.plan_facts.specs.Wired.{Wired}
use Rattle.theory.proofs.Places.Closure.{stands_below, span_short}
use Rattle.theory.proofs.Places.CameIn.{stands_once}

at_off : {k : ℕ} → none ≡ some k → ⊥
at_off e = let z : ◌≡◌ {A = ℕ} 0 1 = cc in omega arith

at_same : {k m : ℕ} → some k ≡ some m → k ≡ m
at_same e = cc

-- A walk that stands on r is there, by some side.
pub stood : (r : ℕ) (z : Spot Port) → stands_on r z ≡ true → (i : ℕ) × (z ≡ on (record { router = r; side = i }))
stood r (on x) e = (x.side, ap (λ (n : ℕ). on (record { router = n; side = x.side })) (eqb-true x.router r e))
stood r end e = absurd (false≢true e)
stood r lost e = absurd (false≢true e)

module _ (pl : Plan) (e : Interface) (x : Port) (r : ℕ) where
  -- what is found among the first n routers is r
  found_on : (n k : ℕ) → index_in pl e x r n ≡ some k → stands_on r (walked pl e k x) ≡ true
  unfolding index_in
  found_on zero k q = absurd (at_off q)
  found_on (suc n) k q = by (index_in pl e x r n) refl q (test (stands_on r (walked pl e n x))) (λ c. found_on n k c)
    where
      by : (i : Option ℕ) → index_in pl e x r n ≡ i → index_in pl e x r (suc n) ≡ some k
          → (stands_on r (walked pl e n x) ≡ true) ⊎ (stands_on r (walked pl e n x) ≡ false)
          → (index_in pl e x r n ≡ some k → stands_on r (walked pl e k x) ≡ true) → stands_on r (walked pl e k x) ≡ true
      by (some m) f c t rec = rec (f ∙ (rw f at c))
      by none f c (inl t) rec = let s : n ≡ k = at_same (rw (f, t) at c) in rw (← s) t
      by none f c (inr t) rec = absurd (at_off (rw (f, t) at c))

  -- where none is found, none of them is r
  found_not : (n : ℕ) → index_in pl e x r n ≡ none → (k : ℕ) → k < n → stands_on r (walked pl e k x) ≡ false
  unfolding index_in
  found_not zero q k h = absurd (not-suc-le-zero h)
  found_not (suc n) q k h =
      by (index_in pl e x r n) refl q (test (stands_on r (walked pl e n x))) (below_suc h) (λ c l. found_not n c k l)
    where
      by : (i : Option ℕ) → index_in pl e x r n ≡ i → index_in pl e x r (suc n) ≡ none
          → (stands_on r (walked pl e n x) ≡ true) ⊎ (stands_on r (walked pl e n x) ≡ false) → (k < n) ⊎ (k ≡ n)
          → (index_in pl e x r n ≡ none → k < n → stands_on r (walked pl e k x) ≡ false)
          → stands_on r (walked pl e k x) ≡ false
      by (some m) f c t l rec = absurd (at_off (sym (rw f at c)))
      by none f c (inl t) l rec = absurd (at_off (sym (rw (f, t) at c)))
      by none f c (inr t) (inl l) rec = rec f l
      by none f c (inr t) (inr s) rec = rw s t

-- The index that is found is that of a place where the walk stands on the router.
pub index_stands : (pl : Plan) (a p r k : ℕ) → index_on pl (passive p) (home pl (active a)) r ≡ some k
    → (i : ℕ) × Stands pl a p k r i
unfolding index_on
index_stands pl a p r k q =
    stood r (walked pl (passive p) k (home pl (active a))) (found_on pl (passive p) (home pl (active a)) r (R pl) k q)

module _ {pl : Plan} (wired : Wired pl) (a p : ℕ) (ha : a < A pl) (hp : p < P pl) (s : Served pl a p) where
  -- A router on a served pair's walk has the index where the walk stands on it.
  pub index_is : (n r i : ℕ) → Stands pl a p n r i → index_on pl (passive p) (home pl (active a)) r ≡ some n
  unfolding index_on
  index_is n r i f = by (index_on pl (passive p) (home pl (active a)) r) refl
    where
      short : n < R pl
      short =
          let b = stands_below wired a p ha hp s n (record { router = r; side = i }) f in
          let c = span_short wired a p ha hp s in
          omega arith

      here : stands_on r (walked pl (passive p) n (home pl (active a))) ≡ true
      here = rw f (eq-eqb r r refl)

      by : (x : Option ℕ) → index_on pl (passive p) (home pl (active a)) r ≡ x
          → index_on pl (passive p) (home pl (active a)) r ≡ some n
      by (some k) q =
          let g = index_stands pl a p r k q in
          q ∙ ap some (stands_once wired a p ha hp s k n (record { router = r; side = g.0 })
          (record { router = r; side = i }) g.1 f refl)
      by none q = absurd (true≢false (sym here ∙ found_not pl (passive p) (home pl (active a)) r (R pl) q n short))
