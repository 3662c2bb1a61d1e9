-- The side by which a pair's walk comes in to a router on it is the one that `came_in` finds: the walk meets the router
-- once.
use Rattle.std.proofs.Math.Option.{some, none}
use mathlib.Core.Path.{◌≡◌, refl, sym, ap, ◌∙◌}
use mathlib.Core.Bool.{true, false}
use Prim.Native.Nat.{ℕ, zero, suc, ◌+◌, ◌-◌, ◌<◌}
use native.Mathlib.Omega.{arith}
use borrow.Author.Tests.{eq-eqb, ne_eqb}
use Rattle.basis.specs.Walk.{Spot, on, end, lost, way_on}
use Rattle.plan.specs.Plan.{Plan, Port, Interface, active, passive, R, A}
use Rattle.plan.specs.Rules.{home}
use Rattle.plan_walks.specs.Walk.{onward, router_of, walked}
use Rattle.plan_walks.specs.Served.{Served}
use Rattle.plan_walks.specs.Steps.{stands_on, index_in, index_on}
use Rattle.plan_walks.proofs.Ends.{index_none, index_off, index_at, index_stays}
use Rattle.plan_queues.specs.Feeds.{Stands, came_by, came_in}
use Rattle.plan_facts.specs.Wired.{Wired}
use Rattle.plan_facts.proofs.Wires.{home_inside}
use Rattle.plan_journeys.proofs.Walks.{walk_short}

-- ---- the first router of a walk that is r
module _ (pl : Plan) (e : Interface) (x : Port) (r : ℕ) where
  -- where the first n routers are others, none is found among them
  index_others : (n : ℕ) → ((k : ℕ) → k < n → stands_on r (walked pl e k x) ≡ false) → index_in pl e x r n ≡ none
  index_others zero f = index_none pl e x r
  index_others (suc n) f = index_off pl e x r n (index_others n (λ k h. f k (omega arith))) (f n (omega arith))

  -- the walk stands on r after n routers, and on others before: n is found among any number of routers behind it
  pub index_found : (n m : ℕ) → n < m → stands_on r (walked pl e n x) ≡ true
      → ((k : ℕ) → k < n → stands_on r (walked pl e k x) ≡ false) → index_in pl e x r m ≡ some n
  index_found n m h f g =
      let at : m - suc n + suc n ≡ m = omega arith in
      ap (index_in pl e x r) (sym at)
      ∙ index_stays pl e x r (m - suc n) (suc n) n (index_at pl e x r n (index_others n g) f)

module _ {pl : Plan} (wired : Wired pl) (a p : ℕ) (ha : a < A pl) (s : Served pl a p) where
  -- the walk meets a router once
  pub stands_once : (n m : ℕ) (x y : Port) → walked pl (passive p) n (home pl (active a)) ≡ on x
      → walked pl (passive p) m (home pl (active a)) ≡ on y → x.router ≡ y.router → n ≡ m
  stands_once n m x y f g same =
      let b = way_on (onward pl (passive p)) router_of s.ahead n x f in
      let c = way_on (onward pl (passive p)) router_of s.ahead m y g in
      s.ahead.once n m b.0 c.0 (ap router_of b.1 ∙ same ∙ sym (ap router_of c.1))

  -- before it the walk stands on other routers
  others : (n r i : ℕ) → Stands pl a p n r i → (k : ℕ) → k < n → (z : Spot Port)
      → walked pl (passive p) k (home pl (active a)) ≡ z → stands_on r z ≡ false
  others n r i f k h (on y) q =
      ne_eqb y.router r (λ same. let one : k ≡ n = stands_once k n y (record { router = r; side = i }) q f same in
      omega arith)
  others n r i f k h end q = refl
  others n r i f k h lost q = refl

  pub came_in_lem : (n r i : ℕ) → Stands pl a p n r i → came_in pl a p r ≡ i
  unfolding came_in index_on
  came_in_lem n r i f = ap (came_by pl a p) found ∙ rw f
    where
      short : n < R pl
      short =
          let b = way_on (onward pl (passive p)) router_of s.ahead n (record { router = r; side = i }) f in
          let c = walk_short wired (passive p) (home pl (active a)) (home_inside (active a) wired ha).0 s.ahead in
          omega (arith, b.0, c)

      found : index_in pl (passive p) (home pl (active a)) r (R pl) ≡ some n
      found =
          index_found pl (passive p) (home pl (active a)) r n (R pl) short (rw f (eq-eqb r r refl))
          (λ k h. others n r i f k h (walked pl (passive p) k (home pl (active a))) refl)
