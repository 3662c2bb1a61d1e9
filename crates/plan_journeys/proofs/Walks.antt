-- Walks of a plan whose joints match: the test finds exactly the walks that arrive; a served pair's walks; the side in
-- is never the side out.
use mathlib.Core.Path.{◌≡◌, refl, sym, ap, ◌∙◌}
use mathlib.Core.Logic.{◌⊎◌, inl, inr}
use mathlib.Core.Bool.{true, false, false≢true}
use Prim.Native.Nat.{ℕ, zero, suc, ◌-◌, ◌≤◌, ◌<◌}
use native.Mathlib.Omega.{arith}
use borrow.Author.Tests.{eqb-true, eq-eqb}
use Rattle.basis.specs.Choice.{pick, test, also_true, also_of}
use Rattle.basis.specs.Bounded.{all_at, all_of}
use Rattle.basis.specs.Walk.{Spot, on, end, lost, end_of, on_end, way_at}
use Rattle.basis.specs.Walk.{way_on, way_short, end_of_way, way_of_end, count_is}
use Rattle.plan.specs.declared.Joint.{Joint}
use Rattle.plan.specs.declared.Joint.TheVariants.{Nothing, Router, Active, Passive}
use Rattle.plan.specs.Plan.{Plan, Port, Interface, active, passive, R, A, joint_of, route_to}
use Rattle.plan.specs.Rules.{leads_to, home}
use Rattle.plan_walks.specs.Walk.{into, through, onward, router_of, Walk, walked, arrives, walk_size}
use Rattle.plan_walks.specs.Served.{Served, served, served_from, back_arrives, backs_arrive}
use Rattle.plan_facts.specs.Wired.{Wired}
use Rattle.plan_facts.proofs.Wires.{near, home_inside}

-- ---- one step of a walk
leads_joint : (e : Interface) (j : Joint) → leads_to e j ≡ true → j ≡ joint_of e
leads_joint (active a) Nothing t = absurd (false≢true t)
leads_joint (passive p) Nothing t = absurd (false≢true t)
leads_joint (active a) (Router n s) t = absurd (false≢true t)
leads_joint (passive p) (Router n s) t = absurd (false≢true t)
leads_joint (active a) (Active n) t = ap Active (eqb-true n a t)
leads_joint (passive p) (Active n) t = absurd (false≢true t)
leads_joint (active a) (Passive n) t = absurd (false≢true t)
leads_joint (passive p) (Passive n) t = ap Passive (eqb-true n p t)

pub joint_leads : (e : Interface) → leads_to e (joint_of e) ≡ true
joint_leads (active a) = eq-eqb a a refl
joint_leads (passive p) = eq-eqb p p refl

into_on : (j : Joint) (y : Port) → into j ≡ on y → j ≡ Router y.router y.side
into_on Nothing y q = cc
into_on (Router n t) y q =
    let p : record { router = n; side = t } ≡ y = cc in
    ap (λ (u : Port). Router u.router u.side) p
into_on (Active n) y q = cc
into_on (Passive n) y q = cc

into_end : (j : Joint) → into j ≡ end → ⊥
into_end Nothing q = let z : ◌≡◌ {A = ℕ} 0 1 = cc in omega arith
into_end (Router n t) q = let z : ◌≡◌ {A = ℕ} 0 1 = cc in omega arith
into_end (Active n) q = let z : ◌≡◌ {A = ℕ} 0 1 = cc in omega arith
into_end (Passive n) q = let z : ◌≡◌ {A = ℕ} 0 1 = cc in omega arith

through_on : (e : Interface) (j : Joint) (y : Port) → through e j ≡ on y → j ≡ Router y.router y.side
through_on e j y q = by (test (leads_to e j))
  where
    by : (leads_to e j ≡ true) ⊎ (leads_to e j ≡ false) → j ≡ Router y.router y.side
    by (inl t) = absurd (on_end (sym q ∙ rw (t, pick)))
    by (inr t) = into_on j y (rw (t, pick) at q)

through_end : (e : Interface) (j : Joint) → through e j ≡ end → j ≡ joint_of e
through_end e j q = by (test (leads_to e j))
  where
    by : (leads_to e j ≡ true) ⊎ (leads_to e j ≡ false) → j ≡ joint_of e
    by (inl t) = leads_joint e j t
    by (inr t) = absurd (into_end j (rw (t, pick) at q))

-- the walk goes on: the side given for e is joined to that router, at the side by which the walk comes in
pub onward_on : (pl : Plan) (e : Interface) (x y : Port) → onward pl e x ≡ on y
    → pl.joint x.router (route_to pl e x.router) ≡ Router y.router y.side
unfolding onward
onward_on pl e x y q = through_on e (pl.joint x.router (route_to pl e x.router)) y q

-- the walk is there: the side given for e is joined to e
pub onward_end : (pl : Plan) (e : Interface) (x : Port) → onward pl e x ≡ end
    → pl.joint x.router (route_to pl e x.router) ≡ joint_of e
unfolding onward
onward_end pl e x q = through_end e (pl.joint x.router (route_to pl e x.router)) q

-- a step depends on the router alone
pub alike : (pl : Plan) (e : Interface) (x y : Port) → router_of x ≡ router_of y → onward pl e x ≡ onward pl e y
unfolding onward
alike pl e x y q = ap (λ (r : ℕ). through e (pl.joint r (route_to pl e r))) q

module _ {pl : Plan} (wired : Wired pl) where
  -- ---- the test finds the walks that arrive
  pub stops_inside : (e : Interface) (from : Port) (w : Walk pl e from) → from.router < R pl → (k : ℕ) → k < w.size
      → (w.stop k).router < R pl
  stops_inside e from w h zero l = rw w.begins h
  stops_inside e from w h (suc k) l =
      (near wired (onward_on pl e (w.stop k) (w.stop (suc k)) (w.goes k l))).0

  pub arrives_of : (e : Interface) (from : Port) → from.router < R pl → Walk pl e from → arrives pl e from ≡ true
  unfolding arrives
  arrives_of e from h w = rw (end_of_way (onward pl e) router_of w (R pl) (stops_inside e from w h))

  pub walk_of : (e : Interface) (from : Port) → arrives pl e from ≡ true → Walk pl e from
  unfolding arrives
  walk_of e from t = (way_of_end (onward pl e) router_of (alike pl e) (R pl) from
      (end_of (walked pl e (R pl) from) t)).0

  -- a walk has at most R routers
  pub walk_short : (e : Interface) (from : Port) → from.router < R pl → (w : Walk pl e from) → w.size ≤ R pl
  walk_short e from h w = way_short (onward pl e) router_of w (R pl) (stops_inside e from w h)

  -- the number of routers that the test counts is the walk's
  pub size_is : (e : Interface) (from : Port) → from.router < R pl → (w : Walk pl e from)
      → walk_size pl e from ≡ w.size
  unfolding walk_size
  size_is e from h w =
      let s : suc (w.size - 1) ≡ w.size = omega (arith, w.some) in
      count_is (onward pl e) (w.size - 1) (on from) (w.stop (w.size - 1))
      (way_at (onward pl e) router_of w (w.size - 1) (omega (arith, w.some))) (w.ends (w.size - 1) s)
      (R pl) (omega (arith, walk_short e from h w, w.some))
      ∙ s

  -- ---- served pairs
  pub serves_of : (a p : ℕ) → a < A pl → Served pl a p → served pl a p ≡ true
  unfolding served_from backs_arrive
  serves_of a p ha s = also_of (arrives_of (passive p) x h s.ahead) (all_of (R pl) _ each)
    where
      x : Port
      x = home pl (active a)

      h : x.router < R pl
      h = (home_inside (active a) wired ha).0

      at : (k : ℕ) (t : Spot Port) → walked pl (passive p) k x ≡ t → back_arrives pl a t ≡ true
      at k (on y) q =
          let o = way_on (onward pl (passive p)) router_of s.ahead k y q in
          arrives_of (active a) y (rw (← o.1) (stops_inside (passive p) x s.ahead h k o.0))
          (rw o.1 at (s.back k o.0))
      at k end q = refl
      at k lost q = refl

      each : (k : ℕ) → k < R pl → back_arrives pl a (walked pl (passive p) k x) ≡ true
      each k l = at k (walked pl (passive p) k x) refl

  pub served_of : (a p : ℕ) → a < A pl → served pl a p ≡ true → Served pl a p
  unfolding served_from backs_arrive
  served_of a p ha t = record { ahead = w; back = back' }
    where
      x : Port
      x = home pl (active a)

      both : (arrives pl (passive p) x ≡ true) × (backs_arrive pl a p x ≡ true)
      both = also_true t

      w : Walk pl (passive p) x
      w = walk_of (passive p) x both.0

      back' : (k : ℕ) → k < w.size → Walk pl (active a) (w.stop k)
      back' k l =
          let short = walk_short (passive p) x (home_inside (active a) wired ha).0 w in
          walk_of (active a) (w.stop k) (rw (way_at (onward pl (passive p)) router_of w k l) at (all_at (R pl)
          (λ i. back_arrives pl a (walked pl (passive p) i x)) both.1 k (omega arith)))
