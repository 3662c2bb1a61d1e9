-- Ways back: from a router that the way goes on from it is one longer than from the next, and has at most 16.
use mathlib.Core.Path.{◌≡◌, refl, ap, subst, ◌∙◌}
use Prim.Native.Nat.{ℕ, suc, ◌+◌, ◌-◌, ◌≤◌, ◌<◌}
use native.Mathlib.Omega.{arith}
use Rattle.basis.specs.Walk.{on, spot_none, spot_next, way_on, way_tail}
use Rattle.plan.specs.Plan.{Plan, Port, Interface, active, R}
use Rattle.plan_walks.specs.Walk.{onward, router_of, Walk}
use Rattle.plan_queues.specs.Feeds.{Meets}
use Rattle.plan_facts.specs.Wired.{Wired}
use Rattle.plan_journeys.proofs.Walks.{stops_inside, walk_short, size_is}
use Rattle.theory_drain.specs.Left.{way_back}

-- from where a walk meets, the rest of it is a walk
pub rest_walk : (pl : Plan) (e : Interface) (from y : Port) → Walk pl e from → Meets pl e from y → Walk pl e y
rest_walk pl e from y w m =
    let o = way_on (onward pl e) router_of w m.steps y m.here in
    subst (Walk pl e) o.1 (way_tail (onward pl e) router_of w m.steps o.0)

-- a walk of more than one router, from its second on
abbrev second_on : (pl : Plan) (e : Interface) (x : Port) (w : Walk pl e x) → 1 < w.size → Walk pl e (w.stop 1)
second_on pl e x w l = record {
  size = w.size - 1;
  some = omega arith;
  stop = λ i. w.stop (suc i);
  begins = refl;
  goes = λ i h. w.goes (suc i) (omega arith);
  ends = λ i h. w.ends (suc i) (omega arith);
  once = λ i j h k q. let same : suc i ≡ suc j = w.once (suc i) (suc j) (omega arith) (omega arith) q in omega arith;
}

module _ {pl : Plan} (wired : Wired pl) (a : ℕ) where
  -- as long as the walk
  way_is : (x : Port) → x.router < R pl → (w : Walk pl (active a) x) → way_back pl a x ≡ w.size
  unfolding way_back
  way_is x h w = size_is wired (active a) x h w

  -- It has a router,
  pub way_some : (x : Port) → x.router < R pl → Walk pl (active a) x → 1 ≤ way_back pl a x
  way_some x h w = let e = way_is x h w in omega (arith, w.some)

  -- and at most as many as the plan.
  pub way_short : (x : Port) → x.router < R pl → Walk pl (active a) x → way_back pl a x ≤ R pl
  way_short x h w = let e = way_is x h w in let l = walk_short wired (active a) x h w in omega arith

  -- Where it goes on, the rest of it is one shorter.
  pub way_next : (x z : Port) → x.router < R pl → Walk pl (active a) x → onward pl (active a) x ≡ on z
      → way_back pl a x ≡ way_back pl a z + 1
  way_next x z h w q = by (way_on (onward pl (active a)) router_of w 1 z
      (spot_next (onward pl (active a)) 0 (on x) (spot_none (onward pl (active a)) (on x)) ∙ q))
    where
      by : (1 < w.size) × (w.stop 1 ≡ z) → way_back pl a x ≡ way_back pl a z + 1
      by (l, e) =
          let inside = stops_inside wired (active a) x w h 1 l in
          let long = way_is x h w in
          let short : way_back pl a (w.stop 1) ≡ w.size - 1 = way_is (w.stop 1) inside
          (second_on pl (active a) x w l) in
          let same = ap (way_back pl a) e in
          omega arith
