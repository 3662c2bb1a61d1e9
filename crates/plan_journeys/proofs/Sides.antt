-- At each router of a walk the side in differs from the side out: a side that led back would lead to the router just
-- left, which is met once only, or to the interface that the walk came from, which is not where it goes.
use mathlib.Core.Path.{◌≡◌, sym, ap, ◌∙◌}
use mathlib.Core.Logic.{◌⊎◌, inl, inr, ◌≢◌}
use Prim.Native.Nat.{ℕ, zero, suc, ◌<◌}
use native.Mathlib.Omega.{arith}
use Rattle.basis.specs.Bounded.{below_suc}
use Rattle.basis.specs.Walk.{on}
use Rattle.plan.specs.declared.Joint.TheVariants.{Router}
use Rattle.plan.specs.Plan.{Plan, Port, Interface, active, passive, Has, joint_of, route_to}
use Rattle.plan.specs.Rules.{home}
use Rattle.plan_walks.specs.Walk.{onward, Walk}
use Rattle.plan_facts.specs.Wired.{Wired}
use Rattle.plan_journeys.proofs.Walks.{onward_on, onward_end}

pub router_not_end : (e : Interface) {n t : ℕ} → Router n t ≡ joint_of e → ⊥
router_not_end (active a) q = let z : ◌≡◌ {A = ℕ} 0 1 = cc in omega arith
router_not_end (passive p) q = let z : ◌≡◌ {A = ℕ} 0 1 = cc in omega arith

pub joint_same : (e e' : Interface) → joint_of e ≡ joint_of e' → e ≡ e'
joint_same (active a) (active b) q = let s : a ≡ b = cc in ap active s
joint_same (active a) (passive b) q = cc
joint_same (passive a) (active b) q = cc
joint_same (passive a) (passive b) q = let s : a ≡ b = cc in ap passive s

router_same : {n t m u : ℕ} → Router n t ≡ Router m u → n ≡ m
router_same q = cc

-- where the k-th stop of a walk leads: to a router, the next stop's, or to e
pub leads : (pl : Plan) (e : Interface) (from : Port) (w : Walk pl e from) (k : ℕ) → k < w.size
    → ((suc k < w.size) × (pl.joint (w.stop k).router (route_to pl e (w.stop k).router)
    ≡ Router (w.stop (suc k)).router (w.stop (suc k)).side))
    ⊎ (pl.joint (w.stop k).router (route_to pl e (w.stop k).router) ≡ joint_of e)
leads pl e from w k h = by (below_suc {i = suc k} {n = w.size} (omega arith))
  where
    by : (suc k < w.size) ⊎ (suc k ≡ w.size)
        → ((suc k < w.size) × (pl.joint (w.stop k).router (route_to pl e (w.stop k).router)
        ≡ Router (w.stop (suc k)).router (w.stop (suc k)).side))
        ⊎ (pl.joint (w.stop k).router (route_to pl e (w.stop k).router) ≡ joint_of e)
    by (inl l) = inl (l, onward_on pl e (w.stop k) (w.stop (suc k)) (w.goes k l))
    by (inr q) = inr (onward_end pl e (w.stop k) (w.ends k q))

module _ {pl : Plan} (wired : Wired pl) where
  -- the side by which a walk comes in to the next router is joined to the side by which it left
  pub joined_back : (e : Interface) (x y : Port) → onward pl e x ≡ on y
      → pl.joint y.router y.side ≡ Router x.router (route_to pl e x.router)
  joined_back e x y q =
      (wired.named x.router (route_to pl e x.router) y.router y.side (onward_on pl e x y q)).1

  -- behind the first router of a walk the side out is never the side in
  pub turns_later : (e : Interface) (from : Port) (w : Walk pl e from) (m : ℕ) → suc m < w.size
      → route_to pl e (w.stop (suc m)).router ≢ (w.stop (suc m)).side
  turns_later e from w m h = λ same. clash same (leads pl e from w (suc m) h)
    where
      x : Port
      x = w.stop m

      y : Port
      y = w.stop (suc m)

      back : pl.joint y.router y.side ≡ Router x.router (route_to pl e x.router)
      back = joined_back e x y (w.goes m h)

      clash : route_to pl e y.router ≡ y.side
          → ((suc (suc m) < w.size) × (pl.joint y.router (route_to pl e y.router)
          ≡ Router (w.stop (suc (suc m))).router (w.stop (suc (suc m))).side))
          ⊎ (pl.joint y.router (route_to pl e y.router) ≡ joint_of e) → ⊥
      clash same (inl (l, q)) =
          let again : (w.stop (suc (suc m))).router ≡ x.router =
          router_same (sym q ∙ ap (pl.joint y.router) same ∙ back) in
          let met : suc (suc m) ≡ m = w.once (suc (suc m)) m l (omega arith) again in
          omega arith
      clash same (inr q) = router_not_end e (sym back ∙ sym (ap (pl.joint y.router) same) ∙ q)

  -- a walk that leaves its first router by another side than it came in by does so at each
  pub turns : (e : Interface) (from : Port) (w : Walk pl e from) → route_to pl e from.router ≢ from.side
      → (k : ℕ) → k < w.size → route_to pl e (w.stop k).router ≢ (w.stop k).side
  turns e from w first zero h = rw w.begins first
  turns e from w first (suc m) h = turns_later e from w m h

  -- a walk to e from the router of another interface leaves by another side than that interface's
  pub home_turns : (e e' : Interface) → Has pl e' → e ≢ e' → (w : Walk pl e (home pl e'))
      → route_to pl e (home pl e').router ≢ (home pl e').side
  home_turns e e' h ne w = λ same. clash same (leads pl e x w 0 w.some)
    where
      x : Port
      x = home pl e'

      clash : route_to pl e x.router ≡ x.side
          → ((1 < w.size) × (pl.joint (w.stop 0).router (route_to pl e (w.stop 0).router)
          ≡ Router (w.stop 1).router (w.stop 1).side))
          ⊎ (pl.joint (w.stop 0).router (route_to pl e (w.stop 0).router) ≡ joint_of e) → ⊥
      clash same (inl (l, q)) = router_not_end e' (sym (rw (w.begins, same) at q) ∙ (wired.joined e' h).there)
      clash same (inr q) = ne (joint_same e e' (sym (rw (w.begins, same) at q) ∙ (wired.joined e' h).there))
