-- Answers that cross routers, without a word of queues: one crossing after another, and what stands before them.
use mathlib.Core.Path.{◌≡◌, sym, ap, ◌∙◌}
use mathlib.Core.Logic.{◌⊎◌, inl, inr}
use Prim.Native.Nat.{ℕ, zero, suc, ◌-◌, ◌<◌}
use native.Mathlib.Numerals.{add-one}
use native.Mathlib.Omega.{arith}
use Rattle.basis.specs.Walk.{on, end, spot, spot_none, spot_next, spot_add, on_front, on_before, on_same}
use Rattle.basis.specs.Walk.{way_at}
use Rattle.basis.specs.Ring.{Ring, ring_map}
use Rattle.plan.specs.declared.Joint.TheVariants.{Router}
use Rattle.plan.specs.Plan.{Plan, Port, Interface, active, passive, A, P, joint_of, route_to}
use Rattle.plan.specs.Rules.{home}
use Rattle.plan_walks.specs.Walk.{onward, router_of, walked}
use Rattle.plan_walks.specs.Alike.{walked_alike}
use Rattle.plan_walks.specs.Served.{Served}
use Rattle.plan_queues.specs.Feeds.{Meets}
use Rattle.plan_facts.specs.Wired.{Wired}
use Rattle.plan_journeys.specs.Visits.{Comes}
use Rattle.plan_journeys.proofs.Walks.{onward_on, onward_end}
use Rattle.plan_journeys.proofs.Places.{meets_here, meets_next, returns_on}
use Rattle.load_rings.specs.Rounds.{Amid, ring_amid}
use Rattle.load_rings.specs.Circles.{Answers, Crossing, Hands, AnswerRing}

-- an answer of a served pair comes in by the crossing x, and the next crossing is y
pub record Crosses (pl : Plan) (x y : Crossing) : Type 0 where
  pub a : ℕ
  pub p : ℕ
  pub has_active : a < A pl
  pub has_passive : p < P pl
  pub serves : Served pl a p
  pub comes : Comes pl a p x.into
  pub leaves : x.out ≡ route_to pl (active a) x.into.router
  pub joined : pl.joint x.into.router x.out ≡ Router y.into.router y.into.side
  pub turns : y.out ≡ route_to pl (active a) y.into.router

-- where the way to e goes on to y behind one router or more, it leaves a router for y
meets_before : (pl : Plan) (e : Interface) (x y : Port) (n : ℕ) → walked pl e (suc n) x ≡ on y
    → (z : Port) × Meets pl e x z × (onward pl e z ≡ on y)
meets_before pl e x y n q =
    let b = on_before (onward pl e) (suc n) (on x) y q n (omega arith) in
    (b.0, record { steps = n; here = b.1 }, sym (spot_next (onward pl e) n (on x) b.1) ∙ q)

-- where the way from the next router stands, the way stands one router later
walked_front : (pl : Plan) (e : Interface) (x z y : Port) (n : ℕ) → onward pl e x ≡ on z → walked pl e n z ≡ on y
    → walked pl e (suc n) x ≡ on y
walked_front pl e x z y n q m =
    rw add-one at (spot_add (onward pl e) n 1 (on x))
    ∙ ap (spot (onward pl e) n) (spot_next (onward pl e) 0 (on x) (spot_none (onward pl e) (on x)) ∙ q)
    ∙ m

pub router_interface : (e : Interface) {n t : ℕ} → Router n t ≡ joint_of e → ⊥
router_interface (active a) q = let z : ◌≡◌ {A = ℕ} 0 1 = cc in omega arith
router_interface (passive p) q = let z : ◌≡◌ {A = ℕ} 0 1 = cc in omega arith

module _ (pl : Plan) where
  -- where answers leave a router for a port, they come in by it
  comes_of : (a : ℕ) (x y : Port) (s : Answers pl a x) → onward pl (active a) x ≡ on y → Comes pl a s.p y
  comes_of a x y s q = by s.way.steps s.way.here
    where
      by : (n : ℕ) → walked pl (active a) n s.start ≡ on x → Comes pl a s.p y
      by zero e =
          let same : s.start ≡ x = on_same (sym (spot_none (onward pl (active a)) (on s.start)) ∙ e) in
          inr (s.start, y, s.met, ap (onward pl (active a)) same ∙ q, meets_here pl (active a) y)
      by (suc n) e = on_way (on_front (onward pl (active a)) n s.start x e)
        where
          on_way : (z : Port) × (onward pl (active a) s.start ≡ on z) × (walked pl (active a) n z ≡ on x)
              → Comes pl a s.p y
          on_way (z, f, g) =
              inr (s.start, z, s.met, f, meets_next pl (active a) z x y (record { steps = n; here = g }) q)

  pub hands_crosses : (x y : Crossing) → Hands pl x y → Crosses pl x y
  hands_crosses x y h = record {
    a = h.a;
    p = h.answers.p;
    has_active = h.answers.has_active;
    has_passive = h.answers.has_passive;
    serves = h.answers.serves;
    comes = comes_of h.a h.before x.into h.answers h.enters;
    leaves = h.leaves;
    joined = ap (pl.joint x.into.router) h.leaves ∙ onward_on pl (active h.a) x.into y.into h.goes;
    turns = h.turns;
  }

module _ {pl : Plan} (wired : Wired pl) where
  -- answers that come in by a port from a router leave that router
  comes_from : (a p : ℕ) → a < A pl → p < P pl → Served pl a p → (y : Port) (n t : ℕ)
      → pl.joint y.router y.side ≡ Router n t → Comes pl a p y
      → (x : Port) × Answers pl a x × (onward pl (active a) x ≡ on y)
  comes_from a p ha hp s y n t j c = by c
    where
      made : (start : Port) → Meets pl (passive p) (home pl (active a)) start → (k : ℕ)
          → walked pl (active a) (suc k) start ≡ on y
          → (x : Port) × Answers pl a x × (onward pl (active a) x ≡ on y)
      made start m k q =
          let b = meets_before pl (active a) start y k q in (
            b.0,
            record { p = p; has_active = ha; has_passive = hp; serves = s; start = start; met = m; way = b.1 },
            b.2,
          )

      -- the walk's last router is the passive's
      last : Port
      last = s.ahead.stop (s.ahead.size - 1)

      last_met : Meets pl (passive p) (home pl (active a)) last
      last_met =
          record {
            steps = s.ahead.size - 1;
            here =
                way_at (onward pl (passive p)) router_of s.ahead (s.ahead.size - 1)
                (omega (arith, s.ahead.some));
          }

      last_home : last.router ≡ (home pl (passive p)).router
      last_home =
          let e : suc (s.ahead.size - 1) ≡ s.ahead.size = omega (arith, s.ahead.some) in
          ((wired.joined (passive p) hp).only last.router (route_to pl (passive p) last.router)
          (onward_end pl (passive p) last (s.ahead.ends (s.ahead.size - 1) e))).0

      from_passive : (k : ℕ) → walked pl (active a) k (home pl (passive p)) ≡ on y
          → (x : Port) × Answers pl a x × (onward pl (active a) x ≡ on y)
      from_passive zero q =
          let same : home pl (passive p) ≡ y =
          on_same (sym (spot_none (onward pl (active a)) (on (home pl (passive p)))) ∙ q) in
          absurd (router_interface (passive p) (sym j ∙ rw same at (wired.joined (passive p) hp).there))
      from_passive (suc k) q =
          made last last_met k (walked_alike pl (active a) k last (home pl (passive p)) last_home ∙ q)

      by : Comes pl a p y → (x : Port) × Answers pl a x × (onward pl (active a) x ≡ on y)
      by (inl m) = from_passive m.steps m.here
      by (inr (x, z, m, g, k)) = made x m k.steps (walked_front pl (active a) x z y k.steps g k.here)

  -- a step from crossing to crossing that has a crossing before it
  crosses_hands : (w x y : Crossing) → Crosses pl w x → Crosses pl x y → Hands pl x y
  crosses_hands w x y f g =
      by (returns_on wired g.a g.p g.has_active g.has_passive g.serves x.into g.comes)
    where
      before : (z : Port) × Answers pl g.a z × (onward pl (active g.a) z ≡ on x.into)
      before =
          comes_from g.a g.p g.has_active g.has_passive g.serves x.into w.into.router w.out
          (wired.named w.into.router w.out x.into.router x.into.side f.joined).1 g.comes

      by : ((z : Port) × (onward pl (active g.a) x.into ≡ on z)) ⊎ (onward pl (active g.a) x.into ≡ end)
          → Hands pl x y
      by (inl (z, q)) =
          let there : Router y.into.router y.into.side ≡ Router z.router z.side =
          sym g.joined ∙ ap (pl.joint x.into.router) g.leaves
          ∙ onward_on pl (active g.a) x.into z q in
          let er : z.router ≡ y.into.router = cc in
          let es : z.side ≡ y.into.side = cc in
          record {
            a = g.a;
            before = before.0;
            answers = before.1;
            enters = before.2;
            leaves = g.leaves;
            goes = q ∙ ap on (λ k. record { router = er k; side = es k });
            turns = g.turns;
          }
      by (inr q) =
          absurd (router_interface (active g.a)
          (sym g.joined ∙ ap (pl.joint x.into.router) g.leaves ∙ onward_end pl (active g.a) x.into q))

  pub crossing_ring : Ring (Crosses pl) → AnswerRing pl
  crossing_ring r =
      ring_map (Amid (Crosses pl)) (Hands pl) (λ x. x) (λ x y m. crosses_hands m.before x y m.into m.step)
      (ring_amid (Crosses pl) r)
