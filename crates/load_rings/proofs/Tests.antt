-- The tests find exactly the rings.
use mathlib.Core.Path.{◌≡◌, refl, sym, ap, ◌∙◌}
use mathlib.Core.Logic.{◌⊎◌, inl, inr}
use mathlib.Core.Bool.{Bool, true, false, false≢true, ◌||◌}
use Prim.Native.Nat.{ℕ, ◌+◌, ◌*◌, ◌/◌, ◌%◌, ◌<◌}
use native.Mathlib.Omega.{arith}
use lib.Dec.{eqb}
use borrow.Author.Tests.{eqb-true, eq-eqb}
use Rattle.basis.specs.Choice.{also, also_true, also_of, refuted}
use Rattle.basis.specs.Bounded.{Found, any_below, any_true, any_of, or_cases, or_right}
use Rattle.basis.specs.Walk.{Spot, on, end, lost, way_on}
use Rattle.basis.specs.Ring.{Leads, ring_map, ring_test, ring_of_test, test_of_ring}
use Rattle.plan.specs.declared.Joint.{Joint}
use Rattle.plan.specs.declared.Joint.TheVariants.{Nothing, Router, Active, Passive}
use Rattle.plan.specs.Plan.{Plan, Port, Interface, active, passive, R, A, P, route_to}
use Rattle.plan.specs.Rules.{home, is_router_at}
use Rattle.plan_walks.specs.Walk.{onward, router_of, Walk, walked}
use Rattle.plan_walks.specs.Served.{Served, served}
use Rattle.plan_walks.specs.Steps.{stands_on}
use Rattle.plan_queues.specs.Feeds.{Meets, FeedRing}
use Rattle.plan_facts.specs.Wired.{Wired}
use Rattle.plan_facts.proofs.Wires.{near, home_inside}
use Rattle.plan_journeys.proofs.Walks.{onward_on, walk_short, serves_of, served_of}
use Rattle.plan_journeys.proofs.Places.{meets_next, meets_inside, exit_inside, nack_walk}
use Rattle.load_rings.specs.Circles.{Trails, WalkRing, Answers, Crossing, Hands, AnswerRing}
use Rattle.load_rings.specs.RingTest.{way_meets, walk_meets, walk_leaves, is_router, trail_edge, back_meets, answered}
use Rattle.load_rings.specs.RingTest.{answer_leaves, answer_comes, answers_pass, hand_edge, has_ring}
use Rattle.load_rings.proofs.Equal.{rings_of_feeds, feeds_of_rings}

-- ---- a way meets a router
stands_at_lem : (r : ℕ) (s : Spot Port) → stands_on r s ≡ true → (i : ℕ) × (s ≡ on (record { router = r; side = i }))
stands_at_lem r (on x) t = (x.side, ap (λ (n : ℕ). on (record { router = n; side = x.side })) (eqb-true x.router r t))
stands_at_lem r end t = absurd (false≢true t)
stands_at_lem r lost t = absurd (false≢true t)

pub way_meets_lem : (pl : Plan) (e : Interface) (from : Port) (r : ℕ) → way_meets pl e from r ≡ true
    → (i : ℕ) × Meets pl e from (record { router = r; side = i })
unfolding way_meets
way_meets_lem pl e from r t = by (any_true (R pl) (λ k. stands_on r (walked pl e k from)) t)
  where
    by : Found (R pl) (λ k. stands_on r (walked pl e k from))
        → (i : ℕ) × Meets pl e from (record { router = r; side = i })
    by (k, l, u) = let s = stands_at_lem r (walked pl e k from) u in (s.0, record { steps = k; here = s.1 })

-- joints lead on
pub router_onward : (pl : Plan) (e : Interface) (x : Port) (n t : ℕ)
    → pl.joint x.router (route_to pl e x.router) ≡ Router n t
    → onward pl e x ≡ on (record { router = n; side = t })
unfolding onward
router_onward pl (active a) x n t q = rw q refl
router_onward pl (passive p) x n t q = rw q refl

pub router_is : (r : ℕ) (j : Joint) → is_router r j ≡ true → (t : ℕ) × (j ≡ Router r t)
router_is r Nothing e = absurd (false≢true e)
router_is r (Router n t) e = (t, ap (λ (k : ℕ). Router k t) (eqb-true n r e))
router_is r (Active n) e = absurd (false≢true e)
router_is r (Passive n) e = absurd (false≢true e)

pub port_is : (i : ℕ) (j : Joint) → is_router_at i j ≡ true → (n t : ℕ) × (j ≡ Router n t) × (4 * n + t ≡ i)
port_is i Nothing e = absurd (false≢true e)
port_is i (Router n t) e = (n, t, refl, eqb-true (4 * n + t) i e)
port_is i (Active n) e = absurd (false≢true e)
port_is i (Passive n) e = absurd (false≢true e)

module _ {pl : Plan} (wired : Wired pl) where
  pub meets_way : (e : Interface) (from : Port) → from.router < R pl → (w : Walk pl e from) → (y : Port)
      → Meets pl e from y
      → way_meets pl e from y.router ≡ true
  unfolding way_meets
  meets_way e from h w y m =
      let o = way_on (onward pl e) router_of w m.steps y m.here in
      let s = walk_short wired e from h w in
      any_of (R pl) (λ k. stands_on y.router (walked pl e k from)) m.steps (omega arith)
      (rw m.here (eq-eqb y.router y.router refl))

  -- ---- walks
  pub record WalkBy (p r : ℕ) : Type 0 where
    pub a : ℕ
    pub has : a < A pl
    pub serves : Served pl a p
    pub side : ℕ
    pub met : Meets pl (passive p) (home pl (active a)) (record { router = r; side = side })

  pub walk_by : (p r : ℕ) → walk_meets pl p r ≡ true → WalkBy p r
  unfolding walk_meets
  walk_by p r t = by (any_true (A pl) (λ a. also (served pl a p) (way_meets pl (passive p) (home pl (active a)) r)) t)
    where
      by : Found (A pl) (λ a. also (served pl a p) (way_meets pl (passive p) (home pl (active a)) r)) → WalkBy p r
      by (a, l, u) =
          let b = also_true u in
          let m = way_meets_lem pl (passive p) (home pl (active a)) r b.1 in
          record { a = a; has = l; serves = served_of wired a p l b.0; side = m.0; met = m.1 }

  pub by_walk : (p r : ℕ) → WalkBy p r → walk_meets pl p r ≡ true
  unfolding walk_meets
  by_walk p r w =
      any_of (A pl) (λ a. also (served pl a p) (way_meets pl (passive p) (home pl (active a)) r)) w.a w.has
      (also_of (serves_of wired w.a p w.has w.serves)
      (meets_way (passive p) (home pl (active w.a)) (home_inside (active w.a) wired w.has).0
      w.serves.ahead _ w.met))

  -- ---- links by their numbers
  abbrev link_at : ℕ → Port
  link_at x = record { router = x / 4; side = x % 4 }

  edge_trails : (x y : ℕ) → trail_edge pl x y ≡ true → Trails pl (link_at x) (link_at y)
  unfolding trail_edge walk_leaves
  edge_trails x y e =
      let b = also_true {a = is_router (y / 4) (pl.joint (x / 4) (x % 4))} e in
      made (router_is (y / 4) (pl.joint (x / 4) (x % 4)) b.0) (any_true (P pl) pass b.1)
    where
      pass : ℕ → Bool
      pass p = also (also (eqb (route_to pl (passive p) (x / 4)) (x % 4)) (walk_meets pl p (x / 4)))
          (also (eqb (route_to pl (passive p) (y / 4)) (y % 4)) (walk_meets pl p (y / 4)))

      made : (t : ℕ) × (pl.joint (x / 4) (x % 4) ≡ Router (y / 4) t) → Found (P pl) pass
          → Trails pl (link_at x) (link_at y)
      made (t, j) (p, l, u) =
          let b = also_true {a = also (eqb (route_to pl (passive p) (x / 4)) (x % 4)) (walk_meets pl p (x / 4))} u in
          let c = also_true b.0 in
          let d = also_true b.1 in
          let w = walk_by p (x / 4) c.1 in
          let q : route_to pl (passive p) (x / 4) ≡ x % 4 = eqb-true (route_to pl (passive p) (x / 4)) (x % 4) c.0 in
          record {
            a = w.a;
            p = p;
            has_active = w.has;
            has_passive = l;
            serves = w.serves;
            from = w.side;
            met = w.met;
            leaves = sym q;
            into = t;
            next = router_onward pl (passive p) (record { router = x / 4; side = w.side }) (y / 4) t
                (ap (pl.joint (x / 4)) q ∙ j);
            turns = sym (eqb-true (route_to pl (passive p) (y / 4)) (y % 4) d.0);
          }

  abbrev link_number : Port → ℕ
  link_number x = 4 * x.router + x.side

  trails_edge : (x y : Port) → Trails pl x y → Leads (4 * R pl) (trail_edge pl) (link_number x) (link_number y)
  unfolding trail_edge walk_leaves
  trails_edge x y f =
      let ex : (4 * x.router + x.side) / 4 ≡ x.router = omega (arith, here) in
      let eo : (4 * x.router + x.side) % 4 ≡ x.side = omega (arith, here) in
      let ey : (4 * y.router + y.side) / 4 ≡ y.router = omega (arith, there) in
      let eu : (4 * y.router + y.side) % 4 ≡ y.side = omega (arith, there) in
      record {
        from = omega (arith, here);
        to = omega (arith, there);
        step = rw (ex, eo, ey, eu)
            (also_of {a = is_router y.router (pl.joint x.router x.side)}
            (rw joined (eq-eqb y.router y.router refl))
            (any_of (P pl) (λ p. also (walk_leaves pl p x.router x.side) (walk_leaves pl p y.router y.side))
            f.p f.has_passive
            (also_of (also_of (eq-eqb (route_to pl (passive f.p) x.router) x.side (sym f.leaves))
            (by_walk f.p x.router
            (record { a = f.a; has = f.has_active; serves = f.serves; side = f.from; met = f.met })))
            (also_of (eq-eqb (route_to pl (passive f.p) y.router) y.side (sym f.turns))
            (by_walk f.p y.router
            (record { a = f.a; has = f.has_active; serves = f.serves; side = f.into; met = met }))))));
      }
    where
      met : Meets pl (passive f.p) (home pl (active f.a)) (record { router = y.router; side = f.into })
      met = meets_next pl (passive f.p) (home pl (active f.a)) _ _ f.met f.next

      inside : (z : Port) → Meets pl (passive f.p) (home pl (active f.a)) z
          → (z.router < R pl) × (route_to pl (passive f.p) z.router < 4)
      inside z m = (
        (meets_inside wired (passive f.p) (home pl (active f.a)) f.serves.ahead
            (home_inside (active f.a) wired f.has_active) z m).0,
        exit_inside wired (passive f.p) (home pl (active f.a)) f.serves.ahead z m,
      )

      here : (x.router < R pl) × (x.side < 4)
      here = let k = inside (record { router = x.router; side = f.from }) f.met in (k.0, rw f.leaves k.1)

      there : (y.router < R pl) × (y.side < 4)
      there = let k = inside (record { router = y.router; side = f.into }) met in (k.0, rw f.turns k.1)

      joined : pl.joint x.router x.side ≡ Router y.router f.into
      joined = ap (pl.joint x.router) f.leaves ∙ onward_on pl (passive f.p) _ _ f.next

  pub walk_test : ring_test (4 * R pl) (trail_edge pl) ≡ true → WalkRing pl
  walk_test t =
      ring_map (Leads (4 * R pl) (trail_edge pl)) (Trails pl) link_at (λ x y l. edge_trails x y l.step)
      (ring_of_test (4 * R pl) (trail_edge pl) t)

  pub test_walk : WalkRing pl → ring_test (4 * R pl) (trail_edge pl) ≡ true
  test_walk r =
      test_of_ring (4 * R pl) (trail_edge pl)
      (ring_map (Trails pl) (Leads (4 * R pl) (trail_edge pl)) link_number trails_edge r)

-- ---- answers
module _ {pl : Plan} (wired : Wired pl) where
  pub answered_by : (a r : ℕ) → a < A pl → answered pl a r ≡ true
      → (i : ℕ) × Answers pl a (record { router = r; side = i })
  unfolding answered
  answered_by a r ha t =
      by (any_true (P pl) (λ p.
      also (served pl a p) (any_below (R pl) (λ k. back_meets pl a r (walked pl (passive p) k (home pl (active a))))))
      t)
    where
      at : (p k : ℕ) → p < P pl → Served pl a p → (s : Spot Port) → walked pl (passive p) k (home pl (active a)) ≡ s
          → back_meets pl a r s ≡ true → (i : ℕ) × Answers pl a (record { router = r; side = i })
      at p k hp s (on x) q u =
          let m = way_meets_lem pl (active a) x r u in (
            m.0,
            record {
              p = p;
              has_active = ha;
              has_passive = hp;
              serves = s;
              start = x;
              met = record { steps = k; here = q };
              way = m.1;
            },
          )
      at p k hp s end q u = absurd (false≢true u)
      at p k hp s lost q u = absurd (false≢true u)

      found : (p : ℕ) → p < P pl → Served pl a p
          → Found (R pl) (λ k. back_meets pl a r (walked pl (passive p) k (home pl (active a))))
          → (i : ℕ) × Answers pl a (record { router = r; side = i })
      found p hp s (k, l, u) = at p k hp s (walked pl (passive p) k (home pl (active a))) refl u

      by : Found (P pl) (λ p. also (served pl a p)
          (any_below (R pl) (λ k. back_meets pl a r (walked pl (passive p) k (home pl (active a))))))
          → (i : ℕ) × Answers pl a (record { router = r; side = i })
      by (p, l, u) =
          let b = also_true u in
          found p l (served_of wired a p ha b.0)
          (any_true (R pl) (λ k. back_meets pl a r (walked pl (passive p) k (home pl (active a)))) b.1)

  pub back_from : (a : ℕ) (y : Port) (s : Answers pl a y) → Walk pl (active a) s.start
  back_from a y s = nack_walk wired a s.p s.has_active s.has_passive s.serves s.start s.met

  pub start_inside : (a : ℕ) (y : Port) (s : Answers pl a y) → (s.start.router < R pl) × (s.start.side < 4)
  start_inside a y s =
      meets_inside wired (passive s.p) (home pl (active a)) s.serves.ahead
      (home_inside (active a) wired s.has_active) s.start s.met

  pub by_answers : (a : ℕ) (y : Port) → Answers pl a y → answered pl a y.router ≡ true
  unfolding answered
  by_answers a y s =
      let h = home_inside (active a) wired s.has_active in
      let o =
      way_on (onward pl (passive s.p)) router_of s.serves.ahead s.met.steps s.start s.met.here in
      let short = walk_short wired (passive s.p) (home pl (active a)) h.0 s.serves.ahead in
      any_of (P pl) (λ p. also (served pl a p) (any_below (R pl)
      (λ k. back_meets pl a y.router (walked pl (passive p) k (home pl (active a)))))) s.p s.has_passive
      (also_of (serves_of wired a s.p s.has_active s.serves)
      (any_of (R pl) (λ k. back_meets pl a y.router (walked pl (passive s.p) k (home pl (active a))))
      s.met.steps (omega arith)
      (rw s.met.here
      (meets_way wired (active a) s.start (start_inside a y s).0 (back_from a y s) y s.way))))

  -- answers go on
  answers_on : (a : ℕ) (x y : Port) → Answers pl a x → onward pl (active a) x ≡ on y → Answers pl a y
  answers_on a x y s q = record {
    p = s.p;
    has_active = s.has_active;
    has_passive = s.has_passive;
    serves = s.serves;
    start = s.start;
    met = s.met;
    way = meets_next pl (active a) s.start x y s.way q;
  }

  leaves_answer : (a r : ℕ) → answered pl a r ≡ true → answer_leaves pl a r (route_to pl (active a) r) ≡ true
  unfolding answer_leaves
  leaves_answer a r t = also_of (eq-eqb (route_to pl (active a) r) (route_to pl (active a) r) refl) t

  pub answer_leaves_lem : (a r o : ℕ) → answer_leaves pl a r o ≡ true
      → (answered pl a r ≡ true) × (route_to pl (active a) r ≡ o)
  unfolding answer_leaves
  answer_leaves_lem a r o t = let b = also_true t in (b.1, eqb-true (route_to pl (active a) r) o b.0)

  pub answer_comes_lem : (a : ℕ) (j : Joint) → answer_comes pl a j ≡ true
      → (n t : ℕ) × (j ≡ Router n t) × (answer_leaves pl a n t ≡ true)
  answer_comes_lem a Nothing u = absurd (false≢true u)
  answer_comes_lem a (Router n t) u = (n, t, refl, u)
  answer_comes_lem a (Active n) u = absurd (false≢true u)
  answer_comes_lem a (Passive n) u = absurd (false≢true u)

  -- ---- an edge is a step
  abbrev cross : ℕ → ℕ → ℕ → Crossing
  cross r i o = record { into = record { router = r; side = i }; out = o }

  pass_hands : (r i o n t j : ℕ) → pl.joint r o ≡ Router n t → answers_pass pl r i o n j ≡ true
      → Hands pl (cross r i o) (cross n t j)
  unfolding answers_pass
  pass_hands r i o n t j q u =
      by (any_true (A pl)
      (λ a. also (answer_comes pl a (pl.joint r i)) (also (answer_leaves pl a r o) (answer_leaves pl a n j))) u)
    where
      made : (a b e : ℕ) → a < A pl → pl.joint r i ≡ Router b e → answer_leaves pl a b e ≡ true
          → answer_leaves pl a r o ≡ true
          → answer_leaves pl a n j ≡ true → Hands pl (cross r i o) (cross n t j)
      made a b e ha back first second third =
          let f = answer_leaves_lem a b e first in
          let g = answer_leaves_lem a r o second in
          let h = answer_leaves_lem a n j third in
          let s = answered_by a b ha f.0 in
          record {
            a = a;
            before = record { router = b; side = s.0 };
            answers = s.1;
            enters = router_onward pl (active a) (record { router = b; side = s.0 }) r i
                (ap (pl.joint b) f.1 ∙ (wired.named r i b e back).1);
            leaves = sym g.1;
            goes = router_onward pl (active a) (record { router = r; side = i }) n t (ap (pl.joint r) g.1 ∙ q);
            turns = sym h.1;
          }

      by : Found (A pl)
          (λ a. also (answer_comes pl a (pl.joint r i)) (also (answer_leaves pl a r o) (answer_leaves pl a n j)))
          → Hands pl (cross r i o) (cross n t j)
      by (a, l, v) =
          let b = also_true v in
          let c = also_true b.1 in
          let d = answer_comes_lem a (pl.joint r i) b.0 in
          made a d.0 d.1 l d.2 d.3 c.0 c.1

  abbrev cross_at : ℕ → Crossing
  cross_at x = cross (x / 16) (x / 4 % 4) (x % 4)

  edge_hands : (x y : ℕ) → hand_edge pl x y ≡ true → Hands pl (cross_at x) (cross_at y)
  unfolding hand_edge
  edge_hands x y e =
      let b = also_true {a = is_router_at (y / 4) (pl.joint (x / 16) (x % 4))} e in
      let q = port_is (y / 4) (pl.joint (x / 16) (x % 4)) b.0 in
      let l = near wired q.2 in
      let en : q.0 ≡ y / 16 = omega (arith, q.3, l.1) in
      let et : q.1 ≡ y / 4 % 4 = omega (arith, q.3, l.1) in
      pass_hands (x / 16) (x / 4 % 4) (x % 4) (y / 16) (y / 4 % 4) (y % 4) (rw (en, et) at q.2) b.1

  -- ---- and each step has an edge
  pub record Handed (x y : Crossing) : Type 0 where
    pub a : ℕ
    pub has : a < A pl
    pub over : pl.joint x.into.router x.out ≡ Router y.into.router y.into.side
    pub comes : answer_comes pl a (pl.joint x.into.router x.into.side) ≡ true
    pub leaves : answer_leaves pl a x.into.router x.out ≡ true
    pub later : answer_leaves pl a y.into.router y.out ≡ true
    pub here : (x.into.router < R pl) × (x.into.side < 4) × (x.out < 4)
    pub there : (y.into.router < R pl) × (y.into.side < 4) × (y.out < 4)

  pub handed : (x y : Crossing) → Hands pl x y → Handed x y
  handed x y h =
      let s : Answers pl h.a x.into = answers_on h.a h.before x.into h.answers h.enters in
      let z : Answers pl h.a y.into = answers_on h.a x.into y.into s h.goes in
      let into = onward_on pl (active h.a) h.before x.into h.enters in
      let named =
      wired.named h.before.router (route_to pl (active h.a) h.before.router) x.into.router
      x.into.side into in
      let over : pl.joint x.into.router x.out ≡ Router y.into.router y.into.side =
      ap (pl.joint x.into.router) h.leaves ∙ onward_on pl (active h.a) x.into y.into h.goes in
      let back = wired.named x.into.router x.out y.into.router y.into.side over in
      record {
        a = h.a;
        has = h.answers.has_active;
        over = over;
        comes = rw named.1 (leaves_answer h.a h.before.router (by_answers h.a h.before h.answers));
        leaves = rw h.leaves (leaves_answer h.a x.into.router (by_answers h.a x.into s));
        later = rw h.turns (leaves_answer h.a y.into.router (by_answers h.a y.into z));
        here = ((near wired into).0, (near wired into).1, (near wired back.1).1);
        there = (
          (near wired over).0,
          (near wired over).1,
          rw h.turns
              (exit_inside wired (active h.a) z.start (back_from h.a y.into z) y.into z.way),
        );
      }

  abbrev number_of : Crossing → ℕ
  number_of x = 16 * x.into.router + 4 * x.into.side + x.out

  hands_edge : (x y : Crossing) → Handed x y → hand_edge pl (number_of x) (number_of y) ≡ true
  unfolding hand_edge answers_pass
  hands_edge x y h =
      let er : (16 * x.into.router + 4 * x.into.side + x.out) / 16 ≡ x.into.router = omega (arith, h.here) in
      let ei : (16 * x.into.router + 4 * x.into.side + x.out) / 4 % 4 ≡ x.into.side = omega (arith, h.here) in
      let eo : (16 * x.into.router + 4 * x.into.side + x.out) % 4 ≡ x.out = omega (arith, h.here) in
      let en : (16 * y.into.router + 4 * y.into.side + y.out) / 16 ≡ y.into.router = omega (arith, h.there) in
      let et : (16 * y.into.router + 4 * y.into.side + y.out) / 4 ≡ 4 * y.into.router + y.into.side =
      omega (arith, h.there) in
      let ej : (16 * y.into.router + 4 * y.into.side + y.out) % 4 ≡ y.out = omega (arith, h.there) in
      rw (
        er,
        ei,
        eo,
        en,
        et,
        ej,
        h.over,
        eq-eqb (4 * y.into.router + y.into.side) (4 * y.into.router + y.into.side) refl,
      )
      (any_of (A pl) (λ a. also (answer_comes pl a (pl.joint x.into.router x.into.side))
      (also (answer_leaves pl a x.into.router x.out) (answer_leaves pl a y.into.router y.out)))
      h.a h.has (also_of h.comes (also_of h.leaves h.later)))

  pub answer_test : ring_test (16 * R pl) (hand_edge pl) ≡ true → AnswerRing pl
  answer_test t =
      ring_map (Leads (16 * R pl) (hand_edge pl)) (Hands pl) cross_at (λ x y l. edge_hands x y l.step)
      (ring_of_test (16 * R pl) (hand_edge pl) t)

  pub test_answer : AnswerRing pl → ring_test (16 * R pl) (hand_edge pl) ≡ true
  test_answer r =
      test_of_ring (16 * R pl) (hand_edge pl) (ring_map (Hands pl) (Leads (16 * R pl) (hand_edge pl)) number_of step r)
    where
      step : (x y : Crossing) → Hands pl x y → Leads (16 * R pl) (hand_edge pl) (number_of x) (number_of y)
      step x y h =
          let k = handed x y h in
          record { from = below x k.here; to = below y k.there; step = hands_edge x y k }
        where
          below : (z : Crossing) → (z.into.router < R pl) × (z.into.side < 4) × (z.out < 4)
              → number_of z < 16 * R pl
          below z k = omega arith

  -- ---- so
  pub ring_test_lem : has_ring pl ≡ true → FeedRing pl
  unfolding has_ring
  ring_test_lem t = by (or_cases (ring_test (4 * R pl) (trail_edge pl)) (ring_test (16 * R pl) (hand_edge pl)) t)
    where
      by : (ring_test (4 * R pl) (trail_edge pl) ≡ true) ⊎ (ring_test (16 * R pl) (hand_edge pl) ≡ true) → FeedRing pl
      by (inl e) = feeds_of_rings wired (inl (walk_test wired e))
      by (inr e) = feeds_of_rings wired (inr (answer_test e))

  pub test_ring : FeedRing pl → has_ring pl ≡ true
  unfolding has_ring
  test_ring r = by (rings_of_feeds wired r)
    where
      by : WalkRing pl ⊎ AnswerRing pl
          → (ring_test (4 * R pl) (trail_edge pl) || ring_test (16 * R pl) (hand_edge pl)) ≡ true
      by (inl s) = rw (test_walk wired s) refl
      by (inr s) = rw (test_answer s) (or_right (ring_test (4 * R pl) (trail_edge pl)))

  -- ---- one router alone has none
  no_step : R pl ≡ 1 → (e : Interface) (x z : Port) → onward pl e x ≡ on z → ⊥
  no_step one e x z q =
      let j = onward_on pl e x z q in
      let n = wired.named x.router (route_to pl e x.router) z.router z.side j in
      let here = near wired n.1 in
      let there = near wired j in
      n.0 (omega arith)

  pub one_router : R pl ≡ 1 → false ≡ has_ring pl
  one_router one = sym (refuted (has_ring pl) (λ t. by (rings_of_feeds wired (ring_test_lem t))))
    where
      by : WalkRing pl ⊎ AnswerRing pl → ⊥
      by (inl r) = let f = r.linked 0 r.some in no_step one (passive f.p) _ _ f.next
      by (inr r) = let f = r.linked 0 r.some in no_step one (active f.a) _ _ f.goes
