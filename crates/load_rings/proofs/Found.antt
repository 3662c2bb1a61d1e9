-- The cells of the tables are the edges of the tests, so the search finds a ring exactly if there is one.
use mathlib.Core.Path.{◌≡◌, sym, ap, subst, ◌∙◌}
use mathlib.Core.Bool.{Bool, true, false, and-eq-true_iff}
use mathlib.Core.List.{List, []}
use Prim.Native.Nat.{ℕ, ◌+◌, ◌*◌, ◌/◌, ◌%◌, ◌≤◌, ◌<◌}
use native.Mathlib.Omega.{arith}
use lib.Dec.{eqb}
use lib.ListN.{get_or}
use borrow.Author.Tests.{eqb-true, eq-eqb, lt-ltb}
use Rattle.basis.specs.Choice.{also, also_true, also_of, refuted, same_test, not_both}
use Rattle.basis.specs.Bounded.{Found, any_below, any_true, any_of}
use Rattle.basis.specs.Ring.{Leads, ring_map, ring_same, ring_test, ring_of_test, test_of_ring}
use Rattle.basis.specs.Walk.{way_on, way_tail}
use Rattle.plan.specs.declared.Head.{Head}
use Rattle.plan.specs.declared.Joint.TheVariants.{Router}
use Rattle.plan.specs.Plan.{Plan, active, passive, R, A, P, route_to}
use Rattle.plan.specs.Rules.{is_router_at}
use Rattle.plan_walks.specs.Walk.{onward, router_of, Walk}
use Rattle.plan.specs.Head.{Counts}
use Rattle.plan_facts.proofs.Wires.{near}
use Rattle.plan_journeys.proofs.Walks.{arrives_of, serves_of}
use Rattle.sets.specs.Sets.{has, both, below}
use Rattle.sets.specs.Laws.{has_below}
use Rattle.graph_ring.specs.Cells.{group_of, edge}
use Rattle.graph_ring.specs.Words.{leads_to}
use Rattle.graph_flow.specs.Carried.{partner_of, beyond_of, Spread}
use Rattle.graph_flow.proofs.Laws.{in_both, both_in}
use Rattle.graph_links.specs.Cells.{leaves_of, mask_of, crossed, cross_of}
use Rattle.graph_links.specs.Cells.{CrossCells, out_of}
use Rattle.graph_links.specs.Starts.{starts_of, lives_of}
use Rattle.graph_next.specs.Words.{nexts_of, links_of}
use Rattle.graph_links.proofs.Laws.{mask_small, not_empty}
use Rattle.graph_links.proofs.Members.{member, in_lives, leaves_at, leave_in, in_leave, cell_group, cell_has}
use Rattle.graph_links.proofs.Members.{mask_in, in_mask, cross_in, cross_is}
use Rattle.graph_next.proofs.Onward.{gone_by, in_next, links_in, in_links}
use Rattle.load_rings.specs.Circles.{Answers, Crossing, Hands, AnswerRing}
use Rattle.load_rings.specs.RingTest.{walk_leaves, is_router, trail_edge, answered, answer_leaves}
use Rattle.load_rings.specs.RingTest.{answer_comes, answers_pass, hand_edge, has_ring}
use Rattle.load_rings.specs.Told.{Told}
use Rattle.load_rings.proofs.Tests.{walk_by, by_walk, router_is, port_is, answered_by, by_answers}
use Rattle.load_rings.proofs.Tests.{back_from, answer_leaves_lem, answer_comes_lem, Handed, handed}
use Rattle.load_rings.proofs.Tests.{answer_test, one_router}
use Rattle.load_rings.proofs.Drawn.{few, joint_partner, partner_joint, leaves_of_lem, of_leaves, all_walker}
use Rattle.load_rings.proofs.Drawn.{walker_all}
use Rattle.load_rings.proofs.Drawn.{answers_of, of_answers}

-- ---- tests of relations that agree
ring_alike : (n : ℕ) (f g : ℕ → ℕ → Bool) → ((x y : ℕ) → x < n → y < n → f x y ≡ g x y) → ring_test n f ≡ ring_test n g
ring_alike n f g h =
    same_test (ring_test n f) (ring_test n g)
    (λ t. test_of_ring n g (ring_same n f g h (ring_of_test n f t)))
    (λ t. test_of_ring n f (ring_same n g f (λ x y a b. sym (h x y a b)) (ring_of_test n g t)))

-- ---- an edge by its cell
edge_parts : (cells : List ℕ) (x y : ℕ) → edge cells x y ≡ true
    → (group_of (get_or cells x 0) ≡ y / 4) × (has (get_or cells x 0) (y % 4) ≡ true)
unfolding edge
edge_parts cells x y e =
    let b = (and-eq-true_iff (eqb (group_of (get_or cells x 0)) (y / 4)) (has (get_or cells x 0) (y % 4))).0 e in
    (eqb-true (group_of (get_or cells x 0)) (y / 4) b.0, b.1)

parts_edge : (cells : List ℕ) (x y g m : ℕ) → get_or cells x 0 ≡ 16 * g + m → g < 64 → m < 16 → g ≡ y / 4
    → has m (y % 4) ≡ true → edge cells x y ≡ true
unfolding edge
parts_edge cells x y g m e a b q t =
    rw (e, cell_group g m a b, eq-eqb g (y / 4) q) (cell_has g m (y % 4) (omega arith) ∙ t)

module _ {pl : Plan} {h : Head} {by : List (List ℕ)} {joints homes arrive serve : List ℕ} (fits : Counts h)
    (told : Told pl h by joints homes arrive serve) where
  room : (R pl ≤ 16) × (A pl ≤ 16) × (P pl ≤ 16)
  room = few fits told

  -- ---- walks
  module _ (t : List ℕ) (spread : Spread by joints (R pl) (starts_of homes serve (A pl)) t) where
    abbrev gone : List ℕ
    gone = leaves_of by t (below 32) (4 * R pl)

    leaves_walk : (k d : ℕ) → k < 4 * R pl → has (get_or gone k 0) d ≡ true
        → (p : ℕ) × (p < P pl) × (d ≡ A pl + p) × (walk_leaves pl p (k / 4) (k % 4) ≡ true)
    unfolding walk_leaves
    leaves_walk k d l u =
        let b =
        leave_in by t (below 32) k d (rw (leaves_at by t (below 32) (4 * R pl) k l (omega (arith, room))) at u) in
        let w = all_walker fits told t spread (k / 4) d (omega arith) b.1 in
        let r = (of_leaves fits told (k / 4) (k % 4) d (omega arith) b.0).1 in (
          w.p,
          w.has_passive,
          w.column_is,
          also_of (eq-eqb (route_to pl (passive w.p) (k / 4)) (k % 4) (rw w.column_is at r))
              (by_walk told.wired w.p (k / 4)
              (record { a = w.a; has = w.has_active; serves = w.serves; side = w.side; met = w.met })),
        )

    walk_leaves_lem : (k p : ℕ) → k < 4 * R pl → p < P pl → walk_leaves pl p (k / 4) (k % 4) ≡ true
        → has (get_or gone k 0) (A pl + p) ≡ true
    unfolding walk_leaves
    walk_leaves_lem k p l hp u =
        let b = also_true u in
        let w = walk_by told.wired p (k / 4) b.1 in
        let r : pl.route (k / 4) (A pl + p) ≡ k % 4 = eqb-true (route_to pl (passive p) (k / 4)) (k % 4) b.0 in
        rw (leaves_at by t (below 32) (4 * R pl) k l (omega (arith, room)))
        (in_leave by t (below 32) k (A pl + p) (leaves_of_lem fits told (k / 4) (k % 4) (A pl + p) (omega arith)
        (omega arith) r)
        (walker_all fits told t spread w.a p w.has hp w.serves (record { router = k / 4; side = w.side })
        w.met)
        (has_below 32 (A pl + p) ∙ lt-ltb (A pl + p) 32 (omega (arith, room))))

    abbrev trailed : List ℕ
    trailed = links_of gone joints (4 * R pl)

    trail_edges : (x y : ℕ) → x < 4 * R pl → y < 4 * R pl → leads_to trailed x y ≡ trail_edge pl x y
    unfolding trail_edge
    trail_edges x y lx ly = same_test (leads_to trailed x y) (trail_edge pl x y) there back
      where
        pass : ℕ → Bool
        pass p = also (walk_leaves pl p (x / 4) (x % 4)) (walk_leaves pl p (y / 4) (y % 4))

        there : leads_to trailed x y ≡ true
            → also (is_router (y / 4) (pl.joint (x / 4) (x % 4))) (any_below (P pl) pass) ≡ true
        there e =
            let s = links_in gone joints (4 * R pl) x y lx (omega (arith, room)) e in
            let j = partner_joint fits told x lx s.joined in
            let m = member (both (get_or gone x 0) (get_or gone y 0)) s.some in
            let f = both_in (get_or gone x 0) (get_or gone y 0) m.0 m.1 in
            let c = leaves_walk x m.0 lx f.0 in
            let d = leaves_walk y m.0 ly f.1 in
            let same : d.0 ≡ c.0 = omega (arith, c.2, d.2) in
            also_of {a = is_router (y / 4) (pl.joint (x / 4) (x % 4))}
            (rw j (eq-eqb (beyond_of joints x) (y / 4) (sym s.beyond)))
            (any_of (P pl) pass c.0 c.1 (also_of c.3 (rw same at d.3)))

        back : also (is_router (y / 4) (pl.joint (x / 4) (x % 4))) (any_below (P pl) pass) ≡ true
            → leads_to trailed x y ≡ true
        back e =
            let b = also_true {a = is_router (y / 4) (pl.joint (x / 4) (x % 4))} e in
            found (router_is (y / 4) (pl.joint (x / 4) (x % 4)) b.0) (any_true (P pl) pass b.1)
          where
            found : (u : ℕ) × (pl.joint (x / 4) (x % 4) ≡ Router (y / 4) u) → Found (P pl) pass
                → leads_to trailed x y ≡ true
            found (u, j) (p, hp, v) =
                let b = also_true {a = walk_leaves pl p (x / 4) (x % 4)} v in
                let n = near told.wired j in
                let ex : 4 * (x / 4) + x % 4 ≡ x = omega arith in
                let q : partner_of joints x ≡ 4 * (y / 4) + u =
                rw ex at (joint_partner fits told (x / 4) (x % 4) (y / 4) u j) in
                let bq : beyond_of joints x ≡ y / 4 = omega (arith, n) in
                let ey : 4 * (y / 4) + y % 4 ≡ y = omega arith in
                let first = walk_leaves_lem x p lx hp b.0 in
                let second = walk_leaves_lem y p ly hp b.1 in
                let m = not_empty (both (get_or gone x 0) (get_or gone y 0)) (A pl + p)
                (in_both (get_or gone x 0) (get_or gone y 0) (A pl + p) first second) in
                let z = in_links gone joints (4 * R pl) x (y % 4) lx (omega (arith, room)) (omega arith)
                (not_empty (get_or gone x 0) (A pl + p) first) (omega (arith, n, room)) (rw (bq, ey) m) in
                rw (bq, ey) at z

    pub walks_found : {r : Bool} → r ≡ ring_test (4 * R pl) (leads_to trailed) → r ≡ ring_test (4 * R pl)
        (trail_edge pl)
    walks_found e = e ∙ ring_alike (4 * R pl) (leads_to trailed) (trail_edge pl) trail_edges

    -- ---- by routers: where they have no ring the links have none
    abbrev by_router : ℕ → ℕ → Bool
    by_router = leads_to (nexts_of by joints t (R pl))

    trail_near : (x y : ℕ) → Leads (4 * R pl) (leads_to trailed) x y → Leads (R pl) by_router (x / 4) (y / 4)
    trail_near x y g =
        let lx = g.from in
        let ly = g.to in
        let s = links_in gone joints (4 * R pl) x y lx (omega (arith, room)) g.step in
        let m = member (both (get_or gone x 0) (get_or gone y 0)) s.some in
        let f = both_in (get_or gone x 0) (get_or gone y 0) m.0 m.1 in
        let b = leave_in by t (below 32) x m.0
        (subst (λ (v : ℕ). has v m.0 ≡ true)
        (leaves_at by t (below 32) (4 * R pl) x lx (omega (arith, room))) f.0) in
        let e : 4 * (x / 4) + x % 4 ≡ x = omega arith in
        record {
          from = omega arith;
          to = omega arith;
          step = in_next by joints t (R pl) (x / 4) (y / 4) (omega arith) room.0
              (record {
                side = x % 4;
                four = omega arith;
                some = not_empty (gone_by by joints t (x / 4) (x % 4)) m.0
                    (in_both (get_or (get_or by (x / 4) []) (x % 4) 0) (get_or t (x / 4) 0) m.0 b.0 b.1);
                joined = rw e s.joined;
                beyond = rw e s.beyond;
              });
        }

    pub walks_clear : {r : Bool} → r ≡ ring_test (R pl) by_router → r ≡ false → false ≡ ring_test (4 * R pl)
        (trail_edge pl)
    walks_clear e f =
        walks_found (sym (refuted (ring_test (4 * R pl) (leads_to trailed)) (λ u. not_both (round u) (sym e ∙ f))))
      where
        round : ring_test (4 * R pl) (leads_to trailed) ≡ true → ring_test (R pl) by_router ≡ true
        round u =
            test_of_ring (R pl) by_router
            (ring_map (Leads (4 * R pl) (leads_to trailed)) (Leads (R pl) by_router) (λ x. x / 4) trail_near
            (ring_of_test (4 * R pl) (leads_to trailed) u))

  -- ---- answers
  module _ (t : List ℕ) (answers : Rattle.graph_links.specs.Starts.Answers by joints homes serve (R pl) (A pl) t) where
    abbrev sent : List ℕ
    sent = leaves_of by t (below 32) (4 * R pl)

    leaves_answers : (k a : ℕ) → k < 4 * R pl → has (get_or sent k 0) a ≡ true
        → (a < A pl) × (answer_leaves pl a (k / 4) (k % 4) ≡ true)
    unfolding answer_leaves
    leaves_answers k a l u =
        let b =
        leave_in by t (below 32) k a (rw (leaves_at by t (below 32) (4 * R pl) k l (omega (arith, room))) at u) in
        let s = answers_of fits told t answers (k / 4) a (omega arith) b.1 in
        let r = (of_leaves fits told (k / 4) (k % 4) a (omega arith) b.0).1 in (
          s.0,
          also_of (eq-eqb (route_to pl (active a) (k / 4)) (k % 4) r)
              (by_answers told.wired a (record { router = k / 4; side = s.1.0 }) s.1.1),
        )

    answers_leave : (k a : ℕ) → k < 4 * R pl → a < A pl → answer_leaves pl a (k / 4) (k % 4) ≡ true
        → has (get_or sent k 0) a ≡ true
    answers_leave k a l la u =
        let b = answer_leaves_lem told.wired a (k / 4) (k % 4) u in
        let s = answered_by told.wired a (k / 4) la b.0 in
        rw (leaves_at by t (below 32) (4 * R pl) k l (omega (arith, room)))
        (in_leave by t (below 32) k a (leaves_of_lem fits told (k / 4) (k % 4) a (omega arith) (omega arith) b.1)
        (of_answers fits told t answers a (record { router = k / 4; side = s.0 }) s.1)
        (has_below 32 a ∙ lt-ltb a 32 (omega (arith, room))))

    hand_edges : (cells : List ℕ) → CrossCells sent joints (16 * R pl) cells → (x y : ℕ) → x < 16 * R pl
        → y < 16 * R pl → edge cells x y ≡ hand_edge pl x y
    unfolding hand_edge answers_pass
    hand_edges cells crosses x y lx ly = same_test (edge cells x y) (hand_edge pl x y) there back
      where
        cell : get_or cells x 0 ≡ cross_of sent joints x
        cell = crosses.at x lx

        ox : out_of x < 4 * R pl
        ox = omega arith

        or : out_of x / 4 ≡ x / 16
        or = omega arith

        oo : out_of x % 4 ≡ x % 4
        oo = omega arith

        ir : x / 4 / 4 ≡ x / 16
        ir = omega arith

        i : ℕ
        i = partner_of joints (x / 4)

        q : ℕ
        q = partner_of joints (out_of x)

        pass : ℕ → Bool
        pass a = also (answer_comes pl a (pl.joint (x / 16) (x / 4 % 4)))
            (also (answer_leaves pl a (x / 16) (x % 4)) (answer_leaves pl a (y / 16) (y % 4)))

        there : edge cells x y ≡ true
            → also (is_router_at (y / 4) (pl.joint (x / 16) (x % 4))) (any_below (A pl) pass) ≡ true
        there e =
            let b = edge_parts cells x y e in
            let c = cross_in sent joints x (y % 4) (rw cell at b.1) in
            let s = mask_small sent (crossed sent joints x) (beyond_of joints (out_of x)) in
            let g : q ≡ y / 4 =
            sym (cell_group q (mask_of sent (crossed sent joints x) (beyond_of joints (out_of x))) c.1 s)
            ∙ ap group_of (sym (cell ∙ c.2)) ∙ b.0 in
            let m : has (mask_of sent (crossed sent joints x) (beyond_of joints (out_of x))) (y % 4) ≡ true =
            sym (cell_has q (mask_of sent (crossed sent joints x) (beyond_of joints (out_of x))) (y % 4) (omega arith))
            ∙ (rw (cell, c.2) at b.1) in
            let d =
            member (both (crossed sent joints x) (get_or sent (4 * beyond_of joints (out_of x) + y % 4) 0))
            (mask_in sent (crossed sent joints x) (beyond_of joints (out_of x)) (y % 4) m) in
            let f =
            both_in (crossed sent joints x) (get_or sent (4 * beyond_of joints (out_of x) + y % 4) 0) d.0 d.1 in
            let k = both_in (get_or sent i 0) (get_or sent (out_of x) 0) d.0 f.0 in
            made d.0 c.0 c.1 g k.0 k.1 f.1
          where
            made : (a : ℕ) → i < 64 → q < 64 → q ≡ y / 4 → has (get_or sent i 0) a ≡ true
                → has (get_or sent (out_of x) 0) a ≡ true
                → has (get_or sent (4 * (q / 4) + y % 4) 0) a ≡ true
                → also (is_router_at (y / 4) (pl.joint (x / 16) (x % 4))) (any_below (A pl) pass) ≡ true
            made a li lq g u v w =
                let into : pl.joint (x / 16) (x / 4 % 4) ≡ Router (i / 4) (i % 4) =
                rw ir at (partner_joint fits told (x / 4) (omega arith) li) in
                let out : pl.joint (x / 16) (x % 4) ≡ Router (q / 4) (q % 4) =
                rw (or, oo) at (partner_joint fits told (out_of x) ox lq) in
                let ni = near told.wired into in
                let first = leaves_answers i a (omega (arith, ni)) u in
                let second = leaves_answers (out_of x) a ox v in
                let third = leaves_answers (4 * (q / 4) + y % 4) a (omega arith) w in
                let er : (4 * (q / 4) + y % 4) / 4 ≡ y / 16 = omega arith in
                let eo : (4 * (q / 4) + y % 4) % 4 ≡ y % 4 = omega arith in
                let eq : 4 * (q / 4) + q % 4 ≡ y / 4 = omega arith in
                also_of {a = is_router_at (y / 4) (pl.joint (x / 16) (x % 4))}
                (rw out (eq-eqb (4 * (q / 4) + q % 4) (y / 4) eq))
                (any_of (A pl) pass a first.0 (also_of {a = answer_comes pl a (pl.joint (x / 16) (x / 4 % 4))}
                (rw into first.1) (also_of (rw (or, oo) at second.1) (rw (er, eo) at third.1))))

        back : also (is_router_at (y / 4) (pl.joint (x / 16) (x % 4))) (any_below (A pl) pass) ≡ true
            → edge cells x y ≡ true
        back e =
            let b = also_true {a = is_router_at (y / 4) (pl.joint (x / 16) (x % 4))} e in
            let n = port_is (y / 4) (pl.joint (x / 16) (x % 4)) b.0 in
            found n.0 n.1 n.2 n.3 (any_true (A pl) pass b.1)
          where
            found : (n t : ℕ) → pl.joint (x / 16) (x % 4) ≡ Router n t → 4 * n + t ≡ y / 4 → Found (A pl) pass
                → edge cells x y ≡ true
            found n t over p (a, la, v) =
                let b = also_true {a = answer_comes pl a (pl.joint (x / 16) (x / 4 % 4))}
                {b = also (answer_leaves pl a (x / 16) (x % 4)) (answer_leaves pl a (y / 16) (y % 4))} v in
                let c =
                also_true {a = answer_leaves pl a (x / 16) (x % 4)} {b = answer_leaves pl a (y / 16) (y % 4)} b.1 in
                let d = answer_comes_lem told.wired a (pl.joint (x / 16) (x / 4 % 4)) b.0 in
                let eq : q ≡ 4 * n + t = joint_partner fits told (x / 16) (x % 4) n t over in
                let ex : 4 * (x / 16) + x / 4 % 4 ≡ x / 4 = omega arith in
                let ei : i ≡ 4 * d.0 + d.1 =
                rw ex at (joint_partner fits told (x / 16) (x / 4 % 4) d.0 d.1 d.2) in
                let ln = near told.wired over in
                let li = near told.wired d.2 in
                let ir : i / 4 ≡ d.0 = omega (arith, li) in
                let is : i % 4 ≡ d.1 = omega (arith, li) in
                let er : (4 * (q / 4) + y % 4) / 4 ≡ y / 16 = omega arith in
                let es : (4 * (q / 4) + y % 4) % 4 ≡ y % 4 = omega arith in
                let first = answers_leave i a (omega (arith, li)) la (rw (ir, is) d.3) in
                let second = answers_leave (out_of x) a ox la (rw (or, oo) c.0) in
                let third = answers_leave (4 * (q / 4) + y % 4) a (omega (arith, ln)) la (rw (er, es) c.1) in
                let k = in_both (get_or sent i 0) (get_or sent (out_of x) 0) a first second in
                let m = not_empty (both (crossed sent joints x) (get_or sent (4 * (q / 4) + y % 4) 0)) a
                (in_both (crossed sent joints x) (get_or sent (4 * (q / 4) + y % 4) 0) a k third) in
                let z =
                cross_is sent joints x (omega (arith, li, room)) (omega (arith, ln, room))
                (not_empty (crossed sent joints x) a k) in
                parts_edge cells x y q (mask_of sent (crossed sent joints x) (q / 4))
                (cell ∙ z) (omega (arith, ln, room))
                (mask_small sent (crossed sent joints x) (q / 4)) (eq ∙ p)
                (in_mask sent (crossed sent joints x) (q / 4) (y % 4) (omega arith) m)

    pub answers_found : (cells : List ℕ) → CrossCells sent joints (16 * R pl) cells → {r : Bool}
        → r ≡ ring_test (16 * R pl) (edge cells) → r ≡ ring_test (16 * R pl) (hand_edge pl)
    answers_found cells crosses e =
        e ∙ ring_alike (16 * R pl) (edge cells) (hand_edge pl) (hand_edges cells crosses)

  -- ---- links: where they have no ring the answers have none
  abbrev heard : List ℕ
  heard = leaves_of by arrive (lives_of serve (A pl)) (4 * R pl)

  answers_heard : (k a : ℕ) → k < 4 * R pl → a < A pl → answer_leaves pl a (k / 4) (k % 4) ≡ true
      → has (get_or heard k 0) a ≡ true
  answers_heard k a l la u = made (answered_by told.wired a (k / 4) la b.0)
    where
      b : (answered pl a (k / 4) ≡ true) × (route_to pl (active a) (k / 4) ≡ k % 4)
      b = answer_leaves_lem told.wired a (k / 4) (k % 4) u

      made : (i : ℕ) × Answers pl a (record { router = k / 4; side = i }) → has (get_or heard k 0) a ≡ true
      made (i, s) =
          let w = back_from told.wired a (record { router = k / 4; side = i }) s in
          let o =
          way_on (onward pl (active a)) router_of w s.way.steps (record { router = k / 4; side = i })
          s.way.here in
          let v : Walk pl (active a) (record { router = k / 4; side = i }) =
          rw o.1 at (way_tail (onward pl (active a)) router_of w s.way.steps o.0) in
          let reached = arrives_of told.wired (active a) (record { router = k / 4; side = i }) (omega arith) v in
          let there : has (get_or arrive (k / 4) 0) a ≡ true =
          told.arrivals.there (record { router = k / 4; side = i }) a (omega arith) (omega arith)
          ∙ rw (lt-ltb a (A pl) la) reached in
          let live = in_lives serve (A pl) a la (not_empty (get_or serve a 0) (A pl + s.p)
          (told.serves.pairs a s.p la s.has_passive ∙ serves_of told.wired a s.p la s.serves)) in
          rw (leaves_at by arrive (lives_of serve (A pl)) (4 * R pl) k l (omega (arith, room)))
          (in_leave by arrive (lives_of serve (A pl)) k a
          (leaves_of_lem fits told (k / 4) (k % 4) a (omega arith) (omega arith) b.1) there live)

  abbrev link_at : Crossing → ℕ
  link_at x = 4 * x.into.router + x.out

  hands_link : (x y : Crossing) → Handed told.wired x y
      → leads_to (links_of heard joints (4 * R pl)) (link_at x) (link_at y) ≡ true
  hands_link x y g =
      let ex : (4 * x.into.router + x.out) / 4 ≡ x.into.router = omega (arith, g.here) in
      let eo : (4 * x.into.router + x.out) % 4 ≡ x.out = omega (arith, g.here) in
      let ey : (4 * y.into.router + y.out) / 4 ≡ y.into.router = omega (arith, g.there) in
      let eu : (4 * y.into.router + y.out) % 4 ≡ y.out = omega (arith, g.there) in
      let p = joint_partner fits told x.into.router x.out y.into.router y.into.side g.over in
      let bq : beyond_of joints (4 * x.into.router + x.out) ≡ y.into.router = omega (arith, g.there) in
      let lx : link_at x < 4 * R pl = omega (arith, g.here) in
      let ly : link_at y < 4 * R pl = omega (arith, g.there) in
      let first = answers_heard (link_at x) g.a lx g.has (rw (ex, eo) g.leaves) in
      let second = answers_heard (link_at y) g.a ly g.has (rw (ey, eu) g.later) in
      let m = not_empty (both (get_or heard (link_at x) 0) (get_or heard (link_at y) 0)) g.a
      (in_both (get_or heard (link_at x) 0) (get_or heard (link_at y) 0) g.a first second) in
      let z =
      in_links heard joints (4 * R pl) (link_at x) y.out lx (omega (arith, room)) g.there.2
      (not_empty (get_or heard (link_at x) 0) g.a first) (omega (arith, g.there, room)) (rw bq m) in
      rw bq at z

  pub links_clear : {r : Bool} → r ≡ ring_test (4 * R pl) (leads_to (links_of heard joints (4 * R pl))) → r ≡ false
      → ring_test (16 * R pl) (hand_edge pl) ≡ false
  links_clear e f =
      refuted (ring_test (16 * R pl) (hand_edge pl)) (λ t. not_both (round (answer_test told.wired t)) (sym e ∙ f))
    where
      step : (x y : Crossing) → Hands pl x y
          → Leads (4 * R pl) (leads_to (links_of heard joints (4 * R pl))) (link_at x) (link_at y)
      step x y g =
          let k = handed told.wired x y g in
          record { from = omega (arith, k.here); to = omega (arith, k.there); step = hands_link x y k }

      round : AnswerRing pl → ring_test (4 * R pl) (leads_to (links_of heard joints (4 * R pl))) ≡ true
      round r =
          test_of_ring (4 * R pl) (leads_to (links_of heard joints (4 * R pl)))
          (ring_map (Hands pl) (Leads (4 * R pl) (leads_to (links_of heard joints (4 * R pl)))) link_at step r)

  -- ---- as the code has it
  routers : h.routers ≡ R pl
  routers = ap (λ (x : Head). x.routers) (sym told.same)

  actives : h.actives ≡ A pl
  actives = ap (λ (x : Head). x.actives) (sym told.same)

  module _ {t : List ℕ} (s : Spread by joints h.routers (starts_of homes serve h.actives) t) where
    pub routers_clear : {r : Bool} → r ≡ ring_test h.routers (leads_to (nexts_of by joints t h.routers))
        → r ≡ false → false ≡ ring_test (4 * R pl) (trail_edge pl)
    routers_clear e f = walks_clear t (rw (routers, actives) at s) (rw routers at e) f

    pub walks_ring : {r : Bool}
        → r ≡ ring_test (4 * h.routers) (leads_to (links_of (leaves_of by t (below 32) (4 * h.routers)) joints
        (4 * h.routers))) → r ≡ ring_test (4 * R pl) (trail_edge pl)
    walks_ring e = walks_found t (rw (routers, actives) at s) (rw routers at e)

  pub answers_ring : {t l cells : List ℕ} {limit : ℕ} {r : Bool}
      → Rattle.graph_links.specs.Starts.Answers by joints homes serve h.routers h.actives t
      → limit ≡ below 32 → l ≡ leaves_of by t limit (4 * h.routers) → CrossCells l joints (16 * h.routers) cells
      → r ≡ ring_test (4 * (4 * h.routers)) (edge cells) → r ≡ ring_test (16 * R pl) (hand_edge pl)
  answers_ring {t} {l} {cells} s m el ec e =
      let n : 4 * (4 * h.routers) ≡ 16 * h.routers = omega arith in
      answers_found t (rw (routers, actives) at s) cells (rw (el, m, routers) at ec) (rw (n, routers) at e)

  pub links_ring : {l words : List ℕ} {live : ℕ} {r : Bool} → live ≡ lives_of serve h.actives
      → l ≡ leaves_of by arrive live (4 * h.routers) → words ≡ links_of l joints (4 * h.routers)
      → r ≡ ring_test (4 * h.routers) (leads_to words) → r ≡ false → ring_test (16 * R pl) (hand_edge pl) ≡ false
  links_ring m el ew e f = links_clear (rw (ew, el, m, routers, actives) at e) f

  pub one_ringless : h.routers ≡ 1 → false ≡ has_ring pl
  one_ringless e = one_router told.wired (sym routers ∙ e)

-- ---- the three together
pub ring_by_walks : (pl : Plan) → true ≡ ring_test (4 * R pl) (trail_edge pl) → true ≡ has_ring pl
unfolding has_ring
ring_by_walks pl e = rw (← e)

pub ring_by_links : (pl : Plan) → false ≡ ring_test (4 * R pl) (trail_edge pl)
    → ring_test (16 * R pl) (hand_edge pl) ≡ false → false ≡ has_ring pl
unfolding has_ring
ring_by_links pl e f = rw (← e, f)

pub ring_by_answers : (pl : Plan) {r : Bool} → false ≡ ring_test (4 * R pl) (trail_edge pl)
    → r ≡ ring_test (16 * R pl) (hand_edge pl) → r ≡ has_ring pl
unfolding has_ring
ring_by_answers pl e f = rw (← e) f
