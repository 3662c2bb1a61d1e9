-- What the tables tell of a plan: joints, steps of ways, the walks of served pairs that come to a router, and answers.
use mathlib.Core.Path.{◌≡◌, refl, sym, ap, ◌∙◌}
use mathlib.Core.Logic.{◌⊎◌, inl, inr, ◌≢◌}
use mathlib.Core.Bool.{Bool, true, false, and-eq-true_iff}
use mathlib.Core.List.{List}
use Prim.Native.Nat.{ℕ, zero, suc, ◌+◌, ◌*◌, ◌-◌, ◌/◌, ◌%◌, ◌≤◌, ◌<◌}
use native.Mathlib.Omega.{arith}
use lib.Dec.{eqb, ltb}
use lib.ListN.{get_or}
use borrow.Author.Tests.{eqb-true, eq-eqb, lt-ltb, ltb-true}
use Rattle.basis.specs.Choice.{pick, test}
use Rattle.basis.specs.Walk.{on, spot_none, spot_next, on_before, on_same, way_on}
use Rattle.plan.specs.declared.Head.{Head}
use Rattle.plan.specs.declared.Joint.TheVariants.{Nothing, Router, Active, Passive}
use Rattle.plan.specs.Head.{destinations}
use Rattle.plan.specs.Plan.{Plan, Port, Interface, active, passive, R, A, P, column, Has, route_to}
use Rattle.plan.specs.Rules.{home}
use Rattle.plan.specs.Tables.{joint_of_byte}
use Rattle.plan_walks.specs.Walk.{onward, router_of, walked}
use Rattle.plan_walks.specs.Served.{Served}
use Rattle.plan_queues.specs.Feeds.{Meets}
use Rattle.plan.specs.Head.{Counts}
use Rattle.plan_facts.proofs.Wires.{near, home_inside}
use Rattle.plan_journeys.proofs.Walks.{onward_on, walk_short, serves_of, served_of}
use Rattle.plan_journeys.proofs.Places.{meets_here, meets_next}
use Rattle.sets.specs.Sets.{has}
use Rattle.graph_flow.specs.Carried.{partner_of, beyond_of, In, Leaves, Carried, Spread}
use Rattle.graph_links.specs.Starts.{home_row, starts_of, alone_of, Comes}
use Rattle.graph_links.proofs.Laws.{not_empty}
use Rattle.graph_links.proofs.Members.{member, begun, alone_in, in_alone}
use Rattle.load_rings.specs.Circles.{Answers}
use Rattle.load_rings.specs.Told.{Told}
use Rattle.load_rings.proofs.Tests.{router_onward, back_from, start_inside}

-- ---- a joint's byte
other_joint : (b c : Bool) (m : ℕ) {n t : ℕ} → pick b (Active m) (pick c (Passive m) Nothing) ≡ Router n t → ⊥
other_joint true c m e = let z : ◌≡◌ {A = ℕ} 0 1 = cc in omega arith
other_joint false true m e = let z : ◌≡◌ {A = ℕ} 0 1 = cc in omega arith
other_joint false false m e = let z : ◌≡◌ {A = ℕ} 0 1 = cc in omega arith

byte_router : (v n t : ℕ) → joint_of_byte v ≡ Router n t → pick (eqb (v / 64) 1) (v % 64) 64 ≡ 4 * n + t
unfolding joint_of_byte
byte_router v n t e = by (test (eqb (v / 64) 1))
  where
    by : (eqb (v / 64) 1 ≡ true) ⊎ (eqb (v / 64) 1 ≡ false) → pick (eqb (v / 64) 1) (v % 64) 64 ≡ 4 * n + t
    by (inl q) =
        let s : Router (v / 4 % 16) (v % 4) ≡ Router n t = rw q at e in
        let en : v / 4 % 16 ≡ n = cc in
        let et : v % 4 ≡ t = cc in
        rw q (omega arith)
    by (inr q) = absurd (other_joint (eqb (v / 64) 2) (eqb (v / 64) 3) (v / 4 % 16) (rw q at e))

router_byte : (v : ℕ) → pick (eqb (v / 64) 1) (v % 64) 64 < 64
    → joint_of_byte v ≡ Router (pick (eqb (v / 64) 1) (v % 64) 64 / 4) (pick (eqb (v / 64) 1) (v % 64) 64 % 4)
unfolding joint_of_byte
router_byte v l = by (test (eqb (v / 64) 1))
  where
    by : (eqb (v / 64) 1 ≡ true) ⊎ (eqb (v / 64) 1 ≡ false)
        → joint_of_byte v ≡ Router (pick (eqb (v / 64) 1) (v % 64) 64 / 4) (pick (eqb (v / 64) 1) (v % 64) 64 % 4)
    by (inl q) =
        let en : v / 4 % 16 ≡ v % 64 / 4 = omega arith in
        let et : v % 4 ≡ v % 64 % 4 = omega arith in
        rw (q, en, et)
    by (inr q) = let f : 64 < 64 = rw q at l in absurd (omega arith)

nothing_router : {n t : ℕ} → Nothing ≡ Router n t → ⊥
nothing_router e = let z : ◌≡◌ {A = ℕ} 0 1 = cc in omega arith

module _ {pl : Plan} {h : Head} {by : List (List ℕ)} {joints homes arrive serve : List ℕ} (fits : Counts h)
    (told : Told pl h by joints homes arrive serve) where
  pub few : (R pl ≤ 16) × (A pl ≤ 16) × (P pl ≤ 16)
  few = rw told.same fits

  -- ---- joints
  pub joint_partner : (r s n t : ℕ) → pl.joint r s ≡ Router n t → partner_of joints (4 * r + s) ≡ 4 * n + t
  unfolding partner_of
  joint_partner r s n t e =
      let l = told.wired.inside r s (λ q. nothing_router (sym q ∙ e)) in
      byte_router (get_or joints (4 * r + s) 0) n t (sym (told.joined r s l.0 l.1) ∙ e)

  pub partner_joint : (k : ℕ) → k < 4 * R pl → partner_of joints k < 64
      → pl.joint (k / 4) (k % 4) ≡ Router (beyond_of joints k) (partner_of joints k % 4)
  unfolding partner_of
  partner_joint k l h =
      let e : 4 * (k / 4) + k % 4 ≡ k = omega arith in
      told.joined (k / 4) (k % 4) (omega arith) (omega arith) ∙ ap (λ (i : ℕ). joint_of_byte (get_or joints i 0)) e
      ∙ router_byte (get_or joints k 0) h

  -- ---- sides
  pub leaves_of_lem : (r o d : ℕ) → o < 4 → d < destinations pl.head → pl.route r d ≡ o → Leaves by joints r o d
  leaves_of_lem r o d l m e = told.sides r o d l ∙ rw (lt-ltb d (destinations pl.head) m, eq-eqb (pl.route r d) o e)

  pub of_leaves : (r o d : ℕ) → o < 4 → Leaves by joints r o d → (d < destinations pl.head) × (pl.route r d ≡ o)
  of_leaves r o d l e =
      let b =
      (and-eq-true_iff (ltb d (destinations pl.head)) (eqb (pl.route r d) o)).0 (sym (told.sides r o d l) ∙ e) in
      (ltb-true d (destinations pl.head) b.0, eqb-true (pl.route r d) o b.1)

  column_below : (e : Interface) → Has pl e → column pl e < destinations pl.head
  column_below (active a) l = omega arith
  column_below (passive p) l = omega arith

  -- ---- a step of a way, by the tables
  record Hop (e : Interface) (x z : Port) : Type 0 where
    pub from : x.router < R pl
    pub side : route_to pl e x.router < 4
    pub to : beyond_of joints (4 * x.router + route_to pl e x.router) ≡ z.router
    pub leaves : Leaves by joints x.router (route_to pl e x.router) (column pl e)

  hop : (e : Interface) → Has pl e → (x z : Port) → onward pl e x ≡ on z → Hop e x z
  hop e l x z q =
      let j = onward_on pl e x z q in
      let i = told.wired.inside x.router (route_to pl e x.router) (λ g. nothing_router (sym g ∙ j)) in
      let p = joint_partner x.router (route_to pl e x.router) z.router z.side j in
      let t = near told.wired j in
      record {
        from = i.0;
        side = i.1;
        to = rw p (omega arith);
        leaves = leaves_of_lem x.router (route_to pl e x.router) (column pl e) i.1 (column_below e l) refl;
      }

  hop_on : (e : Interface) (x o y i : ℕ) → x < R pl → o < 4 → Leaves by joints x o (column pl e)
      → beyond_of joints (4 * x + o) ≡ y → y < 16
      → (t : ℕ) × (onward pl e (record { router = x; side = i }) ≡ on (record { router = y; side = t }))
  hop_on e x o y i lx lo d q ly =
      let r : route_to pl e x ≡ o = (of_leaves x o (column pl e) lo d).1 in
      let ex : (4 * x + o) / 4 ≡ x = omega arith in
      let eo : (4 * x + o) % 4 ≡ o = omega arith in
      let j : pl.joint x o ≡ Router (beyond_of joints (4 * x + o)) (partner_of joints (4 * x + o) % 4) =
      rw (ex, eo) at (partner_joint (4 * x + o) (omega arith) (omega arith)) in (
        partner_of joints (4 * x + o) % 4,
        router_onward pl e (record { router = x; side = i }) y (partner_of joints (4 * x + o) % 4)
            (ap (pl.joint x) r ∙ j ∙ ap (λ (n : ℕ). Router n (partner_of joints (4 * x + o) % 4)) q),
      )

  -- ---- ways are carried
  module _ (first : List ℕ) where
    pub carries : (e : Interface) → Has pl e → (from : Port) → In first from.router (column pl e)
        → (k : ℕ) (y : Port) → walked pl e k from ≡ on y
        → Carried by joints (R pl) first (column pl e) k y.router
    carries e l from s zero y q =
        let same : from ≡ y = on_same (sym (spot_none (onward pl e) (on from)) ∙ q) in
        rw (← same) s
    carries e l from s (suc k) y q =
        let b = on_before (onward pl e) (suc k) (on from) y q k (omega arith) in
        let w = hop e l b.0 y (sym (spot_next (onward pl e) k (on from) b.1) ∙ q) in (
          b.0.router,
          route_to pl e b.0.router,
          w.from,
          w.side,
          w.to,
          w.leaves,
          carries e l from s k b.0 b.1,
        )

    -- what is carried sets out where it is at first, and its way leads there
    abbrev Came : Interface → ℕ → Type 0
    Came e y = (s : ℕ) × In first s (column pl e)
        × ((i : ℕ) → (j : ℕ) × Meets pl e (record { router = s; side = i }) (record { router = y; side = j }))

    pub came : (e : Interface) (k y : ℕ) → y < R pl → Carried by joints (R pl) first (column pl e) k y → Came e y
    came e zero y l c = (y, c, λ i. (i, meets_here pl e (record { router = y; side = i })))
    came e (suc k) y l (x, o, lx, lo, q, d, c) = on_way (came e k x lx c)
      where
        on_way : Came e x → Came e y
        on_way (s, u, m) = (s, u, λ i. last i (m i))
          where
            last : (i : ℕ) → (j : ℕ) × Meets pl e (record { router = s; side = i }) (record { router = x; side = j })
                → (j : ℕ) × Meets pl e (record { router = s; side = i }) (record { router = y; side = j })
            last i (j, n) =
                let z = hop_on e x o y j lx lo d q (omega (arith, few)) in (
                  z.0,
                  meets_next pl e (record { router = s; side = i }) (record { router = x; side = j })
                      (record { router = y; side = z.0 }) n z.1,
                )

    pub origin : (d k y : ℕ) → Carried by joints (R pl) first d k y → (s : ℕ) × In first s d
    origin d zero y c = (y, c)
    origin d (suc k) y (x, o, lx, lo, q, u, c) = origin d k x c

  -- ---- the walks of served pairs
  pub home_row_lem : (a : ℕ) → a < A pl → home_row homes a ≡ (home pl (active a)).router
  unfolding home_row
  home_row_lem a l =
      let e = told.homed a l in
      let i = home_inside (active a) told.wired l in
      omega (arith, few, i)

  pub record Walker (who : ℕ → Type 0) (d y : ℕ) : Type 0 where
    pub a : ℕ
    pub p : ℕ
    pub one : who a
    pub has_active : a < A pl
    pub has_passive : p < P pl
    pub column_is : d ≡ A pl + p
    pub serves : Served pl a p
    pub side : ℕ
    pub met : Meets pl (passive p) (home pl (active a)) (record { router = y; side = side })

  -- a table that begins with the passives that some actives are served with, at their homes
  module _ (who : ℕ → Type 0) (first t : List ℕ) (spread : Spread by joints (R pl) first t)
      (sound : (y d : ℕ) → In first y d → (a : ℕ) × who a × (a < A pl) × (home_row homes a ≡ y)
      × (has (get_or serve a 0) d ≡ true))
      (complete : (a d : ℕ) → who a → a < A pl → has (get_or serve a 0) d ≡ true → In first (home_row homes a) d) where
    walker_of : (y d : ℕ) → y < R pl → In t y d → Walker who d y
    walker_of y d l i = found (spread.sound y d i)
      where
        made : (a p s : ℕ) → who a → a < A pl → p < P pl → d ≡ A pl + p → home_row homes a ≡ s
            → has (get_or serve a 0) d ≡ true
            → ((i : ℕ) → (j : ℕ) × Meets pl (passive p) (record { router = s; side = i })
            (record { router = y; side = j })) → Walker who d y
        made a p s w ha hp e r u m =
            let k = m (home pl (active a)).side in
            let same : s ≡ (home pl (active a)).router = sym r ∙ home_row_lem a ha in
            record {
              a = a;
              p = p;
              one = w;
              has_active = ha;
              has_passive = hp;
              column_is = e;
              serves = served_of told.wired a p ha (sym (told.serves.pairs a p ha hp) ∙ (rw e at u));
              side = k.0;
              met = rw same at k.1;
            }

        way : (k : ℕ) → Carried by joints (R pl) first d k y → (p : ℕ) → p < P pl → d ≡ A pl + p → Walker who d y
        way k c p hp e = there (came first (passive p) k y l (rw e at c))
          where
            there : Came first (passive p) y → Walker who d y
            there (s, u, m) =
                let b = sound s (A pl + p) u in
                made b.0 p s b.1 b.2 hp e b.3 (rw e b.4) m

        found : (k : ℕ) × Carried by joints (R pl) first d k y → Walker who d y
        found (k, c) =
            let o = origin first d k y c in
            let b = sound o.0 d o.1 in
            let n = told.serves.known b.0 d b.4 in
            way k c (d - A pl) (omega (arith, n)) (omega (arith, n))

    of_walker : (a p : ℕ) → who a → a < A pl → p < P pl → Served pl a p → (y : Port)
        → Meets pl (passive p) (home pl (active a)) y → In t y.router (A pl + p)
    of_walker a p w ha hp s y m =
        let i = home_inside (active a) told.wired ha in
        let o = way_on (onward pl (passive p)) router_of s.ahead m.steps y m.here in
        let short = walk_short told.wired (passive p) (home pl (active a)) i.0 s.ahead in
        let u : has (get_or serve a 0) (A pl + p) ≡ true =
        told.serves.pairs a p ha hp ∙ serves_of told.wired a p ha s in
        spread.complete m.steps (omega (arith, o.0)) y.router (A pl + p)
        (carries first (passive p) hp (home pl (active a)) (rw (home_row_lem a ha) at (complete a (A pl + p) w ha u))
        m.steps y m.here)

  -- ---- of all actives
  module _ (t : List ℕ) (spread : Spread by joints (R pl) (starts_of homes serve (A pl)) t) where
    begins : (y d : ℕ) → In (starts_of homes serve (A pl)) y d
        → (a : ℕ) × (a < A pl) × (a < A pl) × (home_row homes a ≡ y) × (has (get_or serve a 0) d ≡ true)
    begins y d u = let b = (begun homes serve (A pl)).sound y d u in (b.0, b.1, b.1, b.2, b.3)

    pub all_walker : (y d : ℕ) → y < R pl → In t y d → Walker (λ a. a < A pl) d y
    all_walker = walker_of (λ a. a < A pl) (starts_of homes serve (A pl)) t spread begins
        (λ a d w l u. (begun homes serve (A pl)).complete a d l u)

    pub walker_all : (a p : ℕ) → a < A pl → p < P pl → Served pl a p → (y : Port)
        → Meets pl (passive p) (home pl (active a)) y → In t y.router (A pl + p)
    walker_all a p ha =
        of_walker (λ a. a < A pl) (starts_of homes serve (A pl)) t spread begins
        (λ a d w l u. (begun homes serve (A pl)).complete a d l u) a p ha ha

  -- ---- of one active
  module _ (b : ℕ) (lb : b < A pl) (t : List ℕ) (spread : Spread by joints (R pl) (alone_of homes serve b) t) where
    alone : (y d : ℕ) → In (alone_of homes serve b) y d
        → (a : ℕ) × (a ≡ b) × (a < A pl) × (home_row homes a ≡ y) × (has (get_or serve a 0) d ≡ true)
    alone y d u = let q = alone_in homes serve b y d u in (b, refl, lb, q.0, q.1)

    alone_of_lem : (a d : ℕ) → a ≡ b → a < A pl → has (get_or serve a 0) d ≡ true
        → In (alone_of homes serve b) (home_row homes a) d
    alone_of_lem a d e l u = rw e (in_alone homes serve b d (rw e at u))

    pub one_walker : (y d : ℕ) → y < R pl → In t y d → Walker (λ a. a ≡ b) d y
    one_walker = walker_of (λ a. a ≡ b) (alone_of homes serve b) t spread alone alone_of_lem

    pub walker_one : (p : ℕ) → p < P pl → Served pl b p → (y : Port) → Meets pl (passive p) (home pl (active b)) y
        → In t y.router (A pl + p)
    walker_one p = of_walker (λ a. a ≡ b) (alone_of homes serve b) t spread alone alone_of_lem b p refl lb

  -- ---- answers
  module _ (t : List ℕ) (answers : Rattle.graph_links.specs.Starts.Answers by joints homes serve (R pl) (A pl) t) where
    pub answers_of : (y a : ℕ) → y < R pl → In t y a
        → (a < A pl) × ((i : ℕ) × Answers pl a (record { router = y; side = i }))
    answers_of y a l u = found (answers.spread.sound y a u)
      where
        made : (s : ℕ) → In answers.first s a
            → ((i : ℕ) → (j : ℕ)
            × Meets pl (active a) (record { router = s; side = i }) (record { router = y; side = j }))
            → (a < A pl) × ((i : ℕ) × Answers pl a (record { router = y; side = i }))
        made s v m = begin (answers.answering.sound s a v)
          where
            begin : (a < A pl) × (s < R pl) × Comes by joints homes serve (R pl) a s
                → (a < A pl) × ((i : ℕ) × Answers pl a (record { router = y; side = i }))
            begin (la, ls, (q, spread, n)) =
                let d = member (get_or q s 0) n in
                let w = one_walker a la q spread s d.0 ls d.1 in
                let k = m w.side in (
                  la,
                  (
                    k.0,
                    record {
                      p = w.p;
                      has_active = la;
                      has_passive = w.has_passive;
                      serves = rw w.one at w.serves;
                      start = record { router = s; side = w.side };
                      met = rw w.one at w.met;
                      way = k.1;
                    },
                  ),
                )

        found : (k : ℕ) × Carried by joints (R pl) answers.first a k y
            → (a < A pl) × ((i : ℕ) × Answers pl a (record { router = y; side = i }))
        found (k, c) = let s = came answers.first (active a) k y l c in made s.0 s.1 s.2

    pub of_answers : (a : ℕ) (y : Port) → Answers pl a y → In t y.router a
    of_answers a y s = begin (answers.answering.complete a s.has_active)
      where
        inside : s.start.router < R pl
        inside = (start_inside told.wired a y s).0

        begin : (m : List ℕ) × Spread by joints (R pl) (alone_of homes serve a) m
            × ((x : ℕ) → x < R pl → get_or m x 0 ≢ 0 → In answers.first x a)
            → In t y.router a
        begin (m, spread, put) =
            let v = walker_one a s.has_active m spread s.p s.has_passive s.serves s.start s.met in
            let w = back_from told.wired a y s in
            let o = way_on (onward pl (active a)) router_of w s.way.steps y s.way.here in
            let short = walk_short told.wired (active a) s.start inside w in
            answers.spread.complete s.way.steps (omega (arith, o.0)) y.router a
            (carries answers.first (active a) s.has_active s.start (put s.start.router inside
            (not_empty (get_or m s.start.router 0) (A pl + s.p) v)) s.way.steps y s.way.here)
