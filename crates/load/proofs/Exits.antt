-- Load's tests as the code makes them are those of its definition; its returns, in the order of the code; and Walk's
-- returns.
use Rattle.std.specs.Prelude.{Result, Ok, Err, is_err}
use Rattle.std.proofs.Common.{true≢false}
use mathlib.Core.Path.{◌≡◌, refl, sym, ap, ap₂, subst, ◌∙◌}
use mathlib.Core.Logic.{◌⊎◌, inl, inr}
use mathlib.Core.Bool.{Bool, true, false, ◌&&◌}
use mathlib.Core.List.{List, []}
use Prim.Native.Nat.{ℕ, zero, suc, ◌+◌, ◌*◌, ◌/◌, ◌≤◌, ◌<◌}
use native.Mathlib.Omega.{arith}
use lib.Dec.{ltb}
use lib.ListN.{length, get_or, replicate, length-replicate}
use borrow.Author.Tests.{lt-ltb, le-ltb, eq-eqb, ne_eqb, eqb-true}
use Rattle.basis.specs.Choice.{pick, pick_same}
use Rattle.basis.specs.Bounded.{lt_or_ge}
use Rattle.basis.specs.Fold.{fill_at, fill_past, length_fill}
use Rattle.sets.specs.Sets.{has}
use Rattle.fields.specs.Bits.{field_of}
use Rattle.kinds.specs.declared.Refusal.{Refusal}
use Rattle.kinds.specs.declared.Refusal.TheVariants.{TooShort, OutOfRange, WrongLength, BadField, BadJoint, HasRing}
use Rattle.plan.specs.declared.Head.{Head}
use Rattle.plan.specs.declared.tables.PlanTables.{PlanTables}
use Rattle.plan.specs.Head.{InRange, head_of, head_ok, destinations, routes_at, bit_count, byte_count}
use Rattle.plan.specs.Plan.{Plan, no_side, route_at, plan_of}
use Rattle.plan.specs.Rules.{fill_ok, fields_ok, named_ok, interfaces_ok, ports_of}
use Rattle.plan.specs.Tables.{table_plan, homes_of, row_of, routes_of, joints_of, joint_bytes_ok, routes_ok}
use Rattle.plan_routes.specs.Sides.{sides_of}
use Rattle.plan_routes.specs.Marks.{Routes}
use Rattle.plan_routes.proofs.Routing.{sides_has}
use Rattle.plan.specs.Head.{Counts}
use Rattle.load_rings.specs.RingTest.{has_ring}
use Rattle.plan_facts.proofs.Heads.{head_ok_lem, and_both}
use Rattle.plan_facts.proofs.Fields.{fields_ok_lem}
use Rattle.plan_facts.specs.Wired.{Wired}
use Rattle.plan_facts.proofs.Wires.{wired}
use Rattle.plan_facts.proofs.Tables.{tables_ok, table_plan_lem, named_alike, interfaces_alike}
use Rattle.load.specs.Load.{length_ok, joints_ok, load_of, load_routes, load_joints, load_homes, load_lengths}
use Rattle.load.specs.Load.{load_sides, Blank, Filled, no_routes, no_walks, no_destinations}
use Rattle.load_arrivals.specs.Tables.{PortsIn}
use Rattle.load_arrivals.specs.Pairs.{pair_walk, lengths_of, Tables, Walks}
use Rattle.load_rings.specs.Told.{Told}
use Rattle.load_rings.proofs.Tables.{tables_told}
use Rattle.load_arrivals.proofs.Charts.{ports_in, sides_past}
use Rattle.load.specs.Walk.{walk_of}
use Rattle.load.specs.Lent.{Lent, homes_at, length_at_lem}

-- ---- tables that are as they were
pub kept_filled : {b : List ℕ} {l : Result Head Refusal} {rt ru ways by bz : List (List ℕ)} {jt ju ht hu : List ℕ}
    → ru ≡ rt → ju ≡ jt → hu ≡ ht → bz ≡ by → Filled b l rt jt ht ways by → Filled b l ru ju hu ways bz
kept_filled a b c d f = rw (a, b, c, d) f

pub kept_search : {h : Head} {by bz : List (List ℕ)} {jt ju ht hu arrive serve : List ℕ} {ring : Bool}
    → ju ≡ jt → hu ≡ ht → bz ≡ by → ((pl : Plan) → Told pl h bz ju hu arrive serve → ring ≡ has_ring pl)
    → (pl : Plan) → Told pl h by jt ht arrive serve → ring ≡ has_ring pl
kept_search a b c f pl t = f pl (rw (a, b, c) t)

-- ---- a head in range
pub range_counts : (h : Head) → InRange h → Counts h
range_counts h i = (i.routers.1, i.actives.1, i.passives.1)

pub head_range : (h : Head) {r : Bool} → r ≡ head_ok h → r ≡ true → InRange h
head_range h e q = head_ok_lem h (sym e ∙ q)

-- ---- refusal 3
module _ (b : List ℕ) {h : Head} (read : h ≡ head_of b) where
  pub length_wrong : {n : ℕ} → n ≡ bit_count h → (length b ≡ (n + 7) / 8 → ⊥) → false ≡ length_ok b
  unfolding length_ok
  length_wrong {n} e q = rw (← read, ne_eqb (length b) (byte_count h) (λ k. q (k ∙ ap (λ x. (x + 7) / 8) (sym e))))

  pub length_fits : {n : ℕ} {r : Bool} → n ≡ bit_count h → length b ≡ (n + 7) / 8 → r ≡ fill_ok b n → r ≡ length_ok b
  unfolding length_ok
  length_fits {n} e q f =
      rw (← read, eq-eqb (length b) (byte_count h) (q ∙ ap (λ x. (x + 7) / 8) e)) (f ∙ ap (fill_ok b) e)

  -- a plan of the right length holds all joints
  pub long_enough : {size : Bool} → size ≡ length_ok b → size ≡ true → 6 + 4 * h.routers ≤ length b
  unfolding length_ok
  long_enough e q =
      let long : length b ≡ byte_count h = eqb-true _ _ (and_both (sym e ∙ q)).0 ∙ ap byte_count (sym read) in
      omega (arith, long)

  -- and all routes
  pub holds_all : {size : Bool} → size ≡ length_ok b → size ≡ true → bit_count h ≤ 8 * length b
  unfolding length_ok
  holds_all e q =
      let long : length b ≡ byte_count h = eqb-true _ _ (and_both (sym e ∙ q)).0 ∙ ap byte_count (sym read) in
      omega (arith, long)

  -- ---- refusals 4 to 6, over the tables
  module _ (range : InRange h) where
    pub fields_tested : {j : List ℕ} {t : List (List ℕ)} {r : Bool} → j ≡ joints_of b h → t ≡ routes_of b h
        → r ≡ (joint_bytes_ok h j && routes_ok h t) → r ≡ fields_ok b
    fields_tested ej et e = e ∙ rw (ej, et, read) (tables_ok b (rw (← read) range))

    plan_same : {j : List ℕ} {t : List (List ℕ)} → j ≡ joints_of b h → t ≡ routes_of b h → table_plan h t j ≡ plan_of b
    plan_same ej et = rw (ej, et, read) (table_plan_lem b (rw (← read) range))

    pub joints_tested : {j : List ℕ} {r : Bool} → j ≡ joints_of b h
        → r ≡ (named_ok (table_plan h [] j) && interfaces_ok (table_plan h [] j)) → r ≡ joints_ok b
    unfolding joints_ok
    joints_tested {j} ej e =
        let same = plan_same ej refl in
        e ∙ ap₂ (λ (x y : Bool). x && y) (named_alike h [] (routes_of b h) j ∙ ap named_ok same)
        (interfaces_alike h [] (routes_of b h) j ∙ ap interfaces_ok same)

    pub ring_tested : {j : List ℕ} {t : List (List ℕ)} {r : Bool} → j ≡ joints_of b h → t ≡ routes_of b h
        → r ≡ has_ring (table_plan h t j) → r ≡ has_ring (plan_of b)
    ring_tested ej et e = e ∙ ap has_ring (plan_same ej et)

    pub homes_kept : {j o : List ℕ} {t : List (List ℕ)} → j ≡ joints_of b h → t ≡ routes_of b h
        → o ≡ homes_of (table_plan h t j) → o ≡ homes_of (plan_of b)
    homes_kept ej et e = e ∙ ap homes_of (plan_same ej et)

-- the joints passed their test
pub joints_fit : (h : Head) (j : List ℕ) (fit : Bool) {joined : Bool} → joined ≡ joint_bytes_ok h j → (joined && fit) ≡
    true
    → joint_bytes_ok h j ≡ true
joints_fit h j fit e q = sym e ∙ (and_both q).0

-- the homes do not depend on the routes
pub homes_alike : (h : Head) (routes other : List (List ℕ)) (joints : List ℕ)
    → homes_of (table_plan h routes joints) ≡ homes_of (table_plan h other joints)
unfolding homes_of ports_of table_plan
homes_alike h routes other joints = refl

-- ---- the tables that walks are swept with
module _ (b : List ℕ) (h : Head) (rt : List (List ℕ)) (jt ht : List ℕ) (by : List (List ℕ)) where
  row_long : InRange h → rt ≡ routes_of b h → (r : ℕ) → r < 16 → length (get_or rt r []) ≡ 32
  unfolding routes_of row_of
  row_long range routed r l = go (lt_or_ge r h.routers)
    where
      most : h.routers ≤ 16
      most = range.routers.1

      rest : (n i : ℕ) → i < n → length (get_or (replicate n (replicate 32 no_side)) i []) ≡ 32
      rest zero i q = absurd (omega arith)
      rest (suc n) zero q = length-replicate 32 no_side
      rest (suc n) (suc i) q = rest n i (omega arith)

      go : (r < h.routers) ⊎ (h.routers ≤ r) → length (get_or rt r []) ≡ 32
      go (inl k) =
          ap (λ (x : List (List ℕ)). length (get_or x r [])) routed
          ∙ ap length (fill_at (λ i. row_of b (destinations h) (routes_at h + 3 * (destinations h * i))) h.routers
          (replicate 16 (replicate 32 no_side)) r [] k (rw length-replicate most))
          ∙ length_fill (λ d. field_of b (routes_at h + 3 * (destinations h * r) + 3 * d) 3) (destinations h)
          (replicate 32 no_side)
          ∙ length-replicate 32 no_side
      go (inr k) =
          ap (λ (x : List (List ℕ)). length (get_or x r [])) routed
          ∙ ap length (fill_past (λ i. row_of b (destinations h) (routes_at h + 3 * (destinations h * i))) h.routers
          (replicate 16 (replicate 32 no_side)) r [] k)
          ∙ rest 16 r l

  pub tables_of : h ≡ head_of b → InRange h → table_plan h rt jt ≡ plan_of b → Wired (plan_of b) → rt ≡ routes_of b h
      → ht ≡ homes_of (table_plan h rt jt)
      → by ≡ sides_of (table_plan h rt jt) → Tables h rt jt ht by
  unfolding table_plan plan_of
  tables_of read range same wires routed homed sided = record {
    chart = record {
      wired = subst Wired (sym same) wires;
      routers = range.routers.1;
      few = few;
      joined = λ r o l. rw (lt-ltb o 4 l);
      ports = λ d l. ap (λ (x : List ℕ). get_or x d 0) homed ∙ homes_at (table_plan h rt jt) d few l;
      sides = λ r o d l. ap (λ (x : List (List ℕ)). has (get_or (get_or x r []) o 0) d) sided
          ∙ sides_has (table_plan h rt jt) range.routers.1 beyond r o d l;
      past = beyond;
    };
    rows = row_long range routed;
    past = λ r d l. route r d
        ∙ rw (le-ltb d (destinations (head_of b)) (rw (← read) l)) (pick_same (ltb r (head_of b).routers) no_side);
  }
    where
      few : destinations h ≤ 32
      few = let a = range.actives.1 in let p = range.passives.1 in omega arith

      route : (r d : ℕ) → get_or (get_or rt r []) d no_side
          ≡ pick (ltb r (head_of b).routers)
          (pick (ltb d (destinations (head_of b))) (field_of b (route_at (head_of b) r d) 3) no_side) no_side
      route r d = ap (λ (pl : Plan). pl.route r d) same

      beyond : (r d : ℕ) → h.routers ≤ r → get_or (get_or rt r []) d no_side ≡ no_side
      beyond r d l = route r d ∙ rw (le-ltb r (head_of b).routers (rw (← read) l))

-- so walks can be swept
pub sweeps_ready : (h : Head) (rt : List (List ℕ)) (jt ht : List ℕ) (by : List (List ℕ)) → Counts h
    → Tables h rt jt ht by → Counts h × PortsIn ht (h.actives + h.passives)
    × ((r o d : ℕ) → h.routers ≤ r → o < 4 → has (get_or (get_or by r []) o 0) d ≡ false)
unfolding table_plan
sweeps_ready h rt jt ht by few w =
    (few, ports_in (table_plan h rt jt) by jt ht w.chart, sides_past (table_plan h rt jt) by jt ht w.chart)

-- and the search for a ring tells of the plan of the tables
pub ring_told : (h : Head) (rt : List (List ℕ)) (jt ht : List ℕ) (by : List (List ℕ)) {arrive : List ℕ}
    {ways : List (List ℕ)}
    {serve : List ℕ} {ring : Bool} → Counts h → ht ≡ homes_of (table_plan h rt jt) → Tables h rt jt ht by
    → Walks h rt jt ht by arrive ways serve → ((pl : Plan) → Told pl h by jt ht arrive serve → ring ≡ has_ring pl)
    → ring ≡ has_ring (table_plan h rt jt)
ring_told h rt jt ht by few homed told walked search =
    let w = walked told in
    search (table_plan h rt jt) (tables_told h rt jt few told.chart.wired homed told.chart.sides w.0 w.1)

-- ---- Load's returns
module _ (b : List ℕ) where
  -- nothing is said of the tables after a refusal
  abbrev Refuses : Refusal → Type 0
  Refuses w =
      (t : List (List ℕ)) (j o : List ℕ) (u sides : List (List ℕ)) → Filled b (Err w) t j o u sides

  refused : {w : Refusal} → Err w ≡ load_of b → Refuses w
  refused e t j o u sides = record {
    answer = e;
    routed = ap (load_routes b t) e;
    joined = ap (load_joints b j) e;
    homed = ap (load_homes b o) e;
    sized = ap (load_lengths b u) e;
    sided = ap (load_sides b sides) e;
  }

  pub too_short : length b < 6 → Refuses TooShort
  unfolding load_of
  too_short l = refused (rw (lt-ltb (length b) 6 l))

  module _ (six : 6 ≤ length b) {h : Head} (read : h ≡ head_of b) {ranges : Bool} (range : ranges ≡ head_ok h) where
    ranged : head_ok (head_of b) ≡ ranges
    ranged = ap head_ok (sym read) ∙ sym range

    pub out_of_range : ranges ≡ false → Refuses OutOfRange
    unfolding load_of
    out_of_range q = refused (rw (le-ltb (length b) 6 six, ranged, q))

    module _ (two : ranges ≡ true) {size : Bool} (sized : size ≡ length_ok b) where
      pub wrong_length : size ≡ false → Refuses WrongLength
      unfolding load_of
      wrong_length q = refused (rw (le-ltb (length b) 6 six, ranged, two, ← sized, q))

      module _ (three : size ≡ true) {jt : List ℕ} (joined : jt ≡ joints_of b h) {rt : List (List ℕ)}
          (routed : rt ≡ routes_of b h)
          {fields : Bool} (fielded : fields ≡ (joint_bytes_ok h jt && routes_ok h rt)) where
        inside : InRange h
        inside = head_range h range two

        fitted : fields_ok b ≡ fields
        fitted = sym (fields_tested b read inside joined routed fielded)

        pub bad_field : fields ≡ false → Refuses BadField
        unfolding load_of
        bad_field q = refused (rw (le-ltb (length b) 6 six, ranged, two, ← sized, three, fitted, q))

        module _ (four : fields ≡ true) {named : Bool}
            (jointed : named ≡ (named_ok (table_plan h [] jt) && interfaces_ok (table_plan h [] jt))) where
          matched : joints_ok b ≡ named
          matched = sym (joints_tested b read inside joined jointed)

          -- the tables are those of a plan whose joints match
          pub tables : named ≡ true → {ht : List ℕ} → ht ≡ homes_of (table_plan h [] jt)
              → {by : List (List ℕ)} {fit : Bool} → Routes b h rt by fit → Tables h rt jt ht by
          unfolding joints_ok
          tables five {ht} homed {by} read-in =
              let plan = plan_same b read inside joined routed in
              let passed = and_both (matched ∙ five) in
              tables_of b h rt jt ht by read inside plan
              (wired b (fields_ok_lem b (fitted ∙ four)) passed.0 passed.1) routed
              (homed ∙ homes_alike h [] rt jt) (read-in.sides jt)

          pub bad_joint : named ≡ false → Refuses BadJoint
          unfolding load_of
          bad_joint q = refused (rw (le-ltb (length b) 6 six, ranged, two, ← sized, three, fitted, four, matched, q))

          -- with the walks of all pairs found, and rings searched for
          module _ (five : named ≡ true) {ht : List ℕ} (homed : ht ≡ homes_of (table_plan h [] jt)) {by : List (List ℕ)}
              {fit : Bool} (read-in : Routes b h rt by fit) {arrive : List ℕ} {ways : List (List ℕ)} {serve : List ℕ}
              (walked : Walks h rt jt ht by arrive ways serve) {ring : Bool}
              (search : (pl : Plan) → Told pl h by jt ht arrive serve → ring ≡ has_ring pl) where
            home_ports : ht ≡ homes_of (table_plan h rt jt)
            home_ports = homed ∙ homes_alike h [] rt jt

            told : Tables h rt jt ht by
            told = tables five homed read-in

            circled : has_ring (plan_of b) ≡ ring
            circled =
                sym
                (ring_tested b read inside joined routed
                (ring_told h rt jt ht by (range_counts h inside) home_ports told walked search))

            pub has_ring_lem : ring ≡ true → Refuses HasRing
            unfolding load_of
            has_ring_lem q = refused
                (rw (le-ltb (length b) 6 six, ranged, two, ← sized, three, fitted, four, matched, five, circled, q))

            pub accepted : ring ≡ false → Filled b (Ok h) rt jt ht ways by
            unfolding load_of
            accepted q =
                let e : Ok h ≡ load_of b = rw (
                  le-ltb (length b) 6 six,
                  ranged,
                  two,
                  ← sized,
                  three,
                  fitted,
                  four,
                  matched,
                  five,
                  circled,
                  q,
                  read,
                ) in
                let same : ht ≡ homes_of (plan_of b) = homes_kept b read inside joined routed home_ports in
                record {
                  answer = e;
                  routed = routed ∙ ap (load_routes b rt) e;
                  joined = joined ∙ ap (load_joints b jt) e;
                  homed = same ∙ ap (load_homes b ht) e;
                  sized = (walked told).2 ∙ ap lengths_of (plan_same b read inside joined routed)
                      ∙ ap (load_lengths b ways) e;
                  sided = read-in.sides jt ∙ ap sides_of (plan_same b read inside joined routed)
                      ∙ ap (load_sides b by) e;
                }

-- ---- what is lent: an accepted plan's tables, else blank ones
module _ (b : List ℕ) where
  abbrev Lends : Result Head Refusal → List (List ℕ) → List ℕ → List ℕ → List (List ℕ) → List (List ℕ) → Type 0
  Lends l routes joints homes lengths sides =
      (l ≡ load_of b) × (routes ≡ load_routes b no_routes (load_of b)) ×
      (joints ≡ load_joints b (replicate 64 0) (load_of b))
      × (homes ≡ load_homes b (replicate 32 0) (load_of b)) × (lengths ≡ load_lengths b no_walks (load_of b))
      × (sides ≡ load_sides b no_destinations (load_of b))

  pub lent_accepted : (l : Result Head Refusal) {routes : List (List ℕ)} {joints homes : List ℕ}
      {lengths sides : List (List ℕ)} → is_err l ≡ false → Filled b l routes joints homes lengths sides
      → Lends l routes joints homes lengths sides
  lent_accepted (Ok h) a f =
      let e : load_of b ≡ Ok h = sym f.answer in (
        f.answer,
        f.routed ∙ rw e,
        f.joined ∙ rw e,
        f.homed ∙ rw e,
        f.sized ∙ rw e,
        f.sided ∙ rw e,
      )
  lent_accepted (Err w) a f = absurd (true≢false a)

  pub lent_refused : (l : Result Head Refusal) {t : PlanTables} → is_err l ≡ true → l ≡ load_of b → Blank t
      → Lends l t.routes t.joints t.homes t.lengths t.by
  lent_refused (Err w) a f n = (
    f,
    n.0.0 ∙ ap (load_routes b no_routes) f,
    n.1 ∙ ap (load_joints b (replicate 64 0)) f,
    n.2 ∙ ap (load_homes b (replicate 32 0)) f,
    n.3 ∙ ap (load_lengths b no_walks) f,
    n.0.1 ∙ ap (load_sides b no_destinations) f,
  )
  lent_refused (Ok h) a f n = absurd (true≢false (sym a))

-- ---- Walk's returns
module _ (b : List ℕ) (a p : ℕ) {l : Result Head Refusal} (known : l ≡ load_of b) where
  pub walk_refused : {w : Refusal} → l ≡ Err w → 0 ≡ walk_of b a p
  unfolding walk_of
  walk_refused e = rw (← known, e)

  module _ {h : Head} (told : l ≡ Ok h) where
    pub walk_no_active : h.actives ≤ a → 0 ≡ walk_of b a p
    unfolding walk_of
    walk_no_active k = rw (← known, told, le-ltb a h.actives k)

    pub walk_no_passive : a < h.actives → h.passives ≤ p → 0 ≡ walk_of b a p
    unfolding walk_of
    walk_no_passive la k = rw (← known, told, lt-ltb a h.actives la, le-ltb p h.passives k)

    pub walk_of_pair : {t : List (List ℕ)} {j o : List ℕ} {u : List (List ℕ)} {n : ℕ} → Lent b h t j o u
        → a < h.actives → p < h.passives → n ≡ get_or (get_or u a []) p 0 → n ≡ walk_of b a p
    unfolding walk_of table_plan
    walk_of_pair {t} {j} {o} {u} lent la lp e =
        let ma = lent.range.actives.1 in
        let mp = lent.range.passives.1 in
        e ∙ ap (λ (x : List (List ℕ)). get_or (get_or x a []) p 0) lent.walks
        ∙ length_at_lem (table_plan h t j) a p ma mp la lp
        ∙ rw (← known, told, lt-ltb a h.actives la, lt-ltb p h.passives lp)
        (ap (λ (x : Plan). pair_walk x a p) lent.plan)
