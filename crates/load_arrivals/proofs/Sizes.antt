-- What the sweeps leave: the destinations at which each router's walk arrives, and how many routers its walk has.
use mathlib.Core.Path.{◌≡◌, refl, sym, ◌∙◌}
use mathlib.Core.Logic.{◌⊎◌, inl, inr}
use mathlib.Core.Bool.{true, ◌&&◌, true≢false}
use mathlib.Core.List.{List, []}
use Prim.Native.Nat.{ℕ, zero, suc, ◌+◌, ◌≤◌, ◌<◌}
use native.Mathlib.Omega.{arith}
use lib.Dec.{eqb, ltb}
use lib.ListN.{get_or}
use borrow.Author.Tests.{eqb-true, lt-ltb, ltb-true, le-ltb}
use Rattle.basis.specs.Choice.{pick}
use Rattle.basis.specs.Bounded.{any_true, lt_or_ge}
use Rattle.basis.specs.Walk.{on, end, spot, spot_next, spot_none, way_of_end, way_on, count_is}
use Rattle.plan.specs.declared.Joint.{Joint}
use Rattle.plan.specs.declared.Joint.TheVariants.{Nothing, Router, Active, Passive}
use Rattle.plan.specs.Head.{destinations}
use Rattle.plan.specs.Plan.{Plan, Port, R}
use Rattle.plan.specs.Tables.{interface_at}
use Rattle.plan_walks.specs.Walk.{onward, router_of, Walk, arrives, walk_size}
use Rattle.plan_walks.specs.Drawn.{Arrivals}
use Rattle.plan_facts.specs.Wired.{Wired}
use Rattle.plan_journeys.proofs.Walks.{alike, walk_short}
use Rattle.sets.specs.Sets.{has, below}
use Rattle.sets.specs.Laws.{has_below}
use Rattle.graph_reach.specs.Reach.{side_set, beyond, reach_in, Reached}
use Rattle.graph_reach.specs.Sizes.{far_in, Far}
use Rattle.graph_reach.proofs.Sweeps.{and_parts, reach_cases, reach_idle}
use Rattle.load_arrivals.specs.Tables.{nexts_of, firsts_of}
use Rattle.load_arrivals.specs.Charted.{Charted, Charting}
use Rattle.load_arrivals.proofs.Arrive.{first_end, router_on, spot_front, reached_arrives}
use Rattle.load_arrivals.proofs.Charts.{first_has, ports_in, charted}

-- ---- how many routers
module _ (pl : Plan) (by : List (List ℕ)) (next first : List ℕ) (wired : Wired pl)
    (chart : Charted pl by next first) (d : ℕ)
    (known : d < destinations pl.head) where
  pub far_idle : (k r : ℕ) → R pl ≤ r → far_in by next first d k r ≡ true → ⊥
  unfolding far_in
  far_idle zero r l e = true≢false (sym e ∙ chart.idle.here r d l)
  far_idle (suc k) r l e = go (any_true 4 (λ o. has (side_set by next r o) d && far_in by next first d k
      (beyond by next r o)) e)
    where
      go : (o : ℕ) × (o < 4) × ((has (side_set by next r o) d && far_in by next first d k (beyond by next r o)) ≡ true)
          → ⊥
      go (o, m, q) = true≢false (sym (and_parts _ _ q).0 ∙ chart.idle.sides r o d l m)

  -- a side that has the destination leads on to the router beyond it, if there is one
  pub side_on : (r s o : ℕ) → r < R pl → o < 4 → has (side_set by next r o) d ≡ true → beyond by next r o < R pl
      → (t : ℕ) × (onward pl (interface_at pl.head d) (record { router = r; side = s })
      ≡ on (record { router = beyond by next r o; side = t }))
  side_on r s o l m q b = joint (pl.joint r o) refl
    where
      none : ((n t : ℕ) → pl.joint r o ≡ Router n t → ⊥) → ⊥
      none f = let a = chart.offs r o l m f in omega arith

      joint : (j : Joint) → pl.joint r o ≡ j
          → (t : ℕ) × (onward pl (interface_at pl.head d) (record { router = r; side = s })
          ≡ on (record { router = beyond by next r o; side = t }))
      joint (Router n t) c = (
        t,
        rw (chart.nexts r o n t l m c)
            (router_on pl by next first wired chart d known r s o n t
            (eqb-true _ _ (sym (chart.sides r o d l m known) ∙ q)) c),
      )
      joint Nothing c = absurd (none (λ n t g. clash (sym c ∙ g)))
        where
          clash : {n t : ℕ} → Nothing ≡ Router n t → ⊥
          clash g = let z : ◌≡◌ {A = ℕ} 0 1 = cc in omega arith
      joint (Active i) c = absurd (none (λ n t g. clash (sym c ∙ g)))
        where
          clash : {n t : ℕ} → Active i ≡ Router n t → ⊥
          clash g = let z : ◌≡◌ {A = ℕ} 0 1 = cc in omega arith
      joint (Passive i) c = absurd (none (λ n t g. clash (sym c ∙ g)))
        where
          clash : {n t : ℕ} → Passive i ≡ Router n t → ⊥
          clash g = let z : ◌≡◌ {A = ℕ} 0 1 = cc in omega arith

  -- the last router of the walk, k routers after the first
  abbrev pub Ends : ℕ → ℕ → ℕ → Type 0
  Ends k r s =
      (y : Port) × (spot (onward pl (interface_at pl.head d)) k (on (record { router = r; side = s })) ≡ on y)
      × (onward pl (interface_at pl.head d) y ≡ end)

  pub far_walk : (k r s : ℕ) → r < R pl → far_in by next first d k r ≡ true → Ends k r s
  unfolding far_in
  far_walk zero r s l e =
      (record { router = r; side = s }, spot_none _ _, first_end pl by next first wired chart d known r s l e)
  far_walk (suc k) r s l e = go (λ n t m z. far_walk k n t m z)
      (any_true 4 (λ o. has (side_set by next r o) d && far_in by next first d k (beyond by next r o)) e)
    where
      on_from : (o : ℕ) → o < 4 → has (side_set by next r o) d ≡ true → far_in by next first d k (beyond by next r o)
          ≡ true
          → ((n t : ℕ) → n < R pl → far_in by next first d k n ≡ true → Ends k n t)
          → (beyond by next r o < R pl) ⊎ (R pl ≤ beyond by next r o) → Ends (suc k) r s
      on_from o m p z rec (inl b) =
          let y = side_on r s o l m p b in
          let w = rec (beyond by next r o) y.0 b z in (
            w.0,
            spot_front pl by next first wired chart d known k (record { router = r; side = s })
                (on (record { router = beyond by next r o; side = y.0 })) y.1 ∙ w.1,
            w.2,
          )
      on_from o m p z rec (inr b) = absurd (far_idle k _ b z)

      go : ((n t : ℕ) → n < R pl → far_in by next first d k n ≡ true → Ends k n t)
          → (o : ℕ) × (o < 4) × ((has (side_set by next r o) d && far_in by next first d k (beyond by next r o))
          ≡ true) → Ends (suc k) r s
      go rec (o, m, q) =
          let p = and_parts _ _ q in on_from o m p.0 p.1 rec (lt_or_ge (beyond by next r o) (R pl))

  -- so it is a walk that arrives, of k routers after the first
  pub far_way : (k : ℕ) (x : Port) → x.router < R pl → far_in by next first d k x.router ≡ true
      → Walk pl (interface_at pl.head d) x
  far_way k x l e =
      let w = far_walk k x.router x.side l e in
      let step = onward pl (interface_at pl.head d) in
      (way_of_end step router_of (alike pl (interface_at pl.head d)) (suc k) x (spot_next step k (on x) w.1 ∙ w.2)
      ).0

  pub far_count : (k : ℕ) (x : Port) → x.router < R pl → far_in by next first d k x.router ≡ true
      → (k < R pl) × (walk_size pl (interface_at pl.head d) x ≡ suc k)
  unfolding walk_size
  far_count k x l e =
      let w = far_walk k x.router x.side l e in
      let step = onward pl (interface_at pl.head d) in
      let way = far_way k x l e in
      let inside = (way_on step router_of way k w.0 w.1).0 in
      let short = walk_short wired (interface_at pl.head d) x l way in
      let less : k < R pl = omega arith in
      (less, count_is step k (on x) w.0 w.1 w.2 (R pl) less)

  -- a size in the table is the walk's
  pub far_size : R pl ≤ 16 → (x : Port) {v : ℕ} → x.router < R pl → Far by next first d x.router v
      → v ≡ walk_size pl (interface_at pl.head d) x
  far_size most x {v} l (k, e, f) = let w = far_count k x l e in f ∙ whole w.0 ∙ sym w.1
    where
      whole : k < R pl → pick (ltb (k + 1) 16) (k + 1) 16 ≡ suc k
      whole b = by' (lt_or_ge (k + 1) 16)
        where
          by' : (k + 1 < 16) ⊎ (16 ≤ k + 1) → pick (ltb (k + 1) 16) (k + 1) 16 ≡ suc k
          by' (inl m) = rw (lt-ltb (k + 1) 16 m) (omega arith)
          by' (inr m) = rw (le-ltb (k + 1) 16 m) (omega arith)

-- ---- arrivals
module _ (pl : Plan) (by : List (List ℕ)) (joints homes : List ℕ) (w : Charting pl by joints homes) where
  side_known : (r o d : ℕ) → o < 4 → has (get_or (get_or by r []) o 0) d ≡ true → d < destinations pl.head
  side_known r o d m q =
      ltb-true d (destinations pl.head) (and_parts (ltb d (destinations pl.head)) (eqb (pl.route r d) o)
      (sym (w.sides r o d m) ∙ q)).0

  first_known : (r d : ℕ) → has (get_or (firsts_of by homes (destinations pl.head)) r 0) d ≡ true
      → d < destinations pl.head
  first_known r d q =
      ltb-true d (destinations pl.head)
      (and_parts (ltb d (destinations pl.head)) _ (sym (first_has by homes (destinations pl.head) r d
      (ports_in pl by joints homes w)) ∙ q)).0

  reach_known : (k r d : ℕ) → reach_in by (nexts_of joints (R pl)) (firsts_of by homes (destinations pl.head)) d k r
      ≡ true
      → d < destinations pl.head
  unfolding reach_in
  reach_known zero r d q = first_known r d q
  reach_known (suc k) r d q = go (reach_cases by (nexts_of joints (R pl))
      (firsts_of by homes (destinations pl.head)) d k r q)
    where
      go : (has (get_or (firsts_of by homes (destinations pl.head)) r 0) d ≡ true)
          ⊎ ((o : ℕ) × (o < 4) × (has (side_set by (nexts_of joints (R pl)) r o) d ≡ true)
          × (reach_in by (nexts_of joints (R pl)) (firsts_of by homes (destinations pl.head)) d k
          (beyond by (nexts_of joints (R pl)) r o) ≡ true))
          → d < destinations pl.head
      go (inl a) = first_known r d a
      go (inr (o, m, p, z)) = side_known r o d m p

  pub arrivals : (t : List ℕ)
      → Reached by (nexts_of joints (R pl)) (R pl) (below (destinations pl.head))
      (firsts_of by homes (destinations pl.head)) t
      → Arrivals pl t
  arrivals t f = record { there = there'; known = known' }
    where
      there' : (x : Port) (d : ℕ) → x.router < R pl → d < destinations pl.head
          → has (get_or t x.router 0) d ≡ arrives pl (interface_at pl.head d) x
      there' x d l k =
          reached_arrives pl by (nexts_of joints (R pl)) (firsts_of by homes (destinations pl.head)) w.wired
          (charted pl by joints homes w) d k (below (destinations pl.head)) t f
          (has_below (destinations pl.head) d ∙ lt-ltb d (destinations pl.head) k) x l

      inside : (k r d : ℕ) → reach_in by (nexts_of joints (R pl)) (firsts_of by homes (destinations pl.head)) d k r
          ≡ true
          → (r < R pl) ⊎ (R pl ≤ r) → r < R pl
      inside k r d q (inl l) = l
      inside k r d q (inr l) = absurd (reach_idle by _ (R pl) _ (charted pl by joints homes w).idle d k r l q)

      known' : (r d : ℕ) → has (get_or t r 0) d ≡ true → (r < R pl) × (d < destinations pl.head)
      known' r d q =
          let s = f.sound r d q in
          (inside s.0 r d s.1 (lt_or_ge r (R pl)), reach_known s.0 r d s.1)
