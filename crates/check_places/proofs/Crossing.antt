-- The test of K decides Fits, for a served pair: an answer comes from the passive, or a NACK from the n-th router.
use mathlib.Core.Path.{◌≡◌, refl, sym, ap, ◌∙◌}
use mathlib.Core.Logic.{◌⊎◌, inl, inr}
use mathlib.Core.Bool.{Bool, true, false}
use mathlib.Core.List.{List, []}
use Prim.Native.Nat.{ℕ, zero, suc, ◌+◌, ◌*◌, ◌/◌, ◌%◌, ◌<◌}
use native.Mathlib.Omega.{arith}
use lib.Dec.{eqb}
use lib.ListN.{get_or}
use borrow.Author.Tests.{eqb-true, eq-eqb}
use Rattle.basis.specs.Choice.{also, test, not_both}
use Rattle.basis.specs.Fold.{up_none, up_suc}
use Rattle.basis.specs.Walk.{on, on_same, spot_none, spot_next, way_on}
use Rattle.packets.specs.declared.Kind.{Kind}
use Rattle.packets.specs.declared.Kind.TheVariants.{Setup, Tdown, Ack, Nack}
use Rattle.plan.specs.Plan.{Plan, Port, Interface, active, passive, A, P, route_to}
use Rattle.plan.specs.Rules.{port_of, home, ports_of, port_or0}
use Rattle.plan.specs.Tables.{interface_at}
use Rattle.plan_walks.specs.Walk.{onward, router_of, walked}
use Rattle.plan_walks.specs.Served.{Served}
use Rattle.plan_queues.specs.Queue.{K}
use Rattle.plan_queues.specs.Feeds.{in_queue, Meets, Stands, span, Ahead, Returns, Back, Fits}
use Rattle.plan_facts.proofs.Wires.{home_inside}
use Rattle.plan_journeys.proofs.Walks.{onward_on}
use Rattle.plan_journeys.proofs.Places.{back_walk, nack_walk}
use Rattle.load_arrivals.specs.Charted.{Charting}
use Rattle.load_arrivals.specs.Tracks.{Tracks}
use Rattle.theory.proofs.Places.Closure.{stands_below, span_is}
use Rattle.theory.proofs.Places.CameIn.{stands_inside, stands_exit}
use Rattle.valid.proofs.Decides.{Decides, like, never, less, same, both}
use Rattle.check_places.specs.declared.Trip.{Trip}
use Rattle.check_places.specs.Look.{track_at, onward_of, nth_of, next_by, comes_by, nack_by, answer_as, answer_by}
use Rattle.check_places.specs.Look.{cross_by}
use Rattle.check_places.proofs.OnTrack.{active_at, passive_at, told, Trips}
use Rattle.check_places.proofs.ComesIn.{byte_router, later_front, front_later, next_decides, comes_decides}

-- the port of the interface of a column
pub home_at : {pl : Plan} {by : List (List ℕ)} {joints homes : List ℕ} → Charting pl by joints homes → (e : Interface)
    (d : ℕ)
    → d < A pl + P pl → interface_at pl.head d ≡ e → port_of (get_or homes d 0) ≡ home pl e
unfolding home
home_at {pl} chart e d l q = ap port_of (chart.ports d l) ∙ ap (λ (f : Interface). port_of (port_or0 (ports_of pl f))) q

module _ {pl : Plan} {by : List (List ℕ)} {joints homes : List ℕ} (chart : Charting pl by joints homes) (a p : ℕ)
    (ha : a < A pl) (hp : p < P pl) (s : Served pl a p) (t : Trip) (trip : Trips pl a p t) (routes : List (List ℕ))
    (routed : (r d : ℕ) → r < 16 → d < 32 → pl.route r d ≡ get_or (get_or routes r []) d 0) where
  -- ---- the n-th router of the walk
  given : (n r i : ℕ) → Stands pl a p n r i → get_or (get_or routes r []) t.column 0 ≡ route_to pl (passive p) r
  given n r i f =
      let b = stands_inside chart.wired a p ha hp s n r i f in
      let few = chart.few in
      let most = chart.routers in
      rw trip.column (sym (routed r (A pl + p) (omega arith) (omega arith)))

  -- the router that the walk goes to
  goes_on : (n r i : ℕ) → suc n < span pl a p → Stands pl a p n r i
      → (j : ℕ) × Stands pl a p (suc n) (onward_of routes joints t.column r) j
  unfolding onward_of
  goes_on n r i l f =
      let long = span_is chart.wired a p ha hp s in
      let o = way_on (onward pl (passive p)) router_of s.ahead n (record { router = r; side = i }) f in
      let z : Port = s.ahead.stop (suc n) in
      let step : onward pl (passive p) (record { router = r; side = i }) ≡ on (s.ahead.stop (suc n))
      = rw o.1 at (s.ahead.goes n (omega arith)) in
      let exit = stands_exit chart.wired a p ha hp s n r i f in
      let byte = byte_router (get_or joints (4 * r + route_to pl (passive p) r) 0)
      (sym (chart.joined r (route_to pl (passive p) r) exit)
      ∙ onward_on pl (passive p) (record { router = r; side = i }) (s.ahead.stop (suc n)) step) in (
        (s.ahead.stop (suc n)).side,
        rw (given n r i f) (spot_next (onward pl (passive p)) n (on (home pl (active a))) f ∙ step
            ∙ ap (λ (m : ℕ). on (record { router = m; side = (s.ahead.stop (suc n)).side })) (sym byte.1)),
      )

  pub nth_stands : (n : ℕ) → n < span pl a p → (i : ℕ) × Stands pl a p n (nth_of routes joints t n) i
  unfolding nth_of
  nth_stands zero l = (
    t.home % 4,
    spot_none (onward pl (passive p)) (on (home pl (active a))) ∙ ap on (sym trip.from)
        ∙ ap (λ (r : ℕ). on (record { router = r; side = t.home % 4 }))
        (up_none (λ i. onward_of routes joints t.column) (t.home / 4)),
  )
  nth_stands (suc n) l =
      let f = nth_stands n (omega arith) in
      let g = goes_on n (nth_of routes joints t n) f.0 l f.1 in
      (g.0, rw (up_suc (λ i. onward_of routes joints t.column) n (t.home / 4)) g.1)

  pub nth_inside : (n : ℕ) → n < span pl a p
      → (nth_of routes joints t n < 16) × (get_or (get_or routes (nth_of routes joints t n) []) t.column 0 < 4)
  nth_inside n l =
      let f = nth_stands n l in
      let b = stands_inside chart.wired a p ha hp s n (nth_of routes joints t n) f.0 f.1 in
      let most = chart.routers in (
        omega arith,
        rw (given n (nth_of routes joints t n) f.0 f.1)
            (stands_exit chart.wired a p ha hp s n (nth_of routes joints t n) f.0 f.1),
      )

  module _ (up : List (List ℕ)) (tracks : Tracks pl up) (y : Port) (inside : y.router < 16) (four : y.side < 4) (hub
      : ℕ) where
    -- ---- from the passive
    pub far_decides : Decides (comes_by joints by up (get_or homes t.column 0) a (4 * y.router + y.side))
        (Meets pl (active a) (home pl (passive p)) y)
    far_decides =
        let port = ap (λ (d : ℕ). port_of (get_or homes d 0)) trip.column
        ∙ home_at chart (passive p) (A pl + p) (omega arith) (passive_at pl p) in
        comes_decides chart up tracks (active a) a (omega arith) (active_at pl a ha) refl (home pl (passive p))
        (home_inside (passive p) chart.wired hp).0 (back_walk chart.wired a p ha hp s) y four
        (get_or homes t.column 0) port

    -- ---- from the unit of the n-th router
    abbrev FromUnit : Type 0
    FromUnit =
        (x z : Port) × (walked pl (passive p) hub (home pl (active a)) ≡ on x) × (onward pl (active a) x ≡ on z)
        × Meets pl (active a) z y

    from_nth : hub < span pl a p
        → Decides (next_by joints by (track_at up (nth_of routes joints t hub) a) a (4 * y.router + y.side)) FromUnit
    from_nth l = like
        (next_decides chart up tracks (active a) a (omega arith) (active_at pl a ha) refl x
        (stands_inside chart.wired a p ha hp s hub (nth_of routes joints t hub) f.0 f.1).0
        (nack_walk chart.wired a p ha hp s x (record { steps = hub; here = f.1 })) y four)
        (λ g. let n = later_front pl (active a) x y g in (x, n.0, f.1, n.1, n.2))
        (λ g. front_later pl (active a) x y g.1 (rw (on_same (sym f.1 ∙ g.2)) g.3) g.4)
      where
        f : (i : ℕ) × Stands pl a p hub (nth_of routes joints t hub) i
        f = nth_stands hub l

        x : Port
        x = record { router = nth_of routes joints t hub; side = f.0 }

    pub near_decides : Decides (nack_by routes joints by up t a (4 * y.router + y.side) hub) FromUnit
    unfolding nack_by
    near_decides =
        let long = trip.size in
        like (both (less hub t.length) (λ l. from_nth (omega arith))) (λ f. f.1)
        (λ f. let l = stands_below chart.wired a p ha hp s hub f.0 f.2 in (omega arith, f))

    -- ---- both
    -- with the walk's length it is the passive's
    from_passive : hub ≡ span pl a p → Returns pl a p hub y → Meets pl (active a) (home pl (passive p)) y
    from_passive e (inl (m, q)) = m
    from_passive e (inr (x, z, f, o, m)) =
        let l = stands_below chart.wired a p ha hp s hub x f in absurd (omega arith)

    pub returns_nack : Decides (answer_as t.length hub
        (comes_by joints by up (get_or homes t.column 0) a (4 * y.router + y.side))
        (nack_by routes joints by up t a (4 * y.router + y.side) hub) Nack)
        (Returns pl a p hub y)
    returns_nack = go (test (eqb hub t.length))
      where
        long : t.length ≡ span pl a p
        long = trip.size

        fail : (hub ≡ t.length → ⊥) → Returns pl a p hub y → FromUnit
        fail e (inl (m, q)) = absurd (e (q ∙ sym long))
        fail e (inr f) = f

        go : (eqb hub t.length ≡ true) ⊎ (eqb hub t.length ≡ false)
            → Decides (answer_as t.length hub
            (comes_by joints by up (get_or homes t.column 0) a (4 * y.router + y.side))
            (nack_by routes joints by up t a (4 * y.router + y.side) hub) Nack) (Returns pl a p hub y)
        go (inl q) =
            let e : hub ≡ span pl a p = eqb-true hub t.length q ∙ long in
            told (rw q) (like far_decides (λ m. inl (m, e)) (from_passive e))
        go (inr q) = told (rw q) (like near_decides inr (fail (λ e. not_both (eq-eqb hub t.length e) q)))

    pub cross_decides : (o : ℕ) (k : Kind)
        → Decides (cross_by routes joints homes by up t a (4 * y.router + y.side) o k hub)
        (Fits pl k a p hub (in_queue (K y.router y.side o)))
    unfolding cross_by answer_by Ahead Back
    cross_decides o k =
        let back : (4 * y.router + y.side) / 4 ≡ y.router = omega arith in
        let few = chart.few in
        let side = ap (λ (r : ℕ). get_or (get_or routes r []) a 0) back
        ∙ sym (routed y.router a inside (omega arith)) in
        answer k (told (ap (λ (n : ℕ). eqb n o) side) (same (route_to pl (active a) y.router) o))
      where
        answer : (k : Kind) {b : Bool} → Decides b (route_to pl (active a) y.router ≡ o)
            → Decides (also b (answer_as t.length hub
            (comes_by joints by up (get_or homes t.column 0) a (4 * y.router + y.side))
            (nack_by routes joints by up t a (4 * y.router + y.side) hub) k))
            (Fits pl k a p hub (in_queue (K y.router y.side o)))
        answer Setup d = like (both d (λ q. never (λ (f : ⊥). f))) (λ f. absurd f.1) (λ f. absurd f)
        answer Tdown d = like (both d (λ q. never (λ (f : ⊥). f))) (λ f. absurd f.1) (λ f. absurd f.1)
        answer Ack d =
            let long = trip.size in
            like (both d (λ q. both (same hub t.length) (λ e. far_decides)))
            (λ f. ((inl (f.1.1, f.1.0 ∙ long), sym f.0), f.1.0 ∙ long))
            (λ f. (sym f.0.1, (f.1 ∙ sym long, from_passive f.1 f.0.0)))
        answer Nack d = like (both d (λ q. returns_nack)) (λ f. (f.1, sym f.0)) (λ f. (sym f.1, f.0))
