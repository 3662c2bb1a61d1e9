-- The tests of places decide Fits, for a served pair: at units, at sides and at interfaces.
use mathlib.Core.Path.{◌≡◌, refl, sym, ap, ◌∙◌}
use mathlib.Core.Bool.{Bool, true, false}
use mathlib.Core.List.{List, []}
use Prim.Native.Nat.{ℕ, suc, ◌+◌, ◌*◌, ◌-◌, ◌/◌, ◌≤◌, ◌<◌}
use native.Mathlib.Omega.{arith}
use lib.Dec.{eqb}
use lib.ListN.{get_or}
use borrow.Author.Tests.{eq-eqb, ne_eqb}
use Rattle.basis.specs.Choice.{also}
use Rattle.packets.specs.declared.Kind.{Kind}
use Rattle.packets.specs.declared.Kind.TheVariants.{Setup, Tdown, Ack, Nack}
use Rattle.plan.specs.Plan.{Plan, active, passive, A, P, route_to}
use Rattle.plan.specs.Rules.{home}
use Rattle.plan_walks.specs.Served.{Served}
use Rattle.plan_queues.specs.Queue.{Heading, ahead, back, active_out, active_in, passive_in, passive_out, U, Q, F}
use Rattle.plan_queues.specs.Feeds.{heading_of, destination, in_queue, handled_at, Meets, Stands, span, Ahead, Back}
use Rattle.plan_queues.specs.Feeds.{Fits}
use Rattle.plan_queues.specs.Feeds.{head_place}
use Rattle.plan_facts.specs.Wired.{Wired}
use Rattle.plan_facts.proofs.Wires.{home_inside}
use Rattle.load_arrivals.specs.Charted.{Charting}
use Rattle.load_arrivals.specs.Tracks.{Tracks}
use Rattle.theory.proofs.Places.Closure.{stands_below}
use Rattle.theory.proofs.Places.CameIn.{stands_once}
use Rattle.valid.proofs.Decides.{Decides, like, never, less, most, same, both}
use Rattle.check_places.specs.declared.Trip.{Trip}
use Rattle.check_places.specs.declared.Standing.{Standing}
use Rattle.check_places.specs.Look.{standing_of, frees_up_to, coming_as, coming, leaving_as}
use Rattle.check_places.specs.Look.{leaving, unit_by, side_by, comes_by}
use Rattle.check_places.specs.Look.{column_of, out_by, active_out_as, passive_out_as, active_in_as, passive_in_as}
use Rattle.check_places.proofs.OnTrack.{passive_at, told, Trips, Here, stood, off, standing}
use Rattle.check_places.proofs.ComesIn.{comes_decides}

pub frees : (hub n : ℕ) → Decides (frees_up_to hub n) ((1 ≤ hub) × (hub ≤ n))
unfolding frees_up_to
frees hub n = like (both (less 0 hub) (λ l. most hub n)) (λ f. (omega (arith, f.0), f.1)) (λ f. (
  omega (arith, f.0),
  f.1,
))

module _ {pl : Plan} (wired : Wired pl) (a p : ℕ) (ha : a < A pl) (hp : p < P pl) (s : Served pl a p) where
  -- ---- at the unit of router r
  module _ (r : ℕ) (v : Standing) where
    once : (n m i j : ℕ) → Stands pl a p n r i → Stands pl a p m r j → n ≡ m
    once n m i j f g =
        stands_once wired a p ha hp s n m (record { router = r; side = i }) (record { router = r; side = j }) f g refl

    -- not handled
    pub coming_decides : Here pl a p r v → (k : Kind) (hub : ℕ)
        → Decides (coming v k hub) ((i : ℕ) × Fits pl k a p hub (in_queue (Q r i)))
    unfolding coming Ahead Back
    coming_decides (off z none) k hub = told (rw (eq-eqb v.ahead 0 z)) (never (no k))
      where
        no : (k : Kind) → (i : ℕ) × Fits pl k a p hub (in_queue (Q r i)) → ⊥
        no Setup (i, f) = none hub i f
        no Tdown (i, (n, f, h, l)) = none n i f
        no Ack (i, (f, e)) = f
        no Nack (i, f) = f
    coming_decides (stood i f sum some) k hub =
        told (rw (ne_eqb v.ahead 0 (λ q. omega arith))) (as' k)
      where
        as' : (k : Kind) → Decides (coming_as v hub k) ((i : ℕ) × Fits pl k a p hub (in_queue (Q r i)))
        as' Setup = like (same hub v.behind) (λ q. (i, rw q f)) (λ g. once hub v.behind g.0 i g.1 f)
        as' Tdown =
            like (frees hub v.ahead) (λ q. (i, (v.behind, f, q.0, omega (arith, q.1))))
            (λ g. let n = once g.1.0 v.behind g.0 i g.1.1 f in (g.1.2, omega (arith, g.1.3)))
        as' Ack = never (λ g. g.1.0)
        as' Nack = never (λ g. g.1)

    -- handled
    pub leaving_decides : Here pl a p r v → (k : Kind) (hub : ℕ)
        → Decides (leaving v k hub) ((i : ℕ) × Fits pl k a p hub (handled_at r i))
    unfolding leaving Ahead Back
    leaving_decides (off z none) k hub = told (rw (eq-eqb v.ahead 0 z)) (never (no k))
      where
        no : (k : Kind) → (i : ℕ) × Fits pl k a p hub (handled_at r i) → ⊥
        no Setup (i, (m, f, e)) = none m i f
        no Tdown (i, (n, (m, f, e), h, l)) = none m i f
        no Ack (i, (f, e)) = none hub i f
        no Nack (i, f) = none hub i f
    leaving_decides (stood i f sum some) k hub =
        told (rw (ne_eqb v.ahead 0 (λ q. omega arith))) (as' k)
      where
        as' : (k : Kind) → Decides (leaving_as v hub k) ((i : ℕ) × Fits pl k a p hub (handled_at r i))
        as' Setup =
            like (same hub (v.behind + 1)) (λ q. (i, (v.behind, f, omega (arith, q))))
            (λ g. let n = once g.1.0 v.behind g.0 i g.1.1 f in omega (arith, g.1.2))
        as' Tdown =
            like (frees hub (v.ahead - 1))
            (λ q. (i, (suc v.behind, (v.behind, f, refl), q.0, omega (arith, q.1))))
            (λ g. let n = once g.1.1.0 v.behind g.0 i g.1.1.1 f in
            (g.1.2, omega (arith, g.1.1.2, g.1.3)))
        as' Ack = never (λ g. let l = stands_below wired a p ha hp s hub (record { router = r; side = g.0 }) g.1.0
            in omega (arith, g.1.1))
        as' Nack = like (same hub v.behind) (λ q. (i, rw q f)) (λ g. once hub v.behind g.0 i g.1 f)

  -- ---- interfaces' queues; n is the walk's length
  module _ (n : ℕ) (long : n ≡ span pl a p) (x hub : ℕ) where
    pub active_out_lem : (k : Kind) → Decides (also (eqb x a) (active_out_as n hub k))
        (Fits pl k a p hub (in_queue (active_out
        x)))
    unfolding active_out_as Ahead Back
    active_out_lem Setup = both (same x a) (λ e. same hub 0)
    active_out_lem Tdown =
        like (both (same x a) (λ e. frees hub n)) (λ f. (0, (f.0, refl), f.1.0, omega (arith, f.1.1, long)))
        (λ f. (f.1.0, (f.2, omega (arith, f.1.1, f.3, long))))
    active_out_lem Ack = like (both (same x a) (λ e. never (λ (f : ⊥). f))) (λ f. absurd f.1) (λ f. absurd f.0)
    active_out_lem Nack = like (both (same x a) (λ e. never (λ (f : ⊥). f))) (λ f. absurd f.1) (λ f. absurd f)

    pub passive_out_lem : (k : Kind)
        → Decides (also (eqb x p) (passive_out_as n hub k)) (Fits pl k a p hub (in_queue (passive_out x)))
    unfolding passive_out_as Ahead Back
    passive_out_lem Setup = like (both (same x p) (λ e. never (λ (f : ⊥). f))) (λ f. absurd f.1) (λ f. absurd f)
    passive_out_lem Tdown = like (both (same x p) (λ e. never (λ (f : ⊥). f))) (λ f. absurd f.1) (λ f. absurd f.1)
    passive_out_lem Ack = like (both (same x p) (λ e. same hub n)) (λ f. ((f.0, f.1 ∙ long), f.1 ∙ long))
        (λ f. (f.0.0, f.1 ∙ sym long))
    passive_out_lem Nack = like (both (same x p) (λ e. same hub n)) (λ f. (f.0, f.1 ∙ long)) (λ f. (
      f.0,
      f.1 ∙ sym
          long,
    ))

    pub active_in_lem : (k : Kind) → Decides (also (eqb x a) (active_in_as n hub k))
        (Fits pl k a p hub (in_queue (active_in
        x)))
    unfolding active_in_as Ahead Back
    active_in_lem Setup = like (both (same x a) (λ e. never (λ (f : ⊥). f))) (λ f. absurd f.1) (λ f. absurd f)
    active_in_lem Tdown = like (both (same x a) (λ e. never (λ (f : ⊥). f))) (λ f. absurd f.1) (λ f. absurd f.1)
    active_in_lem Ack = like (both (same x a) (λ e. same hub n))
        (λ f. ((f.0, omega (arith, f.1, long)), f.1 ∙ long)) (λ f. (f.0.0, f.1 ∙ sym long))
    active_in_lem Nack = like (both (same x a) (λ e. most hub n)) (λ f. (f.0, omega (arith, f.1, long)))
        (λ f. (f.0, omega (arith, f.1, long)))

    pub passive_in_lem : (k : Kind)
        → Decides (also (eqb x p) (passive_in_as n hub k)) (Fits pl k a p hub (in_queue (passive_in x)))
    unfolding passive_in_as Ahead Back
    passive_in_lem Setup = like (both (same x p) (λ e. same hub n)) (λ f. (f.0, f.1 ∙ long)) (λ f. (
      f.0,
      f.1 ∙ sym
          long,
    ))
    passive_in_lem Tdown = like (both (same x p) (λ e. never (λ (f : ⊥). f))) (λ f. absurd f.1)
        (λ f. absurd (late f.0 f.1.1 f.2 f.3))
      where
        late : (m : ℕ) → m ≡ span pl a p → 1 ≤ hub → m + hub ≤ span pl a p → ⊥
        late m e h l = omega arith
    passive_in_lem Ack = like (both (same x p) (λ e. never (λ (f : ⊥). f))) (λ f. absurd f.1) (λ f. absurd f.0)
    passive_in_lem Nack = like (both (same x p) (λ e. never (λ (f : ⊥). f))) (λ f. absurd f.1) (λ f. absurd f)

-- ---- at a router, by the tables
module _ {pl : Plan} {by : List (List ℕ)} {joints homes : List ℕ} (chart : Charting pl by joints homes)
    (up : List (List ℕ)) (tracks : Tracks pl up) (a p : ℕ) (ha : a < A pl) (hp : p < P pl) (s : Served pl a p) (t :
    Trip)
    (trip : Trips pl a p t) (r : ℕ) (l : r < 16) (k : Kind) (hub : ℕ) where
  here : Here pl a p r (standing_of up t r)
  here = standing chart.wired up tracks a p ha hp s t trip r l

  -- the walk comes in by a side
  pub comes_by_lem : (i : ℕ) → i < 4 → Decides (comes_by joints by up t.home t.column (4 * r + i))
      (Meets pl (passive p) (home pl (active a)) (record { router = r; side = i }))
  comes_by_lem i four =
      let column = trip.column in
      comes_decides chart up tracks (passive p) t.column (omega arith) (rw trip.column (passive_at pl p))
      (sym trip.column) (home pl (active a)) (home_inside (active a) chart.wired ha).0 s.ahead
      (record { router = r; side = i }) four t.home trip.from

  -- it stands there, so by that side
  come : (i n j : ℕ) → Stands pl a p n r j
      → Meets pl (passive p) (home pl (active a)) (record { router = r; side = i }) → Stands pl a p n r i
  come i n j f m = rw (once chart.wired a p ha hp s r (standing_of up t r) n m.steps j i f m.here) m.here

  module _ (i : ℕ) (four : i < 4) where
    port_back : (4 * r + i) / 4 ≡ r
    port_back = omega arith

    here_comes : Decides (coming (standing_of up t ((4 * r + i) / 4)) k hub)
        ((j : ℕ) × Fits pl k a p hub (in_queue (Q r j)))
    here_comes = told (ap (λ (n : ℕ). coming (standing_of up t n) k hub) port_back)
        (coming_decides chart.wired a p ha hp s r (standing_of up t r) here k hub)

    here_leaves : Decides (leaving (standing_of up t ((4 * r + i) / 4)) k hub)
        ((j : ℕ) × Fits pl k a p hub (handled_at r j))
    here_leaves = told (ap (λ (n : ℕ). leaving (standing_of up t n) k hub) port_back)
        (leaving_decides chart.wired a p ha hp s r (standing_of up t r) here k hub)

    -- Q: at the unit, and the walk comes in by the side
    pub unit_decides : (done : Bool) → Decides (unit_by joints by up t (4 * r + i) done k hub)
        (Fits pl k a p hub (head_place done (Q r i)))
    unfolding unit_by Ahead Back
    unit_decides true = like (both here_leaves (λ f. comes_by_lem i four)) (to k) (of k)
      where
        to : (k : Kind) → ((j : ℕ) × Fits pl k a p hub (handled_at r j))
            × Meets pl (passive p) (home pl (active a)) (record { router = r; side = i })
            → Fits pl k a p hub (handled_at r i)
        to Setup ((j, (n, f, e)), m) = (n, come i n j f m, e)
        to Tdown ((j, (n, (v, f, e), h, g)), m) = (n, (v, come i v j f m, e), h, g)
        to Ack ((j, (f, e)), m) = (come i hub j f m, e)
        to Nack ((j, f), m) = come i hub j f m

        of : (k : Kind) → Fits pl k a p hub (handled_at r i) → ((j : ℕ) × Fits pl k a p hub (handled_at r j))
            × Meets pl (passive p) (home pl (active a)) (record { router = r; side = i })
        of Setup (n, f, e) = ((i, (n, f, e)), record { steps = n; here = f })
        of Tdown (n, (v, f, e), h, g) = ((i, (n, (v, f, e), h, g)), record { steps = v; here = f })
        of Ack (f, e) = ((i, (f, e)), record { steps = hub; here = f })
        of Nack f = ((i, f), record { steps = hub; here = f })
    unit_decides false = like (both here_comes (λ f. comes_by_lem i four)) (to k) (of k)
      where
        to : (k : Kind) → ((j : ℕ) × Fits pl k a p hub (in_queue (Q r j)))
            × Meets pl (passive p) (home pl (active a)) (record { router = r; side = i })
            → Fits pl k a p hub (in_queue (Q r i))
        to Setup ((j, f), m) = come i hub j f m
        to Tdown ((j, (n, f, h, g)), m) = (n, come i n j f m, h, g)
        to Ack ((j, (f, e)), m) = absurd f
        to Nack ((j, f), m) = absurd f

        of : (k : Kind) → Fits pl k a p hub (in_queue (Q r i)) → ((j : ℕ) × Fits pl k a p hub (in_queue (Q r j)))
            × Meets pl (passive p) (home pl (active a)) (record { router = r; side = i })
        of Setup f = ((i, f), record { steps = hub; here = f })
        of Tdown (n, f, h, g) = ((i, (n, f, h, g)), record { steps = n; here = f })
        of Ack (f, e) = absurd f
        of Nack f = absurd f

    -- U: as in Q, not handled
    pub side_decides : Decides (side_by joints by up t (4 * r + i) k hub) (Fits pl k a p hub (in_queue (U r i)))
    unfolding side_by Ahead Back
    side_decides = like (both here_comes (λ f. comes_by_lem i four)) (to k) (of k)
      where
        to : (k : Kind) → ((j : ℕ) × Fits pl k a p hub (in_queue (Q r j)))
            × Meets pl (passive p) (home pl (active a)) (record { router = r; side = i })
            → Fits pl k a p hub (in_queue (U r i))
        to Setup ((j, f), m) = come i hub j f m
        to Tdown ((j, (n, f, h, g)), m) = (n, come i n j f m, h, g)
        to Ack ((j, (f, e)), m) = absurd f
        to Nack ((j, f), m) = absurd f

        of : (k : Kind) → Fits pl k a p hub (in_queue (U r i)) → ((j : ℕ) × Fits pl k a p hub (in_queue (Q r j)))
            × Meets pl (passive p) (home pl (active a)) (record { router = r; side = i })
        of Setup f = ((i, f), record { steps = hub; here = f })
        of Tdown (n, f, h, g) = ((i, (n, f, h, g)), record { steps = n; here = f })
        of Ack (f, e) = absurd f
        of Nack f = absurd f

  -- F: handled it would fit, and its destination's side is the queue's
  pub out_decides : (routes : List (List ℕ)) (o : ℕ)
      → ((d : ℕ) → d < 32 → pl.route r d ≡ get_or (get_or routes r []) d 0)
      → Decides (out_by routes up t r o a k hub) (Fits pl k a p hub (in_queue (F (heading_of k) r o)))
  unfolding out_by Ahead Back
  out_decides routes o routed =
      like
      (both (told (ap (λ (n : ℕ). eqb n o) (given k)) (same (route_to pl (destination (heading_of k) a p) r) o))
      (λ f. leaving_decides chart.wired a p ha hp s r (standing_of up t r) here k hub))
      (to k) (of k)
    where
      few : A pl + P pl ≤ 32
      few = chart.few

      given : (k : Kind) → get_or (get_or routes r []) (column_of t a k) 0 ≡ route_to pl
          (destination (heading_of k) a p) r
      given Setup = rw trip.column (sym (routed (A pl + p) (omega arith)))
      given Tdown = rw trip.column (sym (routed (A pl + p) (omega arith)))
      given Ack = sym (routed a (omega arith))
      given Nack = sym (routed a (omega arith))

      to : (k : Kind) → (route_to pl (destination (heading_of k) a p) r ≡ o) × ((i : ℕ) × Fits pl k a p hub
          (handled_at r i))
          → Fits pl k a p hub (in_queue (F (heading_of k) r o))
      to Setup (q, (i, (m, f, e))) = (i, m, f, e, sym q)
      to Tdown (q, (i, (n, (m, f, e), h, g))) = (n, (i, m, f, e, sym q), h, g)
      to Ack (q, (i, (f, e))) = ((i, f, sym q), e)
      to Nack (q, (i, f)) = (i, f, sym q)

      of : (k : Kind) → Fits pl k a p hub (in_queue (F (heading_of k) r o))
          → (route_to pl (destination (heading_of k) a p) r ≡ o) × ((i : ℕ) × Fits pl k a p hub (handled_at r i))
      of Setup (i, m, f, e, q) = (sym q, (i, (m, f, e)))
      of Tdown (n, (i, m, f, e, q), h, g) = (sym q, (i, (n, (m, f, e), h, g)))
      of Ack ((i, f, q), e) = (sym q, (i, (f, e)))
      of Nack (i, f, q) = (sym q, (i, f))

  -- and in the other F it does not
  pub other_decides : (o : ℕ) (g : Heading) → (g ≡ heading_of k → ⊥) → Fits pl k a p hub (in_queue (F g r o)) → ⊥
  unfolding Ahead Back
  other_decides o g ne = by' k g ne
    where
      by' : (k : Kind) (g : Heading) → (g ≡ heading_of k → ⊥) → Fits pl k a p hub (in_queue (F g r o)) → ⊥
      by' Setup ahead ne f = ne refl
      by' Setup back ne f = f
      by' Tdown ahead ne f = ne refl
      by' Tdown back ne f = f.1
      by' Ack back ne f = ne refl
      by' Ack ahead ne f = f.0
      by' Nack back ne f = ne refl
      by' Nack ahead ne f = f
