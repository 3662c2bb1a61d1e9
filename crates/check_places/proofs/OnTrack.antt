-- What a walk's track says: the routers that the walk meets, and how many there are from each of them on.
use mathlib.Core.Path.{◌≡◌, refl, sym, ap, ◌∙◌}
use mathlib.Core.Logic.{◌⊎◌, inl, inr}
use mathlib.Core.Bool.{Bool, true, false}
use mathlib.Core.List.{List}
use Prim.Native.Nat.{ℕ, suc, ◌+◌, ◌-◌, ◌/◌, ◌<◌}
use native.Mathlib.Omega.{arith}
use borrow.Author.Tests.{lt-ltb, le-ltb}
use Rattle.basis.specs.Choice.{test, not_both}
use Rattle.basis.specs.Bounded.{any_below}
use Rattle.basis.specs.Walk.{on, spot, spot_add, count_is, way_at, way_on, way_tail}
use Rattle.sets.specs.Sets.{has}
use Rattle.plan.specs.Head.{destinations}
use Rattle.plan.specs.Plan.{Plan, Port, Interface, active, passive, R, A, P}
use Rattle.plan.specs.Rules.{port_of, home}
use Rattle.plan.specs.Tables.{interface_at}
use Rattle.plan_walks.specs.Walk.{onward, router_of, Walk, walked, arrives, walk_size}
use Rattle.plan_walks.specs.Served.{Served}
use Rattle.plan_walks.specs.Steps.{stands_on}
use Rattle.plan_queues.specs.Feeds.{Meets, Stands, span}
use Rattle.plan_facts.specs.Wired.{Wired}
use Rattle.plan_facts.proofs.Wires.{home_inside}
use Rattle.plan_journeys.proofs.Walks.{arrives_of, size_is, walk_short}
use Rattle.plan_journeys.proofs.Places.{meets_inside}
use Rattle.load_arrivals.specs.Tracks.{Tracks}
use Rattle.valid.proofs.Decides.{Decides, like, any_below_lem}
use Rattle.valid.proofs.Fitting.{stands_on_lem}
use Rattle.check_places.specs.declared.Trip.{Trip}
use Rattle.check_places.specs.declared.Standing.{Standing}
use Rattle.check_places.specs.Look.{track_at, track_of, standing_of}

-- ---- columns
pub active_at : (pl : Plan) (a : ℕ) → a < A pl → interface_at pl.head a ≡ active a
active_at pl a l = rw (lt-ltb a (A pl) l)

pub passive_at : (pl : Plan) (p : ℕ) → interface_at pl.head (A pl + p) ≡ passive p
passive_at pl p =
    let back : A pl + p - A pl ≡ p = omega arith in
    rw (le-ltb (A pl + p) (A pl) (omega arith), back)

-- a test that is another decides what the other does
pub told : {s t : Bool} {X : Type 0} → s ≡ t → Decides t X → Decides s X
told e d = record { holds = λ q. d.holds (sym e ∙ q); passes = λ x. e ∙ d.passes x }

-- ---- the track of a walk that arrives
module _ {pl : Plan} (wired : Wired pl) (up : List (List ℕ)) (tracks : Tracks pl up) (e : Interface) (d : ℕ)
    (known : d < destinations pl.head) (column : interface_at pl.head d ≡ e) (x : Port) (inside : x.router < R
    pl)
    (w : Walk pl e x) where
  arrived : arrives pl (interface_at pl.head d) x ≡ true
  arrived = ap (λ (f : Interface). arrives pl f x) column ∙ arrives_of wired e x inside w

  -- its members are the routers that the walk meets
  pub track_has : (r : ℕ) → r < 16
      → Decides (has (track_at up x.router d) r) ((i : ℕ) × Meets pl e x (record { router = r; side = i }))
  track_has r l =
      told
      (tracks.met x d r inside known l arrived
      ∙ ap (λ (f : Interface). any_below (R pl) (λ k. stands_on r (walked pl f k x))) column)
      (like (any_below_lem (R pl) _ (λ k. (i : ℕ) × (walked pl e k x ≡ on (record { router = r; side = i })))
      (λ k m. stands_on_lem r (walked pl e k x)))
      (λ f. (f.2.0, record { steps = f.0; here = f.2.1 }))
      (λ f. let short = walk_short wired e x inside w in
      let o = way_on (onward pl e) router_of w f.1.steps (record { router = r; side = f.0 }) f.1.here in
      (f.1.steps, omega arith, (f.0, f.1.here))))

  -- and it holds how many they are
  pub track_size : track_at up x.router d / 65536 ≡ walk_size pl e x
  track_size = tracks.size x d inside known arrived ∙ ap (λ (f : Interface). walk_size pl f x) column

-- ---- a pair's walk
pub record Trips (pl : Plan) (a p : ℕ) (t : Trip) : Type 0 where
  pub from : port_of t.home ≡ home pl (active a)
  pub column : t.column ≡ A pl + p
  pub size : t.length ≡ span pl a p

-- where a router stands on it, or that it does not
pub data Here (pl : Plan) (a p r : ℕ) (v : Standing) : Type 0 where
  stood : (i : ℕ) → Stands pl a p v.behind r i → v.behind + v.ahead ≡ span pl a p → 0 < v.ahead → Here pl a p r v
  off : v.ahead ≡ 0 → ((n i : ℕ) → Stands pl a p n r i → ⊥) → Here pl a p r v

module _ {pl : Plan} (wired : Wired pl) (up : List (List ℕ)) (tracks : Tracks pl up) (a p : ℕ) (ha : a < A pl)
    (hp : p < P pl) (s : Served pl a p) (t : Trip) (trip : Trips pl a p t) where
  from_inside : (home pl (active a)).router < R pl
  from_inside = (home_inside (active a) wired ha).0

  same_track : track_of up t ≡ track_at up (home pl (active a)).router (A pl + p)
  same_track =
      ap (λ (x : Port). track_at up x.router t.column) trip.from
      ∙ ap (track_at up (home pl (active a)).router) trip.column

  pub on_track : (r : ℕ) → r < 16
      → Decides (has (track_of up t) r) ((i : ℕ) × Meets pl (passive p) (home pl (active a)) (record {
        router = r;
        side
            = i;
      }))
  on_track r l = told (ap (λ (z : ℕ). has z r) same_track)
      (track_has wired up tracks (passive p) (A pl + p) (omega arith) (passive_at pl p) (home pl (active a))
      from_inside
      s.ahead r l)

  -- from the n-th router on the walk has so many routers
  module _ (n : ℕ) (x : Port) (f : walked pl (passive p) n (home pl (active a)) ≡ on x) where
    place : (n < s.ahead.size) × (s.ahead.stop n ≡ x)
    place = way_on (onward pl (passive p)) router_of s.ahead n x f

    tail : Walk pl (passive p) x
    tail = rw place.1 at (way_tail (onward pl (passive p)) router_of s.ahead n place.0)

    inside : x.router < R pl
    inside = (meets_inside wired (passive p) (home pl (active a)) s.ahead (home_inside (active a) wired ha) x
        (record { steps = n; here = f })).0

    abbrev last : ℕ
    last = s.ahead.size - 1 - n

    last_at : walked pl (passive p) last x ≡ on (s.ahead.stop (s.ahead.size - 1))
    last_at =
        let l = place.0 in
        let same : last + n ≡ s.ahead.size - 1 = omega arith in
        ap (spot (onward pl (passive p)) last) (sym f)
        ∙ sym (spot_add (onward pl (passive p)) last n (on (home pl (active a))))
        ∙ ap (λ (k : ℕ). walked pl (passive p) k (home pl (active a))) same
        ∙ way_at (onward pl (passive p)) router_of s.ahead (s.ahead.size - 1) (omega arith)

    tail_size : walk_size pl (passive p) x ≡ suc last
    unfolding walk_size
    tail_size =
        let l = place.0 in
        let short = walk_short wired (passive p) (home pl (active a)) from_inside s.ahead in
        count_is (onward pl (passive p)) last (on x) (s.ahead.stop (s.ahead.size - 1)) last_at
        (s.ahead.ends (s.ahead.size - 1) (omega arith)) (R pl) (omega arith)

    pub rest_is : (n + track_at up x.router t.column / 65536 ≡ span pl a p) × (n < span pl a p)
    rest_is =
        let l = place.0 in
        let all = size_is wired (passive p) (home pl (active a)) from_inside s.ahead in
        let size = track_size wired up tracks (passive p) (A pl + p) (omega arith) (passive_at pl p) x inside tail
        ∙ tail_size in
        (rw trip.column (omega arith), omega arith)

  -- ---- where a router stands
  pub standing : (r : ℕ) → r < 16 → Here pl a p r (standing_of up t r)
  unfolding standing_of
  standing r l = by (test (has (track_of up t) r))
    where
      by : (has (track_of up t) r ≡ true) ⊎ (has (track_of up t) r ≡ false) → Here pl a p r (standing_of up t r)
      by (inl q) =
          let m = (on_track r l).holds q in
          let e = rest_is m.1.steps (record { router = r; side = m.0 }) m.1.here in
          let long = trip.size in
          let n : t.length - track_at up r t.column / 65536 ≡ m.1.steps = omega arith in
          rw q (stood m.0 (rw n m.1.here) (omega arith) (omega arith))
      by (inr q) = rw q (off refl (λ n i f. not_both ((on_track r l).passes (i, record { steps = n; here = f })) q))
