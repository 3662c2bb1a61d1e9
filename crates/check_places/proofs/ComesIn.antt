-- By which side a walk comes in to a router: the joint there leads back to a router of its track.
use mathlib.Core.Path.{◌≡◌, refl, sym, ap, ◌∙◌}
use mathlib.Core.Logic.{◌⊎◌, inl, inr}
use mathlib.Core.Bool.{Bool, true, false}
use mathlib.Core.List.{List}
use Prim.Native.Nat.{ℕ, zero, suc, ◌+◌, ◌*◌, ◌/◌, ◌%◌, ◌<◌}
use native.Mathlib.Numerals.{add-one}
use native.Mathlib.Omega.{arith}
use lib.Dec.{eqb}
use lib.ListN.{get_or}
use borrow.Author.Tests.{eqb-true, eq-eqb, lt-ltb}
use Rattle.basis.specs.Choice.{pick}
use Rattle.basis.specs.Walk.{on, end, on_same, spot, spot_none, spot_next, spot_add, on_before, on_front}
use Rattle.plan.specs.declared.Joint.TheVariants.{Nothing, Router, Active, Passive}
use Rattle.plan.specs.Head.{destinations}
use Rattle.plan.specs.Plan.{Plan, Port, Interface, R, column, route_to}
use Rattle.plan.specs.Rules.{port_of}
use Rattle.plan.specs.Tables.{interface_at, joint_of_byte}
use Rattle.plan_walks.specs.Walk.{onward, Walk, walked}
use Rattle.plan_walks.specs.Steps.{port_number}
use Rattle.plan_walks.specs.Inside.{port_of_number}
use Rattle.plan_queues.specs.Feeds.{Meets}
use Rattle.plan_journeys.proofs.Walks.{onward_on, onward_end}
use Rattle.plan_journeys.proofs.Sides.{router_not_end, joined_back}
use Rattle.plan_journeys.proofs.Places.{meets_here, goes_from}
use Rattle.load_arrivals.specs.Charted.{Charting}
use Rattle.load_arrivals.specs.Tracks.{Tracks}
use Rattle.valid.proofs.Decides.{Decides, like, same, both, either}
use Rattle.check_places.specs.Look.{track_at, next_by, comes_by}
use Rattle.check_places.proofs.OnTrack.{told, track_has}

-- ---- a joint's byte that leads to a router
pub of_router : (v : ℕ) → v / 64 ≡ 1 → joint_of_byte v ≡ Router (v / 4 % 16) (v % 4)
unfolding joint_of_byte
of_router v e = rw (eq-eqb (v / 64) 1 e)

pub byte_router : (v : ℕ) {n t : ℕ} → joint_of_byte v ≡ Router n t → (v / 64 ≡ 1) × (v / 4 % 16 ≡ n) × (v % 4 ≡ t)
unfolding joint_of_byte
byte_router v {n} {t} e = by (eqb (v / 64) 1) refl (eqb (v / 64) 2) (eqb (v / 64) 3) e
  where
    by : (x : Bool) → eqb (v / 64) 1 ≡ x → (y z : Bool)
        → pick x (Router (v / 4 % 16) (v % 4)) (pick y (Active (v / 4 % 16)) (pick z (Passive (v / 4 % 16)) Nothing))
        ≡ Router n t → (v / 64 ≡ 1) × (v / 4 % 16 ≡ n) × (v % 4 ≡ t)
    by true q y z g = (eqb-true (v / 64) 1 q, cc, cc)
    by false q true z g = let c : ◌≡◌ {A = ℕ} 0 1 = cc in absurd (omega arith)
    by false q false true g = let c : ◌≡◌ {A = ℕ} 0 1 = cc in absurd (omega arith)
    by false q false false g = let c : ◌≡◌ {A = ℕ} 0 1 = cc in absurd (omega arith)

router_port : {n t m u : ℕ} → Router n t ≡ Router m u
    → ◌≡◌ {A = Port} (record { router = n; side = t }) (record { router = m; side = u })
router_port {n} {t} {m} {u} e =
    let r : n ≡ m = cc in let s : t ≡ u = cc in λ i. record { router = r i; side = s i }

-- ---- behind one router or more the walk comes in by y
pub record Later (pl : Plan) (e : Interface) (x y : Port) : Type 0 where
  pub steps : ℕ
  pub here : walked pl e (suc steps) x ≡ on y

-- the walk from the next router meets it
pub later_front : (pl : Plan) (e : Interface) (x y : Port) → Later pl e x y
    → (z : Port) × (onward pl e x ≡ on z) × Meets pl e z y
later_front pl e x y l =
    let f = on_front (onward pl e) l.steps x y l.here in
    (f.0, f.1, record { steps = l.steps; here = f.2 })

pub front_later : (pl : Plan) (e : Interface) (x y z : Port) → onward pl e x ≡ on z → Meets pl e z y → Later pl e x y
front_later pl e x y z o m = record { steps = m.steps; here = rw (← add-one m.steps) at' }
  where
    at' : walked pl e (m.steps + 1) x ≡ on y
    at' =
        spot_add (onward pl e) m.steps 1 (on x)
        ∙ ap (spot (onward pl e) m.steps) (spot_next (onward pl e) 0 (on x) (spot_none (onward pl e) (on x)) ∙ o)
        ∙ m.here

module _ {pl : Plan} {by : List (List ℕ)} {joints homes : List ℕ} (chart : Charting pl by joints homes)
    (up : List (List ℕ)) (tracks : Tracks pl up) (e : Interface) (d : ℕ) (known : d < destinations pl.head)
    (named : interface_at pl.head d ≡ e) (stands : column pl e ≡ d) (x : Port) (inside : x.router < R pl)
    (w : Walk pl e x) (y : Port) (four : y.side < 4) where
  abbrev byte : ℕ
  byte = get_or joints (port_number y) 0

  abbrev Leads : Type 0
  Leads =
      (byte / 64 ≡ 1)
      × (((i : ℕ) × Meets pl e x (record { router = byte / 4 % 16; side = i }))
      × (pl.route (byte / 4 % 16) d ≡ byte % 4))

  leads_later : Leads → Later pl e x y
  leads_later (q, ((i, m), g)) = go (goes_from pl e x w z m)
    where
      z : Port
      z = record { router = byte / 4 % 16; side = i }

      back : pl.joint (byte / 4 % 16) (route_to pl e (byte / 4 % 16)) ≡ Router y.router y.side
      back =
          ap (pl.joint (byte / 4 % 16)) (ap (pl.route (byte / 4 % 16)) stands ∙ g)
          ∙ (chart.wired.named y.router y.side (byte / 4 % 16) (byte % 4)
          (chart.joined y.router y.side four ∙ of_router byte q)).1

      go : ((u : Port) × (onward pl e z ≡ on u)) ⊎ (onward pl e z ≡ end) → Later pl e x y
      go (inl (u, o)) =
          record {
            steps = m.steps;
            here =
                spot_next (onward pl e) m.steps (on x) m.here ∙ o
                ∙ ap on (router_port (sym (onward_on pl e z u o) ∙ back));
          }
      go (inr o) = absurd (router_not_end e (sym back ∙ onward_end pl e z o))

  later_leads : Later pl e x y → Leads
  later_leads l =
      let b = on_before (onward pl e) (suc l.steps) (on x) y l.here l.steps (omega arith) in
      let o = sym (spot_next (onward pl e) l.steps (on x) b.1) ∙ l.here in
      let v = byte_router byte (sym (chart.joined y.router y.side four)
      ∙ joined_back chart.wired e b.0 y o) in (
        v.0,
        (
          (
            b.0.side,
            record {
              steps = l.steps;
              here = b.1 ∙ ap (λ (n : ℕ). on (record { router = n; side = b.0.side })) (sym v.1);
            },
          ),
          ap (λ (n : ℕ). pl.route n d) v.1 ∙ ap (pl.route b.0.router) (sym stands) ∙ sym v.2,
        ),
      )

  pub next_decides : Decides (next_by joints by (track_at up x.router d) d (port_number y)) (Later pl e x y)
  unfolding next_by
  next_decides =
      like
      (both (same (byte / 64) 1)
      (λ q. both (track_has chart.wired up tracks e d known named x inside w (byte / 4 % 16) (omega arith))
      (λ m. told (chart.sides (byte / 4 % 16) (byte % 4) d (omega arith) ∙ rw (lt-ltb d (destinations pl.head)
      known))
      (same (pl.route (byte / 4 % 16) d) (byte % 4)))))
      leads_later later_leads

  -- the walk comes in by y, at its start or later
  pub comes_decides : (from : ℕ) → port_of from ≡ x → Decides (comes_by joints by up from d (port_number y))
      (Meets pl e x
      y)
  unfolding comes_by
  comes_decides from start =
      like (either (same from (port_number y)) (told (ap (λ (z : Port). next_by joints by (track_at up z.router d) d
      (port_number y)) start) next_decides)) to of
    where
      to : (from ≡ port_number y) ⊎ Later pl e x y → Meets pl e x y
      to (inl q) = rw (← (sym (port_of_number y four) ∙ ap port_of (sym q) ∙ start)) (meets_here pl e y)
      to (inr l) = record { steps = suc l.steps; here = l.here }

      of' : (k : ℕ) → walked pl e k x ≡ on y → (from ≡ port_number y) ⊎ Later pl e x y
      of' zero q =
          let i : port_of from ≡ y = start ∙ on_same (sym (spot_none (onward pl e) (on x)) ∙ q) in
          let n : 4 * (from / 4) + from % 4 ≡ from = omega arith in
          inl (sym n ∙ ap port_number i)
      of' (suc k) q = inr (record { steps = k; here = q })

      of : Meets pl e x y → (from ≡ port_number y) ⊎ Later pl e x y
      of m = of' m.steps m.here
