-- The plan rules behind refusals 3, 4 and 5, each as what document 01 says, and as a test.
use Rattle.std.specs.Prelude.{◌≡◌, ◌⊎◌, ◌≢◌, Bool, true, false, not, ◌&&◌, ◌||◌, List, ℕ, ◌+◌, ◌*◌, ◌-◌, ◌/◌, ◌%◌, ◌≤◌}
use Rattle.std.specs.Prelude.{◌<◌, eqb, ltb, length}
use Rattle.basis.specs.Choice.{pick}
use Rattle.basis.specs.Bounded.{all_below}
use Rattle.basis.specs.Fold.{up_to}
use Rattle.fields.specs.Bits.{bit_at, field_of}
use Rattle.plan.specs.declared.Head.{Head}
use Rattle.plan.specs.declared.Joint.{Joint}
use Rattle.plan.specs.declared.Joint.TheVariants.{Nothing, Router, Active, Passive}
use Rattle.plan.specs.declared.Ports.{Ports}
use Rattle.plan.specs.declared.Ports.TheVariants.{Missing, One, Several}
use Rattle.plan.specs.Head.{head_of, destinations, bit_count}
use Rattle.plan.specs.Plan.{Plan, Port, Interface, active, passive, R, A, P, no_side, joint_at, route_at, Has}
use Rattle.plan.specs.Plan.{joint_of}

-- ---- refusal 3: 'wrong length or a fill bit set'
-- 'Zero bits fill the last byte'
abbrev pub Filled : List ℕ → Type 0
Filled b = (i : ℕ) → bit_count (head_of b) ≤ i → i < 8 * length b → bit_at b i ≡ 0

unfoldable pub fill_ok : List ℕ → ℕ → Bool
fill_ok b from = all_below (8 * length b - from) (λ i. eqb (field_of b (from + i) 1) 0)

-- ---- refusal 4: 'a later field outside its range'
-- 'Number and side are 0 for kind 0; side is 0 for kinds 2 and 3', and the number is one of the plan's
abbrev pub JointFits : Head → ℕ → ℕ → ℕ → Type 0
JointFits h kind number side =
    ((kind ≡ 0) × (number ≡ 0) × (side ≡ 0)) ⊎ ((kind ≡ 1) × (number < h.routers))
    ⊎ ((kind ≡ 2) × (number < h.actives) × (side ≡ 0)) ⊎ ((kind ≡ 3) × (number < h.passives) × (side ≡ 0))

unfoldable pub joint_ok : Head → ℕ → ℕ → ℕ → Bool
joint_ok h kind number side =
    pick (eqb kind 0) (eqb number 0 && eqb side 0)
    (pick (eqb kind 1) (ltb number h.routers)
    (pick (eqb kind 2) (ltb number h.actives && eqb side 0) (ltb number h.passives && eqb side 0)))

-- 'one side, 3 bits: 0 to 3, or 7 for none'
abbrev pub RouteFits : ℕ → Type 0
RouteFits side = (side < 4) ⊎ (side ≡ no_side)

unfoldable pub route_ok : ℕ → Bool
route_ok side = ltb side 4 || eqb side no_side

pub record FieldsFit (b : List ℕ) : Type 0 where
  pub joints : (r s : ℕ) → r < (head_of b).routers → s < 4
      → JointFits (head_of b) (field_of b (joint_at r s) 2) (field_of b (joint_at r s + 2) 4)
      (field_of b (joint_at r s + 6) 2)
  pub routes : (r d : ℕ) → r < (head_of b).routers → d < destinations (head_of b)
      → RouteFits (field_of b (route_at (head_of b) r d) 3)

-- the test of the joint at a bit position
abbrev pub joint_there : List ℕ → ℕ → Bool
joint_there b p = joint_ok (head_of b) (field_of b p 2) (field_of b (p + 2) 4) (field_of b (p + 6) 2)

-- the test of a router's route to a destination
abbrev pub route_there : List ℕ → ℕ → ℕ → Bool
route_there b r d = route_ok (field_of b (route_at (head_of b) r d) 3)

unfoldable pub fields_ok : List ℕ → Bool
fields_ok b =
    all_below (4 * (head_of b).routers) (λ i. joint_there b (45 + 8 * i))
    && all_below (head_of b).routers (λ r. all_below (destinations (head_of b)) (route_there b r))

-- ---- refusal 5: 'a router joint not named back, a joint to the same router, or an interface without exactly one
-- joint'
abbrev pub NamedBack : Plan → Type 0
NamedBack pl = (r s n t : ℕ) → pl.joint r s ≡ Router n t → (n ≢ r) × (pl.joint n t ≡ Router r s)

-- the interface has exactly one joint, at this port
pub record JoinedAt (pl : Plan) (e : Interface) (x : Port) : Type 0 where
  pub there : pl.joint x.router x.side ≡ joint_of e
  pub only : (r s : ℕ) → pl.joint r s ≡ joint_of e → (r ≡ x.router) × (s ≡ x.side)

pub record JointsMatch (pl : Plan) : Type 0 where
  pub named : NamedBack pl
  pub joined : (e : Interface) → Has pl e → (x : Port) × JoinedAt pl e x

-- ports by number, router times four plus side: i-th port's joint
abbrev pub port_of : ℕ → Port
port_of i = record { router = i / 4; side = i % 4 }

abbrev pub joint_of_port : Plan → ℕ → Joint
joint_of_port pl i = pl.joint (i / 4) (i % 4)

abbrev pub is_router_at : ℕ → Joint → Bool
is_router_at i Nothing = false
is_router_at i (Router n t) = eqb (4 * n + t) i
is_router_at i (Active n) = false
is_router_at i (Passive n) = false

abbrev pub back_ok : Plan → ℕ → Joint → Bool
back_ok pl i Nothing = true
back_ok pl i (Router n t) = not (eqb n (i / 4)) && is_router_at i (pl.joint n t)
back_ok pl i (Active n) = true
back_ok pl i (Passive n) = true

unfoldable pub named_ok : Plan → Bool
named_ok pl = all_below (4 * R pl) (λ i. back_ok pl i (joint_of_port pl i))

-- the joint leads to the interface
abbrev pub leads_to : Interface → Joint → Bool
leads_to e Nothing = false
leads_to e (Router n t) = false
leads_to (active a) (Active n) = eqb n a
leads_to (passive p) (Active n) = false
leads_to (active a) (Passive n) = false
leads_to (passive p) (Passive n) = eqb n p

-- one more port: does its joint lead there?
abbrev pub meet : Bool → ℕ → Ports → Ports
meet found i Missing = pick found (One i) Missing
meet found i (One k) = pick found Several (One k)
meet found i Several = Several

-- the ports joined to the interface
unfoldable pub ports_of : Plan → Interface → Ports
ports_of pl e = up_to (λ i t. meet (leads_to e (joint_of_port pl i)) i t) (4 * R pl) Missing

abbrev pub is_one : Ports → Bool
is_one Missing = false
is_one (One i) = true
is_one Several = false

abbrev pub port_or0 : Ports → ℕ
port_or0 Missing = 0
port_or0 (One i) = i
port_or0 Several = 0

-- the port that the interface is joined to; of a loadable plan it has exactly one
unfoldable pub home : Plan → Interface → Port
home pl e = port_of (port_or0 (ports_of pl e))

unfoldable pub interfaces_ok : Plan → Bool
interfaces_ok pl =
    all_below (A pl) (λ a. is_one (ports_of pl (active a))) && all_below (P pl) (λ p. is_one (ports_of pl (passive p)))
