-- The plan that bytes give: joints by router and side, routes by router and destination.
use Rattle.std.specs.Prelude.{List, ℕ, ◌+◌, ◌*◌, ◌<◌, eqb, ltb}
use Rattle.basis.specs.Choice.{pick}
use Rattle.fields.specs.Bits.{field_of}
use Rattle.plan.specs.declared.Head.{Head}
use Rattle.plan.specs.declared.Joint.{Joint}
use Rattle.plan.specs.declared.Joint.TheVariants.{Nothing, Router, Active, Passive}
use Rattle.plan.specs.Head.{head_of, destinations, routes_at}

-- A side of a router, or the side by which a walk or a packet comes in to a router
pub record Port : Type 0 where
  pub router : ℕ
  pub side : ℕ

-- An interface, as a destination or as what a side is joined to
pub data Interface : Type 0 where
  active : ℕ → Interface
  passive : ℕ → Interface

-- The plan: its counts and capacities, what each side of each router is joined to,
-- and the side that each router's table gives for each destination column (actives first), or 7 for none
pub record Plan : Type 0 where
  pub head : Head
  pub joint : ℕ → ℕ → Joint
  pub route : ℕ → ℕ → ℕ

abbrev pub R : Plan → ℕ
R pl = pl.head.routers

abbrev pub A : Plan → ℕ
A pl = pl.head.actives

abbrev pub P : Plan → ℕ
P pl = pl.head.passives

abbrev pub S : Plan → ℕ
S pl = pl.head.slots

-- what the table holds where the plan gives no side
abbrev pub no_side : ℕ
no_side = 7

-- ---- 'Per router, per side, a joint: kind (2 bits: 0 nothing, 1 router, 2 active, 3 passive), number (4), partner's
-- side (2)'
abbrev pub joint_at : ℕ → ℕ → ℕ
joint_at r s = 45 + 32 * r + 8 * s

abbrev pub joint_from : ℕ → ℕ → ℕ → Joint
joint_from kind number side =
    pick (eqb kind 1) (Router number side)
    (pick (eqb kind 2) (Active number) (pick (eqb kind 3) (Passive number) Nothing))

unfoldable pub joint_in : List ℕ → ℕ → Joint
joint_in b at = joint_from (field_of b at 2) (field_of b (at + 2) 4) (field_of b (at + 6) 2)

-- ---- 'Then for each router and each destination the plan gives one side, 3 bits: 0 to 3, or 7 for none; actives
-- first'
abbrev pub route_at : Head → ℕ → ℕ → ℕ
route_at h r d = routes_at h + 3 * (destinations h * r + d)

-- The plan of bytes: nothing is joined and no side is given outside the plan's routers, sides and destinations
unfoldable pub plan_of : List ℕ → Plan
plan_of b =
    let h : Head = head_of b in
    record {
      head = h;
      joint = λ r s. pick (ltb r h.routers) (pick (ltb s 4) (joint_in b (joint_at r s)) Nothing) Nothing;
      route =
          λ r d. pick (ltb r h.routers) (pick (ltb d (destinations h)) (field_of b (route_at h r d) 3) no_side) no_side;
    }

-- ---- interfaces
-- an interface's column in the route table
abbrev pub column : Plan → Interface → ℕ
column pl (active a) = a
column pl (passive p) = A pl + p

-- the interface is one of the plan's
abbrev pub Has : Plan → Interface → Type 0
Has pl (active a) = a < A pl
Has pl (passive p) = p < P pl

-- the joint of a side that leads to the interface
abbrev pub joint_of : Interface → Joint
joint_of (active a) = Active a
joint_of (passive p) = Passive p

-- the side that router r's table gives for the interface
abbrev pub route_to : Plan → Interface → ℕ → ℕ
route_to pl e r = pl.route r (column pl e)
