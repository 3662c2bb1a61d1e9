-- Along a served pair's walk, over the tables: before its end it stands on a router of the plan, on each router once,
-- and leaves it by one of four sides, through a joint whose byte tells the next port.
use mathlib.Core.Path.{◌≡◌, sym, ap, ◌∙◌}
use mathlib.Core.Bool.{Bool, true, false}
use mathlib.Core.List.{List}
use Prim.Native.Nat.{ℕ, suc, ◌+◌, ◌*◌, ◌-◌, ◌/◌, ◌%◌, ◌≤◌, ◌<◌}
use native.Mathlib.Omega.{arith}
use lib.Dec.{eqb}
use lib.ListN.{get_or}
use borrow.Author.Tests.{lt-ltb, le-ltb}
use Rattle.basis.specs.Choice.{pick}
use Rattle.basis.specs.Walk.{on, spot_none, spot_next, way_at, way_on}
use Rattle.plan.specs.declared.Head.{Head}
use Rattle.plan.specs.declared.Joint.TheVariants.{Nothing, Router, Active, Passive}
use Rattle.plan.specs.Plan.{Plan, Port, active, passive, R, A, joint_from, route_to}
use Rattle.plan.specs.Rules.{port_of, home}
use Rattle.plan.specs.Tables.{table_plan, interface_at, joint_of_byte}
use Rattle.plan_walks.specs.Walk.{onward, router_of, walked}
use Rattle.plan_walks.specs.Served.{Served}
use Rattle.plan_facts.proofs.Wires.{home_inside}
use Rattle.plan_journeys.proofs.Walks.{onward_on, walk_short, size_is, served_of}
use Rattle.plan_journeys.proofs.Places.{meets_inside, exit_inside}
use Rattle.check_connections.specs.Given.{Course}

-- ---- a joint's byte
-- a router joint's number and side are those given
from_router : (kind number side : ℕ) {n t : ℕ} → joint_from kind number side ≡ Router n t → (number ≡ n) × (side ≡ t)
from_router kind number side {n} {t} q = by (eqb kind 1) (eqb kind 2) (eqb kind 3) q
  where
    by : (x y z : Bool) → pick x (Router number side) (pick y (Active number) (pick z (Passive number) Nothing))
        ≡ Router n t → (number ≡ n) × (side ≡ t)
    by true y z e = (cc, cc)
    by false true z e = (cc, cc)
    by false false true e = (cc, cc)
    by false false false e = (cc, cc)

-- a byte of a router joint is 64 + 4 * number + side
byte_port : (v : ℕ) (y : Port) → joint_of_byte v ≡ Router y.router y.side → port_of (v % 64) ≡ y
unfolding joint_of_byte
byte_port v y e =
    let q = from_router (v / 64) (v / 4 % 16) (v % 4) e in
    let r : v % 64 / 4 ≡ y.router = omega (arith, q.0) in
    let s : v % 64 % 4 ≡ y.side = omega (arith, q.1) in
    λ i. record { router = r i; side = s i }

-- ---- a served pair's walk
module _ {h : Head} {routes : List (List ℕ)} {joints : List ℕ} {a p from d size : ℕ}
    (w : Course h routes joints a p from d size) where
  abbrev net : Plan
  net = table_plan h routes joints

  abbrev start : Port
  start = home net (active a)

  in_plan : a < A net
  unfolding table_plan
  in_plan = w.has_active

  pair : Served net a p
  pair = served_of w.wired a p in_plan w.serves

  begins_inside : (start.router < R net) × (start.side < 4)
  begins_inside = home_inside (active a) w.wired in_plan

  size_same : size ≡ pair.ahead.size
  size_same = w.routers ∙ size_is w.wired (passive p) start begins_inside.0 pair.ahead

  -- its passive's column
  pub column_is : interface_at h d ≡ passive p
  column_is =
      let e = w.column in
      let back : d - h.actives ≡ p = omega arith in
      rw (le-ltb d h.actives (omega arith), back)

  -- it has at most 16 routers
  pub size_few : (size ≤ h.routers) × (h.routers ≤ 16)
  unfolding table_plan
  size_few =
      let l : pair.ahead.size ≤ h.routers = walk_short w.wired (passive p) start begins_inside.0 pair.ahead
      in
      let e = size_same in
      (omega arith, w.range.routers.1)

  -- it begins at its port
  pub stands_first : walked net (passive p) 0 start ≡ on (port_of from)
  stands_first = spot_none (onward net (passive p)) (on start) ∙ ap on (sym w.begins)

  module _ (n : ℕ) (x : Port) (e : walked net (passive p) n start ≡ on x) where
    pub stands_inside : x.router < h.routers
    unfolding table_plan
    stands_inside =
        (meets_inside w.wired (passive p) start pair.ahead begins_inside x (record { steps = n; here = e })).0

    pub stands_exit : route_to net (passive p) x.router < 4
    stands_exit = exit_inside w.wired (passive p) start pair.ahead x (record { steps = n; here = e })

    pub stands_once : (m : ℕ) (y : Port) → walked net (passive p) m start ≡ on y → y.router ≡ x.router → m ≡ n
    stands_once m y f same =
        let b = way_on (onward net (passive p)) router_of pair.ahead n x e in
        let c = way_on (onward net (passive p)) router_of pair.ahead m y f in
        pair.ahead.once m n c.0 b.0 (ap router_of c.1 ∙ same ∙ sym (ap router_of b.1))

  joint_byte : (r s : ℕ) → s < 4 → net.joint r s ≡ joint_of_byte (get_or joints (4 * r + s) 0)
  unfolding table_plan
  joint_byte r s l = rw (lt-ltb s 4 l)

  -- the next port
  pub stands_next : (n at : ℕ) → walked net (passive p) n start ≡ on (port_of at) → suc n < size → {k v : ℕ}
      → k ≡ 4 * (at / 4) + route_to net (passive p) (at / 4) → v ≡ get_or joints k 0
      → walked net (passive p) (suc n) start ≡ on (port_of (v % 64))
  stands_next n at e l {k} {v} f g =
      let q = size_same in
      let y : Port = pair.ahead.stop (suc n) in
      let there : walked net (passive p) (suc n) start ≡ on y
      = way_at (onward net (passive p)) router_of pair.ahead (suc n) (omega arith) in
      let j = onward_on net (passive p) (port_of at) y
      (sym (spot_next (onward net (passive p)) n (on start) e) ∙ there) in
      let b : v ≡ get_or joints (4 * (at / 4) + route_to net (passive p) (at / 4)) 0
      = g ∙ ap (λ (z : ℕ). get_or joints z 0) f in
      let o = joint_byte (at / 4) (route_to net (passive p) (at / 4)) (stands_exit n (port_of at) e) in
      there ∙ ap on (sym (byte_port v y (ap joint_of_byte b ∙ sym o ∙ j)))
