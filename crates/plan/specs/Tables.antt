-- The tables that Load builds of a plan's bytes: joints by port, routes by router and destination; and the plan that
-- tables give.
use Rattle.std.specs.Prelude.{Bool, List, [], ℕ, ◌+◌, ◌*◌, ◌-◌, ◌/◌, ◌%◌, ltb, get_or, replicate}
use Rattle.basis.specs.Choice.{pick}
use Rattle.basis.specs.Fold.{up_to, fill}
use Rattle.basis.specs.Bounded.{all_below}
use Rattle.fields.specs.Bits.{field_of}
use Rattle.plan.specs.declared.Head.{Head}
use Rattle.plan.specs.declared.Joint.{Joint}
use Rattle.plan.specs.declared.Joint.TheVariants.{Nothing}
use Rattle.plan.specs.Head.{destinations, routes_at}
use Rattle.plan.specs.Plan.{Plan, Interface, active, passive, no_side, joint_from}
use Rattle.plan.specs.Rules.{joint_ok, route_ok, ports_of, port_or0}

-- a joint's eight bits as a byte, and the joint of such a byte
unfoldable pub joint_byte : List ℕ → ℕ → ℕ
joint_byte b i = field_of b (45 + 8 * i) 2 * 64 + field_of b (45 + 8 * i + 2) 4 * 4 + field_of b (45 + 8 * i + 6) 2

unfoldable pub joint_of_byte : ℕ → Joint
joint_of_byte v = joint_from (v / 64) (v / 4 % 16) (v % 4)

unfoldable pub joint_byte_ok : Head → ℕ → Bool
joint_byte_ok h v = joint_ok h (v / 64) (v / 4 % 16) (v % 4)

-- all joints, by port number
unfoldable pub joints_of : List ℕ → Head → List ℕ
joints_of b h = up_to (fill (joint_byte b)) (4 * h.routers) (replicate 64 0)

-- the routes of one router, whose bits start at a position, and of all
unfoldable pub row_of : List ℕ → ℕ → ℕ → List ℕ
row_of b n at = up_to (fill (λ d. field_of b (at + 3 * d) 3)) n (replicate 32 no_side)

unfoldable pub routes_of : List ℕ → Head → List (List ℕ)
routes_of b h =
    up_to (fill (λ r. row_of b (destinations h) (routes_at h + 3 * (destinations h * r)))) h.routers
    (replicate 16 (replicate 32 no_side))

-- the plan that tables give
unfoldable pub table_plan : Head → List (List ℕ) → List ℕ → Plan
table_plan h routes joints =
    record {
      head = h;
      joint = λ r s. pick (ltb s 4) (joint_of_byte (get_or joints (4 * r + s) 0)) Nothing;
      route = λ r d. get_or (get_or routes r []) d no_side;
    }

-- refusal 4 over the tables
unfoldable pub joint_bytes_ok : Head → List ℕ → Bool
joint_bytes_ok h joints = all_below (4 * h.routers) (λ i. joint_byte_ok h (get_or joints i 0))

unfoldable pub row_ok : List ℕ → ℕ → Bool
row_ok row n = all_below n (λ d. route_ok (get_or row d no_side))

unfoldable pub routes_ok : Head → List (List ℕ) → Bool
routes_ok h routes = all_below h.routers (λ r. row_ok (get_or routes r []) (destinations h))

-- ---- interfaces by column: actives first, then passives
abbrev pub interface_at : Head → ℕ → Interface
interface_at h d = pick (ltb d h.actives) (active d) (passive (d - h.actives))

-- the port number of every interface, by column
unfoldable pub homes_of : Plan → List ℕ
homes_of pl =
    up_to (fill (λ d. port_or0 (ports_of pl (interface_at pl.head d)))) (destinations pl.head) (replicate 32 0)
