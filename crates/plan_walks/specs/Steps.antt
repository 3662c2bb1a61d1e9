-- What the code answers of walks: a port as its number, where a walk stands, a router's index on it.
use Rattle.std.specs.Prelude.{◌≡◌, Bool, false, List, ℕ, zero, suc, ◌+◌, ◌*◌, eqb}
use Rattle.std.proofs.Math.Option.{Option, none, some}
use Rattle.basis.specs.Choice.{pick}
use Rattle.basis.specs.Walk.{Spot, on, end, lost}
use Rattle.plan.specs.declared.Head.{Head}
use Rattle.plan.specs.declared.Joint.{Joint}
use Rattle.plan.specs.Plan.{Plan, Port, Interface, R, no_side, joint_of}
use Rattle.plan_walks.specs.declared.Step.{Step}
use Rattle.plan_walks.specs.declared.Step.TheVariants.{On, End, Lost}
use Rattle.plan.specs.Rules.{port_of}
use Rattle.plan.specs.Tables.{table_plan, interface_at}
use Rattle.plan_walks.specs.Walk.{onward, walked}

-- a port's number, router times four plus side
abbrev pub port_number : Port → ℕ
port_number x = 4 * x.router + x.side

abbrev pub step_of : Spot Port → Step
step_of (on x) = On (port_number x)
step_of end = End
step_of lost = Lost

-- s is the step from the port numbered at to the interface of column d, under every head for which that is led to by
-- the joint `want`
abbrev pub Stepped : List (List ℕ) → List ℕ → ℕ → Joint → ℕ → Step → Type 0
Stepped routes joints d want at s =
    (h : Head) → want ≡ joint_of (interface_at h d)
    → s ≡ step_of (onward (table_plan h routes joints) (interface_at h d) (port_of at))

-- does the walk stand on router r?
abbrev pub stands_on : ℕ → Spot Port → Bool
stands_on r (on x) = eqb x.router r
stands_on r end = false
stands_on r lost = false

-- the index of router r among the first n routers of the walk to e
unfoldable pub index_in : Plan → Interface → Port → ℕ → ℕ → Option ℕ
index_in pl e from r zero = none
index_in pl e from r (suc n) = by_earlier (index_in pl e from r n)
  where
    by_earlier : Option ℕ → Option ℕ
    by_earlier (some k) = some k
    by_earlier none = pick (stands_on r (walked pl e n from)) (some n) none

unfoldable pub index_on : Plan → Interface → Port → ℕ → Option ℕ
index_on pl e from r = index_in pl e from r (R pl)

-- the side by which the walk comes in to the router that it stands on, or no_side where it stands on none
abbrev pub side_at : Spot Port → ℕ
side_at (on x) = x.side
side_at end = no_side
side_at lost = no_side

-- the side by which the walk to e comes in to the router of an index on it, or no_side off it
abbrev pub entered_by : Plan → Interface → Port → Option ℕ → ℕ
entered_by pl e from (some k) = side_at (walked pl e k from)
entered_by pl e from none = no_side
