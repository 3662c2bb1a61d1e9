-- Load's answer, one definition by cases in document 01's order:
-- '1 fewer than six bytes; 2 R, A, P, S or a capacity outside its range; 3 wrong length or a fill bit set;
-- 4 a later field outside its range; 5 a router joint not named back, a joint to the same router, or an interface
-- without exactly one joint; 6 a ring.'
use Rattle.std.specs.Prelude.{◌≡◌, Bool, not, ◌&&◌, List, ℕ, eqb, ltb, length, replicate}
use Rattle.std.specs.Prelude.{Result, Ok, Err}
use Rattle.kinds.specs.declared.Refusal.{Refusal}
use Rattle.plan.specs.declared.Head.{Head}
use Rattle.basis.specs.Choice.{pick}
use Rattle.kinds.specs.declared.Refusal.TheVariants.{TooShort, OutOfRange, WrongLength, BadField, BadJoint, HasRing}
use Rattle.kinds.specs.Refusals.{refusal_number}
use Rattle.plan.specs.declared.tables.PlanTables.{PlanTables}
use Rattle.plan.specs.Head.{head_of, head_ok, bit_count, byte_count}
use Rattle.plan.specs.Plan.{no_side, plan_of}
use Rattle.plan.specs.Rules.{fill_ok, fields_ok, named_ok, interfaces_ok}
use Rattle.plan.specs.Tables.{routes_of, joints_of, homes_of}
use Rattle.plan_routes.specs.Sides.{sides_of}
use Rattle.plan_routes.specs.Marks.{NoRoutes}
use Rattle.load_rings.specs.RingTest.{has_ring}
use Rattle.load_arrivals.specs.Pairs.{lengths_of}

unfoldable pub length_ok : List ℕ → Bool
length_ok b = eqb (length b) (byte_count (head_of b)) && fill_ok b (bit_count (head_of b))

unfoldable pub joints_ok : List ℕ → Bool
joints_ok b = named_ok (plan_of b) && interfaces_ok (plan_of b)

unfoldable pub load_of : List ℕ → Result Head Refusal
load_of b =
    pick (ltb (length b) 6) (Err TooShort)
    (pick (not (head_ok (head_of b))) (Err OutOfRange)
    (pick (not (length_ok b)) (Err WrongLength)
    (pick (not (fields_ok b)) (Err BadField)
    (pick (not (joints_ok b)) (Err BadJoint)
    (pick (has_ring (plan_of b)) (Err HasRing) (Ok (head_of b)))))))

-- document 01's number of the answer, 0 for an accepted plan
abbrev pub load_number : Result Head Refusal → ℕ
load_number (Ok h) = 0
load_number (Err w) = refusal_number w

-- ---- the lent tables
-- before any plan is read: no router gives a side, no walk is known, no destination leaves by any side
abbrev pub no_routes : List (List ℕ)
no_routes = replicate 16 (replicate 32 no_side)

abbrev pub no_walks : List (List ℕ)
no_walks = replicate 16 (replicate 16 0)

abbrev pub no_destinations : List (List ℕ)
no_destinations = replicate 16 (replicate 4 0)

-- all five: also no joints and no homes
abbrev pub Blank : PlanTables → Type 0
Blank t =
    NoRoutes t.routes t.by × (t.joints ≡ replicate 64 0) × (t.homes ≡ replicate 32 0) × (t.lengths ≡ no_walks)

-- after Load: an accepted plan's, else what the caller of these names
-- the routes, router by destination
abbrev pub load_routes : List ℕ → List (List ℕ) → Result Head Refusal → List (List ℕ)
load_routes b t (Ok h) = routes_of b h
load_routes b t (Err w) = t

-- the joints, by port
abbrev pub load_joints : List ℕ → List ℕ → Result Head Refusal → List ℕ
load_joints b t (Ok h) = joints_of b h
load_joints b t (Err w) = t

-- the ports of all interfaces, by column
abbrev pub load_homes : List ℕ → List ℕ → Result Head Refusal → List ℕ
load_homes b t (Ok h) = homes_of (plan_of b)
load_homes b t (Err w) = t

-- the lengths of the pairs' walks, by active and passive
abbrev pub load_lengths : List ℕ → List (List ℕ) → Result Head Refusal → List (List ℕ)
load_lengths b t (Ok h) = lengths_of (plan_of b)
load_lengths b t (Err w) = t

-- the sets of destinations by router and side
abbrev pub load_sides : List ℕ → List (List ℕ) → Result Head Refusal → List (List ℕ)
load_sides b t (Ok h) = sides_of (plan_of b)
load_sides b t (Err w) = t

-- what Load leaves in tables that were blank: its answer, and an accepted plan's tables; after a refusal nothing is
-- said of them
pub record Filled (b : List ℕ) (l : Result Head Refusal) (routes : List (List ℕ)) (joints homes : List ℕ)
    (lengths by : List (List ℕ)) : Type 0 where
  pub answer : l ≡ load_of b
  pub routed : routes ≡ load_routes b routes (load_of b)
  pub joined : joints ≡ load_joints b joints (load_of b)
  pub homed : homes ≡ load_homes b homes (load_of b)
  pub sized : lengths ≡ load_lengths b lengths (load_of b)
  pub sided : by ≡ load_sides b by (load_of b)

-- the same of the tables in one
abbrev pub FilledIn : List ℕ → Result Head Refusal → PlanTables → Type 0
FilledIn b l t = Filled b l t.routes t.joints t.homes t.lengths t.by
