-- How the code reads routes: row by row, into the table and into sets of columns by side.
use Rattle.std.specs.Prelude.{◌≡◌, Bool, ◌&&◌, List, ℕ, ◌+◌, ◌*◌, ◌/◌, ◌%◌, ◌^◌, ◌≤◌, ◌<◌, eqb, ltb, get_or, set}
use Rattle.std.specs.Prelude.{length, replicate}
use Rattle.basis.specs.Bounded.{all_below}
use Rattle.basis.specs.Fold.{up_to, fill}
use Rattle.sets.specs.Sets.{has, single, either}
use Rattle.fields.specs.Bits.{field_of}
use Rattle.plan.specs.declared.Head.{Head}
use Rattle.plan.specs.Plan.{no_side}
use Rattle.plan.specs.Rules.{route_ok}
use Rattle.plan.specs.Tables.{table_plan, routes_of, routes_ok}
use Rattle.plan_routes.specs.Sides.{sides_in, sides_of}

-- the side that a row, whose bits start at a position, gives for a column
unfoldable pub side_at : List ℕ → ℕ → ℕ → ℕ
side_at b at d = field_of b (at + 3 * d) 3

-- ---- up to eight columns at a time, in one word
-- a column's side is put into a row at d + k, and into a word as member k of the side's lane
abbrev pub Put : ℕ → ℕ → ℕ → List ℕ → List ℕ → ℕ → ℕ → Type 0
Put side d k row row' s s' = (row' ≡ set row (d + k) side) × (s' ≡ either s (single (8 * side + k)))

-- the same where k is below m; else nothing
pub record PutIf (side d k m : ℕ) (row row' : List ℕ) (s s' : ℕ) : Type 0 where
  pub there : k < m → Put side d k row row' s s'
  pub past : m ≤ k → (row' ≡ row) × (s' ≡ s)

-- m columns from d on are put into a row that holds those below d, and into a word: member k of lane o is column d + k
-- of side o
pub record Group (g : ℕ → ℕ) (d m : ℕ) (row row' : List ℕ) (s : ℕ) : Type 0 where
  pub filled : (first : List ℕ) → row ≡ up_to (fill g) d first → row' ≡ up_to (fill g) (d + m) first
  pub lanes : (o k : ℕ) → k < 8 → has s (8 * o + k) ≡ (ltb k m && eqb (g (d + k)) o)

-- lane o of a word, as a set of columns from d on
unfoldable pub lane_of : ℕ → ℕ → ℕ → ℕ
lane_of s o d = s / 2 ^ (8 * o) % 2 ^ 8 * 2 ^ d % 2 ^ 64 % 2 ^ 32

-- a word's lanes are put into the sets of the four sides
pub record Laid (s d : ℕ) (sides sides' : List ℕ) : Type 0 where
  pub four : length sides' ≡ 4
  pub sets : (o : ℕ) → o < 4 → get_or sides' o 0 ≡ either (get_or sides o 0) (lane_of s o d)

-- whether lanes 4, 5 and 6 of a word have no member
unfoldable pub fits_of : ℕ → Bool
fits_of s = eqb (s / 2 ^ 32 % 2 ^ 24) 0

-- ---- a row
-- a row of n columns, its sets by side, and whether each column has a side or none
pub record Row (g : ℕ → ℕ) (n : ℕ) (row row' sides : List ℕ) (ok : Bool) : Type 0 where
  pub filled : row' ≡ up_to (fill g) n row
  pub sets : sides ≡ sides_in g n
  pub fit : ok ≡ all_below n (λ i. route_ok (g i))

-- ---- all routers
-- the tables before any route is read
abbrev pub NoRoutes : List (List ℕ) → List (List ℕ) → Type 0
NoRoutes t by = (t ≡ replicate 16 (replicate 32 no_side)) × (by ≡ replicate 16 (replicate 4 0))

-- the route table; the destinations by router and side, of a plan with these routes and any joints; and refusal 4's
-- test of routes
pub record Routes (b : List ℕ) (h : Head) (t by : List (List ℕ)) (ok : Bool) : Type 0 where
  pub table : t ≡ routes_of b h
  pub sides : (joints : List ℕ) → by ≡ sides_of (table_plan h t joints)
  pub fit : ok ≡ routes_ok h t
