-- How many routers a walk has, by tables of sets; and the table of sizes that grows with what is reached.
use Rattle.std.specs.Prelude.{◌≡◌, Bool, true, false, ◌&&◌, List, [], ℕ, zero, suc, ◌+◌, ◌*◌, ◌<◌, eqb, ltb, get_or}
use Rattle.std.specs.Prelude.{length, replicate}
use Rattle.basis.specs.Choice.{pick}
use Rattle.basis.specs.Bounded.{any_below}
use Rattle.basis.specs.Fold.{up_to, fill}
use Rattle.sets.specs.Sets.{has}
use Rattle.graph_reach.specs.declared.Span.{Span}
use Rattle.graph_reach.specs.Reach.{side_set, beyond}

-- ---- what the code does
-- one router more, at most 16
unfoldable pub longer : ℕ → ℕ
longer far = pick (ltb far 16) (far + 1) far

-- of four sizes, that of the router beyond the route's side; 0 where the route has no side
unfoldable pub far_by : ℕ → ℕ → ℕ → ℕ → ℕ → ℕ
far_by side a b c d = pick (eqb side 0) a (pick (eqb side 1) b (pick (eqb side 2) c (pick (eqb side 3) d 0)))

unfoldable pub size_of : ℕ → ℕ → ℕ
size_of far own = pick (eqb far 0) own (longer far)

unfoldable pub merged_of : List ℕ → ℕ → List ℕ → List ℕ → List ℕ → List ℕ → List ℕ → List ℕ
merged_of sides column a b c d own =
    up_to
    (fill
    (λ p. size_of (far_by (get_or sides (column + p) 0) (get_or a p 0) (get_or b p 0) (get_or c p 0) (get_or d p 0))
    (get_or own p 0)))
    16 (replicate 16 0)

-- the sizes of router x's walks, from those of the routers beyond its sides
unfoldable pub row_of : List ℕ → ℕ → List ℕ → List (List ℕ) → ℕ → List ℕ
row_of sides column next z x =
    merged_of sides column (get_or z (get_or next (4 * x) 0) []) (get_or z (get_or next (4 * x + 1) 0) [])
    (get_or z (get_or next (4 * x + 2) 0) []) (get_or z (get_or next (4 * x + 3) 0) []) (get_or z x [])

-- ---- what is meant
module _ (by : List (List ℕ)) (next : List ℕ) where
  -- d is reached from r over exactly k more routers
  unfoldable pub far_in : List ℕ → ℕ → ℕ → ℕ → Bool
  far_in first d zero r = has (get_or first r 0) d
  far_in first d (suc k) r = any_below 4 (λ o. has (side_set by next r o) d && far_in first d k (beyond by next r o))

  -- v is how many routers the walk has, or 16 where it has more
  abbrev pub Far : List ℕ → ℕ → ℕ → ℕ → Type 0
  Far first d r v = (k : ℕ) × (far_in first d k r ≡ true) × (v ≡ pick (ltb (k + 1) 16) (k + 1) 16)

  -- the size of each walk that is known to be reached, of the destinations that are sized
  pub record Sized (s : Span) (first t : List ℕ) (z : List (List ℕ)) : Type 0 where
    pub rows : length z ≡ 17
    pub long : length t ≡ 32
    pub none : (r p : ℕ) → p < 16 → (has s.sized (s.column + p) && has (get_or t r 0) (s.column + p)) ≡ false
        → get_or (get_or z r []) p 0 ≡ 0
    pub some : (r p : ℕ) → p < 16 → has s.sized (s.column + p) ≡ true → has (get_or t r 0) (s.column + p) ≡ true
        → Far first (s.column + p) r (get_or (get_or z r []) p 0)

  -- routes, by router and destination, say the same as the sets by side; only destinations that are sized have one
  -- from the column on
  pub record Told (s : Span) (routes : List (List ℕ)) : Type 0 where
    pub sides : (r o p : ℕ) → r < 16 → o < 4 → p < 16
        → has (side_set by next r o) (s.column + p) ≡ eqb (get_or (get_or routes r []) (s.column + p) 0) o
    pub sized : (r o p : ℕ) → r < 16 → o < 4 → p < 16 → has (side_set by next r o) (s.column + p) ≡ true
        → has s.sized (s.column + p) ≡ true

  -- where sizes were right they still are
  abbrev pub Grows : List (List ℕ) → Span → List ℕ → List (List ℕ) → List ℕ → List (List ℕ) → Type 0
  Grows routes s t z t' z' = (first : List ℕ) → Told s routes → Sized s first t z → Sized s first t' z'
