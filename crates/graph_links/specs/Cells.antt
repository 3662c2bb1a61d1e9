-- What leaves by each side, and the cells that lead from crossing to crossing (crate graph_ring).
use Rattle.std.specs.Prelude.{◌≡◌, List, [], ℕ, ◌+◌, ◌*◌, ◌/◌, ◌%◌, ◌≤◌, ◌<◌, eqb, ltb, get_or, length, replicate}
use Rattle.basis.specs.Choice.{pick}
use Rattle.basis.specs.Fold.{up_to, fill}
use Rattle.sets.specs.Sets.{both, either, single}
use Rattle.graph_flow.specs.Carried.{partner_of, beyond_of}

-- what of the sets of its router leaves by port k
unfoldable pub leave_of : List (List ℕ) → List ℕ → ℕ → ℕ → ℕ
leave_of by t limit k = both (both (get_or (get_or by (k / 4) []) (k % 4) 0) (get_or t (k / 4) 0)) limit

unfoldable pub leaves_of : List (List ℕ) → List ℕ → ℕ → ℕ → List ℕ
leaves_of by t limit n = up_to (fill (leave_of by t limit)) n (replicate 64 0)

module _ (l : List ℕ) where
  -- the j-th side of router q, if some of m leave by it, and all such sides
  unfoldable pub bit_of : ℕ → ℕ → ℕ → ℕ
  bit_of m q j = pick (eqb (both m (get_or l (4 * q + j) 0)) 0) 0 (single j)

  unfoldable pub mask_of : ℕ → ℕ → ℕ
  mask_of m q = either (either (bit_of m q 0) (bit_of m q 1)) (either (bit_of m q 2) (bit_of m q 3))

  -- the same sides, as numbers from any
  unfoldable pub leaving_of : ℕ → ℕ → ℕ → ℕ
  leaving_of m q from = either (either (by_side 0) (by_side 1)) (either (by_side 2) (by_side 3))
    where
      by_side : ℕ → ℕ
      by_side j = pick (eqb (both m (get_or l (4 * q + j) 0)) 0) 0 (single (from + j))

-- the port by which a crossing leaves
abbrev pub out_of : ℕ → ℕ
out_of x = 4 * (x / 16) + x % 4

module _ (l joints : List ℕ) where
  -- crossing x, to the crossings of the router beyond it that some of the same answers go by
  abbrev pub crossed : ℕ → ℕ
  crossed x = both (get_or l (partner_of joints (x / 4)) 0) (get_or l (out_of x) 0)

  unfoldable pub cross_of : ℕ → ℕ
  cross_of x =
      pick (ltb (partner_of joints (x / 4)) 64)
      (pick (ltb (partner_of joints (out_of x)) 64)
      (pick (eqb (crossed x) 0) 0
      (16 * partner_of joints (out_of x) + mask_of l (crossed x) (beyond_of joints (out_of x)))) 0) 0

  -- a table of the first n crossings
  pub record CrossCells (n : ℕ) (cells : List ℕ) : Type 0 where
    pub room : n ≤ length cells
    pub at : (x : ℕ) → x < n → get_or cells x 0 ≡ cross_of x
