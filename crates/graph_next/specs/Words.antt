-- What leads on, as sets in words: by router the routers that what it has goes on to, by side the sides that some of
-- the same leave by next.
use Rattle.std.specs.Prelude.{List, [], ℕ, ◌+◌, ◌*◌, eqb, ltb, get_or, replicate}
use Rattle.basis.specs.Choice.{pick}
use Rattle.basis.specs.Fold.{up_to, fill}
use Rattle.sets.specs.Sets.{both, either, single}
use Rattle.graph_flow.specs.Carried.{partner_of, beyond_of}

-- the sets of four sides together
unfoldable pub four_of : (ℕ → ℕ) → ℕ
four_of f = either (either (f 0) (f 1)) (either (f 2) (f 3))

module _ (by : List (List ℕ)) (joints t : List ℕ) where
  -- the router beyond side o of router x, if some of what x has goes on by it
  unfoldable pub toward_of : ℕ → ℕ → ℕ
  toward_of x o =
      pick (eqb (both (get_or (get_or by x []) o 0) (get_or t x 0)) 0) 0
      (pick (ltb (partner_of joints (4 * x + o)) 64) (single (beyond_of joints (4 * x + o))) 0)

  unfoldable pub next_of : ℕ → ℕ
  next_of x = four_of (toward_of x)

  unfoldable pub nexts_of : ℕ → List ℕ
  nexts_of n = up_to (fill next_of) n (replicate 16 0)

-- the j-th side of router q, if some of m leave by it
unfoldable pub onto_of : List ℕ → ℕ → ℕ → ℕ → ℕ
onto_of l m q j = pick (eqb (both m (get_or l (4 * q + j) 0)) 0) 0 (single (4 * q + j))

module _ (l joints : List ℕ) where
  -- side k, to the sides of the router beyond it that some of the same leave by
  unfoldable pub link_of : ℕ → ℕ
  link_of k =
      pick (eqb (get_or l k 0) 0) 0
      (pick (ltb (partner_of joints k) 64) (four_of (onto_of l (get_or l k 0) (beyond_of joints k))) 0)

  unfoldable pub links_of : ℕ → List ℕ
  links_of n = up_to (fill link_of) n (replicate 64 0)
