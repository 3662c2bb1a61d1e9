-- Nodes in groups of four, each leading to nodes of one group, and how those that lead to none that is left go.
use Rattle.std.specs.Prelude.{Bool, not, ◌&&◌, List, ℕ, ◌+◌, ◌-◌, ◌*◌, ◌/◌, ◌%◌, eqb, get_or, set, replicate}
use Rattle.basis.specs.Choice.{pick}
use Rattle.basis.specs.Fold.{up_to, fill}
use Rattle.sets.specs.Sets.{has, single, both, either}

-- the group that a cell leads to
abbrev pub group_of : ℕ → ℕ
group_of cell = cell / 16 % 64

-- node x leads to node y
unfoldable pub edge : List ℕ → ℕ → ℕ → Bool
edge cells x y = eqb (group_of (get_or cells x 0)) (y / 4) && has (get_or cells x 0) (y % 4)

-- a node is left
abbrev pub is_left : List ℕ → ℕ → Bool
is_left left x = has (get_or left (x / 4) 0) (x % 4)

module _ (cells : List ℕ) where
  -- node x leads to one that is left
  unfoldable pub stays_of : List ℕ → ℕ → Bool
  stays_of left x = not (eqb (both (get_or cells x 0) (get_or left (group_of (get_or cells x 0)) 0)) 0)

  -- the o-th node of a group, x, if it stays
  unfoldable pub keep_of : List ℕ → ℕ → ℕ → ℕ
  keep_of left x o = pick (stays_of left x) (single o) 0

  unfoldable pub judge_of : List ℕ → ℕ → ℕ
  judge_of left g =
      both (get_or left g 0)
      (either (either (keep_of left (4 * g) 0) (keep_of left (4 * g + 1) 1))
      (either (keep_of left (4 * g + 2) 2) (keep_of left (4 * g + 3) 3)))

  unfoldable pub judge_at : ℕ → List ℕ → List ℕ
  judge_at g left = set left g (judge_of left g)

  -- a sweep up the groups, and one down
  unfoldable pub up_of : ℕ → List ℕ → List ℕ
  up_of n left = up_to judge_at n left

  unfoldable pub down_of : ℕ → List ℕ → List ℕ
  down_of n left = up_to (λ i. judge_at (n - 1 - i)) n left

-- what is left in any of n groups
unfoldable pub rest_of : ℕ → List ℕ → ℕ
rest_of n left = up_to (λ g s. either s (get_or left g 0)) n 0

-- all nodes of n groups
unfoldable pub first_of : ℕ → List ℕ
first_of n = up_to (fill (λ g. 15)) n (replicate 64 0)
