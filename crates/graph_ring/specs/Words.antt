-- Nodes by number, each with the set of those that it leads to, and how those that lead to none that is left go.
use Rattle.std.specs.Prelude.{◌≡◌, ◌≢◌, Bool, true, List, ℕ, ◌≤◌, ◌<◌, eqb, get_or}
use Rattle.basis.specs.Choice.{pick}
use Rattle.basis.specs.Fold.{up_to}
use Rattle.basis.specs.Ring.{Ring, Leads}
use Rattle.sets.specs.Sets.{has, single, both, either, less}

-- a set, with node x if v, the set of those that it leads to, has some
unfoldable pub some_of : ℕ → ℕ → ℕ → ℕ
some_of v x s = pick (eqb v 0) s (either s (single x))

module _ (follow : List ℕ) where
  -- node x leads to node y
  abbrev pub leads_to : ℕ → ℕ → Bool
  leads_to x y = has (get_or follow x 0) y

  -- what is left, without node x if it leads to none of that
  unfoldable pub lone_of : ℕ → ℕ → ℕ
  lone_of x left = pick (eqb (both (get_or follow x 0) left) 0) (less left (single x)) left

  -- the nodes below n that lead to some
  unfoldable pub first_of : ℕ → ℕ
  first_of n = up_to (λ x. some_of (get_or follow x 0) x) n 0

  -- what is left of n nodes in the rounds: all nodes of rings, and no others than the n
  pub record Left (n left : ℕ) : Type 0 where
    pub keeps : (r : Ring (Leads n leads_to)) (i : ℕ) → i ≤ r.size → has left (r.node i) ≡ true
    pub within : (x : ℕ) → has left x ≡ true → x < n

  -- a sweep over the nodes that are left: rings stay whole, and where none went each leads to one that is left
  pub record Swept (n left after : ℕ) : Type 0 where
    pub fewer : after ≤ left
    pub whole : Left n left → Left n after
    pub leads : after ≡ left → (x : ℕ) → has left x ≡ true → both (get_or follow x 0) left ≢ 0
