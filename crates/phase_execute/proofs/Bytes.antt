-- Where Q's row and a side's entries stand, and how long a queue is.
use mathlib.Core.Path.{◌≡◌, refl}
use mathlib.Core.Logic.{◌⊎◌, inl, inr}
use mathlib.Core.Bool.{true, false}
use Prim.Native.Nat.{ℕ, ◌+◌, ◌*◌, ◌≤◌}
use native.Mathlib.Omega.{arith}
use lib.ListN.{length}
use Rattle.basis.specs.Choice.{test}
use Rattle.plan.specs.Head.{InRange}
use Rattle.plan.specs.Plan.{Plan, A, P}
use Rattle.plan_queues.specs.Queue.{Queue, Q, Exists, number}
use Rattle.rules.specs.State.{State}
use Rattle.rules.specs.Valid.{fed}
use Rattle.theory.specs.Invariant.{Core, account}
use Rattle.bytes_layout.specs.Offsets.{queue_row, entry_row}
use Rattle.bytes_layout.specs.Decode.{capacity_most}

module _ (pl : Plan) where
  pub unit_row : (r i : ℕ) → queue_row pl (Q r i) ≡ 2 + 39 * (A pl + P pl + 28 * r + 4 + i)
  unfolding queue_row number
  unit_row r i = refl

  pub entry_on : (r o t : ℕ) → entry_row pl r o t ≡ entry_row pl r o 0 + 2 * t
  unfolding entry_row
  entry_on r o t = omega arith

  -- ---- a queue of a state has at most seven packets
  pub line_few : (s : State) → InRange pl.head → Core pl s → (q : Queue) → Exists pl q
      → length (s.lines.queue q) ≤ 7
  unfolding account
  line_few s range c q h = by (test (fed pl q))
    where
      by : (fed pl q ≡ true) ⊎ (fed pl q ≡ false) → length (s.lines.queue q) ≤ 7
      by (inl f) = let m = capacity_most pl.head q range in omega (arith, c.credits q h f)
      by (inr f) = let m = capacity_most pl.head q range in let l = c.out_capacities q h f in omega arith
