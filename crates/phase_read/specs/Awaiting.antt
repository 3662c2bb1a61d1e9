-- Which of a unit's four queues a packet on the wire to it joins: the wire does not say, but the packet was sent for a
-- credit of that queue, so that one lacks a credit, and no other does.
use Rattle.std.specs.Prelude.{◌≡◌, ◌≢◌, Bool, true, false, not, List, ℕ, ◌+◌, ◌*◌, ◌<◌, eqb, length, get_or}
use Rattle.plan.specs.Plan.{Plan}
use Rattle.plan_queues.specs.Queue.{Queue, Q}
use Rattle.rules.specs.Capacity.{capacity}
use Rattle.rules.specs.State.{State}
use Rattle.rules.specs.Valid.{bit}
use Rattle.bytes_layout.specs.Codes.{flag_of}

-- ---- in a state
-- what a queue has of its capacity, but for what is on wires
abbrev pub held : State → Queue → ℕ
held s q = (s.flow.credit q).0 + length (s.lines.queue q) + bit (s.flow.flag q)

-- of the four queues at router r only Q[c] lacks a credit
pub record Awaits (pl : Plan) (s : State) (r c : ℕ) : Type 0 where
  pub below : c < 4
  pub lacks : held s (Q r c) ≢ capacity pl.head (Q r c)
  pub others : (i : ℕ) → i < 4 → i ≢ c → held s (Q r i) ≡ capacity pl.head (Q r i)

-- ---- in bytes
-- of queue n
unfoldable pub held_at : ℕ → List ℕ → ℕ
held_at n b = get_or b (2 + 39 * n) 0 + get_or b (2 + 39 * n + 3) 0 + bit (flag_of (get_or b (2 + 39 * n + 1) 0))

unfoldable pub lacks_at : ℕ → ℕ → List ℕ → Bool
lacks_at n cap b = not (eqb (held_at n b) cap)

-- of the four queues from number n on, with this capacity, only the c-th lacks a credit
pub record Only (n c cap : ℕ) (b : List ℕ) : Type 0 where
  pub below : c < 4
  pub lacks : lacks_at (n + c) cap b ≡ true
  pub others : (i : ℕ) → i < 4 → i ≢ c → lacks_at (n + i) cap b ≡ false
