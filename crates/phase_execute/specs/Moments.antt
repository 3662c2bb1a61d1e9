-- What holds of a state at the moments of EXECUTE (1) and (3); for (2), the picks, see picking.
use Rattle.std.specs.Prelude.{◌≡◌, false, List, ◌∷◌, ℕ, ◌+◌, ◌*◌, ◌≤◌, ◌<◌}
use Rattle.packets.specs.declared.Packet.{Packet}
use Rattle.plan.specs.Plan.{Plan, R}
use Rattle.plan_queues.specs.Queue.{active_in, Q}
use Rattle.rules.specs.State.{State}
use Rattle.theory.specs.Invariant.{Core, NoChoices}

-- ---- (1)
-- the first n queues at units have had their turn, Q[i] of router r being the 4r + i-th: the flags of the others are
-- down
pub record Turn (pl : Plan) (n : ℕ) (s : State) : Type 0 where
  pub core : Core pl s
  pub down : (r i : ℕ) → n ≤ 4 * r + i → (r < R pl) × (i < 4) → s.flow.flag (Q r i) ≡ false
  pub choices : NoChoices pl s

-- the turn of a unit whose queue starts with x, which is not handled
pub record Heads (pl : Plan) (r i : ℕ) (x : Packet) (s : State) : Type 0 where
  pub turn : Turn pl (4 * r + i) s
  pub rest : List Packet
  pub line : s.lines.queue (Q r i) ≡ x ∷ rest
  pub fresh : s.lines.handled (Q r i) ≡ false

-- ---- (3)
-- active a's in-queue starts with x
pub record Starts (pl : Plan) (a : ℕ) (x : Packet) (s : State) : Type 0 where
  pub core : Core pl s
  pub rest : List Packet
  pub line : s.lines.queue (active_in a) ≡ x ∷ rest
