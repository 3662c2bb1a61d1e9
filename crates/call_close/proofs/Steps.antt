-- The bytes that an accepted Close leaves are those of the state that the rules give; and what its step asks.
use mathlib.Core.Path.{◌≡◌, ap, ap₂, ◌∙◌}
use mathlib.Core.List.{List}
use Prim.Native.Nat.{ℕ, ◌+◌, ◌≤◌, ◌<◌}
use native.Mathlib.Omega.{arith}
use lib.ListN.{length}
use Rattle.packets.specs.declared.Packet.{Packet}
use Rattle.plan.specs.declared.Head.{Head}
use Rattle.plan.specs.Head.{InRange}
use Rattle.plan.specs.Plan.{Plan, A}
use Rattle.plan_queues.specs.Queue.{active_out}
use Rattle.plan_queues.specs.Feeds.{span}
use Rattle.rules.specs.State.{State, join}
use Rattle.rules.specs.Visits.{closing_of, closed}
use Rattle.bytes_layout.specs.Offsets.{queue_row, starts_row}
use Rattle.bytes_layout.specs.Encode.{encode}
use Rattle.bytes_layout.specs.Decode.{length_at}
use Rattle.bytes_layout.specs.Updates.{push_at, leave_start}
use Rattle.bytes_layout.proofs.Updates.{push_queue}
use Rattle.bytes_layout.proofs.Connections.{leave_connection}
use Rattle.call_common.specs.Visits.{Ready, active_out_row, starts_byte}
use Rattle.call_common.proofs.Rows.{active_out_inside, starts_inside, active_few, passive_few, slot_few}
use Rattle.call_close.specs.Closing.{tdown_with, closed_at}

-- ---- the step on states
pub closed_bytes : (pl : Plan) (s : State) (rest b : List ℕ) → b ≡ encode pl s rest → (a p t n : ℕ) → a < A pl
    → p < 16 → t < 32 → n ≡ span pl a p → (row at : ℕ) → row ≡ queue_row pl (active_out a) → at ≡ starts_row pl a p
    → length (s.lines.queue (active_out a)) < 7 → closed_at row at a p t n b ≡ encode pl (closed pl a p t s) rest
unfolding closed_at closed
closed_bytes pl s rest b same a p t n la lp lt of row at here there room =
    ap₂ (λ (i : ℕ) (c : List ℕ). leave_start at t (push_at i (tdown_with a p t n) c)) here same
    ∙ ap₂ (λ (i m : ℕ). leave_start i t (push_at (queue_row pl (active_out a)) (tdown_with a p t m) (encode pl s rest)))
    there of
    ∙ ap (leave_start (starts_row pl a p) t) (push_queue pl s rest (active_out a) la (closing_of pl a p t) room)
    ∙ leave_connection pl (join (active_out a) (closing_of pl a p t) s) rest a p t la lp lt

-- ---- what the step asks
module _ {h : Head} {b : List ℕ} (range : InRange h) (ready : Ready h b) where
  pub close_ready : (a p : ℕ) {t row at : ℕ} → a < h.actives → p < h.passives → t < h.slots → row ≡ active_out_row a
      → at ≡ starts_byte h a p → length_at row b < h.aout.0
      → (row + 39 ≤ length b) × (length_at row b < 7) × (at + 4 ≤ length b) × (a < 16) × (p < 16) × (t < 32)
  close_ready a p {t} {row} {at} la lp lt here there room =
      let m = range.aout.1 in (
        active_out_inside ready a row la here,
        omega arith,
        starts_inside ready a p at la (passive_few p range lp) there,
        active_few a range la,
        passive_few p range lp,
        slot_few t range lt,
      )

-- ---- the step as the code makes it
pub close_made : (b : List ℕ) (row at a p t n : ℕ) {x : Packet} {c d : List ℕ} → x ≡ tdown_with a p t n
    → c ≡ push_at row x b → d ≡ leave_start at t c → d ≡ closed_at row at a p t n b
unfolding closed_at
close_made b row at a p t n e f g = g ∙ ap (leave_start at t) (f ∙ ap (λ (y : Packet). push_at row y b) e)
