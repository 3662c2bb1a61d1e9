-- The bytes that an accepted Launch leaves are those of the state that the rules give; and what its step asks.
use mathlib.Core.Path.{◌≡◌, ap, ap₂, ◌∙◌}
use mathlib.Core.List.{List}
use Prim.Native.Nat.{ℕ, ◌+◌, ◌-◌, ◌≤◌, ◌<◌}
use native.Mathlib.Omega.{arith}
use lib.ListN.{length, get_or, set}
use Rattle.packets.specs.declared.Packet.{Packet}
use Rattle.plan.specs.declared.Head.{Head}
use Rattle.plan.specs.Head.{InRange}
use Rattle.plan.specs.Plan.{Plan, A}
use Rattle.plan_queues.specs.Queue.{active_out}
use Rattle.rules.specs.State.{State, join}
use Rattle.rules.specs.Visits.{setup_of, launched}
use Rattle.bytes_layout.specs.Offsets.{queue_row, allowance_row}
use Rattle.bytes_layout.specs.Encode.{encode}
use Rattle.bytes_layout.specs.Decode.{length_at}
use Rattle.bytes_layout.specs.Updates.{push_at}
use Rattle.bytes_layout.proofs.Updates.{push_queue, put_allowance}
use Rattle.call_common.specs.Visits.{Ready, active_out_row, allowance_byte}
use Rattle.call_common.proofs.Rows.{active_out_inside, allowance_inside, active_few, passive_few, slot_few}
use Rattle.call_common.proofs.Tests.{allowed}
use Rattle.call_launch.specs.Launching.{launched_at}

-- ---- the step on states
module _ (pl : Plan) (s : State) (rest b : List ℕ) (same : b ≡ encode pl s rest) (a : ℕ) (la : a < A pl) (byte : ℕ)
    (byted : byte ≡ allowance_row pl a) where
  pub launched_bytes : (p t row : ℕ) → row ≡ queue_row pl (active_out a)
      → length (s.lines.queue (active_out a)) < 7
      → launched_at row byte a p t b ≡ encode pl (launched a p t s) rest
  unfolding launched_at launched join
  launched_bytes p t row at room =
      ap (λ (n : ℕ). set (push_at row (setup_of a p t) b) byte (n - 1))
      (allowed pl s rest b same a la byte byted)
      ∙ ap₂ (λ (i : ℕ) (c : List ℕ). set (push_at i (setup_of a p t) c) byte (s.flow.allowance a - 1)) at same
      ∙ ap₂ (λ (c : List ℕ) (i : ℕ). set c i (s.flow.allowance a - 1))
      (push_queue pl s rest (active_out a) la (setup_of a p t) room) byted
      ∙ put_allowance pl (join (active_out a) (setup_of a p t) s) rest a (s.flow.allowance a - 1) la

-- ---- what the step asks
module _ {h : Head} {b : List ℕ} (range : InRange h) (ready : Ready h b) where
  pub launch_ready : (a p t row byte : ℕ) → a < h.actives → p < h.passives → t < h.slots → row ≡ active_out_row a
      → byte ≡ allowance_byte h a → (get_or b byte 0 ≡ 0 → ⊥) → length_at row b < h.aout.0
      → (row + 39 ≤ length b) × (length_at row b < 7) × (byte < length b) × (1 ≤ get_or b byte 0) × (a < 16) × (p < 16)
      × (t < 32)
  launch_ready a p t row byte la lp lt at byted left room =
      let m = range.aout.1 in (
        active_out_inside ready a row la at,
        omega arith,
        allowance_inside ready a byte la byted,
        omega arith,
        active_few a range la,
        passive_few p range lp,
        slot_few t range lt,
      )

-- ---- the step as the code makes it
pub launch_made : (b : List ℕ) (row byte a p t : ℕ) {x : Packet} {c : List ℕ} → x ≡ setup_of a p t → c ≡ push_at row x b
    → set c byte (get_or b byte 0 - 1) ≡ launched_at row byte a p t b
unfolding launched_at
launch_made b row byte a p t e f =
    ap (λ (l : List ℕ). set l byte (get_or b byte 0 - 1)) (f ∙ ap (λ (y : Packet). push_at row y b) e)
