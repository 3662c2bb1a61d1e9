-- WRITE: the turns, the slot and the phase.
use mathlib.Core.Path.{◌≡◌, sym, ap, ◌∙◌}
use mathlib.Core.List.{List}
use Prim.Native.Nat.{ℕ, suc, ◌+◌, ◌≤◌, ◌<◌}
use native.Mathlib.Omega.{arith}
use lib.ListN.{get_or, set}
use Rattle.basis.specs.Fold.{up_to, up_keeps_at}
use Rattle.kinds.specs.declared.Slot.{Slot}
use Rattle.packets.specs.declared.Phase.TheVariants.{Read, Write}
use Rattle.packets.specs.Counters.{slot_next}
use Rattle.plan.specs.declared.Head.{Head}
use Rattle.plan.specs.Head.{InRange}
use Rattle.plan.specs.Plan.{Plan, S}
use Rattle.plan_facts.specs.Wired.{Wired}
use Rattle.rules.specs.Outputs.{outputs, output_at}
use Rattle.rules.specs.State.{State, with_phase, with_slot}
use Rattle.rules.specs.Write.{do_write}
use Rattle.rules.proofs.OutNumbers.{drives_at}
use Rattle.theory.specs.Invariant.{Core}
use Rattle.theory.proofs.Keeps.{inv_of, send_core}
use Rattle.theory.proofs.Shape.Write.{Pending, pending_start, pending_now, send_pending}
use Rattle.theory.proofs.Shape.Calls.{write_has}
use Rattle.bytes_layout.specs.Codes.{phase_code}
use Rattle.bytes_layout.specs.Encode.{encode}
use Rattle.bytes_layout.proofs.Readings.{slot_at}
use Rattle.bytes_layout.proofs.Updates.{put_phase, put_slot}
use Rattle.bytes_steps.specs.Acts.{Holds, Steps, In, steps_more, holds_then, holds_less}
use Rattle.bytes_steps.specs.Counts.{output_count}
use Rattle.phase_read.proofs.Offsets.{outputs_of}
use Rattle.phase_write.specs.Writing.{sending, Picking, Picked}
use Rattle.phase_write.proofs.Turns.{picking}

-- after n turns the state is whole, and what is still to come can be sent
pub pending_core : {pl : Plan} (wired : Wired pl) (range : InRange pl.head) (n : ℕ) → n ≤ outputs pl → (s : State)
    → Picked pl s → Pending pl n (up_to (sending pl) n s) × Core pl (up_to (sending pl) n s)
pending_core {pl} wired range n l s p =
    up_keeps_at (λ (k : ℕ) (t : State). Pending pl k t × Core pl t) (sending pl) n s step
    (pending_start pl s p.empty p.able, p.core)
  where
    step : (i : ℕ) (t : State) → i < n → Pending pl i t × Core pl t
        → Pending pl (suc i) (sending pl i t) × Core pl (sending pl i t)
    step i t h q =
        let less : i < outputs pl = omega arith in
        let g = pending_now pl i t less q.0 in (
          send_pending pl wired i t less q.0,
          send_core wired range (output_at pl i) t (drives_at pl i less) g.0 g.1 q.1,
        )

module _ {pl : Plan} {h : Head} (e : pl.head ≡ h) (range : InRange h) (wired : Wired pl) where
  -- ---- the turns
  module _ {m : ℕ} (l : m < output_count h) {b c : List ℕ} (x : Steps pl (Picked pl) (up_to (sending pl) m) b c) where
    picked_then : (s : State) → Picked pl s → Picking pl m (up_to (sending pl) m s)
    picked_then s p =
        let o = outputs_of pl e in
        let less : m < outputs pl = omega arith in
        let g = pending_core wired (rw e range) m (omega arith) s p in
        picking wired (rw e range) m (up_to (sending pl) m s) less g.1
        (pending_now pl m (up_to (sending pl) m s) less g.0).1

    -- the bytes at a turn
    pub sends_at : Holds pl (Picked pl) b → Holds pl (Picking pl m) c
    sends_at g = holds_then pl g x picked_then

    -- a turn
    pub sends_more : {d u : List ℕ} → Steps pl (Picking pl m) (sending pl m) c d → u ≡ d
        → Steps pl (Picked pl) (up_to (sending pl) (m + 1)) b u
    sends_more y q =
        steps_more pl (sending pl) m x picked_then (record { done = λ s rest a f. q ∙ y.done s rest a f })

  -- ---- the phase
  picked_of : (s : State) → In pl Write s → Picked pl s
  picked_of s i =
      let v = inv_of pl s i.good in
      let g = write_has s i.phase v.shape in
      record { core = v.core; empty = g.0; able = g.1 }

  -- what WRITE begins with
  pub write_starts : {b : List ℕ} → Holds pl (In pl Write) b → Holds pl (Picked pl) b
  write_starts g = holds_less pl picked_of g

  -- the slot is one of the plan's
  pub slot_below : {b : List ℕ} → Holds pl (In pl Write) b → get_or b 1 0 < h.slots
  slot_below {b} g =
      let z = slot_at pl g.state g.rest b g.same in
      let y = (inv_of pl g.state g.fit.good).core.slot in
      rw (← e) (omega arith)

  -- the bytes after WRITE
  pub write_done : {b c : List ℕ} {t : Slot} {v : ℕ} → t ≡ slot_next (record { 0 = get_or b 1 0 }) h.slots
      → Steps pl (Picked pl) (up_to (sending pl) (output_count h)) b c → v ≡ phase_code Read
      → Steps pl (In pl Write) (do_write pl) b (set (set c 1 t.0) 0 v)
  unfolding do_write
  write_done {b} {c} {t} {v} f x g =
      record { done = λ s rest i q. ap (set (set c 1 t.0) 0) g ∙ by s rest (picked_of s i) q }
    where
      slot : (s : State) (rest : List ℕ) → b ≡ encode pl s rest → t ≡ slot_next s.clock.slot (S pl)
      slot s rest q =
          f ∙ ap (λ (k : ℕ). slot_next (record { 0 = k }) h.slots) (slot_at pl s rest b q)
          ∙ ap (λ (y : Head). slot_next s.clock.slot y.slots) (sym e)

      by : (s : State) (rest : List ℕ) → Picked pl s → b ≡ encode pl s rest
          → set (set c 1 t.0) 0 (phase_code Read) ≡ encode pl (do_write pl s) rest
      by s rest p q =
          let o : output_count h ≡ outputs pl = sym (outputs_of pl e) in
          ap (λ (z : List ℕ). set (set z 1 t.0) 0 (phase_code Read)) (x.done s rest p q)
          ∙ ap (λ (z : List ℕ). set z 0 (phase_code Read)) (put_slot pl (up_to (sending pl) (output_count h) s) rest t)
          ∙ put_phase pl (with_slot t (up_to (sending pl) (output_count h) s)) rest Read
          ∙ ap (λ (z : Slot). encode pl (with_phase Read (with_slot z (up_to (sending pl) (output_count h) s))) rest)
          (slot s rest q)
          ∙ ap (λ (k : ℕ). encode pl (with_phase Read (with_slot (slot_next s.clock.slot (S pl))
          (up_to (sending pl) k s))) rest) o
