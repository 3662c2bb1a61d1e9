-- The three phases as folds of one-place steps: what each step keeps, given what the shape tells at its turn, the
-- phase keeps.
use mathlib.Core.Path.{◌≡◌}
use mathlib.Core.Bool.{false}
use native.Mathlib.Omega.{arith}
use Prim.Native.Nat.{ℕ, suc, ◌<◌, ◌*◌, ◌/◌, ◌%◌}
use Rattle.basis.specs.Fold.{up_to, up_keeps, up_keeps_at}
use Rattle.packets.specs.declared.Wire.TheVariants.{Empty}
use Rattle.packets.specs.declared.Phase.TheVariants.{Read, Execute, Write}
use Rattle.packets.specs.Counters.{slot_next}
use Rattle.plan.specs.Plan.{Plan, R, A, S}
use Rattle.plan_queues.specs.Queue.{Queue, Q, Exists, queues, queue_at}
use Rattle.plan_queues.specs.Feeds.{Output}
use Rattle.plan_facts.specs.Wired.{Wired}
use Rattle.rules.specs.Outputs.{outputs, output_at}
use Rattle.rules.specs.State.{State, sender, with_phase, with_slot}
use Rattle.rules.specs.Read.{deliver, settle, do_read}
use Rattle.rules.specs.Execute.{unit_at, unit, choose, undo, do_execute}
use Rattle.rules.specs.Write.{send, do_write}
use Rattle.rules.specs.Valid.{Drives}
use Rattle.rules.proofs.Numbers.{exists_at}
use Rattle.rules.proofs.OutNumbers.{drives_at}
use Rattle.theory.specs.Invariant.{WiresEmpty, FlagsDown, Sendable, ChoicesSendable}
use Rattle.theory.proofs.Shape.Execute.{FlagsBehind, quiet_start, quiet_down, unit_quiet}
use Rattle.theory.proofs.Shape.Write.{Pending, pending_start, pending_now, send_pending}

module _ (pl : Plan) (P : State → Type 0) (s : State) where
  -- READ: deliveries, then flags
  pub read_keeps : ((o : Output) (t : State) → Drives pl o → P t → P (deliver pl o t))
      → ((q : Queue) (t : State) → Exists pl q → P t → P (settle q t))
      → ((t : State) → P t → P (with_phase Execute t))
      → P s → P (do_read pl s)
  unfolding do_read
  read_keeps delivers settles ends p =
      ends (up_to (λ n. settle (queue_at pl n)) (queues pl) (up_to (λ n. deliver pl (output_at pl n)) (outputs pl) s))
      (up_keeps P (λ n. settle (queue_at pl n)) (queues pl) (up_to (λ n. deliver pl (output_at pl n)) (outputs pl) s)
      (λ i t h q. settles (queue_at pl i) t (exists_at pl i h) q)
      (up_keeps P (λ n. deliver pl (output_at pl n)) (outputs pl) s
      (λ i t h q. delivers (output_at pl i) t (drives_at pl i h) q) p))

  -- EXECUTE: units, whose Q's flag is down at their turn, then picks, then tear-downs
  pub execute_keeps : ((r i : ℕ) (t : State) → (r < R pl) × (i < 4) → t.flow.flag (Q r i) ≡ false → P t → P
      (unit pl r i t))
      → ((o : Output) (t : State) → Drives pl o → P t → P (choose pl o t))
      → ((a : ℕ) (t : State) → a < A pl → P t → P (undo pl a t))
      → ((t : State) → P t → P (with_phase Write t))
      → FlagsDown pl s → P s → P (do_execute pl s)
  unfolding do_execute
  execute_keeps units chooses undoes ends f p =
      ends (up_to (undo pl) (A pl) (up_to (λ n. choose pl (output_at pl n)) (outputs pl)
      (up_to (unit_at pl) (4 * R pl) s)))
      (up_keeps P (undo pl) (A pl) (up_to (λ n. choose pl (output_at pl n)) (outputs pl)
      (up_to (unit_at pl) (4 * R pl) s))
      (λ i t h q. undoes i t h q)
      (up_keeps P (λ n. choose pl (output_at pl n)) (outputs pl) (up_to (unit_at pl) (4 * R pl) s)
      (λ i t h q. chooses (output_at pl i) t (drives_at pl i h) q)
      (up_keeps_at (λ (n : ℕ) (t : State). FlagsBehind pl n t × P t) (unit_at pl) (4 * R pl) s
      (λ i t h q. (
        unit_quiet pl i t q.0,
        units (i / 4) (i % 4) t (omega arith, omega arith) (quiet_down pl i t h
            q.0) q.1,
      ))
      (quiet_start pl s f, p)).1))

  -- WRITE: sendings, each with an empty wire and a choice that can be sent at its turn
  pub write_keeps : Wired pl
      → ((o : Output) (t : State) → Drives pl o → t.links.wire o ≡ Empty
      → ((k : ℕ) → t.links.choice o ≡ sender k → Sendable pl t o k) → P t → P (send pl o t))
      → ((t : State) → P t → P (with_phase Read (with_slot (slot_next s.clock.slot (S pl)) t)))
      → WiresEmpty pl s → ChoicesSendable pl s → P s → P (do_write pl s)
  unfolding do_write
  write_keeps wired sends ends w c p =
      ends (up_to (λ n. send pl (output_at pl n)) (outputs pl) s)
      (up_keeps_at (λ (n : ℕ) (t : State). Pending pl n t × P t) (λ n. send pl (output_at pl n)) (outputs pl) s step
      (pending_start pl s w c, p)).1
    where
      step : (i : ℕ) (t : State) → i < outputs pl → Pending pl i t × P t
          → Pending pl (suc i) (send pl (output_at pl i) t) × P (send pl (output_at pl i) t)
      step i t h q =
          let g = pending_now pl i t h q.0 in
          (send_pending pl wired i t h q.0, sends (output_at pl i) t (drives_at pl i h) g.0 g.1 q.1)
