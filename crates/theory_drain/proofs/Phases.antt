-- Each phase leaves fewer steps, or as many and then the state as it found it; READ moves packets from wires to queues,
-- which keeps them all.
use mathlib.Core.Path.{◌≡◌, refl, sym, ap, subst, ◌∙◌}
use mathlib.Core.Logic.{◌⊎◌, inl, inr}
use mathlib.Core.Bool.{Bool, true, false}
use mathlib.Core.List.{List, ◌∷◌}
use Prim.Native.Nat.{ℕ, suc, ◌*◌, ◌≤◌, ◌<◌, ◌/◌, ◌%◌}
use native.Mathlib.Omega.{arith}
use Rattle.basis.specs.Bounded.{below_suc}
use Rattle.basis.specs.Fold.{up_to, up_keeps, up_keeps_at}
use Rattle.packets.specs.declared.Packet.{Packet}
use Rattle.packets.specs.declared.Wire.{Wire}
use Rattle.packets.specs.declared.Phase.TheVariants.{Read, Execute, Write}
use Rattle.packets.specs.Counters.{slot_next}
use Rattle.plan.specs.Head.{InRange}
use Rattle.plan.specs.Plan.{Plan, R, A, S}
use Rattle.plan_queues.specs.Queue.{Queue, active_out, active_in, Exists}
use Rattle.plan_queues.specs.Feeds.{Output}
use Rattle.plan_facts.specs.Wired.{Wired}
use Rattle.rules.specs.Store.{put, same_queue}
use Rattle.rules.specs.Outputs.{outputs, output_at}
use Rattle.rules.specs.State.{State, with_phase, with_slot}
use Rattle.rules.specs.Read.{deliver, settle, lower, do_read}
use Rattle.rules.specs.Execute.{unit_at, unit, choose, undo, do_execute, unmarked, has_room}
use Rattle.rules.specs.Write.{send, do_write}
use Rattle.rules.specs.Valid.{Drives}
use Rattle.theory.specs.Invariant.{Core, WiresEmpty, FlagsDown, ChoicesSendable}
use Rattle.theory.specs.Weights.{weighed}
use Rattle.theory.proofs.Ground.Cells.{queue_or, queue_here, queue_away}
use Rattle.theory.proofs.Cases.{deliver_none, unmarked_kind_lem}
use Rattle.theory.proofs.Shape.Execute.{FlagsBehind, quiet_start, quiet_down, unit_quiet}
use Rattle.theory.proofs.Shape.Phases.{read_keeps, execute_keeps, write_keeps}
use Rattle.theory.proofs.Keeps.{phase_core, turn_core, deliver_core, settle_core, unit_core, choose_core, undo_core}
use Rattle.theory.proofs.Keeps.{send_core}
use Rattle.theory.proofs.Weights.Moves.{phase_weighed, settle_weighed, deliver_weighed}
use Rattle.theory.proofs.Weights.Changes.{torn_weighed}
use Rattle.theory_drain.specs.Left.{left, all_left}
use Rattle.theory_drain.proofs.Falling.{torn_left}
use Rattle.theory_drain.proofs.Steps.{Alike, Lowers, falls, stays, alike_self, alike_then, lowers_same, lowers_then}
use Rattle.theory_drain.proofs.Steps.{lowers_most, phase_lowers, slot_lowers, choose_lowers, unit_lowers, undo_lowers}
use Rattle.theory_drain.proofs.Steps.{send_lowers}

-- ---- READ with empty wires
settle_alike : (q : Queue) (s : State) → Alike s (settle q s)
unfolding settle lower
settle_alike q s = by (s.flow.flag q)
  where
    by : (b : Bool) → Alike s (lower q b s)
    by false = alike_self s
    by true = record { wire = refl; same = λ k f. refl; long = λ k. refl; down = down' }
      where
        down' : (k : Queue) → s.flow.flag k ≡ false → put same_queue s.flow.flag q false k ≡ false
        down' k e = at (queue_or k q)
          where
            at : (k ≡ q) ⊎ (k ≡ q → ⊥) → put same_queue s.flow.flag q false k ≡ false
            at (inl f) = rw f (queue_here s.flow.flag q false)
            at (inr f) = queue_away s.flow.flag q false k f ∙ e

pub read_alike : (pl : Plan) (s : State) → WiresEmpty pl s → Alike s (do_read pl s)
read_alike pl s w = read_keeps pl (Alike s) s delivers settles ends (alike_self s)
  where
    delivers : (o : Output) (t : State) → Drives pl o → Alike s t → Alike s (deliver pl o t)
    delivers o t d a =
        subst (Alike s) (sym (deliver_none pl o t (ap (λ (m : Output → Wire). m o) a.wire ∙ w o d))) a

    settles : (q : Queue) (t : State) → Exists pl q → Alike s t → Alike s (settle q t)
    settles q t h a = alike_then s t (settle q t) a (settle_alike q t)

    ends : (t : State) → Alike s t → Alike s (with_phase Execute t)
    ends t a = record { wire = a.wire; same = a.same; long = a.long; down = a.down }

module _ {pl : Plan} (wired : Wired pl) (range : InRange pl.head) where
  -- READ keeps what packets have left.
  pub read_left : (s : State) → Core pl s → all_left pl (do_read pl s) ≡ all_left pl s
  unfolding all_left
  read_left s c =
      (read_keeps pl (λ (t : State). Core pl t × (weighed pl (left pl) t ≡ weighed pl (left pl) s)) s
      (λ o t d k. (deliver_core wired range o t d k.0, deliver_weighed pl (left pl) wired k.0 o d ∙ k.1))
      (λ q t h k. (settle_core wired range q t h k.0, settle_weighed pl (left pl) q t ∙ k.1))
      (λ t k. (phase_core wired range Execute t k.0, phase_weighed pl (left pl) Execute t ∙ k.1))
      (c, refl)).1

  -- EXECUTE and WRITE.
  abbrev Low : State → State → Type 0
  Low s t = Core pl t × Lowers pl s t

  pub execute_lowers : (s : State) → Core pl s → FlagsDown pl s → Lowers pl s (do_execute pl s)
  execute_lowers s c f =
      (execute_keeps pl (Low s) s
      (λ r i t h d k. (
        unit_core wired range r i t h d k.0,
        lowers_then pl s t (unit pl r i t) k.1 (unit_lowers wired range k.0 r i h),
      ))
      (λ o t d k. (
        choose_core wired range o t k.0,
        lowers_then pl s t (choose pl o t) k.1 (choose_lowers pl o t),
      ))
      (λ a t h k. (
        undo_core wired range a t h k.0,
        lowers_then pl s t (undo pl a t) k.1 (undo_lowers wired range k.0 a h),
      ))
      (λ t k. (
        phase_core wired range Write t k.0,
        lowers_then pl s t (with_phase Write t) k.1 (phase_lowers pl Write t),
      ))
      f (c, lowers_same pl s s refl)).1

  pub write_lowers : (s : State) → Core pl s → WiresEmpty pl s → ChoicesSendable pl s → Lowers pl s (do_write pl s)
  write_lowers s c w d =
      (write_keeps pl (Low s) s wired
      (λ o t h z r k. (
        send_core wired range o t h z r k.0,
        lowers_then pl s t (send pl o t) k.1 (send_lowers wired range k.0 o h r z),
      ))
      (λ t k. (
        turn_core wired range s t c k.0,
        lowers_then pl s (with_slot (slot_next s.clock.slot (S pl)) t)
            (with_phase Read (with_slot (slot_next s.clock.slot (S pl)) t))
            (lowers_then pl s t (with_slot (slot_next s.clock.slot (S pl)) t) k.1
            (slot_lowers pl (slot_next s.clock.slot (S pl)) t))
            (phase_lowers pl Read (with_slot (slot_next s.clock.slot (S pl)) t)),
      ))
      w d (c, lowers_same pl s s refl)).1

  -- EXECUTE marks a NACK that an active's in-queue starts with, where the out-queue has room.
  module _ (s : State) (c : Core pl s) (f : FlagsDown pl s) (a : ℕ) (h : a < A pl) (x : Packet) (rest : List Packet)
      (e : s.lines.queue (active_in a) ≡ x ∷ rest) (u : unmarked x ≡ true)
      (g : has_room pl (active_out a) s ≡ true) where
    -- after the tear-downs of the actives below n
    abbrev Upto : ℕ → State → Type 0
    Upto n t = Core pl t × ((all_left pl t < all_left pl s) ⊎ ((n ≤ a) × (all_left pl t ≤ all_left pl s) × Alike s t))

    begins : (t : State) → Low s t → Upto 0 t
    begins t (k, falls l) = (k, inl l)
    begins t (k, stays l b) = (k, inr (omega arith, l, b))

    -- the active's own turn
    tears_here : (t : State) → Core pl t → Alike s t → all_left pl (undo pl a t) < all_left pl t
    unfolding all_left
    tears_here t k b =
        let line : t.lines.queue (active_in a) ≡ x ∷ rest = b.same (active_in a) refl ∙ e in
        let room : has_room pl (active_out a) t ≡ true = rw (b.same (active_out a) refl) g in
        let n = unmarked_kind_lem x.kind x.hub.0 u in
        let all = torn_weighed pl (left pl) k a h x rest line u room in
        let one = torn_left wired a x n.0 n.1 in
        omega arith

    next_active : (i : ℕ) (t : State) → i < A pl → Upto i t → Upto (suc i) (undo pl i t)
    next_active i t l (k, inl m) =
        let n = lowers_most pl t (undo pl i t) (undo_lowers wired range k i l) in
        (undo_core wired range i t l k, inl (omega arith))
    next_active i t l (k, inr (n, m, b)) = by (below_suc {i = i} {n = a} (omega arith))
      where
        at : i < a → Lowers pl t (undo pl i t) → Upto (suc i) (undo pl i t)
        at z (falls v) = (undo_core wired range i t l k, inl (omega arith))
        at z (stays v d) =
            (undo_core wired range i t l k, inr (omega arith, omega arith, alike_then s t (undo pl i t) b d))

        by : (i < a) ⊎ (i ≡ a) → Upto (suc i) (undo pl i t)
        by (inl z) = at z (undo_lowers wired range k i l)
        by (inr z) =
            let v : all_left pl (undo pl i t) < all_left pl t
            = subst (λ (j : ℕ). all_left pl (undo pl j t) < all_left pl t) (sym z) (tears_here t k b) in
            (undo_core wired range i t l k, inl (omega arith))

    units_low : Low s (up_to (unit_at pl) (4 * R pl) s)
    units_low =
        (up_keeps_at (λ (n : ℕ) (t : State). FlagsBehind pl n t × Low s t) (unit_at pl) (4 * R pl) s
        (λ i t l q. (
          unit_quiet pl i t q.0,
          (
            unit_core wired range (i / 4) (i % 4) t (omega arith, omega arith) (quiet_down pl i t l q.0) q.1.0,
            lowers_then pl s t (unit_at pl i t) q.1.1
                (unit_lowers wired range q.1.0 (i / 4) (i % 4) (omega arith, omega arith)),
          ),
        ))
        (quiet_start pl s f, (c, lowers_same pl s s refl))).1

    picks_low : Low s (up_to (λ n. choose pl (output_at pl n)) (outputs pl) (up_to (unit_at pl) (4 * R pl) s))
    picks_low =
        up_keeps (Low s) (λ n. choose pl (output_at pl n)) (outputs pl) (up_to (unit_at pl) (4 * R pl) s)
        (λ i t l k. (
          choose_core wired range (output_at pl i) t k.0,
          lowers_then pl s t (choose pl (output_at pl i) t) k.1 (choose_lowers pl (output_at pl i) t),
        )) units_low

    pub execute_marks : all_left pl (do_execute pl s) < all_left pl s
    unfolding do_execute
    execute_marks = by (up_keeps_at Upto (undo pl) (A pl)
        (up_to (λ n. choose pl (output_at pl n)) (outputs pl) (up_to (unit_at pl) (4 * R pl) s)) next_active
        (begins (up_to (λ n. choose pl (output_at pl n)) (outputs pl) (up_to (unit_at pl) (4 * R pl) s)) picks_low))
      where
        over : (t : State) → Upto (A pl) t → all_left pl (with_phase Write t) < all_left pl s
        over t (k, inl l) =
            let m = lowers_most pl t (with_phase Write t) (phase_lowers pl Write t) in omega arith
        over t (k, inr (n, l, b)) = absurd (omega arith)

        by : Upto (A pl) (up_to (undo pl) (A pl)
            (up_to (λ n. choose pl (output_at pl n)) (outputs pl) (up_to (unit_at pl) (4 * R pl) s)))
            → all_left pl (with_phase Write (up_to (undo pl) (A pl)
            (up_to (λ n. choose pl (output_at pl n)) (outputs pl) (up_to (unit_at pl) (4 * R pl) s)))) < all_left pl s
        by k = over _ k
