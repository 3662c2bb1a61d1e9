-- Core, shape and what outputs remember are kept by every call, from every valid state: the core by each step, the
-- others by each phase. With connections that are tied to the table they are what refusal 7 asks; the ties are kept
-- along a list from Start (proofs/Own/Ties), and not by each call alone.
use mathlib.Core.Path.{◌≡◌, refl}
use mathlib.Core.Logic.{◌⊎◌, inl, inr}
use mathlib.Core.Bool.{Bool, true, false, false≢true}
use mathlib.Core.List.{List, ◌∷◌}
use Prim.Native.Nat.{ℕ, ◌<◌}
use lib.Dec.{eqb}
use Rattle.basis.specs.Choice.{pick}
use Rattle.packets.specs.declared.Kind.TheVariants.{Ack, Nack}
use Rattle.packets.specs.declared.Packet.{Packet}
use Rattle.packets.specs.declared.Wire.TheVariants.{Empty}
use Rattle.packets.specs.declared.Phase.{Phase}
use Rattle.packets.specs.declared.Phase.TheVariants.{Read, Execute, Write}
use Rattle.packets.specs.Counters.{slot_next}
use Rattle.plan.specs.Head.{InRange}
use Rattle.plan.specs.Plan.{Plan, R, A, S}
use Rattle.plan_queues.specs.Queue.{Queue, active_in, Q, Exists}
use Rattle.plan_queues.specs.Feeds.{Output, Place, in_queue}
use Rattle.plan_facts.specs.Wired.{Wired}
use Rattle.plan_journeys.proofs.Walks.{served_of}
use Rattle.rules.specs.State.{State, sender, blank, start, with_phase, with_slot, join}
use Rattle.rules.specs.Read.{deliver, settle, do_read}
use Rattle.rules.specs.Execute.{unit, choose, undo, do_execute}
use Rattle.rules.specs.Write.{send, do_write}
use Rattle.rules.specs.Visits.{launched, reply_kind, replied, removed, noted, closed}
use Rattle.rules.specs.Calls.{Visit, Call, Outcome, phase_step, call}
use Rattle.theory.specs.Does.{MayLaunch, MayReply, MayDrop, MayClose}
use Rattle.theory.specs.Does.{Visited, launches, replies, looks, drops, closes, tells, counts, Does, refuses}
use Rattle.theory.specs.Does.{turns, visits}
use Rattle.rules.specs.Valid.{Belongs, Drives, Ties}
use Rattle.rules.specs.Ruled.{Good}
use Rattle.theory.proofs.Does.{call_does}
use Rattle.theory.specs.Invariant.{Inv, Core, in_read, Sendable}
use Rattle.theory.specs.Invariant.{WiresEmpty, FlagsDown, ChoicesSendable, Allowances}
use Rattle.theory.proofs.Core.{core_of, shape_of, valid_of}
use Rattle.theory.proofs.Weights.Spending.{reply_spends}
use Rattle.theory.proofs.Weights.Allowance.{start_allowances, phase_allowances, slot_allowances}
use Rattle.theory.proofs.Weights.Allowance.{deliver_allowances, settle_allowances, unit_allowances}
use Rattle.theory.proofs.Weights.Allowance.{choose_allowances, undo_allowances, send_allowances}
use Rattle.theory.proofs.Weights.Allowance.{launched_allowances, replied_allowances, removed_allowances}
use Rattle.theory.proofs.Weights.Allowance.{noted_allowances, closed_allowances}
use Rattle.theory.proofs.Weights.Moves.{core_head}
use Rattle.theory.proofs.Kept.Parts.{Kept, kept_of, start_kept, phase_kept, slot_kept}
use Rattle.theory.proofs.Kept.Read.{deliver_kept, settle_kept}
use Rattle.theory.proofs.Kept.Execute.{unit_kept, choose_kept, undo_kept}
use Rattle.theory.proofs.Kept.Write.{send_kept, turn_kept}
use Rattle.theory.proofs.Kept.Calls.{launched_kept, replied_kept, removed_kept, noted_kept, closed_kept}
use Rattle.theory.proofs.Account.Paid.{Paid, start_paid, phase_paid, slot_paid}
use Rattle.theory.proofs.Account.Read.{deliver_paid, settle_paid}
use Rattle.theory.proofs.Account.Execute.{unit_paid, choose_paid, undo_paid}
use Rattle.theory.proofs.Account.Write.{send_paid}
use Rattle.theory.proofs.Account.Calls.{launched_paid, replied_paid, removed_paid, noted_paid, closed_paid}
use Rattle.theory.proofs.Shape.Read.{read_shape}
use Rattle.theory.proofs.Shape.Execute.{execute_shape}
use Rattle.theory.proofs.Shape.Write.{write_shape}
use Rattle.theory.proofs.Shape.Calls.{read_has, execute_has, write_has, launched_shape, replied_shape}
use Rattle.theory.proofs.Shape.Calls.{removed_shape, noted_shape, closed_shape}
use Rattle.theory.proofs.Shape.Phases.{read_keeps, execute_keeps, write_keeps}
use Rattle.theory.proofs.Turns.{turns_alike, start_turns, noted_last, read_last, execute_last, write_turns}

-- the core from its parts
pub core_by : {pl : Plan} {s : State} → Kept pl s → Paid pl s → Allowances pl s → Core pl s
core_by k p a =
    record {
      slot = k.slot;
      entries = k.entries;
      out_capacities = p.out_capacities;
      places = k.places;
      wires = k.wires;
      out_flags = p.out_flags;
      marks = k.marks;
      free_entry = k.free_entry;
      credits = p.credits;
      out_credits = p.out_credits;
      allowances = a;
      bounded = k.bounded;
    }

pub inv_of : (pl : Plan) (s : State) → Good pl s → Inv pl s
inv_of pl s g =
    record { core = core_of pl s g.valid g.bounded; shape = shape_of pl s g.valid; turns = g.valid.turns }

pub good_of : (pl : Plan) (s : State) → Inv pl s → Ties pl s → Good pl s
good_of pl s i t = record { valid = valid_of pl s i.core i.shape i.turns t; bounded = i.core.bounded }

module _ {pl : Plan} (wired : Wired pl) (range : InRange pl.head) where
  -- ---- the core is kept by each step
  pub start_core : Core pl (start pl)
  start_core = core_by (start_kept pl range) (start_paid pl) (start_allowances pl)

  pub phase_core : (x : Phase) (s : State) → Core pl s → Core pl (with_phase x s)
  phase_core x s c = core_by (phase_kept (kept_of pl s c) x) (phase_paid x c) (phase_allowances c x)

  pub deliver_core : (o : Output) (s : State) → Drives pl o → Core pl s → Core pl (deliver pl o s)
  deliver_core o s d c = core_by (deliver_kept wired range o s d (kept_of pl s c)) (deliver_paid wired o s d c)
      (deliver_allowances c wired o d)

  pub settle_core : (q : Queue) (s : State) → Exists pl q → Core pl s → Core pl (settle q s)
  settle_core q s h c =
      core_by (settle_kept wired range q s h (kept_of pl s c)) (settle_paid q s h c) (settle_allowances c q)

  pub unit_core : (r i : ℕ) (s : State) → (r < R pl) × (i < 4) → s.flow.flag (Q r i) ≡ false → Core pl s → Core pl
      (unit pl r i s)
  unit_core r i s h f c =
      core_by (unit_kept wired range r i s h (kept_of pl s c)) (unit_paid s c r i f) (unit_allowances c r i h)

  pub choose_core : (o : Output) (s : State) → Core pl s → Core pl (choose pl o s)
  choose_core o s c =
      core_by (choose_kept wired range o s (kept_of pl s c)) (choose_paid s c o) (choose_allowances c o)

  pub undo_core : (a : ℕ) (s : State) → a < A pl → Core pl s → Core pl (undo pl a s)
  undo_core a s h c = core_by (undo_kept wired range a s h (kept_of pl s c)) (undo_paid s c a) (undo_allowances c a h)

  pub send_core : (o : Output) (s : State) → Drives pl o → s.links.wire o ≡ Empty
      → ((k : ℕ) → s.links.choice o ≡ sender k → Sendable pl s o k) → Core pl s → Core pl (send pl o s)
  send_core o s d w r c = core_by (send_kept wired range o s d r (kept_of pl s c)) (send_paid wired o s d c w r)
      (send_allowances c wired o d r w)

  -- the end of a round: the next slot, and READ
  pub turn_core : (x : State) (s : State) → Core pl x → Core pl s
      → Core pl (with_phase Read (with_slot (slot_next x.clock.slot (S pl)) s))
  turn_core x s b c =
      let k = slot_kept (kept_of pl s c) (slot_next x.clock.slot (S pl))
      (turn_kept wired range x (kept_of pl x b)).slot in
      phase_core Read (with_slot (slot_next x.clock.slot (S pl)) s) (core_by k
      (slot_paid (slot_next x.clock.slot (S pl)) c) (slot_allowances c (slot_next x.clock.slot (S pl))))

  -- ---- and so by each phase
  pub read_core : (s : State) → Core pl s → Core pl (do_read pl s)
  read_core s c = read_keeps pl (Core pl) s deliver_core settle_core (phase_core Execute) c

  pub execute_core : (s : State) → Core pl s → FlagsDown pl s → Core pl (do_execute pl s)
  execute_core s c f =
      execute_keeps pl (Core pl) s unit_core (λ o t d. choose_core o t) undo_core (phase_core Write) f c

  pub write_core : (s : State) → Core pl s → WiresEmpty pl s → ChoicesSendable pl s → Core pl (do_write pl s)
  write_core s c w d = write_keeps pl (Core pl) s wired send_core (λ t. turn_core s t c) w d c

  -- ---- each call keeps core and shape
  pub reply_kind_lem : (c : ℕ) → (reply_kind c ≡ Ack) ⊎ (reply_kind c ≡ Nack)
  reply_kind_lem c = by (eqb c 1)
    where
      by : (b : Bool) → (pick b Ack Nack ≡ Ack) ⊎ (pick b Ack Nack ≡ Nack)
      by true = inl refl
      by false = inr refl

  turn_inv : (x : Phase) (s : State) → s.clock.phase ≡ x → Inv pl s → Inv pl (phase_step pl x s)
  turn_inv Read s e i =
      record {
        core = read_core s i.core;
        shape = read_shape pl s (read_has s e i.shape);
        turns = turns_alike pl s (do_read pl s) (read_last pl s) i.turns;
      }
  turn_inv Execute s e i =
      let h = execute_has s e i.shape in
      record {
        core = execute_core s i.core h.2;
        shape = execute_shape pl s h.1 h.2;
        turns = turns_alike pl s (do_execute pl s) (execute_last pl s h.2) i.turns;
      }
  turn_inv Write s e i =
      let h = write_has s e i.shape in
      record {
        core = write_core s i.core h.0 h.1;
        shape = write_shape pl s;
        turns = write_turns pl wired s h.0 h.1 i.turns;
      }

  -- what a dropped packet notes
  noted_inv : (x : Packet) (at : Place) (s : State) → Belongs pl at x → Inv pl s → Inv pl (noted pl x s)
  noted_inv x at s b i =
      record {
        core = core_by (noted_kept wired range x at s b (kept_of pl s i.core)) (noted_paid s i.core x)
            (noted_allowances i.core x);
        shape = noted_shape s x i.shape;
        turns = turns_alike pl s (noted pl x s) (noted_last pl x s) i.turns;
      }

  -- ---- each visit that changes the state
  launched_inv : (a p t : ℕ) (s : State) → MayLaunch pl s a p t → Inv pl s → Inv pl (launched a p t s)
  unfolding launched join
  launched_inv a p t s m i =
      record {
        core = core_by
            (launched_kept wired range a p t s m.active m.passive m.slot
            (served_of wired a p m.active m.serves) (kept_of pl s i.core))
            (launched_paid s i.core a p t m.room)
            (launched_allowances i.core a p t m.active m.allowance);
        shape = launched_shape s a p t m.phase i.shape;
        turns = turns_alike pl s (launched a p t s) refl i.turns;
      }

  replied_inv : (p c : ℕ) (x : Packet) (rest : List Packet) (s : State) → MayReply pl s p c x rest → Inv pl s
      → Inv pl (replied p (reply_kind c) (x ∷ rest) s)
  unfolding join
  replied_inv p c x rest s m i =
      record {
        core = core_by
            (replied_kept wired range p (reply_kind c) x rest s m.passive (reply_kind_lem c) m.line
            (kept_of pl s i.core))
            (replied_paid s i.core p (reply_kind c) x rest m.line m.down m.room)
            (replied_allowances i.core wired p m.passive (reply_kind c) (reply_spends c) x rest m.line);
        shape = replied_shape s p (reply_kind c) x rest m.phase i.shape;
        turns = turns_alike pl s (replied p (reply_kind c) (x ∷ rest) s) refl i.turns;
      }

  dropped_inv : (a : ℕ) (x : Packet) (rest : List Packet) (s : State) → MayDrop pl s a x rest → Inv pl s
      → Inv pl (noted pl x (removed a rest s))
  unfolding removed
  dropped_inv a x rest s m i =
      noted_inv x (in_queue (active_in a)) (removed a rest s)
      (core_head i.core (active_in a) m.active x rest m.line)
      (record {
        core = core_by (removed_kept wired range a x rest s m.active m.line (kept_of pl s i.core))
            (removed_paid s i.core a x rest m.line m.down)
            (removed_allowances i.core wired a m.active x rest m.line);
        shape = removed_shape s a rest m.phase i.shape;
        turns = turns_alike pl s (removed a rest s) refl i.turns;
      })

  closed_inv : (a p t : ℕ) (s : State) → MayClose pl s a p t → Inv pl s → Inv pl (closed pl a p t s)
  unfolding closed join
  closed_inv a p t s m i =
      record {
        core = core_by
            (closed_kept wired range a p t s m.active m.passive m.slot
            (served_of wired a p m.active m.serves) (kept_of pl s i.core))
            (closed_paid s i.core a p t m.room) (closed_allowances i.core a p t m.active);
        shape = closed_shape s a p t m.phase i.shape;
        turns = turns_alike pl s (closed pl a p t s) refl i.turns;
      }

  visit_inv : (v : Visit) (s : State) (o : Outcome) → Visited pl s v o → Inv pl s → Inv pl o.state
  visit_inv v s o (launches a p t m) i = launched_inv a p t s m i
  visit_inv v s o (replies p c x rest m) i = replied_inv p c x rest s m i
  visit_inv v s o (looks a x rest m) i = i
  visit_inv v s o (drops a x rest m) i = dropped_inv a x rest s m i
  visit_inv v s o (closes a p t m) i = closed_inv a p t s m i
  visit_inv v s o (tells r q t m) i = i
  visit_inv v s o counts i = i

  does_inv : (c : Call) (s : State) (o : Outcome) → Does pl s c o → Inv pl s → Inv pl o.state
  does_inv c s o (refuses d w n) i = i
  does_inv c s o (turns x e) i = turn_inv x s e i
  does_inv c s o (visits v r d) i = visit_inv v s r d i

  pub call_inv : (c : Call) (s : State) → Inv pl s → Inv pl (call pl c s).state
  call_inv c s i = does_inv c s (call pl c s) (call_does pl s c) i

  pub start_inv : Inv pl (start pl)
  unfolding start blank
  start_inv = record { core = start_core; shape = in_read refl (λ o d. refl); turns = start_turns pl }

  -- Start has no connection to be tied
  start_ties : Ties pl (start pl)
  unfolding start blank
  start_ties =
      record {
        serves = λ c h. absurd (false≢true h);
        booked = λ c h r o t i m. absurd (false≢true h);
        apart = λ c d h g r o t i j m n. absurd (false≢true h);
      }

  -- Start is not refused 7
  pub starts_good : Good pl (start pl)
  starts_good = good_of pl (start pl) start_inv start_ties
