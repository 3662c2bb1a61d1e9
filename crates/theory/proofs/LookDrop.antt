-- Look before dropping: within a phase an active's in-queue changes only by a Drop of that active, which raises the
-- queue's flag. No call within the phase lowers it, and a Drop is accepted only while it is down: so what an accepted
-- Drop removes was the head all along.
use mathlib.Core.Path.{◌≡◌, refl, sym, ap, ◌∙◌}
use mathlib.Core.Logic.{◌⊎◌, inl, inr, ◌≢◌}
use mathlib.Core.Bool.{true, false}
use mathlib.Core.List.{List, [], ◌∷◌}
use mathlib.Core.Option.{Option, none, some}
use Prim.Native.Nat.{ℕ, ◌<◌}
use borrow.Author.Tests.{lt-ltb}
use Rattle.basis.specs.Choice.{not_both}
use Rattle.kinds.specs.declared.Refusal.{Refusal}
use Rattle.packets.specs.declared.Kind.{Kind}
use Rattle.packets.specs.declared.Kind.TheVariants.{Setup, Tdown, Ack, Nack}
use Rattle.packets.specs.declared.Packet.{Packet}
use Rattle.packets.specs.declared.Phase.{Phase}
use Rattle.packets.specs.declared.Phase.TheVariants.{Read, Execute, Write}
use Rattle.packets.specs.declared.Answer.{Answer}
use Rattle.packets.specs.declared.Answer.TheVariants.{Done, Shows}
use Rattle.plan.specs.Plan.{Plan, A}
use Rattle.plan_queues.specs.Queue.{active_in}
use Rattle.rules.specs.State.{State, join}
use Rattle.rules.specs.Read.{do_read}
use Rattle.rules.specs.Execute.{do_execute}
use Rattle.rules.specs.Write.{do_write}
use Rattle.rules.specs.Visits.{launched, removed, noted_kind, noted, closed}
use Rattle.rules.specs.Guards.{refusal_of}
use Rattle.rules.specs.Calls.{Visit, Call, visit, look, drop, Outcome, gives, look_guards, shown, phase_step}
use Rattle.rules.specs.Calls.{decided, call}
use Rattle.rules.specs.Ruled.{ruled_after}
use Rattle.rules.specs.LookDrop.{WithinPhase, NoDrop, Removes, LookBeforeDrop, LookStays}
use Rattle.rules.proofs.Apart.{read_execute, read_write, execute_write}
use Rattle.theory.specs.Does.{Visited, launches, replies, looks, drops, closes, tells, counts, Does, refuses}
use Rattle.theory.specs.Does.{turns, visits}
use Rattle.theory.proofs.Ground.Cells.{queue_or, queue_here, queue_away}
use Rattle.theory.proofs.Cases.{noted_keeps}
use Rattle.theory.proofs.Does.{call_does, drop_done}

module _ (a : ℕ) where
  -- ---- what becomes of the active's in-queue
  -- it and its flag are as they were
  abbrev pub Unmoved : State → State → Type 0
  Unmoved s t =
      (t.lines.queue (active_in a) ≡ s.lines.queue (active_in a))
      × (t.flow.flag (active_in a) ≡ s.flow.flag (active_in a))

  -- its flag is up
  abbrev pub FlagIsUp : State → Type 0
  FlagIsUp t = t.flow.flag (active_in a) ≡ true

  -- after a call: both are as they were; or it was a Drop of that active, and the flag is up
  abbrev pub AfterCall : Call → State → State → Type 0
  AfterCall c s t = Unmoved s t ⊎ ((c ≡ drop a) × FlagIsUp t)

  -- after a list: both are as they were; or there was such a Drop in it, and the flag is still up
  abbrev pub AfterList : List Call → State → State → Type 0
  AfterList cs s t = Unmoved s t ⊎ ((NoDrop a cs → ⊥) × FlagIsUp t)

  -- a call, and then a list
  pub after_more : (c : Call) (cs : List Call) (s t u : State) → AfterCall c s t → AfterList cs t u
      → AfterList (c ∷ cs) s u
  after_more c cs s t u first (inr (n, up)) = inr (λ h. n h.1, up)
  after_more c cs s t u (inl (q, f)) (inl (r, g)) = inl (r ∙ q, g ∙ f)
  after_more c cs s t u (inr (e, up)) (inl (r, g)) = inr (λ h. h.0 e, g ∙ up)

  -- a list without such a Drop leaves both
  pub none_dropped : (cs : List Call) (s t : State) → AfterList cs s t → NoDrop a cs → Unmoved s t
  none_dropped cs s t (inl k) h = k
  none_dropped cs s t (inr (n, up)) h = absurd (n h)

  -- so does one after which the flag is down
  pub still_down : (cs : List Call) (s t : State) → AfterList cs s t → t.flow.flag (active_in a) ≡ false → Unmoved s t
  still_down cs s t (inl k) d = k
  still_down cs s t (inr (n, up)) d = absurd (not_both up d)

-- ---- each call within the phase
module _ (pl : Plan) (a : ℕ) (s : State) where
  visit_after : (v : Visit) (o : Outcome) → Visited pl s v o → AfterCall a (visit v) s o.state
  unfolding launched removed closed join
  visit_after v o (launches b p t m) = inl (refl, refl)
  visit_after v o (replies p c x rest m) = inl (refl, refl)
  visit_after v o (looks b x rest m) = inl (refl, refl)
  visit_after v o (drops b x rest m) = by (queue_or (active_in a) (active_in b))
    where
      by : (active_in a ≡ active_in b) ⊎ (active_in a ≢ active_in b)
          → AfterCall a (drop b) s (noted pl x (removed b rest s))
      by (inl e) =
          let same : b ≡ a = cc in
          let up : FlagIsUp a (removed b rest s) =
          ap (removed b rest s).flow.flag e ∙ queue_here s.flow.flag (active_in b) true in
          inr (ap drop same, noted_keeps pl x (removed b rest s) (FlagIsUp a) (λ k. up) up)
      by (inr ne) =
          let away : Unmoved a s (removed b rest s) = (
            queue_away s.lines.queue (active_in b) rest (active_in a) ne,
            queue_away s.flow.flag (active_in b) true (active_in a) ne,
          ) in
          inl (noted_keeps pl x (removed b rest s) (Unmoved a s) (λ k. away) away)
  visit_after v o (closes b p t m) = inl (refl, refl)
  visit_after v o (tells r i t m) = inl (refl, refl)
  visit_after v o counts = inl (refl, refl)

  -- an accepted Read, Execute or Write turns the phase
  turned : (x : Phase) → s.clock.phase ≡ x → (phase_step pl x s).clock.phase ≡ s.clock.phase → ⊥
  unfolding do_read do_execute do_write
  turned Read e f = read_execute (sym (f ∙ e))
  turned Execute e f = execute_write (sym (f ∙ e))
  turned Write e f = read_write (f ∙ e)

  does_after : (c : Call) (o : Outcome) → Does pl s c o → o.state.clock.phase ≡ s.clock.phase
      → AfterCall a c s o.state
  does_after c o (refuses d w n) e = inl (refl, refl)
  does_after c o (turns x f) e = absurd (turned x f e)
  does_after c o (visits v r d) e = visit_after v r d

  pub call_after : (c : Call) → (call pl c s).state.clock.phase ≡ s.clock.phase
      → AfterCall a c s (call pl c s).state
  call_after c = does_after c (call pl c s) (call_does pl s c)

-- ---- a list within the phase
list_after : (pl : Plan) (a : ℕ) (cs : List Call) (s : State) → WithinPhase pl cs s
    → AfterList a cs s (ruled_after pl cs s)
list_after pl a [] s k = inl (refl, refl)
list_after pl a (c ∷ cs) s (now, later) =
    after_more a c cs s (call pl c s).state (ruled_after pl cs (call pl c s).state) (call_after pl a s c now)
    (list_after pl a cs (call pl c s).state later)

-- ---- a Look
module _ (pl : Plan) (a : ℕ) where
  -- shows the head
  pub look_shows : (s : State) (x : Packet) (rest : List Packet) → a < A pl → s.lines.queue (active_in a) ≡ x ∷ rest
      → (call pl (look a) s).answer ≡ Shows x
  unfolding call
  look_shows s x rest h e = rw (lt-ltb a (A pl) h, e)

  -- and looks at nothing else
  pub look_alike : (s t : State) → t.lines.queue (active_in a) ≡ s.lines.queue (active_in a)
      → (call pl (look a) t).answer ≡ (call pl (look a) s).answer
  unfolding call
  look_alike s t e = rw e (by (refusal_of (look_guards pl a s)) (shown (s.lines.queue (active_in a))))
    where
      by : (w : Option Refusal) (x : Answer) → (decided w t (gives x t)).answer ≡ (decided w s (gives x s)).answer
      by none x = refl
      by (some w) x = refl

-- ---- a Drop
-- what its packet notes is the same with the packet in the queue
noted_alike : (pl : Plan) (x : Packet) (s t : State) → t.connections ≡ s.connections
    → (noted pl x t).connections ≡ (noted pl x s).connections
unfolding noted
noted_alike pl x s t e = by x.kind
  where
    by : (k : Kind) → (noted_kind pl k x t).connections ≡ (noted_kind pl k x s).connections
    by Setup = e
    by Tdown = e
    by Ack = rw e
    by Nack = e

module _ (pl : Plan) (a : ℕ) (s : State) where
  -- what an accepted Drop found and did: the flag was down, and the head goes
  pub record Dropped (t : State) : Type 0 where
    pub packet : Packet
    pub active : a < A pl
    pub down : s.flow.flag (active_in a) ≡ false
    pub removes : Removes pl a packet s t

  pub drop_removes : (call pl (drop a) s).answer ≡ Done → Dropped (call pl (drop a) s).state
  unfolding removed
  drop_removes f =
      let ((x, rest, m), e) = drop_done pl s a f in
      record {
        packet = x;
        active = m.active;
        down = m.down;
        removes = record {
          rest = rest;
          before = m.line;
          after = ap (λ (t : State). t.lines.queue (active_in a)) e
              ∙ noted_keeps pl x (removed a rest s) (λ (t : State). t.lines.queue (active_in a) ≡ rest)
              (λ k. queue_here s.lines.queue (active_in a) rest) (queue_here s.lines.queue (active_in a) rest);
          connections = ap (λ (t : State). t.connections) e ∙ noted_alike pl x s (removed a rest s) refl;
        };
      }

-- What an accepted Drop removes any Look before it within the phase gave.
pub look_before_drop : (pl : Plan) → LookBeforeDrop pl
look_before_drop pl s a between within done =
    let t : State = ruled_after pl between s in
    let d = drop_removes pl a t done in
    let k = still_down a between s t (list_after pl a between s within) d.down in
    let line = sym k.0 ∙ d.removes.before in
    (d.packet, look_shows pl a s d.packet d.removes.rest d.active line, d.removes)

-- What a Look gives stays within the phase until a Drop of that active.
pub look_stays : (pl : Plan) → LookStays pl
look_stays pl s a between within no_drop =
    let t : State = ruled_after pl between s in
    look_alike pl a s t (none_dropped a between s t (list_after pl a between s within) no_drop).0
