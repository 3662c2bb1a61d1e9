-- Progress from READ: until the first Read only Launches and Closes change the state; a full wire moves at that Read,
-- else EXECUTE begins with the same queues.
use mathlib.Core.Path.{◌≡◌, refl, sym, ap, ◌∙◌}
use mathlib.Core.Logic.{◌⊎◌, inl, inr, ◌≢◌}
use mathlib.Core.Bool.{Bool, true, false, true≢false, false≢true}
use mathlib.Core.List.{List, [], ◌∷◌, ◌++◌}
use Prim.Native.Nat.{ℕ, ◌≤◌, ◌<◌}
use native.Mathlib.Omega.{arith}
use Rattle.basis.specs.Choice.{pick, test, refuted}
use Rattle.basis.specs.Bounded.{Found, find}
use Rattle.basis.specs.Fold.{up_to, up_keeps}
use Rattle.packets.specs.declared.Packet.{Packet}
use Rattle.packets.specs.declared.Wire.{Wire}
use Rattle.packets.specs.declared.Wire.TheVariants.{Empty, Full}
use Rattle.packets.specs.declared.Phase.TheVariants.{Read, Execute, Write}
use Rattle.plan.specs.Head.{InRange}
use Rattle.plan.specs.Plan.{Plan, S}
use Rattle.plan_queues.specs.Queue.{Queue, active_out, active_in, passive_in, passive_out, U, Q, F, K, Exists, queues}
use Rattle.plan_queues.specs.Queue.{queue_at}
use Rattle.plan_queues.specs.Feeds.{Output, FeedRing}
use Rattle.plan_facts.specs.Wired.{Wired}
use Rattle.rules.specs.Store.{put, same_queue, same_queue_lem}
use Rattle.rules.specs.Outputs.{outputs, output_at, output_number}
use Rattle.rules.specs.State.{State, is_full, join}
use Rattle.rules.specs.Read.{deliver, settle, lower, do_read}
use Rattle.rules.specs.Visits.{setup_of, launched, closing_of, closed}
use Rattle.rules.specs.Calls.{Visit, Call, turn, visit, read, execute, write, Outcome, call}
use Rattle.theory.specs.Does.{Visited, launches, replies, looks, drops, closes, tells, counts, Does, refuses}
use Rattle.theory.specs.Does.{turns, visits}
use Rattle.rules.specs.Valid.{Drives}
use Rattle.rules.specs.Progress.{is_in_queue, UnderWay, Waits, ends_round}
use Rattle.rules.specs.Ruled.{rounds, Moves, Good}
use Rattle.rules.proofs.Apart.{read_execute, read_write, full_not, turn_same, visit_not}
use Rattle.theory.proofs.Does.{call_does, refused_turns}
use Rattle.rules.proofs.OutNumbers.{output_at_lem, output_below, drives_at}
use Rattle.theory.specs.Promises.{answering, AnswersMove}
use Rattle.theory.specs.Invariant.{WiresEmpty, Inv}
use Rattle.theory.proofs.Core.{full_wire}
use Rattle.theory.proofs.Shape.Read.{read_wires}
use Rattle.theory.proofs.Keeps.{inv_of, call_inv}
use Rattle.theory.proofs.Progress.Stuck.{Closed, every, every_closed, answering_closed}
use Rattle.theory.proofs.Progress.Interval.{MovesNow, moves_now, moves_later}
use Rattle.theory.proofs.Progress.Still.{none_delivered}
use Rattle.theory.proofs.Progress.Undisturbed.{turn_now}
use Rattle.theory.proofs.Progress.Rounds.{from_execute, execute_phase}

-- ---- what calls other than Read do in READ
-- wires and in-queues stay, and a queue that has a packet keeps one
record Before (s t : State) : Type 0 where
  pub phase : t.clock.phase ≡ s.clock.phase
  pub wire : t.links.wire ≡ s.links.wire
  pub ins : (q : Queue) → is_in_queue q ≡ true → t.lines.queue q ≡ s.lines.queue q
  pub held : (q : Queue) (x : Packet) (rest : List Packet) → s.lines.queue q ≡ x ∷ rest
      → (more : List Packet) × (t.lines.queue q ≡ x ∷ more)

unchanged : (s : State) → Before s s
unchanged s = record { phase = refl; wire = refl; ins = λ q i. refl; held = λ q x rest e. (rest, e) }

joined_before : (k : Queue) (y : Packet) (s : State) → is_in_queue k ≡ false → Before s (join k y s)
unfolding join
joined_before k y s n = record { phase = refl; wire = refl; ins = ins'; held = held' }
  where
    ins' : (z : Queue) → is_in_queue z ≡ true → put same_queue s.lines.queue k (s.lines.queue k ++ (y ∷ [])) z
        ≡ s.lines.queue z
    ins' z i = rw (refuted (same_queue z k) (λ u. true≢false (sym i ∙ ap is_in_queue (same_queue_lem z k u) ∙ n)), pick)

    held' : (z : Queue) (x : Packet) (rest : List Packet) → s.lines.queue z ≡ x ∷ rest
        → (more : List Packet) × (put same_queue s.lines.queue k (s.lines.queue k ++ (y ∷ [])) z ≡ x ∷ more)
    held' z x rest e = by (test (same_queue z k))
      where
        by : (same_queue z k ≡ true) ⊎ (same_queue z k ≡ false)
            → (more : List Packet) × (put same_queue s.lines.queue k (s.lines.queue k ++ (y ∷ [])) z ≡ x ∷ more)
        by (inl u) = (
          rest ++ (y ∷ []),
          rw (u, pick) (ap (λ (l : List Packet). l ++ (y ∷ [])) (ap s.lines.queue (sym (same_queue_lem z k u)) ∙ e)),
        )
        by (inr u) = (rest, rw (u, pick) e)

launched_before : (a q t : ℕ) (s : State) → Before s (launched a q t s)
unfolding launched
launched_before a q t s =
    let j = joined_before (active_out a) (setup_of a q t) s refl in
    record { phase = j.phase; wire = j.wire; ins = j.ins; held = j.held }

closed_before : (pl : Plan) (a q t : ℕ) (s : State) → Before s (closed pl a q t s)
unfolding closed
closed_before pl a q t s =
    let j = joined_before (active_out a) (closing_of pl a q t) s refl in
    record { phase = j.phase; wire = j.wire; ins = j.ins; held = j.held }

module _ (pl : Plan) (s : State) (e : s.clock.phase ≡ Read) where
  only : (c : Call) (o : Outcome) → Does pl s c o → c ≢ read → Before s o.state × (ends_round c o.answer ≡ 0)
  only c o (refuses d w n) ne = (unchanged s, refused_turns Write d w)
  only c o (turns x f) ne = absurd (ne (ap turn (sym f ∙ e)))
  only c o (visits v r d) ne = by v r d
    where
      by : (v : Visit) (r : Outcome) → Visited pl s v r → Before s r.state × (ends_round (visit v) r.answer ≡ 0)
      by v r (launches a q t m) = (launched_before a q t s, refl)
      by v r (replies q c x rest m) = absurd (read_write (sym e ∙ m.phase))
      by v r (looks a x rest m) = (unchanged s, refl)
      by v r (drops a x rest m) = absurd (read_write (sym e ∙ m.phase))
      by v r (closes a q t m) = (closed_before pl a q t s, refl)
      by v r (tells i q t m) = (unchanged s, refl)
      by v r counts = (unchanged s, refl)

  only_read : (c : Call) → c ≢ read → Before s (call pl c s).state × (ends_round c (call pl c s).answer ≡ 0)
  only_read c = only c (call pl c s) (call_does pl s c)

-- READ with empty wires leaves the queues
settle_queue : (q : Queue) (s : State) → (settle q s).lines.queue ≡ s.lines.queue
unfolding settle lower
settle_queue q s = by (s.flow.flag q)
  where
    by : (b : Bool) → (lower q b s).lines.queue ≡ s.lines.queue
    by true = refl
    by false = refl

read_queue : (pl : Plan) (s : State) → WiresEmpty pl s → (do_read pl s).lines.queue ≡ s.lines.queue
unfolding do_read
read_queue pl s w =
    up_keeps (λ (t : State). t.lines.queue ≡ (up_to (λ n. deliver pl (output_at pl n)) (outputs pl) s).lines.queue)
    (λ n. settle (queue_at pl n)) (queues pl) (up_to (λ n. deliver pl (output_at pl n)) (outputs pl) s)
    (λ n t h q. settle_queue (queue_at pl n) t ∙ q) refl
    ∙ ap (λ (t : State). t.lines.queue) (none_delivered pl s w)

-- a full wire, or none
some_wire : (pl : Plan) (s : State) → ((o : Output) × (x : Packet) × Drives pl o × (s.links.wire o ≡ Full x))
    ⊎ WiresEmpty pl s
some_wire pl s = by (find (outputs pl) (λ n. is_full (s.links.wire (output_at pl n))))
  where
    full : (n : ℕ) → n < outputs pl → (w : Wire) → s.links.wire (output_at pl n) ≡ w → is_full w ≡ true
        → (o : Output) × (x : Packet) × Drives pl o × (s.links.wire o ≡ Full x)
    full n h Empty e b = absurd (false≢true b)
    full n h (Full x) e b = (output_at pl n, x, drives_at pl n h, e)

    empty : (w : Wire) → is_full w ≡ false → w ≡ Empty
    empty Empty b = refl
    empty (Full x) b = absurd (true≢false b)

    by : Found (outputs pl) (λ n. is_full (s.links.wire (output_at pl n)))
        ⊎ ((n : ℕ) → n < outputs pl → is_full (s.links.wire (output_at pl n)) ≡ false)
        → ((o : Output) × (x : Packet) × Drives pl o × (s.links.wire o ≡ Full x)) ⊎ WiresEmpty pl s
    by (inl (n, h, b)) = inl (full n h (s.links.wire (output_at pl n)) refl b)
    by (inr f) = inr (λ o h. ap s.links.wire (sym (output_at_lem pl o h))
        ∙ empty (s.links.wire (output_at pl (output_number pl o))) (f (output_number pl o) (output_below pl o h)))

module _ {pl : Plan} (wired : Wired pl) (range : InRange pl.head) (free : FeedRing pl → ⊥) where
  -- a packet under way: on a wire, or in a queue of the set
  abbrev Going : (Queue → Bool) → State → Type 0
  Going set s =
      ((o : Output) × (x : Packet) × Drives pl o × (s.links.wire o ≡ Full x))
      ⊎ ((q : Queue) × (x : Packet) × (rest : List Packet) × Exists pl q × (is_in_queue q ≡ false) × (set q ≡ true)
      × (s.lines.queue q ≡ x ∷ rest))

  -- at the Read itself
  at_read : (set : Queue → Bool) (s : State) → Inv pl s → s.clock.phase ≡ Read → Closed pl set s → Going set s
      → (cs : List Call) → S pl ≤ rounds pl cs (do_read pl s) → MovesNow pl read s ⊎ Moves pl cs (do_read pl s)
  at_read set s i e c g cs n = by (some_wire pl s) g
    where
      now : (call pl read s).state ≡ do_read pl s
      now = ap (λ (r : Outcome). r.state) (turn_now pl s Read e)

      brought : (o : Output) (x : Packet) → Drives pl o → s.links.wire o ≡ Full x → MovesNow pl read s
      brought o x d f = (
        refl,
        inl (
          o,
          x,
          full_wire pl s i.core o d x f,
          f,
          ap (λ (t : State). t.links.wire o) now
              ∙ read_wires pl s o d,
        ),
      )

      by : ((o : Output) × (x : Packet) × Drives pl o × (s.links.wire o ≡ Full x)) ⊎ WiresEmpty pl s → Going set s
          → MovesNow pl read s ⊎ Moves pl cs (do_read pl s)
      by (inl (o, x, d, f)) w = inl (brought o x d f)
      by (inr w) (inl (o, x, d, f)) = absurd (full_not (sym (w o d) ∙ f))
      by (inr w) (inr (q, x, rest, h, ni, b, f)) =
          let same = read_queue pl s w in
          let there : Closed pl set (do_read pl s)
          =
          record {
            stays = c.stays;
            room = λ hd a p k z ha hp d m v u l.
                rw (ap (λ (t : Queue → List Packet). t (passive_in k)) same) (c.room hd a p k z ha hp d m v u l);
          } in
          let kept : Inv pl (do_read pl s) = rw now at (call_inv wired range read s i) in
          inr (from_execute wired range free (do_read pl s) kept (execute_phase pl s) set there q x rest h ni b
          (ap (λ (t : Queue → List Packet). t q) same ∙ f) cs n)

  -- from any state in READ
  pub from_read : (set : Queue → Bool) (cs : List Call) (s : State) → Inv pl s → s.clock.phase ≡ Read
      → Closed pl set s → Going set s → S pl ≤ rounds pl cs s → Moves pl cs s
  from_read set [] s i e c g n = absurd (omega (arith, range.slots.0))
  from_read set (k ∷ cs) s i e c g n = by k (λ t j f d w m. from_read set cs t j f d w m) n
    where
      other : (k : Call) → k ≢ read → ((t : State) → Inv pl t → t.clock.phase ≡ Read → Closed pl set t → Going set t
          → S pl ≤ rounds pl cs t → Moves pl cs t) → S pl ≤ rounds pl (k ∷ cs) s → Moves pl (k ∷ cs) s
      other k ne rec m =
          let o = only_read pl s e k ne in
          moves_later pl k cs s
          (rec (call pl k s).state (call_inv wired range k s i) (o.0.phase ∙ e)
          (record {
            stays = c.stays;
            room = λ hd a p b z ha hp d u v w l.
                rw (o.0.ins (passive_in b) refl) (c.room hd a p b z ha hp d u v w l);
          })
          (goes o.0 g) (omega (arith, o.1)))
        where
          goes : Before s (call pl k s).state → Going set s → Going set (call pl k s).state
          goes b (inl (o, x, d, f)) = inl (o, x, d, ap (λ (w : Output → Wire). w o) b.wire ∙ f)
          goes b (inr (q, x, rest, h, ni, u, f)) = let l = b.held q x rest f in inr (q, x, l.0, h, ni, u, l.1)

      reads : S pl ≤ rounds pl (read ∷ cs) s → Moves pl (read ∷ cs) s
      reads m =
          let now : (call pl read s).state ≡ do_read pl s = ap (λ (r : Outcome). r.state) (turn_now pl s Read e) in
          let l : rounds pl cs (call pl read s).state ≡ rounds pl cs (do_read pl s) = ap (rounds pl cs) now in
          done now (at_read set s i e c g cs (omega arith))
        where
          done : (call pl read s).state ≡ do_read pl s → MovesNow pl read s ⊎ Moves pl cs (do_read pl s)
              → Moves pl (read ∷ cs) s
          done now (inl x) = moves_now pl read cs s x
          done now (inr x) = moves_later pl read cs s (rw now x)

      by : (k : Call) → ((t : State) → Inv pl t → t.clock.phase ≡ Read → Closed pl set t → Going set t
          → S pl ≤ rounds pl cs t → Moves pl cs t) → S pl ≤ rounds pl (k ∷ cs) s → Moves pl (k ∷ cs) s
      by (turn Read) rec m = reads m
      by (turn Execute) rec m = other execute (λ h. read_execute (sym (turn_same h))) rec m
      by (turn Write) rec m = other write (λ h. read_write (sym (turn_same h))) rec m
      by (visit v) rec m = other (visit v) (λ h. visit_not v Read h) rec m

  -- demand 3's last part, from every valid state
  pub progress : (s : State) → Good pl s → Waits pl s → (cs : List Call) → S pl ≤ rounds pl cs s → Moves pl cs s
  progress s g w cs n =
      from_read every cs s (inv_of pl s g) w.phase (every_closed pl s w.room) (going w.packet) n
    where
      going : UnderWay pl s → Going every s
      going (inl x) = inl x
      going (inr (q, x, rest, h, ni, f)) = inr (q, x, rest, h, ni, refl, f)

  -- answers move whatever the passives do: a packet in some K or passive out-queue
  pub answers_move : AnswersMove pl
  answers_move s g e q x rest h a f cs n =
      from_read answering cs s (inv_of pl s g) e (answering_closed wired s) (inr (q, x, rest, h, no_in q a, a, f)) n
    where
      no_in : (q : Queue) → answering q ≡ true → is_in_queue q ≡ false
      no_in (active_out x) b = refl
      no_in (active_in x) b = absurd (false≢true b)
      no_in (passive_in x) b = absurd (false≢true b)
      no_in (passive_out x) b = refl
      no_in (U r i) b = refl
      no_in (Q r i) b = refl
      no_in (F k r o) b = refl
      no_in (K r i o) b = refl
