-- Within S rounds some step is made: from a state in EXECUTE with a packet the sum falls. A passive that can reply does
-- so in this round. If none can, every one that has a packet has a full out-queue, and answers move whatever the
-- passives do. If there is no answer in K or in a passive's out-queue, no passive has a packet, and packets outside the
-- in-queues move. If there is none, an active's in-queue has one, which is marked in this round, or dropped.
use mathlib.Core.Path.{◌≡◌, refl, sym, ap, subst, ◌∙◌}
use mathlib.Core.Logic.{◌⊎◌, inl, inr, ◌≢◌}
use mathlib.Core.Bool.{Bool, true, false, false≢true}
use mathlib.Core.List.{List, [], ◌∷◌}
use Prim.Native.Nat.{ℕ, ◌≤◌, ◌<◌}
use native.Mathlib.Omega.{arith}
use lib.ListN.{length}
use borrow.Author.Tests.{lt-ltb, ltb-false}
use Rattle.basis.specs.Choice.{test}
use Rattle.packets.specs.declared.Packet.{Packet}
use Rattle.packets.specs.declared.Wire.{Wire}
use Rattle.packets.specs.declared.Phase.TheVariants.{Read, Execute, Write}
use Rattle.packets.specs.declared.Answer.TheVariants.{Done}
use Rattle.plan.specs.Head.{InRange}
use Rattle.plan.specs.Plan.{Plan, A, P, S}
use Rattle.plan_queues.specs.Queue.{Queue, active_out, active_in, passive_in, passive_out, U, Q, F, K, Exists}
use Rattle.plan_queues.specs.Feeds.{Output, FeedRing}
use Rattle.plan_facts.specs.Wired.{Wired}
use Rattle.rules.specs.Capacity.{capacity}
use Rattle.rules.specs.State.{State}
use Rattle.rules.specs.Execute.{has_room, unmarked, do_execute}
use Rattle.rules.specs.Calls.{Call, turn, visit, read, execute, write, reply, drop, Outcome, call}
use Rattle.rules.specs.Progress.{is_in_queue, PassiveRoom, ends_round}
use Rattle.rules.specs.Ruled.{ruled_after, rounds}
use Rattle.rules.proofs.Apart.{phase_is, read_execute, execute_write, turn_same, visit_not}
use Rattle.theory.specs.Invariant.{WiresEmpty, FlagsDown, NoChoices, Inv}
use Rattle.theory.specs.Promises.{answering}
use Rattle.theory.proofs.Keeps.{call_inv}
use Rattle.theory.proofs.Shape.Calls.{execute_has}
use Rattle.theory.proofs.Progress.Stuck.{Closed, every, every_closed, answering_closed, capacity_some}
use Rattle.theory.proofs.Progress.Undisturbed.{turn_now, only_execute}
use Rattle.theory.proofs.Progress.Rounds.{from_execute}
use Rattle.theory_drain.proofs.Ground.{SomePacket, some_packet}
use Rattle.theory_drain.specs.Left.{all_left}
use Rattle.theory_drain.specs.AtTheEnd.{Willing, Calmly, Waiting}
use Rattle.theory_drain.proofs.Steps.{Alike, Lowers, falls, stays, alike_self, alike_then}
use Rattle.theory_drain.proofs.Phases.{execute_marks}
use Rattle.theory_drain.proofs.Turns.{Ends, ends_or}
use Rattle.theory_drain.proofs.Calls.{call_lowers, list_most, moves_fall}

-- ---- who can
-- A passive that has a packet, its flag down and room in its out-queue, can reply.
can_reply : (pl : Plan) (s : State) (p : ℕ) (x : Packet) (rest : List Packet) → s.clock.phase ≡ Write → p < P pl
    → s.flow.flag (passive_in p) ≡ false → s.lines.queue (passive_in p) ≡ x ∷ rest
    → has_room pl (passive_out p) s ≡ true → (call pl (reply p 0) s).answer ≡ Done
unfolding call
can_reply pl s p x rest e h f q r =
    rw (phase_is s.clock.phase Write e, lt-ltb p (P pl) h, f, q, r)

-- An active that has an answer, marked if it is a NACK, and its flag down, can drop it.
can_drop : (pl : Plan) (s : State) (a : ℕ) (x : Packet) (rest : List Packet) → s.clock.phase ≡ Write → a < A pl
    → s.flow.flag (active_in a) ≡ false → s.lines.queue (active_in a) ≡ x ∷ rest → unmarked x ≡ false
    → (call pl (drop a) s).answer ≡ Done
unfolding call
can_drop pl s a x rest e h f q u = rw (phase_is s.clock.phase Write e, lt-ltb a (A pl) h, f, q, u)

module _ {pl : Plan} (wired : Wired pl) (range : InRange pl.head) where
  -- ---- in this round: where somebody could act at its end if nothing fell before, the sum falls
  module _ (e : State) (w : WiresEmpty pl e)
      (could : (t : State) → Alike e t → t.clock.phase ≡ Write → Willing pl t → ⊥) where
    pub round_falls : (cs : List Call) (t : State) → Inv pl t → Alike e t → Waiting pl cs t → 1 ≤ rounds pl cs t
        → all_left pl (ruled_after pl cs t) < all_left pl t
    round_falls [] t i a k n = absurd (omega arith)
    round_falls (c ∷ cs) t i a (k, more) n =
        by (λ b m. round_falls cs (call pl c t).state (call_inv wired range c t i) b more m)
        (ends_or pl t c)
        (call_lowers wired range c t i (λ o d. ap (λ (f : Output → Wire). f o) a.wire ∙ w o d) k)
      where
        by : (Alike e (call pl c t).state → 1 ≤ rounds pl cs (call pl c t).state
            → all_left pl (ruled_after pl cs (call pl c t).state) < all_left pl (call pl c t).state)
            → Ends pl t c (call pl c t) ⊎ (ends_round c (call pl c t).answer ≡ 0)
            → Lowers pl t (call pl c t).state → all_left pl (ruled_after pl cs (call pl c t).state) < all_left pl t
        by rec (inl (z, is, f, g)) l = absurd (could t a f (k.willing z))
        by rec (inr z) (falls l) =
            let m = list_most wired range cs (call pl c t).state (call_inv wired range c t i) more in omega arith
        by rec (inr z) (stays l b) =
            let m = rec (alike_then e t (call pl c t).state a b) (omega arith) in omega arith

  -- ---- where Execute lowers the sum, a list with a whole round does
  execute_first : (e : State) → Inv pl e → e.clock.phase ≡ Execute → all_left pl (do_execute pl e) < all_left pl e
      → (cs : List Call) → Waiting pl cs e → 1 ≤ rounds pl cs e → all_left pl (ruled_after pl cs e) < all_left pl e
  execute_first e i f l [] k n = absurd (omega arith)
  execute_first e i f l (c ∷ cs) (k, more) n = by c k more n (λ w m. execute_first e i f l cs w m)
    where
      other : (c : Call) → c ≢ execute → Waiting pl cs (call pl c e).state → 1 ≤ rounds pl (c ∷ cs) e
          → (Waiting pl cs e → 1 ≤ rounds pl cs e → all_left pl (ruled_after pl cs e) < all_left pl e)
          → all_left pl (ruled_after pl cs (call pl c e).state) < all_left pl e
      other c ne w n rec =
          let o = only_execute pl e f c ne in
          let m : rounds pl cs (call pl c e).state ≡ rounds pl cs e = ap (rounds pl cs) o.0 in
          let z = o.1 in
          let r = rec (subst (Waiting pl cs) o.0 w) (omega arith) in
          subst (λ (t : State). all_left pl (ruled_after pl cs t) < all_left pl e) (sym o.0) r

      by : (c : Call) → Calmly pl c e → Waiting pl cs (call pl c e).state → 1 ≤ rounds pl (c ∷ cs) e
          → (Waiting pl cs e → 1 ≤ rounds pl cs e → all_left pl (ruled_after pl cs e) < all_left pl e)
          → all_left pl (ruled_after pl cs (call pl c e).state) < all_left pl e
      by (turn Execute) k w n rec =
          let now : (call pl execute e).state ≡ do_execute pl e = ap (λ (r : Outcome). r.state)
          (turn_now pl e Execute f) in
          let m = list_most wired range cs (call pl execute e).state (call_inv wired range execute e i) w in
          let same = ap (all_left pl) now in
          omega arith
      by (turn Read) k w n rec = other read (λ g. read_execute (turn_same g)) w n rec
      by (turn Write) k w n rec = other write (λ g. execute_write (sym (turn_same g))) w n rec
      by (visit v) k w n rec = other (visit v) (λ g. visit_not v Execute g) w n rec

  -- ---- from a state in EXECUTE
  module _ (free : FeedRing pl → ⊥) (e : State) (i : Inv pl e) (f : e.clock.phase ≡ Execute) (cs : List Call)
      (k : Waiting pl cs e) (n : S pl ≤ rounds pl cs e) where
    has : NoChoices pl e × WiresEmpty pl e × FlagsDown pl e
    has = execute_has e f i.shape

    one_round : 1 ≤ rounds pl cs e
    one_round = omega (arith, range.slots.0)

    -- a passive that can reply
    replies_now : (p : ℕ) (x : Packet) (rest : List Packet) → p < P pl → e.lines.queue (passive_in p) ≡ x ∷ rest
        → has_room pl (passive_out p) e ≡ true → all_left pl (ruled_after pl cs e) < all_left pl e
    replies_now p x rest h q r =
        round_falls e has.1
        (λ t a g v. v.replies p 0 (can_reply pl t p x rest g h (a.down (passive_in p) (has.2 (passive_in p) h))
        (a.same (passive_in p) refl ∙ q) (rw (a.same (passive_out p) refl) r)))
        cs e i (alike_self e) k one_round

    -- an active that can drop
    drops_now : (a : ℕ) (x : Packet) (rest : List Packet) → a < A pl → e.lines.queue (active_in a) ≡ x ∷ rest
        → unmarked x ≡ false → all_left pl (ruled_after pl cs e) < all_left pl e
    drops_now b x rest h q u =
        round_falls e has.1
        (λ t a g v. v.drops b (can_drop pl t b x rest g h (a.down (active_in b) (has.2 (active_in b) h))
        (a.same (active_in b) refl ∙ q) u))
        cs e i (alike_self e) k one_round

    -- a packet in a queue of a closed set
    moves_now : (set : Queue → Bool) → Closed pl set e → (q : Queue) (x : Packet) (rest : List Packet) → Exists pl q
        → is_in_queue q ≡ false → set q ≡ true → e.lines.queue q ≡ x ∷ rest
        → all_left pl (ruled_after pl cs e) < all_left pl e
    moves_now set c q x rest h ni b g =
        moves_fall wired range cs e i has.1 k (from_execute wired range free e i f set c q x rest h ni b g cs n)

    answers_now : (q : Queue) → Exists pl q → answering q ≡ true → (x : Packet) (rest : List Packet)
        → e.lines.queue q ≡ x ∷ rest → all_left pl (ruled_after pl cs e) < all_left pl e
    answers_now q h a x rest g = moves_now answering (answering_closed wired e) q x rest h (no_in q a) a g
      where
        no_in : (q : Queue) → answering q ≡ true → is_in_queue q ≡ false
        no_in (active_out x) b = refl
        no_in (active_in x) b = absurd (false≢true b)
        no_in (passive_in x) b = absurd (false≢true b)
        no_in (passive_out x) b = refl
        no_in (U r i) b = refl
        no_in (Q r i) b = refl
        no_in (F h r o) b = refl
        no_in (K r i o) b = refl

    -- no passive has a packet
    module _ (none : (p : ℕ) → p < P pl → e.lines.queue (passive_in p) ≡ []) where
      room : PassiveRoom pl e
      room p h =
          let c = capacity_some pl.head range (passive_in p) in
          let z = ap length (none p h) in
          omega arith

      inner_now : (q : Queue) → Exists pl q → is_in_queue q ≡ false → (x : Packet) (rest : List Packet)
          → e.lines.queue q ≡ x ∷ rest → all_left pl (ruled_after pl cs e) < all_left pl e
      inner_now q h ni x rest g = moves_now every (every_closed pl e room) q x rest h ni refl g

      -- an active's in-queue
      active_now : (a : ℕ) (x : Packet) (rest : List Packet) → a < A pl → e.lines.queue (active_in a) ≡ x ∷ rest
          → all_left pl (ruled_after pl cs e) < all_left pl e
      active_now a x rest h q = by (e.lines.queue (active_out a)) refl (test (unmarked x))
        where
          empty_room : e.lines.queue (active_out a) ≡ [] → has_room pl (active_out a) e ≡ true
          empty_room g =
              let c = capacity_some pl.head range (active_out a) in
              let z = ap length g in
              lt-ltb (length (e.lines.queue (active_out a))) (capacity pl.head (active_out a)) (omega arith)

          by : (l : List Packet) → e.lines.queue (active_out a) ≡ l → (unmarked x ≡ true) ⊎ (unmarked x ≡ false)
              → all_left pl (ruled_after pl cs e) < all_left pl e
          by (y ∷ l) g u = inner_now (active_out a) h refl y l g
          by [] g (inl u) =
              execute_first e i f (execute_marks wired range e i.core has.2 a h x rest q u (empty_room g)) cs k
              one_round
          by [] g (inr u) = drops_now a x rest h q u

      any_now : (q : Queue) → Exists pl q → (x : Packet) (rest : List Packet) → e.lines.queue q ≡ x ∷ rest
          → all_left pl (ruled_after pl cs e) < all_left pl e
      any_now (active_out a) h x rest g = inner_now (active_out a) h refl x rest g
      any_now (active_in a) h x rest g = active_now a x rest h g
      any_now (passive_in p) h x rest g =
          let z : [] ≡ x ∷ rest = sym (none p h) ∙ g in let z' : ◌≡◌ {A = ℕ} 0 1 = cc in absurd (omega arith)
      any_now (passive_out p) h x rest g = inner_now (passive_out p) h refl x rest g
      any_now (U r j) h x rest g = inner_now (U r j) h refl x rest g
      any_now (Q r j) h x rest g = inner_now (Q r j) h refl x rest g
      any_now (F d r o) h x rest g = inner_now (F d r o) h refl x rest g
      any_now (K r j o) h x rest g = inner_now (K r j o) h refl x rest g

    -- Where a queue has a packet, the sum falls within S rounds.
    pub execute_falls : (q : Queue) → Exists pl q → (x : Packet) (rest : List Packet) → e.lines.queue q ≡ x ∷ rest
        → all_left pl (ruled_after pl cs e) < all_left pl e
    execute_falls q h x rest g = first (some_packet (λ p. e.lines.queue (passive_in p)) (P pl))
      where
        -- the passive p has a packet: it can reply, or its out-queue is full and has an answer
        passive_now : (p : ℕ) → p < P pl → (y : Packet) (l : List Packet) → e.lines.queue (passive_in p) ≡ y ∷ l
            → all_left pl (ruled_after pl cs e) < all_left pl e
        passive_now p l y ys q = at (test (has_room pl (passive_out p) e)) (e.lines.queue (passive_out p)) refl
          where
            at : (has_room pl (passive_out p) e ≡ true) ⊎ (has_room pl (passive_out p) e ≡ false) → (o : List Packet)
                → e.lines.queue (passive_out p) ≡ o → all_left pl (ruled_after pl cs e) < all_left pl e
            at (inl r) o z = replies_now p y ys l q r
            at (inr r) (v ∷ o) z = answers_now (passive_out p) l refl v o z
            at (inr r) [] z =
                let c = capacity_some pl.head range (passive_out p) in
                let m = ap length z in
                let u = ltb-false (length (e.lines.queue (passive_out p))) (capacity pl.head (passive_out p)) r in
                absurd (omega arith)

        first : SomePacket (λ p. e.lines.queue (passive_in p)) (P pl)
            ⊎ ((p : ℕ) → p < P pl → e.lines.queue (passive_in p) ≡ []) → all_left pl (ruled_after pl cs e) < all_left pl
            e
        first (inl (p, l, y, ys, z)) = passive_now p l y ys z
        first (inr none) = any_now none q h x rest g
