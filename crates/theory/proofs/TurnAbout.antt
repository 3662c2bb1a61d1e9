-- Turn about: each other that goes before a head that stays a candidate comes nearer to it in the output's circle of
-- senders. So the senders that stand between the last one's turn and the head's are counted: an Execute that picks
-- another leaves fewer of them, and no call leaves more. At most three stand there.
use mathlib.Core.Path.{◌≡◌, refl, sym, ap, subst, ◌∙◌}
use mathlib.Core.Logic.{◌⊎◌, inl, inr, ◌≢◌}
use mathlib.Core.Bool.{Bool, true, false, false≢true}
use mathlib.Core.List.{List, [], ◌∷◌, ◌++◌}
use mathlib.Core.Option.{Option, none, some}
use Prim.Native.Nat.{ℕ, zero, suc, ◌+◌, ◌*◌, ◌-◌, ◌≤◌, ◌<◌, ◌/◌, ◌%◌}
use native.Mathlib.Omega.{arith}
use lib.Dec.{ltb}
use lib.ListN.{length}
use borrow.Author.Tests.{ltb-true, ltb-false, lt-ltb, le-ltb}
use Rattle.basis.specs.Choice.{pick, also, test, not_both}
use Rattle.basis.specs.Fold.{up_to, up_keeps}
use Rattle.packets.specs.declared.Kind.{Kind}
use Rattle.packets.specs.declared.Packet.{Packet}
use Rattle.packets.specs.declared.Phase.TheVariants.{Read, Execute, Write}
use Rattle.packets.specs.declared.Answer.TheVariants.{Refused}
use Rattle.plan.specs.Head.{InRange}
use Rattle.plan.specs.Plan.{Plan, R, A, S}
use Rattle.plan_queues.specs.Queue.{Queue, active_out, active_in}
use Rattle.plan_queues.specs.Feeds.{Output, of_active, of_passive, of_side, to_unit, from_unit, output_of}
use Rattle.plan_facts.specs.Wired.{Wired}
use Rattle.plan_journeys.proofs.Places.{some_same, some_not_none}
use Rattle.rules.specs.Store.{same_output, same_output_lem, output_same}
use Rattle.rules.specs.Outputs.{last_in_order, senders, outputs, output_at, output_number}
use Rattle.rules.specs.State.{State, Choice, nobody, sender, with_queue, join}
use Rattle.rules.specs.Read.{do_read}
use Rattle.rules.specs.Execute.{unit_at, candidate, picked, choose, marked, tdown_of, undo, do_execute}
use Rattle.rules.specs.Write.{of_rank, send, do_write}
use Rattle.rules.specs.Visits.{launched, reply_kind, replied, removed, noted, closed}
use Rattle.rules.specs.Calls.{Visit, Call, Outcome, call}
use Rattle.rules.specs.Valid.{Drives, bit}
use Rattle.rules.specs.TurnAbout.{candidate_of, waits, is_other, goes_before, Stays, others_in, others, StaysIn}
use Rattle.rules.specs.TurnAbout.{StaysAlong, TurnAbout}
use Rattle.rules.proofs.OutNumbers.{output_at_lem, output_below}
use Rattle.theory.specs.Invariant.{Inv, NoChoices}
use Rattle.theory.specs.Does.{Visited, launches, replies, looks, drops, closes, tells, counts, Does, refuses}
use Rattle.theory.specs.Does.{turns, visits}
use Rattle.theory.proofs.Ground.Cells.{queue_away, output_here, output_away}
use Rattle.theory.proofs.Cases.{noted_keeps}
use Rattle.theory.proofs.Does.{call_does, refused_turns}
use Rattle.theory.proofs.Account.Units.{undo_by}
use Rattle.theory.proofs.Places.Feeders.{sender_leaves}
use Rattle.theory.proofs.Own.Same.{unit_leaves}
use Rattle.theory.proofs.Shape.Arbitration.{NotAfter, picked_candidate, picked_least, candidate_alike, chosen}
use Rattle.theory.proofs.Shape.Calls.{read_has, execute_has}
use Rattle.theory.proofs.Shape.Read.{read_choices}
use Rattle.theory.proofs.Shape.Execute.{undo_choice}
use Rattle.theory.proofs.Shape.Write.{send_choice, send_clears}
use Rattle.theory.proofs.Progress.Still.{all_chosen}
use Rattle.rules.proofs.Numbers.{rank_below}
use Rattle.theory.proofs.Turns.{read_last, execute_last, send_last, send_idle}
use Rattle.theory.proofs.Keeps.{inv_of, call_inv}

-- ---- how many senders stand before a head
-- whose turn was the last: the sender's that is picked, or else that of the one that was served
abbrev pub last_of : Choice → ℕ → ℕ
last_of nobody l = l
last_of (sender k) l = k

unfoldable pub turn_of : Output → State → ℕ
turn_of o s = last_of (s.links.choice o) (s.last_sender o)

-- of n ranks in a circle, those behind rank k and before rank j
abbrev pub between : ℕ → ℕ → ℕ → ℕ
between n k j = pick (ltb k j) (j - suc k) (n - suc k + j)

-- the senders that stand before that of rank j
unfoldable pub ahead : Output → ℕ → State → ℕ
ahead o j s = pick (ltb j (length (senders o))) (between (length (senders o)) (turn_of o s) j) 0

-- fewer than all
between_few : (n k j : ℕ) → j < n → between n k j < n
between_few n k j h = by (test (ltb k j))
  where
    by : (ltb k j ≡ true) ⊎ (ltb k j ≡ false) → between n k j < n
    by (inl t) = let l = ltb-true k j t in rw (t, pick) (omega arith)
    by (inr t) = let l = ltb-false k j t in rw (t, pick) (omega arith)

-- all but one, at most, stand before any
pub ahead_few : (o : Output) (j : ℕ) (s : State) → ahead o j s ≤ last_in_order o
unfolding ahead
ahead_few o j s = by (test (ltb j (length (senders o))))
  where
    by : (ltb j (length (senders o)) ≡ true) ⊎ (ltb j (length (senders o)) ≡ false) → ahead o j s ≤ last_in_order o
    by (inl t) =
        let b = between_few (length (senders o)) (turn_of o s) j (ltb-true j (length (senders o)) t) in
        rw (t, pick) (omega arith)
    by (inr t) = rw (t, pick) (omega arith)

-- from k on, which comes not after j and is not j, fewer stand before j than from l on
between_less : (n l k j : ℕ) → l < n → k < n → j < n → k ≢ j → NotAfter l k j → suc (between n k j) ≤ between n l j
between_less n l k j hl hk hj ne (inl (b, c)) = by (test (ltb l j))
  where
    by : (ltb l j ≡ true) ⊎ (ltb l j ≡ false) → suc (between n k j) ≤ between n l j
    by (inl t) =
        let d = c (ltb-true l j t) in
        let e : k < j = omega arith in
        rw (t, lt-ltb k j e, pick) (omega arith)
    by (inr t) =
        let d = ltb-false l j t in
        let e : j ≤ k = omega arith in
        rw (t, le-ltb k j e, pick) (omega arith)
between_less n l k j hl hk hj ne (inr (b, c)) =
    let e : k < j = omega arith in
    rw (le-ltb l j c, lt-ltb k j e, pick) (omega arith)

-- ---- what leaves the last turn as it is
module _ (o : Output) (j : ℕ) where
  -- as many stand before the head
  ahead_same : (s t : State) → turn_of o t ≡ turn_of o s → ahead o j t ≤ ahead o j s
  unfolding ahead
  ahead_same s t e = rw e (omega arith)

  -- how many, for a rank
  ahead_is : (s : State) (l : ℕ) → turn_of o s ≡ l → j < length (senders o) → ahead o j s
      ≡ between (length (senders o)) l j
  unfolding ahead
  ahead_is s l e h = rw (e, lt-ltb j (length (senders o)) h)

module _ (pl : Plan) (o : Output) where
  -- the output, or another
  output_or : (u : Output) → (o ≡ u) ⊎ (o ≢ u)
  output_or u = by (test (same_output o u))
    where
      by : (same_output o u ≡ true) ⊎ (same_output o u ≡ false) → (o ≡ u) ⊎ (o ≢ u)
      by (inl t) = inl (same_output_lem o u t)
      by (inr f) = inr (λ e. not_both (output_same u) (rw e at f))

  -- a sending: what was picked has been served
  send_turn : (u : Output) (s : State) → (o ≡ u) ⊎ (o ≢ u) → turn_of o (send pl u s) ≡ turn_of o s
  unfolding turn_of
  send_turn u s (inl e) = rw e (by (s.links.choice u) refl)
    where
      by : (c : Choice) → s.links.choice u ≡ c → turn_of u (send pl u s) ≡ turn_of u s
      by nobody c = rw (send_clears pl u s, c, last_of) (ap (λ (m : Output → ℕ). m u) (send_idle pl u s c))
      by (sender k) c = rw (send_clears pl u s, c, last_of)
          (ap (λ (m : Output → ℕ). m u) (send_last pl u s k c) ∙ output_here s.last_sender u k)
  send_turn u s (inr ne) = by (s.links.choice u) refl
    where
      last : (c : Choice) → s.links.choice u ≡ c → (send pl u s).last_sender o ≡ s.last_sender o
      last nobody c = ap (λ (m : Output → ℕ). m o) (send_idle pl u s c)
      last (sender k) c =
          ap (λ (m : Output → ℕ). m o) (send_last pl u s k c) ∙ output_away s.last_sender u k o ne

      by : (c : Choice) → s.links.choice u ≡ c → turn_of o (send pl u s) ≡ turn_of o s
      by c e = rw (send_choice pl u o s ne, last c e)

  -- WRITE
  write_turn : (s : State) → turn_of o (do_write pl s) ≡ turn_of o s
  unfolding do_write turn_of
  write_turn s =
      up_keeps (λ (t : State). turn_of o t ≡ turn_of o s) (λ n. send pl (output_at pl n)) (outputs pl) s
      (λ n t h e. send_turn (output_at pl n) t (output_or (output_at pl n)) ∙ e) refl

  -- the last turn where nobody is picked
  turn_nobody : (s : State) → s.links.choice o ≡ nobody → turn_of o s ≡ s.last_sender o
  unfolding turn_of
  turn_nobody s e = rw (e, last_of)

  -- and where one is picked
  turn_sender : (s : State) (k : ℕ) → s.links.choice o ≡ sender k → turn_of o s ≡ k
  unfolding turn_of
  turn_sender s k e = rw (e, last_of)

  -- READ: there are no choices before it and after it
  read_turn : (s : State) → NoChoices pl s → Drives pl o → turn_of o (do_read pl s) ≡ turn_of o s
  read_turn s n d =
      turn_nobody (do_read pl s) (read_choices pl s n o d) ∙ ap (λ (m : Output → ℕ). m o) (read_last pl s)
      ∙ sym (turn_nobody s (n o d))

  -- visits
  launched_turn : (a p t : ℕ) (s : State) → turn_of o (launched a p t s) ≡ turn_of o s
  unfolding launched join turn_of
  launched_turn a p t s = refl

  replied_turn : (p : ℕ) (k : Kind) (line : List Packet) (s : State) → turn_of o (replied p k line s) ≡ turn_of o s
  unfolding join turn_of
  replied_turn p k [] s = refl
  replied_turn p k (x ∷ rest) s = refl

  dropped_turn : (a : ℕ) (x : Packet) (rest : List Packet) (s : State)
      → turn_of o (noted pl x (removed a rest s)) ≡ turn_of o s
  unfolding removed turn_of
  dropped_turn a x rest s =
      noted_keeps pl x (removed a rest s) (λ (t : State). turn_of o t ≡ turn_of o s) (λ e. refl) refl

  closed_turn : (a p t : ℕ) (s : State) → turn_of o (closed pl a p t s) ≡ turn_of o s
  unfolding closed join turn_of
  closed_turn a p t s = refl

  visit_turn : (v : Visit) (s : State) (r : Outcome) → Visited pl s v r → turn_of o r.state ≡ turn_of o s
  visit_turn v s r (launches a p t m) = launched_turn a p t s
  visit_turn v s r (replies p c x rest m) = replied_turn p (reply_kind c) (x ∷ rest) s
  visit_turn v s r (looks a x rest m) = refl
  visit_turn v s r (drops a x rest m) = dropped_turn a x rest s
  visit_turn v s r (closes a p t m) = closed_turn a p t s
  visit_turn v s r (tells i q t m) = refl
  visit_turn v s r counts = refl

-- ---- EXECUTE
module _ (pl : Plan) (s : State) where
  -- the state in which outputs pick: units have handled their heads
  abbrev at_pick : State
  at_pick = up_to (unit_at pl) (4 * R pl) s

  -- and that in which actives tear down
  abbrev at_undo : State
  at_undo = up_to (λ n. choose pl (output_at pl n)) (outputs pl) at_pick

  -- units leave what outputs remember
  pick_last : at_pick.last_sender ≡ s.last_sender
  pick_last = up_keeps (λ (t : State). t.last_sender ≡ s.last_sender) (unit_at pl) (4 * R pl) s
      (λ r t h e. unit_leaves (λ c l. l) pl t (r / 4) (r % 4) ∙ e) refl

  -- the choice that an output is left with is what it picked
  execute_picked : (o : Output) → Drives pl o → (do_execute pl s).links.choice o ≡ picked pl at_pick o
  unfolding do_execute
  execute_picked o d =
      let c = all_chosen pl at_pick in
      let undone = up_keeps (λ (t : State). t.links.choice ≡ at_undo.links.choice) (undo pl) (A pl) at_undo
      (λ a t h e. undo_choice pl a t ∙ e) refl in
      ap (λ (m : Output → Choice). m o) (undone ∙ ap (λ (t : State). t.links.choice) c.state)
      ∙ subst (λ (u : Output). c.choices u ≡ picked pl at_pick u) (output_at_lem pl o d)
      (c.picks (output_number pl o) (output_below pl o d))

  -- a queue that is no active's is a candidate exactly if it was one at the pick
  execute_candidate : (o : Output) (q : Queue) → ((a : ℕ) → q ≢ active_in a) → ((a : ℕ) → q ≢ active_out a)
      → candidate pl (do_execute pl s) o q ≡ candidate pl at_pick o q
  unfolding do_execute join
  execute_candidate o q nin nout =
      let c = all_chosen pl at_pick in
      let u : State = up_to (undo pl) (A pl) at_undo in
      candidate_alike pl u (do_execute pl s) o q refl refl refl
      ∙ up_keeps (λ (t : State). candidate pl t o q ≡ candidate pl at_undo o q) (undo pl) (A pl) at_undo
      (λ a t h e. undone a t ∙ e) refl
      ∙ ap (λ (t : State). candidate pl t o q) c.state
      ∙ candidate_alike pl at_pick (chosen at_pick c.choices) o q refl refl refl
    where
      undone : (a : ℕ) (t : State) → candidate pl (undo pl a t) o q ≡ candidate pl t o q
      undone a t =
          undo_by pl t (λ (v : State). candidate pl v o q ≡ candidate pl t o q) a refl
          (λ x rest e m room.
          let b : State = with_queue (active_in a) (marked x ∷ rest) t in
          candidate_alike pl t (join (active_out a) (tdown_of (S pl) x) b) o q
          (queue_away b.lines.queue (active_out a) (b.lines.queue (active_out a) ++ (tdown_of (S pl) x ∷ [])) q
          (nout a) ∙ queue_away t.lines.queue (active_in a) (marked x ∷ rest) q (nin a)) refl refl)

-- an active's output, or another
active_or : (o : Output) → ((a : ℕ) × (o ≡ of_active a)) ⊎ ((a : ℕ) → o ≢ of_active a)
active_or (of_active a) = inl (a, refl)
active_or (of_passive p) = inr (λ a e. let z : ◌≡◌ {A = ℕ} 0 1 = cc in omega arith)
active_or (of_side r i) = inr (λ a e. let z : ◌≡◌ {A = ℕ} 0 1 = cc in omega arith)
active_or (to_unit r) = inr (λ a e. let z : ◌≡◌ {A = ℕ} 0 1 = cc in omega arith)
active_or (from_unit r) = inr (λ a e. let z : ◌≡◌ {A = ℕ} 0 1 = cc in omega arith)

-- an active's output has one sender
only_one : (o : Output) (a : ℕ) → o ≡ of_active a → (k : ℕ) (q : Queue) → of_rank (senders o) k ≡ some q → k ≡ 0
only_one o a e k q r = at k (subst (λ (u : Output). of_rank (senders u) k ≡ some q) e r)
  where
    at : (k : ℕ) → of_rank (senders (of_active a)) k ≡ some q → k ≡ 0
    at zero f = refl
    at (suc k) f = absurd (some_not_none f)

-- two small laws of tests
also_none : (b : Bool) → also b false ≡ false
also_none true = refl
also_none false = refl

bit_one : (b : Bool) → bit b ≤ 1
bit_one true = omega arith
bit_one false = omega arith

module _ (pl : Plan) (o : Output) (d : Drives pl o) (j : ℕ) (s : State) where
  -- a head that another goes before, and that is a candidate after EXECUTE, was one at the pick: at an active's output
  -- there is no other to be picked
  waited : (k : ℕ) → picked pl (at_pick pl s) o ≡ sender k → k ≢ j → (q : Queue) → of_rank (senders o) j ≡ some q
      → candidate pl (do_execute pl s) o q ≡ true → candidate pl (at_pick pl s) o q ≡ true
  waited k p ne q r c = by (active_or o)
    where
      by : ((a : ℕ) × (o ≡ of_active a)) ⊎ ((a : ℕ) → o ≢ of_active a) → candidate pl (at_pick pl s) o q ≡ true
      by (inl (a, e)) =
          let g = (picked_candidate pl (at_pick pl s) o k p).1 in
          absurd (ne (only_one o a e k g.0 g.1 ∙ sym (only_one o a e j q r)))
      by (inr na) =
          let l = sender_leaves o j q r in
          sym (execute_candidate pl s o q (λ a e. some_not_none (sym (ap output_of e) ∙ l))
          (λ a e. na a (some_same (sym l ∙ ap output_of e)))) ∙ c

  -- the sender that waits
  waiting : (y : Option Queue) → of_rank (senders o) j ≡ y → candidate_of pl (do_execute pl s) o y ≡ true
      → (q : Queue) × (of_rank (senders o) j ≡ some q) × (candidate pl (do_execute pl s) o q ≡ true)
  waiting none r c = absurd (false≢true c)
  waiting (some q) r c = (q, r, c)

  -- EXECUTE: where nobody is picked all is as before; who is picked before the head is nearer to it
  execute_nearer : Inv pl s → s.clock.phase ≡ Execute → Stays pl o j (do_execute pl s)
      → bit (goes_before pl o j (do_execute pl s)) + ahead o j (do_execute pl s) ≤ ahead o j s
  execute_nearer i phase stays = by ((do_execute pl s).links.choice o) refl
    where
      before : turn_of o s ≡ s.last_sender o
      before = turn_nobody pl o s ((execute_has s phase i.shape).0 o d)

      last : (do_execute pl s).last_sender o ≡ s.last_sender o
      last = ap (λ (m : Output → ℕ). m o) (execute_last pl s (execute_has s phase i.shape).2)

      by : (c : Choice) → (do_execute pl s).links.choice o ≡ c
          → bit (goes_before pl o j (do_execute pl s)) + ahead o j (do_execute pl s) ≤ ahead o j s
      by nobody e =
          let none : bit (goes_before pl o j (do_execute pl s)) ≡ 0 =
          ap (λ (c : Choice). bit (also (waits pl o j (do_execute pl s)) (is_other j c))) e
          ∙ ap bit (also_none (waits pl o j (do_execute pl s))) in
          let same = ahead_same o j s (do_execute pl s) (turn_nobody pl o (do_execute pl s) e ∙ last ∙ sym before) in
          omega arith
      by (sender k) e =
          let g = stays.stays k e in
          let w = waiting (of_rank (senders o) j) refl g.0 in
          let p : picked pl (at_pick pl s) o ≡ sender k = sym (execute_picked pl s o d) ∙ e in
          let q = (picked_candidate pl (at_pick pl s) o k p).1 in
          let hj = rank_below (senders o) j w.0 w.1 in
          let first = subst (λ (l : ℕ). NotAfter l k j) (ap (λ (m : Output → ℕ). m o) (pick_last pl s))
          (picked_least pl (at_pick pl s) o k p j w.0 w.1 (waited k p g.1 w.0 w.1 w.2)) in
          let less = between_less (length (senders o)) (s.last_sender o) k j (i.turns.ranks o d)
          (rank_below (senders o) k q.0 q.1) hj g.1 first in
          let now = ahead_is o j (do_execute pl s) k (turn_sender pl o (do_execute pl s) k e) hj in
          let was = ahead_is o j s (s.last_sender o) before hj in
          let one = bit_one (goes_before pl o j (do_execute pl s)) in
          omega arith

  -- ---- every call: another that goes before the head is one less that stands before it
  does_nearer : (c : Call) (r : Outcome) → Does pl s c r → Inv pl s → StaysIn pl o j c r.answer r.state
      → others_in pl o j c r.answer r.state + ahead o j r.state ≤ ahead o j s
  does_nearer c r (refuses b w n) i stays =
      let none : others_in pl o j b (Refused w) s ≡ 0 =
      ap (λ (m : ℕ). m * bit (goes_before pl o j s)) (refused_turns Execute b w) ∙ omega arith in
      omega arith
  does_nearer c r (turns Read e) i stays =
      let same = ahead_same o j s (do_read pl s) (read_turn pl o s (read_has s e i.shape) d) in omega arith
  does_nearer c r (turns Execute e) i stays = let less = execute_nearer i e (stays refl) in omega arith
  does_nearer c r (turns Write e) i stays =
      let same = ahead_same o j s (do_write pl s) (write_turn pl o s) in omega arith
  does_nearer c r (visits v b m) i stays =
      let same = ahead_same o j s b.state (visit_turn pl o v s b m) in omega arith

-- The one-step law: what a call counts, and what it leaves, is no more than was there before it.
pub step_nearer : (pl : Plan) (o : Output) → Drives pl o → (j : ℕ) (c : Call) (s : State) → Inv pl s
    → StaysIn pl o j c (call pl c s).answer (call pl c s).state
    → others_in pl o j c (call pl c s).answer (call pl c s).state + ahead o j (call pl c s).state ≤ ahead o j s
step_nearer pl o d j c s i stays = does_nearer pl o d j s c (call pl c s) (call_does pl s c) i stays

-- ---- a list of calls
module _ {pl : Plan} (wired : Wired pl) (range : InRange pl.head) where
  -- all that go before the head stood before it
  list_nearer : (o : Output) → Drives pl o → (j : ℕ) (cs : List Call) (s : State) → Inv pl s → StaysAlong pl o j cs s
      → others pl o j cs s ≤ ahead o j s
  list_nearer o d j [] s i stays = omega arith
  list_nearer o d j (c ∷ cs) s i (now, later) =
      let first = step_nearer pl o d j c s i now in
      let rest = list_nearer o d j cs (call pl c s).state (call_inv wired range c s i) later in
      omega arith

  -- A head that stays a candidate sees at most all other senders go before it: four at a side, three at a unit.
  pub turn_about : TurnAbout pl
  turn_about s g o d j cs stays =
      let all = list_nearer o d j cs s (inv_of pl s g) stays in
      let few = ahead_few o j s in
      omega arith
