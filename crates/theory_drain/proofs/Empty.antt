-- Empty by a known round: from every valid state in READ, a program that waits finds the network empty after S rounds
-- for each step that its packets have before them, whatever else its list holds.
use mathlib.Core.Path.{◌≡◌, refl, sym, ap, subst, ◌∙◌}
use mathlib.Core.Logic.{◌⊎◌, inl, inr, ◌≢◌}
use mathlib.Core.Bool.{true}
use mathlib.Core.List.{List, [], ◌∷◌, ◌++◌}
use Prim.Native.Nat.{ℕ, zero, suc, ◌+◌, ◌*◌, ◌≤◌, ◌<◌}
use native.Mathlib.Nat.{mul-le-mul_right, mul_right_comm}
use native.Mathlib.Omega.{arith}
use Rattle.basis.specs.Bounded.{lt_or_ge}
use Rattle.packets.specs.declared.Phase.TheVariants.{Read, Execute, Write}
use Rattle.packets.specs.declared.Answer.TheVariants.{Done}
use Rattle.plan.specs.Head.{InRange}
use Rattle.plan.specs.Plan.{Plan, S}
use Rattle.plan_queues.specs.Feeds.{FeedRing}
use Rattle.plan_facts.specs.Wired.{Wired}
use Rattle.rules.specs.State.{State}
use Rattle.rules.specs.Read.{do_read}
use Rattle.rules.specs.Remaining.{packets, enough}
use Rattle.rules.specs.Calls.{Visit, Call, turn, visit, read, execute, write, Outcome, call}
use Rattle.rules.specs.Progress.{ends_round}
use Rattle.rules.specs.Ruled.{ruled_after, rounds}
use Rattle.rules.proofs.Apart.{read_execute, read_write, turn_same, visit_not}
use Rattle.theory.specs.Does.{Visited, launches, replies, looks, drops, closes, tells, counts, Does, refuses, turns}
use Rattle.theory.specs.Does.{visits}
use Rattle.theory.specs.Invariant.{Inv}
use Rattle.theory.proofs.Does.{call_does, refused_turns}
use Rattle.theory.proofs.Keeps.{inv_of, call_inv}
use Rattle.theory.proofs.Shape.Calls.{execute_has}
use Rattle.theory.proofs.Progress.Undisturbed.{turn_now}
use Rattle.theory.proofs.Progress.Rounds.{execute_phase}
use Rattle.theory_drain.specs.Left.{all_left}
use Rattle.theory_drain.specs.Waits.{adds}
use Rattle.theory_drain.specs.AtTheEnd.{Calmly, Waiting}
use Rattle.theory_drain.specs.EmptyBy.{EmptyBy, sooner, EmptySooner}
use Rattle.theory_drain.proofs.Phases.{read_left}
use Rattle.theory_drain.proofs.Calls.{list_most, list_inv}
use Rattle.theory_drain.proofs.Round.{execute_falls}
use Rattle.theory_drain.proofs.Lists.{ruled_append, rounds_append, waiting_append}
use Rattle.theory_drain.proofs.Turns.{Ends, ends_or}
use Rattle.theory_drain.proofs.AtTheEnd.{same_at_the_end}
use Rattle.theory_drain.proofs.Sum.{left_bound, none_left, some_left}

-- ---- in READ a program that waits does nothing but Read
only : (pl : Plan) (s : State) → s.clock.phase ≡ Read → (c : Call) (o : Outcome) → Does pl s c o → c ≢ read
    → (adds c ≡ true → o.answer ≢ Done) → (o.state ≡ s) × (ends_round c o.answer ≡ 0)
only pl s e c o (refuses d w n) ne k = (refl, refused_turns Write d w)
only pl s e c o (turns x f) ne k = absurd (ne (ap turn (sym f ∙ e)))
only pl s e c o (visits v r d) ne k = by v r d k
  where
    by : (v : Visit) (r : Outcome) → Visited pl s v r → (adds (visit v) ≡ true → r.answer ≢ Done)
        → (r.state ≡ s) × (ends_round (visit v) r.answer ≡ 0)
    by v r (launches a q t m) k = absurd (k refl refl)
    by v r (replies q c x rest m) k = absurd (read_write (sym e ∙ m.phase))
    by v r (looks a x rest m) k = (refl, refl)
    by v r (drops a x rest m) k = absurd (read_write (sym e ∙ m.phase))
    by v r (closes a q t m) k = absurd (k refl refl)
    by v r (tells i q t m) k = (refl, refl)
    by v r counts k = (refl, refl)

module _ {pl : Plan} (wired : Wired pl) (range : InRange pl.head) (free : FeedRing pl → ⊥) where
  -- Within S rounds from READ the sum falls, where it is not 0.
  read_falls : (cs : List Call) (s : State) → Inv pl s → s.clock.phase ≡ Read → Waiting pl cs s
      → S pl ≤ rounds pl cs s → 1 ≤ all_left pl s → all_left pl (ruled_after pl cs s) < all_left pl s
  read_falls [] s i e k n l = absurd (omega (arith, range.slots.0))
  read_falls (c ∷ cs) s i e (k, more) n l = by c k more n (λ w m. read_falls cs s i e w m l)
    where
      other : (c : Call) → c ≢ read → Calmly pl c s → Waiting pl cs (call pl c s).state → S pl ≤ rounds pl (c ∷ cs) s
          → (Waiting pl cs s → S pl ≤ rounds pl cs s → all_left pl (ruled_after pl cs s) < all_left pl s)
          → all_left pl (ruled_after pl cs (call pl c s).state) < all_left pl s
      other c ne k w n rec =
          let o = only pl s e c (call pl c s) (call_does pl s c) ne k.none_added in
          let m : rounds pl cs (call pl c s).state ≡ rounds pl cs s = ap (rounds pl cs) o.0 in
          let z = o.1 in
          let r = rec (subst (Waiting pl cs) o.0 w) (omega arith) in
          subst (λ (t : State). all_left pl (ruled_after pl cs t) < all_left pl s) (sym o.0) r

      reads : Waiting pl cs (call pl read s).state → S pl ≤ rounds pl (read ∷ cs) s
          → all_left pl (ruled_after pl cs (call pl read s).state) < all_left pl s
      reads w n =
          let now : (call pl read s).state ≡ do_read pl s = ap (λ (r : Outcome). r.state) (turn_now pl s Read e) in
          let j = call_inv wired range read s i in
          let f : (call pl read s).state.clock.phase ≡ Execute
          = ap (λ (t : State). t.clock.phase) now ∙ execute_phase pl s in
          let same : all_left pl (call pl read s).state ≡ all_left pl s
          = ap (all_left pl) now ∙ read_left wired range s i.core in
          let q = some_left j.core (execute_has (call pl read s).state f j.shape).1 (omega arith) in
          let less = execute_falls wired range free (call pl read s).state j f cs w (omega arith) q.0 q.1 q.2
          q.3 q.4 in
          omega arith

      by : (c : Call) → Calmly pl c s → Waiting pl cs (call pl c s).state → S pl ≤ rounds pl (c ∷ cs) s
          → (Waiting pl cs s → S pl ≤ rounds pl cs s → all_left pl (ruled_after pl cs s) < all_left pl s)
          → all_left pl (ruled_after pl cs (call pl c s).state) < all_left pl s
      by (turn Read) k w n rec = reads w n
      by (turn Execute) k w n rec = other execute (λ h. read_execute (sym (turn_same h))) k w n rec
      by (turn Write) k w n rec = other write (λ h. read_write (sym (turn_same h))) k w n rec
      by (visit v) k w n rec = other (visit v) (λ h. visit_not v Read h) k w n rec

-- ---- a list cut behind its n-th round
pub record Cut (pl : Plan) (n : ℕ) (cs : List Call) (s : State) : Type 0 where
  pub first : List Call
  pub rest : List Call
  pub split : cs ≡ first ++ rest
  pub count : rounds pl first s ≡ n
  pub phase : (ruled_after pl first s).clock.phase ≡ Read

cut : (pl : Plan) (n : ℕ) (cs : List Call) (s : State) → suc n ≤ rounds pl cs s → Cut pl (suc n) cs s
cut pl n [] s l = absurd (omega arith)
cut pl n (c ∷ cs) s l =
    by (λ m h. cut pl m cs (call pl c s).state h) n l (ends_or pl s c)
  where
    longer : (m n : ℕ) → ends_round c (call pl c s).answer + m ≡ n → Cut pl m cs (call pl c s).state
        → Cut pl n (c ∷ cs) s
    longer m n e k =
        record {
          first = c ∷ k.first;
          rest = k.rest;
          split = ap (λ (l : List Call). c ∷ l) k.split;
          count = ap (λ (x : ℕ). ends_round c (call pl c s).answer + x) k.count ∙ e;
          phase = k.phase;
        }

    by : ((m : ℕ) → suc m ≤ rounds pl cs (call pl c s).state → Cut pl (suc m) cs (call pl c s).state) → (n : ℕ)
        → suc n ≤ rounds pl (c ∷ cs) s
        → Ends pl s c (call pl c s) ⊎ (ends_round c (call pl c s).answer ≡ 0) → Cut pl (suc n) (c ∷ cs) s
    by rec n l (inr z) = longer (suc n) (suc n) (omega arith) (rec n (omega arith))
    by rec zero l (inl (z, is, now, f)) =
        record {
          first = c ∷ [];
          rest = cs;
          split = refl;
          count = omega arith;
          phase = f;
        }
    by rec (suc n) l (inl (z, is, now, f)) = longer (suc n) (suc (suc n)) (omega arith) (rec n (omega arith))

module _ {pl : Plan} (wired : Wired pl) (range : InRange pl.head) (free : FeedRing pl → ⊥) where
  -- After S rounds for each step that is left, none is left.
  pub none_after : (k : ℕ) (cs : List Call) (s : State) → Inv pl s → s.clock.phase ≡ Read → Waiting pl cs s
      → all_left pl s ≤ k → k * S pl ≤ rounds pl cs s → all_left pl (ruled_after pl cs s) ≡ 0
  none_after zero cs s i e w l n = let m = list_most wired range cs s i w in omega arith
  none_after (suc k) cs s i e w l n = by (lt_or_ge (all_left pl s) 1)
      (λ ds t j f v m h. none_after k ds t j f v m h)
    where
      slots : (x : ℕ) × (S pl ≡ suc x)
      slots = at (S pl) range.slots.0
        where
          at : (y : ℕ) → 2 ≤ y → (x : ℕ) × (y ≡ suc x)
          at zero h = absurd (omega arith)
          at (suc x) h = (x, refl)

      grows : S pl + k * S pl ≡ suc k * S pl
      grows = omega arith

      step : 1 ≤ all_left pl s → Cut pl (suc slots.0) cs s
          → ((ds : List Call) (t : State) → Inv pl t → t.clock.phase ≡ Read → Waiting pl ds t → all_left pl t ≤ k
          → k * S pl ≤ rounds pl ds t → all_left pl (ruled_after pl ds t) ≡ 0)
          → all_left pl (ruled_after pl cs s) ≡ 0
      step some c rec =
          let v = waiting_append pl c.first c.rest s (subst (λ (l : List Call). Waiting pl l s) c.split w) in
          let size = slots.1 in
          let less = read_falls wired range free c.first s i e v.0 (omega (arith, c.count)) some in
          let all : rounds pl cs s ≡ rounds pl c.first s + rounds pl c.rest (ruled_after pl c.first s)
          = ap (λ (l : List Call). rounds pl l s) c.split ∙ rounds_append pl c.first c.rest s in
          let g = grows in
          let r = rec c.rest (ruled_after pl c.first s) (list_inv wired range c.first s i) c.phase v.1
          (omega arith) (omega (arith, c.count)) in
          ap (λ (l : List Call). all_left pl (ruled_after pl l s)) c.split
          ∙ ap (all_left pl) (ruled_append pl c.first c.rest s) ∙ r

      by : (all_left pl s < 1) ⊎ (1 ≤ all_left pl s)
          → ((ds : List Call) (t : State) → Inv pl t → t.clock.phase ≡ Read → Waiting pl ds t → all_left pl t ≤ k
          → k * S pl ≤ rounds pl ds t → all_left pl (ruled_after pl ds t) ≡ 0)
          → all_left pl (ruled_after pl cs s) ≡ 0
      by (inl z) rec = let m = list_most wired range cs s i w in omega arith
      by (inr z) rec =
          let g = grows in
          let size = slots.1 in
          step z (cut pl slots.0 cs s (omega arith)) rec

  -- Empty by a known round: S rounds for each step,
  pub empty_sooner : EmptySooner pl
  empty_sooner s g e cs w n =
      let i = inv_of pl s g in
      let k = (same_at_the_end pl).told cs s e w in
      let much = steps_bound (all_left pl s) (packets pl s) (left_bound pl range s i.core) in
      let z = none_after (all_left pl s) cs s i e k (omega arith) (omega arith) in
      none_left (list_inv wired range cs s i).core z
    where
      steps_bound : (x n : ℕ) → x ≤ 133 * n → x * S pl ≤ sooner (S pl) n
      steps_bound x n l =
          subst (λ (m : ℕ). x * S pl ≤ m) (mul_right_comm 133 n (S pl)) (mul-le-mul_right (S pl) l)

  -- and so by the document's round.
  pub empty_by : EmptyBy pl
  empty_by s g e cs w n =
      let less : sooner (S pl) (packets pl s) ≤ enough (S pl) (packets pl s) =
      mul-le-mul_right (packets pl s) (omega arith) in
      empty_sooner s g e cs w (omega arith)
