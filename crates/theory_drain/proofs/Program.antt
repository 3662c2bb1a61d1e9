-- A program that in each WRITE asks every passive to reply and every active to drop waits.
use mathlib.Core.Path.{◌≡◌, refl, sym, ap, subst, ◌∙◌}
use mathlib.Core.Logic.{◌⊎◌, inl, inr, ◌≢◌}
use mathlib.Core.Bool.{false, false≢true}
use mathlib.Core.List.{List, [], ◌∷◌, ◌++◌, append_assoc}
use Prim.Native.Nat.{ℕ, zero, suc, ◌+◌, ◌≤◌, ◌<◌}
use native.Mathlib.Omega.{arith}
use Rattle.basis.specs.Among.{In, in_left, in_right}
use Rattle.basis.specs.Bounded.{lt_or_ge}
use Rattle.packets.specs.declared.Phase.TheVariants.{Read, Execute, Write}
use Rattle.plan.specs.Plan.{Plan, Interface, active, passive, A, P, Has}
use Rattle.rules.specs.State.{State}
use Rattle.rules.specs.Read.{do_read}
use Rattle.rules.specs.Execute.{do_execute}
use Rattle.rules.specs.Write.{do_write}
use Rattle.rules.specs.Calls.{Call, read, execute, write, reply, drop, Outcome, call}
use Rattle.rules.specs.Progress.{ends_round}
use Rattle.rules.specs.Ruled.{ruled_after, rounds}
use Rattle.rules.proofs.Apart.{read_write, execute_write, turn_same, visit_not}
use Rattle.theory.proofs.Progress.Undisturbed.{turn_now}
use Rattle.theory_drain.specs.Waits.{adds}
use Rattle.theory_drain.specs.AtTheEnd.{Calmly, Waiting}
use Rattle.theory_drain.specs.Program.{replies_from, drops_from, waiting_round, waiting_rounds, CanWait}
use Rattle.theory_drain.proofs.Lists.{after_ruled, ruled_append, rounds_append, waiting_join}
use Rattle.theory_drain.proofs.Turns.{Ends, ends_or}
use Rattle.theory_drain.proofs.Write.{asks, Spent, done_has}
use Rattle.theory_drain.proofs.Along.{NoWrite, write_goes, asked_among}
use Rattle.theory_drain.proofs.AtTheEnd.{spent_willing, same_at_the_end}

-- ---- calls that add nothing, and of which none is a Write
abbrev Mild : List Call → Type 0
Mild [] = record {}
Mild (c ∷ cs) = (adds c ≡ false) × (c ≢ write) × Mild cs

mild_append : (cs ds : List Call) → Mild cs → Mild ds → Mild (cs ++ ds)
mild_append [] ds k m = m
mild_append (c ∷ cs) ds (a, n, k) m = (a, n, mild_append cs ds k m)

mild_none : (cs : List Call) → Mild cs → NoWrite cs
mild_none [] k = record {}
mild_none (c ∷ cs) (a, n, k) = (n, mild_none cs k)

module _ (pl : Plan) where
  ends_none : (c : Call) (s : State) → c ≢ write → ends_round c (call pl c s).answer ≡ 0
  ends_none c s n = by (ends_or pl s c)
    where
      by : Ends pl s c (call pl c s) ⊎ (ends_round c (call pl c s).answer ≡ 0) → ends_round c (call pl c s).answer ≡ 0
      by (inl (z, e, f, g)) = absurd (n e)
      by (inr z) = z

  -- may stand anywhere, and end no round
  mild_calm : (c : Call) (s : State) → adds c ≡ false → c ≢ write → Calmly pl c s
  mild_calm c s a n =
      record {
        none_added = λ b. absurd (false≢true (sym a ∙ b));
        willing = λ r. let z = ends_none c s n in absurd (omega arith);
      }

  mild_waits : (cs : List Call) (s : State) → Mild cs → Waiting pl cs s
  mild_waits [] s k = record {}
  mild_waits (c ∷ cs) s (a, n, k) = (mild_calm c s a n, mild_waits cs (call pl c s).state k)

  mild_rounds : (cs : List Call) (s : State) → Mild cs → rounds pl cs s ≡ 0
  mild_rounds [] s k = refl
  mild_rounds (c ∷ cs) s (a, n, k) =
      let z = ends_none c s n in
      let m = mild_rounds cs (call pl c s).state k in
      omega arith

module _ (pl : Plan) (c : ℕ → ℕ) (few : (p : ℕ) → c p ≤ 1) where
  -- ---- everybody is asked
  replies_mild : (n i : ℕ) → Mild (replies_from c i n)
  replies_mild zero i = record {}
  replies_mild (suc n) i = (refl, visit_not _ Write, replies_mild n (suc i))

  drops_mild : (n i : ℕ) → Mild (drops_from i n)
  drops_mild zero i = record {}
  drops_mild (suc n) i = (refl, visit_not _ Write, drops_mild n (suc i))

  reply_among : (n i p : ℕ) → i ≤ p → p < i + n → In (reply p (c p)) (replies_from c i n)
  reply_among zero i p l h = absurd (omega arith)
  reply_among (suc n) i p l h = by (lt_or_ge i p) (λ m. reply_among n (suc i) p m (omega arith))
    where
      by : (i < p) ⊎ (p ≤ i) → (suc i ≤ p → In (reply p (c p)) (replies_from c (suc i) n))
          → In (reply p (c p)) (replies_from c i (suc n))
      by (inl m) more = inr (more (omega arith))
      by (inr m) more = let e : p ≡ i = omega arith in inl (ap (λ (q : ℕ). reply q (c q)) e)

  drop_among : (n i a : ℕ) → i ≤ a → a < i + n → In (drop a) (drops_from i n)
  drop_among zero i a l h = absurd (omega arith)
  drop_among (suc n) i a l h = by (lt_or_ge i a) (λ m. drop_among n (suc i) a m (omega arith))
    where
      by : (i < a) ⊎ (a ≤ i) → (suc i ≤ a → In (drop a) (drops_from (suc i) n)) → In (drop a) (drops_from i (suc n))
      by (inl m) more = inr (more (omega arith))
      by (inr m) more = let e : a ≡ i = omega arith in inl (ap drop e)

  abbrev all : List Call
  all = replies_from c 0 (P pl) ++ drops_from 0 (A pl)

  all_mild : Mild all
  all_mild = mild_append (replies_from c 0 (P pl)) (drops_from 0 (A pl)) (replies_mild (P pl) 0) (drops_mild (A pl) 0)

  all_asked : (x : Interface) → Has pl x → (d : ℕ) × (d ≤ 1) × In (asks x d) all
  all_asked (active a) h = (
    0,
    omega arith,
    in_right (drop a) (replies_from c 0 (P pl)) (drops_from 0 (A pl))
        (drop_among (A pl) 0 a (omega arith) (omega arith)),
  )
  all_asked (passive p) h = (
    c p,
    few p,
    in_left (reply p (c p)) (replies_from c 0 (P pl)) (drops_from 0 (A pl))
        (reply_among (P pl) 0 p (omega arith) (omega arith)),
  )

  -- ---- one round
  module _ (s : State) (e : s.clock.phase ≡ Read) where
    abbrev first : State
    first = (call pl execute (call pl read s).state).state

    abbrev last : State
    last = ruled_after pl all first

    in_execute : (call pl read s).state.clock.phase ≡ Execute
    unfolding do_read
    in_execute = ap (λ (o : Outcome). o.state.clock.phase) (turn_now pl s Read e)

    in_write : first.clock.phase ≡ Write
    unfolding do_execute
    in_write = ap (λ (o : Outcome). o.state.clock.phase) (turn_now pl (call pl read s).state Execute in_execute)

    last_write : last.clock.phase ≡ Write
    last_write =
        ap (λ (t : State). t.clock.phase) (sym (after_ruled pl all first))
        ∙ write_goes pl all first in_write (mild_none all all_mild)

    all_spent : (x : Interface) → Spent pl x last
    all_spent x d f =
        let k = all_asked x (done_has pl d x last f) in
        subst (Spent pl x) (after_ruled pl all first)
        (asked_among pl x k.0 k.1 all first in_write (mild_none all all_mild) k.2) d f

    -- its calls wait, end one round, and lead to READ
    abbrev Round : List Call → Type 0
    Round cs = Waiting pl cs s × (rounds pl cs s ≡ 1) × ((ruled_after pl cs s).clock.phase ≡ Read)

    abbrev calls : List Call
    calls = read ∷ execute ∷ (all ++ (write ∷ []))

    round_waits : Waiting pl calls s
    round_waits = (
      mild_calm pl read s refl (λ f. read_write (turn_same f)),
      (
        mild_calm pl execute (call pl read s).state refl (λ f. execute_write (turn_same f)),
        waiting_join pl all (write ∷ []) first (mild_waits pl all first all_mild) (
          record { none_added = λ f. absurd (false≢true f); willing = λ f. spent_willing pl last all_spent },
          record {},
        ),
      ),
    )

    round_counts : rounds pl calls s ≡ 1
    round_counts =
        let r = rounds_append pl all (write ∷ []) first in
        let z = mild_rounds pl all first all_mild in
        let w : ends_round write (call pl write last).answer ≡ 1
        = ap (λ (o : Outcome). ends_round write o.answer) (turn_now pl last Write last_write) in
        omega arith

    round_reads : (ruled_after pl calls s).clock.phase ≡ Read
    unfolding do_write
    round_reads =
        ap (λ (t : State). t.clock.phase) (ruled_append pl all (write ∷ []) first)
        ∙ ap (λ (o : Outcome). o.state.clock.phase) (turn_now pl last Write last_write)

    waiting_round_lem : Round (waiting_round pl c)
    waiting_round_lem = subst (λ (l : List Call). Round (read ∷ execute ∷ l))
        (append_assoc (replies_from c 0 (P pl)) (drops_from 0 (A pl)) (write ∷ []))
        (round_waits, round_counts, round_reads)

-- The program waits, for as many rounds as one likes.
rounds_wait : (pl : Plan) (c : ℕ → ℕ → ℕ) → ((n p : ℕ) → c n p ≤ 1) → (n : ℕ) (s : State)
    → s.clock.phase ≡ Read → Waiting pl (waiting_rounds pl c n) s × (rounds pl (waiting_rounds pl c n) s ≡ n)
rounds_wait pl c few zero s e = (record {}, refl)
rounds_wait pl c few (suc n) s e =
    let one = waiting_round_lem pl (c n) (few n) s e in
    let more = rounds_wait pl c few n (ruled_after pl (waiting_round pl (c n)) s) one.2 in
    let all = rounds_append pl (waiting_round pl (c n)) (waiting_rounds pl c n) s in
    let m = one.1 in
    let k = more.1 in
    (waiting_join pl (waiting_round pl (c n)) (waiting_rounds pl c n) s one.0 more.0, omega arith)

pub can_wait : (pl : Plan) → CanWait pl
can_wait pl s e c few n =
    let k = rounds_wait pl c few n s e in
    ((same_at_the_end pl).tells (waiting_rounds pl c n) s k.0, k.1)
