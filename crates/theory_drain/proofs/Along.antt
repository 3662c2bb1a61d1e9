-- Along calls in WRITE of which none is a Write: an interface makes an accepted call of its own, and can no more then,
-- or what it can stays as it was.
use mathlib.Core.Path.{◌≡◌, refl, sym, ap, subst, ◌∙◌}
use mathlib.Core.Logic.{◌⊎◌, inl, inr, ◌≢◌}
use mathlib.Core.List.{List, [], ◌∷◌, ◌++◌}
use Prim.Native.Nat.{ℕ, ◌≤◌}
use Rattle.basis.specs.Among.{In}
use Rattle.packets.specs.declared.Phase.TheVariants.{Read, Execute, Write}
use Rattle.packets.specs.declared.Answer.TheVariants.{Done}
use Rattle.plan.specs.Plan.{Plan, Interface}
use Rattle.rules.specs.State.{State}
use Rattle.rules.specs.Calls.{Call, turn, visit, write, call, Outcome}
use Rattle.rules.proofs.Apart.{read_write, execute_write, turn_same, visit_not}
use Rattle.theory.proofs.Progress.Undisturbed.{turn_now}
use Rattle.theory_drain.specs.Waits.{of_rules, after, Made, Could}
use Rattle.theory_drain.proofs.Views.{made_later}
use Rattle.theory_drain.proofs.Write.{asks, Spent, stays_write, own_or_left, done_spent, asked_spent, spent_next}

-- ---- none is a Write
abbrev pub NoWrite : List Call → Type 0
NoWrite [] = record {}
NoWrite (c ∷ cs) = (c ≢ write) × NoWrite cs

pub write_or : (c : Call) → (c ≡ write) ⊎ (c ≢ write)
write_or (turn Read) = inr (λ e. read_write (turn_same e))
write_or (turn Execute) = inr (λ e. execute_write (turn_same e))
write_or (turn Write) = inl refl
write_or (visit v) = inr (visit_not v Write)

pub no_write_append : (cs ds : List Call) → NoWrite cs → NoWrite ds → NoWrite (cs ++ ds)
no_write_append [] ds m n = n
no_write_append (c ∷ cs) ds (k, m) n = (k, no_write_append cs ds m n)

no_write_there : (cs ds : List Call) → NoWrite (cs ++ (write ∷ ds)) → ⊥
no_write_there [] ds (k, n) = k refl
no_write_there (c ∷ cs) ds (k, n) = no_write_there cs ds n

module _ (pl : Plan) where
  -- Then no Write is accepted,
  pub none_made : (cs : List Call) (s : State) → NoWrite cs → Made (of_rules pl) write cs s → ⊥
  none_made cs s n m = no_write_there m.before m.behind (subst NoWrite m.split n)

  -- and in WRITE the other way round.
  pub none_written : (cs : List Call) (s : State) → s.clock.phase ≡ Write → (Made (of_rules pl) write cs s → ⊥)
      → NoWrite cs
  none_written [] s now n = record {}
  none_written (c ∷ cs) s now n =
      by (write_or c) (λ f m. none_written cs (call pl c s).state f m)
    where
      by : (c ≡ write) ⊎ (c ≢ write)
          → ((call pl c s).state.clock.phase ≡ Write
          → (Made (of_rules pl) write cs (call pl c s).state → ⊥) → NoWrite cs) → (c ≢ write) × NoWrite cs
      by (inl e) more =
          absurd (n (record {
            before = [];
            behind = cs;
            split = ap (λ (d : Call). d ∷ cs) e;
            done = ap (λ (o : Outcome). o.answer) (turn_now pl s Write now);
          }))
      by (inr k) more =
          (k, more (stays_write pl s now c k) (λ m. n (made_later (of_rules pl) write c cs s m)))

  -- WRITE goes on.
  pub write_goes : (cs : List Call) (s : State) → s.clock.phase ≡ Write → NoWrite cs
      → (after (of_rules pl) cs s).clock.phase ≡ Write
  write_goes [] s now n = now
  write_goes (c ∷ cs) s now (k, n) = write_goes cs (call pl c s).state (stays_write pl s now c k) n

  module _ (x : Interface) where
    -- ---- who can no more
    pub spent_along : (cs : List Call) (s : State) → s.clock.phase ≡ Write → NoWrite cs → Spent pl x s
        → Spent pl x (after (of_rules pl) cs s)
    spent_along [] s now n k = k
    spent_along (c ∷ cs) s now (m, n) k =
        spent_along cs (call pl c s).state (stays_write pl s now c m) n (spent_next pl s now x c m k)

    spent_from : (d : ℕ) (cs ds : List Call) (s : State) → s.clock.phase ≡ Write → NoWrite (cs ++ (asks x d ∷ ds))
        → (call pl (asks x d) (after (of_rules pl) cs s)).answer ≡ Done
        → Spent pl x (after (of_rules pl) (cs ++ (asks x d ∷ ds)) s)
    spent_from d [] ds s now (m, n) e =
        spent_along ds (call pl (asks x d) s).state (stays_write pl s now (asks x d) m) n
        (done_spent pl s now x d e)
    spent_from d (c ∷ cs) ds s now (m, n) e =
        spent_from d cs ds (call pl c s).state (stays_write pl s now c m) n e

    -- An interface with an accepted call can no more at the end.
    pub made_spent : (d : ℕ) (cs : List Call) (s : State) → s.clock.phase ≡ Write → NoWrite cs
        → Made (of_rules pl) (asks x d) cs s → Spent pl x (after (of_rules pl) cs s)
    made_spent d cs s now n m =
        subst (λ (l : List Call). Spent pl x (after (of_rules pl) l s)) (sym m.split)
        (spent_from d m.before m.behind s now (subst NoWrite m.split n) m.done)

    -- One with any call of its own, whatever the answers.
    pub asked_among : (d : ℕ) → d ≤ 1 → (cs : List Call) (s : State) → s.clock.phase ≡ Write → NoWrite cs
        → In (asks x d) cs → Spent pl x (after (of_rules pl) cs s)
    asked_among d l [] s now n i = absurd i
    asked_among d l (c ∷ cs) s now (m, n) (inl e) =
        spent_along cs (call pl c s).state (stays_write pl s now c m) n
        (subst (λ (k : Call). Spent pl x (call pl k s).state) e (asked_spent pl s now x d l))
    asked_among d l (c ∷ cs) s now (m, n) (inr i) =
        asked_among d l cs (call pl c s).state (stays_write pl s now c m) n i

    -- ---- who still can
    abbrev Own : List Call → State → Type 0
    Own cs s = (d : ℕ) × Made (of_rules pl) (asks x d) cs s

    own_later : (c : Call) (cs : List Call) (s : State) → Own cs (call pl c s).state → Own (c ∷ cs) s
    own_later c cs s (d, m) = (d, made_later (of_rules pl) (asks x d) c cs s m)

    own_or_stays : (cs : List Call) (s : State) → s.clock.phase ≡ Write → NoWrite cs
        → Own cs s
        ⊎ ((e : ℕ) → (call pl (asks x e) (after (of_rules pl) cs s)).answer ≡ (call pl (asks x e) s).answer)
    own_or_stays [] s now n = inr (λ e. refl)
    own_or_stays (c ∷ cs) s now (m, n) =
        by (own_or_left pl s now x c m) (own_or_stays cs (call pl c s).state (stays_write pl s now c m) n)
      where
        by : ((d : ℕ) × (c ≡ asks x d) × ((call pl c s).answer ≡ Done))
            ⊎ ((e : ℕ) → (call pl (asks x e) (call pl c s).state).answer ≡ (call pl (asks x e) s).answer)
            → Own cs (call pl c s).state
            ⊎ ((e : ℕ) → (call pl (asks x e) (after (of_rules pl) (c ∷ cs) s)).answer
            ≡ (call pl (asks x e) (call pl c s).state).answer)
            → Own (c ∷ cs) s
            ⊎ ((e : ℕ) → (call pl (asks x e) (after (of_rules pl) (c ∷ cs) s)).answer ≡ (call pl (asks x e) s).answer)
        by (inl (d, e, f)) more = inl (
          d,
          record {
            before = [];
            behind = cs;
            split = ap (λ (k : Call). k ∷ cs) e;
            done = ap (λ (k : Call). (call pl k s).answer) (sym e) ∙ f;
          },
        )
        by (inr h) (inl o) = inl (own_later c cs s o)
        by (inr h) (inr g) = inr (λ e. g e ∙ h e)

    own_from : (e : ℕ) (cs ds : List Call) (s : State) → s.clock.phase ≡ Write → NoWrite (cs ++ ds)
        → (call pl (asks x e) (after (of_rules pl) cs s)).answer ≡ Done
        → Spent pl x (after (of_rules pl) (cs ++ ds) s) → Own (cs ++ ds) s
    own_from e [] ds s now n can k = by (own_or_stays ds s now n)
      where
        by : Own ds s ⊎ ((e : ℕ) → (call pl (asks x e) (after (of_rules pl) ds s)).answer ≡
            (call pl (asks x e) s).answer)
            → Own ds s
        by (inl o) = o
        by (inr h) = absurd (k e (h e ∙ can))
    own_from e (c ∷ cs) ds s now (m, n) can k =
        own_later c (cs ++ ds) s (own_from e cs ds (call pl c s).state (stays_write pl s now c m) n can k)

    -- One that could and can no more at the end had an accepted call.
    pub could_made : (e : ℕ) (cs : List Call) (s : State) → s.clock.phase ≡ Write → NoWrite cs
        → Could (of_rules pl) (asks x e) cs s → Spent pl x (after (of_rules pl) cs s) → Own cs s
    could_made e cs s now n c k =
        subst (λ (l : List Call). Own l s) (sym c.split)
        (own_from e c.before c.behind s now (subst NoWrite c.split n) c.can
        (subst (λ (l : List Call). Spent pl x (after (of_rules pl) l s)) c.split k))
