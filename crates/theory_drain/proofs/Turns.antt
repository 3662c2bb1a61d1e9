-- Which calls turn the phase: an accepted Write ends a round, and only an accepted Execute leads into WRITE.
use mathlib.Core.Path.{◌≡◌, refl, ap}
use mathlib.Core.Logic.{◌⊎◌, inl, inr, ◌≢◌}
use Rattle.packets.specs.declared.Phase.TheVariants.{Read, Execute, Write}
use Rattle.packets.specs.declared.Answer.TheVariants.{Done}
use Rattle.plan.specs.Plan.{Plan}
use Rattle.rules.specs.State.{State, join}
use Rattle.rules.specs.Read.{do_read}
use Rattle.rules.specs.Execute.{do_execute}
use Rattle.rules.specs.Write.{do_write}
use Rattle.rules.specs.Visits.{launched, closed}
use Rattle.rules.specs.Calls.{Visit, Call, execute, write, Outcome, call}
use Rattle.rules.specs.Progress.{ends_round}
use Rattle.rules.proofs.Apart.{execute_write}
use Rattle.theory.specs.Does.{Visited, launches, replies, looks, drops, closes, tells, counts, Does, refuses, turns}
use Rattle.theory.specs.Does.{visits}
use Rattle.theory.proofs.Does.{call_does, refused_turns, done_accepted}

module _ (pl : Plan) (s : State) where
  -- ---- an accepted Write, made in WRITE: READ begins
  abbrev pub Ends : Call → Outcome → Type 0
  Ends c o = (ends_round c o.answer ≡ 1) × (c ≡ write) × (s.clock.phase ≡ Write) × (o.state.clock.phase ≡ Read)

  does_end : (c : Call) (o : Outcome) → Does pl s c o → Ends c o ⊎ (ends_round c o.answer ≡ 0)
  unfolding do_write
  does_end c o (refuses d w n) = inr (refused_turns Write d w)
  does_end c o (turns Read e) = inr refl
  does_end c o (turns Execute e) = inr refl
  does_end c o (turns Write e) = inl (refl, refl, e, refl)
  does_end c o (visits v r d) = inr refl

  -- Any other call ends no round.
  pub ends_or : (c : Call) → Ends c (call pl c s) ⊎ (ends_round c (call pl c s).answer ≡ 0)
  ends_or c = does_end c (call pl c s) (call_does pl s c)

  -- ---- into WRITE
  pub execute_opens : (call pl execute s).answer ≡ Done → (call pl execute s).state.clock.phase ≡ Write
  unfolding do_execute
  execute_opens f = ap (λ (o : Outcome). o.state.clock.phase) (done_accepted pl s execute f).1

  does_open : (c : Call) (o : Outcome) → Does pl s c o → s.clock.phase ≢ Write
      → ((c ≡ execute) × (o.answer ≡ Done)) ⊎ (o.state.clock.phase ≢ Write)
  unfolding do_read launched closed join
  does_open c o (refuses d w n) out = inr out
  does_open c o (turns Read e) out = inr execute_write
  does_open c o (turns Execute e) out = inl (refl, refl)
  does_open c o (turns Write e) out = absurd (out e)
  does_open c o (visits v r d) out = inr (by v r d)
    where
      by : (v : Visit) (r : Outcome) → Visited pl s v r → r.state.clock.phase ≢ Write
      by v r (launches a p t m) = out
      by v r (replies p c x rest m) = absurd (out m.phase)
      by v r (looks a x rest m) = out
      by v r (drops a x rest m) = absurd (out m.phase)
      by v r (closes a p t m) = out
      by v r (tells i q t m) = out
      by v r counts = out

  pub opens_or : (c : Call) → s.clock.phase ≢ Write
      → ((c ≡ execute) × ((call pl c s).answer ≡ Done)) ⊎ ((call pl c s).state.clock.phase ≢ Write)
  opens_or c = does_open c (call pl c s) (call_does pl s c)
