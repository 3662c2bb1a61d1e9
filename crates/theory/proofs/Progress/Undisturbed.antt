-- What calls do to a state in which nothing moves, by the phase: refused ones nothing, the others only what Still
-- allows.
use mathlib.Core.Path.{◌≡◌, refl, sym, ap, ◌∙◌}
use mathlib.Core.Logic.{◌≢◌}
use mathlib.Core.Bool.{true, false, true≢false}
use Rattle.basis.specs.Choice.{refuted}
use Rattle.kinds.specs.declared.Refusal.TheVariants.{WrongPhase}
use Rattle.packets.specs.declared.Packet.{Packet}
use Rattle.packets.specs.declared.Phase.{Phase}
use Rattle.packets.specs.declared.Phase.TheVariants.{Execute, Write}
use Rattle.packets.specs.declared.Answer.TheVariants.{Refused, Done}
use Rattle.plan.specs.Plan.{Plan}
use Rattle.rules.specs.State.{State, join}
use Rattle.rules.specs.Visits.{launched, reply_kind, removed, noted, closed}
use Rattle.rules.specs.Calls.{Visit, Call, turn, visit, execute, Outcome, gives, is_phase, phase_step, call}
use Rattle.theory.specs.Does.{Visited, launches, replies, looks, drops, closes, tells, counts, Does, refuses}
use Rattle.theory.specs.Does.{turns, visits}
use Rattle.rules.specs.Progress.{is_timed, ends_round}
use Rattle.rules.proofs.Apart.{phase_of, phase_is, read_execute, execute_write}
use Rattle.theory.proofs.Does.{call_does, refused_turns}
use Rattle.theory.proofs.Progress.Still.{Same, launch_same, reply_same, remove_same, connection_same, close_same}
use Rattle.theory.proofs.Cases.{noted_keeps}

-- ---- the three timed calls, in their phase and outside it
module _ (pl : Plan) (s : State) (x : Phase) where
  pub turn_now : s.clock.phase ≡ x → call pl (turn x) s ≡ gives Done (phase_step pl x s)
  unfolding call
  turn_now e = rw (phase_is s.clock.phase x e)

  pub turn_not : s.clock.phase ≢ x → call pl (turn x) s ≡ gives (Refused WrongPhase) s
  unfolding call
  turn_not ne = rw (refuted (is_phase s.clock.phase x) (λ t. ne (phase_of s.clock.phase x (rw t))))

-- ---- the other calls
pub record Undisturbed (pl : Plan) (p s t : State) : Type 0 where
  pub same : Same pl p t
  pub slot : t.clock.slot ≡ s.clock.slot
  pub phase : t.clock.phase ≡ s.clock.phase
  pub choice : t.links.choice ≡ s.links.choice

module _ (pl : Plan) (p s : State) (k : Same pl p s) where
  pub still : Undisturbed pl p s s
  still = record { same = k; slot = refl; phase = refl; choice = refl }

  -- what a dropped packet notes disturbs nothing
  noted_undisturbed : (x : Packet) (t : State) → Undisturbed pl p s t → Undisturbed pl p s (noted pl x t)
  noted_undisturbed x t u =
      noted_keeps pl x t (Undisturbed pl p s)
      (λ e. record {
        same = connection_same pl p t x.active x.passive _ true u.same;
        slot = u.slot;
        phase = u.phase;
        choice = u.choice;
      }) u

  visits_undisturbed : (v : Visit) (o : Outcome) → Visited pl s v o → Undisturbed pl p s o.state
  unfolding launched join removed closed
  visits_undisturbed v o (launches a q t m) =
      record { same = launch_same pl p s a q t k; slot = refl; phase = refl; choice = refl }
  visits_undisturbed v o (replies q c x rest m) =
      record { same = reply_same pl p s q (reply_kind c) x rest k; slot = refl; phase = refl; choice = refl }
  visits_undisturbed v o (looks a x rest m) = still
  visits_undisturbed v o (drops a x rest m) =
      noted_undisturbed x (removed a rest s)
      (record { same = remove_same pl p s a rest k; slot = refl; phase = refl; choice = refl })
  visits_undisturbed v o (closes a q t m) =
      record { same = close_same pl p s a q t k; slot = refl; phase = refl; choice = refl }
  visits_undisturbed v o (tells r i t m) = still
  visits_undisturbed v o counts = still

  untimed : (c : Call) (o : Outcome) → Does pl s c o → is_timed c ≡ false → Undisturbed pl p s o.state
  untimed c o (refuses d w n) f = still
  untimed c o (turns x e) f = absurd (true≢false f)
  untimed c o (visits v r d) f = visits_undisturbed v r d

  pub visit_undisturbed : (v : Visit) → Undisturbed pl p s (call pl (visit v) s).state
  visit_undisturbed v = untimed (visit v) (call pl (visit v) s) (call_does pl s (visit v)) refl

-- in EXECUTE all but Execute leave the state
module _ (pl : Plan) (s : State) (e : s.clock.phase ≡ Execute) where
  only : (c : Call) (o : Outcome) → Does pl s c o → c ≢ execute → (o.state ≡ s) × (ends_round c o.answer ≡ 0)
  only c o (refuses d w n) ne = (refl, refused_turns Write d w)
  only c o (turns x f) ne = absurd (ne (ap turn (sym f ∙ e)))
  only c o (visits v r d) ne = by v r d
    where
      by : (v : Visit) (r : Outcome) → Visited pl s v r → (r.state ≡ s) × (ends_round (visit v) r.answer ≡ 0)
      by v r (launches a q t m) = absurd (read_execute (sym m.phase ∙ e))
      by v r (replies q c x rest m) = absurd (execute_write (sym e ∙ m.phase))
      by v r (looks a x rest m) = (refl, refl)
      by v r (drops a x rest m) = absurd (execute_write (sym e ∙ m.phase))
      by v r (closes a q t m) = absurd (read_execute (sym m.phase ∙ e))
      by v r (tells i q t m) = (refl, refl)
      by v r counts = (refl, refl)

  pub only_execute : (c : Call) → c ≢ execute → ((call pl c s).state ≡ s) × (ends_round c (call pl c s).answer ≡ 0)
  only_execute c = only c (call pl c s) (call_does pl s c)
