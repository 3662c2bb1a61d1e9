-- What refusal 7 asks of one choice: a choice only in WRITE, of a candidate, and of a queue whose flag is down.
use mathlib.Core.Path.{◌≡◌, refl}
use mathlib.Core.Logic.{◌⊎◌, inl, inr}
use mathlib.Core.Bool.{true, false, ◌||◌, false≢true}
use Rattle.basis.specs.Choice.{also_true, also_of}
use Rattle.basis.specs.Bounded.{or_cases, or_right}
use Rattle.packets.specs.declared.Phase.TheVariants.{Write}
use Rattle.plan.specs.Plan.{Plan}
use Rattle.plan_queues.specs.Feeds.{Output}
use Rattle.rules.specs.Outputs.{senders}
use Rattle.rules.specs.State.{State, Choice, nobody, sender}
use Rattle.rules.specs.Write.{of_rank}
use Rattle.rules.specs.Calls.{is_phase}
use Rattle.valid.specs.Test.{may_test, choice_test, down_test, picked_test}
use Rattle.check_rule.specs.Parts.{is_nobody, pick_test_of}

module _ (pl : Plan) (s : State) (o : Output) where
  pub choice_gathers : (c : Choice) → choice_test pl s o c ≡ true → picked_test s o c ≡ true
      → ((is_phase s.clock.phase Write || is_nobody c) ≡ true) × (pick_test_of pl s o c ≡ true)
  choice_gathers nobody e f = (or_right (is_phase s.clock.phase Write), refl)
  choice_gathers (sender k) e f =
      let p = also_true {a = is_phase s.clock.phase Write} {b = may_test pl s o (of_rank (senders o) k)} e in
      (rw p.0, also_of p.1 f)

  pub choice_scatters : (c : Choice) → (is_phase s.clock.phase Write || is_nobody c) ≡ true
      → pick_test_of pl s o c ≡ true → (choice_test pl s o c ≡ true) × (picked_test s o c ≡ true)
  choice_scatters nobody e f = (refl, refl)
  choice_scatters (sender k) e f =
      let p = also_true {a = may_test pl s o (of_rank (senders o) k)} {b = down_test s (of_rank (senders o) k)} f in
      (also_of (by (or_cases (is_phase s.clock.phase Write) false e)) p.0, p.1)
    where
      by : (is_phase s.clock.phase Write ≡ true) ⊎ (false ≡ true) → is_phase s.clock.phase Write ≡ true
      by (inl t) = t
      by (inr t) = absurd (false≢true t)
