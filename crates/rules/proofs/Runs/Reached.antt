-- The theorems of specs/Runs/Reached.antt, where what they evaluate is told.
use Rattle.std.specs.Prelude.{◌≡◌, refl, Bool, true, not, List, [], ◌∷◌, ℕ, eqb}
use Rattle.std.proofs.Common.{sym, ap, ◌∙◌, true≢false, eq-eqb}
use Rattle.basis.specs.Choice.{pick, also_true}
use Rattle.packets.specs.declared.Phase.TheVariants.{Execute}
use Rattle.plan.specs.Plan.{Plan, plan_of}
use Rattle.plan.specs.Samples.{line_of_three, drives_around, narrow_side}
use Rattle.plan_queues.specs.Feeds.{Output, of_side, to_unit, from_unit}
use Rattle.rules.specs.State.{State, start}
use Rattle.rules.specs.Calls.{Outcome, Call, execute, write, call}
use Rattle.rules.specs.Progress.{turns_call}
use Rattle.rules.specs.TurnAbout.{waits, Stays, others, StaysAlong}
use Rattle.rules.specs.Runs.Watch.{many_rounds, moments}
use Rattle.rules.specs.Runs.BothEnds.{five_senders}
use Rattle.rules.proofs.Runs.Spoilt.{stored_choice_goes_though_booked}
use Rattle.rules.specs.Runs.Watch.{once}
use Rattle.rules.specs.Runs.Reached.{stays_by, stays_test, reached, GoFirst, up_to_first, four_arrive, now_and_then}

stays_here : (pl : Plan) (o : Output) (j : ℕ) (s : State) → stays_by pl o j s (s.links.choice o) ≡ true
    → Stays pl o j s
stays_here pl o j s t =
    record {
      stays = λ k e.
          let both = also_true {a = waits pl o j s} {b = not (eqb k j)} (sym (ap (stays_by pl o j s) e) ∙ t) in
          (both.0, λ q. true≢false (sym both.1 ∙ ap not (eq-eqb k j q)));
    }

pub stays_along : (pl : Plan) (o : Output) (j : ℕ) (cs : List Call) (s : State) → stays_test pl o j cs s ≡ true
    → StaysAlong pl o j cs s
stays_along pl o j [] s t = record {}
stays_along pl o j (c ∷ cs) s t =
    let r : Outcome = call pl c s in
    let here : Bool = stays_by pl o j r.state (r.state.links.choice o) in
    let n : ℕ = turns_call Execute c r.answer in
    let both = also_true {a = pick (eqb n 1) here true} {b = stays_test pl o j cs r.state} t in (
      λ e. stays_here pl o j r.state (ap (λ (x : Bool). pick x here true) (sym (eq-eqb n 1 e)) ∙ both.0),
      stays_along pl o j cs r.state both.1,
    )

go_first : (b : List ℕ) (before : List Call) (o : Output) (j : ℕ) (cs : List Call) (n : ℕ)
    → stays_test (plan_of b) o j cs (reached b before) ≡ true → others (plan_of b) o j cs (reached b before) ≡ n
    → GoFirst b before o j cs n
go_first b before o j cs n t e =
    record { stays = stays_along (plan_of b) o j cs (reached b before) t; count = e }

pub three_go_first : GoFirst line_of_three four_arrive (to_unit 0) 3 (execute ∷ write ∷ many_rounds 2) 3
unfolding moments
three_go_first =
    once stored_choice_goes_though_booked
    (go_first line_of_three four_arrive (to_unit 0) 3 (execute ∷ write ∷ many_rounds 2) 3 refl refl)

-- ---- at a side four: `BothEnds.fifth_sees_four`, rounds 13 to 16. K[2,3] sees set-up F[3], answer F[3], K[0,3] and
-- K[1,3] go
pub four_go_first : GoFirst drives_around (up_to_first five_senders) (of_side 0 3) 4 (execute ∷ write ∷ many_rounds 3) 4
unfolding moments
four_go_first =
    once three_go_first
    (go_first drives_around (up_to_first five_senders) (of_side 0 3) 4 (execute ∷ write ∷ many_rounds 3) 4 refl refl)

pub passed_more_often : others (plan_of narrow_side) (from_unit 0) 3 now_and_then (start (plan_of narrow_side)) ≡ 4
unfolding moments
passed_more_often = once four_go_first refl
