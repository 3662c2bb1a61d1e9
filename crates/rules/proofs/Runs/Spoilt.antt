-- The theorems of specs/Runs/Spoilt.antt, where what they evaluate is told.
use Rattle.std.specs.Prelude.{◌≡◌, refl, [], ◌∷◌}
use Rattle.packets.specs.declared.Kind.TheVariants.{Tdown}
use Rattle.packets.specs.Answers.{done}
use Rattle.plan.specs.Plan.{plan_of}
use Rattle.plan.specs.Samples.{plan_t, narrow_back}
use Rattle.plan_queues.specs.Queue.{back, Q, F, K}
use Rattle.rules.specs.Calls.{read, execute, write}
use Rattle.rules.specs.Runs.Watch.{packet, after, watching, moments}
use Rattle.rules.specs.Runs.FirstBookings.{side1}
use Rattle.rules.specs.Runs.Turns.{last_at_side, nack, first}
use Rattle.rules.proofs.Runs.NoCredit.{passed_over}
use Rattle.rules.specs.Runs.Watch.{once}
use Rattle.rules.specs.Runs.Spoilt.{anothers_entry, other_stored, write_and_one_more, booked_behind}

pub another_side_freed : watching (plan_of plan_t) side1 (Q 0 0 ∷ []) ((read ∷ []) ∷ (execute ∷ []) ∷ [])
    (anothers_entry (plan_of plan_t))
    ≡ after done (2 ∷ 4 ∷ []) ((packet Tdown 0 0 0 1 ∷ []) ∷ [])
    ∷ after done (4 ∷ 4 ∷ []) ([] ∷ [])
    ∷ []
unfolding moments
another_side_freed = once passed_over refl

pub stored_choice_goes : watching (plan_of narrow_back) (last_at_side 1) (F back 0 1 ∷ K 0 0 1 ∷ []) write_and_one_more
    (other_stored (plan_of narrow_back))
    -- answer F[1] goes, and is remembered
    ≡ after done (1 ∷ []) ([] ∷ (first ∷ []) ∷ [])
    -- round 7: both wait again, and it is K[0,1]'s turn
    ∷ after done (1 ∷ []) ((nack ∷ []) ∷ (first ∷ []) ∷ [])
    ∷ after done (2 ∷ []) ((nack ∷ []) ∷ [] ∷ [])
    ∷ []
unfolding moments
stored_choice_goes = once another_side_freed refl

pub stored_choice_goes_though_booked :
    watching (plan_of narrow_back) (last_at_side 1) (F back 0 1 ∷ K 0 0 1 ∷ []) ((write ∷ []) ∷ [])
    (booked_behind (plan_of narrow_back))
    ≡ after done (2 ∷ []) ((nack ∷ []) ∷ [] ∷ [])
    ∷ []
unfolding moments
stored_choice_goes_though_booked = once stored_choice_goes refl
