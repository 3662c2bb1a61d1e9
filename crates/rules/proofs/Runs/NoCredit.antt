-- The theorems of specs/Runs/NoCredit.antt, where what they evaluate is told.
use Rattle.std.specs.Prelude.{◌≡◌, refl, [], ◌∷◌}
use Rattle.packets.specs.Answers.{done}
use Rattle.plan.specs.Samples.{roomy_crossing}
use Rattle.plan_queues.specs.Queue.{ahead, F, K}
use Rattle.rules.specs.Runs.Watch.{after, moments}
use Rattle.rules.proofs.Runs.Queues.{heads_in_order}
use Rattle.rules.specs.Runs.Watch.{once}
use Rattle.rules.specs.Runs.NoCredit.{row_of_set_ups, credit_and_last, setup, first, second}

-- set-up F[2] and K[1,2] of router 0, and the queue of router 1 to which K[1,2]'s head goes
pub passed_over : moments roomy_crossing credit_and_last (F ahead 0 2 ∷ K 0 1 2 ∷ K 1 2 0 ∷ []) row_of_set_ups
    -- round 11: the set-up has no credit; K[1,2] goes, and is remembered
    ≡ after done (0 ∷ 0 ∷ []) ((setup ∷ []) ∷ (first ∷ []) ∷ [] ∷ [])
    ∷ after done (0 ∷ 3 ∷ []) ((setup ∷ []) ∷ [] ∷ [] ∷ [])
    -- round 13: it is the set-up's turn, which has no credit still; K[1,2] goes again
    ∷ after done (0 ∷ 3 ∷ []) ((setup ∷ []) ∷ (second ∷ []) ∷ [] ∷ [])
    ∷ after done (0 ∷ 3 ∷ []) ((setup ∷ []) ∷ [] ∷ [] ∷ [])
    ∷ after done (0 ∷ 3 ∷ []) ((setup ∷ []) ∷ [] ∷ (second ∷ []) ∷ [])
    ∷ []
unfolding moments
passed_over = once heads_in_order refl
