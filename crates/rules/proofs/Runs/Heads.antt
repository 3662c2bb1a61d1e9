-- The theorems of specs/Runs/Heads.antt, where what they evaluate is told.
use Rattle.std.specs.Prelude.{◌≡◌, refl, [], ◌∷◌}
use Rattle.plan_queues.specs.Queue.{Q}
use Rattle.rules.specs.Runs.Watch.{after}
use Rattle.rules.specs.Runs.Watch.{moments}
use Rattle.plan.specs.Samples.{narrow_there}
use Rattle.packets.specs.Answers.{done}
use Rattle.rules.proofs.Runs.Order.{unit_first_then_sides}
use Rattle.rules.specs.Runs.Watch.{once}
use Rattle.rules.specs.Runs.Heads.{heads_in_turn, watched, waiting, tdown, next_setup, next_booked}

pub one_head_a_round : moments narrow_there watched (Q 0 1 ∷ []) heads_in_turn
    ≡ after done (1 ∷ 4 ∷ 3 ∷ 0 ∷ []) ([] ∷ [])
    ∷ after done (1 ∷ 4 ∷ 1 ∷ 1 ∷ []) ([] ∷ [])
    -- round 11: the handled head waits, and nothing behind it is handled
    ∷ after done (1 ∷ 4 ∷ 0 ∷ 0 ∷ []) ((waiting ∷ tdown ∷ next_setup ∷ []) ∷ [])
    -- round 13: it has left
    ∷ after done (1 ∷ 4 ∷ 0 ∷ 1 ∷ []) ((tdown ∷ next_setup ∷ []) ∷ [])
    -- round 14: the TDOWN frees slot 15 and ends, the flag of Q[1] rises; the next head is not handled in this round
    ∷ after done (1 ∷ 4 ∷ 1 ∷ 0 ∷ []) ((tdown ∷ next_setup ∷ []) ∷ [])
    ∷ after done (4 ∷ 4 ∷ 1 ∷ 1 ∷ []) ((next_setup ∷ []) ∷ [])
    ∷ after done (4 ∷ 4 ∷ 1 ∷ 1 ∷ []) ((next_setup ∷ []) ∷ [])
    -- round 15: the credit is back, and it is handled
    ∷ after done (4 ∷ 4 ∷ 2 ∷ 0 ∷ []) ((next_setup ∷ []) ∷ [])
    ∷ after done (4 ∷ 1 ∷ 2 ∷ 0 ∷ []) ((next_booked ∷ []) ∷ [])
    ∷ []
unfolding moments
one_head_a_round = once unit_first_then_sides refl
