-- The theorems of specs/Runs/Crossing.antt, where what they evaluate is told.
use Rattle.std.specs.Prelude.{◌≡◌, refl, [], ◌∷◌}
use Rattle.packets.specs.declared.Kind.TheVariants.{Setup, Ack}
use Rattle.plan_queues.specs.Queue.{Q, active_in}
use Rattle.rules.specs.Runs.Watch.{packet, after, moments}
use Rattle.packets.specs.Answers.{done}
use Rattle.plan.specs.Samples.{crossing}
use Rattle.rules.proofs.Runs.Declined.{second_declines_lem}
use Rattle.rules.specs.Runs.Watch.{once}
use Rattle.rules.specs.Runs.Crossing.{both_ways, booked, none}

pub crosses_both_ways :
    moments crossing booked (Q 0 0 ∷ Q 1 2 ∷ Q 1 0 ∷ Q 0 2 ∷ active_in 0 ∷ active_in 1 ∷ []) both_ways
    ≡ after done (0 ∷ 4 ∷ 0 ∷ 4 ∷ [])
    ((packet Setup 0 1 1 1 ∷ []) ∷ none ∷ (packet Setup 1 0 1 1 ∷ []) ∷ none ∷ none ∷ none ∷ [])
    ∷ after done (0 ∷ 2 ∷ 0 ∷ 2 ∷ [])
    (none ∷ (packet Setup 0 1 2 2 ∷ []) ∷ none ∷ (packet Setup 1 0 2 2 ∷ []) ∷ none ∷ none ∷ [])
    ∷ after done (0 ∷ 2 ∷ 0 ∷ 2 ∷ []) (none ∷ none ∷ none ∷ none ∷ none ∷ none ∷ [])
    ∷ after done (0 ∷ 2 ∷ 0 ∷ 2 ∷ [])
    (none ∷ none ∷ none ∷ none ∷ (packet Ack 0 1 2 2 ∷ []) ∷ (packet Ack 1 0 2 2 ∷ []) ∷ [])
    ∷ after done (0 ∷ 2 ∷ 0 ∷ 2 ∷ []) (none ∷ none ∷ none ∷ none ∷ none ∷ none ∷ [])
    ∷ []
unfolding moments
crosses_both_ways = once second_declines_lem refl
