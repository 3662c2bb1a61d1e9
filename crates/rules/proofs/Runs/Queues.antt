-- The theorems of specs/Runs/Queues.antt, where what they evaluate is told.
use Rattle.std.specs.Prelude.{◌≡◌, refl, [], ◌∷◌}
use Rattle.packets.specs.declared.Kind.TheVariants.{Setup, Ack, Nack}
use Rattle.packets.specs.Answers.{done}
use Rattle.plan.specs.Samples.{narrow_back}
use Rattle.plan_queues.specs.Queue.{active_in, passive_in, passive_out}
use Rattle.rules.specs.Runs.Watch.{after, moments}
use Rattle.rules.proofs.Runs.Waited.{declined_out_lem}
use Rattle.rules.specs.Runs.Watch.{once}
use Rattle.rules.specs.Runs.Queues.{three_answers, of}

-- the passive's in-queue and out-queue, and the active's in-queue
pub heads_in_order : moments narrow_back (λ s. []) (passive_in 0 ∷ passive_out 0 ∷ active_in 0 ∷ []) three_answers
    ≡ after done [] ((of Setup 9 1 ∷ of Setup 10 1 ∷ of Setup 11 1 ∷ []) ∷ [] ∷ [] ∷ [])
    -- the first is answered
    ∷ after done [] ((of Setup 10 1 ∷ of Setup 11 1 ∷ []) ∷ (of Ack 9 1 ∷ []) ∷ [] ∷ [])
    ∷ after done [] ([] ∷ [] ∷ (of Ack 9 1 ∷ of Nack 10 1 ∷ of Nack 11 1 ∷ []) ∷ [])
    -- the ACK is dropped, and an unmarked NACK is the head
    ∷ after done [] ([] ∷ [] ∷ (of Nack 10 1 ∷ of Nack 11 1 ∷ []) ∷ [])
    ∷ after done [] ([] ∷ [] ∷ (of Nack 10 1 ∷ of Nack 11 1 ∷ []) ∷ [])
    -- marked, it stays where it is
    ∷ after done [] ([] ∷ [] ∷ (of Nack 10 0 ∷ of Nack 11 1 ∷ []) ∷ [])
    ∷ []
unfolding moments
heads_in_order = once declined_out_lem refl
