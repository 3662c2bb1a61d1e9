-- The theorems of specs/Runs/Order.antt, where what they evaluate is told.
use Rattle.std.specs.Prelude.{◌≡◌, refl, [], ◌∷◌}
use Rattle.packets.specs.declared.Kind.TheVariants.{Setup, Nack}
use Rattle.plan_queues.specs.Queue.{back, active_in, U, Q, F, K}
use Rattle.rules.specs.Runs.Watch.{packet, after, moments}
use Rattle.plan.specs.Samples.{narrow_there, narrow_back}
use Rattle.packets.specs.Answers.{done}
use Rattle.rules.proofs.Runs.Spent.{allowance_spent_lem}
use Rattle.rules.specs.Runs.Watch.{once}
use Rattle.rules.specs.Runs.Order.{three_launch, slot5, free, booked_side, seen, of, three_answers, nothing, waiting}
use Rattle.rules.specs.Runs.Order.{nack, ack0, ack1}

pub lower_side_first : moments narrow_there slot5 (U 0 1 ∷ U 0 2 ∷ U 0 3 ∷ Q 0 1 ∷ Q 0 2 ∷ Q 0 3 ∷ []) three_launch
    -- round 1: all wait; U[1] goes first
    ≡ after done free (seen (of 0) (of 1) (of 2) ([] ∷ [] ∷ [] ∷ []))
    ∷ after done free (seen [] (of 1) (of 2) ([] ∷ [] ∷ [] ∷ []))
    -- round 2: active 0 gets the entry; U[2] goes
    ∷ after done booked_side (seen [] (of 1) (of 2) ((packet Setup 0 0 6 1 ∷ []) ∷ [] ∷ [] ∷ []))
    ∷ after done booked_side (seen [] [] (of 2) ([] ∷ [] ∷ [] ∷ []))
    -- round 3: active 1 comes too late; U[3] goes
    ∷ after done booked_side (seen [] [] (of 2) ([] ∷ (packet Nack 1 0 5 0 ∷ []) ∷ [] ∷ []))
    ∷ after done booked_side (seen [] [] [] ([] ∷ [] ∷ [] ∷ []))
    -- round 4: and so does active 2
    ∷ after done booked_side (seen [] [] [] ([] ∷ [] ∷ (packet Nack 2 0 5 0 ∷ []) ∷ []))
    ∷ []
unfolding moments
lower_side_first = once allowance_spent_lem refl

pub unit_first_then_sides : moments narrow_back nothing (F back 0 1 ∷ K 0 0 1 ∷ K 0 3 1 ∷ active_in 0 ∷ [])
    three_answers
    ≡ after done [] (waiting [] [] [] [])
    -- round 9: all three wait; answer F[1] goes first
    ∷ after done [] (waiting (nack ∷ []) (ack0 ∷ []) (ack1 ∷ []) [])
    ∷ after done [] (waiting [] (ack0 ∷ []) (ack1 ∷ []) [])
    -- round 10: then K[0,1]
    ∷ after done [] (waiting [] (ack0 ∷ []) (ack1 ∷ []) (nack ∷ []))
    ∷ after done [] (waiting [] [] (ack1 ∷ []) (nack ∷ []))
    -- round 11: then K[3,1]
    ∷ after done [] (waiting [] [] (ack1 ∷ []) (nack ∷ ack0 ∷ []))
    ∷ after done [] (waiting [] [] [] (nack ∷ ack0 ∷ []))
    -- round 12
    ∷ after done [] (waiting [] [] [] (nack ∷ ack0 ∷ ack1 ∷ []))
    ∷ []
unfolding moments
unit_first_then_sides = once lower_side_first refl
