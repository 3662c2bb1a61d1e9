-- The theorems of specs/Runs/BothEnds.antt, where what they evaluate is told.
use Rattle.std.specs.Prelude.{◌≡◌, refl, [], ◌∷◌, ◌++◌}
use Rattle.packets.specs.declared.Kind.TheVariants.{Setup, Tdown, Nack}
use Rattle.packets.specs.Answers.{done}
use Rattle.plan.specs.Plan.{plan_of}
use Rattle.plan.specs.Samples.{two_to_one, wider_crossing, line_of_three, drives_around}
use Rattle.plan_queues.specs.Queue.{ahead, back, Q, F}
use Rattle.plan_queues.specs.Feeds.{of_side, to_unit}
use Rattle.rules.specs.Calls.{read, execute}
use Rattle.rules.specs.Runs.Watch.{packet, after}
use Rattle.rules.specs.Runs.Watch.{watching, moments}
use Rattle.rules.proofs.Runs.Crossing.{crosses_both_ways}
use Rattle.rules.specs.Runs.Watch.{once}
use Rattle.rules.specs.Runs.BothEnds.{last_at, one_entry, side2, freed_and_booked, with_u0_remembered, both_fs}
use Rattle.rules.specs.Runs.BothEnds.{slot2_and_last, nack1, setup0, from_all_sides, at_unit0, five_senders, five}
use Rattle.rules.specs.Runs.BothEnds.{setup, next_setup, nack, ack0, ack1, ack3}

pub side_0_first : moments two_to_one side2 (Q 0 0 ∷ Q 0 1 ∷ []) one_entry
    -- round 4: active 1's first set-up, handled, waits for F; behind it is its second
    ≡ after done (1 ∷ 4 ∷ 0 ∷ 4 ∷ []) ([] ∷ (packet Setup 1 0 1 1 ∷ packet Setup 1 0 3 0 ∷ []) ∷ [])
    -- round 5: both heads are unhandled, both for slot 3. Side 0's is booked, side 1's becomes a NACK
    ∷ after done (1 ∷ 4 ∷ 0 ∷ 4 ∷ []) ((packet Setup 0 0 3 0 ∷ []) ∷ (packet Setup 1 0 3 0 ∷ []) ∷ [])
    ∷ after done (1 ∷ 4 ∷ 0 ∷ 0 ∷ []) ((packet Setup 0 0 0 1 ∷ []) ∷ (packet Nack 1 0 3 0 ∷ []) ∷ [])
    -- the NACK leaves, by answer F; set-up F is full, and side 0's waits
    ∷ after done (1 ∷ 4 ∷ 0 ∷ 0 ∷ []) ((packet Setup 0 0 0 1 ∷ []) ∷ [] ∷ [])
    ∷ []
unfolding moments
side_0_first = once crosses_both_ways refl

pub freed_and_booked_lem : moments two_to_one side2 (Q 0 0 ∷ Q 0 1 ∷ []) freed_and_booked
    ≡ after done (0 ∷ 4 ∷ 4 ∷ 4 ∷ []) ([] ∷ [] ∷ [])
    -- round 9: the last set-up stands behind a NACK
    ∷ after done (0 ∷ 4 ∷ 4 ∷ 4 ∷ []) ([] ∷ (packet Nack 1 0 0 0 ∷ packet Setup 1 0 0 0 ∷ []) ∷ [])
    -- round 10: the TDOWN has come. It frees slot 0 and ends, and then active 1's set-up finds the entry free
    ∷ after done (0 ∷ 4 ∷ 4 ∷ 4 ∷ []) ((packet Tdown 0 0 0 1 ∷ []) ∷ (packet Setup 1 0 0 0 ∷ []) ∷ [])
    ∷ after done (1 ∷ 4 ∷ 4 ∷ 4 ∷ []) ([] ∷ (packet Setup 1 0 1 1 ∷ []) ∷ [])
    ∷ after done (1 ∷ 4 ∷ 4 ∷ 4 ∷ []) ([] ∷ [] ∷ [])
    ∷ []
unfolding moments
freed_and_booked_lem = once side_0_first refl

pub side_of_the_walk :
    watching (plan_of two_to_one) (last_at (to_unit 0)) (Q 0 0 ∷ Q 0 1 ∷ []) ((read ∷ []) ∷ (execute ∷ []) ∷ [])
    (with_u0_remembered (plan_of two_to_one))
    ≡ after done (0 ∷ []) ([] ∷ (packet Setup 1 0 0 0 ∷ []) ∷ [])
    ∷ after done (0 ∷ []) ([] ∷ (packet Setup 1 0 1 1 ∷ []) ∷ [])
    ∷ []
unfolding moments
side_of_the_walk = once freed_and_booked_lem refl

pub set_ups_first : moments wider_crossing slot2_and_last (F ahead 0 2 ∷ F back 0 2 ∷ []) both_fs
    -- round 6: the NACK waits in answer F, for active 0's set-up has booked the current slot
    ≡ after done (0 ∷ 4 ∷ []) ([] ∷ nack1 ∷ [])
    -- round 7: the set-up waits in set-up F, and goes first though it came later; round 8: the NACK
    ∷ after done (0 ∷ 4 ∷ []) (setup0 ∷ nack1 ∷ [])
    ∷ after done (0 ∷ 0 ∷ []) ([] ∷ nack1 ∷ [])
    ∷ after done (0 ∷ 1 ∷ []) ([] ∷ [] ∷ [])
    ∷ []
unfolding moments
set_ups_first = once side_of_the_walk refl

pub four_in_turn : moments line_of_three at_unit0 [] from_all_sides
    -- round 7: all four U wait. They go in turn, U[0] to U[3], in rounds 7 to 10
    ≡ after done (3 ∷ 0 ∷ (1 ∷ 2 ∷ 1 ∷ 1 ∷ []) ++ 0 ∷ 0 ∷ 1 ∷ 1 ∷ []) []
    ∷ after done (0 ∷ 2 ∷ (0 ∷ 2 ∷ 1 ∷ 1 ∷ []) ++ 0 ∷ 0 ∷ 0 ∷ 1 ∷ []) []
    ∷ after done (1 ∷ 3 ∷ (0 ∷ 1 ∷ 1 ∷ 1 ∷ []) ++ 1 ∷ 0 ∷ 0 ∷ 0 ∷ []) []
    -- rounds 9 and 10: sides 2 and 3 are closed in round 9, both set-up F are full, and nothing leaves the unit
    ∷ after done (2 ∷ 3 ∷ (0 ∷ 1 ∷ 0 ∷ 1 ∷ []) ++ 1 ∷ 1 ∷ 0 ∷ 0 ∷ []) []
    ∷ after done (3 ∷ 3 ∷ (0 ∷ 1 ∷ 0 ∷ 0 ∷ []) ++ 1 ∷ 1 ∷ 1 ∷ 0 ∷ []) []
    -- round 11: all four Q wait, each full. They go in turn, Q[0] to Q[3], in rounds 11 to 14
    ∷ after done (3 ∷ 3 ∷ (0 ∷ 1 ∷ 0 ∷ 0 ∷ []) ++ 1 ∷ 1 ∷ 1 ∷ 1 ∷ []) []
    ∷ after done (3 ∷ 0 ∷ (0 ∷ 1 ∷ 0 ∷ 0 ∷ []) ++ 0 ∷ 1 ∷ 1 ∷ 1 ∷ []) []
    ∷ after done (3 ∷ 1 ∷ (0 ∷ 1 ∷ 0 ∷ 0 ∷ []) ++ 0 ∷ 0 ∷ 1 ∷ 1 ∷ []) []
    ∷ after done (1 ∷ 2 ∷ (0 ∷ 0 ∷ 0 ∷ 0 ∷ []) ++ 0 ∷ 0 ∷ 0 ∷ 1 ∷ []) []
    -- round 14: Q[1] has a head again, and it is Q[3]'s turn; round 15: Q[1]'s
    ∷ after done (1 ∷ 3 ∷ (0 ∷ 0 ∷ 0 ∷ 0 ∷ []) ++ 0 ∷ 1 ∷ 0 ∷ 0 ∷ []) []
    ∷ after done (1 ∷ 1 ∷ (0 ∷ 0 ∷ 0 ∷ 0 ∷ []) ++ 0 ∷ 0 ∷ 0 ∷ 0 ∷ []) []
    ∷ []
unfolding moments
four_in_turn = once set_ups_first refl

pub fifth_sees_four : moments drives_around (last_at (of_side 0 3)) five five_senders
    -- round 13: all five wait
    ≡ after done (4 ∷ []) (setup ∷ nack ∷ ack0 ∷ ack1 ∷ ack3 ∷ [])
    -- rounds 13 to 16: set-up F goes, answer F, K[0,3], K[1,3]
    ∷ after done (0 ∷ []) ([] ∷ nack ∷ ack0 ∷ ack1 ∷ ack3 ∷ [])
    ∷ after done (1 ∷ []) ([] ∷ [] ∷ ack0 ∷ ack1 ∷ ack3 ∷ [])
    ∷ after done (2 ∷ []) ([] ∷ [] ∷ [] ∷ ack1 ∷ ack3 ∷ [])
    ∷ after done (3 ∷ []) ([] ∷ [] ∷ [] ∷ [] ∷ ack3 ∷ [])
    -- round 17: set-up F has another, and it is the turn of K[2,3], which saw four go; round 18: set-up F again
    ∷ after done (3 ∷ []) (next_setup ∷ [] ∷ [] ∷ [] ∷ ack3 ∷ [])
    ∷ after done (4 ∷ []) (next_setup ∷ [] ∷ [] ∷ [] ∷ [] ∷ [])
    ∷ after done (0 ∷ []) ([] ∷ [] ∷ [] ∷ [] ∷ [] ∷ [])
    ∷ []
unfolding moments
fifth_sees_four = once four_in_turn refl
