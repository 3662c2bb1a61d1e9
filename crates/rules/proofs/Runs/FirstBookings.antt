-- The theorems of specs/Runs/FirstBookings.antt, where what they evaluate is told.
use Rattle.std.specs.Prelude.{◌≡◌, refl, [], ◌∷◌, ◌++◌}
use Rattle.plan_queues.specs.Queue.{ahead, active_in, passive_in, F}
use Rattle.rules.specs.Runs.Watch.{after, steady, watch}
use Rattle.plan.specs.Samples.{plan_t}
use Rattle.packets.specs.Answers.{done, shows}
use Rattle.rules.specs.Runs.Watch.{once}
use Rattle.rules.specs.Runs.FirstBookings.{side1, free, booked_side, ack, launch_in_round0, nowhere, waits_at_passive}
use Rattle.rules.specs.Runs.FirstBookings.{waits_at_active, launch_in_round1, slot_and_side1, in_f, has_reached}

pub launch_in_round_0 : watch plan_t side1 (passive_in 0 ∷ active_in 0 ∷ []) launch_in_round0
    -- round 0: the launch, then the round
    ≡ after done free nowhere ∷ steady free nowhere
    -- round 1
    ++ steady free nowhere
    -- round 2: booked by its Execute, not before
    ++ after done free nowhere ∷ after done booked_side nowhere ∷ after done booked_side nowhere ∷ []
    -- round 3
    ++ steady booked_side nowhere
    -- round 4: it waits at the passive from its Read on, not before, and is accepted
    ++ after done booked_side waits_at_passive ∷ after done booked_side waits_at_passive ∷ []
    ++ after done booked_side nowhere ∷ after done booked_side nowhere ∷ []
    -- rounds 5 and 6
    ++ steady booked_side nowhere
    ++ steady booked_side nowhere
    -- round 7: the ACK has come; Look shows it, slot 1, hub 1, and leaves it; Drop removes it
    ++ after done booked_side waits_at_active ∷ after done booked_side waits_at_active ∷ []
    ++ after (shows ack) booked_side waits_at_active ∷ after done booked_side nowhere ∷ []
unfolding watch
launch_in_round_0 = refl

pub launch_in_round_1 : watch plan_t slot_and_side1 (F ahead 0 1 ∷ passive_in 0 ∷ []) launch_in_round1
    -- round 0
    ≡ after done (0 ∷ free) nowhere ∷ after done (0 ∷ free) nowhere ∷ after done (1 ∷ free) nowhere ∷ []
    -- round 1: the launch, then the round
    ++ after done (1 ∷ free) nowhere ∷ []
    ++ after done (1 ∷ free) nowhere ∷ after done (1 ∷ free) nowhere ∷ after done (0 ∷ free) nowhere ∷ []
    -- round 2
    ++ after done (0 ∷ free) nowhere ∷ after done (0 ∷ free) nowhere ∷ after done (1 ∷ free) nowhere ∷ []
    -- round 3: booked by its Execute
    ++ after done (1 ∷ free) nowhere ∷ after done (1 ∷ booked_side) nowhere ∷ after done (0 ∷ booked_side) nowhere ∷ []
    -- round 4: the current slot is 0, which is booked: the set-up waits in F[1], and is there still after the Write
    ++ after done (0 ∷ booked_side) in_f ∷ after done (0 ∷ booked_side) in_f ∷ after done (1 ∷ booked_side) in_f ∷ []
    -- round 5: the current slot is 1, which is free: the Write sends it
    ++ after done (1 ∷ booked_side) in_f ∷ after done (1 ∷ booked_side) in_f ∷ after done (0 ∷ booked_side) nowhere ∷ []
    -- round 6: it has reached the passive, by the Read
    ++ after done (0 ∷ booked_side) has_reached ∷ after done (0 ∷ booked_side) has_reached
    ∷ after done (1 ∷ booked_side) has_reached ∷ []
unfolding watch
launch_in_round_1 = once launch_in_round_0 refl
