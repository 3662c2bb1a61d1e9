-- The theorems of specs/Runs/Declined.antt, where what they evaluate is told.
use Rattle.std.specs.Prelude.{◌≡◌, refl, [], ◌∷◌, ◌++◌}
use Rattle.plan_queues.specs.Queue.{active_out, active_in, Q}
use Rattle.rules.specs.Runs.Watch.{after, steady, watch}
use Rattle.plan.specs.Samples.{two_routers}
use Rattle.packets.specs.Answers.{done, shows}
use Rattle.rules.proofs.Runs.Looking.{both_dropped}
use Rattle.rules.specs.Runs.Watch.{once}
use Rattle.rules.specs.Runs.Declined.{both_sides, free, second, both, second_declines, seen, quiet, in_out, in_first}
use Rattle.rules.specs.Runs.Declined.{in_second, in_second_by2, in_in, setup, passed_on, nack, marked_nack, tdown}
use Rattle.rules.specs.Runs.Declined.{other, other_booked, other_ack}

pub second_declines_lem : watch two_routers both_sides (active_out 0 ∷ Q 0 0 ∷ Q 1 0 ∷ Q 1 2 ∷ active_in 0 ∷ [])
    second_declines
    -- round 0: active 1 launches, then the round
    ≡ after done free quiet ∷ steady free quiet
    -- round 1
    ++ steady free quiet
    -- round 2: the second router books slot 0 for active 1
    ++ after done free (in_second_by2 other) ∷ after done second (in_second_by2 other_booked) ∷ after done second quiet
    ∷ []
    -- round 3
    ++ steady second quiet
    -- round 4: accepted; four calls
    ++ after done second quiet ∷ steady second quiet
    -- rounds 5 and 6
    ++ steady second quiet
    ++ steady second quiet
    -- round 7: its ACK is looked at and dropped
    ++ after done second quiet ∷ after done second quiet ∷ after (shows other_ack) second quiet ∷ []
    ++ after done second quiet ∷ after done second quiet ∷ []
    -- round 8: active 0 launches, then the round
    ++ after done second (in_out setup) ∷ []
    ++ after done second (in_out setup) ∷ after done second (in_out setup) ∷ after done second quiet ∷ []
    -- round 9
    ++ steady second quiet
    -- round 10: the first router books slot 3
    ++ after done second (in_first setup) ∷ after done both (in_first passed_on) ∷ after done both quiet ∷ []
    -- rounds 11 to 13
    ++ steady both quiet
    ++ steady both quiet
    ++ steady both quiet
    -- round 14: the second router declines, for its slot 0 is booked
    ++ after done both (in_second passed_on) ∷ after done both (in_second nack) ∷ after done both quiet ∷ []
    -- rounds 15 and 16
    ++ steady both quiet
    ++ steady both quiet
    -- round 17: the NACK has come, slot 0, hub 1; Execute puts a TDOWN, slot 3, hub 1, into the out-queue and marks
    -- the NACK, which is looked at and dropped
    ++ after done both (in_in nack) ∷ after done both (seen (tdown ∷ []) [] [] [] (marked_nack ∷ [])) ∷ []
    ++ after (shows marked_nack) both (seen (tdown ∷ []) [] [] [] (marked_nack ∷ [])) ∷ []
    ++ after done both (in_out tdown) ∷ after done both (in_out tdown) ∷ []
    -- round 18: the TDOWN is sent
    ++ after done both (in_out tdown) ∷ after done both (in_out tdown) ∷ after done both quiet ∷ []
    -- round 19
    ++ steady both quiet
    -- round 20: the first router frees slot 3, and the TDOWN ends there
    ++ after done both (in_first tdown) ∷ after done second quiet ∷ after done second quiet ∷ []
    -- rounds 21 to 24: nothing comes to the second router, which keeps its entry
    ++ steady second quiet
    ++ steady second quiet
    ++ steady second quiet
    ++ steady second quiet
unfolding watch
second_declines_lem = once both_dropped refl
