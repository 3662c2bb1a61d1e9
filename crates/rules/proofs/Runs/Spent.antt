-- The theorems of specs/Runs/Spent.antt, where what they evaluate is told.
use Rattle.std.specs.Prelude.{◌≡◌, refl, [], ◌∷◌, ◌++◌}
use Rattle.packets.specs.declared.Kind.TheVariants.{Setup}
use Rattle.plan_queues.specs.Queue.{active_out, active_in}
use Rattle.rules.specs.Runs.Watch.{packet, after, steady, watch}
use Rattle.rules.specs.Runs.FirstBookings.{launched_setup, ack}
use Rattle.plan.specs.Samples.{plan_t}
use Rattle.packets.specs.Answers.{refused, done, shows}
use Rattle.rules.proofs.Runs.LastFree.{slot_0_is_left}
use Rattle.rules.specs.Runs.Watch.{once}
use Rattle.rules.specs.Runs.Spent.{allowance_spent, allowance0, spent, back, quiet, in_out, in_in}

pub allowance_spent_lem : watch plan_t allowance0 (active_out 0 ∷ active_in 0 ∷ []) allowance_spent
    -- round 0: a launch, the same again, one of the other slot; then the round
    ≡ after done spent (in_out launched_setup) ∷ []
    ++ after (refused 11) spent (in_out launched_setup) ∷ after (refused 11) spent (in_out launched_setup) ∷ []
    ++ after done spent (in_out launched_setup) ∷ after done spent (in_out launched_setup) ∷ after done spent quiet ∷ []
    -- round 1: the out-queue is empty again, the allowance is not back
    ++ after (refused 11) spent quiet ∷ steady spent quiet
    -- rounds 2 and 3
    ++ steady spent quiet
    ++ steady spent quiet
    -- round 4: accepted; four calls
    ++ after done spent quiet ∷ steady spent quiet
    -- rounds 5 and 6
    ++ steady spent quiet
    ++ steady spent quiet
    -- round 7: the ACK comes, and is not dropped
    ++ steady spent in_in
    -- round 8: the allowance is not yet back, and Look does not give it back; Drop does
    ++ after (refused 11) spent in_in ∷ after done spent in_in ∷ after done spent in_in ∷ []
    ++ after (shows ack) spent in_in ∷ after done back quiet ∷ after done back quiet ∷ []
    -- round 9: the launch is accepted
    ++ after done spent (in_out (packet Setup 0 0 1 0)) ∷ []
unfolding watch
allowance_spent_lem = once slot_0_is_left refl
