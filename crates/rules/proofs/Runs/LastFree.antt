-- The theorems of specs/Runs/LastFree.antt, where what they evaluate is told.
use Rattle.std.specs.Prelude.{◌≡◌, refl, [], ◌∷◌, ◌++◌}
use Rattle.packets.specs.declared.Kind.TheVariants.{Setup}
use Rattle.plan_queues.specs.Queue.{active_out, active_in, Q}
use Rattle.rules.specs.Runs.Watch.{packet, after, steady, moments, watch}
use Rattle.rules.specs.Runs.FirstBookings.{side1, free, booked_side, launched_setup, setup, ack}
use Rattle.plan.specs.Samples.{plan_t}
use Rattle.packets.specs.Answers.{done, shows}
use Rattle.rules.proofs.Runs.Refusals.{flag_before_mark}
use Rattle.rules.specs.Runs.Watch.{once}
use Rattle.rules.specs.Runs.LastFree.{last_free_entry, last, nack, quiet, in_out, in_q, in_in, slot1_first}

pub last_free_entry_lem : watch plan_t side1 (active_out 0 ∷ Q 0 0 ∷ active_in 0 ∷ []) last_free_entry
    -- round 0: Launch (0,0,0), then the round
    ≡ after done free (in_out launched_setup) ∷ []
    ++ after done free (in_out launched_setup) ∷ after done free (in_out launched_setup) ∷ after done free quiet ∷ []
    -- round 1
    ++ steady free quiet
    -- round 2: booked
    ++ after done free (in_q launched_setup) ∷ after done booked_side (in_q setup) ∷ after done booked_side quiet ∷ []
    -- round 3
    ++ steady booked_side quiet
    -- round 4: accepted; four calls
    ++ after done booked_side quiet ∷ steady booked_side quiet
    -- rounds 5 and 6
    ++ steady booked_side quiet
    ++ steady booked_side quiet
    -- round 7: the ACK is looked at and dropped
    ++ after done booked_side (in_in ack) ∷ after done booked_side (in_in ack) ∷ []
    ++ after (shows ack) booked_side (in_in ack) ∷ after done booked_side quiet ∷ after done booked_side quiet ∷ []
    -- round 8: Launch (0,0,1), then the round
    ++ after done booked_side (in_out last) ∷ []
    ++ after done booked_side (in_out last) ∷ after done booked_side (in_out last) ∷ after done booked_side quiet ∷ []
    -- round 9
    ++ steady booked_side quiet
    -- round 10: declined by its Execute, for slot 1 is the last free entry of side 1; it stays free
    ++ after done booked_side (in_q last) ∷ after done booked_side (in_q nack) ∷ after done booked_side quiet ∷ []
    -- round 11
    ++ steady booked_side quiet
    -- round 12: the NACK has come with hub 0, so no TDOWN joins the out-queue; it is looked
    -- at and dropped
    ++ after done booked_side (in_in nack) ∷ after done booked_side (in_in nack) ∷ []
    ++ after (shows nack) booked_side (in_in nack) ∷ after done booked_side quiet ∷ after done booked_side quiet ∷ []
unfolding watch
last_free_entry_lem = once flag_before_mark refl

pub slot_0_is_left : moments plan_t side1 (Q 0 0 ∷ []) (slot1_first ∷ [])
    ≡ after done (4 ∷ 0 ∷ []) ((packet Setup 0 0 0 1 ∷ []) ∷ []) ∷ []
unfolding moments
slot_0_is_left = once last_free_entry_lem refl
