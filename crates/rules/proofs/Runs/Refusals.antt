-- The theorems of specs/Runs/Refusals.antt, where what they evaluate is told.
use Rattle.std.specs.Prelude.{◌≡◌, refl, [], ◌∷◌}
use Rattle.packets.specs.declared.Kind.TheVariants.{Setup}
use Rattle.plan_queues.specs.Queue.{active_out, active_in, passive_in, passive_out, U}
use Rattle.rules.specs.Runs.Watch.{packet, after, moments}
use Rattle.rules.specs.Runs.Watch.{watch}
use Rattle.rules.specs.Runs.FirstBookings.{launched_setup, setup, ack}
use Rattle.plan.specs.Samples.{plan_t, wider_t, all_sides}
use Rattle.packets.specs.Answers.{refused, done, shows}
use Rattle.rules.proofs.Runs.FirstBookings.{launch_in_round_1}
use Rattle.rules.specs.Runs.Watch.{once}
use Rattle.rules.specs.Runs.Refusals.{phases_tried, current_slot, setup_at, launches_tried, allowances, out_queues}
use Rattle.rules.specs.Runs.Refusals.{replies_tried, passive_flag, down, up, waits_at_passive, drops_tried}
use Rattle.rules.specs.Runs.Refusals.{allowance_and_flag, second, second_marked, tdown6, tdown7, later, waits_at_active}
use Rattle.rules.specs.Runs.Refusals.{out_queue_full, both_wait}

pub phases_in_turn : watch plan_t current_slot (active_out 0 ∷ U 0 0 ∷ []) phases_tried
    -- READ
    ≡ after done (0 ∷ []) (setup_at (launched_setup ∷ []) [])
    ∷ after (refused 8) (0 ∷ []) (setup_at (launched_setup ∷ []) [])
    ∷ after (refused 8) (0 ∷ []) (setup_at (launched_setup ∷ []) [])
    ∷ after done (0 ∷ []) (setup_at (launched_setup ∷ []) [])
    -- EXECUTE
    ∷ after (refused 8) (0 ∷ []) (setup_at (launched_setup ∷ []) [])
    ∷ after (refused 8) (0 ∷ []) (setup_at (launched_setup ∷ []) [])
    ∷ after done (0 ∷ []) (setup_at (launched_setup ∷ []) [])
    -- WRITE
    ∷ after (refused 8) (0 ∷ []) (setup_at (launched_setup ∷ []) [])
    ∷ after (refused 8) (0 ∷ []) (setup_at (launched_setup ∷ []) [])
    ∷ after done (1 ∷ []) (setup_at [] [])
    -- READ again
    ∷ after (refused 8) (1 ∷ []) (setup_at [] [])
    ∷ after (refused 8) (1 ∷ []) (setup_at [] [])
    ∷ after done (1 ∷ []) (setup_at [] (launched_setup ∷ []))
    ∷ []
unfolding watch
phases_in_turn = once launch_in_round_1 refl

pub launch_in_order : moments all_sides allowances (active_out 0 ∷ active_out 1 ∷ []) launches_tried
    -- an active, a passive, a slot out of range; a pair not served, and with a slot out of range: 9 before 10
    ≡ after (refused 9) (1 ∷ 1 ∷ []) (out_queues [] [])
    ∷ after (refused 9) (1 ∷ 1 ∷ []) (out_queues [] [])
    ∷ after (refused 9) (1 ∷ 1 ∷ []) (out_queues [] [])
    ∷ after (refused 10) (1 ∷ 1 ∷ []) (out_queues [] [])
    ∷ after (refused 9) (1 ∷ 1 ∷ []) (out_queues [] [])
    -- accepted; then allowance 0 and the out-queue full: 11 before 12; and not served: 10 before 11; and a passive out
    -- of range: 9
    ∷ after done (0 ∷ 1 ∷ []) (out_queues (launched_setup ∷ []) [])
    ∷ after (refused 11) (0 ∷ 1 ∷ []) (out_queues (launched_setup ∷ []) [])
    ∷ after (refused 10) (0 ∷ 1 ∷ []) (out_queues (launched_setup ∷ []) [])
    ∷ after (refused 9) (0 ∷ 1 ∷ []) (out_queues (launched_setup ∷ []) [])
    -- EXECUTE: 8 before 9; 8 alone
    ∷ after (refused 8) (0 ∷ 1 ∷ []) (out_queues (launched_setup ∷ []) [])
    ∷ after (refused 8) (0 ∷ 1 ∷ []) (out_queues (launched_setup ∷ []) [])
    -- WRITE: 8 before 9, 10, 11 and 12; 8 alone
    ∷ after (refused 8) (0 ∷ 1 ∷ []) (out_queues (launched_setup ∷ []) [])
    ∷ after (refused 8) (0 ∷ 1 ∷ []) (out_queues (launched_setup ∷ []) [])
    -- READ
    ∷ after done (0 ∷ 0 ∷ []) (out_queues [] (packet Setup 1 0 0 0 ∷ []))
    ∷ []
unfolding moments
launch_in_order = once phases_in_turn refl

pub reply_in_order : moments plan_t passive_flag (passive_in 0 ∷ passive_out 0 ∷ []) replies_tried
    -- READ: 8 before 9; 8 before 13. EXECUTE: 8 before 9
    ≡ after (refused 8) down (waits_at_passive [] [])
    ∷ after (refused 8) down (waits_at_passive [] [])
    ∷ after (refused 8) down (waits_at_passive [] [])
    -- WRITE: a number, a choice out of range: 9 before 13; 13 alone
    ∷ after (refused 9) down (waits_at_passive [] [])
    ∷ after (refused 9) down (waits_at_passive [] [])
    ∷ after (refused 13) down (waits_at_passive [] [])
    -- round 4: accepted; then the flag is up, the in-queue empty, the out-queue full: 14 before 13 and 12; a choice, a
    -- number out of range: 9 before 14
    ∷ after done down (waits_at_passive (setup ∷ []) [])
    ∷ after done up (waits_at_passive [] (ack ∷ []))
    ∷ after (refused 14) up (waits_at_passive [] (ack ∷ []))
    ∷ after (refused 9) up (waits_at_passive [] (ack ∷ []))
    ∷ after (refused 9) up (waits_at_passive [] (ack ∷ []))
    -- round 5, READ: 8 before 14. WRITE: the flag is down, the ACK is picked and has not left: 13 before 12
    ∷ after (refused 8) up (waits_at_passive [] (ack ∷ []))
    ∷ after (refused 13) down (waits_at_passive [] (ack ∷ []))
    ∷ []
unfolding moments
reply_in_order = once launch_in_order refl

pub drop_in_order : moments plan_t allowance_and_flag (active_in 0 ∷ []) drops_tried
    -- READ: 8 before 9. EXECUTE: 8 before 13. WRITE: 9; 13
    ≡ after (refused 8) (0 ∷ 0 ∷ []) ([] ∷ [])
    ∷ after (refused 8) (0 ∷ 0 ∷ []) ([] ∷ [])
    ∷ after (refused 9) (0 ∷ 0 ∷ []) ([] ∷ [])
    ∷ after (refused 13) (0 ∷ 0 ∷ []) ([] ∷ [])
    -- round 7: the ACK has come; dropped; then the flag is up and the in-queue empty: 14 before 13
    ∷ after (refused 8) (0 ∷ 0 ∷ []) ((ack ∷ []) ∷ [])
    ∷ after (refused 9) (0 ∷ 0 ∷ []) ((ack ∷ []) ∷ [])
    ∷ after done (1 ∷ 1 ∷ []) ([] ∷ [])
    ∷ after (refused 14) (1 ∷ 1 ∷ []) ([] ∷ [])
    ∷ after (refused 9) (1 ∷ 1 ∷ []) ([] ∷ [])
    -- round 8: 8 before 14; 13
    ∷ after (refused 8) (1 ∷ 1 ∷ []) ([] ∷ [])
    ∷ after (refused 13) (1 ∷ 0 ∷ []) ([] ∷ [])
    ∷ []
unfolding moments
drop_in_order = once reply_in_order refl

pub unmarked_while_full : moments wider_t allowance_and_flag (active_out 0 ∷ active_in 0 ∷ []) out_queue_full
    -- round 7: the first NACK, marked, is dropped
    ≡ after done (1 ∷ 1 ∷ []) (waits_at_active (tdown6 ∷ []) [])
    -- round 8: the out-queue is full, so no TDOWN joins and the second NACK is not marked: Look shows it, and
    -- Drop gives 15
    ∷ after done (0 ∷ 1 ∷ []) (waits_at_active (tdown6 ∷ later ∷ []) [])
    ∷ after (shows second) (0 ∷ 0 ∷ []) (waits_at_active (tdown6 ∷ later ∷ []) (second ∷ []))
    ∷ after (refused 15) (0 ∷ 0 ∷ []) (waits_at_active (tdown6 ∷ later ∷ []) (second ∷ []))
    -- round 9: the first TDOWN has left, the second joins
    ∷ after (shows second_marked) (0 ∷ 0 ∷ []) (waits_at_active (later ∷ tdown7 ∷ []) (second_marked ∷ []))
    ∷ after done (1 ∷ 1 ∷ []) (waits_at_active (later ∷ tdown7 ∷ []) [])
    ∷ []
unfolding moments
unmarked_while_full = once drop_in_order refl

pub flag_before_mark : moments wider_t allowance_and_flag (active_out 0 ∷ active_in 0 ∷ []) both_wait
    -- round 8: the first NACK is dropped; then the flag is up and the head an unmarked NACK: 14 before 15
    ≡ after done (1 ∷ 1 ∷ []) (waits_at_active (tdown6 ∷ []) (second ∷ []))
    ∷ after (refused 14) (1 ∷ 1 ∷ []) (waits_at_active (tdown6 ∷ []) (second ∷ []))
    -- round 9
    ∷ after done (2 ∷ 1 ∷ []) (waits_at_active (tdown7 ∷ []) [])
    ∷ []
unfolding moments
flag_before_mark = once unmarked_while_full refl
