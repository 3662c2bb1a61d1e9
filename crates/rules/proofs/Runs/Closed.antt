-- The theorems of specs/Runs/Closed.antt, where what they evaluate is told.
use Rattle.std.specs.Prelude.{◌≡◌, refl, [], ◌∷◌}
use Rattle.packets.specs.declared.Kind.TheVariants.{Setup, Tdown, Ack}
use Rattle.plan_queues.specs.Queue.{active_out}
use Rattle.rules.specs.Connections.{connection}
use Rattle.rules.specs.Runs.Watch.{packet}
use Rattle.rules.specs.Runs.Watch.{after, moments, accepts}
use Rattle.plan.specs.Samples.{plan_t, two_routers, all_sides}
use Rattle.packets.specs.Answers.{refused, done, shows}
use Rattle.rules.proofs.Runs.Capacities.{out_queue_full}
use Rattle.rules.specs.Runs.Watch.{once}
use Rattle.rules.specs.Runs.Closed.{table_and_kept, both_booked, first_freed, both_freed, places, seen, quiet, ack}
use Rattle.rules.specs.Runs.Closed.{closing, passed_on, opened_closed_opened, accepted_twice, closes_tried, allowance}
use Rattle.rules.specs.Runs.Closed.{closed_later, allowance_and_kept}

pub opened_closed_opened_lem : moments two_routers table_and_kept places opened_closed_opened
    ≡ after done (4 ∷ 4 ∷ 4 ∷ 4 ∷ 2 ∷ 4 ∷ 4 ∷ 4 ∷ 0 ∷ 1 ∷ []) quiet
    ∷ after done (both_booked 0 1) quiet
    -- round 19: 16 before the ACK is dropped, 8 in WRITE
    ∷ after (refused 16) (both_booked 0 1) quiet
    ∷ after done (both_booked 0 1) (seen [] (ack ∷ []) [] [])
    ∷ after (shows ack) (both_booked 0 1) (seen [] (ack ∷ []) [] [])
    ∷ after (refused 8) (both_booked 0 1) (seen [] (ack ∷ []) [] [])
    ∷ after done (both_booked 1 1) quiet
    -- round 20
    ∷ after (refused 16) (both_booked 1 1) quiet
    ∷ after (refused 16) (both_booked 1 1) quiet
    -- closed: the mark is gone at once, and both entries are there still
    ∷ after done (both_booked 0 1) (seen (closing ∷ []) [] [] [])
    ∷ after (refused 16) (both_booked 0 1) (seen (closing ∷ []) [] [] [])
    ∷ after (refused 12) (both_booked 0 1) (seen (closing ∷ []) [] [] [])
    -- round 22
    ∷ after done (both_booked 0 1) (seen [] [] (closing ∷ []) [])
    ∷ after done first_freed (seen [] [] (passed_on ∷ []) [])
    -- round 25: active 1 keeps its entry
    ∷ after done first_freed (seen [] [] [] (passed_on ∷ []))
    ∷ after done both_freed quiet
    -- opened again at the same start
    ∷ after done both_freed quiet
    ∷ after done (both_booked 0 1) quiet
    ∷ after done (both_booked 0 1) (seen [] (ack ∷ []) [] [])
    ∷ after done (both_booked 1 1) quiet
    ∷ []
unfolding moments
opened_closed_opened_lem = once out_queue_full refl

pub accepted_once : accepts plan_t accepted_twice ≡ connection 0 0 0 ∷ []
unfolding accepts
accepted_once = once opened_closed_opened_lem refl

pub closes_in_order : moments all_sides allowance [] closes_tried
    ≡ after (refused 9) (1 ∷ []) []
    ∷ after (refused 9) (1 ∷ []) []
    ∷ after (refused 9) (1 ∷ []) []
    ∷ after (refused 9) (1 ∷ []) []
    ∷ after (refused 10) (1 ∷ []) []
    ∷ after (refused 16) (1 ∷ []) []
    ∷ after done (0 ∷ []) []
    ∷ after (refused 16) (0 ∷ []) []
    ∷ after (refused 10) (0 ∷ []) []
    ∷ after (refused 8) (0 ∷ []) []
    ∷ after (refused 8) (0 ∷ []) []
    ∷ []
unfolding moments
closes_in_order = once accepted_once refl

pub closed_later_lem : moments plan_t allowance_and_kept (active_out 0 ∷ []) closed_later
    ≡ after (shows (packet Ack 0 0 1 1)) (1 ∷ 0 ∷ 1 ∷ []) ([] ∷ [])
    ∷ after done (0 ∷ 0 ∷ 1 ∷ []) ((packet Setup 0 0 1 0 ∷ []) ∷ [])
    -- 12: the mark stays
    ∷ after (refused 12) (0 ∷ 0 ∷ 1 ∷ []) ((packet Setup 0 0 1 0 ∷ []) ∷ [])
    ∷ after done (0 ∷ 0 ∷ 1 ∷ []) ([] ∷ [])
    ∷ after done (0 ∷ 0 ∷ 0 ∷ []) ((packet Tdown 0 0 0 1 ∷ []) ∷ [])
    ∷ []
unfolding moments
closed_later_lem = once closes_in_order refl
