-- The theorems of specs/Runs/Capacities.antt, where what they evaluate is told.
use Rattle.std.specs.Prelude.{◌≡◌, refl, [], ◌∷◌, ◌++◌}
use Rattle.packets.specs.declared.Kind.TheVariants.{Ack, Nack}
use Rattle.plan_queues.specs.Queue.{active_out}
use Rattle.rules.specs.Runs.Watch.{packet}
use Rattle.rules.specs.Runs.Watch.{after, moments}
use Rattle.plan.specs.Samples.{wider_t, narrow_unit, narrow_back}
use Rattle.packets.specs.Answers.{refused, done, shows}
use Rattle.rules.proofs.Runs.Turns.{skipped_changes_nothing}
use Rattle.rules.specs.Runs.Watch.{once}
use Rattle.rules.specs.Runs.Capacities.{fill_there, there, full, zeros, waiting, fill_back, back, fill_out, allowance0}
use Rattle.rules.specs.Runs.Capacities.{tdown, setup}

pub filled_there : moments narrow_unit there [] fill_there
    -- round 0: the allowance is 6, not 7; a seventh launch finds the out-queue full too, but 11 comes before 12
    ≡ after done ((0 ∷ 6 ∷ 6 ∷ 6 ∷ 0 ∷ 0 ∷ []) ++ zeros ++ full ++ 0 ∷ []) []
    ∷ after (refused 11) ((0 ∷ 6 ∷ 6 ∷ 6 ∷ 0 ∷ 0 ∷ []) ++ zeros ++ full ++ 0 ∷ []) []
    -- round 10: active 0's six have gone ahead: two are at the passive, two in F, one is on the wire to the unit, one
    -- in U[1]
    ∷ after done (waiting 0 6 6 ++ (0 ∷ 0 ∷ 0 ∷ 0 ∷ 0 ∷ 2 ∷ 2 ∷ []) ++ (4 ∷ 4 ∷ 0 ∷ 1 ∷ 1 ∷ 1 ∷ 0 ∷ []) ++ 0 ∷ []) []
    -- round 15: each is full, with credit 0, also each of the three Qs, and a set-up waits in the out-queues of
    -- actives 1 and 2; round 16: still
    ∷ after done (waiting 0 1 1 ++ full ++ zeros ++ 0 ∷ []) []
    ∷ after done (waiting 0 1 1 ++ full ++ zeros ++ 0 ∷ []) []
    -- round 17: the reply makes room and the flag rises; round 18: the credit comes with Read
    ∷ after done (waiting 0 1 1 ++ (4 ∷ 4 ∷ 1 ∷ 1 ∷ 1 ∷ 3 ∷ 1 ∷ []) ++ zeros ++ 1 ∷ []) []
    ∷ after done (waiting 0 1 1 ++ (4 ∷ 4 ∷ 1 ∷ 1 ∷ 1 ∷ 3 ∷ 1 ∷ []) ++ (0 ∷ 0 ∷ 0 ∷ 0 ∷ 0 ∷ 0 ∷ 1 ∷ []) ++ 0 ∷ []) []
    -- rounds 19 to 22: one packet follows from F, one from Q[2], for Q[1] has sent last, one from U[2], one from
    -- active 1
    ∷ after done (waiting 0 1 1 ++ (4 ∷ 4 ∷ 1 ∷ 1 ∷ 1 ∷ 2 ∷ 2 ∷ []) ++ (0 ∷ 0 ∷ 0 ∷ 0 ∷ 0 ∷ 1 ∷ 0 ∷ []) ++ 0 ∷ []) []
    ∷ after done (waiting 0 1 1 ++ (4 ∷ 4 ∷ 1 ∷ 0 ∷ 1 ∷ 3 ∷ 2 ∷ []) ++ (0 ∷ 0 ∷ 0 ∷ 1 ∷ 0 ∷ 0 ∷ 0 ∷ []) ++ 0 ∷ []) []
    ∷ after done (waiting 0 1 1 ++ (3 ∷ 4 ∷ 1 ∷ 1 ∷ 1 ∷ 3 ∷ 2 ∷ []) ++ (1 ∷ 0 ∷ 0 ∷ 0 ∷ 0 ∷ 0 ∷ 0 ∷ []) ++ 0 ∷ []) []
    ∷ after done (waiting 0 0 1 ++ full ++ zeros ++ 0 ∷ []) []
    ∷ []
unfolding moments
filled_there = once skipped_changes_nothing refl

pub filled_back : moments narrow_back back [] fill_back
    -- round 0: the allowance is 5, not 6; a sixth launch finds room in the out-queue, and is refused
    ≡ after done (0 ∷ (5 ∷ 0 ∷ 0 ∷ 0 ∷ 0 ∷ 0 ∷ []) ++ 4 ∷ 1 ∷ 5 ∷ []) []
    ∷ after (refused 11) (0 ∷ (5 ∷ 0 ∷ 0 ∷ 0 ∷ 0 ∷ 0 ∷ []) ++ 4 ∷ 1 ∷ 5 ∷ []) []
    -- round 7: passive 1's in-queue is full
    ∷ after done (0 ∷ (0 ∷ 4 ∷ 0 ∷ 0 ∷ 0 ∷ 0 ∷ []) ++ 0 ∷ 1 ∷ 5 ∷ []) []
    -- round 8: a reply; a second in the same WRITE finds the flag up
    ∷ after done (0 ∷ (0 ∷ 3 ∷ 1 ∷ 0 ∷ 0 ∷ 0 ∷ []) ++ 0 ∷ 1 ∷ 5 ∷ []) []
    ∷ after (refused 14) (0 ∷ (0 ∷ 3 ∷ 1 ∷ 0 ∷ 0 ∷ 0 ∷ []) ++ 0 ∷ 1 ∷ 5 ∷ []) []
    -- round 9: the out-queue is full, and one leaves it
    ∷ after done (0 ∷ (0 ∷ 2 ∷ 2 ∷ 0 ∷ 0 ∷ 0 ∷ []) ++ 1 ∷ 1 ∷ 5 ∷ []) []
    -- round 10: it is full again; K[3,1] is full with credit 0, and K[0,1] goes first: nothing leaves
    ∷ after done (0 ∷ (0 ∷ 1 ∷ 2 ∷ 1 ∷ 1 ∷ 0 ∷ []) ++ 2 ∷ 0 ∷ 5 ∷ []) []
    ∷ after done (0 ∷ (0 ∷ 1 ∷ 2 ∷ 0 ∷ 1 ∷ 0 ∷ []) ++ 2 ∷ 0 ∷ 4 ∷ []) []
    -- round 11: refused, the out-queue is full; round 13: accepted
    ∷ after (refused 12) (0 ∷ (0 ∷ 1 ∷ 2 ∷ 0 ∷ 1 ∷ 1 ∷ []) ++ 3 ∷ 0 ∷ 4 ∷ []) []
    ∷ after done (0 ∷ (0 ∷ 0 ∷ 2 ∷ 0 ∷ 1 ∷ 2 ∷ []) ++ 3 ∷ 0 ∷ 3 ∷ []) []
    -- round 20: all five answers are in active 0's in-queue, which is full, with credit 0
    ∷ after done (0 ∷ (0 ∷ 0 ∷ 0 ∷ 0 ∷ 0 ∷ 5 ∷ []) ++ 4 ∷ 1 ∷ 0 ∷ []) []
    -- round 21: the head is passive 0's; it is dropped; round 22: the credit comes with Read
    ∷ after (shows (packet Ack 0 0 0 1)) (0 ∷ (0 ∷ 0 ∷ 0 ∷ 0 ∷ 0 ∷ 5 ∷ []) ++ 4 ∷ 1 ∷ 0 ∷ []) []
    ∷ after done (1 ∷ (0 ∷ 0 ∷ 0 ∷ 0 ∷ 0 ∷ 4 ∷ []) ++ 4 ∷ 1 ∷ 0 ∷ []) []
    ∷ after done (1 ∷ (0 ∷ 0 ∷ 0 ∷ 0 ∷ 0 ∷ 4 ∷ []) ++ 4 ∷ 1 ∷ 1 ∷ []) []
    ∷ []
unfolding moments
filled_back = once filled_there refl

pub out_queue_full : moments wider_t allowance0 (active_out 0 ∷ []) fill_out
    ≡ after done (1 ∷ []) ([] ∷ [])
    ∷ after done (1 ∷ []) ([] ∷ [])
    -- round 7: once it is dropped the whole allowance is back, and the TDOWN is still in the out-queue
    ∷ after (shows (packet Nack 0 0 7 0)) (1 ∷ []) ((tdown ∷ []) ∷ [])
    ∷ after done (2 ∷ []) ((tdown ∷ []) ∷ [])
    -- round 8: room for one set-up
    ∷ after done (1 ∷ []) ((tdown ∷ setup 4 ∷ []) ∷ [])
    ∷ after (refused 12) (1 ∷ []) ((tdown ∷ setup 4 ∷ []) ∷ [])
    -- round 9: the TDOWN has left
    ∷ after done (0 ∷ []) ((setup 4 ∷ setup 5 ∷ []) ∷ [])
    ∷ []
unfolding moments
out_queue_full = once filled_back refl
