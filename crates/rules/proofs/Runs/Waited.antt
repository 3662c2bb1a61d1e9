-- The theorems of specs/Runs/Waited.antt, where what they evaluate is told.
use Rattle.std.specs.Prelude.{◌≡◌, refl, [], ◌∷◌, ◌++◌}
use Rattle.rules.specs.Runs.Watch.{after, watch, once}
use Rattle.plan.specs.Samples.{plan_t}
use Rattle.packets.specs.Answers.{refused, done, remains}
use Rattle.rules.proofs.Runs.BothEnds.{fifth_sees_four}
use Rattle.rules.specs.Runs.Waited.{entry0, waited, neither, nothing_left, waited_out, declined_out}

pub nothing_left_lem : watch plan_t (λ s. []) [] nothing_left
    ≡ after (remains 0 0) [] [] ∷ after done [] [] ∷ after (remains 0 0) [] [] ∷ after done [] []
    ∷ after (remains 0 0) [] [] ∷ after done [] [] ∷ after (remains 0 0) [] [] ∷ []
unfolding watch
nothing_left_lem = once fifth_sees_four refl

pub waited_out_lem : watch plan_t entry0 [] waited_out
    ≡ after done (4 ∷ []) [] ∷ after (remains 1 512) (4 ∷ []) [] ∷ []
    -- rounds 0 and 1: to the router, and to the unit
    ++ neither 4 4 (remains 1 512)
    ++ neither 4 4 (remains 1 512)
    -- round 2: booked
    ++ neither 4 0 (remains 1 512)
    -- round 3
    ++ neither 0 0 (remains 1 512)
    -- round 4: the passive accepts; the ACK is still one packet
    ++ waited 0 0 done (refused 13) (remains 1 512)
    -- rounds 5 and 6
    ++ neither 0 0 (remains 1 512)
    ++ neither 0 0 (remains 1 512)
    -- round 7: the active drops it, and the network is empty; the table is the accepted connection's own
    ++ waited 0 0 (refused 13) done (remains 0 0)
    -- round 8: and it stays so
    ++ neither 0 0 (remains 0 0)
unfolding watch
waited_out_lem = once nothing_left_lem refl

pub declined_out_lem : watch plan_t entry0 [] declined_out
    ≡ after done (4 ∷ []) [] ∷ after (remains 1 512) (4 ∷ []) [] ∷ []
    -- rounds 0 to 3, as before
    ++ neither 4 4 (remains 1 512)
    ++ neither 4 4 (remains 1 512)
    ++ neither 4 0 (remains 1 512)
    ++ neither 0 0 (remains 1 512)
    -- round 4: the passive declines
    ++ waited 0 0 done (refused 13) (remains 1 512)
    -- rounds 5 and 6
    ++ neither 0 0 (remains 1 512)
    ++ neither 0 0 (remains 1 512)
    -- round 7: Execute marks the NACK, and its TDOWN joins the out-queue: two packets, and the promise of the launch
    -- still holds; the NACK is dropped
    ++ after done (0 ∷ []) [] ∷ after done (0 ∷ []) [] ∷ after (remains 2 1024) (0 ∷ []) [] ∷ []
    ++ after (refused 13) (0 ∷ []) [] ∷ after done (0 ∷ []) [] ∷ after done (0 ∷ []) [] ∷ []
    ++ after (remains 1 512) (0 ∷ []) [] ∷ []
    -- rounds 8 and 9: to the router, and to the unit
    ++ neither 0 0 (remains 1 512)
    ++ neither 0 0 (remains 1 512)
    -- round 10: the entry is freed and the TDOWN ends
    ++ neither 0 4 (remains 0 0)
    -- round 11
    ++ neither 4 4 (remains 0 0)
unfolding watch
declined_out_lem = once waited_out_lem refl
