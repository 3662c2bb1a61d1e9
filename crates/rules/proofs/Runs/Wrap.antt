-- The theorems of specs/Runs/Wrap.antt, where what they evaluate is told.
use Rattle.std.specs.Prelude.{◌≡◌, refl, [], ◌∷◌, ◌++◌}
use Rattle.packets.specs.declared.Kind.TheVariants.{Ack}
use Rattle.plan_queues.specs.Queue.{passive_in, Q}
use Rattle.rules.specs.Runs.Watch.{packet, after, moments, accepts}
use Rattle.plan.specs.Samples.{four_routers}
use Rattle.packets.specs.Answers.{done, shows}
use Rattle.rules.proofs.Runs.TornDown.{torn_over_three}
use Rattle.rules.specs.Runs.Watch.{once}
use Rattle.rules.specs.Runs.Wrap.{going_round, sides1, free, slot0, slot1, slot2, seen, setup}

pub going_round_lem : moments four_routers sides1 (Q 0 0 ∷ Q 1 0 ∷ Q 2 0 ∷ Q 3 0 ∷ passive_in 0 ∷ []) going_round
    -- round 2: slot 2 at router 0
    ≡ after done (free ++ free ++ free ++ free) (seen (setup 2 0) [] [] [] [])
    ∷ after done (slot2 ++ free ++ free ++ free) (seen (setup 0 1) [] [] [] [])
    -- round 5: slot 0 at router 1
    ∷ after done (slot2 ++ free ++ free ++ free) (seen [] (setup 0 1) [] [] [])
    ∷ after done (slot2 ++ slot0 ++ free ++ free) (seen [] (setup 1 2) [] [] [])
    -- round 9: slot 1 at router 2
    ∷ after done (slot2 ++ slot0 ++ free ++ free) (seen [] [] (setup 1 2) [] [])
    ∷ after done (slot2 ++ slot0 ++ slot1 ++ free) (seen [] [] (setup 2 3) [] [])
    -- round 13: slot 2 again, at router 3
    ∷ after done (slot2 ++ slot0 ++ slot1 ++ free) (seen [] [] [] (setup 2 3) [])
    ∷ after done (slot2 ++ slot0 ++ slot1 ++ slot2) (seen [] [] [] (setup 0 4) [])
    -- round 16
    ∷ after done (slot2 ++ slot0 ++ slot1 ++ slot2) (seen [] [] [] [] (setup 0 4))
    ∷ after done (slot2 ++ slot0 ++ slot1 ++ slot2) (seen [] [] [] [] [])
    -- round 22: the ACK, slot 0, hub 4
    ∷ after (shows (packet Ack 0 0 0 4)) (slot2 ++ slot0 ++ slot1 ++ slot2) (seen [] [] [] [] [])
    ∷ after done (slot2 ++ slot0 ++ slot1 ++ slot2) (seen [] [] [] [] [])
    ∷ []
unfolding moments
going_round_lem = once torn_over_three refl

-- slot 0 minus hub 4 modulo 3: the start slot is 2
pub start_slot_again : accepts four_routers going_round
    ≡ record { active = 0; passive = 0; start = record { 0 = 2 } } ∷ []
unfolding accepts
start_slot_again = once going_round_lem refl
