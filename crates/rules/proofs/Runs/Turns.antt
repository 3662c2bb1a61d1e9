-- The theorems of specs/Runs/Turns.antt, where what they evaluate is told.
use Rattle.std.specs.Prelude.{◌≡◌, refl, [], ◌∷◌}
use Rattle.packets.specs.declared.Kind.TheVariants.{Setup, Ack}
use Rattle.plan_queues.specs.Queue.{ahead, back, active_in, U, F, K}
use Rattle.rules.specs.Runs.Watch.{packet, after, moments}
use Rattle.plan.specs.Samples.{narrow_there, narrow_back, long_way_back}
use Rattle.packets.specs.Answers.{done}
use Rattle.rules.proofs.Runs.BothEnds.{fifth_sees_four}
use Rattle.rules.specs.Runs.Watch.{once}
use Rattle.rules.specs.Runs.Turns.{last_at_side, last_to_unit, two_senders, nack, first, second, other, three_senders}
use Rattle.rules.specs.Runs.Turns.{waiting, three_actives, of, skipped_round}

pub two_in_turn : moments narrow_back (last_at_side 1) (F back 0 1 ∷ K 0 0 1 ∷ []) two_senders
    ≡ after done (4 ∷ []) ([] ∷ [] ∷ [])
    -- round 5: answer F[1] goes, and is remembered
    ∷ after done (4 ∷ []) ((nack ∷ []) ∷ [] ∷ [])
    ∷ after done (1 ∷ []) ([] ∷ [] ∷ [])
    -- round 6: both wait. It is K[0,1]'s turn; EXECUTE picks it and remembers nothing yet
    ∷ after done (1 ∷ []) ((nack ∷ []) ∷ (first ∷ []) ∷ [])
    ∷ after done (1 ∷ []) ((nack ∷ []) ∷ (first ∷ []) ∷ [])
    ∷ after done (2 ∷ []) ((nack ∷ []) ∷ [] ∷ [])
    -- round 7: answer F[1] has two, and goes
    ∷ after done (2 ∷ []) ((nack ∷ nack ∷ []) ∷ [] ∷ [])
    ∷ after done (1 ∷ []) ((nack ∷ []) ∷ [] ∷ [])
    -- round 8: both wait, and it is K[0,1]'s turn again
    ∷ after done (1 ∷ []) ((nack ∷ []) ∷ (second ∷ []) ∷ [])
    ∷ after done (2 ∷ []) ((nack ∷ []) ∷ [] ∷ [])
    -- round 9: answer F[1]
    ∷ after done (2 ∷ []) ((nack ∷ []) ∷ [] ∷ [])
    ∷ after done (1 ∷ []) ([] ∷ [] ∷ [])
    ∷ []
unfolding moments
two_in_turn = once fifth_sees_four refl

pub three_in_turn : moments narrow_back (last_at_side 1) (F back 0 1 ∷ K 0 0 1 ∷ K 0 3 1 ∷ active_in 0 ∷ [])
    three_senders
    ≡ after done (4 ∷ []) (waiting [] [] [] [])
    -- round 6: 'as if the last in order had sent': answer F[1] goes first
    ∷ after done (4 ∷ []) (waiting (nack ∷ []) (first ∷ []) [] [])
    ∷ after done (1 ∷ []) (waiting [] (first ∷ []) [] [])
    -- round 7: all three wait, answer F[1] with a second NACK. It is K[0,1]'s turn
    ∷ after done (1 ∷ []) (waiting (nack ∷ []) (first ∷ []) (other ∷ []) (nack ∷ []))
    ∷ after done (2 ∷ []) (waiting (nack ∷ []) [] (other ∷ []) (nack ∷ []))
    -- round 8: K[3,1]'s
    ∷ after done (2 ∷ []) (waiting (nack ∷ []) [] (other ∷ []) (nack ∷ first ∷ []))
    ∷ after done (4 ∷ []) (waiting (nack ∷ []) [] [] (nack ∷ first ∷ []))
    -- round 9: answer F[1]'s, though K[0,1] has an ACK again
    ∷ after done (4 ∷ []) (waiting (nack ∷ []) (second ∷ []) [] (nack ∷ first ∷ other ∷ []))
    ∷ after done (1 ∷ []) (waiting [] (second ∷ []) [] (nack ∷ first ∷ other ∷ []))
    -- round 10: K[0,1]'s
    ∷ after done (1 ∷ []) (waiting [] (second ∷ []) [] (nack ∷ first ∷ other ∷ nack ∷ []))
    ∷ after done (2 ∷ []) (waiting [] [] [] (nack ∷ first ∷ other ∷ nack ∷ second ∷ []))
    ∷ []
unfolding moments
three_in_turn = once two_in_turn refl

pub unit_in_turn : moments narrow_there last_to_unit (U 0 1 ∷ U 0 2 ∷ U 0 3 ∷ []) three_actives
    ≡ after done (3 ∷ []) ([] ∷ [] ∷ [] ∷ [])
    -- round 1: U[1] goes; then U[2], U[3], and U[1] again
    ∷ after done (1 ∷ []) ([] ∷ (of 1 13 ∷ []) ∷ (of 2 11 ∷ []) ∷ [])
    ∷ after done (2 ∷ []) ((of 0 14 ∷ []) ∷ (of 1 12 ∷ []) ∷ (of 2 11 ∷ of 2 10 ∷ []) ∷ [])
    ∷ after done (3 ∷ []) ((of 0 14 ∷ []) ∷ (of 1 12 ∷ []) ∷ (of 2 10 ∷ []) ∷ [])
    ∷ after done (1 ∷ []) ([] ∷ (of 1 12 ∷ []) ∷ (of 2 10 ∷ []) ∷ [])
    ∷ after done (2 ∷ []) ([] ∷ [] ∷ (of 2 10 ∷ []) ∷ [])
    ∷ after done (3 ∷ []) ([] ∷ [] ∷ [] ∷ [])
    ∷ []
unfolding moments
unit_in_turn = once three_in_turn refl

pub skipped_changes_nothing : moments long_way_back (last_at_side 1) (F ahead 0 1 ∷ K 0 2 1 ∷ []) skipped_round
    -- round 10: both wait, nobody goes, and nothing is remembered: it is still set-up F[1]'s turn
    ≡ after done (4 ∷ []) ((packet Setup 0 0 11 1 ∷ []) ∷ (packet Ack 1 1 2 2 ∷ []) ∷ [])
    ∷ after done (4 ∷ []) ((packet Setup 0 0 11 1 ∷ []) ∷ (packet Ack 1 1 2 2 ∷ []) ∷ [])
    -- round 11: set-up F[1], of rank 0, goes; round 12: K[2,1], of rank 3
    ∷ after done (0 ∷ []) ([] ∷ (packet Ack 1 1 2 2 ∷ []) ∷ [])
    ∷ after done (3 ∷ []) ([] ∷ [] ∷ [])
    ∷ []
unfolding moments
skipped_changes_nothing = once unit_in_turn refl
