-- The theorems of specs/Runs/Entries.antt, where what they evaluate is told.
use Rattle.std.specs.Prelude.{◌≡◌, refl, [], ◌∷◌}
use Rattle.rules.specs.Runs.Watch.{after, moments}
use Rattle.plan.specs.Samples.{all_sides}
use Rattle.packets.specs.Answers.{refused, holds}
use Rattle.rules.proofs.Runs.Heads.{one_head_a_round}
use Rattle.rules.specs.Runs.Watch.{once}
use Rattle.rules.specs.Runs.Entries.{asking, current_slot}

pub entries_told : moments all_sides current_slot [] asking
    -- round 0: free; a router, a side and a slot out of range
    ≡ after (holds 4) (0 ∷ []) []
    ∷ after (refused 9) (0 ∷ []) []
    ∷ after (refused 9) (0 ∷ []) []
    ∷ after (refused 9) (0 ∷ []) []
    -- round 2: not booked before its Execute
    ∷ after (holds 4) (2 ∷ []) []
    ∷ after (refused 9) (2 ∷ []) []
    -- booked from side 0 and, at router 1, from side 2; slot 1 of router 0 not yet
    ∷ after (holds 0) (2 ∷ []) []
    ∷ after (holds 2) (2 ∷ []) []
    ∷ after (holds 4) (2 ∷ []) []
    ∷ after (refused 9) (2 ∷ []) []
    -- round 7: router 0 has bookings from sides 0, 1 and 3, and one entry free; other entries of router 1 are free
    ∷ after (holds 0) (3 ∷ []) []
    ∷ after (holds 1) (3 ∷ []) []
    ∷ after (holds 3) (3 ∷ []) []
    ∷ after (holds 4) (3 ∷ []) []
    ∷ after (holds 4) (3 ∷ []) []
    ∷ after (holds 4) (3 ∷ []) []
    ∷ after (refused 9) (3 ∷ []) []
    ∷ []
unfolding moments
entries_told = once one_head_a_round refl
