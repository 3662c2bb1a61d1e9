-- The theorems of specs/Runs/TornDown.antt, where what they evaluate is told.
use Rattle.std.specs.Prelude.{◌≡◌, refl, [], ◌∷◌}
use Rattle.plan_queues.specs.Queue.{active_out, active_in, Q}
use Rattle.rules.specs.Runs.Watch.{after, moments}
use Rattle.plan.specs.Samples.{two_routers, four_routers}
use Rattle.packets.specs.Answers.{refused, done, shows}
use Rattle.rules.proofs.Runs.Closed.{closed_later_lem}
use Rattle.rules.specs.Runs.Watch.{once}
use Rattle.rules.specs.Runs.TornDown.{over_two, allowance_and_both, both, second, all_free, seen, places, quiet, setup}
use Rattle.rules.specs.Runs.TornDown.{nack, marked_nack, tdown, tdown_on, over_three, allowance_and_three, three}
use Rattle.rules.specs.Runs.TornDown.{last_two, last_one, none_booked, watched, still, nack3, marked3, tdown3, tdown2}
use Rattle.rules.specs.Runs.TornDown.{tdown1}

pub torn_over_two : moments two_routers allowance_and_both places over_two
    -- round 6: both routers have booked; round 7: declined
    ≡ after done (both 0) quiet
    ∷ after done (both 0) (seen [] [] [] [] (setup ∷ []))
    ∷ after done (both 0) quiet
    -- round 11: the NACK has come; Execute marks it and a TDOWN joins. The allowance is not back, neither at the
    -- arrival nor at the mark
    ∷ after done (both 0) (seen [] (nack ∷ []) [] [] [])
    ∷ after done (both 0) (seen (tdown ∷ []) (marked_nack ∷ []) [] [] [])
    ∷ after (refused 11) (both 0) (seen (tdown ∷ []) (marked_nack ∷ []) [] [] [])
    -- round 12: nor at the Look; it is back at the Drop
    ∷ after (shows marked_nack) (both 0) (seen (tdown ∷ []) (marked_nack ∷ []) [] [] [])
    ∷ after done (both 1) (seen (tdown ∷ []) [] [] [] [])
    -- round 14: the first router frees its entry and sends the TDOWN on
    ∷ after done (both 1) (seen [] [] (tdown ∷ []) [] [])
    ∷ after done (second 1) (seen [] [] (tdown_on ∷ []) [] [])
    -- round 17: the second frees its own, and the TDOWN ends
    ∷ after done (second 1) (seen [] [] [] (tdown_on ∷ []) [])
    ∷ after done (all_free 1) quiet
    ∷ after done (all_free 1) quiet
    ∷ []
unfolding moments
torn_over_two = once closed_later_lem refl

pub torn_over_three :
    moments four_routers allowance_and_three (active_out 1 ∷ active_in 1 ∷ Q 1 2 ∷ Q 2 0 ∷ Q 3 0 ∷ []) over_three
    -- rounds 10 and 11
    ≡ after done (three 0) still
    ∷ after done (three 0) still
    ∷ after done (three 0) still
    -- round 16: the NACK comes, and is marked; the allowance is not back
    ∷ after done (three 0) (watched [] (nack3 ∷ []) [] [] [])
    ∷ after done (three 0) (watched (tdown3 ∷ []) (marked3 ∷ []) [] [] [])
    ∷ after (refused 11) (three 0) (watched (tdown3 ∷ []) (marked3 ∷ []) [] [] [])
    -- round 17: it is back at the Drop
    ∷ after (shows marked3) (three 0) (watched (tdown3 ∷ []) (marked3 ∷ []) [] [] [])
    ∷ after done (three 1) (watched (tdown3 ∷ []) [] [] [] [])
    -- rounds 19, 22 and 25: freed one by one
    ∷ after done (three 1) (watched [] [] (tdown3 ∷ []) [] [])
    ∷ after done (last_two 1) (watched [] [] (tdown2 ∷ []) [] [])
    ∷ after done (last_two 1) (watched [] [] [] (tdown2 ∷ []) [])
    ∷ after done (last_one 1) (watched [] [] [] (tdown1 ∷ []) [])
    ∷ after done (last_one 1) (watched [] [] [] [] (tdown1 ∷ []))
    ∷ after done (none_booked 1) still
    ∷ after done (none_booked 1) still
    ∷ []
unfolding moments
torn_over_three = once torn_over_two refl
