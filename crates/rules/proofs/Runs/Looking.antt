-- The theorems of specs/Runs/Looking.antt, where what they evaluate is told.
use Rattle.std.specs.Prelude.{◌≡◌, refl, [], ◌∷◌, ◌++◌}
use Rattle.plan_queues.specs.Queue.{active_in}
use Rattle.rules.specs.Connections.{connection}
use Rattle.rules.specs.Calls.{look}
use Rattle.rules.specs.Runs.Watch.{in_write}
use Rattle.rules.specs.Runs.Watch.{after, moments, accepts}
use Rattle.rules.specs.Runs.FirstBookings.{ack}
use Rattle.plan.specs.Samples.{plan_t, wider_t}
use Rattle.packets.specs.Answers.{refused, done, shows}
use Rattle.rules.proofs.Runs.Entries.{entries_told}
use Rattle.rules.specs.Runs.Watch.{once}
use Rattle.rules.specs.Runs.Looking.{any_phase, panel, both_accepted, next_head, first, second, both_panel}
use Rattle.rules.specs.Runs.Looking.{across_the_phase, unmarked_nack, marked_nack}

pub any_phase_lem : moments plan_t panel (active_in 0 ∷ []) any_phase
    ≡ after done (0 ∷ 0 ∷ 0 ∷ []) ([] ∷ [])
    ∷ after (refused 13) (0 ∷ 0 ∷ 0 ∷ []) ([] ∷ [])
    ∷ after (refused 9) (0 ∷ 0 ∷ 0 ∷ []) ([] ∷ [])
    -- one head, three phases, and nothing changes
    ∷ after (shows ack) (0 ∷ 0 ∷ 0 ∷ []) ((ack ∷ []) ∷ [])
    ∷ after (shows ack) (0 ∷ 0 ∷ 0 ∷ []) ((ack ∷ []) ∷ [])
    ∷ after (shows ack) (0 ∷ 0 ∷ 0 ∷ []) ((ack ∷ []) ∷ [])
    -- round 8
    ∷ after (refused 9) (0 ∷ 0 ∷ 0 ∷ []) ((ack ∷ []) ∷ [])
    ∷ after (shows ack) (0 ∷ 0 ∷ 0 ∷ []) ((ack ∷ []) ∷ [])
    ∷ after done (1 ∷ 1 ∷ 1 ∷ []) ([] ∷ [])
    ∷ after (refused 13) (1 ∷ 1 ∷ 1 ∷ []) ([] ∷ [])
    ∷ after (refused 14) (1 ∷ 1 ∷ 1 ∷ []) ([] ∷ [])
    ∷ []
unfolding moments
any_phase_lem = once entries_told refl

pub next_head_lem : moments wider_t both_panel (active_in 0 ∷ []) next_head
    -- round 8: the Drop accepts the connection that the Look before it showed, and not the next
    ≡ after (shows first) (0 ∷ 0 ∷ 0 ∷ 0 ∷ []) ((first ∷ second ∷ []) ∷ [])
    ∷ after done (1 ∷ 1 ∷ 1 ∷ 0 ∷ []) ((second ∷ []) ∷ [])
    ∷ after (shows second) (1 ∷ 1 ∷ 1 ∷ 0 ∷ []) ((second ∷ []) ∷ [])
    ∷ after (refused 14) (1 ∷ 1 ∷ 1 ∷ 0 ∷ []) ((second ∷ []) ∷ [])
    -- round 9: the flag goes down with Read
    ∷ after (shows second) (1 ∷ 1 ∷ 1 ∷ 0 ∷ []) ((second ∷ []) ∷ [])
    ∷ after (shows second) (1 ∷ 0 ∷ 1 ∷ 0 ∷ []) ((second ∷ []) ∷ [])
    ∷ after done (2 ∷ 1 ∷ 1 ∷ 1 ∷ []) ([] ∷ [])
    ∷ []
unfolding moments
next_head_lem = once any_phase_lem refl

-- ---- 'an ACK counts as accepted when dropped': after the Look of round 8, and at the end
pub looked_at_only : accepts wider_t ((both_accepted ++ in_write (look 0)) ∷ []) ≡ []
unfolding accepts
looked_at_only = once next_head_lem refl

pub both_dropped : accepts wider_t next_head ≡ connection 0 0 7 ∷ connection 0 0 6 ∷ []
unfolding accepts
both_dropped = once looked_at_only refl

pub marked_between : moments plan_t (λ s. []) (active_in 0 ∷ []) across_the_phase
    ≡ after (shows unmarked_nack) [] ((unmarked_nack ∷ []) ∷ [])
    ∷ after (shows marked_nack) [] ((marked_nack ∷ []) ∷ [])
    ∷ after done [] ([] ∷ [])
    ∷ []
unfolding moments
marked_between = once both_dropped refl
