-- What is asked of one queue, one output and one side of a table, all of it together: the parts of refusal 7's test,
-- gathered by the place that they look at.
use Rattle.std.specs.Prelude.{Bool, true, false, not, ◌||◌, ℕ, ◌+◌, eqb, leb, length}
use Rattle.basis.specs.Choice.{pick, also}
use Rattle.basis.specs.Bounded.{any_below, all_below}
use Rattle.packets.specs.declared.Phase.{Phase}
use Rattle.packets.specs.declared.Phase.TheVariants.{Read, Execute, Write}
use Rattle.plan.specs.Plan.{Plan, S}
use Rattle.plan_queues.specs.Queue.{Queue}
use Rattle.plan_queues.specs.Role.{is_unit}
use Rattle.plan_queues.specs.Feeds.{Output}
use Rattle.rules.specs.Capacity.{capacity}
use Rattle.rules.specs.Outputs.{senders}
use Rattle.rules.specs.State.{State, Choice, nobody, sender, is_free, is_full}
use Rattle.rules.specs.Write.{of_rank}
use Rattle.rules.specs.Calls.{is_phase}
use Rattle.rules.specs.Valid.{bit, on_wires, fed}
use Rattle.valid.specs.Test.{lined_test, wire_test, may_test, down_test, entry_test}

-- ---- a queue
-- its count of packets, its flag, its mark and its credit, c packets being on wires that lead to it
unfoldable pub frame_test : Plan → Phase → Queue → ℕ → Bool → Bool → ℕ → ℕ → Bool
frame_test pl phase q credit flag mark n c =
    also (leb n (capacity pl.head q))
    (also (not (is_phase phase Execute) || not flag)
    (also (fed pl q || not flag)
    (also (not mark || also (is_unit q) (not (eqb n 0)))
    (pick (fed pl q) (eqb (credit + n + c + bit flag) (capacity pl.head q))
    (eqb credit (capacity pl.head q))))))

-- and its packets
unfoldable pub queue_test : Plan → State → Queue → Bool
queue_test pl s q =
    also
    (frame_test pl s.clock.phase q (s.flow.credit q).0 (s.flow.flag q) (s.lines.handled q)
    (length (s.lines.queue q)) (on_wires pl q s))
    (lined_test pl q (s.lines.handled q) (s.lines.queue q))

-- ---- an output
abbrev pub is_nobody : Choice → Bool
is_nobody nobody = true
is_nobody (sender k) = false

-- its wire's packet, a wire only in READ, a choice only in WRITE
unfoldable pub output_test : Plan → State → Output → Bool
output_test pl s o =
    also (wire_test pl o (s.links.wire o))
    (also (is_phase s.clock.phase Read || not (is_full (s.links.wire o)))
    (is_phase s.clock.phase Write || is_nobody (s.links.choice o)))

-- whom it picked: a candidate whose flag is down
abbrev pub pick_test_of : Plan → State → Output → Choice → Bool
pick_test_of pl s o nobody = true
pick_test_of pl s o (sender k) = also (may_test pl s o (of_rank (senders o) k)) (down_test s (of_rank (senders o) k))

unfoldable pub pick_test : Plan → State → Output → Bool
pick_test pl s o = pick_test_of pl s o (s.links.choice o)

-- ---- a side's entries: each in range, and one free
unfoldable pub side_test : Plan → State → ℕ → ℕ → Bool
side_test pl s r o =
    also (all_below (S pl) (λ t. entry_test (s.table r o t))) (any_below (S pl) (λ t. is_free (s.table r o t)))
