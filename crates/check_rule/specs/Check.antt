-- Refusal 7's test by one pass over the bytes, as the code makes it: proofs/Equal shows that it is the landed one.
use Rattle.std.specs.Prelude.{Bool, List, ℕ, leb, length}
use Rattle.basis.specs.Choice.{also}
use Rattle.basis.specs.Bounded.{all_below}
use Rattle.plan.specs.Plan.{Plan, R}
use Rattle.plan_queues.specs.Queue.{Queue}
use Rattle.plan_queues.specs.Feeds.{Output}
use Rattle.valid.specs.Ties.{pair_ties}
use Rattle.valid.specs.Test.{every_queue, every_output, allowances_test, turns_test}
use Rattle.bytes_layout.specs.Offsets.{pairs, size, queue_row, output_row}
use Rattle.bytes_layout.specs.Decode.{decode}
use Rattle.check_rule.specs.Forms.{header_form, queue_form, output_form, side_form, starts_form}
use Rattle.check_rule.specs.Parts.{queue_test, output_test, pick_test, side_test}

-- one output's row, one queue's row, one side's entries
unfoldable pub output_row_test : Plan → List ℕ → Output → Bool
output_row_test pl b o = also (output_form (output_row pl o) b) (output_test pl (decode pl b) o)

unfoldable pub queue_row_test : Plan → List ℕ → Queue → Bool
queue_row_test pl b q = also (queue_form (queue_row pl q) b) (queue_test pl (decode pl b) q)

unfoldable pub side_row_test : Plan → List ℕ → ℕ → ℕ → Bool
side_row_test pl b r o = also (side_form pl r o b) (side_test pl (decode pl b) r o)

-- ---- the parts, in the order in which the code looks at them
unfoldable pub outputs_part : Plan → List ℕ → Bool
outputs_part pl b = every_output pl (output_row_test pl b)

unfoldable pub queues_part : Plan → List ℕ → Bool
queues_part pl b = every_queue pl (queue_row_test pl b)

unfoldable pub picks_part : Plan → List ℕ → Bool
picks_part pl b = every_output pl (pick_test pl (decode pl b))

unfoldable pub allowances_part : Plan → List ℕ → Bool
allowances_part pl b = allowances_test pl (decode pl b)

unfoldable pub tables_part : Plan → List ℕ → Bool
tables_part pl b = all_below (R pl) (λ r. all_below 4 (λ o. side_row_test pl b r o))

-- one pair's accepted connections
unfoldable pub pair_test : Plan → List ℕ → ℕ → Bool
pair_test pl b n = also (starts_form pl b n) (pair_ties pl (decode pl b) n)

unfoldable pub connections_part : Plan → List ℕ → Bool
connections_part pl b = all_below (pairs pl) (pair_test pl b)

unfoldable pub turns_part : Plan → List ℕ → Bool
turns_part pl b = turns_test pl (decode pl b)

unfoldable pub check_of : Plan → List ℕ → Bool
check_of pl b =
    also (leb (size pl) (length b))
    (also (header_form pl b)
    (also (outputs_part pl b)
    (also (queues_part pl b) (also (picks_part pl b)
    (also (allowances_part pl b) (also (tables_part pl b) (also (connections_part pl b) (turns_part pl b))))))))
