-- Whom an output picked, as the code looks at it: its senders by their numbers, and a sender's head.
use Rattle.std.specs.Prelude.{Bool, true, not, List, ℕ, ◌+◌, ◌*◌, ◌-◌, ◌/◌, ◌%◌, eqb, ltb, get_or}
use Rattle.basis.specs.Choice.{pick, also}
use Rattle.plan.specs.declared.Head.{Head}
use Rattle.plan.specs.Head.{destinations}
use Rattle.plan.specs.Plan.{Plan}
use Rattle.plan_queues.specs.Queue.{queue_at}
use Rattle.rules.specs.Outputs.{output_at}
use Rattle.rules.specs.Execute.{candidate}
use Rattle.bytes_layout.specs.Offsets.{handled_byte}
use Rattle.bytes_layout.specs.Decode.{decode}
use Rattle.check_frames.specs.Frame.{unit_of}
use Rattle.next_queue.specs.Next.{no_queue, base_of}

-- ---- the sender of rank k at output m, as a queue's number
unfoldable pub sender_in : Head → ℕ → ℕ → ℕ → ℕ
sender_in h r o k =
    pick (ltb o 4) (pick (ltb k 5) (base_of h r + 8 + 5 * o + k) no_queue)
    (pick (eqb o 4) (pick (ltb k 4) (base_of h r + k) no_queue) (pick (ltb k 4) (base_of h r + 4 + k) no_queue))

unfoldable pub sender_of : Head → ℕ → ℕ → ℕ
sender_of h m k =
    pick (ltb m (destinations h)) (pick (eqb k 0) m no_queue)
    (sender_in h ((m - destinations h) / 6) ((m - destinations h) % 6) k)

-- ---- the head of queue n, whose row stands at i
-- 'in Q a handled one'
unfoldable pub may_leave_at : Head → List ℕ → ℕ → ℕ → Bool
may_leave_at h b n i = pick (unit_of h n) (not (eqb (get_or b (i + handled_byte) 0) 0)) true

-- queue n is a candidate of output m, and its flag is down
unfoldable pub may_send : Plan → List ℕ → ℕ → ℕ → Bool
may_send pl b m n =
    also (candidate pl (decode pl b) (output_at pl m) (queue_at pl n)) (not ((decode pl b).flow.flag (queue_at pl n)))
