-- '*WRITE*: each picked head enters its wire, its queue's flag rises (none for out-queues), the next queue's credit
-- falls by one, choices are cleared. The slot grows by one modulo S.' 'The handled mark goes when that head leaves or
-- ends'. 'Each output remembers the last sender that a WRITE served' (document 02 (b)).
use Rattle.std.specs.Prelude.{true, false, List, [], ◌∷◌, ℕ, zero, suc}
use Rattle.std.proofs.Math.Option.{Option, none, some}
use Rattle.basis.specs.Fold.{up_to}
use Rattle.packets.specs.declared.Packet.{Packet}
use Rattle.packets.specs.declared.Wire.TheVariants.{Full}
use Rattle.packets.specs.declared.Phase.TheVariants.{Read}
use Rattle.packets.specs.Counters.{slot_next, credit_down}
use Rattle.plan.specs.Plan.{Plan, S}
use Rattle.plan_queues.specs.Queue.{Queue}
use Rattle.plan_queues.specs.Role.{Role, sending, receiving, handling, passing, role}
use Rattle.plan_queues.specs.Feeds.{Output}
use Rattle.rules.specs.Outputs.{next_by, senders, outputs, output_at}
use Rattle.rules.specs.State.{State, Choice, nobody, sender, with_phase, with_slot, with_queue, with_wire}
use Rattle.rules.specs.State.{with_credit, with_flag, with_handled, with_choice, with_last_sender}

-- the sender of a rank
abbrev pub of_rank : List Queue → ℕ → Option Queue
of_rank [] k = none
of_rank (q ∷ qs) zero = some q
of_rank (q ∷ qs) (suc k) = of_rank qs k

-- 'none for out-queues'
abbrev pub raise_as : Role → Queue → State → State
raise_as sending q s = s
raise_as receiving q s = with_flag q true s
raise_as (handling r i) q s = with_flag q true (with_handled q false s)
raise_as passing q s = with_flag q true s

abbrev pub raise : Queue → State → State
raise q s = raise_as (role q) q s

-- 'the next queue's credit falls by one'; a candidate has a next queue
abbrev pub spend : Option Queue → State → State
spend none s = s
spend (some q) s = with_credit q (credit_down (s.flow.credit q)) s

-- what is picked has a head: in WRITE a choice is of a candidate
unfoldable pub send_head : Plan → Output → Queue → List Packet → State → State
send_head pl o q [] s = s
send_head pl o q (x ∷ rest) s = with_wire o (Full x) (spend (next_by pl o x) (raise q (with_queue q rest s)))

-- and its rank is that of one of the output's senders
abbrev pub send_from : Plan → Output → Option Queue → State → State
send_from pl o none s = s
send_from pl o (some q) s = send_head pl o q (s.lines.queue q) s

-- a round in which nobody was picked changes nothing of what is remembered
unfoldable pub send_by : Plan → Output → Choice → State → State
send_by pl o nobody s = s
send_by pl o (sender k) s = with_last_sender o k (with_choice o nobody (send_from pl o (of_rank (senders o) k) s))

unfoldable pub send : Plan → Output → State → State
send pl o s = send_by pl o (s.links.choice o) s

unfoldable pub do_write : Plan → State → State
do_write pl s =
    with_phase Read (with_slot (slot_next s.clock.slot (S pl)) (up_to (λ n. send pl (output_at pl n)) (outputs pl) s))
