-- '*READ*: each wire's packet joins its queue and the wire empties. Each raised flag adds one credit to its queue and
-- is lowered.'
use Rattle.std.specs.Prelude.{Bool, true, false}
use Rattle.std.proofs.Math.Option.{Option, none, some}
use Rattle.basis.specs.Fold.{up_to}
use Rattle.packets.specs.declared.Packet.{Packet}
use Rattle.packets.specs.declared.Wire.{Wire}
use Rattle.packets.specs.declared.Wire.TheVariants.{Empty, Full}
use Rattle.packets.specs.declared.Phase.TheVariants.{Execute}
use Rattle.packets.specs.Counters.{credit_up}
use Rattle.plan.specs.Plan.{Plan}
use Rattle.plan_queues.specs.Queue.{Queue, queue_at, queues}
use Rattle.plan_queues.specs.Feeds.{Output}
use Rattle.rules.specs.Outputs.{next_by, outputs, output_at}
use Rattle.rules.specs.State.{State, with_phase, with_wire, with_credit, with_flag, join}

-- a packet joins its queue
abbrev pub arrived : Queue → Packet → State → State
arrived q x s = join q x s

-- its next queue; in a state every packet on a wire has one
abbrev pub join_next : Option Queue → Packet → State → State
join_next none x s = s
join_next (some q) x s = arrived q x s

unfoldable pub arrive : Plan → Output → Wire → State → State
arrive pl o Empty s = s
arrive pl o (Full x) s = join_next (next_by pl o x) x (with_wire o Empty s)

unfoldable pub deliver : Plan → Output → State → State
deliver pl o s = arrive pl o (s.links.wire o) s

unfoldable pub lower : Queue → Bool → State → State
lower q false s = s
lower q true s = with_flag q false (with_credit q (credit_up (s.flow.credit q)) s)

unfoldable pub settle : Queue → State → State
settle q s = lower q (s.flow.flag q) s

unfoldable pub do_read : Plan → State → State
do_read pl s =
    with_phase Execute
    (up_to (λ n. settle (queue_at pl n)) (queues pl) (up_to (λ n. deliver pl (output_at pl n)) (outputs pl) s))
