-- 'The *accepted connections*', told by the calls and the states before them: 'an ACK counts as accepted when dropped,
-- with the numbers of the packet that a Look just before would return' (document 02 (c)), 'with that packet's active
-- and passive and, as its start slot, the packet's slot minus hub modulo S'. From document 02 (a) on an accepted Close
-- takes its connection away again.
use Rattle.std.specs.Prelude.{List, [], ◌∷◌}
use Rattle.packets.specs.declared.Kind.{Kind}
use Rattle.packets.specs.declared.Kind.TheVariants.{Setup, Tdown, Ack, Nack}
use Rattle.packets.specs.declared.Packet.{Packet}
use Rattle.packets.specs.declared.Answer.{Answer}
use Rattle.packets.specs.declared.Answer.TheVariants.{Refused, Done, Shows, Holds, Remains}
use Rattle.plan.specs.Plan.{Plan}
use Rattle.plan_queues.specs.Queue.{active_in}
use Rattle.rules.specs.Connections.{Connection, connection, connection_of, without}
use Rattle.rules.specs.State.{State}
use Rattle.rules.specs.Calls.{Visit, of_launch, of_reply, of_look, of_drop, of_close, of_entry, of_remaining, Call}
use Rattle.rules.specs.Calls.{turn, visit}

-- where a call answers only that it was accepted the first, else the second
abbrev pub if_done : {X : Type 0} → Answer → X → X → X
if_done (Refused w) x y = y
if_done Done x y = x
if_done (Shows p) x y = y
if_done (Holds e) x y = y
if_done (Remains r) x y = y

-- 'an ACK counts as accepted': of the packets, no other
abbrev pub accept_kind : Plan → Kind → Packet → List Connection → List Connection
accept_kind pl Setup x cs = cs
accept_kind pl Tdown x cs = cs
accept_kind pl Ack x cs = connection_of pl x ∷ cs
accept_kind pl Nack x cs = cs

-- the in-queue's head before a Drop
abbrev pub accept_head : Plan → List Packet → List Connection → List Connection
accept_head pl [] cs = cs
accept_head pl (x ∷ rest) cs = accept_kind pl x.kind x cs

abbrev pub accept_visit : Plan → Visit → State → Answer → List Connection → List Connection
accept_visit pl (of_launch a p t) s x cs = cs
accept_visit pl (of_reply p c) s x cs = cs
accept_visit pl (of_look a) s x cs = cs
accept_visit pl (of_drop a) s x cs = if_done x (accept_head pl (s.lines.queue (active_in a)) cs) cs
-- 'and the connection leaves the accepted ones'
accept_visit pl (of_close a p t) s x cs = if_done x (without (connection a p t) cs) cs
accept_visit pl (of_entry r o t) s x cs = cs
accept_visit pl of_remaining s x cs = cs

-- one call on a state, and its answer: the connections accepted after it, and not closed since
abbrev pub accept : Plan → Call → State → Answer → List Connection → List Connection
accept pl (turn x) s a cs = cs
accept pl (visit v) s a cs = accept_visit pl v s a cs
