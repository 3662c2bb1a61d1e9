-- What the accepted calls of the interfaces do to the state: Launch, Reply, Drop and Close. Look does nothing to it.
use Rattle.std.specs.Prelude.{Bool, true, false, List, [], ◌∷◌, ℕ, ◌+◌, ◌-◌, eqb}
use Rattle.basis.specs.Choice.{pick}
use Rattle.packets.specs.declared.Kind.{Kind}
use Rattle.packets.specs.declared.Kind.TheVariants.{Setup, Tdown, Ack, Nack}
use Rattle.packets.specs.declared.Packet.{Packet}
use Rattle.plan.specs.Plan.{Plan}
use Rattle.plan_queues.specs.Queue.{active_out, active_in, passive_in, passive_out}
use Rattle.plan_queues.specs.Feeds.{span}
use Rattle.rules.specs.Connections.{Connection, connection_of}
use Rattle.rules.specs.State.{State, with_queue, with_flag, with_allowance, with_connection, join}
use Rattle.rules.specs.Execute.{unmarked}

-- ---- 'a SETUP, hub 0, joins and the allowance falls by one'
abbrev pub setup_of : ℕ → ℕ → ℕ → Packet
setup_of a p t = record { kind = Setup; active = a; passive = p; slot = record { 0 = t }; hub = record { 0 = 0 } }

-- an allowance of 0 has been refused
unfoldable pub launched : ℕ → ℕ → ℕ → State → State
launched a p t s = with_allowance a (s.flow.allowance a - 1) (join (active_out a) (setup_of a p t) s)

-- ---- 'the head becomes ACK or NACK, slot and hub kept, in the out-queue; the flag rises'
-- '1 accept or 0 decline'
abbrev pub reply_kind : ℕ → Kind
reply_kind c = pick (eqb c 1) Ack Nack

abbrev pub replied_as : Kind → Packet → Packet
replied_as k x = record { kind = k; active = x.active; passive = x.passive; slot = x.slot; hub = x.hub }

-- an empty in-queue has been refused
abbrev pub replied : ℕ → Kind → List Packet → State → State
replied p k [] s = s
replied p k (x ∷ rest) s =
    join (passive_out p) (replied_as k x) (with_flag (passive_in p) true (with_queue (passive_in p) rest s))

-- ---- 'the packet is .. removed, the flag rises, the allowance grows by one', by document 02 (c) with 'Drop'
unfoldable pub removed : ℕ → List Packet → State → State
removed a rest s =
    with_allowance a (s.flow.allowance a + 1) (with_flag (active_in a) true (with_queue (active_in a) rest s))

-- 'an ACK counts as accepted when dropped, with the numbers of the packet': its pair, and slot minus hub
abbrev pub accepting : Connection → State → State
accepting c s = with_connection c.active c.passive c.start.0 true s

abbrev pub noted_kind : Plan → Kind → Packet → State → State
noted_kind pl Setup x s = s
noted_kind pl Tdown x s = s
noted_kind pl Ack x s = accepting (connection_of pl x) s
noted_kind pl Nack x s = s

unfoldable pub noted : Plan → Packet → State → State
noted pl x s = noted_kind pl x.kind x s

-- 'Drop removes it and returns nothing'; an empty in-queue has been refused
abbrev pub dropped : Plan → ℕ → List Packet → State → State
dropped pl a [] s = s
dropped pl a (x ∷ rest) s = noted pl x (removed a rest s)

-- ---- 'it puts a TDOWN in the active's out-queue, slot the start slot, hub the number of routers on the walk, and the
-- connection leaves the accepted ones'
abbrev pub closing_of : Plan → ℕ → ℕ → ℕ → Packet
closing_of pl a p t =
    record { kind = Tdown; active = a; passive = p; slot = record { 0 = t }; hub = record { 0 = span pl a p } }

unfoldable pub closed : Plan → ℕ → ℕ → ℕ → State → State
closed pl a p t s = with_connection a p t false (join (active_out a) (closing_of pl a p t) s)

-- ---- the head of a queue
abbrev pub is_empty : List Packet → Bool
is_empty [] = true
is_empty (x ∷ xs) = false

-- 'head is an unmarked NACK'
abbrev pub head_unmarked : List Packet → Bool
head_unmarked [] = false
head_unmarked (x ∷ rest) = unmarked x
