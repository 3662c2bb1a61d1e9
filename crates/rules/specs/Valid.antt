-- Refusal 7, 'not a state', on the abstract state: what a state must have, a part for each condition of document 01's
-- sentence.
use Rattle.std.specs.Prelude.{◌≡◌, ◌≢◌, Bool, true, false, List, [], ◌∷◌, ℕ, zero, suc, ◌+◌, ◌≤◌, ◌<◌, eqb, length}
use Rattle.std.proofs.Math.Option.{Option, none, some}
use Rattle.basis.specs.Choice.{pick}
use Rattle.basis.specs.Among.{In}
use Rattle.packets.specs.declared.Kind.{Kind}
use Rattle.packets.specs.declared.Kind.TheVariants.{Setup, Tdown, Ack, Nack}
use Rattle.packets.specs.declared.Packet.{Packet}
use Rattle.packets.specs.declared.Wire.{Wire}
use Rattle.packets.specs.declared.Wire.TheVariants.{Empty, Full}
use Rattle.packets.specs.declared.Phase.TheVariants.{Read, Execute, Write}
use Rattle.packets.specs.declared.Entry.TheVariants.{Free, Booked}
use Rattle.plan.specs.declared.Joint.{Joint}
use Rattle.plan.specs.declared.Joint.TheVariants.{Nothing, Router, Active, Passive}
use Rattle.plan.specs.Plan.{Plan, R, A, P, S}
use Rattle.plan_walks.specs.Served.{Served}
use Rattle.plan_queues.specs.Queue.{Queue, active_out, active_in, passive_in, passive_out, U, Q, F, K, Exists, queues}
use Rattle.plan_queues.specs.Queue.{queue_at}
use Rattle.plan_queues.specs.Feeds.{Output, of_active, of_passive, of_side, to_unit, from_unit, Place, in_queue, Fits}
use Rattle.plan_queues.specs.Feeds.{head_place}
use Rattle.rules.specs.Capacity.{capacity}
use Rattle.rules.specs.Store.{same_queue}
use Rattle.rules.specs.Outputs.{next_by, senders, last_in_order, outputs, output_at}
use Rattle.rules.specs.Connections.{Connection, Makes}
use Rattle.rules.specs.State.{State, sender, blank, start_allowance, has_connection}
use Rattle.rules.specs.Execute.{candidate}
use Rattle.rules.specs.Write.{of_rank}

-- ---- packets
-- 'packet .. out of range'
pub record PacketOk (pl : Plan) (x : Packet) : Type 0 where
  pub active : x.active < A pl
  pub passive : x.passive < P pl
  pub slot : x.slot.0 < S pl
  pub hub : x.hub.0 ≤ 16

-- a packet at a place where a journey of its served pair puts it, 'with a hub that fits that place'
pub record Belongs (pl : Plan) (at : Place) (x : Packet) : Type 0 where
  pub ranges : PacketOk pl x
  pub serves : Served pl x.active x.passive
  pub fits : Fits pl x.kind x.active x.passive x.hub.0 at

-- the head where it may be, and all behind it in the queue itself
abbrev pub Lined : Plan → Queue → Bool → List Packet → Type 0
Lined pl q done [] = record {}
Lined pl q done (x ∷ rest) = Belongs pl (head_place done q) x × ((y : Packet) → In y rest → Belongs pl (in_queue q) y)

-- ---- outputs of the plan
abbrev pub Drives : Plan → Output → Type 0
Drives pl (of_active a) = a < A pl
Drives pl (of_passive p) = p < P pl
Drives pl (of_side r o) = (r < R pl) × (o < 4)
Drives pl (to_unit r) = r < R pl
Drives pl (from_unit r) = r < R pl

-- a packet on a wire belongs in the queue that it goes to
pub record Carries (pl : Plan) (o : Output) (x : Packet) : Type 0 where
  pub queue : Queue
  pub next : next_by pl o x ≡ some queue
  pub belongs : Belongs pl (in_queue queue) x

-- ---- sums
abbrev pub bit : Bool → ℕ
bit true = 1
bit false = 0

-- the sum of f 0 to f (n - 1)
unfoldable pub sum : ℕ → (ℕ → ℕ) → ℕ
sum zero f = 0
sum (suc n) f = sum n f + f n

-- the packet on a wire is bound for a queue
abbrev pub goes_to : Queue → Option Queue → ℕ
goes_to q none = 0
goes_to q (some n) = bit (same_queue n q)

abbrev pub brings : Plan → Queue → Output → Wire → ℕ
brings pl q o Empty = 0
brings pl q o (Full x) = goes_to q (next_by pl o x)

-- 'wire': the packets on wires that are bound for a queue
unfoldable pub on_wires : Plan → Queue → State → ℕ
on_wires pl q s = sum (outputs pl) (λ n. brings pl q (output_at pl n) (s.links.wire (output_at pl n)))

-- weights of packets, over a queue, a wire, and all places
abbrev pub in_all : (Packet → ℕ) → List Packet → ℕ
in_all w [] = 0
in_all w (x ∷ rest) = w x + in_all w rest

abbrev pub in_wire : (Packet → ℕ) → Wire → ℕ
in_wire w Empty = 0
in_wire w (Full x) = w x

unfoldable pub total : Plan → (Packet → ℕ) → State → ℕ
total pl w s =
    sum (queues pl) (λ n. in_all w (s.lines.queue (queue_at pl n))) + sum (outputs pl)
    (λ n. in_wire w (s.links.wire (output_at pl n)))

-- 'its SETUPs, ACKs and NACKs'
abbrev pub spends_kind : Kind → ℕ
spends_kind Setup = 1
spends_kind Tdown = 0
spends_kind Ack = 1
spends_kind Nack = 1

abbrev pub spends : ℕ → Packet → ℕ
spends a x = pick (eqb x.active a) (spends_kind x.kind) 0

-- 'a queue fed by a wire': 'A wire enters each joined side and each interface from its neighbour; one leads from
-- router to unit, one back.' So U[i] and K[i,o] are fed where side i is joined, in-queues, Q and F always, out-queues
-- never.
abbrev pub is_joined : Joint → Bool
is_joined Nothing = false
is_joined (Router n t) = true
is_joined (Active n) = true
is_joined (Passive n) = true

abbrev pub fed : Plan → Queue → Bool
fed pl (active_out a) = false
fed pl (active_in a) = true
fed pl (passive_in p) = true
fed pl (passive_out p) = false
fed pl (U r i) = is_joined (pl.joint r i)
fed pl (Q r i) = true
fed pl (F h r o) = true
fed pl (K r i o) = is_joined (pl.joint r i)

-- ---- accepted connections: 'refusal 7 covers a mark for an unserved pair, one lacking any of its entries, or two that
-- share an entry' (document 02 (a)). They tie the accepted connections to the table; nothing ties the packets to it, so
-- these three are kept along a list from Start and not by each call alone.
pub record Ties (pl : Plan) (s : State) : Type 0 where
  pub serves : (c : Connection) → has_connection s c ≡ true → Served pl c.active c.passive
  pub booked : (c : Connection) → has_connection s c ≡ true → (r o t i : ℕ) → Makes pl c r o t i
      → s.table r o t ≡ Booked i
  pub apart : (c d : Connection) → has_connection s c ≡ true → has_connection s d ≡ true → (r o t i j : ℕ)
      → Makes pl c r o t i → Makes pl d r o t j → c ≡ d

-- ---- what outputs remember: 'each output remembers the last sender that a WRITE served' (document 02 (b))
pub record Turns (pl : Plan) (s : State) : Type 0 where
  -- the rank of one of its senders
  pub ranks : (o : Output) → Drives pl o → s.last_sender o < length (senders o)
  -- a side that is not joined serves nobody: it is as Start left it
  pub unjoined : (r o : ℕ) → r < R pl → o < 4 → is_joined (pl.joint r o) ≡ false
      → s.last_sender (of_side r o) ≡ last_in_order (of_side r o)

-- ---- a state
pub record Valid (pl : Plan) (s : State) : Type 0 where
  -- 'phase, slot .. out of range'
  pub slot : s.clock.slot.0 < S pl
  -- 'entry out of range'
  pub entries : (r o t i : ℕ) → r < R pl → o < 4 → t < S pl → s.table r o t ≡ Booked i → i < 4
  -- 'a queue over capacity'
  pub capacities : (q : Queue) → Exists pl q → length (s.lines.queue q) ≤ capacity pl.head q
  -- 'a packet where no journey of its pair puts it, or with a hub that doesn't fit that place'; 'an answer in Q that
  -- is not its handled head'
  pub places : (q : Queue) → Exists pl q → Lined pl q (s.lines.handled q) (s.lines.queue q)
  pub wires : (o : Output) → Drives pl o → (x : Packet) → s.links.wire o ≡ Full x → Carries pl o x
  -- 'a wire full outside READ'
  pub wires_empty : s.clock.phase ≢ Read → (o : Output) → Drives pl o → s.links.wire o ≡ Empty
  -- 'a choice outside WRITE or of no candidate'
  pub choices : (o : Output) (k : ℕ) → Drives pl o → s.links.choice o ≡ sender k
      → (s.clock.phase ≡ Write) × ((q : Queue) × (of_rank (senders o) k ≡ some q) × (candidate pl s o q ≡ true))
  -- 'a flag up in EXECUTE or on a queue whose head is picked'; a queue that no wire feeds has none
  pub flags_down : s.clock.phase ≡ Execute → (q : Queue) → Exists pl q → s.flow.flag q ≡ false
  pub picked_down : (o : Output) (k : ℕ) (q : Queue) → Drives pl o → s.links.choice o ≡ sender k
      → of_rank (senders o) k ≡ some q → s.flow.flag q ≡ false
  pub out_flags : (q : Queue) → Exists pl q → fed pl q ≡ false → s.flow.flag q ≡ false
  -- 'a handled mark on an empty Q'; no other queue has marks
  pub marks : (q : Queue) → Exists pl q → s.lines.handled q ≡ true
      → (r i : ℕ) × (q ≡ Q r i) × (s.lines.queue q ≢ [])
  -- 'a side with no free entry'
  pub free_entry : (r o : ℕ) → r < R pl → o < 4 → (t : ℕ) × (t < S pl) × (s.table r o t ≡ Free)
  -- 'credit + queued + wire + raised flag ≠ capacity of a queue fed by a wire'; where no wire feeds a queue its credit
  -- is not used: it is as Start left it
  pub credits : (q : Queue) → Exists pl q → fed pl q ≡ true
      → (s.flow.credit q).0 + length (s.lines.queue q) + on_wires pl q s + bit (s.flow.flag q)
      ≡ capacity pl.head q
  pub out_credits : (q : Queue) → Exists pl q → fed pl q ≡ false → (s.flow.credit q).0 ≡ capacity pl.head q
  -- 'an active's allowance + its SETUPs, ACKs and NACKs ≠ its start allowance'
  pub allowances : (a : ℕ) → a < A pl → s.flow.allowance a + total pl (spends a) s ≡ start_allowance pl
  -- the accepted connections and the table
  pub ties : Ties pl s
  -- what outputs remember is in range
  pub turns : Turns pl s

-- what lies outside the plan's places is blank
pub record Bounded (pl : Plan) (s : State) : Type 0 where
  pub queue : (q : Queue) → (Exists pl q → ⊥) → s.lines.queue q ≡ (blank pl).lines.queue q
  pub credit : (q : Queue) → (Exists pl q → ⊥) → s.flow.credit q ≡ (blank pl).flow.credit q
  pub flag : (q : Queue) → (Exists pl q → ⊥) → s.flow.flag q ≡ (blank pl).flow.flag q
  pub handled : (q : Queue) → (Exists pl q → ⊥) → s.lines.handled q ≡ (blank pl).lines.handled q
  pub wire : (o : Output) → (Drives pl o → ⊥) → s.links.wire o ≡ (blank pl).links.wire o
  pub choice : (o : Output) → (Drives pl o → ⊥) → s.links.choice o ≡ (blank pl).links.choice o
  pub table : (r o t : ℕ) → ((r < R pl) × (o < 4) × (t < S pl) → ⊥) → s.table r o t ≡ (blank pl).table r o t
  pub connection : (a p t : ℕ) → ((a < A pl) × (p < P pl) × (t < S pl) → ⊥)
      → s.connections a p t ≡ (blank pl).connections a p t
  pub allowance : (a : ℕ) → (a < A pl → ⊥) → s.flow.allowance a ≡ (blank pl).flow.allowance a
  pub last_sender : (o : Output) → (Drives pl o → ⊥) → s.last_sender o ≡ (blank pl).last_sender o
