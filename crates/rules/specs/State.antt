-- The state of a network, its Start, and one change for each of its parts. A new part touches its group alone.
use Rattle.std.specs.Prelude.{Bool, true, false, List, [], ◌∷◌, ◌++◌, ℕ, min, eqb}
use Rattle.kinds.specs.declared.Slot.{Slot}
use Rattle.kinds.specs.declared.Credit.{Credit}
use Rattle.packets.specs.declared.Packet.{Packet}
use Rattle.packets.specs.declared.Wire.{Wire}
use Rattle.packets.specs.declared.Wire.TheVariants.{Empty, Full}
use Rattle.packets.specs.declared.Phase.{Phase}
use Rattle.packets.specs.declared.Phase.TheVariants.{Read}
use Rattle.packets.specs.declared.Entry.{Entry}
use Rattle.packets.specs.declared.Entry.TheVariants.{Free, Booked}
use Rattle.plan.specs.Plan.{Plan}
use Rattle.plan_queues.specs.Queue.{Queue}
use Rattle.plan_queues.specs.Feeds.{Output}
use Rattle.rules.specs.Capacity.{capacity}
use Rattle.rules.specs.Store.{put, same_queue, same_output}
use Rattle.rules.specs.Connections.{Connection}
use Rattle.rules.specs.Outputs.{last_in_order}

-- an output's choice: nobody, or the sender of a rank in its order
pub data Choice : Type 0 where
  nobody : Choice
  sender : ℕ → Choice

-- ---- the state, by what changes together
-- the phase, and the current slot
pub record Clock : Type 0 where
  pub phase : Phase
  pub slot : Slot

-- a queue's packets, and in Q whether the head has been handled
pub record Lines : Type 0 where
  pub queue : Queue → List Packet
  pub handled : Queue → Bool

-- what may still be sent: a queue's credit and flag, an active's allowance
pub record Flow : Type 0 where
  pub credit : Queue → Credit
  pub flag : Queue → Bool
  pub allowance : ℕ → ℕ

-- an output's wire, and whom it picked
pub record Links : Type 0 where
  pub wire : Output → Wire
  pub choice : Output → Choice

pub record State : Type 0 where
  pub clock : Clock
  pub lines : Lines
  pub flow : Flow
  pub links : Links
  -- by router, side and slot
  pub table : ℕ → ℕ → ℕ → Entry
  -- 'the state now keeps the accepted connections' (document 02 (a)): by active, passive and start slot
  pub connections : ℕ → ℕ → ℕ → Bool
  -- 'each output remembers the last sender that a WRITE served' (document 02 (b)): its rank in the output's order
  pub last_sender : Output → ℕ

-- 'each active's allowance = the smaller of its two capacities'
abbrev pub start_allowance : Plan → ℕ
start_allowance pl = min pl.head.aout.0 pl.head.ain.0

-- nothing anywhere: 'READ, queues, wires and table empty, flags down, no choices, credit of each queue fed by a wire =
-- its capacity'; no connection is accepted; outputs look for a sender 'as if the last in order had sent'
unfoldable pub blank : Plan → State
blank pl =
    record {
      clock = record { phase = Read; slot = record { 0 = 0 } };
      lines = record { queue = λ q. []; handled = λ q. false };
      flow = record {
        credit = λ q. record { 0 = capacity pl.head q };
        flag = λ q. false;
        allowance = λ a. start_allowance pl;
      };
      links = record { wire = λ o. Empty; choice = λ o. nobody };
      table = λ r o t. Free;
      connections = λ a p t. false;
      last_sender = λ o. last_in_order o;
    }

-- '*Start*'
unfoldable pub start : Plan → State
start pl = blank pl

-- ---- one group changed
abbrev pub with_clock : Clock → State → State
with_clock x s =
    record {
      clock = x;
      lines = s.lines;
      flow = s.flow;
      links = s.links;
      table = s.table;
      connections = s.connections;
      last_sender = s.last_sender;
    }

abbrev pub with_lines : Lines → State → State
with_lines x s =
    record {
      clock = s.clock;
      lines = x;
      flow = s.flow;
      links = s.links;
      table = s.table;
      connections = s.connections;
      last_sender = s.last_sender;
    }

abbrev pub with_flow : Flow → State → State
with_flow x s =
    record {
      clock = s.clock;
      lines = s.lines;
      flow = x;
      links = s.links;
      table = s.table;
      connections = s.connections;
      last_sender = s.last_sender;
    }

abbrev pub with_links : Links → State → State
with_links x s =
    record {
      clock = s.clock;
      lines = s.lines;
      flow = s.flow;
      links = x;
      table = s.table;
      connections = s.connections;
      last_sender = s.last_sender;
    }

abbrev pub with_table : (ℕ → ℕ → ℕ → Entry) → State → State
with_table x s =
    record {
      clock = s.clock;
      lines = s.lines;
      flow = s.flow;
      links = s.links;
      table = x;
      connections = s.connections;
      last_sender = s.last_sender;
    }

abbrev pub with_connections : (ℕ → ℕ → ℕ → Bool) → State → State
with_connections x s =
    record {
      clock = s.clock;
      lines = s.lines;
      flow = s.flow;
      links = s.links;
      table = s.table;
      connections = x;
      last_sender = s.last_sender;
    }

abbrev pub with_last_senders : (Output → ℕ) → State → State
with_last_senders x s =
    record {
      clock = s.clock;
      lines = s.lines;
      flow = s.flow;
      links = s.links;
      table = s.table;
      connections = s.connections;
      last_sender = x;
    }

-- ---- one part changed
abbrev pub with_phase : Phase → State → State
with_phase x s = with_clock (record { phase = x; slot = s.clock.slot }) s

abbrev pub with_slot : Slot → State → State
with_slot x s = with_clock (record { phase = s.clock.phase; slot = x }) s

abbrev pub with_queue : Queue → List Packet → State → State
with_queue q x s = with_lines (record { queue = put same_queue s.lines.queue q x; handled = s.lines.handled }) s

abbrev pub with_handled : Queue → Bool → State → State
with_handled q x s = with_lines (record { queue = s.lines.queue; handled = put same_queue s.lines.handled q x }) s

abbrev pub with_credit : Queue → Credit → State → State
with_credit q x s =
    let f = s.flow in
    with_flow (record { credit = put same_queue f.credit q x; flag = f.flag; allowance = f.allowance }) s

abbrev pub with_flag : Queue → Bool → State → State
with_flag q x s =
    let f = s.flow in
    with_flow (record { credit = f.credit; flag = put same_queue f.flag q x; allowance = f.allowance }) s

abbrev pub with_allowance : ℕ → ℕ → State → State
with_allowance a x s =
    let f = s.flow in
    with_flow (record { credit = f.credit; flag = f.flag; allowance = put eqb f.allowance a x }) s

abbrev pub with_wire : Output → Wire → State → State
with_wire o x s = with_links (record { wire = put same_output s.links.wire o x; choice = s.links.choice }) s

abbrev pub with_choice : Output → Choice → State → State
with_choice o x s = with_links (record { wire = s.links.wire; choice = put same_output s.links.choice o x }) s

-- the one change of the table
abbrev pub with_entry : ℕ → ℕ → ℕ → Entry → State → State
with_entry r o t x s = with_table (put eqb s.table r (put eqb (s.table r) o (put eqb (s.table r o) t x))) s

-- the one change of the accepted connections
abbrev pub with_connection : ℕ → ℕ → ℕ → Bool → State → State
with_connection a p t x s =
    with_connections
    (put eqb s.connections a (put eqb (s.connections a) p (put eqb (s.connections a p) t x))) s

-- the one change of what an output remembers
abbrev pub with_last_sender : Output → ℕ → State → State
with_last_sender o k s = with_last_senders (put same_output s.last_sender o k) s

-- the state has a connection among the accepted ones
abbrev pub has_connection : State → Connection → Bool
has_connection s c = s.connections c.active c.passive c.start.0

-- ---- queues, first in first out
-- a packet joins a queue
unfoldable pub join : Queue → Packet → State → State
join q x s = with_queue q (s.lines.queue q ++ (x ∷ [])) s

abbrev pub is_free : Entry → Bool
is_free Free = true
is_free (Booked side) = false

abbrev pub is_full : Wire → Bool
is_full Empty = false
is_full (Full x) = true
