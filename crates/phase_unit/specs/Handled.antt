-- What a unit makes of its queue: the rules of EXECUTE 1 on the queue's own struct.
use Rattle.std.specs.Prelude.{◌≡◌, ℕ, ◌-◌, ◌≤◌, ◌<◌, eqb}
use Rattle.basis.specs.Choice.{pick}
use Rattle.packets.specs.declared.Kind.{Kind}
use Rattle.packets.specs.declared.Kind.TheVariants.{Setup, Tdown, Ack, Nack}
use Rattle.packets.specs.declared.Packet.{Packet}
use Rattle.rules.specs.Execute.{declined, booked, freed}
use Rattle.phase_unit.specs.declared.Queue.{Queue}

-- what the head's numbers must be
pub record Ready (q : Queue) (slots : ℕ) : Type 0 where
  pub slot : q.head.slot.0 < slots
  pub few : slots ≤ 32
  pub some : 1 ≤ q.len
  pub setup : q.head.kind ≡ Setup → q.head.hub.0 < 16
  pub tdown : q.head.kind ≡ Tdown → 1 ≤ q.head.hub.0

-- 'the packet becomes a NACK .. Else .. hub and slot each grow by one'
unfoldable pub set_up : Packet → ℕ → ℕ → Packet
set_up x may slots = pick (eqb may 0) (declined x) (booked slots x)

-- the head has been handled and is now x
abbrev pub stays : Queue → Packet → Queue
stays q x = record { flag = q.flag; mark = 1; len = q.len; head = x }

-- 'the packet ends and Q's flag rises'
abbrev pub ends : Queue → Queue
ends q = record { flag = 1; mark = q.mark; len = q.len - 1; head = q.head }

-- 'with hub 1 the packet ends and Q's flag rises, else hub falls and slot grows by one'
unfoldable pub torn : Queue → ℕ → Queue
torn q slots = pick (eqb q.head.hub.0 1) (ends q) (stays q (freed slots q.head))

-- by the head's kind; an answer at a unit has been handled
abbrev pub handled_by : Kind → Queue → ℕ → ℕ → Queue
handled_by Setup q may slots = stays q (set_up q.head may slots)
handled_by Tdown q may slots = torn q slots
handled_by Ack q may slots = q
handled_by Nack q may slots = q

unfoldable pub handled_of : Queue → ℕ → ℕ → Queue
handled_of q may slots = handled_by q.head.kind q may slots
