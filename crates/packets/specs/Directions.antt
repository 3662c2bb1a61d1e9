-- Which packets go back to their active, and which of these tell it to tear down.
use Rattle.std.specs.Prelude.{Bool, true, false, not, ℕ, eqb}
use Rattle.packets.specs.declared.Kind.{Kind}
use Rattle.packets.specs.declared.Kind.TheVariants.{Setup, Tdown, Ack, Nack}
use Rattle.packets.specs.declared.Packet.{Packet}

-- 'ACK and NACK to the active'
abbrev pub goes_back : Kind → Bool
goes_back Setup = false
goes_back Tdown = false
goes_back Ack = true
goes_back Nack = true

-- 'A NACK with hub 0 is marked'
abbrev pub unmarked_kind : Kind → ℕ → Bool
unmarked_kind Setup hub = false
unmarked_kind Tdown hub = false
unmarked_kind Ack hub = false
unmarked_kind Nack hub = not (eqb hub 0)

abbrev pub unmarked : Packet → Bool
unmarked x = unmarked_kind x.kind x.hub.0
