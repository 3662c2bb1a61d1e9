-- A packet at an offset: what the bytes that are read make.
use mathlib.Core.Path.{◌≡◌}
use mathlib.Core.List.{List}
use Prim.Native.Nat.{ℕ, ◌+◌}
use native.Mathlib.Nat.{add-zero}
use lib.ListN.{get_or}
use Rattle.packets.specs.declared.Kind.{Kind}
use Rattle.packets.specs.declared.Packet.{Packet}
use Rattle.bytes_layout.specs.Codes.{kind_of}
use Rattle.bytes_layout.specs.Places.{packet_at}

module _ (b : List ℕ) (at : ℕ) where
  pub packet_of : (k : Kind) → k ≡ kind_of (get_or b at 0)
      → ◌≡◌ {A = Packet}
      (record {
        kind = k;
        active = get_or b (at + 1) 0;
        passive = get_or b (at + 2) 0;
        slot = record { 0 = get_or b (at + 3) 0 };
        hub = record { 0 = get_or b (at + 4) 0 };
      }) (packet_at at b)
  unfolding packet_at
  packet_of k e = rw (e, add-zero at)
