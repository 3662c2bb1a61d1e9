-- A unit's queue taken from its row, and put back into it.
use Rattle.std.specs.Prelude.{Bool, not, ◌&&◌, List, ℕ, ◌+◌, ◌*◌, ◌≤◌, eqb, length, get_or, set}
use Rattle.std.proofs.lemmas.List.Edits.{sets}
use Rattle.basis.specs.Choice.{pick}
use Rattle.packets.specs.declared.Packet.{Packet}
use Rattle.packets.specs.declared.Entry.{Entry}
use Rattle.rules.specs.State.{is_free}
use Rattle.phase_unit.specs.declared.Queue.{Queue}
use Rattle.phase_unit.specs.Handled.{Ready, handled_of}
use Rattle.bytes_layout.specs.Offsets.{flag_byte, handled_byte, length_byte, first_place, places, queue_width}
use Rattle.bytes_layout.specs.Offsets.{entry_width}
use Rattle.bytes_layout.specs.Places.{packet_bytes}
use Rattle.bytes_layout.specs.Decode.{length_at, entry_at}
use Rattle.bytes_layout.specs.Updates.{pop_at}

-- flag, mark and length of the row at an offset, and x for its head
abbrev pub queue_of : ℕ → Packet → List ℕ → Queue
queue_of at x b =
    record {
      flag = get_or b (at + flag_byte) 0;
      mark = get_or b (at + handled_byte) 0;
      len = get_or b (at + length_byte) 0;
      head = x;
    }

-- a raised flag: the head ended; else the head stands in the first place with its mark
unfoldable pub put_back : ℕ → Queue → List ℕ → List ℕ
put_back at q b =
    pick (eqb q.flag 0) (set (sets b (at + first_place) (packet_bytes q.head)) (at + handled_byte) q.mark)
    (set (pop_at at b) (at + flag_byte) q.flag)

-- taken, handled, put back
unfoldable pub settled : ℕ → Packet → ℕ → ℕ → List ℕ → List ℕ
settled at x may slots b = put_back at (handled_of (queue_of at x b) may slots) b

-- what that asks: the row inside the bytes, and a head that can be handled
pub record Settles (at : ℕ) (x : Packet) (slots : ℕ) (b : List ℕ) : Type 0 where
  pub inside : at + queue_width ≤ length b
  pub few : length_at at b ≤ places
  pub ready : Ready (queue_of at x b) slots

-- ---- the entries of a side, which begin at an offset
unfoldable pub entries_at : ℕ → List ℕ → ℕ → Entry
entries_at at b u = entry_at (at + entry_width * u) b

-- slot u is another than t, and its entry is free
unfoldable pub spares : (ℕ → Entry) → ℕ → ℕ → Bool
spares entries t u = not (eqb u t) && is_free (entries u)
