-- Document 01's numbers and values of the answers.
use Rattle.std.specs.Prelude.{ℕ}
use Rattle.kinds.specs.Refusals.{refusal_number}
use Rattle.packets.specs.declared.Packet.{Packet}
use Rattle.packets.specs.declared.Entry.{Entry}
use Rattle.packets.specs.declared.Entry.TheVariants.{Free, Booked}
use Rattle.packets.specs.declared.Answer.{Answer}
use Rattle.packets.specs.declared.Answer.TheVariants.{Refused, Done, Shows, Holds, Remains}

-- 'the entry, 4 for free'
abbrev pub entry_number : Entry → ℕ
entry_number Free = 4
entry_number (Booked side) = side

-- 'returns only its number'; 'says only that'; 'Look returns the head'; 'the entry'; N and 256 × S × N
pub data Value : Type 0 where
  refused : ℕ → Value
  done : Value
  shows : Packet → Value
  holds : ℕ → Value
  remains : ℕ → ℕ → Value

abbrev pub value_of : Answer → Value
value_of (Refused w) = refused (refusal_number w)
value_of Done = done
value_of (Shows x) = shows x
value_of (Holds e) = holds (entry_number e)
value_of (Remains x) = remains x.packets x.rounds
