-- What Rust and C get: an answer as a number, and what a call returns as bytes.
use Rattle.std.specs.Prelude.{List, ◌++◌, ℕ, set}
use Rattle.std.proofs.lemmas.List.Edits.{sets}
use Rattle.kinds.specs.Refusals.{refusal_number}
use Rattle.packets.specs.declared.Answer.{Answer}
use Rattle.packets.specs.declared.Answer.TheVariants.{Refused, Done, Shows, Holds, Remains}
use Rattle.packets.specs.Answers.{entry_number}
use Rattle.bytes_layout.specs.Places.{packet_bytes}
use Rattle.bytes_layout.specs.Encode.{word_bytes}

-- 0 for what is accepted, else the refusal's number
abbrev pub answer_number : Answer → ℕ
answer_number (Refused w) = refusal_number w
answer_number Done = 0
answer_number (Shows x) = 0
answer_number (Holds e) = 0
answer_number (Remains x) = 0

-- a packet that is shown: kind, active, passive, slot, hub; else the bytes stay
abbrev pub shown_bytes : Answer → List ℕ → List ℕ
shown_bytes (Refused w) b = b
shown_bytes Done b = b
shown_bytes (Shows x) b = sets b 0 (packet_bytes x)
shown_bytes (Holds e) b = b
shown_bytes (Remains x) b = b

-- an entry: the side, 4 for free; else the bytes stay
abbrev pub entry_byte : Answer → List ℕ → List ℕ
entry_byte (Refused w) b = b
entry_byte Done b = b
entry_byte (Shows x) b = b
entry_byte (Holds e) b = set b 0 (entry_number e)
entry_byte (Remains x) b = b

-- what is left: the packets, then the rounds, four bytes each, the lowest first; else the bytes stay
abbrev pub remaining_bytes : Answer → List ℕ → List ℕ
remaining_bytes (Refused w) b = b
remaining_bytes Done b = b
remaining_bytes (Shows x) b = b
remaining_bytes (Holds e) b = b
remaining_bytes (Remains x) b = sets b 0 (word_bytes x.packets ++ word_bytes x.rounds)
