-- The byte of each value that is not a number, and the value of each byte. A byte that is no value's is read as some
-- value: comparing back tells. Those of packets, phases, flags and entries stand with their types.
use Rattle.std.specs.Prelude.{◌≡◌, refl, ℕ, zero, suc}
use Rattle.rules.specs.State.{Choice, nobody, sender}
pub use Rattle.packets.specs.Codes.{phase_code, phase_of, phase_code_lem, phase_small}
pub use Rattle.packets.specs.Codes.{kind_code, kind_of, kind_code_lem, kind_small}
pub use Rattle.packets.specs.Codes.{flag_code, flag_of, flag_code_lem, flag_small}
pub use Rattle.packets.specs.Codes.{entry_code, entry_from, entry_code_lem}

-- 0 nobody, else the sender's rank and one more
abbrev pub choice_code : Choice → ℕ
choice_code nobody = 0
choice_code (sender k) = suc k

abbrev pub choice_of : ℕ → Choice
choice_of zero = nobody
choice_of (suc k) = sender k

pub choice_code_lem : (x : Choice) → choice_of (choice_code x) ≡ x
choice_code_lem nobody = refl
choice_code_lem (sender k) = refl
