-- The byte of each value of a packet, a phase, a flag and an entry, and the value of each byte. A byte that is no
-- value's is read as some value: comparing back tells.
use Rattle.std.specs.Prelude.{◌≡◌, refl, Bool, true, false, ℕ, zero, suc, ◌≤◌}
use Rattle.std.proofs.Common.{arith}
use Rattle.packets.specs.declared.Kind.{Kind}
use Rattle.packets.specs.declared.Kind.TheVariants.{Setup, Tdown, Ack, Nack}
use Rattle.packets.specs.declared.Phase.{Phase}
use Rattle.packets.specs.declared.Phase.TheVariants.{Read, Execute, Write}
use Rattle.packets.specs.declared.Entry.{Entry}
use Rattle.packets.specs.declared.Entry.TheVariants.{Free, Booked}

-- 0 READ, 1 EXECUTE, 2 WRITE
abbrev pub phase_code : Phase → ℕ
phase_code Read = 0
phase_code Execute = 1
phase_code Write = 2

abbrev pub phase_of : ℕ → Phase
phase_of zero = Read
phase_of (suc zero) = Execute
phase_of (suc (suc n)) = Write

-- a value's byte is read as that value: so each of the four
pub phase_code_lem : (x : Phase) → phase_of (phase_code x) ≡ x
phase_code_lem Read = refl
phase_code_lem Execute = refl
phase_code_lem Write = refl

-- 0 SETUP, 1 TDOWN, 2 ACK, 3 NACK
abbrev pub kind_code : Kind → ℕ
kind_code Setup = 0
kind_code Tdown = 1
kind_code Ack = 2
kind_code Nack = 3

abbrev pub kind_of : ℕ → Kind
kind_of zero = Setup
kind_of (suc zero) = Tdown
kind_of (suc (suc zero)) = Ack
kind_of (suc (suc (suc n))) = Nack

pub kind_code_lem : (x : Kind) → kind_of (kind_code x) ≡ x
kind_code_lem Setup = refl
kind_code_lem Tdown = refl
kind_code_lem Ack = refl
kind_code_lem Nack = refl

-- 0 down, not handled; 1 up, handled
abbrev pub flag_code : Bool → ℕ
flag_code false = 0
flag_code true = 1

abbrev pub flag_of : ℕ → Bool
flag_of zero = false
flag_of (suc n) = true

pub flag_code_lem : (x : Bool) → flag_of (flag_code x) ≡ x
flag_code_lem false = refl
flag_code_lem true = refl

-- 0 free, else the side by which the booking came in and one more
abbrev pub entry_code : Entry → ℕ
entry_code Free = 0
entry_code (Booked side) = suc side

abbrev pub entry_from : ℕ → Entry
entry_from zero = Free
entry_from (suc side) = Booked side

pub entry_code_lem : (x : Entry) → entry_from (entry_code x) ≡ x
entry_code_lem Free = refl
entry_code_lem (Booked side) = refl

-- ---- the codes are small
pub phase_small : (x : Phase) → phase_code x ≤ 2
phase_small Read = omega arith
phase_small Execute = omega arith
phase_small Write = omega arith

pub kind_small : (x : Kind) → kind_code x ≤ 3
kind_small Setup = omega arith
kind_small Tdown = omega arith
kind_small Ack = omega arith
kind_small Nack = omega arith

pub flag_small : (x : Bool) → flag_code x ≤ 1
flag_small false = omega arith
flag_small true = omega arith
