-- Fields of plan T's first three bytes, 08 42 11, read by hand. As bits: 00001000 01000010 00010001.
use Rattle.std.specs.Prelude.{◌≡◌, refl, List, [], ◌∷◌, ℕ}
use Rattle.fields.specs.Bits.{bit_at, field_of}

abbrev begins : List ℕ
begins = 8 ∷ 66 ∷ 17 ∷ []

-- R is in the first byte alone; A is its last three bits and two of the next byte
pub routers_and_actives : (field_of begins 0 5 ≡ 1) × (field_of begins 5 5 ≡ 1)
unfolding field_of bit_at
routers_and_actives = (refl, refl)

-- P ends one bit before its byte does
pub passives : field_of begins 10 5 ≡ 1
unfolding field_of bit_at
passives = refl

-- S begins with a byte's last bit, 0 00010. Six bits of the second byte alone are another number
pub slots : (field_of begins 15 6 ≡ 2) × (field_of begins 16 6 ≡ 4)
unfolding field_of bit_at
slots = (refl, refl)
