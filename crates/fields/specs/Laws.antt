-- Laws of bits and fields.
use Rattle.std.specs.Prelude.{◌≡◌, List, ℕ, zero, suc, ◌+◌, ◌-◌, ◌*◌, ◌/◌, ◌%◌, ◌^◌, ◌≤◌, ◌<◌, get_or}
use Rattle.std.proofs.Common.{ap₂, mod-lt, add-one, arith, pow-add}
use Rattle.fields.specs.Bits.{bit_at, field_of}

-- a bit is 0 or 1
pub bit_lt : (b : List ℕ) (p : ℕ) → bit_at b p < 2
unfolding bit_at
bit_lt b p = mod-lt (get_or b (p / 8) 0 / 2 ^ (7 - p % 8)) (omega arith)

-- a field of w bits is below 2 ^ w
pub field_lt : (b : List ℕ) (p w : ℕ) → field_of b p w < 2 ^ w
unfolding field_of
field_lt b p zero = omega arith
field_lt b p (suc w) =
    let e : 2 ^ (w + 1) ≡ 2 ^ w * 2 ^ 1 = pow-add 2 w 1 in
    let f : 2 ^ suc w ≡ 2 ^ w * 2 = rw (← add-one w) e in
    omega (arith, field_lt b p w, bit_lt b (p + w))

-- the k-th bit of the byte at q
pub bit_of : (b : List ℕ) (q k p : ℕ) → p ≡ 8 * q + k → k ≤ 7 → bit_at b p ≡ get_or b q 0 / 2 ^ (7 - k) % 2
unfolding bit_at
bit_of b q k p e h =
    let i : p / 8 ≡ q = omega arith in
    let o : p % 8 ≡ k = omega arith in
    ap₂ (λ (i o : ℕ). get_or b i 0 / 2 ^ (7 - o) % 2) i o
