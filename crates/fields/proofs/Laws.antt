-- A field read from the one or two bytes that hold it is the number that its bits make, for every place and every
-- width up to eight. Assumes nothing.
use mathlib.Core.Path.{◌≡◌, refl, ap, ap₂, sym, ◌∙◌}
use mathlib.Core.List.{List, [], ◌∷◌}
use Prim.Native.Nat.{ℕ, zero, suc, ◌+◌, ◌-◌, ◌*◌, ◌/◌, ◌%◌, ◌^◌, ◌≤◌, ◌<◌}
use native.Mathlib.Nat.{mod-one, zero-div, div-one, one-mul, mul_assoc, add_assoc, add-zero, zero-add, mod-lt}
use native.Mathlib.Nat.{lt_of_lt_of_le, mul-mod_left}
use native.Mathlib.Numerals.{add-one}
use native.Mathlib.Omega.{arith}
use lib.ListN.{get_or}
use lib.Pow.{pow-add, pow_pos, pow_mono, mod-pow-add, mod-mod-pow, shr-shr, shr_mod, shr_lt, shl-shr, shl_exact}
use Rattle.fields.specs.Bits.{bit_at, field_of, bits_of}
use Rattle.fields.specs.Laws.{bit_of}

-- ---- bits of one byte
-- w bits that begin o bits behind the byte's first
pub in_byte : (s : List ℕ) (i o w : ℕ) → o + w ≤ 8 → get_or s i 0 / 2 ^ (8 - (o + w)) % 2 ^ w ≡ field_of s (8 * i + o) w
unfolding field_of
in_byte s i o zero h = mod-one (get_or s i 0 / 2 ^ (8 - (o + 0)))
in_byte s i o (suc w) h =
    let x : ℕ = get_or s i 0 / 2 ^ (8 - (o + suc w)) in
    let k : 8 - (o + suc w) + 1 ≡ 8 - (o + w) = omega arith in
    let last : 8 - (o + suc w) ≡ 7 - (o + w) = omega arith in
    ap (λ (n : ℕ). x % 2 ^ n) (sym (add-one w))
    ∙ mod-pow-add x w 1
    ∙ ap₂ (λ (y b : ℕ). y * 2 + b)
    (ap (λ (n : ℕ). n % 2 ^ w) (shr-shr (get_or s i 0) (8 - (o + suc w)) 1 ∙ ap (λ (n : ℕ). get_or s i 0 / 2 ^ n) k)
    ∙ in_byte s i o w (omega arith))
    (ap (λ (n : ℕ). get_or s i 0 / 2 ^ n % 2) last
    ∙ sym (bit_of s i (o + w) (8 * i + o + w) (omega arith) (omega arith)))

-- ---- two runs of bits, one behind the other
pub behind : (s : List ℕ) (p v w : ℕ) → field_of s p (v + w) ≡ field_of s p v * 2 ^ w + field_of s (p + v) w
unfolding field_of
behind s p v zero = ap (field_of s p) (add-zero v) ∙ omega arith
behind s p v (suc w) =
    let one_more : v + suc w ≡ suc (v + w) = omega arith in
    let e : 2 ^ suc w ≡ 2 ^ w * 2 = ap (λ (n : ℕ). 2 ^ n) (sym (add-one w)) ∙ pow-add 2 w 1 in
    let here : bit_at s (p + (v + w)) ≡ bit_at s (p + v + w) = ap (bit_at s) (sym (add_assoc p v w)) in
    let more : field_of s p v * 2 ^ suc w ≡ field_of s p v * 2 ^ w * 2 =
    ap (λ (n : ℕ). field_of s p v * n) e ∙ sym (mul_assoc (field_of s p v) (2 ^ w) 2) in
    ap (field_of s p) one_more ∙ omega (arith, behind s p v w, here, more)

-- ---- a field and the bytes that hold it
-- all of it is in the byte in which it begins
pub held_by_one : (s : List ℕ) (p w : ℕ) → p % 8 + w ≤ 8
    → get_or s (p / 8) 0 / 2 ^ (8 - (p % 8 + w)) % 2 ^ w ≡ field_of s p w
held_by_one s p w h =
    let place : 8 * (p / 8) + p % 8 ≡ p = omega arith in
    in_byte s (p / 8) (p % 8) w h ∙ ap (λ (q : ℕ). field_of s q w) place

-- it is the last bits of that byte and the first ones of the next
pub held_by_two : (s : List ℕ) (p w more : ℕ) → more ≡ p % 8 + w - 8 → 8 ≤ p % 8 + w → w ≤ 8
    → get_or s (p / 8) 0 % 2 ^ (w - more) * 2 ^ more + get_or s (p / 8 + 1) 0 / 2 ^ (8 - more) % 2 ^ more ≡ field_of s p
    w
held_by_two s p w more m h l =
    let end : 8 - (p % 8 + (w - more)) ≡ 0 = omega arith in
    let place : 8 * (p / 8) + p % 8 ≡ p = omega arith in
    let next : 8 * (p / 8 + 1) + 0 ≡ p + (w - more) = omega arith in
    let parts : w - more + more ≡ w = omega arith in
    ap₂ (λ (x y : ℕ). x * 2 ^ more + y)
    (ap (λ (n : ℕ). n % 2 ^ (w - more)) (sym (div-one (get_or s (p / 8) 0)))
    ∙ ap (λ (k : ℕ). get_or s (p / 8) 0 / 2 ^ k % 2 ^ (w - more)) (sym end)
    ∙ in_byte s (p / 8) (p % 8) (w - more) (omega arith) ∙ ap (λ (q : ℕ). field_of s q (w - more)) place)
    (ap (λ (k : ℕ). get_or s (p / 8 + 1) 0 / 2 ^ (8 - k) % 2 ^ more) (sym (zero-add more))
    ∙ in_byte s (p / 8 + 1) 0 more (omega arith) ∙ ap (λ (q : ℕ). field_of s q more) next)
    ∙ sym (behind s p (w - more) more) ∙ ap (field_of s p) parts

-- ---- what the code computes with its shifts
pub power_is : (n : ℕ) → n < 8 → 1 * 2 ^ n % 256 ≡ 2 ^ n
power_is n h = shl_exact 1 n 8 (omega arith) (omega arith) ∙ one-mul (2 ^ n)

-- a byte's last bits, moved up to the place that they have in the field
last_bits : (x w more : ℕ) → more ≤ w → w ≤ 8 → x * 2 ^ more % 256 % 2 ^ w ≡ x % 2 ^ (w - more) * 2 ^ more
last_bits x w more h l =
    let byte : 8 ≡ 8 - w + w = omega arith in
    let parts : w ≡ w - more + more = omega arith in
    ap (λ (k : ℕ). x * 2 ^ more % 2 ^ k % 2 ^ w) byte
    ∙ mod-mod-pow (x * 2 ^ more) (8 - w) w
    ∙ ap (λ (k : ℕ). x * 2 ^ more % 2 ^ k) parts
    ∙ mod-pow-add (x * 2 ^ more) (w - more) more
    ∙ ap₂ (λ (y z : ℕ). y % 2 ^ (w - more) * 2 ^ more + z) (shl-shr x more) (mul-mod_left x (2 ^ more))
    ∙ add-zero (x % 2 ^ (w - more) * 2 ^ more)

-- the next byte's first bits
first_bits : (y more : ℕ) → y < 256 → more ≤ 8 → y / 2 ^ (8 - more) ≡ y / 2 ^ (8 - more) % 2 ^ more
first_bits y more h l =
    let byte : 8 ≡ more + (8 - more) = omega arith in
    sym (shr_mod more (8 - more) (rw (← byte) h))

-- both parts, as the code adds them
pub parts_are : (s : List ℕ) (p w more : ℕ) → more ≡ p % 8 + w - 8 → 8 ≤ p % 8 + w → w ≤ 8
    → get_or s (p / 8 + 1) 0 < 256
    → get_or s (p / 8) 0 * 2 ^ more % 256 % 2 ^ w + get_or s (p / 8 + 1) 0 / 2 ^ (8 - more) ≡ field_of s p w
parts_are s p w more m h l small =
    ap₂ ◌+◌ (last_bits (get_or s (p / 8) 0) w more (omega arith) l)
    (first_bits (get_or s (p / 8 + 1) 0) more small (omega arith))
    ∙ held_by_two s p w more m h l

-- the two parts fit into a byte, wherever the second is cut
pub parts_fit : (n w y k : ℕ) → w ≤ 6 → y < 256 → 1 ≤ k → n % 2 ^ w + y / 2 ^ k < 256
parts_fit n w y k h small one =
    let first = lt_of_lt_of_le (mod-lt n (pow_pos w)) (pow_mono {i = w} {j = 6} h) in
    let wide = lt_of_lt_of_le small (pow_mono {i = 8} {j = 7 + k} (omega arith)) in
    omega (arith, first, shr_lt {n = y} 7 k wide)

-- the bits by position are those of the list of all bits
pub bits_at : (s : List ℕ) (p : ℕ) → get_or (bits_of s) p 0 ≡ bit_at s p
unfolding bits_of bit_at
bits_at [] p = sym (ap (λ (n : ℕ). n % 2) (zero-div (2 ^ (7 - p % 8))))
bits_at (b ∷ s) zero = refl
bits_at (b ∷ s) (suc zero) = refl
bits_at (b ∷ s) (suc (suc zero)) = refl
bits_at (b ∷ s) (suc (suc (suc zero))) = refl
bits_at (b ∷ s) (suc (suc (suc (suc zero)))) = refl
bits_at (b ∷ s) (suc (suc (suc (suc (suc zero))))) = refl
bits_at (b ∷ s) (suc (suc (suc (suc (suc (suc zero)))))) = refl
bits_at (b ∷ s) (suc (suc (suc (suc (suc (suc (suc zero))))))) = sym (ap (λ (n : ℕ). n % 2) (div-one b))
bits_at (b ∷ s) (suc (suc (suc (suc (suc (suc (suc (suc q)))))))) =
    bits_at s q ∙ ap₂ (λ (i k : ℕ). get_or (b ∷ s) i 0 / 2 ^ (7 - k) % 2) next same
  where
    next : suc (q / 8) ≡ suc (suc (suc (suc (suc (suc (suc (suc q))))))) / 8
    next = omega arith

    same : q % 8 ≡ suc (suc (suc (suc (suc (suc (suc (suc q))))))) % 8
    same = omega arith
