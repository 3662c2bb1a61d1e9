-- Bytes in range are the codes of what they are read as.
use mathlib.Core.Path.{◌≡◌, refl, sym, ap, ◌∙◌}
use mathlib.Core.Bool.{true}
use mathlib.Core.List.{List}
use Prim.Native.Nat.{ℕ, zero, suc, ◌+◌, ◌-◌, ◌≤◌, ◌<◌}
use native.Mathlib.Omega.{arith}
use lib.ListN.{get_or}
use borrow.Author.Tests.{eqb-true}
use Rattle.basis.specs.Bounded.{all_at}
use Rattle.bytes_layout.specs.Codes.{phase_code, phase_of, kind_code, kind_of, flag_code, flag_of, choice_code}
use Rattle.bytes_layout.specs.Codes.{choice_of, entry_code}
use Rattle.bytes_layout.specs.Codes.{entry_from}
use Rattle.check_rule.specs.Forms.{zeros}

pub phase_byte_lem : (n : ℕ) → n ≤ 2 → phase_code (phase_of n) ≡ n
phase_byte_lem zero h = refl
phase_byte_lem (suc zero) h = refl
phase_byte_lem (suc (suc zero)) h = refl
phase_byte_lem (suc (suc (suc n))) h = absurd (omega arith)

pub kind_byte : (n : ℕ) → n ≤ 3 → kind_code (kind_of n) ≡ n
kind_byte zero h = refl
kind_byte (suc zero) h = refl
kind_byte (suc (suc zero)) h = refl
kind_byte (suc (suc (suc zero))) h = refl
kind_byte (suc (suc (suc (suc n)))) h = absurd (omega arith)

pub flag_byte_lem : (n : ℕ) → n ≤ 1 → flag_code (flag_of n) ≡ n
flag_byte_lem zero h = refl
flag_byte_lem (suc zero) h = refl
flag_byte_lem (suc (suc n)) h = absurd (omega arith)

-- every byte is a choice's, and an entry's
pub choice_byte_lem : (n : ℕ) → choice_code (choice_of n) ≡ n
choice_byte_lem zero = refl
choice_byte_lem (suc n) = refl

pub entry_byte : (n : ℕ) → entry_code (entry_from n) ≡ n
entry_byte zero = refl
entry_byte (suc n) = refl

-- ---- zero bytes
pub zeros_get : (i n : ℕ) (b : List ℕ) → zeros i n b ≡ true → (k : ℕ) → k < n → get_or b (i + k) 0 ≡ 0
unfolding zeros
zeros_get i n b e k h = eqb-true (get_or b (i + k) 0) 0 (all_at n _ e k h)

-- the same by the byte's own offset
pub zeros_byte : (i n j : ℕ) (b : List ℕ) → zeros i n b ≡ true → i ≤ j → j < i + n → get_or b j 0 ≡ 0
zeros_byte i n j b e h l =
    let p : i + (j - i) ≡ j = omega arith in
    ap (λ k. get_or b k 0) (sym p) ∙ zeros_get i n b e (j - i) (omega arith)
