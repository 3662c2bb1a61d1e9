-- Rows of zero bytes, looked at four bytes at a time.
use mathlib.Core.Path.{◌≡◌, refl, sym, ◌∙◌}
use mathlib.Core.Logic.{◌⊎◌, inl, inr, ◌≢◌}
use mathlib.Core.Bool.{true, false}
use mathlib.Core.List.{List}
use Prim.Native.Nat.{ℕ, zero, suc, ◌+◌, ◌-◌, ◌≤◌, ◌<◌}
use native.Mathlib.Nat.{add-zero}
use native.Mathlib.Omega.{arith}
use lib.Dec.{eqb, leb}
use lib.ListN.{get_or}
use borrow.Author.Tests.{eq-eqb, ne_eqb}
use Rattle.basis.specs.Choice.{refuted}
use Rattle.basis.specs.Bounded.{all_of, lt_or_ge}
use Rattle.check_rule.specs.Forms.{zeros}
use Rattle.check_rule.proofs.Bytes.{zeros_byte}
use Rattle.bytes_layout.specs.Decode.{four_at}
use Rattle.check_wires.specs.Outputs.{full_at}

-- bytes that are zero
pub zeros_of : (i n : ℕ) (b : List ℕ) → ((k : ℕ) → k < n → get_or b (i + k) 0 ≡ 0) → zeros i n b ≡ true
unfolding zeros
zeros_of i n b f = all_of n (λ k. eqb (get_or b (i + k) 0) 0) (λ k l. eq-eqb (get_or b (i + k) 0) 0 (f k l))

module _ (b : List ℕ) where
  four_byte : (i : ℕ) → four_at i b ≡ 0 → (j : ℕ) → j < 4 → get_or b (i + j) 0 ≡ 0
  unfolding four_at
  four_byte i e zero l = rw (add-zero i) (omega arith)
  four_byte i e (suc zero) l = omega arith
  four_byte i e (suc (suc zero)) l = omega arith
  four_byte i e (suc (suc (suc zero))) l = omega arith
  four_byte i e (suc (suc (suc (suc j)))) l = absurd (omega arith)

  four_none : (i n j : ℕ) → zeros i n b ≡ true → i ≤ j → j + 4 ≤ i + n → four_at j b ≡ 0
  unfolding four_at
  four_none i n j e h l =
      rw (
        zeros_byte i n j b e h (omega arith),
        zeros_byte i n (j + 1) b e (omega arith) (omega arith),
        zeros_byte i n (j + 2) b e (omega arith) (omega arith),
        zeros_byte i n (j + 3) b e (omega arith) (omega arith),
      )

  module _ (i k : ℕ) (l : k ≤ 4) where
    -- the code's ways out
    pub blank_not : (v : ℕ) → v ≡ four_at i b → v ≢ 0 → false ≡ zeros i (k + 4) b
    blank_not v e ne =
        sym (refuted (zeros i (k + 4) b) (λ t. ne (e ∙ four_none i (k + 4) i t (omega arith) (omega arith))))

    pub blank_is : (v u : ℕ) → v ≡ four_at i b → v ≡ 0 → u ≡ four_at (i + k) b → eqb u 0 ≡ zeros i (k + 4) b
    blank_is v u e z f = by (test_of u)
      where
        test_of : (n : ℕ) → (n ≡ 0) ⊎ (n ≢ 0)
        test_of zero = inl refl
        test_of (suc n) = inr (λ x. omega arith)

        byte : u ≡ 0 → (j : ℕ) → j < k + 4 → (j < 4) ⊎ (4 ≤ j) → get_or b (i + j) 0 ≡ 0
        byte q j h (inl a) = four_byte i (sym e ∙ z) j a
        byte q j h (inr a) =
            let d : i + j ≡ i + k + (j - k) = omega arith in
            rw d (four_byte (i + k) (sym f ∙ q) (j - k) (omega arith))

        by : (u ≡ 0) ⊎ (u ≢ 0) → eqb u 0 ≡ zeros i (k + 4) b
        by (inl q) =
            rw (eq-eqb u 0 q)
            (sym (zeros_of i (k + 4) b (λ j h. byte q j h (lt_or_ge j 4))))
        by (inr q) =
            rw (ne_eqb u 0 q)
            (sym (refuted (zeros i (k + 4) b)
            (λ t. q (f ∙ four_none i (k + 4) (i + k) t (omega arith) (omega arith)))))

-- ---- a full wire: the code's ways out
module _ (b : List ℕ) (i : ℕ) where
  pub full_choice : get_or b (i + 6) 0 ≢ 0 → false ≡ full_at i b
  unfolding full_at
  full_choice ne = rw (ne_eqb (get_or b (i + 6) 0) 0 ne)

  pub full_wire : get_or b (i + 6) 0 ≡ 0 → get_or b i 0 ≢ 1 → false ≡ full_at i b
  unfolding full_at
  full_wire e ne = rw (eq-eqb (get_or b (i + 6) 0) 0 e, ne_eqb (get_or b i 0) 1 ne)

  pub full_kind : get_or b (i + 6) 0 ≡ 0 → get_or b i 0 ≡ 1 → leb (get_or b (i + 1) 0) 3 ≡ full_at i b
  unfolding full_at
  full_kind e f = rw (eq-eqb (get_or b (i + 6) 0) 0 e, eq-eqb (get_or b i 0) 1 f)
