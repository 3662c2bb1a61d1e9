-- What the bytes of an output's row and of a queue's row say, as tests.
use mathlib.Core.Path.{◌≡◌, refl, sym, ap, ◌∙◌}
use mathlib.Core.Logic.{◌≢◌}
use mathlib.Core.Bool.{Bool, true, false, not, false≢true}
use mathlib.Core.List.{List}
use Prim.Native.Nat.{ℕ, zero, suc, ◌+◌, ◌*◌, ◌<◌}
use native.Mathlib.Omega.{arith}
use lib.Dec.{eqb, ltb}
use lib.ListN.{get_or}
use borrow.Author.Tests.{lt-ltb, ne_eqb}
use Rattle.basis.specs.Choice.{also}
use Rattle.packets.specs.declared.Packet.{Packet}
use Rattle.packets.specs.declared.Phase.TheVariants.{Read, Write}
use Rattle.plan.specs.declared.Head.{Head}
use Rattle.plan.specs.Plan.{Plan}
use Rattle.plan.specs.Tables.{table_plan}
use Rattle.rules.specs.Outputs.{outputs, output_at}
use Rattle.rules.specs.State.{is_full}
use Rattle.rules.specs.Calls.{is_phase}
use Rattle.rules.proofs.OutNumbers.{at_output}
use Rattle.bytes_layout.specs.Offsets.{phase_byte, output_row}
use Rattle.bytes_layout.specs.Codes.{phase_of, flag_of, choice_of}
use Rattle.bytes_layout.specs.Decode.{decode, wire_from}
use Rattle.bytes_steps.specs.Counts.{output_count, outputs_from, outputs_by, outputs_at_lem}
use Rattle.check_rule.specs.Parts.{is_nobody}

-- ---- tests
pub also_false : (a : Bool) → also a false ≡ false
also_false true = refl
also_false false = refl

pub also_right : (a : Bool) → also a true ≡ a
also_right true = refl
also_right false = refl

-- ---- codes
pub flag_test : (n : ℕ) → flag_of n ≡ not (eqb n 0)
flag_test zero = refl
flag_test (suc n) = rw (ne_eqb (suc n) 0 (λ z. omega arith))

pub some_test : (n : ℕ) → ltb 0 n ≡ not (eqb n 0)
some_test zero = refl
some_test (suc n) = rw (ne_eqb (suc n) 0 (λ z. omega arith), lt-ltb 0 (suc n) (omega arith))

pub not_read : (n : ℕ) → n ≢ 0 → is_phase (phase_of n) Read ≡ false
not_read zero ne = absurd (ne refl)
not_read (suc zero) ne = refl
not_read (suc (suc n)) ne = refl

pub not_write : (n : ℕ) → n < 2 → is_phase (phase_of n) Write ≡ false
not_write zero l = refl
not_write (suc zero) l = refl
not_write (suc (suc n)) l = absurd (omega arith)

pub empty_byte : (n : ℕ) (x : Packet) → not (is_full (wire_from (flag_of n) x)) ≡ true → n ≡ 0
empty_byte zero x e = refl
empty_byte (suc n) x e = absurd (false≢true e)

pub nobody_byte : (n : ℕ) → is_nobody (choice_of n) ≡ true → n ≡ 0
nobody_byte zero e = refl
nobody_byte (suc n) e = absurd (false≢true e)

-- ---- a plan's head, the phase, and an output's row
pub head_is : (h : Head) (routes : List (List ℕ)) (joints : List ℕ) → (table_plan h routes joints).head ≡ h
unfolding table_plan
head_is h routes joints = refl

pub decode_phase : (pl : Plan) (b : List ℕ) → (decode pl b).clock.phase ≡ phase_of (get_or b phase_byte 0)
unfolding decode
decode_phase pl b = refl

module _ (pl : Plan) (h : Head) (eh : pl.head ≡ h) where
  pub outputs_are : outputs pl ≡ output_count h
  outputs_are = outputs_by pl ∙ ap output_count eh

  pub output_row_lem : (m : ℕ) → m < outputs pl → (i : ℕ) → i ≡ outputs_from h + 7 * m → output_row pl (output_at pl m)
      ≡ i
  unfolding output_row
  output_row_lem m l i ei =
      rw (at_output pl m l) (ap (λ (k : ℕ). k + 7 * m) (outputs_at_lem pl ∙ ap outputs_from eh) ∙ sym ei)
