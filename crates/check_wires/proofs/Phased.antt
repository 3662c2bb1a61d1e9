-- All outputs, phase by phase.
use mathlib.Core.Path.{◌≡◌, refl, sym, ap, ◌∙◌}
use mathlib.Core.Logic.{◌≢◌}
use mathlib.Core.Bool.{Bool, true, false, false≢true}
use mathlib.Core.List.{List}
use Prim.Native.Nat.{ℕ, ◌+◌, ◌*◌, ◌/◌, ◌<◌}
use native.Mathlib.Omega.{arith}
use lib.ListN.{get_or}
use Rattle.basis.specs.Choice.{same_test}
use Rattle.basis.specs.Bounded.{all_same, all_below, all_at, all_of, all_none, all_more, all_fail, all_done}
use Rattle.packets.specs.declared.Wire.TheVariants.{Empty}
use Rattle.plan.specs.declared.Head.{Head}
use Rattle.plan.specs.Plan.{Plan}
use Rattle.plan_queues.specs.Queue.{queue_at}
use Rattle.rules.specs.Outputs.{outputs, output_at}
use Rattle.rules.specs.Valid.{sum, brings, in_wire, spends}
use Rattle.bytes_layout.specs.Decode.{decode}
use Rattle.bytes_steps.specs.Counts.{output_count, outputs_from}
use Rattle.check_rule.specs.Forms.{zeros}
use Rattle.check_rule.specs.Check.{output_row_test, outputs_part}
use Rattle.check_rule.proofs.Bytes.{zeros_byte}
use Rattle.check_rule.proofs.Quiet.{zeros_part}
use Rattle.check_frames.specs.Tally.{Tallied}
use Rattle.check_frames.proofs.Tallies.{tallied_none, tallied_then, tallied_like}
use Rattle.check_wires.specs.Outputs.{brings_to, spent_on, Brought, OutputChecked, OutputsChecked}
use Rattle.check_wires.proofs.Bringing.{sum_none, sum_start, sum_more, brought_none, brought_then, brought_like}
use Rattle.check_choices.proofs.Bytes.{outputs_are}
use Rattle.check_wires.proofs.Stretches.{zeros_of}
use Rattle.check_wires.proofs.Outgoing.{write_row, wire_empty, zero_passes, execute_row}

-- the first m outputs have passed; c and d the packets to come, t and u what has been spent, before and after
pub record SoFar (pl : Plan) (b : List ℕ) (m : ℕ) (c d t u : List ℕ) : Type 0 where
  pub pass : all_below m (λ k. output_row_test pl b (output_at pl k)) ≡ true
  pub come : Brought pl (λ n. sum m (brings_to pl b n)) c d
  pub count : Tallied (λ a. sum m (spent_on pl b a)) t u

module _ (pl : Plan) (b : List ℕ) where
  -- ---- READ
  pub far_none : (c t : List ℕ) → SoFar pl b 0 c c t t
  far_none c t =
      record {
        pass = all_none (λ k. output_row_test pl b (output_at pl k));
        come = brought_like pl (λ n l. sym (sum_start (brings_to pl b n))) (brought_none pl c);
        count = tallied_like (λ a l. sym (sum_start (spent_on pl b a))) (tallied_none t);
      }

  pub far_more : (m : ℕ) {r : Bool} {c d e t u v : List ℕ} → SoFar pl b m c d t u → OutputChecked pl b m r d e u v
      → r ≡ true → SoFar pl b (m + 1) c e t v
  far_more m {r} {c} {d} {e} {t} {u} {v} f g k =
      record {
        pass = all_more (λ j. output_row_test pl b (output_at pl j)) m f.pass g.test k;
        come = brought_like pl (λ n l. sym (sum_more m (brings_to pl b n))) (brought_then pl f.come (g.come k));
        count = tallied_like (λ a l. sym (sum_more m (spent_on pl b a))) (tallied_then f.count (g.count k));
      }

  module _ (h : Head) (eh : pl.head ≡ h) where
    pub far_fails : (m : ℕ) → m < output_count h → {r : Bool} {d e u v : List ℕ} → OutputChecked pl b m r d e u v
        → r ≡ false → (c x t y : List ℕ) → OutputsChecked pl b false c x t y
    unfolding outputs_part
    far_fails m l g k c x t y =
        record {
          test = sym (all_fail (λ j. output_row_test pl b (output_at pl j)) (outputs pl) m (rw (outputs_are pl h eh) l)
              g.test k);
          come = λ z. absurd (false≢true z);
          count = λ z. absurd (false≢true z);
        }

    pub far_done : (m : ℕ) {c d t u : List ℕ} → SoFar pl b m c d t u → m ≡ output_count h
        → OutputsChecked pl b true c d t u
    unfolding outputs_part
    far_done m {c} {d} {t} {u} f e =
        let k : m ≡ outputs pl = e ∙ sym (outputs_are pl h eh) in
        record {
          test = sym (all_done (λ j. output_row_test pl b (output_at pl j)) f.pass k);
          come = λ z. brought_like pl (λ n l. ap (λ (j : ℕ). sum j (brings_to pl b n)) k) f.come;
          count = λ z. tallied_like (λ a l. ap (λ (j : ℕ). sum j (spent_on pl b a)) k) f.count;
        }

    -- ---- WRITE
    pub write_more : get_or b 0 0 ≡ 2 → (m i : ℕ) → m < output_count h → i ≡ outputs_from h + 7 * m → {r : Bool}
        → r ≡ zeros i 6 b → r ≡ output_row_test pl b (output_at pl m)
    write_more p m i l e f = f ∙ write_row pl h eh b m l i e p

    pub part_is : outputs_part pl b ≡ all_below (output_count h) (λ k. output_row_test pl b (output_at pl k))
    unfolding outputs_part
    part_is = ap (λ (j : ℕ). all_below j (λ k. output_row_test pl b (output_at pl k))) (outputs_are pl h eh)

    -- ---- EXECUTE
    pub execute_all : get_or b 0 0 ≡ 1 → (i n : ℕ) → i ≡ outputs_from h + 7 * 0 → n ≡ output_count h
        → zeros i (7 * n) b ≡ outputs_part pl b
    execute_all p i n ei en = same_test (zeros i (7 * n) b) (outputs_part pl b) to from
      where
        to : zeros i (7 * n) b ≡ true → outputs_part pl b ≡ true
        to z =
            part_is
            ∙ all_of (output_count h) (λ k. output_row_test pl b (output_at pl k))
            (λ k l. zero_passes pl h eh b k l (outputs_from h + 7 * k) refl
            (zeros_part i (7 * n) (outputs_from h + 7 * k) 7 b z (omega arith) (omega arith)))

        row : outputs_part pl b ≡ true → (k : ℕ) → k < output_count h → zeros (outputs_from h + 7 * k) 7 b ≡ true
        row e k l =
            execute_row pl h eh b k l (outputs_from h + 7 * k) refl p
            (all_at (output_count h) (λ k. output_row_test pl b (output_at pl k)) (sym part_is ∙ e) k l)

        from : outputs_part pl b ≡ true → zeros i (7 * n) b ≡ true
        from e =
            zeros_of i (7 * n) b
            (λ k l. zeros_byte (outputs_from h + 7 * (k / 7)) 7 (i + k) b (row e (k / 7) (omega arith)) (omega arith)
            (omega arith))

    -- ---- outside READ nothing comes and nothing is spent
    pub outside_read : get_or b 0 0 ≢ 0 → (c t : List ℕ) {r : Bool} → r ≡ outputs_part pl b
        → OutputsChecked pl b r c c t t
    outside_read ne c t {r} e =
        record {
          test = e;
          come = λ z. brought_like pl (λ n l. sym (sum_none (outputs pl) (brings_to pl b n)
              (λ m k. ap (brings pl (queue_at pl n) (output_at pl m)) (empty z m k)))) (brought_none pl c);
          count = λ z. tallied_like (λ a l. sym (sum_none (outputs pl) (spent_on pl b a)
              (λ m k. ap (in_wire (spends a)) (empty z m k)))) (tallied_none t);
        }
      where
        empty : r ≡ true → (m : ℕ) → m < outputs pl → (decode pl b).links.wire (output_at pl m) ≡ Empty
        empty z m k =
            let l : m < output_count h = rw (outputs_are pl h eh) at k in
            wire_empty pl h eh b m l (outputs_from h + 7 * m) refl ne
            (all_at (output_count h) (λ k. output_row_test pl b (output_at pl k)) (sym part_is ∙ sym e ∙ z) m l)

    -- the code's ways out in WRITE, the rows standing from `at` on
    module _ (p : get_or b 0 0 ≡ 2) (at n : ℕ) (ea : at ≡ outputs_from h + 7 * 0) (en : n ≡ output_count h) where
      pub write_all : all_below n (λ k. zeros (at + 7 * k) 6 b) ≡ outputs_part pl b
      write_all =
          all_same n (λ k. zeros (at + 7 * k) 6 b) (λ k. output_row_test pl b (output_at pl k))
          (λ k l. write_more p k (at + 7 * k) (omega arith) (omega arith) refl)
          ∙ ap (λ m. all_below m (λ k. output_row_test pl b (output_at pl k))) en ∙ sym part_is
