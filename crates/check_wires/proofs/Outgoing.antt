-- The outputs' rows in each phase: what the code tests of their bytes is the outputs' test.
use mathlib.Core.Path.{◌≡◌, refl, sym, ap, ◌∙◌}
use mathlib.Core.Logic.{◌⊎◌, inl, inr, ◌≢◌}
use mathlib.Core.Bool.{Bool, true, false, not, ◌||◌, true≢false, false≢true}
use mathlib.Core.List.{List}
use Prim.Native.Nat.{ℕ, zero, suc, ◌+◌, ◌*◌, ◌≤◌, ◌<◌}
use native.Mathlib.Nat.{add-zero}
use native.Mathlib.Omega.{arith}
use lib.Dec.{eqb, leb}
use lib.ListN.{get_or}
use borrow.Author.Tests.{eqb-true, eqb-false, ne_eqb, le-leb, lt-leb, leb-true, leb-false}
use Rattle.basis.specs.Choice.{also, also_true, also_of, same_test, refuted, test}
use Rattle.basis.specs.Bounded.{lt_or_ge, or_right}
use Rattle.packets.specs.declared.Packet.{Packet}
use Rattle.packets.specs.declared.Wire.TheVariants.{Empty, Full}
use Rattle.packets.specs.declared.Phase.{Phase}
use Rattle.packets.specs.declared.Phase.TheVariants.{Read, Write}
use Rattle.plan.specs.declared.Head.{Head}
use Rattle.plan.specs.Plan.{Plan}
use Rattle.plan_queues.specs.Queue.{queue_at}
use Rattle.plan_queues.specs.Feeds.{Output}
use Rattle.rules.specs.Outputs.{next_by, outputs, output_at}
use Rattle.rules.specs.State.{is_full}
use Rattle.rules.specs.Calls.{is_phase}
use Rattle.rules.specs.Valid.{Drives, brings, in_wire, spends}
use Rattle.rules.proofs.OutNumbers.{drives_at}
use Rattle.valid.specs.Test.{bound_test, wire_test}
use Rattle.bytes_layout.specs.Offsets.{packet_kind, packet_width, wire_byte, wire_packet, choice_byte}
use Rattle.bytes_layout.specs.Offsets.{output_row}
use Rattle.bytes_layout.specs.Codes.{phase_of}
use Rattle.bytes_layout.specs.Places.{packet_at}
use Rattle.bytes_layout.specs.Named.{drives_test_lem}
use Rattle.bytes_layout.specs.Decode.{decode, wire_at, choice_at}
use Rattle.bytes_steps.specs.Counts.{output_count, outputs_from}
use Rattle.check_rule.specs.Forms.{zeros, output_form}
use Rattle.check_rule.specs.Parts.{is_nobody, output_test}
use Rattle.check_rule.specs.Check.{output_row_test}
use Rattle.check_rule.proofs.Bytes.{zeros_get, zeros_byte}
use Rattle.check_rule.proofs.Quiet.{zeros_part, zeros_output}
use Rattle.check_frames.proofs.Tallies.{tallied_none, tallied_like}
use Rattle.check_wires.specs.Outputs.{full_at, Carried, OutputChecked}
use Rattle.check_choices.proofs.Bytes.{also_right, not_read, not_write, empty_byte, nobody_byte, decode_phase}
use Rattle.check_choices.proofs.Bytes.{outputs_are, output_row_lem}
use Rattle.check_wires.proofs.Stretches.{zeros_of}
use Rattle.check_wires.proofs.Bringing.{brought_none, brought_like}

module _ (pl : Plan) (h : Head) (eh : pl.head ≡ h) (b : List ℕ) where
  module _ (m : ℕ) (hm : m < output_count h) (i : ℕ) (ei : i ≡ outputs_from h + 7 * m) where
    abbrev o : Output
    o = output_at pl m

    below : m < outputs pl
    below = rw (outputs_are pl h eh) hm

    drives : Drives pl o
    drives = drives_at pl m below

    row_is : output_row pl o ≡ i
    row_is = output_row_lem pl h eh m below i ei

    wire_is : (decode pl b).links.wire o ≡ wire_at i b
    unfolding decode
    wire_is = rw (drives_test_lem pl o drives, row_is)

    choice_is : (decode pl b).links.choice o ≡ choice_at i b
    unfolding decode
    choice_is = rw (drives_test_lem pl o drives, row_is)

    abbrev ph : Phase
    ph = phase_of (get_or b 0 0)

    -- the row's test by its bytes
    abbrev by_bytes : Bool
    by_bytes =
        also (output_form i b)
        (also (wire_test pl o (wire_at i b))
        (also (is_phase ph Read || not (is_full (wire_at i b))) (is_phase ph Write || is_nobody (choice_at i b))))

    by_bytes_lem : output_row_test pl b o ≡ by_bytes
    unfolding output_row_test output_test
    by_bytes_lem = rw (row_is, wire_is, choice_is, decode_phase pl b)

    -- ---- a row that passes
    module _ (e : output_row_test pl b o ≡ true) where
      parts : (output_form i b ≡ true) × (wire_test pl o (wire_at i b) ≡ true)
          × ((is_phase ph Read || not (is_full (wire_at i b))) ≡ true)
          × ((is_phase ph Write || is_nobody (choice_at i b)) ≡ true)
      parts =
          let x = also_true {a = output_form i b} {b = _} (sym by_bytes_lem ∙ e) in
          let y = also_true {a = wire_test pl o (wire_at i b)} {b = _} x.1 in
          let z = also_true {a = is_phase ph Read || not (is_full (wire_at i b))}
          {b = is_phase ph Write || is_nobody (choice_at i b)} y.1 in
          (x.0, y.0, z.0, z.1)

      -- a wire without a packet is zero bytes
      form_blank : get_or b (i + wire_byte) 0 ≢ 1
          → (get_or b (i + wire_byte) 0 ≡ 0) × (zeros (i + wire_packet) packet_width b ≡ true)
      unfolding output_form
      form_blank ne =
          let x = also_true {a = leb (get_or b (i + wire_byte) 0) 1} {b = _} parts.0 in
          let l = leb-true (get_or b (i + wire_byte) 0) 1 x.0 in
          (omega arith, rw (ne_eqb (get_or b (i + wire_byte) 0) 1 ne) at x.1)

      -- outside READ the wire is empty
      empty_wire : get_or b 0 0 ≢ 0 → get_or b (i + wire_byte) 0 ≡ 0
      empty_wire ne =
          empty_byte (get_or b (i + wire_byte) 0) (packet_at (i + wire_packet) b)
          (rw (not_read (get_or b 0 0) ne) at parts.2)

      -- outside WRITE nobody is picked
      nobody_picked : get_or b 0 0 < 2 → get_or b (i + choice_byte) 0 ≡ 0
      nobody_picked l =
          nobody_byte (get_or b (i + choice_byte) 0) (rw (not_write (get_or b 0 0) l) at parts.3)

    -- ---- a row whose wire is zero bytes
    module _ (z : get_or b (i + wire_byte) 0 ≡ 0) (y : zeros (i + wire_packet) packet_width b ≡ true) where
      blank_passes : (is_phase ph Write || is_nobody (choice_at i b)) ≡ true → output_row_test pl b o ≡ true
      unfolding output_form
      blank_passes e =
          by_bytes_lem
          ∙ rw (z, e) (also_of y (also_of (or_right (is_phase ph Read)) refl))

      six : zeros i 6 b ≡ true
      six = zeros_of i 6 b at
        where
          at : (k : ℕ) → k < 6 → get_or b (i + k) 0 ≡ 0
          at zero l = z
          at (suc k) l = zeros_byte (i + wire_packet) packet_width (i + suc k) b y (omega arith) (omega arith)

      seven : get_or b (i + choice_byte) 0 ≡ 0 → zeros i 7 b ≡ true
      seven e = zeros_of i 7 b at
        where
          at : (k : ℕ) → k < 7 → get_or b (i + k) 0 ≡ 0
          at k l = by (lt_or_ge k 6)
            where
              by : (k < 6) ⊎ (6 ≤ k) → get_or b (i + k) 0 ≡ 0
              by (inl g) = zeros_byte i 6 (i + k) b six (omega arith) (omega arith)
              by (inr g) = let q : k ≡ choice_byte = omega arith in rw q e

    -- ---- rows of zero bytes
    zero_row : zeros i 7 b ≡ true → (output_row_test pl b o ≡ true) × ((decode pl b).links.wire o ≡ Empty)
    zero_row z =
        let x = zeros_output pl b o (rw row_is z) drives in
        (x.0, x.2)

    -- ---- READ: the code's ways out
    module _ (c d t u : List ℕ) where
      refused : false ≡ output_row_test pl b o → OutputChecked pl b m false c d t u
      refused e = record { test = e; come = λ f. absurd (false≢true f); count = λ f. absurd (false≢true f) }

      choice_up : get_or b 0 0 ≡ 0 → get_or b (i + 6) 0 ≢ 0 → OutputChecked pl b m false c d t u
      choice_up p ne =
          refused (sym (refuted (output_row_test pl b o) (λ e. ne (nobody_picked e (omega arith)))))

      wire_odd : zeros i 7 b ≡ false → get_or b (i + 6) 0 ≡ 0 → get_or b i 0 ≢ 1 → OutputChecked pl b m false c d t u
      wire_odd z q ne =
          refused (sym (refuted (output_row_test pl b o) (λ e. true≢false
          (let x = form_blank e (rw (add-zero i) ne) in sym (seven x.0 x.1 q) ∙ z))))

      module _ (w : get_or b i 0 ≡ 1) where
        first : get_or b (i + wire_byte) 0 ≡ 1
        first = rw (add-zero i) w

        form_kind : output_form i b ≡ true → leb (get_or b (i + wire_packet + packet_kind) 0) 3 ≡ true
        unfolding output_form
        form_kind f = rw first at f

        kind_odd : 3 < get_or b (i + 1) 0 → OutputChecked pl b m false c d t u
        kind_odd k =
            refused (sym (refuted (output_row_test pl b o) (λ e. true≢false (sym (form_kind (parts e).0) ∙ odd))))
          where
            same : i + wire_packet + packet_kind ≡ i + 1
            same = omega arith

            odd : leb (get_or b (i + wire_packet + packet_kind) 0) 3 ≡ false
            odd = rw same (lt-leb (get_or b (i + 1) 0) 3 k)

        module _ (p : get_or b 0 0 ≡ 0) (q : get_or b (i + 6) 0 ≡ 0) (k : get_or b (i + 1) 0 ≤ 3) (x : Packet)
            (ex : x ≡ packet_at (i + 1) b) where
          full : (decode pl b).links.wire o ≡ Full x
          full = wire_is ∙ rw (first, ex)

          row_full : output_row_test pl b o ≡ bound_test pl x (next_by pl o x)
          unfolding output_form
          row_full =
              let s : i + wire_packet + packet_kind ≡ i + 1 = omega arith in
              by_bytes_lem ∙ rw (first, p, q, s, le-leb (get_or b (i + 1) 0) 3 k, ex)
              (also_right (bound_test pl (packet_at (i + 1) b) (next_by pl o (packet_at (i + 1) b))))

          full_checked : {r : Bool} → Carried pl m x r c d t u → OutputChecked pl b m r c d t u
          full_checked y =
              record {
                test = y.test ∙ sym row_full;
                come = λ e. brought_like pl (λ n l. ap (brings pl (queue_at pl n) o) (sym full)) (y.come e);
                count = λ e. tallied_like (λ a l. ap (in_wire (spends a)) (sym full)) (y.count e);
              }

      module _ {f : Bool} (e : f ≡ full_at i b) (p : get_or b 0 0 ≡ 0) where
        -- a row that is no full wire
        pub wire_refused : zeros i 7 b ≡ false → f ≡ false → OutputChecked pl b m false c d t u
        unfolding full_at
        wire_refused z g =
            by (test (eqb (get_or b (i + 6) 0) 0)) (test (eqb (get_or b i 0) 1)) (test (leb (get_or b (i + 1) 0) 3))
          where
            by : (eqb (get_or b (i + 6) 0) 0 ≡ true) ⊎ (eqb (get_or b (i + 6) 0) 0 ≡ false)
                → (eqb (get_or b i 0) 1 ≡ true) ⊎ (eqb (get_or b i 0) 1 ≡ false)
                → (leb (get_or b (i + 1) 0) 3 ≡ true) ⊎ (leb (get_or b (i + 1) 0) 3 ≡ false)
                → OutputChecked pl b m false c d t u
            by (inr x) y k = choice_up p (eqb-false (get_or b (i + 6) 0) 0 x)
            by (inl x) (inr y) k =
                wire_odd z (eqb-true (get_or b (i + 6) 0) 0 x) (eqb-false (get_or b i 0) 1 y)
            by (inl x) (inl y) (inr k) =
                kind_odd (eqb-true (get_or b i 0) 1 y) (leb-false (get_or b (i + 1) 0) 3 k)
            by (inl x) (inl y) (inl k) = absurd (false≢true (sym g ∙ e ∙ rw (x, y, k)))

        -- one that is
        pub wire_checked : f ≡ true → (x : Packet) → x ≡ packet_at (i + 1) b → {r : Bool} → Carried pl m x r c d t u
            → OutputChecked pl b m r c d t u
        unfolding full_at
        wire_checked g x ex =
            let q = also_true {a = eqb (get_or b (i + 6) 0) 0} {b = _} (sym e ∙ g) in
            let w = also_true {a = eqb (get_or b i 0) 1} {b = leb (get_or b (i + 1) 0) 3} q.1 in
            full_checked (eqb-true (get_or b i 0) 1 w.0) p (eqb-true (get_or b (i + 6) 0) 0 q.0)
            (leb-true (get_or b (i + 1) 0) 3 w.1) x ex

    -- a row of zero bytes
    pub zero_checked : (c t : List ℕ) {r : Bool} → r ≡ zeros i 7 b → r ≡ true → OutputChecked pl b m true c c t t
    zero_checked c t e f =
        let x = zero_row (sym e ∙ f) in
        record {
          test = sym x.0;
          come = λ z. brought_like pl (λ n l. ap (brings pl (queue_at pl n) o) (sym x.1)) (brought_none pl c);
          count = λ z. tallied_like (λ a l. ap (in_wire (spends a)) (sym x.1)) (tallied_none t);
        }

    -- ---- WRITE: six zero bytes
    pub write_row : get_or b 0 0 ≡ 2 → zeros i 6 b ≡ output_row_test pl b o
    write_row p = same_test (zeros i 6 b) (output_row_test pl b o) to from
      where
        to : zeros i 6 b ≡ true → output_row_test pl b o ≡ true
        to z =
            blank_passes (zeros_get i 6 b z wire_byte (omega arith))
            (zeros_part i 6 (i + wire_packet) packet_width b z (omega arith) (omega arith)) (rw p)

        from : output_row_test pl b o ≡ true → zeros i 6 b ≡ true
        from e =
            let w = empty_wire e (λ q. omega arith) in
            let x = form_blank e (λ q. omega arith) in
            six x.0 x.1

    -- ---- outside READ the wire is empty
    pub wire_empty : get_or b 0 0 ≢ 0 → output_row_test pl b o ≡ true → (decode pl b).links.wire o ≡ Empty
    wire_empty ne e = wire_is ∙ rw (empty_wire e ne)

    -- ---- EXECUTE: seven zero bytes
    pub zero_passes : zeros i 7 b ≡ true → output_row_test pl b o ≡ true
    zero_passes z = (zero_row z).0

    pub execute_row : get_or b 0 0 ≡ 1 → output_row_test pl b o ≡ true → zeros i 7 b ≡ true
    execute_row p e =
        let w = empty_wire e (λ q. omega arith) in
        let x = form_blank e (λ q. omega arith) in
        seven x.0 x.1 (nobody_picked e (omega arith))
