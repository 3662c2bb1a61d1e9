-- Refusal 7's test by one pass over the bytes is the landed one: the bytes are a state's, and that state is valid.
use mathlib.Core.Path.{◌≡◌}
use mathlib.Core.Bool.{true, ◌&&◌}
use mathlib.Core.List.{List}
use Prim.Native.Nat.{ℕ, ◌≤◌, ◌<◌}
use lib.Dec.{ltb}
use lib.ListN.{length, get_or}
use borrow.Author.Tests.{leb-true, le-leb}
use Rattle.basis.specs.Choice.{same_test, also_true, also_of}
use Rattle.plan.specs.Head.{InRange}
use Rattle.plan.specs.Plan.{Plan, R, S}
use Rattle.plan_queues.specs.Queue.{Queue, Exists}
use Rattle.plan_queues.specs.Feeds.{Output}
use Rattle.rules.specs.Valid.{Drives}
use Rattle.plan_facts.proofs.Heads.{and_both, and_of}
use Rattle.valid.specs.Ties.{pair_ties}
use Rattle.valid.specs.Test.{slot_test, allowances_test, turns_test, valid_test}
use Rattle.valid.proofs.Decides.{Decides, so, most, both, all_below_lem}
use Rattle.valid.proofs.Parts.{every_queue_lem, every_output_lem}
use Rattle.bytes_layout.specs.Offsets.{phase_byte, slot_byte, pairs, size, queue_row, output_row}
use Rattle.bytes_layout.specs.Decode.{decode}
use Rattle.bytes_layout.specs.Canonical.{canonical}
use Rattle.check_rule.specs.Forms.{header_form, queue_form, output_form, side_form, starts_form}
use Rattle.check_rule.specs.Parts.{queue_test, output_test, pick_test, side_test}
use Rattle.check_rule.specs.Check.{output_row_test, queue_row_test, side_row_test, outputs_part, queues_part}
use Rattle.check_rule.specs.Check.{picks_part}
use Rattle.check_rule.specs.Check.{allowances_part, tables_part, pair_test, connections_part, turns_part, check_of}
use Rattle.check_rule.proofs.Forms.{Formed, formed_canonical}
use Rattle.check_rule.proofs.Standing.{canonical_formed}
use Rattle.check_rule.proofs.Gathered.{every_side, each_output, Parts, valid_parts, parts_valid}

-- ---- the parts, each as what it tells of the places
module _ (pl : Plan) (b : List ℕ) where
  header_decides : Decides (header_form pl b) ((get_or b phase_byte 0 ≤ 2) × (slot_test pl (decode pl b) ≡ true))
  unfolding header_form slot_test decode
  header_decides = both (most (get_or b phase_byte 0) 2) (λ x. so (ltb (get_or b slot_byte 0) (S pl)))

  outputs_decide : Decides (outputs_part pl b) ((o : Output) → Drives pl o
      → (output_form (output_row pl o) b ≡ true) × (output_test pl (decode pl b) o ≡ true))
  unfolding outputs_part output_row_test
  outputs_decide =
      every_output_lem pl (output_row_test pl b)
      (λ o. (output_form (output_row pl o) b ≡ true) × (output_test pl (decode pl b) o ≡ true))
      (λ o h. both (so (output_form (output_row pl o) b)) (λ x. so (output_test pl (decode pl b) o)))

  queues_decide : Decides (queues_part pl b) ((q : Queue) → Exists pl q
      → (queue_form (queue_row pl q) b ≡ true) × (queue_test pl (decode pl b) q ≡ true))
  unfolding queues_part queue_row_test
  queues_decide =
      every_queue_lem pl (queue_row_test pl b)
      (λ q. (queue_form (queue_row pl q) b ≡ true) × (queue_test pl (decode pl b) q ≡ true))
      (λ q h. both (so (queue_form (queue_row pl q) b)) (λ x. so (queue_test pl (decode pl b) q)))

  picks_decide : Decides (picks_part pl b) ((o : Output) → Drives pl o → pick_test pl (decode pl b) o ≡ true)
  unfolding picks_part
  picks_decide = each_output pl (pick_test pl (decode pl b))

  allowances_decide : Decides (allowances_part pl b) (allowances_test pl (decode pl b) ≡ true)
  unfolding allowances_part
  allowances_decide = so (allowances_test pl (decode pl b))

  tables_decide : Decides (tables_part pl b)
      ((r o : ℕ) → r < R pl → o < 4 → (side_form pl r o b ≡ true) × (side_test pl (decode pl b) r o ≡ true))
  unfolding tables_part side_row_test
  tables_decide =
      every_side pl (side_row_test pl b) (λ r o. (side_form pl r o b ≡ true) × (side_test pl (decode pl b) r o ≡ true))
      (λ r o h k. both (so (side_form pl r o b)) (λ x. so (side_test pl (decode pl b) r o)))

  connections_decide : Decides (connections_part pl b)
      ((n : ℕ) → n < pairs pl → (starts_form pl b n ≡ true) × (pair_ties pl (decode pl b) n ≡ true))
  unfolding connections_part pair_test
  connections_decide =
      all_below_lem (pairs pl) (pair_test pl b) (λ n. (starts_form pl b n ≡ true) ×
      (pair_ties pl (decode pl b) n ≡ true))
      (λ n h. both (so (starts_form pl b n)) (λ x. so (pair_ties pl (decode pl b) n)))

  turns_decide : Decides (turns_part pl b) (turns_test pl (decode pl b) ≡ true)
  unfolding turns_part
  turns_decide = so (turns_test pl (decode pl b))

  -- the test tells the forms, and what is asked of each place
  pub check_parts : check_of pl b ≡ true → Formed pl b × Parts pl (decode pl b)
  unfolding check_of
  check_parts e =
      let a = also_true e in
      let c = also_true a.1 in
      let d = also_true c.1 in
      let f = also_true d.1 in
      let g = also_true f.1 in
      let h = also_true g.1 in
      let i = also_true h.1 in
      let j = also_true i.1 in
      let first = header_decides.holds c.0 in
      let outputs = outputs_decide.holds d.0 in
      let queues = queues_decide.holds f.0 in
      let tables = tables_decide.holds i.0 in
      let connections = connections_decide.holds j.0 in (
        record {
          long = leb-true (size pl) (length b) a.0;
          phase = first.0;
          queue = λ q x. (queues q x).0;
          output = λ o x. (outputs o x).0;
          side = λ r o x y. (tables r o x y).0;
          starts = λ n x. (connections n x).0;
        },
        record {
          slot = first.1;
          queue = λ q x. (queues q x).1;
          output = λ o x. (outputs o x).1;
          choice = picks_decide.holds g.0;
          side = λ r o x y. (tables r o x y).1;
          allowance = allowances_decide.holds h.0;
          pair = λ n x. (connections n x).1;
          turns = turns_decide.holds j.1;
        },
      )

  -- and these are the test
  pub parts_check : Formed pl b → Parts pl (decode pl b) → check_of pl b ≡ true
  unfolding check_of
  parts_check f p =
      also_of (le-leb (size pl) (length b) f.long)
      (also_of (header_decides.passes (f.phase, p.slot))
      (also_of (outputs_decide.passes (λ o h. (f.output o h, p.output o h)))
      (also_of (queues_decide.passes (λ q h. (f.queue q h, p.queue q h)))
      (also_of (picks_decide.passes p.choice)
      (also_of (allowances_decide.passes p.allowance)
      (also_of (tables_decide.passes (λ r o h k. (f.side r o h k, p.side r o h k)))
      (also_of (connections_decide.passes (λ n h. (f.starts n h, p.pair n h)))
      (turns_decide.passes p.turns))))))))

-- the two tests are one
pub check_equal : (pl : Plan) → InRange pl.head → (b : List ℕ)
    → check_of pl b ≡ (canonical pl b && valid_test pl (decode pl b))
check_equal pl range b =
    same_test (check_of pl b) (canonical pl b && valid_test pl (decode pl b))
    (λ e. let p = check_parts pl b e in
    and_of (formed_canonical pl b p.0) (parts_valid pl (decode pl b) p.1))
    (λ e. let p = and_both e in
    parts_check pl b (canonical_formed pl b p.0) (valid_parts pl (decode pl b) p.1))
