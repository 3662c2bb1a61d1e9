-- A queue's whole row, as the code tests it.
use mathlib.Core.Path.{◌≡◌, refl, sym, ap, ◌∙◌}
use mathlib.Core.Logic.{◌⊎◌, inl, inr}
use mathlib.Core.Bool.{Bool, true, false, false≢true}
use mathlib.Core.List.{List}
use Prim.Native.Nat.{ℕ, zero, suc, ◌+◌, ◌*◌, ◌-◌, ◌≤◌}
use native.Mathlib.Omega.{arith}
use lib.Dec.{leb, eqb}
use lib.ListN.{get_or, length}
use borrow.Author.Tests.{ne_eqb, leb-true, le-leb}
use Rattle.basis.specs.Choice.{also, also_true, same_test, test}
use Rattle.packets.specs.declared.Phase.TheVariants.{Execute}
use Rattle.plan.specs.Head.{InRange}
use Rattle.plan.specs.Plan.{Plan}
use Rattle.plan_queues.specs.Queue.{Queue, Exists}
use Rattle.plan_queues.specs.Role.{is_unit}
use Rattle.rules.specs.Capacity.{capacity}
use Rattle.rules.specs.Calls.{is_phase}
use Rattle.rules.specs.Valid.{fed, on_wires, in_all, spends, sum}
use Rattle.valid.specs.Test.{lined_test}
use Rattle.bytes_layout.specs.Offsets.{phase_byte, places, credit_byte, flag_byte, handled_byte, length_byte}
use Rattle.bytes_layout.specs.Offsets.{first_place}
use Rattle.bytes_layout.specs.Offsets.{packet_width, queue_row}
use Rattle.bytes_layout.specs.Codes.{phase_of, flag_of}
use Rattle.bytes_layout.specs.Places.{packet_at, packets_at}
use Rattle.bytes_layout.specs.Named.{exists_test_lem}
use Rattle.bytes_layout.specs.Decode.{decode, capacity_most}
use Rattle.check_rule.specs.Forms.{zeros, places_form, queue_form}
use Rattle.check_rule.specs.Parts.{frame_test, queue_test}
use Rattle.check_rule.specs.Check.{queue_row_test}
use Rattle.check_frames.specs.Frame.{frame_of}
use Rattle.check_queues.specs.Lines.{places_test}
use Rattle.check_frames.proofs.Frames.{frame_law, frame_few}
use Rattle.check_queues.proofs.Lined.{places_law, spent_places}

-- EXECUTE's byte is 1
pub executes : (n : ℕ) → is_phase (phase_of n) Execute ≡ eqb n 1
executes zero = refl
executes (suc zero) = refl
executes (suc (suc n)) = sym (ne_eqb (suc (suc n)) 1 (λ z. omega arith))

-- as many packets as the length says
pub packets_length : (c n i : ℕ) (b : List ℕ) → n ≤ c → length (packets_at c n i b) ≡ n
unfolding packets_at
packets_length zero n i b l = omega arith
packets_length (suc c) zero i b l = refl
packets_length (suc c) (suc n) i b l = ap suc (packets_length c n (i + packet_width) b (omega arith))

-- tests put in another order
shuffled : (f m x t l z p : Bool) → also x l ≡ also z p
    → also (also f (also m (also true x))) (also t l) ≡ also (also f (also m t)) (also z p)
shuffled false m x t l z p e = refl
shuffled true false x t l z p e = refl
shuffled true true x true l z p e = e
shuffled true true true false l z p e = refl
shuffled true true false false l z p e = refl

module _ (pl : Plan) (b : List ℕ) (q : Queue) (h : Exists pl q) where
  abbrev i : ℕ
  i = queue_row pl q

  abbrev n : ℕ
  n = get_or b (i + length_byte) 0

  abbrev m : ℕ
  m = get_or b (i + handled_byte) 0

  -- what the bytes say of the queue
  pub queue_is : (decode pl b).lines.queue q ≡ packets_at places n (i + first_place) b
  unfolding decode
  queue_is = rw (exists_test_lem pl q h)

  mark_is : (decode pl b).lines.handled q ≡ flag_of m
  unfolding decode
  mark_is = rw (exists_test_lem pl q h)

  flag_is : (decode pl b).flow.flag q ≡ flag_of (get_or b (i + flag_byte) 0)
  unfolding decode
  flag_is = rw (exists_test_lem pl q h)

  credit_is : ((decode pl b).flow.credit q).0 ≡ get_or b (i + credit_byte) 0
  unfolding decode
  credit_is = rw (exists_test_lem pl q h)

  phase_is : (decode pl b).clock.phase ≡ phase_of (get_or b phase_byte 0)
  unfolding decode
  phase_is = refl

  abbrev frame : Bool
  frame =
      frame_of (capacity pl.head q) (fed pl q) (is_unit q) (eqb (get_or b phase_byte 0) 1)
      (get_or b (i + credit_byte) 0)
      (get_or b (i + flag_byte) 0) m n (on_wires pl q (decode pl b))

  abbrev rest : Bool
  rest =
      also (zeros (i + first_place + packet_width * n) (packet_width * places - packet_width * n) b)
      (places_test pl q (flag_of m) n (i + first_place) b)

  -- the row's test by its bytes
  abbrev by_bytes : Bool
  by_bytes =
      also (queue_form i b)
      (also (frame_test pl (phase_of (get_or b phase_byte 0)) q (get_or b (i + credit_byte) 0)
      (flag_of (get_or b (i + flag_byte) 0))
      (flag_of m) (length (packets_at places n (i + first_place) b)) (on_wires pl q (decode pl b)))
      (lined_test pl q (flag_of m) (packets_at places n (i + first_place) b)))

  by_bytes_lem : queue_row_test pl b q ≡ by_bytes
  unfolding queue_row_test queue_test
  by_bytes_lem = rw (queue_is, mark_is, flag_is, credit_is, phase_is)

  few : n ≤ places → by_bytes ≡ also frame rest
  unfolding queue_form
  few l =
      rw (packets_length places n (i + first_place) b l, le-leb n places l)
      (shuffled (leb (get_or b (i + flag_byte) 0) 1) (leb m 1) (places_form places n (i + first_place) b)
      (frame_test pl (phase_of (get_or b phase_byte 0)) q (get_or b (i + credit_byte) 0)
      (flag_of (get_or b (i + flag_byte) 0))
      (flag_of m) n (on_wires pl q (decode pl b))) (lined_test pl q (flag_of m)
      (packets_at places n (i + first_place) b))
      (zeros (i + first_place + packet_width * n) (packet_width * places - packet_width * n) b)
      (places_test pl q (flag_of m) n (i + first_place) b) (places_law pl q (flag_of m) b places n (i + first_place) l)
      ∙ ap (λ (t : Bool). also t rest)
      (sym (frame_law pl (phase_of (get_or b phase_byte 0)) q (get_or b (i + credit_byte) 0) n
      (on_wires pl q (decode pl b))
      (get_or b (i + flag_byte) 0) m)
      ∙ ap (λ (x : Bool). frame_of (capacity pl.head q) (fed pl q) (is_unit q) x (get_or b (i + credit_byte) 0)
      (get_or b (i + flag_byte) 0) m n (on_wires pl q (decode pl b))) (executes (get_or b phase_byte 0))))

  -- more packets than places are refused either way
  form_few : queue_form i b ≡ true → n ≤ places
  unfolding queue_form
  form_few e =
      let x = (also_true {a = leb (get_or b (i + flag_byte) 0) 1} {b = _} e).1 in
      let y = (also_true {a = leb m 1} {b = _} x).1 in
      leb-true n places (also_true {a = leb n places} {b = _} y).0

  pub row_law : InRange pl.head → queue_row_test pl b q ≡ also frame rest
  row_law range = by_bytes_lem ∙ by (test (leb n places))
    where
      by : (leb n places ≡ true) ⊎ (leb n places ≡ false) → by_bytes ≡ also frame rest
      by (inl t) = few (leb-true n places t)
      by (inr t) =
          same_test by_bytes (also frame rest)
          (λ e. absurd (false≢true (sym t ∙ le-leb n places (form_few (also_true {a = queue_form i b} {b = _} e).0))))
          (λ e.
          let f = frame_few (capacity pl.head q) (fed pl q) (is_unit q) (eqb (get_or b phase_byte 0) 1)
          (get_or b (i + credit_byte) 0) (get_or b (i + flag_byte) 0) m n (on_wires pl q (decode pl b))
          (also_true {a = frame} {b = rest} e).0 in
          let k = capacity_most pl.head q range in
          absurd (false≢true (sym t ∙ le-leb n places (omega arith))))

  -- what the row's packets have spent
  pub row_spent : (a : ℕ) → n ≤ places
      → sum n (λ k. spends a (packet_at (i + first_place + packet_width * k) b))
      ≡ in_all (spends a) ((decode pl b).lines.queue q)
  row_spent a l = sym (spent_places a places n (i + first_place) b l) ∙ ap (in_all (spends a)) (sym queue_is)
