-- What the tests of bytes say of the state that they are read as.
use mathlib.Core.Path.{◌≡◌, refl, sym, ap, ◌∙◌}
use mathlib.Core.Logic.{◌⊎◌, inl, inr}
use mathlib.Core.Bool.{Bool, true, false, ◌||◌}
use mathlib.Core.List.{List}
use Prim.Native.Nat.{ℕ, zero, suc, ◌+◌, ◌*◌, ◌-◌, ◌/◌, ◌%◌, ◌≤◌, ◌<◌, min}
use native.Mathlib.Nat.{min-eq_left, min-eq_right}
use native.Mathlib.Omega.{arith}
use lib.Dec.{eqb, ltb, leb}
use lib.ListN.{get_or}
use borrow.Author.Tests.{eq-eqb, ne_eqb, eqb-true, lt-ltb, le-ltb, ltb-true, ltb-false, le-leb, leb-true}
use Rattle.basis.specs.Choice.{pick, also, also_true, also_of, same_test, test}
use Rattle.basis.specs.Bounded.{all_below, any_below, Found, all_at, all_of, all_same, any_true, any_of, lt_or_ge}
use Rattle.basis.specs.Bounded.{or_right}
use Rattle.packets.specs.declared.Packet.{Packet}
use Rattle.plan.specs.Plan.{Plan, R, A, S}
use Rattle.plan_queues.specs.Queue.{ahead, back, Queue, active_out, active_in, passive_in, passive_out, U, Q, F, K}
use Rattle.plan_queues.specs.Queue.{Exists}
use Rattle.plan_queues.specs.Queue.{number, queue_at}
use Rattle.plan_queues.specs.Queue.{queues}
use Rattle.plan_queues.specs.Feeds.{Output}
use Rattle.rules.specs.Capacity.{capacity}
use Rattle.rules.specs.Outputs.{outputs, output_at, output_number}
use Rattle.rules.specs.State.{start_allowance, is_free}
use Rattle.rules.specs.Valid.{Drives, total, spends}
use Rattle.rules.proofs.Numbers.{exists_at}
use Rattle.rules.proofs.OutNumbers.{drives_at, output_below}
use Rattle.valid.specs.Test.{entry_test, allowances_test}
use Rattle.bytes_layout.specs.Named.{entry_test_lem}
use Rattle.bytes_layout.specs.Codes.{entry_from}
use Rattle.bytes_layout.specs.Offsets.{queue_row, output_row, allowance_row, entry_row, outputs_at, allowances_at}
use Rattle.bytes_layout.specs.Offsets.{table_at}
use Rattle.bytes_layout.specs.Decode.{decode}
use Rattle.bytes_steps.specs.Counts.{outputs_from, output_count, outputs_at_lem, outputs_by}
use Rattle.check_rule.specs.Forms.{zeros, side_form}
use Rattle.check_rule.specs.Parts.{side_test}
use Rattle.check_rule.specs.Check.{outputs_part, queues_part, picks_part, tables_part, allowances_part, side_row_test}
use Rattle.check_rule.proofs.Quiet.{zeros_part, zeros_output, zeros_row, quiet_wires, quiet_total}
use Rattle.check_idle.specs.Bytes.{IdleRow, QuietBytes, entry_fits, entry_free, side_fits, sides_fit, allowances_fit}

-- ---- nothing on the way: every output's row is zero, every queue's row idle
at_row : {b : List ℕ} {i cap : ℕ} (j : ℕ) → IdleRow b i cap → j ≡ i → IdleRow b j cap
at_row j r q = rw q r

module _ (pl : Plan) (b : List ℕ) (quiet : QuietBytes pl.head b) where
  pub quiet_outputs : (o : Output) → Drives pl o → zeros (output_row pl o) 7 b ≡ true
  unfolding output_row
  quiet_outputs o h =
      let n = output_below pl o h in let at = outputs_at_lem pl in let count = outputs_by pl in
      zeros_part (outputs_from pl.head) (7 * output_count pl.head) (outputs_at pl + 7 * output_number pl o) 7 b
      quiet.outputs (omega arith) (omega arith)

  pub quiet_row : (q : Queue) → Exists pl q → IdleRow b (queue_row pl q) (capacity pl.head q)
  unfolding queue_row number
  quiet_row (active_out a) h = at_row _ (quiet.active_outs a h) (omega arith)
  quiet_row (passive_out p) h = at_row _ (quiet.passive_outs p h) (omega arith)
  quiet_row (U r i) (h, k) = at_row _ ((quiet.routers r h).entering i k) (omega arith)
  quiet_row (Q r i) (h, k) = at_row _ ((quiet.routers r h).unit i k) (omega arith)
  quiet_row (F ahead r o) (h, k) = at_row _ (((quiet.routers r h).sides o k).from_unit 0 (omega arith)) (omega arith)
  quiet_row (F back r o) (h, k) = at_row _ (((quiet.routers r h).sides o k).from_unit 1 (omega arith)) (omega arith)
  quiet_row (K r i o) (h, k, l, n) = by (test (ltb i o))
    where
      by : (ltb i o ≡ true) ⊎ (ltb i o ≡ false) → IdleRow b (queue_row pl (K r i o)) pl.head.k.0
      by (inl e) =
          let g = ltb-true i o e in
          rw e (at_row _ (((quiet.routers r h).sides o l).crossing i (omega arith)) (omega arith))
      by (inr e) =
          let g = ltb-false i o e in
          rw e (at_row _ (((quiet.routers r h).sides o l).crossing (i - 1) (omega arith)) (omega arith))
  quiet_row (active_in a) h = at_row _ (quiet.active_ins a h) (omega arith)
  quiet_row (passive_in p) h = at_row _ (quiet.passive_ins p h) (omega arith)

  -- so the parts of the test that look at outputs, queues and picks pass
  pub quiet_parts : (outputs_part pl b ≡ true) × (queues_part pl b ≡ true) × (picks_part pl b ≡ true)
  unfolding outputs_part queues_part picks_part
  quiet_parts = (
    all_of (outputs pl) _ (λ n l. (zeros_output pl b (output_at pl n)
        (quiet_outputs (output_at pl n) (drives_at pl n l))
        (drives_at pl n l)).0),
    all_of (queues pl) _ (λ n l. let h = exists_at pl n l in let i = quiet_row (queue_at pl n) h in
        (zeros_row pl b (queue_at pl n) i.credit i.rest (quiet_wires pl b quiet_outputs (queue_at pl n)) h).0),
    all_of (outputs pl) _ (λ n l. (zeros_output pl b (output_at pl n)
        (quiet_outputs (output_at pl n) (drives_at pl n l))
        (drives_at pl n l)).1),
  )

  -- and nobody has spent anything
  pub quiet_spent : (w : Packet → ℕ) → total pl w (decode pl b) ≡ 0
  quiet_spent w = quiet_total pl b quiet_outputs (λ q h. (quiet_row q h).rest) w

-- ---- tables
-- an entry of byte x is in range, and is free
entry_within : (x : ℕ) → entry_test (entry_from x) ≡ leb x 4
entry_within zero = refl
entry_within (suc x) =
    same_test (ltb x 4) (leb (suc x) 4)
    (λ e. let h = ltb-true x 4 e in le-leb (suc x) 4 (omega arith))
    (λ e. let h = leb-true (suc x) 4 e in lt-ltb x 4 (omega arith))

entry_free_lem : (x : ℕ) → is_free (entry_from x) ≡ eqb x 0
entry_free_lem zero = refl
entry_free_lem (suc x) = sym (ne_eqb (suc x) 0 (λ e. omega arith))

module _ (pl : Plan) (b : List ℕ) (room : S pl ≤ 32) (r o : ℕ) (h : r < R pl) (k : o < 4) where
  abbrev from : ℕ
  from = table_at pl + 64 * (4 * r + o)

  row_at_lem : (t : ℕ) → entry_row pl r o t ≡ from + 2 * t
  unfolding entry_row
  row_at_lem t = omega arith

  entry_of : (t : ℕ) → t < S pl → (decode pl b).table r o t ≡ entry_from (get_or b (from + 2 * t) 0)
  unfolding decode
  entry_of t l = rw (entry_test_lem pl r o t (h, k, l), row_at_lem t)

  -- what a side's bytes tell, slot by slot
  fits_both : (t : ℕ) → entry_fits from (S pl) b t ≡ true
      → (leb (get_or b (from + 2 * t) 0) (pick (ltb t (S pl)) 4 0) ≡ true)
      × (eqb (get_or b (from + 2 * t + 1) 0) 0 ≡ true)
  fits_both t e =
      also_true {a = leb (get_or b (from + 2 * t) 0) (pick (ltb t (S pl)) 4 0)}
      {b = eqb (get_or b (from + 2 * t + 1) 0) 0} e

  module _ (fits : (t : ℕ) → t < 32 → entry_fits from (S pl) b t ≡ true) where
    in_form : side_form pl r o b ≡ true
    unfolding side_form
    in_form = all_of 32 _ (λ t l. rw (row_at_lem t) (at t l (lt_or_ge t (S pl))))
      where
        at : (t : ℕ) → t < 32 → (t < S pl) ⊎ (S pl ≤ t)
            → also (eqb (get_or b (from + 2 * t + 1) 0) 0) (ltb t (S pl) || eqb (get_or b (from + 2 * t) 0) 0) ≡ true
        at t l (inl g) = also_of (fits_both t (fits t l)).1 (rw (lt-ltb t (S pl) g))
        at t l (inr g) =
            let z = leb-true (get_or b (from + 2 * t) 0) 0 (rw (le-ltb t (S pl) g) at (fits_both t (fits t l)).0) in
            also_of (fits_both t (fits t l)).1
            (rw (eq-eqb (get_or b (from + 2 * t) 0) 0 (omega arith)) (or_right (ltb t (S pl))))

    in_range : all_below (S pl) (λ t. entry_test ((decode pl b).table r o t)) ≡ true
    in_range =
        all_of (S pl) _
        (λ t l. rw (entry_of t l, entry_within (get_or b (from + 2 * t) 0))
        (rw (lt-ltb t (S pl) l) at (fits_both t (fits t (omega arith))).0))

  free_back : any_below 32 (entry_free from (S pl) b) ≡ true
      → any_below (S pl) (λ t. is_free ((decode pl b).table r o t)) ≡ true
  free_back e = at (any_true 32 _ e)
    where
      at : Found 32 (entry_free from (S pl) b) → any_below (S pl) (λ t. is_free ((decode pl b).table r o t)) ≡ true
      at (t, l, f) =
          let p = also_true {a = ltb t (S pl)} {b = eqb (get_or b (from + 2 * t) 0) 0} f in
          let g = ltb-true t (S pl) p.0 in
          any_of (S pl) (λ j. is_free ((decode pl b).table r o j)) t g
          (rw (entry_of t g, entry_free_lem (get_or b (from + 2 * t) 0)) p.1)

  free_here : any_below (S pl) (λ t. is_free ((decode pl b).table r o t)) ≡ true
      → any_below 32 (entry_free from (S pl) b) ≡ true
  free_here e = at (any_true (S pl) _ e)
    where
      at : Found (S pl) (λ t. is_free ((decode pl b).table r o t)) → any_below 32 (entry_free from (S pl) b) ≡ true
      at (t, l, f) =
          any_of 32 (entry_free from (S pl) b) t (omega arith)
          (also_of (lt-ltb t (S pl) l) (rw (entry_of t l, entry_free_lem (get_or b (from + 2 * t) 0)) at f))

  fits_here : side_form pl r o b ≡ true → all_below (S pl) (λ t. entry_test ((decode pl b).table r o t)) ≡ true
      → (t : ℕ) → t < 32 → entry_fits from (S pl) b t ≡ true
  unfolding side_form
  fits_here e f t l = at (lt_or_ge t (S pl))
    where
      form : (eqb (get_or b (from + 2 * t + 1) 0) 0 ≡ true)
          × ((ltb t (S pl) || eqb (get_or b (from + 2 * t) 0) 0) ≡ true)
      form =
          also_true {a = eqb (get_or b (from + 2 * t + 1) 0) 0} {b = ltb t (S pl) || eqb (get_or b (from + 2 * t) 0) 0}
          (rw (row_at_lem t) at (all_at 32 _ e t l))

      at : (t < S pl) ⊎ (S pl ≤ t) → entry_fits from (S pl) b t ≡ true
      at (inl g) =
          also_of {a = leb (get_or b (from + 2 * t) 0) (pick (ltb t (S pl)) 4 0)}
          (rw (lt-ltb t (S pl) g)
          (rw (entry_of t g, entry_within (get_or b (from + 2 * t) 0)) at (all_at (S pl) _ f t g)))
          form.0
      at (inr g) =
          let z = eqb-true (get_or b (from + 2 * t) 0) 0 (rw (le-ltb t (S pl) g) at form.1) in
          also_of {a = leb (get_or b (from + 2 * t) 0) (pick (ltb t (S pl)) 4 0)}
          (rw z (le-leb 0 (pick (ltb t (S pl)) 4 0) (omega arith))) form.0

  -- a side's bytes fit where its row passes
  pub side_fits_lem : side_fits from (S pl) b ≡ side_row_test pl b r o
  unfolding side_fits side_row_test side_test
  side_fits_lem =
      same_test (also (all_below 32 (entry_fits from (S pl) b)) (any_below 32 (entry_free from (S pl) b)))
      (also (side_form pl r o b)
      (also (all_below (S pl) (λ t. entry_test ((decode pl b).table r o t)))
      (any_below (S pl) (λ t. is_free ((decode pl b).table r o t)))))
      (λ e. let p = also_true {a = all_below 32 (entry_fits from (S pl) b)}
      {b = any_below 32 (entry_free from (S pl) b)} e in
      let f : (t : ℕ) → t < 32 → entry_fits from (S pl) b t ≡ true = all_at 32 _ p.0 in
      also_of (in_form f) (also_of (in_range f) (free_back p.1)))
      (λ e. let p = also_true {a = side_form pl r o b}
      {b = also (all_below (S pl) (λ t. entry_test ((decode pl b).table r o t)))
      (any_below (S pl) (λ t. is_free ((decode pl b).table r o t)))} e in
      let q = also_true {a = all_below (S pl) (λ t. entry_test ((decode pl b).table r o t))}
      {b = any_below (S pl) (λ t. is_free ((decode pl b).table r o t))} p.1 in
      also_of (all_of 32 _ (fits_here p.0 q.0)) (free_here q.1))

-- every side's
module _ (pl : Plan) (b : List ℕ) (room : S pl ≤ 32) where
  abbrev side : ℕ → Bool
  side j = side_fits (table_at pl + 64 * j) (S pl) b

  abbrev router : ℕ → Bool
  router r = all_below 4 (λ o. side_row_test pl b r o)

  routers_pass : all_below (4 * R pl) side ≡ true → (r : ℕ) → r < R pl → router r ≡ true
  routers_pass e r h =
      all_of 4 _
      (λ o k. sym (side_fits_lem pl b room r o h k) ∙ all_at (4 * R pl) side e (4 * r + o) (omega arith))

  sides_pass : all_below (R pl) router ≡ true → (j : ℕ) → j < 4 * R pl → side j ≡ true
  sides_pass e j h =
      let q : j ≡ 4 * (j / 4) + j % 4 = omega arith in
      let l : j / 4 < R pl = omega arith in
      let k : j % 4 < 4 = omega arith in
      ap side q ∙ side_fits_lem pl b room (j / 4) (j % 4) l k ∙ all_at 4 _ (all_at (R pl) router e (j / 4) l) (j % 4) k

  pub tables_fit : sides_fit (table_at pl) (S pl) (4 * R pl) b ≡ tables_part pl b
  unfolding sides_fit tables_part
  tables_fit =
      same_test (all_below (4 * R pl) side) (all_below (R pl) router) (λ e. all_of (R pl) router (routers_pass e))
      (λ e. all_of (4 * R pl) side (sides_pass e))

-- ---- allowances
-- what has been spent counts only up to some bound past the whole
up_to : (x t full : ℕ) → full ≤ 7 → eqb (x + min 200 t) full ≡ eqb (x + t) full
up_to x t full h = by (lt_or_ge t 200)
  where
    by : (t < 200) ⊎ (200 ≤ t) → eqb (x + min 200 t) full ≡ eqb (x + t) full
    by (inl l) = let q : t ≤ 200 = omega arith in rw (min-eq_right q)
    by (inr l) =
        same_test (eqb (x + min 200 t) full) (eqb (x + t) full)
        (λ e. let s = eqb-true (x + min 200 t) full e in let m = min-eq_left l in absurd (omega arith))
        (λ e. let s = eqb-true (x + t) full e in absurd (omega arith))

allowance_at : (pl : Plan) (b : List ℕ) (a : ℕ) → a < A pl
    → (decode pl b).flow.allowance a ≡ get_or b (allowances_at pl + a) 0
unfolding decode allowance_row
allowance_at pl b a l = rw (lt-ltb a (A pl) l)

pub allowances_fit_lem : (pl : Plan) (b spent : List ℕ)
    → ((a : ℕ) → a < A pl → get_or spent a 0 ≡ min 200 (total pl (spends a) (decode pl b))) → start_allowance pl ≤ 7
    → allowances_fit (allowances_at pl) (A pl) (start_allowance pl) spent b ≡ allowances_part pl b
unfolding allowances_fit allowances_part allowances_test
allowances_fit_lem pl b spent f h = all_same (A pl) _ _ at
  where
    kept : (a : ℕ) → a < A pl → (decode pl b).flow.allowance a ≡ get_or b (allowances_at pl + a) 0
    kept a l = allowance_at pl b a l

    at : (a : ℕ) → a < A pl
        → eqb (get_or b (allowances_at pl + a) 0 + get_or spent a 0) (start_allowance pl)
        ≡ eqb ((decode pl b).flow.allowance a + total pl (spends a) (decode pl b)) (start_allowance pl)
    at a l =
        rw (f a l, kept a l)
        (up_to (get_or b (allowances_at pl + a) 0) (total pl (spends a) (decode pl b)) (start_allowance pl) h)
