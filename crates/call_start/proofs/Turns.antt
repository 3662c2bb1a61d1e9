-- What outputs remember after Start, 'the last in order': the bytes that are stored, and that they are the state's.
use mathlib.Core.Path.{◌≡◌, refl, sym, ap, ap₂, ◌∙◌}
use mathlib.Core.Logic.{◌⊎◌, inl, inr}
use mathlib.Core.List.{List, [], ◌∷◌, ◌++◌, append_assoc}
use Prim.Native.Nat.{ℕ, zero, suc, ◌+◌, ◌*◌, ◌-◌, ◌≤◌, ◌<◌}
use native.Mathlib.Nat.{zero-add, suc-add, add-zero, mul-zero, mul-suc}
use native.Mathlib.Omega.{arith}
use lib.ListN.{length, length-append}
use Rattle.basis.specs.Bounded.{lt_or_ge}
use Rattle.basis.specs.Fold.{up_keeps_at}
use Rattle.plan.specs.declared.Head.{Head}
use Rattle.plan.specs.Head.{destinations}
use Rattle.plan.specs.Plan.{Plan, R, A, P}
use Rattle.plan_queues.specs.Feeds.{Output, of_active, of_passive, of_side, to_unit, from_unit}
use Rattle.rules.specs.Outputs.{last_in_order, output_at, output_number}
use Rattle.rules.specs.State.{blank, start}
use Rattle.rules.specs.Valid.{Drives}
use Rattle.rules.proofs.OutNumbers.{output_at_lem}
use Rattle.bytes_layout.specs.Rows.{rows, rows_same, rows_length, past}
use Rattle.bytes_layout.specs.Encode.{turn_bytes, turn_part}
use Rattle.bytes_steps.specs.Counts.{turns_from, state_size}
use Rattle.call_start.specs.Starting.{copies, filled, router_turns, inner_turns, turned}
use Rattle.call_start.proofs.Fills.{length_copies, copies_split, copies_rows, filled_behind, zeros, cleared}
use Rattle.call_start.proofs.Fills.{cleared_more, rows_last}

-- of a router's outputs: the four sides, to the unit, on the way back
turns_row : List ℕ
turns_row = 4 ∷ 4 ∷ 4 ∷ 4 ∷ 3 ∷ 3 ∷ []

-- ---- rows in two parts
rows_split : (i a b : ℕ) (g : ℕ → List ℕ) → rows i (a + b) g ≡ rows i a g ++ rows (i + a) b g
unfolding rows
rows_split i zero b g = rw (zero-add b, add-zero i)
rows_split i (suc a) b g =
    let e : suc i + a ≡ i + suc a = omega arith in
    ap (λ (n : ℕ). rows i n g) (suc-add a b)
    ∙ ap (λ (x : List ℕ). g i ++ x) (rows_split (suc i) a b g)
    ∙ sym (append_assoc (g i) (rows (suc i) a g) (rows (suc i + a) b g))
    ∙ ap (λ (n : ℕ). (g i ++ rows (suc i) a g) ++ rows n b g) e

-- and w by w, where each w of them make the same bytes
rows_groups : (w : ℕ) (g : ℕ → List ℕ) (t : List ℕ) (n i j : ℕ)
    → ((r : ℕ) → r < n → rows (i + w * r) w g ≡ t) → rows i (w * n) g ≡ rows j n (λ k. t)
unfolding rows
rows_groups w g t zero i j same = ap (λ (n : ℕ). rows i n g) (mul-zero w)
rows_groups w g t (suc n) i j same =
    let e : w * suc n ≡ w + w * n = mul-suc w n ∙ (omega arith) in
    let z : i ≡ i + w * 0 = omega (arith, mul-zero w) in
    ap (λ (m : ℕ). rows i m g) e ∙ rows_split i w (w * n) g
    ∙ ap₂ (λ (x y : List ℕ). x ++ y) (ap (λ (m : ℕ). rows m w g) z ∙ same 0 (omega arith))
    (rows_groups w g t n (i + w) (suc j)
    (λ r l. (let k : i + w + w * r ≡ i + w * suc r = omega (arith, mul-suc w r) in ap (λ (m : ℕ). rows m w g) k)
    ∙ same (suc r) (omega arith)))

-- ---- what the outputs remember in Start's state
module _ (pl : Plan) where
  -- by an output's number
  turn_of : (o : Output) → Drives pl o → (n : ℕ) → n ≡ output_number pl o
      → turn_bytes (start pl) (output_at pl n) ≡ last_in_order o ∷ []
  unfolding start blank
  turn_of o h n e = ap (λ (m : ℕ). turn_bytes (start pl) (output_at pl m)) e
      ∙ ap (turn_bytes (start pl)) (output_at_lem pl o h)

  -- an interface's output
  interface_turn : (n : ℕ) → n < A pl + P pl → turn_bytes (start pl) (output_at pl n) ≡ zeros 1
  unfolding copies output_number
  interface_turn n l = by (lt_or_ge n (A pl))
    where
      by : (n < A pl) ⊎ (A pl ≤ n) → turn_bytes (start pl) (output_at pl n) ≡ zeros 1
      by (inl a) = turn_of (of_active n) a n refl
      by (inr g) = turn_of (of_passive (n - A pl)) (omega arith) n (omega arith)

  -- a router's outputs
  router_turn : (r : ℕ) → r < R pl
      → rows (A pl + P pl + 6 * r) 6 (λ n. turn_bytes (start pl) (output_at pl n)) ≡ turns_row
  unfolding rows turns_row output_number
  router_turn r l =
      let m : ℕ = A pl + P pl + 6 * r in
      let side : (k : ℕ) → k < 4 → (n : ℕ) → n ≡ m + k → turn_bytes (start pl) (output_at pl n) ≡ 4 ∷ [] =
      λ k g n e. turn_of (of_side r k) (l, g) n e in
      let a = side 0 (omega arith) m (omega arith) in
      let b = side 1 (omega arith) (suc m) (omega arith) in
      let c = side 2 (omega arith) (suc (suc m)) (omega arith) in
      let d = side 3 (omega arith) (suc (suc (suc m))) (omega arith) in
      let e = turn_of (to_unit r) l (suc (suc (suc (suc m)))) (omega arith) in
      let f = turn_of (from_unit r) l (suc (suc (suc (suc (suc m))))) (omega arith) in
      λ i. a i ++ (b i ++ (c i ++ (d i ++ (e i ++ (f i ++ [])))))

  -- all of them
  start_turns : (rest : List ℕ)
      → turn_part pl (start pl) ++ rest ≡ zeros (A pl + P pl) ++ (rows 0 (R pl) (λ j. turns_row) ++ rest)
  start_turns rest =
      let g : ℕ → List ℕ = λ n. turn_bytes (start pl) (output_at pl n) in
      let m : ℕ = A pl + P pl in
      ap (λ (x : List ℕ). x ++ rest) (rows_split 0 m (6 * R pl) g)
      ∙ append_assoc (rows 0 m g) (rows (0 + m) (6 * R pl) g) rest
      ∙ ap₂ (λ (x y : List ℕ). x ++ (y ++ rest))
      (rows_same 0 m g (λ j. zeros 1) (λ j a b. interface_turn j (omega arith)))
      (ap (λ (i : ℕ). rows i (6 * R pl) g) (zero-add m) ∙ rows_groups 6 g turns_row (R pl) m 0 router_turn)
      ∙ copies_rows 1 0 m 0 (rows 0 (R pl) (λ j. turns_row) ++ rest)
      ∙ (let e : 1 * m ≡ m = omega arith in
      ap (λ (n : ℕ). zeros n ++ (rows 0 (R pl) (λ j. turns_row) ++ rest)) e)

-- ---- stored behind a list
-- of one router, from an offset on
module _ (pre b : List ℕ) (at : ℕ) (offset : at ≡ length pre) (long : at + 6 ≤ length b) where
  router_behind : router_turns at (pre ++ past at b) ≡ pre ++ (turns_row ++ past (at + 6) b)
  unfolding copies turns_row
  router_behind =
      let o : at + 4 ≡ length (pre ++ copies 4 4) = omega (arith, length-append pre (copies 4 4), length_copies 4 4) in
      let e : at + 4 + 2 ≡ at + 6 = omega arith in
      ap (filled (at + 4) 2 3) (filled_behind pre at 4 4 b offset (omega arith)
      ∙ sym (append_assoc pre (copies 4 4) (past (at + 4) b)))
      ∙ filled_behind (pre ++ copies 4 4) (at + 4) 2 3 b o (omega arith)
      ∙ append_assoc pre (copies 4 4) (copies 2 3 ++ past (at + 4 + 2) b)
      ∙ ap (λ (k : ℕ). pre ++ (turns_row ++ past k b)) e

-- of n routers
inner_behind : (at n : ℕ) (pre b : List ℕ) → at ≡ length pre → at + 6 * n ≤ length b
    → inner_turns at n (pre ++ past at b) ≡ pre ++ (rows 0 n (λ j. turns_row) ++ past (at + 6 * n) b)
unfolding inner_turns rows turns_row
inner_behind at n pre b offset long =
    up_keeps_at (λ r x. x ≡ pre ++ (rows 0 r (λ j. turns_row) ++ past (at + 6 * r) b))
    (λ r x. router_turns (at + 6 * r) x) n (pre ++ past at b)
    (λ r x g q.
    let t : List ℕ = rows 0 r (λ j. turns_row) in
    let k : at + 6 * r + 6 ≡ at + 6 * suc r = omega arith in
    let l : length t ≡ 6 * r = rows_length 6 0 r (λ j. turns_row) (λ j. refl) in
    let o : at + 6 * r ≡ length (pre ++ t) = omega (arith, length-append pre t) in
    ap (router_turns (at + 6 * r))
    (q ∙ sym (append_assoc pre t (past (at + 6 * r) b)))
    ∙ router_behind (pre ++ t) b (at + 6 * r) o (omega arith)
    ∙ append_assoc pre t (turns_row ++ past (at + 6 * r + 6) b)
    ∙ ap (λ (y : List ℕ). pre ++ y) (sym (rows_last r (λ j. turns_row) (past (at + 6 * r + 6) b)))
    ∙ ap (λ (i : ℕ). pre ++ (rows 0 (suc r) (λ j. turns_row) ++ past i b)) k)
    (ap (λ (i : ℕ). pre ++ past i b) (let e : at ≡ at + 6 * 0 = omega arith in e))

-- of all outputs, behind zero bytes
turned_behind : (h : Head) (b : List ℕ) → state_size h ≤ length b → turned h (cleared (turns_from h) b)
    ≡ zeros (turns_from h) ++ (zeros (destinations h) ++ (rows 0 h.routers (λ j. turns_row)
    ++ past (state_size h) b))
unfolding turned
turned_behind h b long =
    let at : ℕ = turns_from h + destinations h in
    let e : at + 6 * h.routers ≡ state_size h = omega arith in
    let more : List ℕ = rows 0 h.routers (λ j. turns_row) ++ past (state_size h) b in
    ap (inner_turns at h.routers) (cleared_more (turns_from h) (destinations h) b (omega arith))
    ∙ inner_behind at h.routers (zeros at) b (sym (length_copies at 0)) (omega arith)
    ∙ ap (λ (n : ℕ). zeros at ++ (rows 0 h.routers (λ j. turns_row) ++ past n b)) e
    ∙ copies_split (turns_from h) (destinations h) 0 more

-- so what Start's state has there
pub turned_start : (pl : Plan) (b : List ℕ) → state_size pl.head ≤ length b
    → turned pl.head (cleared (turns_from pl.head) b)
    ≡ zeros (turns_from pl.head) ++ (turn_part pl (start pl) ++ past (state_size pl.head) b)
turned_start pl b long =
    turned_behind pl.head b long
    ∙ ap (λ (x : List ℕ). zeros (turns_from pl.head) ++ x) (sym (start_turns pl (past (state_size pl.head) b)))
