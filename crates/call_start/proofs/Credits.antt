-- The credit of each queue by its number is its capacity; and the arrays that are stored hold these credits.
use mathlib.Core.Path.{◌≡◌, refl, sym, ap, ap₂, ◌∙◌}
use mathlib.Core.List.{List, [], ◌++◌, append-nil}
use Prim.Native.Nat.{ℕ, zero, suc, ◌+◌, ◌*◌, ◌-◌, ◌/◌, ◌%◌, ◌≤◌, ◌<◌}
use native.Mathlib.Nat.{zero-add, add-zero, add-suc}
use native.Mathlib.Omega.{arith}
use lib.Dec.{ltb}
use lib.ListN.{length, get_or, set}
use borrow.Author.Tests.{lt-ltb, le-ltb}
use Rattle.basis.specs.Choice.{pick, pick_out}
use Rattle.basis.specs.Fold.{up_to, up_same, fill, fill_at, length_fill}
use Rattle.plan.specs.declared.Head.{Head}
use Rattle.plan.specs.Head.{destinations}
use Rattle.plan.specs.Plan.{Plan, A}
use Rattle.plan_queues.specs.Queue.{Queue, active_out, active_in, passive_in, passive_out, U, Q, outs, in_base}
use Rattle.plan_queues.specs.Queue.{sender_at}
use Rattle.plan_queues.specs.Queue.{in_router, queue_at}
use Rattle.rules.specs.Capacity.{capacity}
use Rattle.bytes_layout.specs.Rows.{rows, RowStands, stands_row, stands_get}
use Rattle.call_start.specs.Starting.{copies, filled, credits, router_credit, router_credits, inner_credits}
use Rattle.call_start.specs.Starting.{credit_of, credited}
use Rattle.call_start.proofs.Fills.{length_copies, copies_split, copies_rows, filled_second, rows_made}

-- ---- capacities by number
module _ (h : Head) where
  sender_credit : (r o m : ℕ) → pick (ltb m 2) h.f.0 h.k.0 ≡ capacity h (sender_at r o m)
  sender_credit r o zero = refl
  sender_credit r o (suc zero) = refl
  sender_credit r o (suc (suc m)) = rw (le-ltb (suc (suc m)) 2 (omega arith))

  router_credit_lem : (r k : ℕ) → router_credit h k ≡ capacity h (in_router r k)
  router_credit_lem r k =
      ap (λ (x : ℕ). pick (ltb k 4) h.u.0 (pick (ltb k 8) h.q.0 x))
      (sender_credit r ((k - 8) / 5) ((k - 8) % 5))
      ∙ ap (λ (x : ℕ). pick (ltb k 4) h.u.0 x)
      (pick_out (capacity h) (ltb k 8) (Q r (k - 4)) (sender_at r ((k - 8) / 5) ((k - 8) % 5)))
      ∙ pick_out (capacity h) (ltb k 4) (U r k)
      (pick (ltb k 8) (Q r (k - 4)) (sender_at r ((k - 8) / 5) ((k - 8) % 5)))

pub credit_of_lem : (pl : Plan) (n : ℕ) → credit_of pl.head n ≡ capacity pl.head (queue_at pl n)
unfolding credit_of queue_at
credit_of_lem pl n =
    let h : Head = pl.head in
    let last : Queue = pick (ltb n (in_base pl + A pl)) (active_in (n - in_base pl))
    (passive_in (n - in_base pl - A pl)) in
    let inner : Queue = in_router ((n - outs pl) / 28) ((n - outs pl) % 28) in
    let third : Queue = pick (ltb n (in_base pl)) inner last in
    let second : Queue = pick (ltb n (outs pl)) (passive_out (n - A pl)) third in
    let a : ℕ → ℕ = λ x. pick (ltb n (A pl)) h.aout.0 x in
    let b : ℕ → ℕ = λ x. pick (ltb n (outs pl)) h.pout.0 x in
    ap (λ (x : ℕ). a (b (pick (ltb n (in_base pl)) x (pick (ltb n (in_base pl + A pl)) h.ain.0 h.pin.0))))
    (router_credit_lem h ((n - outs pl) / 28) ((n - outs pl) % 28))
    ∙ ap (λ (x : ℕ). a (b (pick (ltb n (in_base pl)) (capacity h inner) x)))
    (pick_out (capacity h) (ltb n (in_base pl + A pl)) (active_in (n - in_base pl))
    (passive_in (n - in_base pl - A pl)))
    ∙ ap (λ (x : ℕ). a (b x)) (pick_out (capacity h) (ltb n (in_base pl)) inner last)
    ∙ ap a (pick_out (capacity h) (ltb n (outs pl)) (passive_out (n - A pl)) third)
    ∙ pick_out (capacity h) (ltb n (A pl)) (active_out n) second

-- ---- group by group
module _ (h : Head) (i : ℕ) where
  pub active_out_credit : i < h.actives → credit_of h (0 + i) ≡ h.aout.0
  unfolding credit_of
  active_out_credit l = rw (lt-ltb (0 + i) h.actives (omega arith))

  pub passive_out_credit : i < h.passives → credit_of h (h.actives + i) ≡ h.pout.0
  unfolding credit_of
  passive_out_credit l =
      rw (le-ltb (h.actives + i) h.actives (omega arith), lt-ltb (h.actives + i) (destinations h) (omega arith))

  pub router_part : i < 28 * h.routers → credit_of h (destinations h + i) ≡ router_credit h (i % 28)
  unfolding credit_of
  router_part l =
      let n : ℕ = destinations h + i in
      let e : n - destinations h ≡ i = omega arith in
      rw (
        le-ltb n h.actives (omega arith),
        le-ltb n (destinations h) (omega arith),
        lt-ltb n (destinations h + 28 * h.routers) (omega arith),
        e,
      )

  pub active_in_credit : i < h.actives → credit_of h (destinations h + 28 * h.routers + i) ≡ h.ain.0
  unfolding credit_of
  active_in_credit l =
      let n : ℕ = destinations h + 28 * h.routers + i in
      rw (
        le-ltb n h.actives (omega arith),
        le-ltb n (destinations h) (omega arith),
        le-ltb n (destinations h + 28 * h.routers) (omega arith),
        lt-ltb n (destinations h + 28 * h.routers + h.actives) (omega arith),
      )

  pub passive_in_credit : i < h.passives
      → credit_of h (destinations h + 28 * h.routers + h.actives + i) ≡ h.pin.0
  unfolding credit_of
  passive_in_credit l =
      let n : ℕ = destinations h + 28 * h.routers + h.actives + i in
      rw (
        le-ltb n h.actives (omega arith),
        le-ltb n (destinations h) (omega arith),
        le-ltb n (destinations h + 28 * h.routers) (omega arith),
        le-ltb n (destinations h + 28 * h.routers + h.actives) (omega arith),
      )

-- ---- the array of all routers' credits
module _ (h : Head) where
  -- a router's
  router_row : List ℕ
  router_row = up_to (fill (router_credit h)) 28 (copies 28 h.k.0)

  length_row : length router_row ≡ 28
  unfolding router_row
  length_row = length_fill (router_credit h) 28 (copies 28 h.k.0) ∙ length_copies 28 h.k.0

  row_at_lem : (i : ℕ) → i < 28 → get_or router_row i 0 ≡ router_credit h i
  unfolding router_row
  row_at_lem i l =
      fill_at (router_credit h) 28 (copies 28 h.k.0) i 0 l
      (let e = length_copies 28 h.k.0 in omega arith)

  -- put in by the code
  pub router_made : (at : ℕ) (t : List ℕ) {a b c d e f : List ℕ} → a ≡ filled at 4 h.u.0 t
      → b ≡ filled (at + 4) 4 h.q.0 a → c ≡ filled (at + 8) 2 h.f.0 b → d ≡ filled (at + 13) 2 h.f.0 c
      → e ≡ filled (at + 18) 2 h.f.0 d → f ≡ filled (at + 23) 2 h.f.0 e → f ≡ router_credits h at t
  unfolding router_credits
  router_made at t p q r s i j = rw (j, i, s, r, q, p)

  -- at its offset
  row_behind : (l m : List ℕ) (at : ℕ) → at ≡ length l → router_credits h at (l ++ m) ≡ l ++ router_credits h 0 m
  unfolding router_credits
  row_behind l m at e =
      let u : ℕ = h.u.0 in
      let q : ℕ = h.q.0 in
      let f : ℕ = h.f.0 in
      let us = filled_second l m at 0 4 u (omega arith) in
      let qs = ap (filled (at + 4) 4 q) us ∙ filled_second l _ (at + 4) 4 4 q (omega arith) in
      let a = ap (filled (at + 8) 2 f) qs ∙ filled_second l _ (at + 8) 8 2 f (omega arith) in
      let b = ap (filled (at + 13) 2 f) a ∙ filled_second l _ (at + 13) 13 2 f (omega arith) in
      let c = ap (filled (at + 18) 2 f) b ∙ filled_second l _ (at + 18) 18 2 f (omega arith) in
      ap (filled (at + 23) 2 f) c ∙ filled_second l _ (at + 23) 23 2 f (omega arith)

  row_first : (r : List ℕ) → router_credits h 0 (copies 28 h.k.0 ++ r) ≡ router_row ++ r
  unfolding router_row router_credits filled up_to copies
  row_first r = refl

  -- those of n routers, in an array that is long enough
  module _ (n m : ℕ) (long : 28 * n ≤ m) where
    inner_rows : inner_credits h n (copies m h.k.0)
        ≡ rows 0 n (λ j. router_row) ++ (copies (m - 28 * n) h.k.0 ++ [])
    unfolding inner_credits
    inner_rows =
        let k : ℕ = h.k.0 in
        let more : List ℕ = copies (m - 28 * n) k ++ [] in
        let e : m ≡ 28 * n + (m - 28 * n) = omega arith in
        ap (inner_credits h n)
        (sym (append-nil (copies m k)) ∙ ap (λ (i : ℕ). copies i k ++ []) e ∙ copies_split (28 * n) (m - 28 * n) k []
        ∙ sym (copies_rows 28 0 n k more))
        ∙ rows_made 28 0 (copies 28 k) (λ j. router_row) (λ j. length_row) (λ r c. router_credits h (28 * r) c)
        (λ j l r o. row_behind l (copies 28 k ++ r) (28 * j) (omega arith)
        ∙ ap (λ (x : List ℕ). l ++ x) (row_first r)) [] refl n more

    pub inner_at : (i : ℕ) → i < 28 * n → get_or (inner_credits h n (copies m h.k.0)) i 0 ≡ router_credit h (i % 28)
    inner_at i l =
        let b : List ℕ = inner_credits h n (copies m h.k.0) in
        let e : i ≡ 0 + 28 * (i / 28) + i % 28 = omega arith in
        let all : RowStands 0 (rows 0 n (λ j. router_row)) b =
        record { before = []; after = copies (m - 28 * n) h.k.0 ++ []; same = inner_rows; offset = refl } in
        let one = stands_row 28 n 0 (λ j. router_row) b (λ j. length_row) all (i / 28) (omega arith) in
        ap (λ (j : ℕ). get_or b j 0) e
        ∙ stands_get (0 + 28 * (i / 28)) router_row b one (i % 28) (let w = length_row in omega arith)
        ∙ row_at_lem (i % 28) (omega arith)

-- ---- stored
module _ (h : Head) (b : List ℕ) where
  -- by an array that holds the credits
  pub credits_as : (from n : ℕ) (t : List ℕ) → ((i : ℕ) → i < n → get_or t i 0 ≡ credit_of h (from + i))
      → credits from t n b ≡ credited h from n b
  unfolding credits credited
  credits_as from n t same =
      up_same (λ i c. set c (2 + 39 * (from + i)) (get_or t i 0))
      (λ i c. set c (2 + 39 * (from + i)) (credit_of h (from + i))) n b
      (λ i c l. ap (set c (2 + 39 * (from + i))) (same i l))

  -- those of n queues behind those of the first k
  more : (k n : ℕ) → credited h k n (credited h 0 k b) ≡ credited h 0 (k + n) b
  unfolding credited up_to
  more k zero = ap (λ (m : ℕ). credited h 0 m b) (sym (add-zero k))
  more k (suc n) =
      ap₂ (λ (c : List ℕ) (m : ℕ). set c (2 + 39 * m) (credit_of h m)) (more k n) (sym (zero-add (k + n)))
      ∙ ap (λ (m : ℕ). credited h 0 m b) (sym (add-suc k n))

  pub credited_more : (k n : ℕ) {c d : List ℕ} → c ≡ credited h 0 k b → d ≡ credited h k n c
      → d ≡ credited h 0 (k + n) b
  credited_more k n e f = f ∙ ap (credited h k n) e ∙ more k n
