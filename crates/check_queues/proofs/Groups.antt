-- The groups of queues, one behind the other: their capacities, and all their rows.
use mathlib.Core.Path.{◌≡◌, refl, sym, ap, ◌∙◌}
use mathlib.Core.Logic.{◌⊎◌, inl, inr}
use mathlib.Core.Bool.{Bool, true, false}
use mathlib.Core.List.{List}
use Prim.Native.Nat.{ℕ, zero, suc, ◌+◌, ◌*◌, ◌-◌, ◌/◌, ◌%◌, ◌≤◌, ◌<◌}
use native.Mathlib.Nat.{zero-add}
use native.Mathlib.Omega.{arith}
use lib.Dec.{ltb}
use lib.ListN.{get_or, replicate}
use borrow.Author.Tests.{lt-ltb, le-ltb}
use Rattle.basis.specs.Choice.{pick, test}
use Rattle.basis.specs.Bounded.{all_below, all_same}
use Rattle.basis.specs.Fold.{fill_at}
use Rattle.plan.specs.declared.Head.{Head}
use Rattle.plan.specs.Head.{destinations}
use Rattle.plan.specs.Plan.{Plan}
use Rattle.plan.specs.Tables.{table_plan}
use Rattle.plan_queues.specs.Queue.{active_out, active_in, passive_in, passive_out, number, queues, queue_at}
use Rattle.plan_queues.specs.Queue.{in_router, sender_at}
use Rattle.plan_journeys.proofs.Numbers.{queue_at_lem}
use Rattle.rules.specs.Capacity.{capacity}
use Rattle.rules.specs.Valid.{sum}
use Rattle.check_rule.specs.Check.{queue_row_test, queues_part}
use Rattle.check_queues.specs.Lines.{cap_in, router_caps, RowsChecked, LinesChecked, spent_in}
use Rattle.check_queues.proofs.Lined.{sum_like}
use Rattle.check_frames.proofs.Tallies.{tallied_like}
use Rattle.check_queues.proofs.Turns.{rows_none, rows_join, rows_lost}

-- ---- capacities
module _ (h : Head) (routes : List (List ℕ)) (joints : List ℕ) where
  abbrev net : Plan
  net = table_plan h routes joints

  sender_cap : (r o j : ℕ) → pick (ltb j 2) h.f.0 h.k.0 ≡ capacity h (sender_at r o j)
  sender_cap r o zero = refl
  sender_cap r o (suc zero) = refl
  sender_cap r o (suc (suc j)) = rw (le-ltb (suc (suc j)) 2 (omega arith))

  router_cap : (r k : ℕ) → cap_in h k ≡ capacity h (in_router r k)
  unfolding cap_in
  router_cap r k = by (test (ltb k 4)) (test (ltb k 8))
    where
      by : (ltb k 4 ≡ true) ⊎ (ltb k 4 ≡ false) → (ltb k 8 ≡ true) ⊎ (ltb k 8 ≡ false)
          → cap_in h k ≡ capacity h (in_router r k)
      by (inl x) y = rw x
      by (inr x) (inl y) = rw (x, y)
      by (inr x) (inr y) = rw (x, y) (sender_cap r ((k - 8) / 5) ((k - 8) % 5))

  router_queue : (r k : ℕ) → r < h.routers → k < 28 → queue_at net (destinations h + 28 * r + k) ≡ in_router r k
  unfolding queue_at table_plan
  router_queue r k hr hk =
      let a : h.actives ≤ destinations h + 28 * r + k = omega arith in
      let d : destinations h ≤ destinations h + 28 * r + k = omega arith in
      let b : destinations h + 28 * r + k < destinations h + 28 * h.routers = omega arith in
      let x : (destinations h + 28 * r + k - destinations h) / 28 ≡ r = omega arith in
      let y : (destinations h + 28 * r + k - destinations h) % 28 ≡ k = omega arith in
      rw (
        le-ltb (destinations h + 28 * r + k) h.actives a,
        le-ltb (destinations h + 28 * r + k) (destinations h) d,
        lt-ltb (destinations h + 28 * r + k) (destinations h + 28 * h.routers) b,
        x,
        y,
      )

  pub router_caps_lem : (r k : ℕ) → r < h.routers → k < 28
      → get_or (router_caps h) k 0 ≡ capacity h (queue_at net (destinations h + 28 * r + k))
  unfolding router_caps
  router_caps_lem r k hr hk =
      fill_at (cap_in h) 28 (replicate 28 0) k 0 hk (omega arith) ∙ router_cap r k
      ∙ ap (capacity h) (sym (router_queue r k hr hk))

  pub active_out_cap : (k : ℕ) → k < h.actives → h.aout.0 ≡ capacity h (queue_at net (0 + k))
  unfolding table_plan number
  active_out_cap k l =
      ap (capacity h) (sym (queue_at_lem net (active_out k) l)) ∙ ap (λ (n : ℕ). capacity h (queue_at net n))
      (sym (zero-add k))

  pub passive_out_cap : (k : ℕ) → k < h.passives → h.pout.0 ≡ capacity h (queue_at net (0 + h.actives + k))
  unfolding table_plan number
  passive_out_cap k l =
      let e : h.actives + k ≡ 0 + h.actives + k = omega arith in
      ap (capacity h) (sym (queue_at_lem net (passive_out k) l)) ∙ ap (λ (n : ℕ). capacity h (queue_at net n)) e

  pub active_in_cap : (k : ℕ) → k < h.actives
      → h.ain.0 ≡ capacity h (queue_at net (destinations h + 28 * h.routers + k))
  unfolding table_plan number
  active_in_cap k l = ap (capacity h) (sym (queue_at_lem net (active_in k) l))

  pub passive_in_cap : (k : ℕ) → k < h.passives
      → h.pin.0 ≡ capacity h (queue_at net (destinations h + 28 * h.routers + h.actives + k))
  unfolding table_plan number
  passive_in_cap k l = ap (capacity h) (sym (queue_at_lem net (passive_in k) l))

  -- ---- all rows are all queues
  count_is : queues net ≡ destinations h + 28 * h.routers + destinations h
  unfolding table_plan queues
  count_is = omega arith

  pub lines_done : (b : List ℕ) {r : Bool} {t u : List ℕ}
      → RowsChecked net b 0 (destinations h + 28 * h.routers + destinations h) r t u → LinesChecked net b r t u
  unfolding queues_part
  lines_done b x =
      record {
        test =
            x.test
            ∙ all_same (destinations h + 28 * h.routers + destinations h)
            (λ k. queue_row_test net b (queue_at net (0 + k)))
            (λ k. queue_row_test net b (queue_at net k))
            (λ k l. ap (λ (n : ℕ). queue_row_test net b (queue_at net n)) (zero-add k))
            ∙ ap (λ (m : ℕ). all_below m (λ k. queue_row_test net b (queue_at net k))) (sym count_is);
        count = λ e.
            tallied_like
            (λ a l.
            sum_like (destinations h + 28 * h.routers + destinations h) (λ k. spent_in net b a (0 + k))
            (λ k. spent_in net b a k) (λ k i. ap (λ (n : ℕ). spent_in net b a n) (zero-add k))
            ∙ ap (λ (m : ℕ). sum m (λ k. spent_in net b a k)) (sym count_is))
            (x.count e);
      }

-- ---- routers, 28 rows each
module _ (pl : Plan) (b : List ℕ) (d : ℕ) where
  pub routers_start : (t : List ℕ) → RowsChecked pl b d (28 * 0) true t t
  routers_start t = rows_none pl b d t

  next : (r : ℕ) → 28 * r + 28 ≡ 28 * (r + 1)
  next r = omega arith

  pub routers_more : (r : ℕ) {t u v : List ℕ} → RowsChecked pl b d (28 * r) true t u
      → RowsChecked pl b (d + 28 * r) 28 true u v → RowsChecked pl b d (28 * (r + 1)) true t v
  routers_more r x y = rw (← next r) (rows_join pl b d (28 * r) 28 x y)

  pub routers_fail : (n r : ℕ) {t u v : List ℕ} → r < n → RowsChecked pl b d (28 * r) true t u
      → RowsChecked pl b (d + 28 * r) 28 false u v → RowsChecked pl b d (28 * n) false t v
  routers_fail n r l x y =
      let e : 28 * r + 28 + 28 * (n - (r + 1)) ≡ 28 * n = omega arith in
      rw (← e) (rows_lost pl b d (28 * r + 28) (28 * (n - (r + 1))) (rows_join pl b d (28 * r) 28 x y))

  pub routers_done : {r n : ℕ} {t u : List ℕ} → RowsChecked pl b d (28 * r) true t u → r ≡ n
      → RowsChecked pl b d (28 * n) true t u
  routers_done x e = rw (← e) x

  -- the three groups: interfaces' out-queues, routers, interfaces' in-queues
  module _ (m n k : ℕ) where
    pub first_lost : {t u : List ℕ} → RowsChecked pl b d m false t u → RowsChecked pl b d (m + n + k) false t u
    first_lost x = rows_lost pl b d (m + n) k (rows_lost pl b d m n x)

    pub second_lost : {t u v : List ℕ} → RowsChecked pl b d m true t u → RowsChecked pl b (d + m) n false u v
        → RowsChecked pl b d (m + n + k) false t v
    second_lost x y = rows_lost pl b d (m + n) k (rows_join pl b d m n x y)

    pub all_three : {t u v w : List ℕ} {r : Bool} → RowsChecked pl b d m true t u → RowsChecked pl b (d + m) n true u v
        → RowsChecked pl b (d + (m + n)) k r v w → RowsChecked pl b d (m + n + k) r t w
    all_three x y z = rows_join pl b d (m + n) k (rows_join pl b d m n x y) z

module _ (h : Head) (routes : List (List ℕ)) (joints : List ℕ) (b : List ℕ) where
  abbrev plan : Plan
  plan = table_plan h routes joints

  abbrev d : ℕ
  d = destinations h

  abbrev w : ℕ
  w = 28 * h.routers

  at_first : 0 + d ≡ d
  at_first = omega arith

  at_last : 0 + (d + w) ≡ d + w
  at_last = omega arith

  pub lines_first : {t u : List ℕ} → RowsChecked plan b 0 d false t u → LinesChecked plan b false t u
  lines_first x = lines_done h routes joints b (first_lost plan b 0 d w d x)

  pub lines_second : {t u v : List ℕ} → RowsChecked plan b 0 d true t u → RowsChecked plan b d w false u v
      → LinesChecked plan b false t v
  lines_second {t} {u} {v} x y =
      let f : RowsChecked plan b (0 + d) w false u v = rw at_first y in
      lines_done h routes joints b (second_lost plan b 0 d w d x f)

  pub lines_all : {t u v z : List ℕ} {r : Bool} → RowsChecked plan b 0 d true t u → RowsChecked plan b d w true u v
      → RowsChecked plan b (d + w) d r v z → LinesChecked plan b r t z
  lines_all {t} {u} {v} {z} {r} x y k =
      let f : RowsChecked plan b (0 + d) w true u v = rw at_first y in
      let g : RowsChecked plan b (0 + (d + w)) d r v z = rw at_last k in
      lines_done h routes joints b (all_three plan b 0 d w d x f g)
