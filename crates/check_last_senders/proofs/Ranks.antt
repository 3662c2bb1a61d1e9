-- What outputs remember: the ranks that a byte may be, byte after byte.
use mathlib.Core.Path.{◌≡◌, refl, sym, ap, ◌∙◌}
use mathlib.Core.Logic.{◌⊎◌, inl, inr}
use mathlib.Core.Bool.{Bool, true, false}
use mathlib.Core.List.{List}
use Prim.Native.Nat.{ℕ, ◌+◌, ◌/◌, ◌≤◌, ◌<◌}
use native.Mathlib.Numerals.{add-one}
use native.Mathlib.Omega.{arith}
use lib.Dec.{eqb, ltb, leb}
use lib.ListN.{get_or}
use borrow.Author.Tests.{eq-eqb, eqb-true, lt-ltb, ltb-true, le-leb, leb-true}
use Rattle.basis.specs.Choice.{pick, also, also_true, also_of, same_test}
use Rattle.basis.specs.Bounded.{all_below, all_none, lt_or_ge}
use Rattle.plan.specs.declared.Head.{Head}
use Rattle.plan.specs.Head.{destinations}
use Rattle.plan.specs.Tables.{joint_of_byte}
use Rattle.rules.specs.Valid.{is_joined}
use Rattle.bytes_steps.specs.Counts.{turns_from}
use Rattle.check_rule.specs.Forms.{zeros}
use Rattle.check_last_senders.specs.Turns.{side_rank, side_ranks, router_ranks, routers_ranks, turns_fit}

-- ---- the least rank, by a joint's byte: the joint's kind is in the two highest bits
pub least_apart : (v : ℕ) → v < 64 → ◌≡◌ {A = ℕ} 4 (pick (is_joined (joint_of_byte v)) 0 4)
unfolding joint_of_byte
least_apart v l = let k : v / 64 ≡ 0 = omega arith in rw k

pub least_joined : (v : ℕ) → 64 ≤ v → v < 256 → ◌≡◌ {A = ℕ} 0 (pick (is_joined (joint_of_byte v)) 0 4)
unfolding joint_of_byte
least_joined v l m = by (lt_or_ge v 128) (lt_or_ge v 192)
  where
    by : (v < 128) ⊎ (128 ≤ v) → (v < 192) ⊎ (192 ≤ v) → ◌≡◌ {A = ℕ} 0 (pick (is_joined (joint_of_byte v)) 0 4)
    by (inl a) b = let k : v / 64 ≡ 1 = omega arith in rw k
    by (inr a) (inl b) = let k : v / 64 ≡ 2 = omega arith in rw k
    by (inr a) (inr b) = let k : v / 64 ≡ 3 = omega arith in rw k

-- ---- ranks by their least and their greatest
rank_between : (w : Bool) (x : ℕ) → also (leb x 4) (leb (pick w 0 4) x) ≡ pick w (ltb x 5) (eqb x 4)
rank_between true x =
    same_test (also (leb x 4) (leb 0 x)) (ltb x 5)
    (λ e. let l = leb-true x 4 (also_true {a = leb x 4} {b = leb 0 x} e).0 in lt-ltb x 5 (omega arith))
    (λ e. let l = ltb-true x 5 e in also_of (le-leb x 4 (omega arith)) (le-leb 0 x (omega arith)))
rank_between false x =
    same_test (also (leb x 4) (leb 4 x)) (eqb x 4)
    (λ e. let p = also_true {a = leb x 4} {b = leb 4 x} e in
    let l = leb-true x 4 p.0 in let m = leb-true 4 x p.1 in eq-eqb x 4 (omega arith))
    (λ e. let q = eqb-true x 4 e in also_of (le-leb x 4 (omega arith)) (le-leb 4 x (omega arith)))

-- a side's rank, as the code joins its two tests
pub side_rank_lem : (j x : ℕ) {l : ℕ} {a b t : Bool} → l ≡ pick (is_joined (joint_of_byte j)) 0 4 → a ≡ leb x 4 → b ≡
    leb l x
    → t ≡ also a b → t ≡ side_rank j x
unfolding side_rank
side_rank_lem j x e p q r =
    r ∙ rw (p, q, e) (rank_between (is_joined (joint_of_byte j)) x)

-- one of four ranks
few_ranks : (x : ℕ) → leb x 3 ≡ ltb x 4
few_ranks x =
    same_test (leb x 3) (ltb x 4) (λ e. let l = leb-true x 3 e in lt-ltb x 4 (omega arith))
    (λ e. let l = ltb-true x 4 e in le-leb x 3 (omega arith))

-- ---- sides, one after the other
module _ (i k : ℕ) (joints b : List ℕ) where
  pub sides_first : true ≡ side_ranks i k 0 joints b
  unfolding side_ranks
  sides_first = sym (all_none _)

  pub sides_joined : (o : ℕ) {x y z : Bool} → x ≡ side_ranks i k o joints b
      → z ≡ side_rank (get_or joints (k + o) 0) (get_or b (i + o) 0) → y ≡ also x z → y ≡ side_ranks i k (o + 1) joints
      b
  unfolding side_ranks all_below
  sides_joined o {x} {y} {z} e g h = rw (add-one, ← e, ← g) (h ∙ same_pick x z)
    where
      same_pick : (p q : Bool) → also p q ≡ pick p q false
      same_pick true q = refl
      same_pick false q = refl

  pub sides_ranked : (o n : ℕ) {x : Bool} → x ≡ side_ranks i k o joints b → o ≡ n → x ≡ side_ranks i k n joints b
  sides_ranked o n e q = e ∙ ap (λ m. side_ranks i k m joints b) q

  -- a router: its sides, then its two other outputs
  pub router_ranked : {x y z t u : Bool} → x ≡ side_ranks i k 4 joints b → y ≡ leb (get_or b (i + 4) 0) 3
      → z ≡ leb (get_or b (i + 5) 0) 3 → t ≡ also y z → u ≡ also x t → u ≡ router_ranks i k joints b
  unfolding router_ranks
  router_ranked p q r m n = n ∙ rw (p, m, q, r, few_ranks (get_or b (i + 4) 0), few_ranks (get_or b (i + 5) 0))

-- ---- the whole, as the code leaves it
module _ (h : Head) (joints b : List ℕ) where
  pub turns_none : {i : ℕ} {x : Bool} → i ≡ turns_from h + 0 → x ≡ zeros i (destinations h) b → x ≡ false
      → false ≡ turns_fit h joints b
  unfolding turns_fit
  turns_none {i} {x} e f g =
      let z : turns_from h ≡ i = omega arith in
      sym (rw (z, ← f, g))

  pub turns_rest : {i : ℕ} {x y : Bool} → i ≡ turns_from h + 0 → x ≡ zeros i (destinations h) b → x ≡ true
      → y ≡ routers_ranks (i + destinations h) h.routers joints b → y ≡ turns_fit h joints b
  unfolding turns_fit
  turns_rest {i} {x} {y} e f g k =
      let z : turns_from h ≡ i = omega arith in
      k ∙ sym (rw (z, ← f, g))
