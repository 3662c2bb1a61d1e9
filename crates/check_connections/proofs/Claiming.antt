-- The claims: none at first, those of one connection entry by entry, and none of a connection that is not accepted.
use mathlib.Core.Path.{◌≡◌, refl, sym, ap, ◌∙◌}
use mathlib.Core.Logic.{◌⊎◌, inl, inr, ◌≢◌}
use mathlib.Core.Bool.{Bool, true, false, ◌||◌}
use mathlib.Core.List.{List}
use Prim.Native.Nat.{ℕ, zero, suc, ◌+◌, ◌*◌, ◌≤◌, ◌<◌}
use native.Mathlib.Nat.{add-zero, add-suc}
use native.Mathlib.Omega.{arith}
use lib.Dec.{eqb}
use lib.ListN.{get_or, set, length, length-set, replicate, length-replicate}
use lib.Seq.{get_or-set_same, get_or-set_other}
use borrow.Author.Tests.{eqb-true, eqb-false, eq-eqb}
use Rattle.basis.specs.Choice.{also, test}
use Rattle.basis.specs.Bounded.{any_below}
use Rattle.basis.specs.Walk.{Spot, on}
use Rattle.sets.specs.Sets.{has, single, either}
use Rattle.sets.specs.Laws.{none_has, has_either, has_single}
use Rattle.plan.specs.Plan.{Plan, Port}
use Rattle.plan_walks.specs.Steps.{stands_on}
use Rattle.rules.specs.Connections.{Connection}
use Rattle.rules.specs.State.{State, has_connection}
use Rattle.valid.specs.Ties.{numbered, standing, side_of, slot_of, length_of, makes_at, makes_test, claimed_before}
use Rattle.check_connections.specs.Claims.{none_claimed, Claims}

-- ---- what either of two tests says
pub or_none : (x : Bool) → (x || false) ≡ x
or_none true = refl
or_none false = refl

or_turn : (x y : Bool) → (x || y) ≡ (y || x)
or_turn true true = refl
or_turn true false = refl
or_turn false true = refl
or_turn false false = refl

or_move : (x y z : Bool) → ((x || y) || z) ≡ (x || (z || y))
or_move true y z = refl
or_move false y z = or_turn y z

-- ---- nothing claimed
replicate_at : (n k : ℕ) → ◌≡◌ {A = ℕ} (get_or (replicate n 0) k 0) 0
replicate_at zero k = refl
replicate_at (suc n) zero = refl
replicate_at (suc n) (suc k) = replicate_at n k

module _ (pl : Plan) (s : State) where
  before_none : (r o t : ℕ) → claimed_before pl s 0 r o t ≡ false
  unfolding claimed_before any_below
  before_none r o t = refl

  pub claims_none : {c : List ℕ} → c ≡ none_claimed → Claims pl s 0 c
  unfolding none_claimed
  claims_none {c} e =
      record {
        long = ap length e ∙ length-replicate {A = ℕ} 64 0;
        same = λ r o t l m n.
            ap (λ (v : ℕ). has v t) (ap (λ (z : List ℕ). get_or z (4 * r + o) 0) e ∙ replicate_at 64 (4 * r + o))
            ∙ none_has t ∙ sym (before_none r o t);
      }

  -- ---- one number more
  before_held : (m r o t : ℕ) → has_connection s (numbered m) ≡ true
      → claimed_before pl s (suc m) r o t ≡ (makes_test pl (numbered m) r o t || claimed_before pl s m r o t)
  unfolding claimed_before any_below
  before_held m r o t e = rw e

  before_else : (m r o t : ℕ) → has_connection s (numbered m) ≡ false
      → claimed_before pl s (suc m) r o t ≡ claimed_before pl s m r o t
  unfolding claimed_before any_below
  before_else m r o t e = rw e

  -- numbers of connections that are not accepted
  before_skip : (m k r o t : ℕ) → ((j : ℕ) → m ≤ j → j < m + k → has_connection s (numbered j) ≡ false)
      → claimed_before pl s (m + k) r o t ≡ claimed_before pl s m r o t
  before_skip m zero r o t h = rw add-zero
  before_skip m (suc k) r o t h =
      rw add-suc
      (before_else (m + k) r o t (h (m + k) (omega arith) (omega arith))
      ∙ before_skip m k r o t (λ j l n. h j l (omega arith)))

  pub claims_skip : (m k : ℕ) {c : List ℕ} → Claims pl s m c
      → ((j : ℕ) → m ≤ j → j < m + k → has_connection s (numbered j) ≡ false) → Claims pl s (m + k) c
  claims_skip m k x h =
      record {
        long = x.long;
        same = λ r o t l n q. x.same r o t l n q ∙ sym (before_skip m k r o t h);
      }

-- ---- the claims of the connections of numbers below m and of the first n entries of connection m
pub record Claiming (pl : Plan) (s : State) (m n : ℕ) (c : List ℕ) : Type 0 where
  pub long : length c ≡ 64
  pub same : (r o t : ℕ) → r < 16 → o < 4 → t < 32
      → has (get_or c (4 * r + o) 0) t
      ≡ (claimed_before pl s m r o t || any_below n (makes_at pl (numbered m) r o t))

module _ (pl : Plan) (s : State) (m : ℕ) where
  abbrev this : Connection
  this = numbered m

  pub claiming_none : {c : List ℕ} → Claims pl s m c → Claiming pl s m 0 c
  unfolding any_below
  claiming_none x =
      record {
        long = x.long;
        same = λ r o t l n q. x.same r o t l n q ∙ sym (or_none (claimed_before pl s m r o t));
      }

  pub claiming_done : (n : ℕ) {c : List ℕ} → n ≡ length_of pl this → has_connection s this ≡ true → Claiming pl s m n c
      → Claims pl s (suc m) c
  unfolding makes_test
  claiming_done n e h x =
      record {
        long = x.long;
        same = λ r o t l k q.
            x.same r o t l k q
            ∙ or_turn (claimed_before pl s m r o t) (any_below n (makes_at pl this r o t))
            ∙ ap (λ (i : ℕ). any_below i (makes_at pl this r o t) || claimed_before pl s m r o t) e
            ∙ sym (before_held pl s m r o t h);
      }

  -- where the walk stands on a router, the entry made there
  pub made_at : (n r o t : ℕ) (z : Spot Port) → standing pl this n ≡ z
      → makes_at pl this r o t n ≡ also (stands_on r z) (also (eqb o (side_of pl this r)) (eqb t (slot_of pl this n)))
  made_at n r o t z e =
      ap (λ (y : Spot Port). also (stands_on r y) (also (eqb o (side_of pl this r)) (eqb t (slot_of pl this n)))) e

  -- one entry more
  module _ (n : ℕ) (x : Port) (here : standing pl this n ≡ on x) (hr : x.router < 16)
      (ho : side_of pl this x.router < 4) (c : List ℕ) (so : Claiming pl s m n c) (k u : ℕ)
      (ek : k ≡ 4 * x.router + side_of pl this x.router) (eu : u ≡ slot_of pl this n) where
    abbrev word : ℕ
    word = either (get_or c k 0) (single u)

    at_same : (r o t : ℕ) → r < 16 → o < 4 → t < 32 → x.router ≡ r → o ≡ side_of pl this r
        → has (get_or (set c k word) (4 * r + o) 0) t
        ≡ (claimed_before pl s m r o t || (makes_at pl this r o t n || any_below n (makes_at pl this r o t)))
    at_same r o t l q j er eo =
        let same : side_of pl this r ≡ side_of pl this x.router = ap (side_of pl this) (sym er) in
        let i : 4 * r + o ≡ k = omega arith in
        let long = so.long in
        let one : makes_at pl this r o t n ≡ eqb t u = made_at n r o t (on x) here
        ∙ rw (eq-eqb x.router r er, eq-eqb o (side_of pl this r) eo, ← eu) in
        ap (λ (v : ℕ). has (get_or (set c k word) v 0) t) i
        ∙ ap (λ (v : ℕ). has v t) (get_or-set_same c k word 0 (omega arith))
        ∙ has_either (get_or c k 0) (single u) t
        ∙ rw (has_single u t, ← i, so.same r o t l q j, one)
        (or_move (claimed_before pl s m r o t) (any_below n (makes_at pl this r o t)) (eqb t u))

    at_other : (r o t : ℕ) → r < 16 → o < 4 → t < 32 → 4 * r + o ≢ k → makes_at pl this r o t n ≡ false
        → has (get_or (set c k word) (4 * r + o) 0) t
        ≡ (claimed_before pl s m r o t || (makes_at pl this r o t n || any_below n (makes_at pl this r o t)))
    at_other r o t l q j ne none =
        ap (λ (v : ℕ). has v t) (get_or-set_other c k (4 * r + o) word 0 ne)
        ∙ so.same r o t l q j
        ∙ rw none

    pub claiming_more : Claiming pl s m (suc n) (set c k word)
    unfolding any_below
    claiming_more =
        record {
          long = length-set c k word ∙ so.long;
          same = λ r o t l q j. by r o t l q j (test (eqb x.router r)) (test (eqb o (side_of pl this r)));
        }
      where
        by : (r o t : ℕ) → r < 16 → o < 4 → t < 32 → (eqb x.router r ≡ true) ⊎ (eqb x.router r ≡ false)
            → (eqb o (side_of pl this r) ≡ true) ⊎ (eqb o (side_of pl this r) ≡ false)
            → has (get_or (set c k word) (4 * r + o) 0) t
            ≡ (claimed_before pl s m r o t || (makes_at pl this r o t n || any_below n (makes_at pl this r o t)))
        by r o t l q j (inl a) (inl b) =
            at_same r o t l q j (eqb-true x.router r a) (eqb-true o (side_of pl this r) b)
        by r o t l q j (inl a) (inr b) =
            let er = eqb-true x.router r a in
            let eo = eqb-false o (side_of pl this r) b in
            let same : side_of pl this r ≡ side_of pl this x.router = ap (side_of pl this) (sym er) in
            at_other r o t l q j (λ e. eo (omega arith)) (made_at n r o t (on x) here ∙ rw (a, b))
        by r o t l q j (inr a) b =
            let er = eqb-false x.router r a in
            at_other r o t l q j (λ e. er (omega arith)) (made_at n r o t (on x) here ∙ rw a)
