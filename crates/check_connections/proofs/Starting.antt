-- The accepted connections of a pair, one start slot after another, from the lowest on.
use mathlib.Core.Path.{◌≡◌, refl, sym, ap, subst, ◌∙◌}
use mathlib.Core.Logic.{◌⊎◌, inl, inr}
use mathlib.Core.Bool.{Bool, true, false, not, ◌&&◌, ◌||◌, false≢true}
use mathlib.Core.List.{List}
use Prim.Native.Nat.{ℕ, suc, ◌+◌, ◌*◌, ◌-◌, ◌^◌, ◌≤◌, ◌<◌}
use native.Mathlib.Nat.{add-zero}
use native.Mathlib.Omega.{arith}
use lib.Dec.{eqb, leb}
use borrow.Author.Tests.{leb-true, le-leb, lt-leb, eq-eqb, ne_eqb}
use Rattle.basis.specs.Choice.{also, also_true}
use Rattle.basis.specs.Bounded.{all_below, all_none, all_at, all_of, all_more, all_fail, lt_or_ge}
use Rattle.sets.specs.Sets.{has, lowest, rest}
use Rattle.sets.specs.Laws.{none_has, Lowest, lowest_is, has_rest, rest_less}
use Rattle.plan.specs.Plan.{Plan}
use Rattle.rules.specs.State.{State, has_connection}
use Rattle.valid.specs.Ties.{numbered, tie_test, pair_ties}
use Rattle.check_connections.specs.Claims.{Claims, Tied, Starts, StartsTied}
use Rattle.check_connections.proofs.Claiming.{claims_skip}

-- one start slot of pair n
abbrev pub start_test : Plan → State → ℕ → ℕ → Bool
start_test pl s n t = not (has_connection s (numbered (32 * n + t))) || tie_test pl s (32 * n + t)

-- ---- the loop: the start slots below `next` pass and their entries are claimed; the members left are those from it on
pub record Starting (pl : Plan) (s : State) (n word left : ℕ) (c : List ℕ) : Type 0 where
  pub next : ℕ
  pub few : next ≤ 32
  pub small : left < 4294967296
  pub members : (i : ℕ) → has left i ≡ also (leb next i) (has word i)
  pub tests : all_below next (start_test pl s n) ≡ true
  pub claims : Claims pl s (32 * n + next) c

module _ (pl : Plan) (s : State) (slots n word : ℕ) (starts : Starts s slots n word) where
  pub starting_none : word < 4294967296 → {c : List ℕ} → Claims pl s (32 * n) c → Starting pl s n word word c
  starting_none l {c} x =
      record {
        next = 0;
        few = omega arith;
        small = l;
        members = λ i. rw (le-leb 0 i (omega arith));
        tests = all_none (start_test pl s n);
        claims = rw (add-zero (32 * n)) x;
      }

  -- start slots that are no members are of no accepted connection
  module _ {left : ℕ} {c : List ℕ} (x : Starting pl s n word left c) (u : ℕ) (up : x.next ≤ u) (few : u ≤ 32)
      (none : (j : ℕ) → x.next ≤ j → j < u → has word j ≡ false) where
    not_held : (j : ℕ) → x.next ≤ j → j < u → has_connection s (numbered (32 * n + j)) ≡ false
    not_held j l m = starts.held j (omega arith) ∙ none j l m

    tests_to : all_below u (start_test pl s n) ≡ true
    tests_to = all_of u (start_test pl s n) (λ i l. by i l (lt_or_ge i x.next))
      where
        by : (i : ℕ) → i < u → (i < x.next) ⊎ (x.next ≤ i) → start_test pl s n i ≡ true
        by i l (inl m) = all_at x.next (start_test pl s n) x.tests i m
        by i l (inr m) = rw (not_held i m l)

    claims_to : Claims pl s (32 * n + u) c
    claims_to =
        let e : 32 * n + x.next + (u - x.next) ≡ 32 * n + u = omega arith in
        subst (λ (k : ℕ). Claims pl s k c) e
        (claims_skip pl s (32 * n + x.next) (u - x.next) x.claims
        (λ j l m. let f : 32 * n + (j - 32 * n) ≡ j = omega arith in
        ap (λ (k : ℕ). has_connection s (numbered k)) (sym f)
        ∙ not_held (j - 32 * n) (omega arith) (omega arith)))

  -- ---- the lowest member left
  module _ {left t : ℕ} {c : List ℕ} (x : Starting pl s n word left c) (p : 0 < left)
      (e : t ≡ lowest left) (l : t < 32) where
    wide : left < 2 ^ 64
    wide = let q = x.small in omega arith

    low : Lowest left t
    low = rw e (lowest_is left p wide)

    member : (leb x.next t ≡ true) × (has word t ≡ true)
    member = also_true (sym (x.members t) ∙ low.there)

    up_to : x.next ≤ t
    up_to = leb-true x.next t member.0

    none_under : (j : ℕ) → x.next ≤ j → j < t → has word j ≡ false
    none_under j m k = sym (rw (le-leb x.next j m) at (x.members j)) ∙ low.first j k

    held_here : has_connection s (numbered (32 * n + t)) ≡ true
    held_here = starts.held t l ∙ member.1

    -- it is a slot, and what is claimed are the entries of the connections before it
    pub starting_slot : t < slots
    starting_slot = starts.few t member.1

    pub starting_claims : Claims pl s (32 * n + t) c
    starting_claims = claims_to x t up_to (omega arith) none_under

    here_is : {r : Bool} {d : List ℕ} → Tied pl s (32 * n + t) r d → r ≡ start_test pl s n t
    here_is z = z.test ∙ sym (rw held_here)

    -- the members left then
    left_then : (i : ℕ) → has (rest left) i ≡ also (leb (t + 1) i) (has word i)
    left_then i = has_rest left i p wide ∙ rw (← e) (by (lt_or_ge i t) (lt_or_ge t i))
      where
        and_true : (y : Bool) → (y && true) ≡ y
        and_true true = refl
        and_true false = refl

        by : (i < t) ⊎ (t ≤ i) → (t < i) ⊎ (i ≤ t) → (has left i && not (eqb i t)) ≡ also (leb (t + 1) i) (has word i)
        by (inl a) m = rw (low.first i a, lt-leb (t + 1) i (omega arith))
        by (inr a) (inl m) =
            let k = up_to in
            rw (ne_eqb i t (λ y. omega arith), le-leb (t + 1) i (omega arith))
            (and_true (has left i) ∙ x.members i ∙ rw (le-leb x.next i (omega arith)))
        by (inr a) (inr m) =
            let y : i ≡ t = omega arith in
            rw (y, eq-eqb t t refl, low.there, lt-leb (t + 1) t (omega arith))

    pub starting_more : {r : Bool} {d : List ℕ} → Tied pl s (32 * n + t) r d → r ≡ true → {after : ℕ}
        → after ≡ rest left → Starting pl s n word after d
    starting_more {r} {d} z f {after} same =
        record {
          next = t + 1;
          few = omega arith;
          small = let q = x.small in let y = rest_less left p in omega arith;
          members = λ i. ap (λ (v : ℕ). has v i) same ∙ left_then i;
          tests = all_more (start_test pl s n) t (tests_to x t up_to (omega arith) none_under) (here_is z) f;
          claims = let y : suc (32 * n + t) ≡ 32 * n + (t + 1) = omega arith in
              subst (λ (k : ℕ). Claims pl s k d) y (z.claims f held_here);
        }

    pub starting_fail : {r : Bool} {d g : List ℕ} → Tied pl s (32 * n + t) r d → r ≡ false → StartsTied pl s n false g
    unfolding pair_ties
    starting_fail z f =
        record {
          test = sym (all_fail (start_test pl s n) 32 t l (here_is z) f);
          claims = λ y. absurd (false≢true y);
        }

  -- ---- none left
  pub starting_done : {left : ℕ} {c : List ℕ} → Starting pl s n word left c → left ≡ 0 → StartsTied pl s n true c
  unfolding pair_ties
  starting_done {left} {c} x e =
      record {
        test = sym (tests_to x 32 x.few (omega arith) none);
        claims = λ y. claims_to x 32 x.few (omega arith) none;
      }
    where
      none : (j : ℕ) → x.next ≤ j → j < 32 → has word j ≡ false
      none j l m =
          sym (rw (le-leb x.next j l) at (x.members j)) ∙ ap (λ (v : ℕ). has v j) e ∙ none_has j
