-- Loops that choose: the routers without a way back, and the destinations whose walk meets none of them.
use mathlib.Core.Path.{◌≡◌, refl, sym, ◌∙◌}
use mathlib.Core.Logic.{◌⊎◌, inl, inr}
use mathlib.Core.Bool.{Bool, true, false, not, ◌&&◌, ◌||◌, true≢false}
use mathlib.Core.List.{List, []}
use Prim.Native.Nat.{ℕ, ◌+◌, ◌^◌, ◌≤◌, ◌<◌}
use native.Mathlib.Omega.{arith}
use lib.Dec.{eqb, ltb}
use lib.ListN.{get_or}
use borrow.Author.Tests.{eq-eqb, ne_eqb, lt-ltb, le-ltb}
use Rattle.basis.specs.Choice.{pick, test}
use Rattle.basis.specs.Bounded.{lt_or_ge}
use Rattle.sets.specs.Sets.{has, single, both, either, less, lowest, rest}
use Rattle.sets.specs.Laws.{has_either, has_less, has_single, none_has, either_lt}
use Rattle.graph_reach.proofs.Sweeps.{same_or_not}
use Rattle.graph_met.proofs.Trailing.{single_le, lowest_there, lowest_gone, others_kept, others_small}
use Rattle.load_arrivals.specs.Pairs.{Lacking, Sift}

or_none : (b : Bool) → (b || false) ≡ b
or_none true = refl
or_none false = refl

and_all : (b : Bool) → (b && true) ≡ b
and_all true = refl
and_all false = refl

-- ---- the routers without a way back
module _ (arrive : List ℕ) (a : ℕ) where
  pub lacking_none : Lacking arrive a 0 0
  lacking_none = record { small = omega arith; members = λ r. none_has r ∙ rw (le-ltb r 0 (omega arith)) }

  pub lacking_more : (n : ℕ) {s v : ℕ} {b : Bool} → n < 16 → Lacking arrive a n s → b ≡ has (get_or arrive n 0) a
      → v ≡ pick b s (either s (single n)) → Lacking arrive a (n + 1) v
  lacking_more n {s} {v} {b} l w e f = by' b refl
    where
      own : has s n ≡ false
      own = w.members n ∙ rw (le-ltb n n (omega arith))

      other : (r : ℕ) → (r ≡ n → ⊥) → (ltb r (n + 1) && not (has (get_or arrive r 0) a)) ≡ has s r
      other r q = at (lt_or_ge r n)
        where
          at : (r < n) ⊎ (n ≤ r) → (ltb r (n + 1) && not (has (get_or arrive r 0) a)) ≡ has s r
          at (inl h) = rw (w.members r, lt-ltb r n h, lt-ltb r (n + 1) (omega arith))
          at (inr h) = rw (w.members r, le-ltb r n h, le-ltb r (n + 1) (omega arith))

      by' : (c : Bool) → b ≡ c → Lacking arrive a (n + 1) v
      by' true q = record {
        small = rw is w.small;
        members = λ r. at r (same_or_not r n);
      }
        where
          is : v ≡ s
          is = f ∙ rw q

          at : (r : ℕ) → (r ≡ n) ⊎ (r ≡ n → ⊥) → has v r ≡ (ltb r (n + 1) && not (has (get_or arrive r 0) a))
          at r (inl c) = rw (is, c, own, lt-ltb n (n + 1) (omega arith), ← e, q)
          at r (inr c) = rw is (sym (other r c))
      by' false q = record {
        small = rw is (either_lt 16 s (single n) w.small (let m = single_le n l in omega arith));
        members = λ r. at r (same_or_not r n);
      }
        where
          is : v ≡ either s (single n)
          is = f ∙ rw q

          at : (r : ℕ) → (r ≡ n) ⊎ (r ≡ n → ⊥) → has v r ≡ (ltb r (n + 1) && not (has (get_or arrive r 0) a))
          at r (inl c) =
              rw (
                is,
                c,
                has_either s (single n) n,
                has_single n n,
                own,
                eq-eqb n n refl,
                lt-ltb n (n + 1) (omega arith),
                ← e,
                q,
              )
          at r (inr c) =
              rw (is, has_either s (single n) r, has_single n r, ne_eqb r n c) (or_none (has s r) ∙ sym (other r c))

  pub lacking_done : {i n s : ℕ} → i ≡ n → Lacking arrive a i s → Lacking arrive a n s
  lacking_done e w = rw (← e) w

-- ---- the destinations whose walk meets none of them
-- left are those that are still to be looked at
pub record Sifting (up : List (List ℕ)) (x v missing left w : ℕ) : Type 0 where
  pub small : left < 2 ^ 32
  pub todo : (d : ℕ) → has left d ≡ true → (has v d ≡ true) × (has w d ≡ true)
  pub done : (d : ℕ) → has left d ≡ false → has w d
      ≡ (has v d && eqb (both (get_or (get_or up x []) d 0) missing) 0)

pub sifting_none : (up : List (List ℕ)) (x v missing : ℕ) → v < 2 ^ 32 → Sifting up x v missing v v
sifting_none up x v missing l = record { small = l; todo = λ d q. (q, q); done = λ d q. rw q }

-- the next to be looked at is a member
pub sifting_there : {up : List (List ℕ)} {x v missing left d w : ℕ} → 0 < left → d ≡ lowest left
    → Sifting up x v missing left w → has v d ≡ true
sifting_there {left = left} {d = d} p e s =
    (s.todo d (lowest_there left (rest left) d p s.small e refl)).0

pub sifting_more : {up : List (List ℕ)} {x v missing left left' d w w' met : ℕ} → 0 < left → d ≡ lowest left
    → left' ≡ rest left → met ≡ both (get_or (get_or up x []) d 0) missing
    → w' ≡ pick (eqb met 0) w (less w (single d)) → Sifting up x v missing left w
    → Sifting up x v missing left' w'
sifting_more {up} {x} {v} {missing} {left} {left'} {d} {w} {w'} {met} p e f g h s = record {
  small = others_small left left' d p s.small e f;
  todo = λ i q. todo' i q (same_or_not i d);
  done = λ i q. done' i q (same_or_not i d);
}
  where
    there : (has v d ≡ true) × (has w d ≡ true)
    there = s.todo d (lowest_there left left' d p s.small e f)

    other : (i : ℕ) → (i ≡ d → ⊥) → has w' i ≡ has w i
    other i q = by' (test (eqb met 0))
      where
        by' : (eqb met 0 ≡ true) ⊎ (eqb met 0 ≡ false) → has w' i ≡ has w i
        by' (inl c) = rw (h, c)
        by' (inr c) =
            rw (h, c, has_less w (single d) i, has_single d i, ne_eqb i d q) (and_all (has w i))

    todo' : (i : ℕ) → has left' i ≡ true → (i ≡ d) ⊎ (i ≡ d → ⊥) → (has v i ≡ true) × (has w' i ≡ true)
    todo' i q (inl c) = absurd (true≢false (sym (rw c at q) ∙ lowest_gone left left' d p s.small e f))
    todo' i q (inr c) =
        let old = s.todo i (sym (others_kept left left' d p s.small e f i c) ∙ q) in
        (old.0, other i c ∙ old.1)

    own : (eqb met 0 ≡ true) ⊎ (eqb met 0 ≡ false)
        → has w' d ≡ (has v d && eqb (both (get_or (get_or up x []) d 0) missing) 0)
    own (inl c) = rw (h, c, there.1, there.0, ← g, c)
    own (inr c) =
        rw (h, c, has_less w (single d) d, has_single d d, eq-eqb d d refl, there.1, there.0, ← g, c)

    done' : (i : ℕ) → has left' i ≡ false → (i ≡ d) ⊎ (i ≡ d → ⊥)
        → has w' i ≡ (has v i && eqb (both (get_or (get_or up x []) i 0) missing) 0)
    done' i q (inl c) = rw c (own (test (eqb met 0)))
    done' i q (inr c) =
        other i c ∙ s.done i (sym (others_kept left left' d p s.small e f i c) ∙ q)

pub sifting_end : {up : List (List ℕ)} {x v missing left w : ℕ} → left ≡ 0 → Sifting up x v missing left w
    → Sift up x v missing w
sifting_end e s = record { members = λ d. s.done d (rw e (none_has d)) }
