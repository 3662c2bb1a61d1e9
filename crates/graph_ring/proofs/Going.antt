-- What goes lies on no ring, and what stays where none goes leads on for ever; so the sweeps find a ring exactly if
-- there is one.
use mathlib.Core.Path.{◌≡◌, refl, sym, ◌∙◌}
use mathlib.Core.Logic.{◌⊎◌, inl, inr, ◌≢◌}
use mathlib.Core.Bool.{Bool, true, false, not, ◌&&◌, and-eq-true_iff}
use mathlib.Core.List.{List}
use Prim.Native.Nat.{ℕ, zero, suc, ◌≤◌, ◌<◌, ◌^◌}
use native.Mathlib.Nat.{pow-suc}
use native.Mathlib.Omega.{arith}
use lib.Dec.{eqb}
use lib.ListN.{get_or}
use borrow.Author.Tests.{eqb-true, eq-eqb, ne_eqb}
use Rattle.basis.specs.Choice.{pick, test, refuted, affirmed, not_both}
use Rattle.basis.specs.Bounded.{Found, find, below_suc, or_cases, or_right}
use Rattle.basis.specs.Fold.{up_keeps_at}
use Rattle.basis.specs.Ring.{Ring, Leads, follow, ring_test, ring_of_test, test_of_ring}
use Rattle.sets.specs.Sets.{has, single, both, either, less, lowest, rest, highest}
use Rattle.sets.specs.Laws.{has_both, has_either, has_less, has_single, has_rest, no_member, less_le}
use Rattle.sets.specs.Laws.{lowest_is, highest_is, rest_less, without_less}
use Rattle.graph_ring.specs.Words.{leads_to, lone_of, some_of, first_of, Left, Swept}
use Rattle.graph_ring.proofs.Laws.{not_empty}

-- ---- a set that is not empty has a member
under_pow : (n : ℕ) → n < 2 ^ n
under_pow zero = omega arith
under_pow (suc n) = let p = pow-suc 2 n in let q = under_pow n in omega arith

member : (s : ℕ) → s ≢ 0 → (d : ℕ) × (has s d ≡ true)
member s h = by (find s (has s))
  where
    by : Found s (has s) ⊎ ((i : ℕ) → i < s → has s i ≡ false) → (d : ℕ) × (has s d ≡ true)
    by (inl (d, l, t)) = (d, t)
    by (inr none) = absurd (h (no_member s s (under_pow s) none))

-- ---- x is taken from todo, and later is what then is there
pub record Taken (todo x later : ℕ) : Type 0 where
  pub there : has todo x ≡ true
  pub fewer : later < todo
  pub others : (y : ℕ) → has later y ≡ (has todo y && not (eqb y x))

pub taken_low : {todo x later : ℕ} → 0 < todo → todo < 2 ^ 64 → x ≡ lowest todo → later ≡ rest todo
    → Taken todo x later
taken_low {todo} p l e f = rw (e, f) (record {
  there = (lowest_is todo p l).there;
  fewer = rest_less todo p;
  others = λ y. has_rest todo y p l;
})

pub taken_high : {todo x later : ℕ} → 0 < todo → todo < 2 ^ 64 → x ≡ highest todo → later ≡ less todo (single x)
    → Taken todo x later
taken_high {todo} {x} p l e f = rw f (record {
  there = is;
  fewer = without_less todo x is;
  others = λ y. has_less todo (single x) y ∙ rw (has_single x y);
})
  where
    is : has todo x ≡ true
    is = rw e (highest_is todo p l).there

-- ---- a set with a node more, if that leads to some
some_has : (v x s y : ℕ) → has s y ≡ true → has (some_of v x s) y ≡ true
unfolding some_of
some_has v x s y t = by (test (eqb v 0))
  where
    by : (eqb v 0 ≡ true) ⊎ (eqb v 0 ≡ false) → has (pick (eqb v 0) s (either s (single x))) y ≡ true
    by (inl e) = rw e t
    by (inr e) = rw e (has_either s (single x) y ∙ rw t)

some_new : (v x s : ℕ) → v ≢ 0 → has (some_of v x s) x ≡ true
unfolding some_of
some_new v x s h =
    rw (ne_eqb v 0 h) (has_either s (single x) x ∙ rw (has_single x x, eq-eqb x x refl) (or_right (has s x)))

some_was : (v x s y : ℕ) → has (some_of v x s) y ≡ true → (has s y ≡ true) ⊎ (y ≡ x)
unfolding some_of
some_was v x s y t = by (test (eqb v 0))
  where
    either_was : (has s y ≡ true) ⊎ (has (single x) y ≡ true) → (has s y ≡ true) ⊎ (y ≡ x)
    either_was (inl u) = inl u
    either_was (inr u) = inr (eqb-true y x (sym (has_single x y) ∙ u))

    by : (eqb v 0 ≡ true) ⊎ (eqb v 0 ≡ false) → (has s y ≡ true) ⊎ (y ≡ x)
    by (inl e) = inl (rw e at t)
    by (inr e) = either_was (or_cases (has s y) (has (single x) y) (sym (has_either s (single x) y) ∙ (rw e at t)))

module _ (succ : List ℕ) (n : ℕ) where
  -- ---- a node of a ring leads to one that is left
  leads_on : (left : ℕ) → Left succ n left → (r : Ring (Leads n (leads_to succ))) (i : ℕ) → i ≤ r.size
      → both (get_or succ (r.node i) 0) left ≢ 0
  leads_on left k r i b = by (below_suc {n = r.size} (omega arith))
    where
      at : (j : ℕ) → j < r.size → both (get_or succ (r.node j) 0) left ≢ 0
      at j l =
          not_empty (both (get_or succ (r.node j) 0) left) (r.node (suc j))
          (has_both (get_or succ (r.node j) 0) left (r.node (suc j))
          ∙ (and-eq-true_iff (leads_to succ (r.node j) (r.node (suc j))) (has left (r.node (suc j)))).1
          ((r.linked j l).step, k.keeps r (suc j) l))

      by : (i < r.size) ⊎ (i ≡ r.size) → both (get_or succ (r.node i) 0) left ≢ 0
      by (inl l) = at i l
      by (inr e) = rw (e, r.closed) (at 0 r.some)

  -- node x leads to none that is left
  abbrev goes_from : ℕ → ℕ → Bool
  goes_from x left = eqb (both (get_or succ x 0) left) 0

  left_lone : (x left : ℕ) → Left succ n left → Left succ n (lone_of succ x left)
  unfolding lone_of
  left_lone x left k = by (test (goes_from x left))
    where
      by : (goes_from x left ≡ true) ⊎ (goes_from x left ≡ false)
          → Left succ n (pick (goes_from x left) (less left (single x)) left)
      by (inr e) = rw e k
      by (inl e) = rw e (record { keeps = stays; within = λ y t. k.within y (was y t) })
        where
          was : (y : ℕ) → has (less left (single x)) y ≡ true → has left y ≡ true
          was y t = ((and-eq-true_iff (has left y) (not (has (single x) y))).0 (sym (has_less left (single x) y) ∙ t)).0

          other : (y : ℕ) → both (get_or succ y 0) left ≢ 0 → y ≢ x
          other y h q = h (rw q (eqb-true (both (get_or succ x 0) left) 0 e))

          stays : (r : Ring (Leads n (leads_to succ))) (i : ℕ) → i ≤ r.size
              → has (less left (single x)) (r.node i) ≡ true
          stays r i b =
              has_less left (single x) (r.node i)
              ∙ rw (
                has_single x (r.node i),
                ne_eqb (r.node i) x (other (r.node i) (leads_on left k r i b)),
                k.keeps r i b,
              )

  -- ---- at the start
  record Begun (i s : ℕ) : Type 0 where
    pub sound : (y : ℕ) → has s y ≡ true → y < i
    pub complete : (y : ℕ) → y < i → get_or succ y 0 ≢ 0 → has s y ≡ true

  begun : Begun n (first_of succ n)
  unfolding first_of
  begun = up_keeps_at Begun (λ x. some_of (get_or succ x 0) x) n 0 more
      (record { sound = λ y t. absurd (not_empty 0 y t refl); complete = λ y l h. absurd (omega arith) })
    where
      more : (i s : ℕ) → i < n → Begun i s → Begun (suc i) (some_of (get_or succ i 0) i s)
      more i s h b = record {
        sound = λ y t. low y (some_was (get_or succ i 0) i s y t);
        complete = λ y l k. at y k (below_suc l);
      }
        where
          low : (y : ℕ) → (has s y ≡ true) ⊎ (y ≡ i) → y < suc i
          low y (inl t) = let l = b.sound y t in omega arith
          low y (inr e) = omega arith

          at : (y : ℕ) → get_or succ y 0 ≢ 0 → (y < i) ⊎ (y ≡ i) → has (some_of (get_or succ i 0) i s) y ≡ true
          at y k (inl l) = some_has (get_or succ i 0) i s y (b.complete y l k)
          at y k (inr e) = rw e (some_new (get_or succ i 0) i s (rw e at k))

  pub left_first : {left : ℕ} → left ≡ first_of succ n → Left succ n left
  left_first e =
      rw e (record { keeps = λ r i b. by r i (below_suc {n = r.size} (omega arith)); within = begun.sound })
    where
      at : (r : Ring (Leads n (leads_to succ))) (j : ℕ) → j < r.size → has (first_of succ n) (r.node j) ≡ true
      at r j l =
          let k = r.linked j l in
          begun.complete (r.node j) k.from (not_empty (get_or succ (r.node j) 0) (r.node (suc j)) k.step)

      by : (r : Ring (Leads n (leads_to succ))) (i : ℕ) → (i < r.size) ⊎ (i ≡ r.size)
          → has (first_of succ n) (r.node i) ≡ true
      by r i (inl l) = at r i l
      by r i (inr q) = rw (q, r.closed) (at r 0 r.some)

  -- ---- the ends
  pub ends_none : {left : ℕ} → left ≡ 0 → Left succ n left → false ≡ ring_test n (leads_to succ)
  ends_none {left} e k = sym (refuted (ring_test n (leads_to succ)) (λ t. some (ring_of_test n (leads_to succ) t)))
    where
      some : Ring (Leads n (leads_to succ)) → ⊥
      some r = not_empty left (r.node 0) (k.keeps r 0 (omega arith)) e

  lone_le : (x left : ℕ) → lone_of succ x left ≤ left
  unfolding lone_of
  lone_le x left = by (goes_from x left)
    where
      by : (b : Bool) → pick b (less left (single x)) left ≤ left
      by true = less_le left (single x)
      by false = omega arith

  lone_same : (x left : ℕ) → lone_of succ x left ≡ left → has left x ≡ true → both (get_or succ x 0) left ≢ 0
  unfolding lone_of
  lone_same x left e t q =
      let s : less left (single x) ≡ left = rw (eq-eqb (both (get_or succ x 0) left) 0 q) at e in
      let l = without_less left x t in
      omega arith

  -- ---- a sweep, with the nodes of todo still to be judged
  pub record Going (left todo now : ℕ) : Type 0 where
    pub small : todo < 2 ^ 64
    pub fewer : now ≤ left
    pub among : (x : ℕ) → has todo x ≡ true → has left x ≡ true
    pub whole : Left succ n left → Left succ n now
    pub leads : now ≡ left → (x : ℕ) → has left x ≡ true → has todo x ≡ false → both (get_or succ x 0) left ≢ 0

  pub going_none : (left : ℕ) → left < 2 ^ 64 → Going left left left
  going_none left l = record {
    small = l;
    fewer = omega arith;
    among = λ x t. t;
    whole = λ k. k;
    leads = λ e x t f. absurd (not_both t f);
  }

  -- the next of them is left
  pub going_next : {left todo now x later : ℕ} → Going left todo now → Taken todo x later → has left x ≡ true
  going_next g k = g.among _ k.there

  pub going_more : {left todo now x later after : ℕ} → Going left todo now → Taken todo x later
      → after ≡ lone_of succ x now → Going left later after
  going_more {left} {todo} {now} {x} {later} {after} g k ea = record {
    small = omega (arith, k.fewer, g.small);
    fewer = omega (arith, le, g.fewer);
    among = λ y t. g.among y (was y t);
    whole = λ w. rw ea (left_lone x now (g.whole w));
    leads = λ e y t f. by e y t (test (has todo y)) f;
  }
    where
      le : after ≤ now
      le = rw ea (lone_le x now)

      was : (y : ℕ) → has later y ≡ true → has todo y ≡ true
      was y t = ((and-eq-true_iff (has todo y) (not (eqb y x))).0 (sym (k.others y) ∙ t)).0

      still : after ≡ left → now ≡ left
      still e = omega (arith, le, g.fewer)

      by : after ≡ left → (y : ℕ) → has left y ≡ true → (has todo y ≡ true) ⊎ (has todo y ≡ false)
          → has later y ≡ false → both (get_or succ y 0) left ≢ 0
      by e y t (inr u) f = g.leads (still e) y t u
      by e y t (inl u) f = at (test (eqb y x))
        where
          at : (eqb y x ≡ true) ⊎ (eqb y x ≡ false) → both (get_or succ y 0) left ≢ 0
          at (inl q) =
              rw (eqb-true y x q)
              (lone_same x left (rw (still e) at (sym ea ∙ e)) (rw (eqb-true y x q) at t))
          at (inr q) = absurd (not_both (k.others y ∙ rw (u, q)) f)

  pub going_done : (left todo now : ℕ) → todo ≡ 0 → Going left todo now → Swept succ n left now
  going_done left todo now e g = record {
    fewer = g.fewer;
    whole = g.whole;
    leads = λ s x t. g.leads s x t (refuted (has todo x) (λ u. not_empty todo x u e));
  }

  -- a round in which none goes
  pub ends_still : {left down up : ℕ} → left ≢ 0 → Left succ n left → Swept succ n left down → Swept succ n down up
      → up ≡ left → true ≡ ring_test n (leads_to succ)
  ends_still {left} {down} {up} h k d u s =
      sym (affirmed (ring_test n (leads_to succ)) (λ f. none f (member left h)))
    where
      same : down ≡ left
      same = omega (arith, d.fewer, u.fewer)

      judged : (x : ℕ) → has left x ≡ true → both (get_or succ x 0) left ≢ 0
      judged = d.leads same

      step : (x : ℕ) → has left x ≡ true → ((y : ℕ) × (has left y ≡ true) × (leads_to succ x y ≡ true)) ⊎ ⊥
      step x t = by (member (both (get_or succ x 0) left) (judged x t))
        where
          by : (d : ℕ) × (has (both (get_or succ x 0) left) d ≡ true)
              → ((y : ℕ) × (has left y ≡ true) × (leads_to succ x y ≡ true)) ⊎ ⊥
          by (y, v) =
              let b = (and-eq-true_iff (leads_to succ x y) (has left y)).0 (sym (has_both (get_or succ x 0) left y) ∙ v)
              in
              inl (y, b.1, b.0)

      none : ring_test n (leads_to succ) ≡ false → (x : ℕ) × (has left x ≡ true) → ⊥
      none f (x, t) =
          follow n (leads_to succ) ⊥ (λ q. has left q ≡ true) (λ q w. k.within q w) step
          (λ r. not_both (test_of_ring n (leads_to succ) r) f) x t

  -- the round's measure
  pub round_less : {left down up : ℕ} → Swept succ n left down → Swept succ n down up → up ≢ left → up < left
  round_less d u h = omega (arith, d.fewer, u.fewer)
