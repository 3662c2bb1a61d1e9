-- The table of sizes before the first sweep: 1 where a passive is one step away.
use mathlib.Core.Path.{◌≡◌, refl, sym, ap, ◌∙◌}
use mathlib.Core.Logic.{◌⊎◌, inl, inr}
use mathlib.Core.Bool.{Bool, true, false, not, ◌&&◌, true≢false}
use mathlib.Core.List.{List, [], ◌∷◌}
use Prim.Native.Nat.{ℕ, zero, suc, ◌+◌, ◌/◌, ◌≤◌, ◌<◌}
use native.Mathlib.Omega.{arith}
use lib.Dec.{eqb, ltb}
use lib.ListN.{get_or, set, length, length-set, replicate, length-replicate}
use lib.Seq.{get_or-set_same, get_or-set_other}
use borrow.Author.Tests.{eq-eqb, ne_eqb, lt-ltb, le-ltb, ltb-true}
use Rattle.basis.specs.Choice.{pick, test}
use Rattle.basis.specs.Bounded.{lt_or_ge}
use Rattle.basis.specs.Fold.{up_to, up_none, up_suc}
use Rattle.plan.specs.declared.Head.{Head}
use Rattle.plan.specs.Head.{destinations}
use Rattle.plan_facts.proofs.Tables.{replicate_row}
use Rattle.sets.specs.Sets.{has, below}
use Rattle.sets.specs.Laws.{has_less, has_below}
use Rattle.graph_reach.specs.declared.Span.{Span}
use Rattle.graph_reach.specs.Sizes.{far_in, Far, Sized}
use Rattle.graph_reach.proofs.Sweeps.{and_parts, same_or_not}
use Rattle.load_arrivals.specs.Tables.{PortsIn, firsts_of, near_of, near_step, nears_of, far_of}
use Rattle.load_arrivals.proofs.Charts.{ltb_alike, first_has, firsts_long}

-- ---- the passives' destinations
and_all : (b : Bool) → (b && true) ≡ b
and_all true = refl
and_all false = refl

pub far_has : (h : Head) (p : ℕ) → has (far_of h) (h.actives + p) ≡ ltb p h.passives
unfolding far_of
far_has h p =
    has_less (below (destinations h)) (below h.actives) (h.actives + p)
    ∙ rw (
      has_below (destinations h) (h.actives + p),
      has_below h.actives (h.actives + p),
      le-ltb
          (h.actives + p) h.actives (omega arith),
    )
    (and_all (ltb (h.actives + p) (destinations h)) ∙ ltb_alike (h.actives + p) (destinations h) p h.passives
    (λ q. omega arith) (λ q. omega arith))

pub far_known : (h : Head) (d : ℕ) → has (far_of h) d ≡ true → (h.actives ≤ d) × (d < destinations h)
unfolding far_of
far_known h d q =
    let both = and_parts (has (below (destinations h)) d) (not (has (below h.actives) d))
    (sym (has_less (below (destinations h)) (below h.actives) d) ∙ q) in (
      past (lt_or_ge d h.actives) both.1,
      ltb-true d (destinations h)
          (sym (has_below (destinations h) d) ∙ both.0),
    )
  where
    past : (d < h.actives) ⊎ (h.actives ≤ d) → not (has (below h.actives) d) ≡ true → h.actives ≤ d
    past (inl l) e = absurd (true≢false (sym e ∙ rw (has_below h.actives d, lt-ltb d h.actives l)))
    past (inr l) e = l

-- ---- what the loop puts
module _ (t homes : List ℕ) (actives : ℕ) where
  pub near_long : (m : ℕ) → length (nears_of t homes actives m) ≡ 17
  unfolding nears_of up_to near_step
  near_long zero = length-replicate 17 (replicate {A = ℕ} 16 0)
  near_long (suc m) = length-set (nears_of t homes actives m) (get_or homes (actives + m) 0 / 4) _ ∙ near_long m

  near_start : nears_of t homes actives 0 ≡ replicate 17 (replicate 16 0)
  unfolding nears_of
  near_start = sym (up_none (near_step t homes actives) (replicate 17 (replicate 16 0)))

  unfoldable row : ℕ → List ℕ
  row m = set (get_or (nears_of t homes actives m) (get_or homes (actives + m) 0 / 4) []) m
      (near_of (get_or t (get_or homes (actives + m) 0 / 4) 0) (actives + m))

  turn : (m : ℕ) → nears_of t homes actives (suc m) ≡ set (nears_of t homes actives m)
      (get_or homes (actives + m) 0 / 4) (row m)
  unfolding nears_of near_step row
  turn m = up_suc (near_step t homes actives) m (replicate 17 (replicate 16 0))

  row_at_lem : (m : ℕ) → m < length (get_or (nears_of t homes actives m) (get_or homes (actives + m) 0 / 4) [])
      → get_or (row m) m 0 ≡ pick (has (get_or t (get_or homes (actives + m) 0 / 4) 0) (actives + m)) 1 0
  unfolding row near_of
  row_at_lem m l = get_or-set_same (get_or (nears_of t homes actives m) (get_or homes (actives + m) 0 / 4) []) m _ 0 l

  row_else : (m p : ℕ) → (p ≡ m → ⊥) → get_or (row m) p 0 ≡ get_or
      (get_or (nears_of t homes actives m) (get_or homes (actives + m) 0 / 4) []) p 0
  unfolding row
  row_else m p f = get_or-set_other (get_or (nears_of t homes actives m) (get_or homes (actives + m) 0 / 4) []) m p _ 0
      f

  module _ (most : ℕ) (fit : most ≤ 16) (ports : (p : ℕ) → p < most → get_or homes (actives + p) 0 < 64) where
    here : (m : ℕ) → m < most → get_or (nears_of t homes actives (suc m)) (get_or homes (actives + m) 0 / 4) [] ≡ row m
    here m l =
        let k = ports m l in
        ap (λ (z : List (List ℕ)). get_or z (get_or homes (actives + m) 0 / 4) []) (turn m)
        ∙ get_or-set_same (nears_of t homes actives m) (get_or homes (actives + m) 0 / 4) (row m) []
        (rw (near_long m) (omega arith))

    there : (m r : ℕ) → (r ≡ get_or homes (actives + m) 0 / 4 → ⊥)
        → get_or (nears_of t homes actives (suc m)) r [] ≡ get_or (nears_of t homes actives m) r []
    there m r f =
        ap (λ (z : List (List ℕ)). get_or z r []) (turn m)
        ∙ get_or-set_other (nears_of t homes actives m) (get_or homes (actives + m) 0 / 4) r (row m) [] f

    near_wide : (m r : ℕ) → m ≤ most → r < 17 → length (get_or (nears_of t homes actives m) r []) ≡ 16
    unfolding row
    near_wide zero r l k = ap (λ (z : List (List ℕ)). length (get_or z r [])) near_start ∙ at 17 r k
      where
        at : (n i : ℕ) → i < n → length (get_or (replicate n (replicate {A = ℕ} 16 0)) i []) ≡ 16
        at zero i q = absurd (omega arith)
        at (suc n) zero q = length-replicate 16 zero
        at (suc n) (suc i) q = at n i (omega arith)
    near_wide (suc m) r l k = go (near_wide m r (omega arith) k) (same_or_not r (get_or homes (actives + m) 0 / 4))
      where
        go : length (get_or (nears_of t homes actives m) r []) ≡ 16
            → (r ≡ get_or homes (actives + m) 0 / 4) ⊎ (r ≡ get_or homes (actives + m) 0 / 4 → ⊥)
            → length (get_or (nears_of t homes actives (suc m)) r []) ≡ 16
        go rec (inl e) = rw (e, here m (omega arith)) (length-set
            (get_or (nears_of t homes actives m) (get_or homes (actives + m) 0 / 4) []) m _ ∙ rw e at rec)
        go rec (inr e) = rw (there m r e) rec

    pub near_at : (m r p : ℕ) → m ≤ most → r < 17 → p < 16
        → get_or (get_or (nears_of t homes actives m) r []) p 0
        ≡ pick (ltb p m && (eqb r (get_or homes (actives + p) 0 / 4) && has (get_or t r 0) (actives + p))) 1 0
    near_at zero r p l k q =
        ap (λ (z : List (List ℕ)). get_or (get_or z r []) p 0) near_start ∙ replicate_row 17 16 0 r p
        ∙ rw (le-ltb p 0 (omega arith))
    near_at (suc m) r p l k q =
        go (near_at m r p (omega arith) k q) (same_or_not r (get_or homes (actives + m) 0 / 4)) (same_or_not p m)
      where
        unlike : (p ≡ m → ⊥) → ltb p (suc m) ≡ ltb p m
        unlike e = ltb_alike p (suc m) p m (λ c. omega arith) (λ c. omega arith)

        go : get_or (get_or (nears_of t homes actives m) r []) p 0
            ≡ pick (ltb p m && (eqb r (get_or homes (actives + p) 0 / 4) && has (get_or t r 0) (actives + p))) 1 0
            → (r ≡ get_or homes (actives + m) 0 / 4) ⊎ (r ≡ get_or homes (actives + m) 0 / 4 → ⊥) → (p ≡ m) ⊎
            (p ≡ m → ⊥)
            → get_or (get_or (nears_of t homes actives (suc m)) r []) p 0
            ≡ pick (ltb p (suc m) && (eqb r (get_or homes (actives + p) 0 / 4) && has (get_or t r 0) (actives + p))) 1 0
        go rec (inl e) (inl f) =
            let wide : length (get_or (nears_of t homes actives m) (get_or homes (actives + m) 0 / 4) [])
            ≡ 16 = rw e at (near_wide m r (omega arith) k) in
            rw (
              f,
              e,
              here m (omega arith),
              lt-ltb m (suc m) (omega arith),
              eq-eqb (get_or homes (actives + m) 0 / 4)
                  (get_or homes (actives + m) 0 / 4) refl,
            )
            (at_row wide)
          where
            at_row : length (get_or (nears_of t homes actives m) (get_or homes (actives + m) 0 / 4) []) ≡ 16
                → get_or (row m) m 0 ≡ pick (has (get_or t (get_or homes (actives + m) 0 / 4) 0) (actives + m)) 1 0
            at_row wide = row_at_lem m (rw wide (omega arith))
        go rec (inl e) (inr f) = rw (e, here m (omega arith), unlike f) (row_else m p f ∙ rw e at rec)
        go rec (inr e) (inl f) =
            let old : get_or (get_or (nears_of t homes actives m) r []) m 0 ≡ 0 = rw (f, le-ltb m m (omega arith))
            at rec in
            rw (f, there m r e, lt-ltb m (suc m) (omega arith), ne_eqb r (get_or homes (actives + m) 0 / 4) e) old
        go rec (inr e) (inr f) = rw (there m r e, unlike f) rec

-- ---- so each size is right where nothing is reached but what is one step away
pub sized_start : (by : List (List ℕ)) (next homes : List ℕ) (h : Head) (s : Span) → s.sized ≡ far_of h → s.column
    ≡ h.actives
    → h.passives ≤ 16 → PortsIn homes (destinations h)
    → ((r d : ℕ) → 17 ≤ r → has (get_or (firsts_of by homes (destinations h)) r 0) d ≡ false)
    → Sized by next s (firsts_of by homes (destinations h)) (firsts_of by homes (destinations h))
    (nears_of (firsts_of by homes (destinations h)) homes h.actives h.passives)
unfolding far_in
sized_start by next homes h s far column few ports idle = record {
  rows = near_long (firsts_of by homes (destinations h)) homes h.actives h.passives;
  long = firsts_long by homes (destinations h);
  none = λ r p l e. none' r p l (rw (far, column) at e) (lt_or_ge r 17);
  some = λ r p l a b. some' r p l (rw (far, column) at a) (rw column at b) (lt_or_ge r 17);
}
  where
    first : List ℕ
    first = firsts_of by homes (destinations h)

    at : (r p : ℕ) → r < 17 → p < 16
        → get_or (get_or (nears_of (firsts_of by homes (destinations h)) homes h.actives h.passives) r []) p 0
        ≡ pick (ltb p h.passives && (eqb r (get_or homes (h.actives + p) 0 / 4) && has
        (get_or (firsts_of by homes (destinations h)) r 0) (h.actives + p))) 1 0
    at r p k l =
        near_at (firsts_of by homes (destinations h)) homes h.actives h.passives few
        (λ q m. ports (h.actives + q) (omega arith)) h.passives r p (omega arith) k l

    past : (z : List (List ℕ)) (r p : ℕ) → length z ≡ 17 → 17 ≤ r → get_or (get_or z r []) p 0 ≡ 0
    past z r p e k = ap (λ (y : List ℕ). get_or y p 0) (beyond z r (rw e k))
      where
        beyond : (l : List (List ℕ)) (i : ℕ) → length l ≤ i → get_or l i [] ≡ []
        beyond [] i q = refl
        beyond (y ∷ ys) zero q = absurd (omega arith)
        beyond (y ∷ ys) (suc i) q = beyond ys i (omega arith)

    and_off : (a b : Bool) → (a && (b && false)) ≡ false
    and_off true true = refl
    and_off true false = refl
    and_off false b = refl

    one : (a b c : Bool) → a ≡ true → b ≡ true → c ≡ true → pick {A = ℕ} (a && (b && c)) 1 0 ≡ 1
    one a b c e f g = rw (e, f, g)

    none' : (r p : ℕ) → p < 16
        → (has (far_of h) (h.actives + p) && has (get_or (firsts_of by homes (destinations h)) r 0) (h.actives + p))
        ≡ false
        → (r < 17) ⊎ (17 ≤ r)
        → get_or (get_or (nears_of (firsts_of by homes (destinations h)) homes h.actives h.passives) r []) p 0 ≡ 0
    none' r p l e (inr k) = past (nears_of (firsts_of by homes (destinations h)) homes h.actives h.passives) r p
        (near_long (firsts_of by homes (destinations h)) homes h.actives h.passives) k
    none' r p l e (inl k) = at r p k l ∙ go (test (ltb p h.passives))
        (test (has (get_or (firsts_of by homes (destinations h)) r 0) (h.actives + p)))
      where
        go : (ltb p h.passives ≡ true) ⊎ (ltb p h.passives ≡ false)
            → (has (get_or (firsts_of by homes (destinations h)) r 0) (h.actives + p) ≡ true) ⊎
            (has (get_or (firsts_of by homes (destinations h)) r 0) (h.actives + p) ≡ false)
            → pick {A = ℕ} (ltb p h.passives && (eqb r (get_or homes (h.actives + p) 0 / 4) && has
            (get_or (firsts_of by homes (destinations h)) r 0) (h.actives + p))) 1 0 ≡ 0
        go (inr a) b = rw a
        go (inl a) (inr b) = rw (b, and_off (ltb p h.passives) (eqb r (get_or homes (h.actives + p) 0 / 4)))
        go (inl a) (inl b) = absurd (true≢false (rw (far_has h p, a, b) at e))

    some' : (r p : ℕ) → p < 16 → has (far_of h) (h.actives + p) ≡ true
        → has (get_or (firsts_of by homes (destinations h)) r 0) (h.actives + p) ≡ true → (r < 17) ⊎ (17 ≤ r)
        → Far by next (firsts_of by homes (destinations h)) (s.column + p) r
        (get_or (get_or (nears_of (firsts_of by homes (destinations h)) homes h.actives h.passives) r []) p 0)
    some' r p l a b (inr k) = absurd (true≢false (sym b ∙ idle r (h.actives + p) k))
    some' r p l a b (inl k) =
        let q = and_parts (ltb (h.actives + p) (destinations h)) _
        (sym (first_has by homes (destinations h) r (h.actives + p) ports) ∙ b) in
        let there = (and_parts (eqb r (get_or homes (h.actives + p) 0 / 4)) _ q.1).0 in
        (0, rw column b, at r p k l ∙ one _ _ _ (sym (far_has h p) ∙ a) there b)
