-- All routers' rows, one after the other, into the route table and the sets by side.
use mathlib.Core.Path.{◌≡◌, refl, sym, ap, ap₂, ◌∙◌}
use mathlib.Core.Logic.{◌⊎◌, inl, inr}
use mathlib.Core.Bool.{Bool, true, false, ◌&&◌}
use mathlib.Core.List.{List, []}
use Prim.Native.Nat.{ℕ, zero, suc, ◌+◌, ◌*◌, ◌≤◌, ◌<◌}
use native.Mathlib.Nat.{mul_comm, mul-suc, mul-le-mul_left}
use native.Mathlib.Numerals.{add-one}
use native.Mathlib.Omega.{arith}
use lib.Dec.{eqb, ltb}
use lib.ListN.{get_or, set, replicate, length-replicate}
use borrow.Author.Tests.{ne_eqb}
use Rattle.basis.specs.Choice.{pick}
use Rattle.basis.specs.Bounded.{all_below, all_none, all_same, lt_or_ge}
use Rattle.basis.specs.Fold.{up_to, fill, up_fill, up_done, up_same, fill_at, fill_past}
use Rattle.sets.specs.Sets.{has}
use Rattle.sets.specs.Laws.{none_has}
use Rattle.fields.specs.Bits.{field_of}
use Rattle.plan.specs.declared.Head.{Head}
use Rattle.plan.specs.Head.{destinations, routes_at}
use Rattle.plan.specs.Plan.{Plan, R, no_side}
use Rattle.plan.specs.Rules.{route_ok}
use Rattle.plan.specs.Tables.{table_plan, row_of, routes_of, row_ok, routes_ok}
use Rattle.plan_routes.specs.Sides.{sides_in, sides_of}
use Rattle.plan_routes.specs.Marks.{side_at, Row, NoRoutes, Routes}
use Rattle.plan_routes.proofs.Marks.{set_has, side_at_lem, sides_same}

-- ---- lists of one value
same_at : {A : Type 0} (n : ℕ) (a b : A) (i : ℕ) → i < n → get_or (replicate n a) i b ≡ a
same_at zero a b i l = absurd (omega arith)
same_at (suc n) a b zero l = refl
same_at (suc n) a b (suc i) l = same_at n a b i (omega arith)

same_else : {A : Type 0} (n : ℕ) (a : A) (i : ℕ) → get_or (replicate n a) i a ≡ a
same_else zero a i = refl
same_else (suc n) a zero = refl
same_else (suc n) a (suc i) = same_else n a i

rows_else : {A : Type 0} (m n : ℕ) (a : A) (r d : ℕ) → get_or (get_or (replicate m (replicate n a)) r []) d a ≡ a
rows_else zero n a r d = refl
rows_else (suc m) n a zero d = same_else n a d
rows_else (suc m) n a (suc r) d = rows_else m n a r d

all_next : (n : ℕ) (f : ℕ → Bool) → all_below (n + 1) f ≡ (all_below n f && f n)
unfolding all_below
all_next n f = rw (add-one n) (by (all_below n f))
  where
    by : (x : Bool) → pick x (f n) false ≡ (x && f n)
    by true = refl
    by false = refl

-- the bits of a router's routes are among those of all routers'
pub row_inside : (n r k : ℕ) → r < k → n * r + n ≤ k * n
row_inside n r k l =
    let more : suc r ≤ k = omega arith in
    omega (arith, mul-suc n r, mul-le-mul_left n more, mul_comm n k)

module _ (b : List ℕ) (n start : ℕ) where
  -- the position of a router's routes
  abbrev pub at : ℕ → ℕ
  at r = start + 3 * (n * r)

  -- r routers are read
  pub record Rows (r : ℕ) (t by : List (List ℕ)) (ok : Bool) : Type 0 where
    pub table : t ≡ up_to (fill (λ x. row_of b n (at x))) r (replicate 16 (replicate 32 no_side))
    pub sides : by ≡ up_to (fill (λ x. sides_in (side_at b (at x)) n)) r (replicate 16 (replicate 4 0))
    pub fit : ok ≡ all_below r (λ x. all_below n (λ d. route_ok (side_at b (at x) d)))

  pub rows_none : (t by : List (List ℕ)) → NoRoutes t by → Rows 0 t by true
  unfolding up_to
  rows_none t by (e, f) = record {
    table = e;
    sides = f;
    fit = sym (all_none (λ x. all_below n (λ d. route_ok (side_at b (at x) d))));
  }

  -- the sets of the next router
  pub rows_next : (r : ℕ) {t by : List (List ℕ)} {ok : Bool} → r < 16 → Rows r t by ok
      → get_or by r [] ≡ replicate 4 0
  rows_next r l w =
      ap (λ (y : List (List ℕ)). get_or y r []) w.sides
      ∙ fill_past (λ x. sides_in (side_at b (at x)) n) r (replicate 16 (replicate 4 0)) r [] (omega arith)
      ∙ same_at 16 (replicate 4 0) [] r l

  pub rows_more : (r : ℕ) {t by : List (List ℕ)} {ok ok' : Bool} {row sides : List ℕ} → r < 16 → Rows r t by ok
      → Row (side_at b (at r)) (n) (get_or t r []) row sides ok'
      → Rows (r + 1) (set t r row) (set by r sides) (ok && ok')
  unfolding side_at row_of
  rows_more r {t} {by} {ok} {ok'} {row} {sides} l w new = record {
    table = up_fill (λ x. row_of b n (at x)) (replicate 16 (replicate 32 no_side)) r w.table row_is;
    sides = up_fill (λ x. sides_in (side_at b (at x)) n) (replicate 16 (replicate 4 0)) r w.sides new.sets;
    fit =
        ap₂ (λ (x y : Bool). x && y) w.fit new.fit
        ∙ sym (all_next r (λ x. all_below n (λ d. route_ok (side_at b (at x) d))));
  }
    where
      before : get_or t r [] ≡ replicate 32 no_side
      before =
          ap (λ (y : List (List ℕ)). get_or y r []) w.table
          ∙ fill_past (λ x. row_of b n (at x)) r (replicate 16 (replicate 32 no_side)) r [] (omega arith)
          ∙ same_at 16 (replicate 32 no_side) [] r (omega arith)

      row_is : row ≡ row_of b n (at r)
      row_is = new.filled ∙ ap (up_to (fill (λ d. field_of b (at r + 3 * d) 3)) (n)) before

pub rows_done : (b : List ℕ) (h : Head) → destinations h ≤ 32 → h.routers ≤ 16
    → (r : ℕ) {t by : List (List ℕ)} {ok : Bool}
    → r ≡ h.routers → Rows b (destinations h) (routes_at h) r t by ok → Routes b h t by ok
unfolding routes_of routes_ok row_ok row_of side_at sides_of table_plan
rows_done b h few routers r {t} {by} {ok} e w = record { table = table'; sides = sides'; fit = w.fit ∙ rw e fit' }
  where
    table' : t ≡ routes_of b h
    table' = up_done (fill (λ x. row_of b (destinations h) (at b (destinations h) (routes_at h) x)))
        (replicate 16 (replicate 32 no_side)) w.table e

    row_at_lem : (x : ℕ) → x < h.routers → get_or t x [] ≡ row_of b (destinations h)
        (at b (destinations h) (routes_at h) x)
    row_at_lem x l =
        ap (λ (y : List (List ℕ)). get_or y x []) table'
        ∙ fill_at (λ q. row_of b (destinations h) (at b (destinations h) (routes_at h) q)) h.routers
        (replicate 16 (replicate 32 no_side)) x [] l
        (rw length-replicate routers)

    entry : (x d : ℕ) → x < h.routers → d < destinations h → get_or (get_or t x []) d no_side
        ≡ field_of b (at b (destinations h) (routes_at h) x + 3 * d) 3
    entry x d l m =
        ap (λ (y : List ℕ). get_or y d no_side) (row_at_lem x l)
        ∙ fill_at (λ c. field_of b (at b (destinations h) (routes_at h) x + 3 * c) 3) (destinations h)
        (replicate 32 no_side) d no_side m (rw length-replicate few)

    sides' : (joints : List ℕ) → by ≡ sides_of (table_plan h t joints)
    sides' joints =
        up_done (fill (λ x. sides_in (side_at b (at b (destinations h) (routes_at h) x)) (destinations h)))
        (replicate 16 (replicate 4 0)) w.sides e
        ∙ up_same (fill (λ x. sides_in (side_at b (at b (destinations h) (routes_at h) x)) (destinations h)))
        (fill (λ x. sides_in (λ d. get_or (get_or t x []) d no_side) (destinations h))) h.routers
        (replicate 16 (replicate 4 0))
        (λ x u l. ap (set u x) (sides_same (side_at b (at b (destinations h) (routes_at h) x))
        (λ d. get_or (get_or t x []) d no_side) (destinations h) (λ d k. sym (entry x d l k))))

    fit' : all_below h.routers (λ x. all_below (destinations h)
        (λ d. route_ok (side_at b (at b (destinations h) (routes_at h) x) d)))
        ≡ all_below h.routers (λ x. all_below (destinations h) (λ d. route_ok (get_or (get_or t x []) d no_side)))
    fit' =
        all_same h.routers (λ x. all_below (destinations h)
        (λ d. route_ok (side_at b (at b (destinations h) (routes_at h) x) d)))
        (λ x. all_below (destinations h) (λ d. route_ok (get_or (get_or t x []) d no_side)))
        (λ x l. all_same (destinations h) (λ d. route_ok (side_at b (at b (destinations h) (routes_at h) x) d))
        (λ d. route_ok (get_or (get_or t x []) d no_side))
        (λ d k. ap route_ok (sym (entry x d l k))))

-- ---- the members of the sets by router and side
pub sides_has : (pl : Plan) → R pl ≤ 16 → ((r d : ℕ) → R pl ≤ r → pl.route r d ≡ no_side) → (r o d : ℕ) → o < 4
    → has (get_or (get_or (sides_of pl) r []) o 0) d ≡ (ltb d (destinations pl.head) && eqb (pl.route r d) o)
unfolding sides_of
sides_has pl few past r o d l = go (lt_or_ge r (R pl))
  where
    n : ℕ
    n = destinations pl.head

    rows : ℕ → List ℕ
    rows x = sides_in (pl.route x) n

    none : (t : Bool) → false ≡ (t && false)
    none true = refl
    none false = refl

    go : (r < R pl) ⊎ (R pl ≤ r) → has (get_or (get_or (sides_of pl) r []) o 0) d ≡ (ltb d n && eqb (pl.route r d) o)
    go (inl k) =
        ap (λ (y : List ℕ). has (get_or y o 0) d)
        (fill_at rows (R pl) (replicate 16 (replicate 4 0)) r [] k (rw length-replicate few))
        ∙ ap (λ (y : ℕ). has y d) (side_at_lem (pl.route r) n o l)
        ∙ set_has (pl.route r) n o d
    go (inr k) =
        ap (λ (y : List ℕ). has (get_or y o 0) d) (fill_past rows (R pl) (replicate 16 (replicate 4 0)) r [] k)
        ∙ ap (λ (y : ℕ). has y d) (rows_else 16 4 0 r o)
        ∙ none_has d
        ∙ rw (past r d k, ne_eqb 7 o (λ q. omega arith)) (none (ltb d n))
