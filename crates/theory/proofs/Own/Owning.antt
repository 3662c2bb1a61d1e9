-- The entries of pieces of walks: none of an empty piece, two pieces put together, the one entry of one router.
-- Holders and stores by entry.
use mathlib.Core.Path.{◌≡◌, refl, sym, ap, ap₂, ◌∙◌}
use mathlib.Core.Logic.{◌⊎◌, inl, inr}
use mathlib.Core.Bool.{Bool, true, false, true≢false}
use mathlib.Core.Option.{Option, none, some}
use Prim.Native.Nat.{ℕ, ◌+◌, ◌≤◌, ◌<◌}
use native.Mathlib.Omega.{arith}
use lib.Dec.{eqb}
use borrow.Author.Tests.{lt-ltb, le-ltb, eqb-true, eq-eqb}
use Rattle.basis.specs.Choice.{pick, also, also_true, also_of, test}
use Rattle.basis.specs.Bounded.{lt_or_ge}
use Rattle.kinds.specs.declared.Slot.{Slot}
use Rattle.packets.specs.declared.Entry.TheVariants.{Free}
use Rattle.packets.specs.Counters.{slot_after}
use Rattle.plan.specs.Plan.{Plan, Port, passive, A, P, S, route_to}
use Rattle.plan_walks.specs.Served.{Served}
use Rattle.plan_queues.specs.Feeds.{Stands}
use Rattle.basis.specs.Walk.{on_same}
use Rattle.plan_facts.specs.Wired.{Wired}
use Rattle.rules.specs.Store.{put}
use Rattle.rules.specs.Valid.{bit}
use Rattle.theory.proofs.Places.Indices.{index_stands, index_is}
use Rattle.theory.specs.Owners.{Holder, same_holder, holder_of, reaches, index_of, owning, held_entry, holds}

-- ---- holders
-- A holder is itself.
pub holder_same : (c : Holder) → same_holder c c ≡ true
holder_same c = also_of (eq-eqb c.side c.side refl)
    (also_of (eq-eqb c.active c.active refl) (eq-eqb c.passive c.passive refl))

-- Holders that the test finds one are one.
pub same_holder_lem : (c v : Holder) → same_holder c v ≡ true → c ≡ v
same_holder_lem c v e =
    let p = also_true {a = eqb c.side v.side}
    {b = also (eqb c.active v.active) (eqb c.passive v.passive)} e in
    let q = also_true {a = eqb c.active v.active} {b = eqb c.passive v.passive} p.1 in
    let a : c.side ≡ v.side = eqb-true c.side v.side p.0 in
    let b : c.active ≡ v.active = eqb-true c.active v.active q.0 in
    let d : c.passive ≡ v.passive = eqb-true c.passive v.passive q.1 in
    ap (λ (k : ℕ). record { side = k; active = c.active; passive = c.passive }) a
    ∙ ap (λ (k : ℕ). record { side = v.side; active = k; passive = c.passive }) b
    ∙ ap (λ (k : ℕ). record { side = v.side; active = v.active; passive = k }) d

-- A bit that is not 0 is true.
pub bit_true : (b : Bool) → 0 < bit b → b ≡ true
bit_true true h = refl
bit_true false h = absurd (omega arith)

-- A bit is at most 1.
pub bit_most : (b : Bool) → bit b ≤ 1
bit_most true = omega arith
bit_most false = omega arith

-- What holds a holder is that holder.
pub held : (m : Option Holder) (v : Holder) → 0 < holds m v → m ≡ some v
held none v h = absurd (omega arith)
held (some c) v h = ap some (same_holder_lem c v (bit_true (same_holder c v) h))

-- A free entry has no holder.
pub free_none : (m : Option Holder) → held_entry m ≡ Free → m ≡ none
free_none none e = refl
free_none (some c) e = absurd (let z : ◌≡◌ {A = ℕ} 0 1 = cc in omega arith)

-- ---- stores by router, side and slot
-- m with x at one entry, as the table is changed
abbrev pub put3 : {X : Type 0} → (ℕ → ℕ → ℕ → X) → ℕ → ℕ → ℕ → X → ℕ → ℕ → ℕ → X
put3 m r o t x = put eqb m r (put eqb (m r) o (put eqb (m r o) t x))

-- two entries are one: the same router, side and slot
abbrev pub same_entry : ℕ → ℕ → ℕ → ℕ → ℕ → ℕ → Bool
same_entry r o t i j k = also (eqb r i) (also (eqb o j) (eqb t k))

-- What a store holds after a change: the new at that entry, the old at every other.
pub put3_at : {X : Type 0} (m : ℕ → ℕ → ℕ → X) (i j k : ℕ) (x : X) (r o t : ℕ)
    → put3 m i j k x r o t ≡ pick (same_entry r o t i j k) x (m r o t)
put3_at m i j k x r o t = by (test (eqb r i)) (test (eqb o j)) (test (eqb t k))
  where
    by : (eqb r i ≡ true) ⊎ (eqb r i ≡ false) → (eqb o j ≡ true) ⊎ (eqb o j ≡ false)
        → (eqb t k ≡ true) ⊎ (eqb t k ≡ false) → put3 m i j k x r o t ≡ pick (same_entry r o t i j k) x (m r o t)
    by (inr f) c d = rw f
    by (inl e) (inr f) d = let a : r ≡ i = eqb-true r i e in rw (e, f) (ap (λ (n : ℕ). m n o t) (sym a))
    by (inl e) (inl f) (inr g) =
        let a : r ≡ i = eqb-true r i e in
        let b : o ≡ j = eqb-true o j f in
        rw (e, f, g) (ap₂ (λ (n l : ℕ). m n l t) (sym a) (sym b))
    by (inl e) (inl f) (inl g) = rw (e, f, g)

-- An entry is itself.
pub entry_same : (r o t : ℕ) → same_entry r o t r o t ≡ true
entry_same r o t = also_of (eq-eqb r r refl) (also_of (eq-eqb o o refl) (eq-eqb t t refl))

-- ---- pieces of a walk
module _ (slots t : ℕ) (start : Slot) (e : Bool) (n : ℕ) where
  abbrev piece : ℕ → ℕ → Option ℕ → ℕ
  piece first past i = pick (also e (reaches slots t start first past i)) n 0

  none_reached : (i : Option ℕ) → pick (also e false) n 0 ≡ 0
  none_reached i = by e
    where
      by : (b : Bool) → pick (also b false) n 0 ≡ 0
      by true = refl
      by false = refl

  -- a router outside the piece
  not_reached : (first past : ℕ) (i : Option ℕ) → ((k : ℕ) → i ≡ some k → first ≤ k → k < past → ⊥)
      → reaches slots t start first past i ≡ false
  not_reached first past none h = refl
  not_reached first past (some k) h = by (lt_or_ge k first) (lt_or_ge k past)
    where
      by : (k < first) ⊎ (first ≤ k) → (k < past) ⊎ (past ≤ k) → reaches slots t start first past (some k) ≡ false
      by (inl l) c = rw (lt-ltb k first l)
      by (inr l) (inl m) = absurd (h k refl l m)
      by (inr l) (inr m) = rw (le-ltb k first l, le-ltb k past m)

  piece_none : (first past : ℕ) (i : Option ℕ) → ((k : ℕ) → i ≡ some k → first ≤ k → k < past → ⊥)
      → piece first past i ≡ 0
  piece_none first past i h = rw (not_reached first past i h) (none_reached i)

  piece_sum : (first mid past : ℕ) → first ≤ mid → mid ≤ past → (i : Option ℕ)
      → piece first mid i + piece mid past i ≡ piece first past i
  piece_sum first mid past l m none = let z = none_reached none in omega arith
  piece_sum first mid past l m (some k) = by (lt_or_ge k first) (lt_or_ge k mid) (lt_or_ge k past)
    where
      by : (k < first) ⊎ (first ≤ k) → (k < mid) ⊎ (mid ≤ k) → (k < past) ⊎ (past ≤ k)
          → piece first mid (some k) + piece mid past (some k) ≡ piece first past (some k)
      by (inl f) c d = let z = none_reached none in rw (lt-ltb k first f, lt-ltb k mid (omega arith)) (omega arith)
      by (inr f) (inl c) d =
          let z = none_reached none in
          rw (le-ltb k first f, lt-ltb k mid c, lt-ltb k past (omega arith)) (omega arith)
      by (inr f) (inr c) (inl d) =
          let z = none_reached none in
          rw (le-ltb k first f, le-ltb k mid c, lt-ltb k past d) (omega arith)
      by (inr f) (inr c) (inr d) =
          let z = none_reached none in
          rw (le-ltb k first f, le-ltb k mid c, le-ltb k past d) (omega arith)

module _ (pl : Plan) (r o t : ℕ) (v : Holder) (a p : ℕ) (start : Slot) where
  -- A piece without routers owns nothing.
  pub owning_none : (first past : ℕ) → past ≤ first → owning pl r o t v a p start first past ≡ 0
  unfolding owning
  owning_none first past h =
      piece_none (S pl) t start (eqb o (route_to pl (passive p) r)) (bit (same_holder (holder_of pl a p r) v)) first
      past
      (index_of pl a p r) (λ k e l m. omega arith)

  -- An entry is owned once at most.
  pub owning_most : (first past : ℕ) → owning pl r o t v a p start first past ≤ 1
  unfolding owning
  owning_most first past =
      by (also (eqb o (route_to pl (passive p) r)) (reaches (S pl) t start first past (index_of pl a p r)))
    where
      by : (b : Bool) → pick b (bit (same_holder (holder_of pl a p r) v)) 0 ≤ 1
      by true = bit_most (same_holder (holder_of pl a p r) v)
      by false = omega arith

  -- Two pieces put together own what both own.
  pub owning_sum : (first mid past : ℕ) → first ≤ mid → mid ≤ past
      → owning pl r o t v a p start first mid + owning pl r o t v a p start mid past
      ≡ owning pl r o t v a p start first past
  unfolding owning
  owning_sum first mid past l m =
      piece_sum (S pl) t start (eqb o (route_to pl (passive p) r)) (bit (same_holder (holder_of pl a p r) v)) first mid
      past l m (index_of pl a p r)

module _ {pl : Plan} (wired : Wired pl) (a p : ℕ) (ha : a < A pl) (hp : p < P pl) (s : Served pl a p) where
  -- The piece of one router owns one entry: that router's, by the walk's side out, so many rounds after the start.
  pub owning_one : (k i j : ℕ) → Stands pl a p k i j → (start : Slot) (r o t : ℕ) (v : Holder)
      → owning pl r o t v a p start k (k + 1) ≡ pick (same_entry r o t i (route_to pl (passive p) i)
      (slot_after start (record { 0 = k }) (S pl)).0) (bit (same_holder (holder_of pl a p i) v)) 0
  unfolding owning
  owning_one k i j f start r o t v = by (test (eqb r i))
    where
      there : eqb r i ≡ false → (m : ℕ) → index_of pl a p r ≡ some m → k ≤ m → m < k + 1 → ⊥
      there g m q l h =
          let same : m ≡ k = omega arith in
          let d = index_stands pl a p r k (q ∙ ap some same) in
          let z : ◌≡◌ {A = Port} (record { router = r; side = d.0 }) (record { router = i; side = j }) =
          on_same (sym d.1 ∙ f) in
          true≢false (sym (eq-eqb r i (ap (λ (x : Port). x.router) z)) ∙ g)

      by : (eqb r i ≡ true) ⊎ (eqb r i ≡ false)
          → owning pl r o t v a p start k (k + 1) ≡ pick (same_entry r o t i (route_to pl (passive p) i)
          (slot_after start (record { 0 = k }) (S pl)).0) (bit (same_holder (holder_of pl a p i) v)) 0
      by (inl e) =
          let q : r ≡ i = eqb-true r i e in
          ap (λ (n : ℕ). owning pl n o t v a p start k (k + 1)) q
          ∙ rw (index_is wired a p ha hp s k i j f, le-ltb k k (omega arith), lt-ltb k (k + 1) (omega arith), e)
      by (inr g) =
          rw g (piece_none (S pl) t start (eqb o (route_to pl (passive p) r)) (bit (same_holder (holder_of pl a p r) v))
          k
          (k + 1) (index_of pl a p r) (there g))
