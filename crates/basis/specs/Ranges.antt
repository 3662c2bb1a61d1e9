-- What `all` over the numbers of a range tells, by what a call of its closure tells.
use mathlib.Core.Path.{◌≡◌, refl, sym, subst, ap, ◌∙◌}
use mathlib.Core.Logic.{◌⊎◌, inl, inr}
use mathlib.Core.Bool.{Bool, true, false, false≢true}
use Prim.Native.Nat.{ℕ, ◌+◌, ◌-◌, ◌≤◌, ◌<◌}
use native.Mathlib.Omega.{arith}
use denote.Param.Members.{Mut, Called}
use Rattle.std.specs.declared.ops.Range.{Range}
use Rattle.std.specs.declared.option.Option.{Option}
use Rattle.std.specs.declared.option.Option.TheVariants.{None, Some}
use Rattle.std.specs.Option.{IfSome, IsSomeAnd, is_some, option_map}
use Rattle.std.specs.Bool.{MatchBool, IsTrue}
use Rattle.std.specs.Iterator.Runs.{Run, SomeRun, AllItemsGive, AnyItemGives}
use Rattle.std.proofs.iter.Yields.{nat_range_steps}
use Rattle.std.proofs.iter.runs.Lists.{same_Some}
use Rattle.std.proofs.iter.runs.Sources.{range_runs}
use Rattle.basis.specs.Bounded.{all_below, all_of, all_fail, lt_or_ge}

-- the item at a place
item : (Q : ℕ → Type 0) (o : Option ℕ) (m : ℕ) → option_map (λ y. y) o ≡ Some m → IfSome o Q → Q m
item Q None m e q = absurd (false≢true (ap is_some e))
item Q (Some x) m e q = subst Q (same_Some x m e) q

some_item : (Q : ℕ → Type 0) (o : Option ℕ) → IsSomeAnd o Q → IfSome o Q
some_item Q None q = tt
some_item Q (Some x) q = q

module _ (s : Range ℕ) (p : Run nat_range_steps) (e : p.from ≡ s) where
  starts : p.from.start ≡ s.start
  starts = ap (λ (t : Range ℕ). t.start) e

  ends : p.from.end ≡ s.end
  ends = ap (λ (t : Range ℕ). t.end) e

  -- the number at place k
  number : (k : ℕ) → k < p.len → (Q : ℕ → Type 0) → IfSome (p.at k) Q → Q (s.start + k)
  number k l Q q =
      let n : p.from.start + k ≡ s.start + k = omega (arith, starts) in
      subst Q n (item Q (p.at k) (p.from.start + k) ((range_runs p p.seen).3 k l) q)

  -- and a whole run has all that are below the bound
  below : (k : ℕ) → k < p.len → s.start + k < s.end
  below k l = omega (arith, starts, ends, (range_runs p p.seen).0)

  within : p.whole ≡ true → (k : ℕ) → s.start ≤ k → k < s.end → k - s.start < p.len
  within w k h l = omega (arith, starts, ends, (range_runs p p.seen).1 w)

module _ {F : Type 0} {g : Mut F (ℕ × Unit {0}) Bool} {s : Range ℕ} {f : F} where
  -- where a call that gives true tells P of its number, `all` that gives true tells it of each
  pub holds_from : (P : ℕ → Type 0) (r : Bool)
      → SomeRun nat_range_steps s
      (λ p. MatchBool r (IsTrue p.whole × AllItemsGive p g f true) (AnyItemGives p g f false))
      → ((x : ℕ) (b : Bool) (q : F) → Called g f (x, tt) b q → (q ≡ f) × (b ≡ true → P x))
      → r ≡ true → (k : ℕ) → s.start ≤ k → k < s.end → P k
  holds_from P false ran call e k h l = absurd (false≢true e)
  holds_from P true (p, e, (w, gives)) call t k h l =
      let c = gives (λ a b q h. (call a.0 b q h).0) (k - s.start) in
      let n : s.start + (k - s.start) ≡ k = omega arith in
      subst P n
      ((call (s.start + (k - s.start)) true f
      (number s p e (k - s.start) (within s p e w k h l) (λ x. Called g f (x, tt) true f) c)).1 refl)

  -- where a call gives the test t of its number, and the numbers in front of the first pass, `all` gives whether each
  -- passes
  pub tests_from : (t : ℕ → Bool) (r : Bool)
      → SomeRun nat_range_steps s
      (λ p. MatchBool r (IsTrue p.whole × AllItemsGive p g f true) (AnyItemGives p g f false))
      → ((x : ℕ) (b : Bool) (q : F) → Called g f (x, tt) b q → (q ≡ f) × (b ≡ t x))
      → ((k : ℕ) → k < s.start → t k ≡ true)
      → r ≡ all_below s.end t
  tests_from t true ran call front = sym (all_of s.end t (λ k l. at k l (lt_or_ge k s.start)))
    where
      at : (k : ℕ) → k < s.end → (k < s.start) ⊎ (s.start ≤ k) → t k ≡ true
      at k l (inl h) = front k h
      at k l (inr h) =
          holds_from (λ k. t k ≡ true) true ran (λ x b q h. ((call x b q h).0, λ e. sym (call x b q h).1 ∙ e)) refl
          k h l
  tests_from t false (p, e, any) call front = at (any (λ a b q h. (call a.0 b q h).0))
    where
      at : (k : ℕ) × (k < p.len) × IsSomeAnd (p.at k) (λ x. Called g f (x, tt) false f) → false ≡ all_below s.end t
      at (k, l, h) =
          let c =
          number s p e k l (λ x. Called g f (x, tt) false f)
          (some_item (λ x. Called g f (x, tt) false f) (p.at k) h) in
          sym (all_fail t s.end (s.start + k) (below s p e k l) (call (s.start + k) false f c).1 refl)

  -- the same from 0 on
  module _ (from0 : s.start ≡ 0) where
    pub holds_all : (P : ℕ → Type 0) (r : Bool)
        → SomeRun nat_range_steps s
        (λ p. MatchBool r (IsTrue p.whole × AllItemsGive p g f true) (AnyItemGives p g f false))
        → ((x : ℕ) (b : Bool) (q : F) → Called g f (x, tt) b q → (q ≡ f) × (b ≡ true → P x))
        → r ≡ true → (k : ℕ) → k < s.end → P k
    holds_all P r ran call t k l = holds_from P r ran call t k (omega arith) l

    pub tests_all : (t : ℕ → Bool) (r : Bool)
        → SomeRun nat_range_steps s
        (λ p. MatchBool r (IsTrue p.whole × AllItemsGive p g f true) (AnyItemGives p g f false))
        → ((x : ℕ) (b : Bool) (q : F) → Called g f (x, tt) b q → (q ≡ f) × (b ≡ t x))
        → r ≡ all_below s.end t
    tests_all t r ran call = tests_from t r ran call (λ k l. absurd (omega arith))
