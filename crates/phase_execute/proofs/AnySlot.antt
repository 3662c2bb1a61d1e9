-- What `any` over the numbers below a bound tells: whether one of them passes.
use mathlib.Core.Path.{◌≡◌, sym, subst, ap, ◌∙◌}
use mathlib.Core.Logic.{◌⊎◌, inl, inr}
use mathlib.Core.Bool.{Bool, true, false, false≢true}
use Prim.Native.Nat.{ℕ, ◌+◌, ◌<◌}
use native.Mathlib.Omega.{arith}
use denote.Param.Members.{Mut, Called}
use Rattle.std.specs.declared.ops.Range.{Range}
use Rattle.std.specs.declared.option.Option.{Option}
use Rattle.std.specs.declared.option.Option.TheVariants.{None, Some}
use Rattle.std.specs.Option.{IfSome, IsSomeAnd, is_some, option_map}
use Rattle.std.specs.Bool.{MatchBool, IsTrue}
use Rattle.std.specs.Iterator.Runs.{Run, SomeRun, AllItemsGive, AnyItemGives}
use Rattle.std.proofs.iter.Yields.{nat_range_steps}
use Rattle.std.proofs.iter.runs.Lists.{same_Some}
use Rattle.std.proofs.iter.runs.Sources.{range_runs}
use Rattle.basis.specs.Choice.{test}
use Rattle.basis.specs.Bounded.{any_below, any_true, any_of, Found}

-- the item at a place
item : (Q : ℕ → Type 0) (o : Option ℕ) (m : ℕ) → option_map (λ y. y) o ≡ Some m → IfSome o Q → Q m
item Q None m e q = absurd (false≢true (ap is_some e))
item Q (Some x) m e q = subst Q (same_Some x m e) q

some_item : (Q : ℕ → Type 0) (o : Option ℕ) → IsSomeAnd o Q → IfSome o Q
some_item Q None q = tt
some_item Q (Some x) q = q

module _ (s : Range ℕ) (from0 : s.start ≡ 0) (p : Run nat_range_steps) (e : p.from ≡ s) where
  starts : p.from.start ≡ 0
  starts = ap (λ (t : Range ℕ). t.start) e ∙ from0

  ends : p.from.end ≡ s.end
  ends = ap (λ (t : Range ℕ). t.end) e

  -- the number at place k is k
  number : (k : ℕ) → k < p.len → (Q : ℕ → Type 0) → IfSome (p.at k) Q → Q k
  number k l Q q =
      let n : p.from.start + k ≡ k = omega (arith, starts) in
      subst Q n (item Q (p.at k) (p.from.start + k) ((range_runs p p.seen).3 k l) q)

  -- and a whole run has all that are below the bound
  below : (k : ℕ) → k < p.len → k < s.end
  below k l = omega (arith, starts, ends, (range_runs p p.seen).0)

  within : p.whole ≡ true → (k : ℕ) → k < s.end → k < p.len
  within w k l = omega (arith, starts, ends, (range_runs p p.seen).1 w)

module _ {F : Type 0} {g : Mut F (ℕ × Unit {0}) Bool} {s : Range ℕ} {f : F} (from0 : s.start ≡ 0) where
  -- where a call gives the test t of its number, `any` gives whether one passes
  pub tests_any : (t : ℕ → Bool) (r : Bool)
      → SomeRun nat_range_steps s
      (λ p. MatchBool r (AnyItemGives p g f true) (IsTrue p.whole × AllItemsGive p g f false))
      → ((x : ℕ) (b : Bool) (q : F) → Called g f (x, tt) b q → (q ≡ f) × (b ≡ t x))
      → r ≡ any_below s.end t
  tests_any t true (p, e, any) call = at (any (λ a b q h. (call a.0 b q h).0))
    where
      at : (k : ℕ) × (k < p.len) × IsSomeAnd (p.at k) (λ x. Called g f (x, tt) true f) → true ≡ any_below s.end t
      at (k, l, h) =
          let c =
          number s from0 p e k l (λ x. Called g f (x, tt) true f)
          (some_item (λ x. Called g f (x, tt) true f) (p.at k) h) in
          sym (any_of s.end t k (below s from0 p e k l) (sym (call k true f c).1))
  tests_any t false (p, e, (w, gives)) call = at (test (any_below s.end t))
    where
      none : Found s.end t → false ≡ any_below s.end t
      none (k, l, h) =
          let c =
          number s from0 p e k (within s from0 p e w k l) (λ x. Called g f (x, tt) false f)
          (gives (λ a b q h. (call a.0 b q h).0) k) in
          absurd (false≢true ((call k false f c).1 ∙ h))

      at : (any_below s.end t ≡ true) ⊎ (any_below s.end t ≡ false) → false ≡ any_below s.end t
      at (inl h) = none (any_true s.end t h)
      at (inr h) = sym h
