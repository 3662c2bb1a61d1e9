-- Sums of bytes that stand apart, one more at a time.
use mathlib.Core.Path.{◌≡◌, refl, ap, ap₂, ◌∙◌}
use mathlib.Core.List.{List}
use Prim.Native.Nat.{ℕ, ◌+◌, ◌*◌}
use native.Mathlib.Numerals.{add-one}
use lib.ListN.{get_or}
use Rattle.rules.specs.Valid.{sum}
use Rattle.call_remaining.specs.Counted.{apart}

module _ (at width : ℕ) (b : List ℕ) where
  pub apart_none : 0 ≡ apart at width 0 b
  unfolding apart sum
  apart_none = refl

  pub apart_more : (k : ℕ) {m x : ℕ} → m ≡ apart at width k b → x ≡ get_or b (at + width * k) 0
      → m + x ≡ apart at width (k + 1) b
  unfolding apart sum
  apart_more k e f = rw add-one (ap₂ ◌+◌ e f)

  pub apart_all : {k n m : ℕ} → m ≡ apart at width k b → k ≡ n → m ≡ apart at width n b
  apart_all e f = e ∙ ap (λ (k : ℕ). apart at width k b) f
