-- A byte that is not zero is a flag that is up.
use mathlib.Core.Path.{◌≡◌, refl}
use mathlib.Core.Bool.{not}
use Prim.Native.Nat.{ℕ, zero, suc}
use native.Mathlib.Omega.{arith}
use lib.Dec.{eqb}
use borrow.Author.Tests.{ne_eqb}
use Rattle.bytes_layout.specs.Codes.{flag_of}

pub flag_test : (b : ℕ) → not (eqb b 0) ≡ flag_of b
flag_test zero = refl
flag_test (suc n) = rw (ne_eqb (suc n) 0 (λ e. omega arith))
