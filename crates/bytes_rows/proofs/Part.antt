-- A part of a slice that a method of the library wrote is as stored byte by byte.
use mathlib.Core.Path.{◌≡◌, sym, ap, ◌∙◌}
use mathlib.Core.List.{List}
use Prim.Native.Nat.{ℕ, ◌+◌, ◌-◌, ◌≤◌}
use native.Mathlib.Omega.{arith}
use lib.ListN.{length, take}
use lib.Seq.{sets, length-take-le}
use borrow.Rule.Slice.PartMut.{mid_of, post_of, put_mid, put_same, mid_len}
use Rattle.bytes_layout.proofs.Changes.{sets_row}

pub part_stored : (s new : List ℕ) (at e : ℕ) → at + length new ≡ e → e ≤ length s
    → put_mid at (e - at) s new ≡ sets s at new
part_stored s new at e k l =
    sym (sets_row (mid_of at (e - at) s) new (take at s) (post_of at (e - at) s) at
    (sym (length-take-le at s (omega arith))) (omega (arith, mid_len at e s l)))
    ∙ ap (λ (b : List ℕ). sets b at new) (put_same at (e - at) s)
