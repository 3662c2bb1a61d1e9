-- Which entry may be booked, as the search over a side's entries finds it.
use mathlib.Core.Path.{◌≡◌, sym, ◌∙◌}
use mathlib.Core.Bool.{Bool, true, false}
use mathlib.Core.List.{List}
use Prim.Native.Nat.{ℕ, ◌+◌, ◌*◌}
use lib.Dec.{eqb}
use lib.ListN.{get_or}
use borrow.Author.Tests.{eq-eqb, ne_eqb}
use Rattle.basis.specs.Bounded.{any_below}
use Rattle.packets.specs.declared.Entry.{Entry}
use Rattle.rules.specs.State.{is_free}
use Rattle.rules.specs.Execute.{other_free, may_book}
use Rattle.phase_pick.proofs.Bytes.{free_byte}
use Rattle.phase_execute.specs.Lent.{entries_at, spares}

pub slot_free : (at t : ℕ) (b : List ℕ) → get_or b (at + 2 * t) 0 ≡ 0 → is_free (entries_at at b t) ≡ true
unfolding entries_at
slot_free at t b e = free_byte (get_or b (at + 2 * t) 0) ∙ eq-eqb (get_or b (at + 2 * t) 0) 0 e

pub slot_booked : (at t : ℕ) (b : List ℕ) → (get_or b (at + 2 * t) 0 ≡ 0 → ⊥) → is_free (entries_at at b t) ≡ false
unfolding entries_at
slot_booked at t b e = free_byte (get_or b (at + 2 * t) 0) ∙ ne_eqb (get_or b (at + 2 * t) 0) 0 e

pub spare_not : (entries : ℕ → Entry) (t u : ℕ) → u ≡ t → false ≡ spares entries t u
unfolding spares
spare_not entries t u e = rw (eq-eqb u t e)

pub spare_is : (at t u : ℕ) (b : List ℕ) → (u ≡ t → ⊥) → eqb (get_or b (at + 2 * u) 0) 0 ≡ spares (entries_at at b) t u
unfolding spares entries_at
spare_is at t u b n = rw (ne_eqb u t n) (sym (free_byte (get_or b (at + 2 * u) 0)))

module _ (slots : ℕ) (entries : ℕ → Entry) (t : ℕ) where
  pub not_free : is_free (entries t) ≡ false → false ≡ may_book slots entries t
  unfolding may_book
  not_free e = rw e

  pub other_spare : {r : Bool} → is_free (entries t) ≡ true → r ≡ any_below slots (spares entries t)
      → r ≡ may_book slots entries t
  unfolding may_book other_free spares
  other_spare e f = rw e f
