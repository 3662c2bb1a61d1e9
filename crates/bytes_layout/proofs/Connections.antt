-- A start slot that joins a pair's, or leaves them, gives the bytes of the state with that connection, or without it.
use mathlib.Core.Path.{◌≡◌, refl, sym, ap, ◌∙◌}
use mathlib.Core.Bool.{Bool, true, false}
use mathlib.Core.List.{List}
use Prim.Native.Nat.{ℕ, ◌<◌}
use lib.Dec.{eqb}
use lib.Seq.{sets}
use borrow.Author.Tests.{eqb-true, eq-eqb}
use Rattle.sets.specs.Sets.{single, either, less, those}
use Rattle.sets.specs.Laws.{those_with, those_less}
use Rattle.plan.specs.Plan.{Plan, A}
use Rattle.rules.specs.Store.{put, put_here, put_away}
use Rattle.rules.specs.State.{State, with_connection}
use Rattle.bytes_layout.specs.Offsets.{slot_room, passive_room, starts_row}
use Rattle.bytes_layout.specs.Encode.{word_bytes, starts_of, encode}
use Rattle.bytes_layout.specs.Updates.{join_start, leave_start}
use Rattle.bytes_layout.proofs.Updates.{put_connection}
use Rattle.bytes_layout.proofs.Readings.{starts_at}

same_number : (x : ℕ) → eqb x x ≡ true
same_number x = eq-eqb x x refl

module _ (s : State) (a p t : ℕ) where
  -- of the pair, that start slot alone is changed
  of_pair : (x : Bool) → (with_connection a p t x s).connections a p ≡ put eqb (s.connections a p) t x
  of_pair x =
      ap (λ (f : ℕ → ℕ → Bool). f p) (put_here eqb same_number eqb-true s.connections a _)
      ∙ put_here eqb same_number eqb-true (s.connections a) p _

  changed : (x : Bool) → put eqb (s.connections a p) t x t ≡ x
  changed x = put_here eqb same_number eqb-true (s.connections a p) t x

  unchanged : (x : Bool) (j : ℕ) → (j ≡ t → ⊥) → put eqb (s.connections a p) t x j ≡ s.connections a p j
  unchanged x j ne = put_away eqb same_number eqb-true (s.connections a p) t x j ne

  pub starts_with : t < slot_room → starts_of (with_connection a p t true s) a p ≡ either (starts_of s a p) (single t)
  starts_with l =
      ap (those slot_room) (of_pair true)
      ∙ those_with slot_room t (s.connections a p) (put eqb (s.connections a p) t true) l (changed true)
      (unchanged true)

  pub starts_without : t < slot_room
      → starts_of (with_connection a p t false s) a p ≡ less (starts_of s a p) (single t)
  starts_without l =
      ap (those slot_room) (of_pair false)
      ∙ those_less slot_room t (s.connections a p) (put eqb (s.connections a p) t false) l (changed false)
      (unchanged false)

module _ (pl : Plan) (s : State) (rest : List ℕ) (a p t : ℕ) (la : a < A pl) (lp : p < passive_room)
    (lt : t < slot_room) where
  pub join_connection : join_start (starts_row pl a p) t (encode pl s rest)
      ≡ encode pl (with_connection a p t true s) rest
  unfolding join_start
  join_connection =
      ap (λ (w : ℕ). sets (encode pl s rest) (starts_row pl a p) (word_bytes w))
      (ap (λ (w : ℕ). either w (single t)) (starts_at pl s rest (encode pl s rest) refl a p la lp)
      ∙ sym (starts_with s a p t lt))
      ∙ put_connection pl s rest a p t true la lp

  pub leave_connection : leave_start (starts_row pl a p) t (encode pl s rest)
      ≡ encode pl (with_connection a p t false s) rest
  unfolding leave_start
  leave_connection =
      ap (λ (w : ℕ). sets (encode pl s rest) (starts_row pl a p) (word_bytes w))
      (ap (λ (w : ℕ). less w (single t)) (starts_at pl s rest (encode pl s rest) refl a p la lp)
      ∙ sym (starts_without s a p t lt))
      ∙ put_connection pl s rest a p t false la lp
