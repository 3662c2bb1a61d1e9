-- Counts that grow one after the other.
use mathlib.Core.Path.{◌≡◌, sym, ap, ◌∙◌}
use mathlib.Core.Logic.{◌⊎◌, inl, inr}
use mathlib.Core.Bool.{true, false}
use mathlib.Core.List.{List}
use Prim.Native.Nat.{ℕ, ◌+◌, ◌≤◌, ◌<◌, min}
use native.Mathlib.Omega.{arith}
use lib.Dec.{ltb, eqb}
use lib.ListN.{get_or, length, length-set}
use lib.Seq.{get_or-set_same, get_or-set_other}
use borrow.Author.Tests.{ltb-true, ltb-false, eqb-true, eqb-false}
use Rattle.basis.specs.Choice.{test}
use Rattle.packets.specs.declared.Kind.{Kind}
use Rattle.packets.specs.declared.Kind.TheVariants.{Setup, Tdown, Ack, Nack}
use Rattle.packets.specs.declared.Packet.{Packet}
use Rattle.rules.specs.Valid.{spends_kind, spends}
use Rattle.check_frames.specs.Tally.{most, counted, tallied, Tallied}

-- nothing counted
pub tallied_none : (t : List ℕ) → Tallied (λ a. 0) t t
tallied_none t =
    record { long = λ l. l; grown = λ l a h. ap (min most) (omega arith); small = λ l k a h. k a h }

-- and then some more
pub tallied_then : {w v : ℕ → ℕ} {t u x : List ℕ} → Tallied w t u → Tallied v u x → Tallied (λ a. w a + v a) t x
tallied_then {w} {v} {t} {u} {x} f g =
    record {
      long = λ l. g.long (f.long l);
      grown = λ l a h.
          let p = f.grown l a h in
          let q = g.grown (f.long l) a h in
          omega arith;
      small = λ l k a h. g.small (f.long l) (f.small l k) a h;
    }

-- the same counted
pub tallied_like : {w v : ℕ → ℕ} {t u : List ℕ} → ((a : ℕ) → a < 16 → w a ≡ v a) → Tallied w t u → Tallied v t u
tallied_like {w} {v} {t} {u} e f =
    record {
      long = f.long;
      grown = λ l a h. f.grown l a h ∙ ap (λ (n : ℕ). min most (get_or t a 0 + n)) (e a h);
      small = f.small;
    }

spends_one : (k : Kind) → spends_kind k ≤ 1
spends_one Setup = omega arith
spends_one Tdown = omega arith
spends_one Ack = omega arith
spends_one Nack = omega arith

-- a count grown by at most one
counted_grown : (x n : ℕ) → n ≤ 1 → min most (counted x n) ≡ min most (x + n)
unfolding counted
counted_grown x n h = by (test (ltb x most))
  where
    by : (ltb x most ≡ true) ⊎ (ltb x most ≡ false) → min most (counted x n) ≡ min most (x + n)
    by (inl t) = rw t
    by (inr t) = let g = ltb-false x most t in rw t (omega arith)

counted_small : (x n : ℕ) → n ≤ 1 → x ≤ most → counted x n ≤ most
unfolding counted
counted_small x n h k = by (test (ltb x most))
  where
    by : (ltb x most ≡ true) ⊎ (ltb x most ≡ false) → counted x n ≤ most
    by (inl t) = let g = ltb-true x most t in rw t (omega arith)
    by (inr t) = rw t k

-- one packet
pub tallied_one : (x : Packet) (t : List ℕ) → x.active < 16 → Tallied (λ a. spends a x) t (tallied x t)
unfolding tallied
tallied_one x t l =
    record {
      long = λ e. length-set t x.active _ ∙ e;
      grown = λ e a h. grown e a (test (eqb x.active a));
      small = λ e k a h. small e k a h (test (eqb x.active a));
    }
  where
    here : length t ≡ 16
        → get_or (tallied x t) x.active 0 ≡ counted (get_or t x.active 0) (spends_kind x.kind)
    here e = get_or-set_same t x.active _ 0 (rw e l)

    away : (a : ℕ) → eqb x.active a ≡ false → get_or (tallied x t) a 0 ≡ get_or t a 0
    away a f = get_or-set_other t x.active a _ 0 (λ z. eqb-false x.active a f (sym z))

    grown : length t ≡ 16 → (a : ℕ) → (eqb x.active a ≡ true) ⊎ (eqb x.active a ≡ false)
        → min most (get_or (tallied x t) a 0) ≡ min most (get_or t a 0 + spends a x)
    grown e a (inl f) =
        rw (f, ← eqb-true x.active a f, here e)
        (counted_grown (get_or t x.active 0) (spends_kind x.kind) (spends_one x.kind))
    grown e a (inr f) = rw (f, away a f) (ap (min most) (omega arith))

    small : length t ≡ 16 → ((a : ℕ) → a < 16 → get_or t a 0 ≤ most) → (a : ℕ) → a < 16
        → (eqb x.active a ≡ true) ⊎ (eqb x.active a ≡ false) → get_or (tallied x t) a 0 ≤ most
    small e k a h (inl f) =
        rw (← eqb-true x.active a f, here e)
        (counted_small (get_or t x.active 0) (spends_kind x.kind) (spends_one x.kind) (k x.active l))
    small e k a h (inr f) = rw (away a f) (k a h)
