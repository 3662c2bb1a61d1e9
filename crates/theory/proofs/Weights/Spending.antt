-- What a packet takes of its active's allowance, and allowances of which one changed by one.
use mathlib.Core.Path.{◌≡◌, refl, sym, ap, ap₂, ◌∙◌}
use mathlib.Core.Logic.{◌⊎◌, inl, inr}
use mathlib.Core.Bool.{Bool, true, false}
use Prim.Native.Nat.{ℕ, ◌+◌}
use native.Mathlib.Omega.{arith}
use lib.Dec.{eqb}
use borrow.Author.Tests.{eqb-true, eqb-false, eq-eqb, ne_eqb}
use Rattle.basis.specs.Choice.{pick, test, pick_same}
use Rattle.packets.specs.declared.Kind.{Kind}
use Rattle.packets.specs.declared.Kind.TheVariants.{Tdown, Ack, Nack}
use Rattle.packets.specs.declared.Packet.{Packet}
use Rattle.rules.specs.Store.{put}
use Rattle.rules.specs.Visits.{reply_kind}
use Rattle.rules.specs.Valid.{spends_kind, spends}

-- A tear-down takes nothing.
pub tdown_spends : (a : ℕ) (x : Packet) → x.kind ≡ Tdown → spends a x ≡ 0
tdown_spends a x e = ap (λ (k : Kind). pick (eqb x.active a) (spends_kind k) 0) e ∙ pick_same (eqb x.active a) 0

-- Packets of one active, of kinds that take the same, take the same.
pub kinds_spend : (a : ℕ) (x y : Packet) → y.active ≡ x.active → spends_kind y.kind ≡ spends_kind x.kind
    → spends a y ≡ spends a x
kinds_spend a x y e k = ap₂ (λ (m n : ℕ). pick (eqb m a) n 0) e k

-- An answer of either kind takes as much as a set-up.
pub reply_spends : (c : ℕ) → spends_kind (reply_kind c) ≡ 1
reply_spends c = by (eqb c 1)
  where
    by : (b : Bool) → spends_kind (pick b Ack Nack) ≡ 1
    by true = refl
    by false = refl

-- one where a and b are one
abbrev pub mine : ℕ → ℕ → ℕ
mine a b = pick (eqb a b) 1 0

-- two numbers: one, or not
same_number : (a b : ℕ) → ((b ≡ a) × (eqb b a ≡ true) × (mine a b ≡ 1)) ⊎ ((eqb b a ≡ false) × (mine a b ≡ 0))
same_number a b = by (test (eqb b a))
  where
    by : (eqb b a ≡ true) ⊎ (eqb b a ≡ false) → ((b ≡ a) × (eqb b a ≡ true) × (mine a b ≡ 1))
        ⊎ ((eqb b a ≡ false) × (mine a b ≡ 0))
    by (inl t) = let e = eqb-true b a t in inl (e, t, rw (eq-eqb a b (sym e)))
    by (inr f) = inr (f, rw (ne_eqb a b (λ e. eqb-false b a f (sym e))))

-- The allowances after one of them fell by one.
pub fallen : (m : ℕ → ℕ) (a b n : ℕ) → n + 1 ≡ m a → put eqb m a n b + mine a b ≡ m b
fallen m a b n e = by (same_number a b)
  where
    by : ((b ≡ a) × (eqb b a ≡ true) × (mine a b ≡ 1)) ⊎ ((eqb b a ≡ false) × (mine a b ≡ 0))
        → put eqb m a n b + mine a b ≡ m b
    by (inl (q, f, g)) = let same = ap m q in rw (f, g) (omega arith)
    by (inr (f, g)) = rw (f, g) (omega arith)

-- The allowances after one of them grew by one.
pub grown : (m : ℕ → ℕ) (a b n : ℕ) → n ≡ m a + 1 → put eqb m a n b ≡ m b + mine a b
grown m a b n e = by (same_number a b)
  where
    by : ((b ≡ a) × (eqb b a ≡ true) × (mine a b ≡ 1)) ⊎ ((eqb b a ≡ false) × (mine a b ≡ 0))
        → put eqb m a n b ≡ m b + mine a b
    by (inl (q, f, g)) = let same = ap m q in rw (f, g) (omega arith)
    by (inr (f, g)) = rw (f, g) (omega arith)
