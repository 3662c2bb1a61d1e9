-- One entry: its byte, its slot, and the claim on it.
use mathlib.Core.Path.{◌≡◌, ap, ◌∙◌}
use mathlib.Core.Logic.{◌≢◌}
use mathlib.Core.Bool.{Bool, true, false, false≢true}
use mathlib.Core.List.{List}
use Prim.Native.Nat.{ℕ, ◌+◌, ◌<◌}
use native.Mathlib.Nat.{mod-lt}
use lib.ListN.{get_or, set}
use borrow.Author.Tests.{eq-eqb, ne_eqb}
use Rattle.sets.specs.Sets.{has, single, either}
use Rattle.kinds.specs.declared.Slot.{Slot}
use Rattle.packets.specs.Counters.{slot_after}
use Rattle.check_connections.specs.Claims.{Claimed, slot_from}

-- the start slot plus the index of a router, modulo the slots
pub slot_found : (t n slots : ℕ) {x : ℕ} {s : Slot} → 0 < slots → x ≡ s.0
    → s ≡ slot_after (record { 0 = t }) (record { 0 = n }) slots → (x ≡ slot_from t n slots) × (x < slots)
slot_found t n slots l e f =
    let g : _ ≡ slot_from t n slots = e ∙ ap (λ (z : Slot). z.0) f in (g, rw g (mod-lt (t + n) l))

module _ (b : List ℕ) (i side k t : ℕ) (c : List ℕ) {v : ℕ} (e : v ≡ get_or b i 0) where
  -- 'one lacking any of its entries'
  pub claim_lacking : v ≢ side + 1 → {d : List ℕ} → Claimed b i side k t false c d
  claim_lacking n = record { test = rw (← e, ne_eqb v (side + 1) n); grown = λ q. absurd (false≢true q) }

  module _ (f : v ≡ side + 1) {r : Bool} (g : r ≡ has (get_or c k 0) t) where
    -- 'two that share an entry'
    pub claim_shared : r ≡ true → {d : List ℕ} → Claimed b i side k t false c d
    claim_shared h = record { test = rw (← e, eq-eqb v (side + 1) f, ← g, h); grown = λ q. absurd (false≢true q) }

    pub claim_made : r ≡ false → {w : ℕ} → w ≡ either (get_or c k 0) (single t) → Claimed b i side k t true c
        (set c k w)
    claim_made h m = record { test = rw (← e, eq-eqb v (side + 1) f, ← g, h); grown = λ q. ap (set c k) m }
