-- Slots are numbers modulo S: a start slot and the slot so many rounds after it, and the two together.
use mathlib.Core.Path.{◌≡◌, sym, ap, ◌∙◌}
use mathlib.Core.Logic.{◌⊎◌, inl, inr}
use Prim.Native.Nat.{ℕ, ◌+◌, ◌-◌, ◌%◌, ◌≤◌, ◌<◌}
use native.Mathlib.Nat.{mod-lt, mod-eq_of_lt, mod-eq-sub-mod, mod-add-mod, add-mod-mod, add_assoc}
use native.Mathlib.Omega.{arith}
use Rattle.basis.specs.Bounded.{lt_or_ge}
use Rattle.kinds.specs.declared.Slot.{Slot}
use Rattle.kinds.specs.declared.Hub.{Hub}
use Rattle.packets.specs.Counters.{slot_next, start_slot, slot_after, hub_up}

-- a number below 2 s, modulo s
wrap : (s x : ℕ) → s ≤ x → x < s + s → x % s ≡ x - s
wrap s x h l = mod-eq-sub-mod h ∙ mod-eq_of_lt (omega arith)

-- h back
unfoldable back : ℕ → ℕ → ℕ → ℕ
back s x h = (x + (s - h % s)) % s

back_lt : (s x h : ℕ) → 0 < s → back s x h < s
unfolding back
back_lt s x h p = mod-lt (x + (s - h % s)) p

-- h rounds on, then h back
back_on : (s t h : ℕ) → t < s → back s ((t + h) % s) h ≡ t
unfolding back
back_on s t h ht = rw (sym (add-mod-mod t h s)) (by (lt_or_ge (t + h % s) s))
  where
    by : (t + h % s < s) ⊎ (s ≤ t + h % s) → ((t + h % s) % s + (s - h % s)) % s ≡ t
    by (inl l) =
        let p : h % s < s = mod-lt h (omega arith) in
        rw (mod-eq_of_lt l) (wrap s (t + h % s + (s - h % s)) (omega arith) (omega arith) ∙ omega arith)
    by (inr l) =
        let p : h % s < s = mod-lt h (omega arith) in
        rw (wrap s (t + h % s) l (omega arith)) (mod-eq_of_lt (omega arith) ∙ omega arith)

-- h back, then h rounds on
on_back : (s x h : ℕ) → x < s → (back s x h + h) % s ≡ x
unfolding back
on_back s x h hx =
    let p : h % s < s = mod-lt h (omega arith) in
    let e : x + (s - h % s) + h % s ≡ x + s = omega arith in
    mod-add-mod (x + (s - h % s)) s h ∙ sym (add-mod-mod (x + (s - h % s)) h s)
    ∙ rw e (wrap s (x + s) (omega arith) (omega arith) ∙ omega arith)

-- one slot on and one hub more: the same start
back_step : (s x h : ℕ) → x < s → back s ((x + 1) % s) (h + 1) ≡ back s x h
back_step s x h hx =
    let b : back s x h < s = back_lt s x h (omega arith) in
    let e : (x + 1) % s ≡ (back s x h + (h + 1)) % s =
    rw (← add_assoc) (rw (← mod-add-mod (back s x h + h) s 1, on_back s x h hx)) in
    rw e (back_on s (back s x h) (h + 1) b)

abbrev slot : ℕ → Slot
slot n = record { 0 = n }

-- A start slot is below s.
pub start_below : (s : ℕ) (t : Slot) (h : Hub) → 0 < s → (start_slot t h s).0 < s
unfolding back
start_below s t h p = back_lt s t.0 h.0 p

-- So many rounds after the start it is the slot again.
pub after_start : (s : ℕ) (t : Slot) (h : Hub) → t.0 < s → slot_after (start_slot t h s) h s ≡ t
unfolding back
after_start s t h l = ap slot (on_back s t.0 h.0 l)

-- The slot grows and the hub with it: the start stays.
pub start_next : (s : ℕ) (t : Slot) (h : Hub) → t.0 < s → start_slot (slot_next t s) (hub_up h) s ≡ start_slot t h s
unfolding back
start_next s t h l = ap slot (back_step s t.0 h.0 l)

-- With hub 0 the start is the slot.
pub start_none : (s : ℕ) (t : Slot) → t.0 < s → start_slot t (record { 0 = 0 }) s ≡ t
unfolding back
start_none s t l =
    let e : (t.0 + 0) % s ≡ t.0 = mod-eq_of_lt (omega arith) ∙ omega arith in
    ap slot (ap (λ (x : ℕ). back s x 0) (sym e) ∙ back_on s t.0 0 l)
