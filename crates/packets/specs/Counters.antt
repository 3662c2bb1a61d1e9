-- 'A slot, a hub count and a credit are three counters, never added or compared without a stated rule': these are the
-- rules.
use Rattle.std.specs.Prelude.{ℕ, ◌+◌, ◌-◌, ◌%◌}
use Rattle.kinds.specs.declared.Slot.{Slot}
use Rattle.kinds.specs.declared.Hub.{Hub}
use Rattle.kinds.specs.declared.Credit.{Credit}

-- 'the slot grows by one modulo S'
abbrev pub slot_next : Slot → ℕ → Slot
slot_next t s = record { 0 = (t.0 + 1) % s }

-- 'slot minus hub modulo S'
abbrev pub start_slot : Slot → Hub → ℕ → Slot
start_slot t h s = record { 0 = (t.0 + (s - h.0 % s)) % s }

-- 'start slot + n modulo S'
abbrev pub slot_after : Slot → Hub → ℕ → Slot
slot_after t h s = record { 0 = (t.0 + h.0) % s }

-- a hub count and a credit grow or fall by one; neither falls from 0: a TDOWN that goes on has a hub above 1, and a
-- credit is spent for a candidate, whose next queue has one
abbrev pub hub_up : Hub → Hub
hub_up h = record { 0 = h.0 + 1 }

abbrev pub hub_down : Hub → Hub
hub_down h = record { 0 = h.0 - 1 }

abbrev pub credit_up : Credit → Credit
credit_up c = record { 0 = c.0 + 1 }

abbrev pub credit_down : Credit → Credit
credit_down c = record { 0 = c.0 - 1 }
