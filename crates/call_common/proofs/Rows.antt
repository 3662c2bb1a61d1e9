-- The rows of the interfaces' queues are those of every plan that has the head, and they lie inside a state's bytes.
use mathlib.Core.Path.{◌≡◌, refl, sym, ap, ◌∙◌, subst}
use mathlib.Core.List.{List}
use Prim.Native.Nat.{ℕ, ◌+◌, ◌*◌, ◌≤◌, ◌<◌}
use native.Mathlib.Omega.{arith}
use lib.ListN.{length}
use Rattle.plan.specs.declared.Head.{Head}
use Rattle.plan.specs.Head.{InRange, Counts}
use Rattle.plan.specs.Plan.{Plan, R, A, P, S}
use Rattle.plan_queues.specs.Queue.{active_out, active_in, passive_in, passive_out, number}
use Rattle.bytes_layout.specs.Offsets.{queue_row, allowance_row, entry_row, starts_row}
use Rattle.bytes_layout.proofs.Readings.{length_bytes}
use Rattle.bytes_steps.specs.Counts.{state_size, table_from, size_by, allowances_at_lem, table_at_lem}
use Rattle.bytes_steps.specs.Counts.{connections_at_lem}
use Rattle.call_common.specs.Visits.{Ready, active_out_row, passive_out_row, active_in_row, passive_in_row}
use Rattle.call_common.specs.Visits.{allowance_byte}
use Rattle.call_common.specs.Visits.{starts_byte}

-- ---- rows by the head alone
module _ {h : Head} (pl : Plan) (head : pl.head ≡ h) where
  pub active_there : (a : ℕ) → a < h.actives → a < A pl
  active_there a l = let e = ap (λ (x : Head). x.actives) head in omega arith

  pub active_past : (a : ℕ) → h.actives ≤ a → A pl ≤ a
  active_past a l = let e = ap (λ (x : Head). x.actives) head in omega arith

  pub passive_there : (p : ℕ) → p < h.passives → p < P pl
  passive_there p l = let e = ap (λ (x : Head). x.passives) head in omega arith

  pub passive_past : (p : ℕ) → h.passives ≤ p → P pl ≤ p
  passive_past p l = let e = ap (λ (x : Head). x.passives) head in omega arith

  pub router_there : (r : ℕ) → r < h.routers → r < R pl
  router_there r l = let e = ap (λ (x : Head). x.routers) head in omega arith

  pub router_past : (r : ℕ) → h.routers ≤ r → R pl ≤ r
  router_past r l = let e = ap (λ (x : Head). x.routers) head in omega arith

  pub slot_there : (t : ℕ) → t < h.slots → t < S pl
  slot_there t l = let e = ap (λ (x : Head). x.slots) head in omega arith

  pub slot_past : (t : ℕ) → h.slots ≤ t → S pl ≤ t
  slot_past t l = let e = ap (λ (x : Head). x.slots) head in omega arith

  pub range_of : InRange h → InRange pl.head
  range_of range = subst (λ (x : Head). InRange x) (sym head) range

  pub active_out_row_lem : (a : ℕ) → active_out_row a ≡ queue_row pl (active_out a)
  unfolding queue_row number
  active_out_row_lem a = refl

  pub passive_out_row_lem : (p : ℕ) → passive_out_row h p ≡ queue_row pl (passive_out p)
  unfolding queue_row number
  passive_out_row_lem p = rw (← head)

  pub active_in_row_lem : (a : ℕ) → active_in_row h a ≡ queue_row pl (active_in a)
  unfolding queue_row number
  active_in_row_lem a = rw (← head)

  pub passive_in_row_lem : (p : ℕ) → passive_in_row h p ≡ queue_row pl (passive_in p)
  unfolding queue_row number
  passive_in_row_lem p = rw (← head)

  pub allowance_byte_lem : (a : ℕ) → allowance_byte h a ≡ allowance_row pl a
  unfolding allowance_row
  allowance_byte_lem a = rw (← head) (ap (λ (n : ℕ). n + a) (sym (allowances_at_lem pl)))

  pub entry_byte : (r o t : ℕ) → table_from h + 2 * (128 * r + 32 * o + t) ≡ entry_row pl r o t
  unfolding entry_row
  entry_byte r o t = rw (← head) (ap (λ (n : ℕ). n + 2 * (128 * r + 32 * o + t)) (sym (table_at_lem pl)))

  pub starts_byte_lem : (a p : ℕ) → starts_byte h a p ≡ starts_row pl a p
  unfolding starts_row
  starts_byte_lem a p = rw (← head) (ap (λ (n : ℕ). n + 4 * (16 * a + p)) (sym (connections_at_lem pl)))

-- ---- inside
module _ {h : Head} {b : List ℕ} (ready : Ready h b) where
  pub long : state_size h ≤ length b
  long =
      let pl = ready.plan in
      let e = ready.held.same in
      let l : length b ≡ state_size h + length ready.held.rest =
      ap length e ∙ length_bytes pl ready.held.state ready.held.rest
      ∙ ap (λ (n : ℕ). n + length ready.held.rest) (size_by pl ∙ ap state_size ready.head) in
      omega arith

  pub phase_inside : 0 < length b
  phase_inside = omega (arith, long)

  pub active_out_inside : (a row : ℕ) → a < h.actives → row ≡ active_out_row a → row + 39 ≤ length b
  active_out_inside a row l at = omega (arith, long)

  pub passive_out_inside : (p row : ℕ) → p < h.passives → row ≡ passive_out_row h p → row + 39 ≤ length b
  passive_out_inside p row l at = omega (arith, long)

  pub active_in_inside : (a row : ℕ) → a < h.actives → row ≡ active_in_row h a → row + 39 ≤ length b
  active_in_inside a row l at = omega (arith, long)

  pub passive_in_inside : (p row : ℕ) → p < h.passives → row ≡ passive_in_row h p → row + 39 ≤ length b
  passive_in_inside p row l at = omega (arith, long)

  pub allowance_inside : (a byte : ℕ) → a < h.actives → byte ≡ allowance_byte h a → byte < length b
  allowance_inside a byte l at = omega (arith, long)

  pub entry_inside : (r o t i : ℕ) → r < h.routers → o < 4 → t < 32
      → i ≡ table_from h + 2 * (128 * r + 32 * o + t) → i < length b
  entry_inside r o t i hr ho ht at = omega (arith, long)

  pub starts_inside : (a p i : ℕ) → a < h.actives → p < 16 → i ≡ starts_byte h a p → i + 4 ≤ length b
  starts_inside a p i ha hp at = omega (arith, long)

-- a length that stays
pub long_still : {n m k : ℕ} → n ≤ k → m ≡ k → n ≤ m
long_still l e = omega arith

-- ---- what the code's offsets ask
pub few_counts : {h : Head} → InRange h → Counts h
few_counts range = (range.routers.1, range.actives.1, range.passives.1)

pub active_few : {h : Head} (a : ℕ) → InRange h → a < h.actives → a < 16
active_few a range l = let m = range.actives.1 in omega arith

pub passive_few : {h : Head} (p : ℕ) → InRange h → p < h.passives → p < 16
passive_few p range l = let m = range.passives.1 in omega arith

pub slot_few : {h : Head} (t : ℕ) → InRange h → t < h.slots → t < 32
slot_few t range l = let m = range.slots.1 in omega arith

pub router_few : {h : Head} (r : ℕ) → InRange h → r < h.routers → r < 16
router_few r range l = let m = range.routers.1 in omega arith
