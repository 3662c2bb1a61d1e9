-- What the code of a unit's turn needs of its bytes: numbers in range, rows inside, a head that can be handled.
use mathlib.Core.Path.{◌≡◌, refl, sym, ap, ◌∙◌}
use mathlib.Core.List.{List, []}
use Prim.Native.Nat.{ℕ, ◌+◌, ◌*◌, ◌-◌, ◌≤◌, ◌<◌, ◌/◌, ◌%◌}
use native.Mathlib.Numerals.{add-one}
use native.Mathlib.Omega.{arith}
use lib.ListN.{length, get_or, set}
use Rattle.packets.specs.declared.Packet.{Packet}
use Rattle.packets.specs.declared.Entry.{Entry}
use Rattle.packets.specs.declared.Entry.TheVariants.{Free, Booked}
use Rattle.plan.specs.declared.Head.{Head}
use Rattle.plan.specs.Head.{Counts}
use Rattle.plan.specs.Plan.{Plan, R, no_side}
use Rattle.plan.specs.Tables.{table_plan}
use Rattle.plan_queues.specs.Queue.{Q}
use Rattle.basis.specs.Fold.{up_to}
use Rattle.rules.specs.State.{with_entry}
use Rattle.rules.specs.Execute.{unit_at}
use Rattle.rules.specs.Valid.{PacketOk}
use Rattle.theory.proofs.Cases.{exit_at}
use Rattle.bytes_layout.specs.Offsets.{queue_row, entry_row}
use Rattle.bytes_layout.specs.Codes.{entry_code}
use Rattle.bytes_layout.specs.Encode.{encode}
use Rattle.bytes_layout.proofs.Updates.{put_entry}
use Rattle.bytes_steps.specs.Acts.{Holds, Steps, holds_then, steps_more}
use Rattle.bytes_steps.specs.Counts.{table_from}
use Rattle.next_queue.specs.Wiring.{Wiring}
use Rattle.phase_execute.specs.Moments.{Turn, Heads}
use Rattle.phase_execute.specs.Lent.{Settles}
use Rattle.phase_pick.proofs.Bytes.{queue_room, entry_room}
use Rattle.phase_pick.proofs.Tables.{entry_is, range_of, counts_of, is_router}
use Rattle.phase_execute.proofs.Bytes.{entry_on}
use Rattle.phase_execute.proofs.Handled.{here, exit_side}
use Rattle.phase_execute.proofs.Turns.{turns}
use Rattle.phase_execute.proofs.Units.{settles_as}
use Rattle.phase_execute.proofs.Tables.{slots_are, exit_is}

module _ {h : Head} {routes : List (List ℕ)} {joints homes : List ℕ} (w : Wiring h routes joints homes) where
  abbrev pl : Plan
  pl = table_plan h routes joints

  pub base_asks : {r : ℕ} → r < h.routers → Counts h × (r ≤ 256)
  base_asks l = let m = w.range.routers.1 in (counts_of w, omega arith)

  -- Q's row lies inside
  pub unit_room : {r i at : ℕ} {b : List ℕ} → r < h.routers → i < 4 → at ≡ queue_row pl (Q r i)
      → Holds pl (Turn pl (4 * r + i)) b
      → at + 39 ≤ length b
  unit_room {r} {i} {at} {b} l four ea k =
      rw ea (queue_room pl k.state k.rest b k.same (Q r i) (is_router w l, four))

  module _ {r i : ℕ} {x : Packet} {b : List ℕ} (l : r < h.routers) (four : i < 4)
      (k : Holds pl (Heads pl r i x) b) where
    numbers : PacketOk pl x
    numbers = (here w.wired (range_of w) r i (is_router w l, four) x k.state k.fit).ranges

    pub has_passive : x.passive < h.passives
    unfolding table_plan
    has_passive = numbers.passive

    pub has_slot : x.slot.0 < h.slots
    unfolding table_plan
    has_slot = numbers.slot

    pub side_asks : Counts h × (r < 16) × (x.passive < 16)
    side_asks =
        let a = w.range.routers.1 in
        let c = w.range.passives.1 in
        let p = has_passive in
        (counts_of w, omega arith, omega arith)

    module _ {o : ℕ} (eo : o ≡ get_or (get_or routes r []) (h.actives + x.passive) no_side) where
      pub side_is : o ≡ exit_at pl r x
      side_is = eo ∙ exit_is h routes joints r x

      side_small : o < 4
      side_small = rw side_is (exit_side w.wired (range_of w) r i (is_router w l, four) x k.state k.fit)

      pub entry_asks : {t : ℕ} → t ≡ x.slot.0 → Counts h × (r ≤ 16) × (o ≤ 4) × (t ≤ 32)
      entry_asks et =
          let s = has_slot in
          let m = w.range.slots.1 in
          let a = w.range.routers.1 in
          let q = side_small in
          (counts_of w, omega arith, omega arith, omega arith)

      pub first_asks : Counts h × (r ≤ 16) × (o ≤ 4) × (0 ≤ 32)
      first_asks =
          let a = w.range.routers.1 in
          let q = side_small in
          (counts_of w, omega arith, omega arith, omega arith)

      room : (t : ℕ) → t < h.slots → entry_row pl r o t + 2 ≤ length b
      room t lt =
          let m = w.range.slots.1 in
          entry_room pl k.state k.rest b k.same r o t (is_router w l) side_small (omega arith)

      -- the packet's entry
      pub entry_inside : {at t : ℕ} → at ≡ table_from h + 2 * (128 * r + 32 * o + t) → t ≡ x.slot.0 → at < length b
      entry_inside {at} {t} ea et =
          let s = has_slot in
          let q : entry_row pl r o t + 2 ≤ length b = room t (omega arith) in
          let e : at ≡ entry_row pl r o t = entry_is h routes joints r o t ea in
          omega arith

      -- the entries of its side
      pub book_asks : {at t n : ℕ} → at ≡ table_from h + 2 * (128 * r + 32 * o + 0) → t ≡ x.slot.0 → n ≡ h.slots
          → (at + 2 * n ≤ length b) × (t < n) × (n ≤ 32)
      book_asks {at} ea et en =
          let s = has_slot in
          let m = w.range.slots.0 in
          let q = room (h.slots - 1) (omega arith) in
          let e : at ≡ entry_row pl r o 0 = entry_is h routes joints r o 0 ea in
          let f = entry_on pl r o (h.slots - 1) in
          (omega arith, omega arith, rw en w.range.slots.1)

      pub near_small : {at t : ℕ} → at ≡ table_from h + 2 * (128 * r + 32 * o + 0) → t ≡ x.slot.0
          → at + 2 * t < 65536
      near_small ea et =
          let s = has_slot in
          let m = w.range.slots.1 in
          let a = w.range.routers.1 in
          let c = w.range.actives.1 in
          let d = w.range.passives.1 in
          let q = side_small in
          omega arith

      pub write_inside : (at t n : ℕ) → (at + 2 * n ≤ length b) × (t < n) × (n ≤ 32) → at + 2 * t < length b
      write_inside at t n p = let q = p.0 in let s = p.1 in omega arith

      -- the bytes with that entry changed are those of a state with the same queue
      changed : {at t : ℕ} (y : Entry) → at ≡ entry_row pl r o t → t ≡ x.slot.0
          → set b at (entry_code y) ≡ encode pl (with_entry r o t y k.state) k.rest
      changed {at} {t} y ea et =
          let s = has_slot in
          let m = w.range.slots.1 in
          rw ea
          (ap (λ (c : List ℕ). set c (entry_row pl r o t) (entry_code y)) k.same
          ∙ put_entry pl k.state k.rest r o t y (is_router w l) side_small (omega arith))

      settles_by : {row at t : ℕ} (y : Entry) → row ≡ queue_row pl (Q r i) → at ≡ entry_row pl r o t → t ≡ x.slot.0
          → Settles row x h.slots (set b at (entry_code y))
      settles_by {row} {at} {t} y er ea et =
          settles_as w.wired (range_of w) r i (is_router w l, four) x row h.slots k.state
          (with_entry r o t y k.state) k.rest (set b at (entry_code y)) er (slots_are h routes joints) k.fit
          refl (changed y ea et)

      -- a freed entry
      pub settles_freed : {row at t : ℕ} → row ≡ queue_row pl (Q r i) → at ≡ table_from h + 2 * (128 * r + 32 * o + t)
          → t ≡ x.slot.0 → Settles row x h.slots (set b at 0)
      settles_freed {t = t} er ea et = settles_by Free er (entry_is h routes joints r o t ea) et

      -- a booked one
      pub settles_booked : {row at t : ℕ} (v : ℕ) → row ≡ queue_row pl (Q r i)
          → at ≡ table_from h + 2 * (128 * r + 32 * o + 0) → t ≡ x.slot.0
          → Settles row x h.slots (set b (at + 2 * t) (v + 1))
      settles_booked {at = at} {t = t} v er ea et =
          rw add-one (settles_by (Booked v) er
          (ap (λ (n : ℕ). n + 2 * t) (entry_is h routes joints r o 0 ea) ∙ sym (entry_on pl r o t)) et)

    -- no entry changed
    pub settles_now : {row : ℕ} → row ≡ queue_row pl (Q r i) → Settles row x h.slots b
    settles_now {row} er =
        settles_as w.wired (range_of w) r i (is_router w l, four) x row h.slots k.state k.state
        k.rest b er
        (slots_are h routes joints) k.fit refl k.same

  -- ---- the loop over the units
  has_routers : {r : ℕ} → r ≤ 4 * h.routers → r ≤ 4 * R pl
  unfolding table_plan
  has_routers l = l

  -- the n-th turn is that of side n % 4 of router n / 4
  turn_is : (n : ℕ) → 4 * (n / 4) + n % 4 ≡ n
  turn_is n = omega arith

  pub units_hold : {r : ℕ} {b c : List ℕ} → r < 4 * h.routers → Holds pl (Turn pl 0) b
      → Steps pl (Turn pl 0) (up_to (unit_at pl) r) b c → Holds pl (Turn pl (4 * (r / 4) + r % 4)) c
  units_hold {r} l k x =
      rw (turn_is r) (holds_then pl k x (λ s t. turns w.wired (range_of w) r s (has_routers (omega arith)) t))

  pub units_more : {r : ℕ} {b c d : List ℕ} → r < 4 * h.routers → Steps pl (Turn pl 0) (up_to (unit_at pl) r) b c
      → Steps pl (Turn pl (4 * (r / 4) + r % 4)) (unit_at pl r) c d → Steps pl (Turn pl 0) (up_to (unit_at pl) (r + 1))
      b d
  units_more {r} l x y =
      steps_more pl (unit_at pl) r x (λ s t. turns w.wired (range_of w) r s (has_routers (omega arith)) t)
      (rw (turn_is r) at y)
