-- Look's returns and Entry's, in the order of the code: each from the tests that led to it.
use mathlib.Core.Path.{◌≡◌, sym, ap, ◌∙◌}
use mathlib.Core.List.{List}
use Prim.Native.Nat.{ℕ, ◌+◌, ◌*◌, ◌≤◌, ◌<◌}
use native.Mathlib.Omega.{arith}
use borrow.Author.Tests.{lt-ltb, le-ltb}
use Rattle.kinds.specs.declared.Refusal.TheVariants.{BadNumber, QueueEmpty}
use Rattle.packets.specs.declared.Packet.{Packet}
use Rattle.packets.specs.declared.Entry.{Entry}
use Rattle.packets.specs.declared.Answer.TheVariants.{Refused, Shows, Holds}
use Rattle.plan.specs.declared.Head.{Head}
use Rattle.plan.specs.Head.{InRange}
use Rattle.plan.specs.Plan.{R, A, S}
use Rattle.plan_queues.specs.Queue.{active_in}
use Rattle.rules.specs.Calls.{of_look, of_entry, look, entry, shown}
use Rattle.bytes_layout.specs.Decode.{length_at, entry_at}
use Rattle.bytes_layout.specs.Places.{packet_at}
use Rattle.bytes_layout.proofs.Readings.{entry_at_lem}
use Rattle.bytes_steps.specs.Counts.{table_from}
use Rattle.call_common.specs.Visits.{Visits, active_in_row}
use Rattle.call_common.proofs.Rows.{active_in_row_lem, active_there, active_past}
use Rattle.call_common.proofs.Rows.{router_there, router_past, slot_there, slot_past, entry_byte}
use Rattle.call_common.proofs.Refuse.{passed, here, later, refuses, accepts}
use Rattle.call_common.proofs.Tests.{empty_tells, some_tells, has_head, head_is}

-- ---- Look
module _ (h : Head) (b : List ℕ) (a : ℕ) where
  pub look_active : h.actives ≤ a → Visits h (of_look a) b (Refused BadNumber) b
  look_active l =
      record {
        acts = λ pl e. refuses pl (look a) b BadNumber
            (λ s rest g k. here (rw (le-ltb a (A pl) (active_past pl e a l))));
      }

  module _ (active : a < h.actives) (row : ℕ) (at : row ≡ active_in_row h a) where
    pub look_empty : length_at row b ≡ 0 → Visits h (of_look a) b (Refused QueueEmpty) b
    look_empty z =
        record {
          acts = λ pl e. refuses pl (look a) b QueueEmpty
              (λ s rest g k. later (rw (lt-ltb a (A pl) (active_there pl e a active)))
              (here (empty_tells pl s rest b k (active_in a) (active_there pl e a active) row
              (at ∙ active_in_row_lem pl e a) z)));
        }

    pub looked : (length_at row b ≡ 0 → ⊥) → (x : Packet) → x ≡ packet_at (row + 4) b → Visits h (of_look a) b (Shows x)
        b
    looked filled x read =
        record {
          acts = λ pl e.
              let there = active_there pl e a active in
              let i = at ∙ active_in_row_lem pl e a in
              accepts pl (look a) b
              (λ s rest g k. later (rw (lt-ltb a (A pl) there))
              (later (some_tells pl s rest b k (active_in a) there row i filled) passed))
              (λ s rest g k.
              let l = has_head pl s rest b k (active_in a) there row i filled in
              ap Shows (read ∙ head_is pl s rest b k (active_in a) there row i l) ∙ ap shown (sym l.line))
              (λ s rest g k. k);
        }

-- ---- Entry

module _ (h : Head) (b : List ℕ) (r o t : ℕ) where
  pub entry_router : h.routers ≤ r → Visits h (of_entry r o t) b (Refused BadNumber) b
  entry_router l =
      record {
        acts = λ pl e. refuses pl (entry r o t) b BadNumber
            (λ s rest g k. here (rw (le-ltb r (R pl) (router_past pl e r l))));
      }

  module _ (router : r < h.routers) where
    pub entry_side : 4 ≤ o → Visits h (of_entry r o t) b (Refused BadNumber) b
    entry_side l =
        record {
          acts = λ pl e. refuses pl (entry r o t) b BadNumber
              (λ s rest g k. here (rw (lt-ltb r (R pl) (router_there pl e r router), le-ltb o 4 l)));
        }

    module _ (side : o < 4) where
      pub entry_slot : h.slots ≤ t → Visits h (of_entry r o t) b (Refused BadNumber) b
      entry_slot l =
          record {
            acts = λ pl e. refuses pl (entry r o t) b BadNumber
                (λ s rest g k.
                here (rw (
                  lt-ltb r (R pl) (router_there pl e r router),
                  lt-ltb o 4 side,
                  le-ltb t (S pl) (slot_past pl e t l),
                )));
          }

      pub entry_held : InRange h → t < h.slots → (i : ℕ) (x : Entry) → i ≡ table_from h + 2 * (128 * r + 32 * o + t)
          → x ≡ entry_at i b → Visits h (of_entry r o t) b (Holds x) b
      entry_held range l i x at read =
          record {
            acts = λ pl e.
                let m = range.slots.1 in
                accepts pl (entry r o t) b
                (λ s rest g k.
                later (rw (
                  lt-ltb r (R pl) (router_there pl e r router),
                  lt-ltb o 4 side,
                  lt-ltb t (S pl) (slot_there pl e t l),
                )) passed)
                (λ s rest g k.
                ap Holds (read ∙ ap (λ (n : ℕ). entry_at n b) (at ∙ entry_byte pl e r o t)
                ∙ entry_at_lem pl s rest b k r o t (router_there pl e r router) side (omega arith)))
                (λ s rest g k. k);
          }
