-- Drop's returns, in the order of the code: each from the tests that led to it.
use mathlib.Core.Path.{◌≡◌, refl, sym, ap, ap₂, ◌∙◌}
use mathlib.Core.Bool.{true, false, not}
use mathlib.Core.List.{List}
use Prim.Native.Nat.{ℕ, ◌+◌, ◌≤◌, ◌<◌}
use lib.Dec.{ltb}
use lib.ListN.{get_or}
use borrow.Author.Tests.{lt-ltb, le-ltb}
use Rattle.kinds.specs.declared.Refusal.TheVariants.{WrongPhase, BadNumber, QueueEmpty, FlagUp, Unmarked}
use Rattle.packets.specs.declared.Packet.{Packet}
use Rattle.packets.specs.declared.Answer.TheVariants.{Refused, Done}
use Rattle.plan.specs.declared.Head.{Head}
use Rattle.plan.specs.Head.{InRange}
use Rattle.plan.specs.Plan.{Plan, A}
use Rattle.plan_queues.specs.Queue.{active_in}
use Rattle.rules.specs.Execute.{unmarked}
use Rattle.rules.specs.Visits.{removed, dropped}
use Rattle.rules.specs.Calls.{of_drop, drop}
use Rattle.bytes_layout.specs.Encode.{encode}
use Rattle.bytes_layout.specs.Decode.{flag_at, length_at}
use Rattle.bytes_layout.specs.Places.{packet_at}
use Rattle.call_common.specs.Visits.{Visits, active_in_row, allowance_byte}
use Rattle.call_common.proofs.Rows.{active_in_row_lem, allowance_byte_lem, active_there, active_past, range_of}
use Rattle.call_common.proofs.Refuse.{passed, here, later, refuses, accepts}
use Rattle.call_common.proofs.Tests.{write_wrong, write_right, flag_tells, empty_tells, some_tells, has_head, head_is}
use Rattle.call_common.proofs.Tests.{unmarked_tells}
use Rattle.call_common.proofs.Steps.{few}
use Rattle.call_drop.specs.Dropping.{dropped_at, noted_at}
use Rattle.call_drop.proofs.Steps.{removed_bytes, noted_bytes, head_ok_lem}

module _ (h : Head) (b : List ℕ) (a : ℕ) where
  pub drop_phase : (get_or b 0 0 ≡ 2 → ⊥) → Visits h (of_drop a) b (Refused WrongPhase) b
  drop_phase n =
      record {
        acts = λ pl e. refuses pl (drop a) b WrongPhase (λ s rest g k. here (write_wrong pl s rest b k n));
      }

  module _ (phase : get_or b 0 0 ≡ 2) where
    pub drop_active : h.actives ≤ a → Visits h (of_drop a) b (Refused BadNumber) b
    drop_active l =
        record {
          acts = λ pl e. refuses pl (drop a) b BadNumber
              (λ s rest g k. later (write_right pl s rest b k phase)
              (here (rw (le-ltb a (A pl) (active_past pl e a l)))));
        }

    module _ (active : a < h.actives) (row : ℕ) (at : row ≡ active_in_row h a) where
      numbered : (pl : Plan) → pl.head ≡ h → not (ltb a (A pl)) ≡ false
      numbered pl e = rw (lt-ltb a (A pl) (active_there pl e a active))

      pub drop_flag : flag_at row b ≡ true → Visits h (of_drop a) b (Refused FlagUp) b
      drop_flag f =
          record {
            acts = λ pl e. refuses pl (drop a) b FlagUp
                (λ s rest g k. later (write_right pl s rest b k phase) (later (numbered pl e)
                (here (flag_tells pl s rest b k (active_in a) (active_there pl e a active) row
                (at ∙ active_in_row_lem pl e a) f))));
          }

      module _ (down : flag_at row b ≡ false) where
        pub drop_empty : length_at row b ≡ 0 → Visits h (of_drop a) b (Refused QueueEmpty) b
        drop_empty z =
            record {
              acts = λ pl e. refuses pl (drop a) b QueueEmpty
                  (λ s rest g k. later (write_right pl s rest b k phase) (later (numbered pl e)
                  (later (flag_tells pl s rest b k (active_in a) (active_there pl e a active) row
                  (at ∙ active_in_row_lem pl e a) down)
                  (here (empty_tells pl s rest b k (active_in a) (active_there pl e a active) row
                  (at ∙ active_in_row_lem pl e a) z)))));
            }

        module _ (filled : length_at row b ≡ 0 → ⊥) (x : Packet) (read : x ≡ packet_at (row + 4) b) where
          pub drop_unmarked : unmarked x ≡ true → Visits h (of_drop a) b (Refused Unmarked) b
          drop_unmarked u =
              record {
                acts = λ pl e. refuses pl (drop a) b Unmarked
                    (λ s rest g k.
                    let there = active_there pl e a active in
                    let i = at ∙ active_in_row_lem pl e a in
                    later (write_right pl s rest b k phase) (later (numbered pl e)
                    (later (flag_tells pl s rest b k (active_in a) there row i down)
                    (later (some_tells pl s rest b k (active_in a) there row i filled)
                    (here (unmarked_tells pl s rest b k (active_in a) there row i
                    (has_head pl s rest b k (active_in a) there row i filled) (ap unmarked (sym read) ∙ u)))))));
              }

          pub drops : InRange h → unmarked x ≡ false → (byte : ℕ) → byte ≡ allowance_byte h a → (c d : List ℕ)
              → c ≡ dropped_at row byte b → d ≡ noted_at h x c → Visits h (of_drop a) b Done d
          drops range u byte byted c d made noted =
              record {
                acts = λ pl e.
                    let there = active_there pl e a active in
                    let i = at ∙ active_in_row_lem pl e a in
                    accepts pl (drop a) b
                    (λ s rest g k.
                    later (write_right pl s rest b k phase) (later (numbered pl e)
                    (later (flag_tells pl s rest b k (active_in a) there row i down)
                    (later (some_tells pl s rest b k (active_in a) there row i filled)
                    (later (unmarked_tells pl s rest b k (active_in a) there row i
                    (has_head pl s rest b k (active_in a) there row i filled) (ap unmarked (sym read) ∙ u)) passed)))))
                    (λ s rest g k. refl)
                    (λ s rest g k.
                    let l = has_head pl s rest b k (active_in a) there row i filled in
                    noted
                    ∙ ap₂ (noted_at h) (read ∙ head_is pl s rest b k (active_in a) there row i l)
                    (made ∙ removed_bytes pl s rest b k a there byte (byted ∙ allowance_byte_lem pl e a) row i l
                    (few pl (range_of pl e range) s g (active_in a) there))
                    ∙ noted_bytes pl e (range_of pl e range) (removed a l.behind s) rest l.first
                    (head_ok_lem pl s g (active_in a) there l)
                    ∙ ap (λ (y : List Packet). encode pl (dropped pl a y s) rest) (sym l.line));
              }
