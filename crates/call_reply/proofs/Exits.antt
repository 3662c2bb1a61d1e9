-- Reply's returns, in the order of the code: each from the tests that led to it.
use mathlib.Core.Path.{◌≡◌, refl, ap, ◌∙◌}
use mathlib.Core.Bool.{true, false, not, ◌&&◌}
use mathlib.Core.List.{List}
use Prim.Native.Nat.{ℕ, ◌≤◌, ◌<◌}
use native.Mathlib.Omega.{arith}
use lib.Dec.{ltb, leb}
use lib.ListN.{get_or}
use borrow.Author.Tests.{lt-ltb, le-ltb, le-leb, lt-leb}
use Rattle.kinds.specs.declared.Refusal.TheVariants.{WrongPhase, BadNumber, QueueFull, QueueEmpty, FlagUp}
use Rattle.packets.specs.declared.Answer.TheVariants.{Refused, Done}
use Rattle.plan.specs.declared.Head.{Head}
use Rattle.plan.specs.Head.{InRange}
use Rattle.plan.specs.Plan.{Plan, P}
use Rattle.plan_queues.specs.Queue.{passive_in, passive_out}
use Rattle.rules.specs.Calls.{of_reply, reply}
use Rattle.bytes_layout.specs.Decode.{flag_at, length_at}
use Rattle.call_common.specs.Visits.{Visits, passive_out_row, passive_in_row}
use Rattle.call_common.proofs.Rows.{passive_out_row_lem, passive_in_row_lem, passive_there, passive_past, range_of}
use Rattle.call_common.proofs.Refuse.{passed, here, later, refuses, accepts}
use Rattle.call_common.proofs.Tests.{write_wrong, write_right, queued, flag_tells, empty_tells, some_tells, full_tells}
use Rattle.call_common.proofs.Tests.{room_tells, has_head}
use Rattle.call_common.proofs.Steps.{few}
use Rattle.call_reply.specs.Replying.{replied_at}
use Rattle.call_reply.proofs.Steps.{replied_bytes}

module _ (h : Head) (b : List ℕ) (p c : ℕ) where
  pub reply_phase : (get_or b 0 0 ≡ 2 → ⊥) → Visits h (of_reply p c) b (Refused WrongPhase) b
  reply_phase n =
      record {
        acts = λ pl e. refuses pl (reply p c) b WrongPhase (λ s rest g k. here (write_wrong pl s rest b k n));
      }

  module _ (phase : get_or b 0 0 ≡ 2) where
    pub reply_passive : h.passives ≤ p → Visits h (of_reply p c) b (Refused BadNumber) b
    reply_passive l =
        record {
          acts = λ pl e. refuses pl (reply p c) b BadNumber
              (λ s rest g k. later (write_right pl s rest b k phase)
              (here (rw (le-ltb p (P pl) (passive_past pl e p l)))));
        }

    module _ (passive : p < h.passives) where
      pub reply_choice : 1 < c → Visits h (of_reply p c) b (Refused BadNumber) b
      reply_choice l =
          record {
            acts = λ pl e. refuses pl (reply p c) b BadNumber
                (λ s rest g k. later (write_right pl s rest b k phase)
                (here (rw (lt-ltb p (P pl) (passive_there pl e p passive), lt-leb c 1 l))));
          }

      module _ (choice : c ≤ 1) (from : ℕ) (out : from ≡ passive_in_row h p) where
        chosen : (pl : Plan) → pl.head ≡ h → not (ltb p (P pl) && leb c 1) ≡ false
        chosen pl e = rw (lt-ltb p (P pl) (passive_there pl e p passive), le-leb c 1 choice)

        pub reply_flag : flag_at from b ≡ true → Visits h (of_reply p c) b (Refused FlagUp) b
        reply_flag f =
            record {
              acts = λ pl e. refuses pl (reply p c) b FlagUp
                  (λ s rest g k. later (write_right pl s rest b k phase) (later (chosen pl e)
                  (here (flag_tells pl s rest b k (passive_in p) (passive_there pl e p passive) from
                  (out ∙ passive_in_row_lem pl e p) f))));
            }

        module _ (down : flag_at from b ≡ false) where
          pub reply_empty : length_at from b ≡ 0 → Visits h (of_reply p c) b (Refused QueueEmpty) b
          reply_empty z =
              record {
                acts = λ pl e. refuses pl (reply p c) b QueueEmpty
                    (λ s rest g k. later (write_right pl s rest b k phase) (later (chosen pl e)
                    (later (flag_tells pl s rest b k (passive_in p) (passive_there pl e p passive) from
                    (out ∙ passive_in_row_lem pl e p) down)
                    (here (empty_tells pl s rest b k (passive_in p) (passive_there pl e p passive) from
                    (out ∙ passive_in_row_lem pl e p) z)))));
              }

          module _ (filled : length_at from b ≡ 0 → ⊥) (to : ℕ) (into : to ≡ passive_out_row h p) where
            pub reply_full : h.pout.0 ≤ length_at to b → Visits h (of_reply p c) b (Refused QueueFull) b
            reply_full l =
                record {
                  acts = λ pl e. refuses pl (reply p c) b QueueFull
                      (λ s rest g k.
                      let there = passive_there pl e p passive in
                      let i = out ∙ passive_in_row_lem pl e p in
                      let m = ap (λ (x : Head). x.pout.0) e in
                      later (write_right pl s rest b k phase) (later (chosen pl e)
                      (later (flag_tells pl s rest b k (passive_in p) there from i down)
                      (later (some_tells pl s rest b k (passive_in p) there from i filled)
                      (here (full_tells pl s rest b k (passive_out p) there to (into ∙ passive_out_row_lem pl e p)
                      (omega arith)))))));
                }

            pub replies : InRange h → length_at to b < h.pout.0 → (d : List ℕ) → d ≡ replied_at from to c b
                → Visits h (of_reply p c) b Done d
            replies range l d made =
                record {
                  acts = λ pl e.
                      let there = passive_there pl e p passive in
                      let i = out ∙ passive_in_row_lem pl e p in
                      let j = into ∙ passive_out_row_lem pl e p in
                      let m = ap (λ (x : Head). x.pout.0) e in
                      let seven = range.pout.1 in
                      accepts pl (reply p c) b
                      (λ s rest g k.
                      later (write_right pl s rest b k phase) (later (chosen pl e)
                      (later (flag_tells pl s rest b k (passive_in p) there from i down)
                      (later (some_tells pl s rest b k (passive_in p) there from i filled)
                      (later (room_tells pl s rest b k (passive_out p) there to j (omega arith)) passed)))))
                      (λ s rest g k. refl)
                      (λ s rest g k.
                      made
                      ∙ replied_bytes pl s rest b k p there from to i j
                      (has_head pl s rest b k (passive_in p) there from i filled)
                      (few pl (range_of pl e range) s g (passive_in p) there) c
                      (let q = queued pl s rest b k (passive_out p) there to j in omega arith));
                }
