-- Launch's returns behind the tests with which it begins as Close does, in the order of the code: each from the tests
-- that led to it.
use mathlib.Core.Path.{◌≡◌, refl, ap, ◌∙◌}
use mathlib.Core.Bool.{not}
use mathlib.Core.List.{List, [], ◌∷◌}
use mathlib.Core.Option.{Option}
use Prim.Native.Nat.{ℕ, ◌≤◌, ◌<◌}
use native.Mathlib.Omega.{arith}
use lib.Dec.{eqb}
use lib.ListN.{get_or}
use Rattle.kinds.specs.declared.Refusal.{Refusal}
use Rattle.kinds.specs.declared.Refusal.TheVariants.{NoAllowance, QueueFull}
use Rattle.packets.specs.declared.Answer.TheVariants.{Refused, Done}
use Rattle.plan.specs.declared.Head.{Head}
use Rattle.plan.specs.Head.{InRange}
use Rattle.plan.specs.Plan.{Plan}
use Rattle.load_arrivals.specs.Pairs.{lengths_of}
use Rattle.plan_queues.specs.Queue.{active_out}
use Rattle.rules.specs.State.{State}
use Rattle.rules.specs.Execute.{has_room}
use Rattle.rules.specs.Guards.{guard}
use Rattle.rules.specs.Calls.{of_launch, launch, guards}
use Rattle.bytes_layout.specs.Encode.{encode}
use Rattle.bytes_layout.specs.Decode.{length_at}
use Rattle.call_common.specs.Visits.{Walked, active_out_row, allowance_byte}
use Rattle.call_common.proofs.Rows.{active_out_row_lem, allowance_byte_lem, active_there}
use Rattle.call_common.proofs.Refuse.{Finds, passed, here, later, refuses, accepts}
use Rattle.call_common.proofs.Tests.{queued, full_tells, room_tells, none_tells, left_tells}
use Rattle.call_common.specs.Pairs.{Begins, Opened}
use Rattle.call_common.proofs.Pairs.{opened}
use Rattle.call_launch.specs.Launching.{launched_at}
use Rattle.call_launch.proofs.Steps.{launched_bytes}

-- '11 allowance 0; 12 out-queue full'
abbrev pub launch_begins : (a p t : ℕ) → Begins (of_launch a p t) a p t
launch_begins a p t =
    record {
      more = λ pl s.
          guard NoAllowance (eqb (s.flow.allowance a) 0)
          ∷ guard QueueFull (not (has_room pl (active_out a) s))
          ∷ [];
      begins = λ pl s. refl;
    }

module _ {h : Head} {lengths : List (List ℕ)} {b : List ℕ} {a p t n : ℕ} (o : Opened h lengths b a p t n)
    (range : InRange h) (byte : ℕ) (byted : byte ≡ allowance_byte h a) where
  opens : (pl : Plan) → pl.head ≡ h → lengths ≡ lengths_of pl → (s : State) (rest : List ℕ) → b ≡ encode pl s rest
      → {w : Option Refusal} → Finds ((launch_begins a p t).more pl s) w → Finds (guards pl (launch a p t) s) w
  opens =
      opened (launch_begins a p t) h lengths b o.phase o.active o.passive o.slot range
      (λ z. o.some_walk (o.walk ∙ z))

  pub launch_allowance : get_or b byte 0 ≡ 0 → Walked h lengths (of_launch a p t) b (Refused NoAllowance) b
  launch_allowance z =
      record {
        acts = λ pl e w. refuses pl (launch a p t) b NoAllowance
            (λ s rest g k. opens pl e w s rest k
            (here (none_tells pl s rest b k a (active_there pl e a o.active) byte (byted ∙ allowance_byte_lem pl e a)
            z)));
      }

  module _ (left : get_or b byte 0 ≡ 0 → ⊥) (row : ℕ) (at : row ≡ active_out_row a) where
    pub launch_full : h.aout.0 ≤ length_at row b → Walked h lengths (of_launch a p t) b (Refused QueueFull) b
    launch_full l =
        record {
          acts = λ pl e w. refuses pl (launch a p t) b QueueFull
              (λ s rest g k. opens pl e w s rest k
              (later (left_tells pl s rest b k a (active_there pl e a o.active) byte (byted ∙ allowance_byte_lem pl e a)
              left)
              (here (full_tells pl s rest b k (active_out a) (active_there pl e a o.active) row
              (at ∙ active_out_row_lem pl e a) (let m = ap (λ (x : Head). x.aout.0) e in omega arith)))));
        }

    pub launched : length_at row b < h.aout.0 → (d : List ℕ) → d ≡ launched_at row byte a p t b
        → Walked h lengths (of_launch a p t) b Done d
    launched l d made =
        record {
          acts = λ pl e w.
              let m = ap (λ (x : Head). x.aout.0) e in
              let few = range.aout.1 in
              accepts pl (launch a p t) b
              (λ s rest g k. opens pl e w s rest k
              (later (left_tells pl s rest b k a (active_there pl e a o.active) byte (byted ∙ allowance_byte_lem pl e a)
              left)
              (later (room_tells pl s rest b k (active_out a) (active_there pl e a o.active) row
              (at ∙ active_out_row_lem pl e a) (omega arith)) passed)))
              (λ s rest g k. refl)
              (λ s rest g k. made
              ∙ launched_bytes pl s rest b k a (active_there pl e a o.active) byte
              (byted ∙ allowance_byte_lem pl e a) p t
              row
              (at ∙ active_out_row_lem pl e a)
              (let q = queued pl s rest b k (active_out a) (active_there pl e a o.active) row
              (at ∙ active_out_row_lem pl e a) in omega arith));
        }
