-- Close's returns behind the tests with which it begins as Launch does, in the order of the code: each from the tests
-- that led to it.
use mathlib.Core.Path.{◌≡◌, refl, ap, ◌∙◌}
use mathlib.Core.Bool.{true, false, not}
use mathlib.Core.List.{List, [], ◌∷◌}
use mathlib.Core.Option.{Option}
use Prim.Native.Nat.{ℕ, ◌≤◌, ◌<◌}
use native.Mathlib.Omega.{arith}
use Rattle.sets.specs.Sets.{has}
use Rattle.kinds.specs.declared.Refusal.{Refusal}
use Rattle.kinds.specs.declared.Refusal.TheVariants.{QueueFull, NotAccepted}
use Rattle.packets.specs.declared.Answer.TheVariants.{Refused, Done}
use Rattle.plan.specs.declared.Head.{Head}
use Rattle.plan.specs.Head.{InRange}
use Rattle.plan.specs.Plan.{Plan}
use Rattle.load_arrivals.specs.Pairs.{lengths_of}
use Rattle.plan_queues.specs.Queue.{active_out}
use Rattle.rules.specs.State.{State}
use Rattle.rules.specs.Execute.{has_room}
use Rattle.rules.specs.Guards.{guard}
use Rattle.rules.specs.Calls.{of_close, close, guards}
use Rattle.bytes_layout.specs.Encode.{encode}
use Rattle.bytes_layout.specs.Decode.{length_at, four_at}
use Rattle.call_common.specs.Visits.{Walked, active_out_row, starts_byte}
use Rattle.call_common.proofs.Rows.{active_out_row_lem, starts_byte_lem, active_there, passive_there, range_of}
use Rattle.call_common.proofs.Rows.{passive_few}
use Rattle.call_common.proofs.Rows.{slot_few}
use Rattle.call_common.proofs.Refuse.{Finds, passed, here, later, refuses, accepts}
use Rattle.call_common.proofs.Tests.{queued, full_tells, room_tells, accepted_tells}
use Rattle.call_common.proofs.Served.{walk_span}
use Rattle.call_common.specs.Pairs.{Begins, Opened}
use Rattle.call_common.proofs.Pairs.{opened}
use Rattle.call_close.specs.Closing.{closed_at}
use Rattle.call_close.proofs.Steps.{closed_bytes}

-- 'then 16 for a connection not accepted, then 12'
abbrev pub close_begins : (a p t : ℕ) → Begins (of_close a p t) a p t
close_begins a p t =
    record {
      more = λ pl s.
          guard NotAccepted (not (s.connections a p t))
          ∷ guard QueueFull (not (has_room pl (active_out a) s))
          ∷ [];
      begins = λ pl s. refl;
    }

module _ {h : Head} {lengths : List (List ℕ)} {b : List ℕ} {a p t n : ℕ} (o : Opened h lengths b a p t n)
    (range : InRange h) (at : ℕ) (starts : at ≡ starts_byte h a p) where
  opens : (pl : Plan) → pl.head ≡ h → lengths ≡ lengths_of pl → (s : State) (rest : List ℕ) → b ≡ encode pl s rest
      → {w : Option Refusal} → Finds ((close_begins a p t).more pl s) w → Finds (guards pl (close a p t) s) w
  opens =
      opened (close_begins a p t) h lengths b o.phase o.active o.passive o.slot range
      (λ z. o.some_walk (o.walk ∙ z))

  kept : (pl : Plan) → pl.head ≡ h → (s : State) (rest : List ℕ) → b ≡ encode pl s rest
      → s.connections a p t ≡ has (four_at at b) t
  kept pl e s rest k =
      accepted_tells pl s rest b k a p t (active_there pl e a o.active) (passive_few p range o.passive)
      (slot_few t range o.slot) at (starts ∙ starts_byte_lem pl e a p) refl

  pub close_unaccepted : has (four_at at b) t ≡ false → Walked h lengths (of_close a p t) b (Refused NotAccepted) b
  close_unaccepted f =
      record {
        acts = λ pl e w. refuses pl (close a p t) b NotAccepted
            (λ s rest g k. opens pl e w s rest k (here (ap not (kept pl e s rest k ∙ f))));
      }

  module _ (accepted : has (four_at at b) t ≡ true) (row : ℕ) (out : row ≡ active_out_row a) where
    pub close_full : h.aout.0 ≤ length_at row b → Walked h lengths (of_close a p t) b (Refused QueueFull) b
    close_full l =
        record {
          acts = λ pl e w. refuses pl (close a p t) b QueueFull
              (λ s rest g k. opens pl e w s rest k (later (ap not (kept pl e s rest k ∙ accepted))
              (here (full_tells pl s rest b k (active_out a) (active_there pl e a o.active) row
              (out ∙ active_out_row_lem pl e a) (let m = ap (λ (x : Head). x.aout.0) e in omega arith)))));
        }

    pub closes : length_at row b < h.aout.0 → (d : List ℕ) → d ≡ closed_at row at a p t n b
        → Walked h lengths (of_close a p t) b Done d
    closes l d made =
        record {
          acts = λ pl e w.
              let m = ap (λ (x : Head). x.aout.0) e in
              let few = range.aout.1 in
              let la = active_there pl e a o.active in
              let i = out ∙ active_out_row_lem pl e a in
              accepts pl (close a p t) b
              (λ s rest g k. opens pl e w s rest k (later (ap not (kept pl e s rest k ∙ accepted))
              (later (room_tells pl s rest b k (active_out a) la row i (omega arith)) passed)))
              (λ s rest g k. refl)
              (λ s rest g k. made ∙ closed_bytes pl s rest b k a p t n la
              (passive_few p range o.passive) (slot_few t range o.slot)
              (o.walk ∙ walk_span pl (range_of pl e range) a p lengths w la (passive_there pl e p o.passive)
              (λ z. o.some_walk (o.walk ∙ z))) row at i (starts ∙ starts_byte_lem pl e a p)
              (let q = queued pl s rest b k (active_out a) la row i in omega arith));
        }
