-- Launch and Close begin alike: 8 not READ, 9 a number out of range, 10 pair not served. Their returns up to there,
-- each from the tests that led to it, and what the tests behind find once these are passed.
use mathlib.Core.Path.{◌≡◌, sym, ap, subst}
use mathlib.Core.Bool.{false, not, ◌&&◌}
use mathlib.Core.List.{List, []}
use mathlib.Core.Option.{Option, some}
use Prim.Native.Nat.{ℕ, ◌≤◌, ◌<◌}
use lib.Dec.{ltb}
use lib.ListN.{get_or}
use borrow.Author.Tests.{lt-ltb, le-ltb}
use Rattle.kinds.specs.declared.Refusal.{Refusal}
use Rattle.kinds.specs.declared.Refusal.TheVariants.{WrongPhase, BadNumber, NotServed}
use Rattle.packets.specs.declared.Answer.TheVariants.{Refused}
use Rattle.plan.specs.declared.Head.{Head}
use Rattle.plan.specs.Head.{InRange}
use Rattle.plan.specs.Plan.{Plan, A, P, S}
use Rattle.load_arrivals.specs.Pairs.{lengths_of}
use Rattle.rules.specs.State.{State}
use Rattle.rules.specs.Guards.{Guard}
use Rattle.rules.specs.Calls.{Visit, visit, guards}
use Rattle.bytes_layout.specs.Encode.{encode}
use Rattle.call_common.specs.Visits.{Walked}
use Rattle.call_common.specs.Pairs.{opening, Begins}
use Rattle.call_common.proofs.Rows.{active_there, active_past, passive_there, passive_past, slot_there, slot_past}
use Rattle.call_common.proofs.Rows.{range_of}
use Rattle.call_common.proofs.Refuse.{Finds, here, later, Each, refuses}
use Rattle.call_common.proofs.Tests.{read_wrong, read_right}
use Rattle.call_common.proofs.Served.{not_served, is_served}

module _ {v : Visit} {a p t : ℕ} (of : Begins v a p t) (h : Head) (lengths : List (List ℕ)) (b : List ℕ) where
  finds : (pl : Plan) (s : State) {o : Option Refusal} → Finds (opening pl a p t s (of.more pl s)) o
      → Finds (guards pl (visit v) s) o
  finds pl s {o} f = subst (λ (gs : List Guard). Finds gs o) (sym (of.begins pl s)) f

  refused : (w : Refusal)
      → ((pl : Plan) → pl.head ≡ h → lengths ≡ lengths_of pl
      → Each pl (visit v) b (λ s rest. Finds (opening pl a p t s (of.more pl s)) (some w)))
      → Walked h lengths v b (Refused w) b
  refused w f =
      record { acts = λ pl e l. refuses pl (visit v) b w (λ s rest g k. finds pl s (f pl e l s rest g k)) }

  pub phase_refused : (get_or b 0 0 ≡ 0 → ⊥) → Walked h lengths v b (Refused WrongPhase) b
  phase_refused n = refused WrongPhase (λ pl e l s rest g k. here (read_wrong pl s rest b k n))

  module _ (phase : get_or b 0 0 ≡ 0) where
    pub active_refused : h.actives ≤ a → Walked h lengths v b (Refused BadNumber) b
    active_refused m =
        refused BadNumber
        (λ pl e l s rest g k. later (read_right pl s rest b k phase)
        (here (rw (le-ltb a (A pl) (active_past pl e a m)))))

    module _ (active : a < h.actives) where
      pub passive_refused : h.passives ≤ p → Walked h lengths v b (Refused BadNumber) b
      passive_refused m =
          refused BadNumber
          (λ pl e l s rest g k. later (read_right pl s rest b k phase)
          (here (rw (lt-ltb a (A pl) (active_there pl e a active), le-ltb p (P pl) (passive_past pl e p m)))))

      module _ (passive : p < h.passives) where
        pub slot_refused : h.slots ≤ t → Walked h lengths v b (Refused BadNumber) b
        slot_refused m =
            refused BadNumber
            (λ pl e l s rest g k. later (read_right pl s rest b k phase)
            (here (rw (
              lt-ltb a (A pl) (active_there pl e a active),
              lt-ltb p (P pl) (passive_there pl e p passive),
              le-ltb t (S pl) (slot_past pl e t m),
            ))))

        module _ (slot : t < h.slots) (range : InRange h) where
          numbers : (pl : Plan) → pl.head ≡ h → not (ltb a (A pl) && ltb p (P pl) && ltb t (S pl)) ≡ false
          numbers pl e =
              rw (
                lt-ltb a (A pl) (active_there pl e a active),
                lt-ltb p (P pl) (passive_there pl e p passive),
                lt-ltb t (S pl) (slot_there pl e t slot),
              )

          pub pair_refused : get_or (get_or lengths a []) p 0 ≡ 0 → Walked h lengths v b (Refused NotServed) b
          pair_refused z =
              refused NotServed
              (λ pl e l s rest g k. later (read_right pl s rest b k phase) (later (numbers pl e)
              (here (ap not (not_served pl (range_of pl e range) a p lengths l (active_there pl e a active)
              (passive_there pl e p passive) z)))))

          -- passed: what the tests behind find, the call finds
          pub opened : (get_or (get_or lengths a []) p 0 ≡ 0 → ⊥) → (pl : Plan) → pl.head ≡ h → lengths ≡ lengths_of pl
              → (s : State) (rest : List ℕ) → b ≡ encode pl s rest → {o : Option Refusal} → Finds (of.more pl s) o
              → Finds (guards pl (visit v) s) o
          opened n pl e l s rest k f =
              finds pl s (later (read_right pl s rest b k phase) (later (numbers pl e)
              (later (ap not (is_served pl (range_of pl e range) a p lengths l (active_there pl e a active)
              (passive_there pl e p passive) n)) f)))
