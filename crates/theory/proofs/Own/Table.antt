-- Where every queue and wire is empty, the table is the one that the accepted connections make.
use mathlib.Core.Path.{◌≡◌, refl, sym, ap, ◌∙◌}
use mathlib.Core.List.{List}
use mathlib.Core.Option.{Option, none, some}
use Prim.Native.Nat.{ℕ, ◌<◌}
use native.Mathlib.Omega.{arith}
use Rattle.basis.specs.Among.{In}
use Rattle.packets.specs.declared.Wire.{Wire}
use Rattle.packets.specs.declared.Wire.TheVariants.{Empty, Full}
use Rattle.packets.specs.declared.Entry.TheVariants.{Free}
use Rattle.plan.specs.Plan.{Plan, R, S}
use Rattle.plan_queues.specs.Queue.{queue_at, queues}
use Rattle.plan_queues.specs.Feeds.{Output}
use Rattle.plan_facts.specs.Wired.{Wired}
use Rattle.rules.specs.Outputs.{outputs, output_at}
use Rattle.rules.specs.State.{State}
use Rattle.rules.specs.Connections.{Connection, Makes, MadeBy}
use Rattle.rules.specs.Progress.{Quiet}
use Rattle.rules.specs.Valid.{Drives}
use Rattle.theory.specs.Invariant.{Core}
use Rattle.theory.proofs.Core.{full_wire}
use Rattle.rules.proofs.Numbers.{exists_at}
use Rattle.rules.proofs.OutNumbers.{drives_at}
use Rattle.theory.proofs.Ground.Sums.{sum_nought}
use Rattle.theory.specs.Weights.{Weight, in_line, on_wire, in_lines, in_wires, weighed}
use Rattle.theory.specs.Owners.{Holder, owns, held_entry, holds, Owned}
use Rattle.theory.proofs.Own.Owning.{holder_same}
use Rattle.theory.proofs.Own.Made.{made_some, owns_makes, owned_booked}

-- ---- an empty network
-- Where every wire that there is is empty, every output's is.
pub quiet_wires : (pl : Plan) (s : State) → Core pl s → Quiet pl s → (o : Output) → Drives pl o
    → s.links.wire o ≡ Empty
quiet_wires pl s c q o d = by (s.links.wire o) refl
  where
    by : (w : Wire) → s.links.wire o ≡ w → w ≡ Empty
    by Empty e = refl
    by (Full x) e = sym e ∙ q.wires o (full_wire pl s c o d x e)

-- Where every queue and wire is empty, every weight is 0.
pub quiet_weighed : (pl : Plan) (w : Weight) (s : State) → Core pl s → Quiet pl s → weighed pl w s ≡ 0
unfolding weighed in_lines in_wires in_line on_wire
quiet_weighed pl w s c q =
    let lines = sum_nought (queues pl)
    (λ n. in_line w (queue_at pl n) (s.lines.handled (queue_at pl n)) (s.lines.queue (queue_at pl n)))
    (λ n l. ap (in_line w (queue_at pl n) (s.lines.handled (queue_at pl n)))
    (q.queues (queue_at pl n) (exists_at pl n l))) in
    let wires = sum_nought (outputs pl) (λ n. on_wire pl w (output_at pl n) (s.links.wire (output_at pl n)))
    (λ n l. ap (on_wire pl w (output_at pl n)) (quiet_wires pl s c q (output_at pl n) (drives_at pl n l))) in
    omega arith

-- In an owned state with every queue and wire empty, the table is the one that the accepted connections make.
pub owned_table : {pl : Plan} → Wired pl → {acc : List Connection} (s : State) → Core pl s → Owned pl acc s
    → Quiet pl s → MadeBy pl acc s.table
owned_table {pl} wired {acc} s core k q = record { made = owned_booked wired s k; else_free = free' }
  where
    free' : (r o t : ℕ) → r < R pl → o < 4 → t < S pl → ((c : Connection) (i : ℕ) → In c acc → Makes pl c r o t i → ⊥)
        → s.table r o t ≡ Free
    free' r o t hr ho ht no-maker = by (k.holders r o t) refl
      where
        by : (m : Option Holder) → k.holders r o t ≡ m → s.table r o t ≡ Free
        by none e = k.entries r o t hr ho ht ∙ ap held_entry e
        by (some v) e =
            let none = quiet_weighed pl (owns pl r o t v) s core q in
            let sum = k.owners r o t hr ho ht v in
            let one : holds (k.holders r o t) v ≡ 1 = rw (e, holder_same v) in
            let d = made_some pl r o t v acc (omega arith) in
            absurd (no-maker d.0 v.side d.1
            (owns_makes wired d.0 (k.agreed d.0 d.1) r o t v d.2))
