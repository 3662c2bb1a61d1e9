-- READ: the deliveries, the flags, and the phase.
use mathlib.Core.Path.{◌≡◌, sym, ap, ◌∙◌}
use mathlib.Core.List.{List}
use Prim.Native.Nat.{ℕ, ◌≤◌, ◌<◌, ◌+◌}
use native.Mathlib.Omega.{arith}
use lib.ListN.{set}
use Rattle.basis.specs.Fold.{up_to}
use Rattle.packets.specs.declared.Phase.TheVariants.{Read, Execute}
use Rattle.plan.specs.declared.Head.{Head}
use Rattle.plan.specs.Head.{InRange}
use Rattle.plan.specs.Plan.{Plan}
use Rattle.plan_queues.specs.Queue.{queues}
use Rattle.plan_facts.specs.Wired.{Wired}
use Rattle.rules.specs.Outputs.{outputs}
use Rattle.rules.specs.State.{State, with_phase}
use Rattle.rules.specs.Read.{do_read}
use Rattle.theory.specs.Invariant.{Core}
use Rattle.theory.proofs.Keeps.{inv_of}
use Rattle.bytes_layout.specs.Codes.{phase_code}
use Rattle.bytes_layout.specs.Encode.{encode}
use Rattle.bytes_layout.proofs.Updates.{put_phase}
use Rattle.bytes_steps.specs.Acts.{Holds, Steps, In, steps_more, holds_then, holds_less}
use Rattle.bytes_steps.specs.Counts.{queue_count, output_count}
use Rattle.phase_read.specs.Reading.{delivery, settling, Arriving, Whole, SettlesTo}
use Rattle.phase_read.proofs.Offsets.{outputs_of, queues_of}
use Rattle.phase_read.proofs.Arrivals.{arriving, delivered_core}

module _ {pl : Plan} {h : Head} (e : pl.head ≡ h) (range : InRange h) (wired : Wired pl) where
  -- ---- the deliveries
  module _ {m : ℕ} (l : m < output_count h) {b c : List ℕ} (x : Steps pl (Core pl) (up_to (delivery pl) m) b c) where
    core_then : (s : State) → Core pl s → Arriving pl m (up_to (delivery pl) m s)
    core_then s k =
        let o = outputs_of pl e in
        arriving wired (rw e range) m (up_to (delivery pl) m s) (omega arith)
        (delivered_core wired (rw e range) m (omega arith) s k)

    -- the bytes at a turn
    pub delivers_at : Holds pl (Core pl) b → Holds pl (Arriving pl m) c
    delivers_at g = holds_then pl g x core_then

    -- a turn
    pub delivers_more : {d u : List ℕ} → Steps pl (Arriving pl m) (delivery pl m) c d → u ≡ d
        → Steps pl (Core pl) (up_to (delivery pl) (m + 1)) b u
    delivers_more y q =
        steps_more pl (delivery pl) m x core_then (record { done = λ s rest a f. q ∙ y.done s rest a f })

  -- ---- the phase
  -- a state in a phase is whole
  pub whole_of : {b : List ℕ} → Holds pl (In pl Read) b → Holds pl (Core pl) b
  whole_of g = holds_less pl (λ s i. (inv_of pl s i.good).core) g

  module _ {b c : List ℕ} (x : Steps pl (Core pl) (up_to (delivery pl) (output_count h)) b c) where
    core_after : (s : State) → Core pl s → Core pl (up_to (delivery pl) (output_count h) s)
    core_after s k = let o = outputs_of pl e in delivered_core wired (rw e range) (output_count h) (omega arith) s k

    -- the bytes after the deliveries
    pub whole_then : Holds pl (In pl Read) b → Whole (queue_count h) c
    whole_then g =
        let q = queues_of pl e in
        record {
          plan = pl;
          range = rw e range;
          wired = wired;
          has = omega arith;
          holds = holds_then pl (whole_of g) x core_after;
        }

    -- the bytes after READ
    pub read_done : {d : List ℕ} {v : ℕ} → SettlesTo (queue_count h) c d → v ≡ phase_code Execute
        → Steps pl (In pl Read) (do_read pl) b (set d 0 v)
    unfolding do_read
    read_done {d} y f =
        record { done = λ s rest i q. ap (set d 0) f ∙ by s rest (inv_of pl s i.good).core q }
      where
        turned : (n m : ℕ) (s : State) → n ≡ queues pl → m ≡ outputs pl
            → with_phase Execute (up_to (settling pl) n (up_to (delivery pl) m s)) ≡ do_read pl s
        turned n m s f g =
            ap (λ (k : ℕ). with_phase Execute (up_to (settling pl) k (up_to (delivery pl) m s))) f
            ∙ ap (λ (k : ℕ). with_phase Execute (up_to (settling pl) (queues pl) (up_to (delivery pl) k s))) g

        by : (s : State) (rest : List ℕ) → Core pl s → b ≡ encode pl s rest
            → set d 0 (phase_code Execute) ≡ encode pl (do_read pl s) rest
        by s rest k q =
            let n = queues_of pl e in
            let few : queue_count h ≤ queues pl = omega arith in
            ap (λ (z : List ℕ). set z 0 (phase_code Execute))
            ((y.steps pl (rw e range) wired few).done (up_to (delivery pl) (output_count h) s) rest (core_after s k)
            (x.done s rest k q))
            ∙ put_phase pl (up_to (settling pl) (queue_count h) (up_to (delivery pl) (output_count h) s)) rest Execute
            ∙ ap (λ (t : State). encode pl t rest)
            (turned (queue_count h) (output_count h) s (sym (queues_of pl e)) (sym (outputs_of pl e)))
