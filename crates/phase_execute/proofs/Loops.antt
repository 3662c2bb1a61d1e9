-- The whole phase.
use mathlib.Core.Path.{◌≡◌, ap, ◌∙◌}
use mathlib.Core.List.{List}
use Prim.Native.Nat.{ℕ, ◌<◌, ◌*◌}
use native.Mathlib.Omega.{arith}
use lib.ListN.{length, set}
use Rattle.basis.specs.Fold.{up_to}
use Rattle.packets.specs.declared.Phase.TheVariants.{Execute, Write}
use Rattle.plan.specs.declared.Head.{Head}
use Rattle.plan.specs.Plan.{Plan}
use Rattle.plan.specs.Tables.{table_plan}
use Rattle.rules.specs.State.{State}
use Rattle.rules.specs.Execute.{unit_at, undo, do_execute}
use Rattle.theory.specs.Invariant.{Core}
use Rattle.bytes_layout.specs.Offsets.{size}
use Rattle.bytes_layout.specs.Encode.{encode}
use Rattle.bytes_layout.proofs.Readings.{length_bytes}
use Rattle.bytes_layout.proofs.Updates.{put_phase}
use Rattle.bytes_steps.specs.Acts.{Holds, Steps, In, steps_less, holds_then, holds_less}
use Rattle.bytes_steps.specs.Counts.{output_count}
use Rattle.next_queue.specs.Wiring.{Wiring}
use Rattle.phase_pick.specs.Moments.{Picks, chooses}
use Rattle.phase_pick.proofs.Tables.{range_of}
use Rattle.phase_pick.proofs.Loops.{after_picks}
use Rattle.phase_execute.specs.Moments.{Turn}
use Rattle.phase_execute.proofs.Turns.{turn_first, picks_first, turns, undone}

module _ {h : Head} {routes : List (List ℕ)} {joints homes : List ℕ} (w : Wiring h routes joints homes) where
  abbrev pl : Plan
  pl = table_plan h routes joints

  pub heads_hold : {b : List ℕ} → Holds pl (In pl Execute) b → Holds pl (Turn pl 0) b
  heads_hold k = holds_less pl (λ s i. turn_first pl s i) k

  after_heads : (s : State) → In pl Execute s → Picks pl 0 (up_to (unit_at pl) (4 * h.routers) s)
  unfolding table_plan
  after_heads s i =
      picks_first pl (4 * h.routers) (up_to (unit_at pl) (4 * h.routers) s)
      (turns w.wired (range_of w) (4 * h.routers) s (omega arith) (turn_first pl s i))

  pub picks_hold : {b c : List ℕ} → Holds pl (In pl Execute) b
      → Steps pl (Turn pl 0) (up_to (unit_at pl) (4 * h.routers)) b c → Holds pl (Picks pl 0) c
  picks_hold k x = holds_then pl k (steps_less pl (λ s i. turn_first pl s i) x) after_heads

  pub undo_hold : {b c d : List ℕ} → Holds pl (In pl Execute) b
      → Steps pl (Turn pl 0) (up_to (unit_at pl) (4 * h.routers)) b c
      → Steps pl (Picks pl 0) (up_to (chooses pl) (output_count h)) c d → Holds pl (Core pl) d
  undo_hold k x y = holds_then pl (picks_hold k x) y (after_picks w)

  pub last_hold : {b c d e : List ℕ} → Holds pl (In pl Execute) b
      → Steps pl (Turn pl 0) (up_to (unit_at pl) (4 * h.routers)) b c
      → Steps pl (Picks pl 0) (up_to (chooses pl) (output_count h)) c d
      → Steps pl (Core pl) (up_to (undo pl) h.actives) d e → Holds pl (Core pl) e
  unfolding table_plan
  last_hold k x y z =
      holds_then pl (undo_hold k x y) z (λ s c. undone w.wired (range_of w) h.actives s (omega arith) c)

  -- the phase byte is there
  pub phase_room : {I : State → Type 0} {b : List ℕ} → Holds pl I b → 0 < length b
  unfolding size
  phase_room {b = b} k = let n = ap length k.same ∙ length_bytes pl k.state k.rest in omega arith

  pub execute_all : {b c d e : List ℕ} → Steps pl (Turn pl 0) (up_to (unit_at pl) (4 * h.routers)) b c
      → Steps pl (Picks pl 0) (up_to (chooses pl) (output_count h)) c d
      → Steps pl (Core pl) (up_to (undo pl) h.actives) d e
      → Steps pl (In pl Execute) (do_execute pl) b (set e 0 2)
  unfolding do_execute table_plan
  execute_all {e = e} x y z =
      record {
        done = λ s rest i k.
            let t : State = up_to (unit_at pl) (4 * h.routers) s in
            let u : State = up_to (chooses pl) (output_count h) t in
            let v : State = up_to (undo pl) h.actives u in
            let p = x.done s rest (turn_first pl s i) k in
            let q = y.done t rest (after_heads s i) p in
            let f : e ≡ encode pl v rest = z.done u rest (after_picks w t (after_heads s i)) q in
            ap (λ (l : List ℕ). set l 0 2) f ∙ put_phase pl v rest Write;
      }
