-- The test of what outputs remember decides what Valid says of it.
use mathlib.Core.Path.{◌≡◌, refl}
use mathlib.Core.Bool.{Bool, true, false, true≢false}
use Prim.Native.Nat.{ℕ, ◌-◌, ◌≤◌, ◌<◌}
use lib.Dec.{ltb, eqb}
use lib.ListN.{length}
use native.Mathlib.Omega.{arith}
use Rattle.basis.specs.Choice.{pick}
use Rattle.plan.specs.Plan.{Plan}
use Rattle.plan_queues.specs.Feeds.{Output, of_active, of_passive, of_side, to_unit, from_unit}
use Rattle.rules.specs.Outputs.{senders, last_in_order}
use Rattle.rules.specs.State.{State}
use Rattle.rules.specs.Valid.{Drives, Turns}
use Rattle.valid.specs.Test.{has_wire, turn_test, turns_test}
use Rattle.valid.proofs.Decides.{Decides, like, less, same}
use Rattle.valid.proofs.Parts.{every_output_lem}

-- a rank below n, and the last one where there is no wire
rank_decides : (w : Bool) (k n : ℕ) → 1 ≤ n
    → Decides (pick w (ltb k n) (eqb k (n - 1))) ((k < n) × (w ≡ false → k ≡ n - 1))
rank_decides true k n h = like (less k n) (λ l. (l, λ e. absurd (true≢false e))) (λ f. f.0)
rank_decides false k n h = like (same k (n - 1)) (λ e. (omega arith, λ _. e)) (λ f. f.1 refl)

-- every output has senders
some_sender : (o : Output) → 1 ≤ length (senders o)
some_sender (of_active a) = omega arith
some_sender (of_passive p) = omega arith
some_sender (of_side r o) = omega arith
some_sender (to_unit r) = omega arith
some_sender (from_unit r) = omega arith

module _ (pl : Plan) (s : State) where
  -- what is said of one output
  abbrev Remembers : Output → Type 0
  Remembers o = (s.last_sender o < length (senders o)) × (has_wire pl o ≡ false → s.last_sender o ≡ last_in_order o)

  -- only a side can be without a wire
  remembers : Turns pl s → (o : Output) → Drives pl o → Remembers o
  remembers t (of_active a) h = (t.ranks (of_active a) h, λ e. absurd (true≢false e))
  remembers t (of_passive p) h = (t.ranks (of_passive p) h, λ e. absurd (true≢false e))
  remembers t (of_side r o) h = (t.ranks (of_side r o) h, λ e. t.unjoined r o h.0 h.1 e)
  remembers t (to_unit r) h = (t.ranks (to_unit r) h, λ e. absurd (true≢false e))
  remembers t (from_unit r) h = (t.ranks (from_unit r) h, λ e. absurd (true≢false e))

  pub turns_decide : Decides (turns_test pl s) (Turns pl s)
  unfolding turns_test
  turns_decide =
      like
      (every_output_lem pl (λ o. turn_test pl o (s.last_sender o)) Remembers
      (λ o h. rank_decides (has_wire pl o) (s.last_sender o) (length (senders o)) (some_sender o)))
      (λ f. record { ranks = λ o h. (f o h).0; unjoined = λ r o h k e. (f (of_side r o) (h, k)).1 e })
      remembers
