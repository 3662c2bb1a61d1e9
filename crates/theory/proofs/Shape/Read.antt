-- After READ every wire is empty and every flag is down; choices stay as they were.
use mathlib.Core.Path.{◌≡◌, refl, ap, subst, ◌∙◌}
use mathlib.Core.Logic.{◌⊎◌, inl, inr}
use mathlib.Core.Bool.{Bool, true, false}
use mathlib.Core.Option.{Option, none, some}
use Prim.Native.Nat.{ℕ, suc, ◌<◌}
use native.Mathlib.Nat.{not-suc-le-zero}
use Rattle.basis.specs.Choice.{pick}
use Rattle.basis.specs.Bounded.{below_suc}
use Rattle.basis.specs.Fold.{up_to, up_keeps, up_keeps_at}
use Rattle.packets.specs.declared.Packet.{Packet}
use Rattle.packets.specs.declared.Wire.{Wire}
use Rattle.packets.specs.declared.Wire.TheVariants.{Empty, Full}
use Rattle.plan.specs.Plan.{Plan}
use Rattle.plan_queues.specs.Queue.{Queue, number, queues, queue_at}
use Rattle.plan_queues.specs.Feeds.{Output}
use Rattle.plan_journeys.proofs.Numbers.{queue_at_lem, number_below}
use Rattle.rules.specs.Store.{same_output, same_queue}
use Rattle.rules.specs.Outputs.{next_by, outputs, output_at, output_number}
use Rattle.rules.specs.State.{State, Choice, with_wire, join}
use Rattle.rules.specs.Read.{join_next, arrive, deliver, lower, settle, do_read}
use Rattle.rules.proofs.OutNumbers.{output_at_lem, output_below}
use Rattle.theory.proofs.Ground.Cells.{queue_here, output_here}
use Rattle.theory.specs.Invariant.{WiresEmpty, FlagsDown, NoChoices, Shape, in_execute}

-- ---- one wire: it empties, and no wire fills
next_wire : (y : Option Queue) (x : Packet) (s : State) → (join_next y x s).links.wire ≡ s.links.wire
unfolding join
next_wire none x s = refl
next_wire (some q) x s = refl

next_choice : (y : Option Queue) (x : Packet) (s : State) → (join_next y x s).links.choice ≡ s.links.choice
unfolding join
next_choice none x s = refl
next_choice (some q) x s = refl

-- a choice between what is z and what is z
either : {A : Type 0} (b : Bool) (x y : A) {z : A} → x ≡ z → y ≡ z → pick b x y ≡ z
either true x y e f = e
either false x y e f = f

-- a delivered wire is empty
pub deliver_empties : (pl : Plan) (o : Output) (s : State) → (deliver pl o s).links.wire o ≡ Empty
unfolding deliver arrive
deliver_empties pl o s = by (s.links.wire o) refl
  where
    by : (w : Wire) → s.links.wire o ≡ w → (arrive pl o w s).links.wire o ≡ Empty
    by Empty e = e
    by (Full x) e = ap (λ (m : Output → Wire). m o) (next_wire (next_by pl o x) x (with_wire o Empty s))
        ∙ output_here s.links.wire o Empty

-- and no other fills
pub deliver_fills_none : (pl : Plan) (o : Output) (s : State) (u : Output) → s.links.wire u ≡ Empty
    → (deliver pl o s).links.wire u ≡ Empty
unfolding deliver arrive
deliver_fills_none pl o s u h = by (s.links.wire o)
  where
    by : (w : Wire) → (arrive pl o w s).links.wire u ≡ Empty
    by Empty = h
    by (Full x) = ap (λ (m : Output → Wire). m u) (next_wire (next_by pl o x) x (with_wire o Empty s))
        ∙ either (same_output u o) Empty (s.links.wire u) refl h

-- and choices stay
pub deliver_choice : (pl : Plan) (o : Output) (s : State) → (deliver pl o s).links.choice ≡ s.links.choice
unfolding deliver arrive
deliver_choice pl o s = by (s.links.wire o)
  where
    by : (w : Wire) → (arrive pl o w s).links.choice ≡ s.links.choice
    by Empty = refl
    by (Full x) = next_choice (next_by pl o x) x (with_wire o Empty s)

-- ---- one flag: it is lowered, and none rises
-- wires stay
pub settle_wire : (q : Queue) (s : State) → (settle q s).links.wire ≡ s.links.wire
unfolding settle lower
settle_wire q s = by (s.flow.flag q)
  where
    by : (b : Bool) → (lower q b s).links.wire ≡ s.links.wire
    by true = refl
    by false = refl

-- choices stay
pub settle_choice : (q : Queue) (s : State) → (settle q s).links.choice ≡ s.links.choice
unfolding settle lower
settle_choice q s = by (s.flow.flag q)
  where
    by : (b : Bool) → (lower q b s).links.choice ≡ s.links.choice
    by true = refl
    by false = refl

-- a settled queue's flag is down
pub settle_lowers : (q : Queue) (s : State) → (settle q s).flow.flag q ≡ false
unfolding settle lower
settle_lowers q s = by (s.flow.flag q) refl
  where
    by : (b : Bool) → s.flow.flag q ≡ b → (lower q b s).flow.flag q ≡ false
    by true e = queue_here s.flow.flag q false
    by false e = e

-- and no other rises
pub settle_raises_none : (q : Queue) (s : State) (p : Queue) → s.flow.flag p ≡ false
    → (settle q s).flow.flag p ≡ false
unfolding settle lower
settle_raises_none q s p h = by (s.flow.flag q)
  where
    by : (b : Bool) → (lower q b s).flow.flag p ≡ false
    by true = either (same_queue p q) false (s.flow.flag p) refl h
    by false = h

-- ---- all of them
module _ (pl : Plan) where
  abbrev delivers : ℕ → State → State
  delivers n = deliver pl (output_at pl n)

  abbrev settles : ℕ → State → State
  settles n = settle (queue_at pl n)

  delivered : (s : State) → WiresEmpty pl (up_to delivers (outputs pl) s)
  delivered s o d = subst (λ (u : Output). (up_to delivers (outputs pl) s).links.wire u ≡ Empty) (output_at_lem pl o d)
      (all (output_number pl o) (output_below pl o d))
    where
      step : (i : ℕ) (t : State) → i < outputs pl → ((j : ℕ) → j < i → t.links.wire (output_at pl j) ≡ Empty)
          → (j : ℕ) → j < suc i → (deliver pl (output_at pl i) t).links.wire (output_at pl j) ≡ Empty
      step i t h p j l = by (below_suc l)
        where
          by : (j < i) ⊎ (j ≡ i) → (deliver pl (output_at pl i) t).links.wire (output_at pl j) ≡ Empty
          by (inl m) = deliver_fills_none pl (output_at pl i) t (output_at pl j) (p j m)
          by (inr e) = rw e (deliver_empties pl (output_at pl i) t)

      all : (j : ℕ) → j < outputs pl → (up_to delivers (outputs pl) s).links.wire (output_at pl j) ≡ Empty
      all = up_keeps_at (λ (n : ℕ) (t : State). (j : ℕ) → j < n → t.links.wire (output_at pl j) ≡ Empty) delivers
          (outputs pl) s step (λ j l. absurd (not-suc-le-zero l))

  settled : (s : State) → FlagsDown pl (up_to settles (queues pl) s)
  settled s q h = subst (λ (u : Queue). (up_to settles (queues pl) s).flow.flag u ≡ false) (queue_at_lem pl q h)
      (all (number pl q) (number_below pl q h))
    where
      step : (i : ℕ) (t : State) → i < queues pl → ((j : ℕ) → j < i → t.flow.flag (queue_at pl j) ≡ false) → (j : ℕ)
          → j < suc i → (settle (queue_at pl i) t).flow.flag (queue_at pl j) ≡ false
      step i t h p j l = by (below_suc l)
        where
          by : (j < i) ⊎ (j ≡ i) → (settle (queue_at pl i) t).flow.flag (queue_at pl j) ≡ false
          by (inl m) = settle_raises_none (queue_at pl i) t (queue_at pl j) (p j m)
          by (inr e) = rw e (settle_lowers (queue_at pl i) t)

      all : (j : ℕ) → j < queues pl → (up_to settles (queues pl) s).flow.flag (queue_at pl j) ≡ false
      all = up_keeps_at (λ (n : ℕ) (t : State). (j : ℕ) → j < n → t.flow.flag (queue_at pl j) ≡ false) settles
          (queues pl) s step (λ j l. absurd (not-suc-le-zero l))

  -- after READ every wire is empty
  pub read_wires : (s : State) → WiresEmpty pl (do_read pl s)
  unfolding do_read
  read_wires s =
      up_keeps (WiresEmpty pl) settles (queues pl) (up_to delivers (outputs pl) s)
      (λ i t h p o d. ap (λ (m : Output → Wire). m o) (settle_wire (queue_at pl i) t) ∙ p o d) (delivered s)

  -- and every flag is down
  pub read_flags : (s : State) → FlagsDown pl (do_read pl s)
  unfolding do_read
  read_flags s = settled (up_to delivers (outputs pl) s)

  -- and there are no choices if there were none
  pub read_choices : (s : State) → NoChoices pl s → NoChoices pl (do_read pl s)
  unfolding do_read
  read_choices s n =
      up_keeps (NoChoices pl) settles (queues pl) (up_to delivers (outputs pl) s)
      (λ i t h p o d. ap (λ (m : Output → Choice). m o) (settle_choice (queue_at pl i) t) ∙ p o d)
      (up_keeps (NoChoices pl) delivers (outputs pl) s
      (λ i t h p o d. ap (λ (m : Output → Choice). m o) (deliver_choice pl (output_at pl i) t) ∙ p o d) n)

  -- READ ends in the shape of EXECUTE
  pub read_shape : (s : State) → NoChoices pl s → Shape pl (do_read pl s)
  unfolding do_read
  read_shape s n = in_execute refl (read_choices s n) (read_wires s) (read_flags s)
