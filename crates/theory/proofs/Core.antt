-- What refusal 7 asks is a core with a shape, what outputs remember in range, and connections that are tied to the
-- table.
use mathlib.Core.Path.{◌≡◌, refl, sym, ap, ◌∙◌}
use mathlib.Core.Logic.{◌⊎◌, inl, inr, ◌≢◌}
use mathlib.Core.Bool.{true, false}
use mathlib.Core.Option.{some}
use Prim.Native.Nat.{ℕ, ◌≤◌}
use native.Mathlib.Omega.{arith}
use lib.ListN.{length}
use Rattle.basis.specs.Choice.{test}
use Rattle.packets.specs.declared.Packet.{Packet}
use Rattle.packets.specs.declared.Wire.TheVariants.{Empty, Full}
use Rattle.packets.specs.declared.Phase.{Phase}
use Rattle.packets.specs.declared.Phase.TheVariants.{Read, Execute, Write}
use Rattle.plan.specs.Plan.{Plan}
use Rattle.plan_queues.specs.Queue.{Queue, Exists}
use Rattle.plan_queues.specs.Feeds.{Output, of_active, of_passive, of_side, to_unit, from_unit, heading_of, across}
use Rattle.plan_journeys.proofs.Places.{some_same, some_not_none}
use Rattle.rules.specs.Capacity.{capacity}
use Rattle.rules.specs.Outputs.{senders}
use Rattle.rules.specs.State.{State, Choice, nobody, sender}
use Rattle.rules.specs.Execute.{candidate}
use Rattle.rules.specs.Write.{of_rank}
use Rattle.rules.specs.Valid.{Drives, fed, Ties, Turns, Valid, Bounded}
use Rattle.rules.specs.Progress.{HasWire}
use Rattle.theory.specs.Invariant.{account, Core, Shape, in_read, in_execute, in_write}
use Rattle.rules.proofs.Apart.{nobody_not, read_execute, read_write, execute_write}

-- ---- a state is a core with a shape
phases : (x : Phase) → (x ≡ Read) ⊎ (x ≡ Execute) ⊎ (x ≡ Write)
phases Read = inl refl
phases Execute = inr (inl refl)
phases Write = inr (inr refl)

pub core_of : (pl : Plan) (s : State) → Valid pl s → Bounded pl s → Core pl s
unfolding account
core_of pl s v b =
    record {
      slot = v.slot;
      entries = v.entries;
      out_capacities = λ q h f. v.capacities q h;
      places = v.places;
      wires = v.wires;
      out_flags = v.out_flags;
      marks = v.marks;
      free_entry = v.free_entry;
      credits = v.credits;
      out_credits = v.out_credits;
      allowances = v.allowances;
      bounded = b;
    }

-- an output whose choice is none but nobody
no_sender : (c : Choice) → ((k : ℕ) → c ≡ sender k → ⊥) → c ≡ nobody
no_sender nobody h = refl
no_sender (sender k) h = absurd (h k refl)

pub shape_of : (pl : Plan) (s : State) → Valid pl s → Shape pl s
shape_of pl s v = by (phases s.clock.phase)
  where
    by : (s.clock.phase ≡ Read) ⊎ (s.clock.phase ≡ Execute) ⊎ (s.clock.phase ≡ Write) → Shape pl s
    by (inl e) = in_read e (λ o h. no_sender (s.links.choice o) (λ k c. read_write (sym e ∙ (v.choices o k h c).0)))
    by (inr (inl e)) =
        in_execute e (λ o h. no_sender (s.links.choice o) (λ k c. execute_write (sym e ∙ (v.choices o k h c).0)))
        (v.wires_empty (λ r. read_execute (sym r ∙ e))) (v.flags_down e)
    by (inr (inr e)) =
        in_write e (v.wires_empty (λ r. read_write (sym r ∙ e)))
        (λ o k h c. let d = (v.choices o k h c).1 in
        record { queue = d.0; rank = d.1; ready = d.2; down = v.picked_down o k d.0 h c d.1 })

-- no queue of a core is over its capacity: what a wire feeds by its credits
pub core_within : (pl : Plan) (s : State) → Core pl s → (q : Queue) → Exists pl q
    → length (s.lines.queue q) ≤ capacity pl.head q
unfolding account
core_within pl s c q h = within (test (fed pl q))
  where
    within : (fed pl q ≡ true) ⊎ (fed pl q ≡ false) → length (s.lines.queue q) ≤ capacity pl.head q
    within (inl f) = omega (arith, c.credits q h f)
    within (inr f) = c.out_capacities q h f

pub valid_of : (pl : Plan) (s : State) → Core pl s → Shape pl s → Turns pl s → Ties pl s → Valid pl s
unfolding account
valid_of pl s c t u y =
    record {
      slot = c.slot;
      entries = c.entries;
      capacities = core_within pl s c;
      places = c.places;
      wires = c.wires;
      wires_empty = λ n. wires' t n;
      choices = choices' t;
      flags_down = λ e. flags' t e;
      picked_down = picked' t;
      out_flags = c.out_flags;
      marks = c.marks;
      free_entry = c.free_entry;
      credits = c.credits;
      out_credits = c.out_credits;
      allowances = c.allowances;
      ties = y;
      turns = u;
    }
  where
    wires' : Shape pl s → s.clock.phase ≢ Read → (o : Output) → Drives pl o → s.links.wire o ≡ Empty
    wires' (in_read e n) ne = absurd (ne e)
    wires' (in_execute e n w f) ne = w
    wires' (in_write e w d) ne = w

    choices' : Shape pl s → (o : Output) (k : ℕ) → Drives pl o → s.links.choice o ≡ sender k
        → (s.clock.phase ≡ Write) × ((q : Queue) × (of_rank (senders o) k ≡ some q) × (candidate pl s o q ≡ true))
    choices' (in_read e n) o k h q = absurd (nobody_not (sym (n o h) ∙ q))
    choices' (in_execute e n w f) o k h q = absurd (nobody_not (sym (n o h) ∙ q))
    choices' (in_write e w d) o k h q = let g = d o k h q in (e, (g.queue, g.rank, g.ready))

    flags' : Shape pl s → s.clock.phase ≡ Execute → (q : Queue) → Exists pl q → s.flow.flag q ≡ false
    flags' (in_read e n) p = absurd (read_execute (sym e ∙ p))
    flags' (in_execute e n w f) p = f
    flags' (in_write e w d) p = absurd (execute_write (sym p ∙ e))

    picked' : Shape pl s → (o : Output) (k : ℕ) (q : Queue) → Drives pl o → s.links.choice o ≡ sender k
        → of_rank (senders o) k ≡ some q → s.flow.flag q ≡ false
    picked' (in_read e n) o k q h d r = absurd (nobody_not (sym (n o h) ∙ d))
    picked' (in_execute e n w f) o k q h d r = absurd (nobody_not (sym (n o h) ∙ d))
    picked' (in_write e w c') o k q h d r = let g = c' o k h d in rw (some_same (sym g.rank ∙ r)) at g.down

-- ---- wires
-- A full wire is one that there is: from a side that is not joined nothing goes on.
pub full_wire : (pl : Plan) (s : State) → Core pl s → (o : Output) → Drives pl o → (x : Packet)
    → s.links.wire o ≡ Full x → HasWire pl o
full_wire pl s c (of_active a) d x e = d
full_wire pl s c (of_passive p) d x e = d
full_wire pl s c (of_side r o) (hr, ho) x e = (
  hr,
  ho,
  λ z. some_not_none
      (sym (ap (across pl (heading_of x.kind) x.active x.passive) z)
      ∙ (c.wires (of_side r o) (hr, ho) x e).next),
)
full_wire pl s c (to_unit r) d x e = d
full_wire pl s c (from_unit r) d x e = d
