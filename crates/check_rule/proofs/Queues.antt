-- What refusal 7 asks of one queue: seven tests, and all of them together.
use mathlib.Core.Path.{◌≡◌, refl, sym, ◌∙◌}
use mathlib.Core.Bool.{Bool, true, false, not, ◌||◌}
use mathlib.Core.List.{List, [], ◌∷◌}
use Prim.Native.Nat.{suc, ◌+◌}
use native.Mathlib.Omega.{arith}
use lib.Dec.{eqb, leb}
use lib.ListN.{length}
use borrow.Author.Tests.{ne_eqb}
use Rattle.basis.specs.Choice.{pick, also, also_true, also_of}
use Rattle.packets.specs.declared.Packet.{Packet}
use Rattle.packets.specs.declared.Phase.TheVariants.{Execute}
use Rattle.plan.specs.Plan.{Plan}
use Rattle.plan_queues.specs.Queue.{Queue}
use Rattle.plan_queues.specs.Role.{is_unit}
use Rattle.rules.specs.Capacity.{capacity}
use Rattle.rules.specs.State.{State}
use Rattle.rules.specs.Visits.{is_empty}
use Rattle.rules.specs.Calls.{is_phase}
use Rattle.rules.specs.Valid.{bit, on_wires, fed}
use Rattle.valid.specs.Test.{lined_test}
use Rattle.valid.proofs.Decides.{Decides}
use Rattle.check_rule.specs.Parts.{frame_test, queue_test}

module _ (pl : Plan) (s : State) where
  -- its count of packets, and the packets
  abbrev pub roomed : Queue → Bool
  roomed q = leb (length (s.lines.queue q)) (capacity pl.head q)

  abbrev pub lined : Queue → Bool
  lined q = lined_test pl q (s.lines.handled q) (s.lines.queue q)

  -- its flag in EXECUTE, its flag where no wire feeds it, and its mark
  abbrev pub lowered : Queue → Bool
  lowered q = not (is_phase s.clock.phase Execute) || not (s.flow.flag q)

  abbrev pub unraised : Queue → Bool
  unraised q = fed pl q || not (s.flow.flag q)

  abbrev pub marked : Queue → Bool
  marked q = not (s.lines.handled q) || also (is_unit q) (not (is_empty (s.lines.queue q)))

  -- its credit where a wire feeds it, and where none does
  abbrev pub accounted : Queue → Bool
  accounted q =
      not (fed pl q) || eqb ((s.flow.credit q).0 + length (s.lines.queue q) + on_wires pl q s
      + bit (s.flow.flag q)) (capacity pl.head q)

  abbrev pub unspent : Queue → Bool
  unspent q = fed pl q || eqb (s.flow.credit q).0 (capacity pl.head q)

-- it passes them all
pub record QueuePasses (pl : Plan) (s : State) (q : Queue) : Type 0 where
  pub room : roomed pl s q ≡ true
  pub line : lined pl s q ≡ true
  pub lower : lowered pl s q ≡ true
  pub unraise : unraised pl s q ≡ true
  pub mark : marked pl s q ≡ true
  pub account : accounted pl s q ≡ true
  pub unspend : unspent pl s q ≡ true

-- a choice between two tests is a test behind each
pick_both : (t x y : Bool) → pick t x y ≡ true → ((not t || x) ≡ true) × ((t || y) ≡ true)
pick_both true x y e = (e, refl)
pick_both false x y e = (refl, e)

both_pick : (t x y : Bool) → (not t || x) ≡ true → (t || y) ≡ true → pick t x y ≡ true
both_pick true x y e f = e
both_pick false x y e f = f

empty_length : (xs : List Packet) → eqb (length xs) 0 ≡ is_empty xs
empty_length [] = refl
empty_length (x ∷ xs) = ne_eqb (suc (length xs)) 0 (λ e. omega arith)

mark_length : (q : Queue) (done : Bool) (xs : List Packet)
    → (not done || also (is_unit q) (not (eqb (length xs) 0))) ≡ (not done || also (is_unit q) (not (is_empty xs)))
mark_length q done xs = rw (empty_length xs)

-- together they are the test of a queue
pub queue_passes : (pl : Plan) (s : State) (q : Queue) → Decides (queue_test pl s q) (QueuePasses pl s q)
unfolding queue_test frame_test
queue_passes pl s q =
    record {
      holds = λ e.
          let a = also_true e in
          let b = also_true a.0 in
          let c = also_true b.1 in
          let d = also_true c.1 in
          let f = also_true d.1 in
          let g = pick_both (fed pl q) _ _ f.1 in
          record {
            room = b.0;
            line = a.1;
            lower = c.0;
            unraise = d.0;
            mark = sym (mark_length q (s.lines.handled q) (s.lines.queue q)) ∙ f.0;
            account = g.0;
            unspend = g.1;
          };
      passes = λ p.
          also_of
          (also_of p.room (also_of p.lower (also_of p.unraise
          (also_of (mark_length q (s.lines.handled q) (s.lines.queue q) ∙ p.mark)
          (both_pick (fed pl q) _ _ p.account p.unspend)))))
          p.line;
    }
