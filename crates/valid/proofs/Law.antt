-- Refusal 7's test finds exactly the states: a state passes it if and only if it is valid.
use mathlib.Core.Path.{◌≡◌}
use mathlib.Core.Logic.{◌≢◌}
use mathlib.Core.Bool.{true, false}
use mathlib.Core.List.{[]}
use mathlib.Core.Option.{some}
use Prim.Native.Nat.{ℕ, ◌+◌, ◌≤◌, ◌<◌}
use lib.ListN.{length}
use Rattle.basis.specs.Choice.{also_true, also_of}
use Rattle.packets.specs.declared.Packet.{Packet}
use Rattle.packets.specs.declared.Wire.TheVariants.{Empty, Full}
use Rattle.packets.specs.declared.Phase.TheVariants.{Read, Execute, Write}
use Rattle.packets.specs.declared.Entry.TheVariants.{Free, Booked}
use Rattle.plan.specs.Head.{InRange}
use Rattle.plan.specs.Plan.{Plan, R, A, S}
use Rattle.plan_queues.specs.Queue.{Queue, Q, Exists}
use Rattle.plan_queues.specs.Feeds.{Output}
use Rattle.rules.specs.Capacity.{capacity}
use Rattle.rules.specs.Outputs.{senders}
use Rattle.rules.specs.State.{State, sender, start_allowance}
use Rattle.rules.specs.Execute.{candidate}
use Rattle.rules.specs.Write.{of_rank}
use Rattle.rules.specs.Valid.{Lined, Drives, Carries, bit, on_wires, total, spends, fed, Valid, Bounded}
use Rattle.plan_facts.specs.Wired.{Wired}
use Rattle.valid.proofs.Decides.{Decides, like, not_so, less, most, same, if_so, if_not, all_below_lem, any_below_lem}
use Rattle.valid.specs.Test.{slot_test, entries_test, capacities_test, places_test, wires_test, wires_empty_test}
use Rattle.valid.specs.Test.{choices_test, flags_down_test, picked_down_test, out_flags_test, marks_test}
use Rattle.valid.specs.Test.{free_entry_test}
use Rattle.valid.specs.Test.{credits_test, out_credits_test, allowances_test, valid_test}
use Rattle.valid.proofs.Packets.{lined_decides, wire_decides}
use Rattle.valid.proofs.Parts.{every_queue_lem, every_output_lem, in_phase, out_of_phase, empty_decides, choice_decides}
use Rattle.valid.proofs.Parts.{picked_decides, mark_decides, entry_decides, free_decides}
use Rattle.valid.proofs.Ties.{ties_decide}
use Rattle.valid.proofs.Turns.{turns_decide}

-- ---- the parts of Valid, in its order
module _ (pl : Plan) (s : State) where
  slot_decides : Decides (slot_test pl s) (s.clock.slot.0 < S pl)
  unfolding slot_test
  slot_decides = less s.clock.slot.0 (S pl)

  entries_decide : Decides (entries_test pl s)
      ((r o t i : ℕ) → r < R pl → o < 4 → t < S pl → s.table r o t ≡ Booked i → i < 4)
  unfolding entries_test
  entries_decide =
      like
      (all_below_lem (R pl) _ (λ r. (o : ℕ) → o < 4 → (t : ℕ) → t < S pl → (i : ℕ) → s.table r o t ≡ Booked i → i < 4)
      (λ r h. all_below_lem 4 _ (λ o. (t : ℕ) → t < S pl → (i : ℕ) → s.table r o t ≡ Booked i → i < 4)
      (λ o k. all_below_lem (S pl) _ (λ t. (i : ℕ) → s.table r o t ≡ Booked i → i < 4)
      (λ t l. entry_decides (s.table r o t)))))
      (λ f r o t i h k l e. f r h o k t l i e)
      (λ f r h o k t l i e. f r o t i h k l e)

  capacities_decide : Decides (capacities_test pl s)
      ((q : Queue) → Exists pl q → length (s.lines.queue q) ≤ capacity pl.head q)
  unfolding capacities_test
  capacities_decide = every_queue_lem pl _ (λ q. length (s.lines.queue q) ≤ capacity pl.head q)
      (λ q h. most (length (s.lines.queue q)) (capacity pl.head q))

  places_decide : Wired pl
      → Decides (places_test pl s) ((q : Queue) → Exists pl q → Lined pl q (s.lines.handled q) (s.lines.queue q))
  unfolding places_test
  places_decide wired = every_queue_lem pl _ (λ q. Lined pl q (s.lines.handled q) (s.lines.queue q))
      (λ q h. lined_decides wired q (s.lines.handled q) (s.lines.queue q))

  wires_decide : Wired pl → Decides (wires_test pl s)
      ((o : Output) → Drives pl o → (x : Packet) → s.links.wire o ≡ Full x → Carries pl o x)
  unfolding wires_test
  wires_decide wired = every_output_lem pl _ (λ o. (x : Packet) → s.links.wire o ≡ Full x → Carries pl o x)
      (λ o h. wire_decides wired o (s.links.wire o))

  wires_empty_decide : Decides (wires_empty_test pl s)
      (s.clock.phase ≢ Read → (o : Output) → Drives pl o → s.links.wire o ≡ Empty)
  unfolding wires_empty_test
  wires_empty_decide = out_of_phase s.clock.phase Read
      (every_output_lem pl _ (λ o. s.links.wire o ≡ Empty) (λ o h. empty_decides (s.links.wire o)))

  choices_decide : Decides (choices_test pl s)
      ((o : Output) (k : ℕ) → Drives pl o → s.links.choice o ≡ sender k → (s.clock.phase ≡ Write)
      × ((q : Queue) × (of_rank (senders o) k ≡ some q) × (candidate pl s o q ≡ true)))
  unfolding choices_test
  choices_decide =
      like
      (every_output_lem pl _
      (λ o. (k : ℕ) → s.links.choice o ≡ sender k → (s.clock.phase ≡ Write)
      × ((q : Queue) × (of_rank (senders o) k ≡ some q) × (candidate pl s o q ≡ true)))
      (λ o h. choice_decides pl s o (s.links.choice o)))
      (λ f o k h e. f o h k e)
      (λ f o h k e. f o k h e)

  flags_down_decide : Decides (flags_down_test pl s)
      (s.clock.phase ≡ Execute → (q : Queue) → Exists pl q → s.flow.flag q ≡ false)
  unfolding flags_down_test
  flags_down_decide = in_phase s.clock.phase Execute
      (every_queue_lem pl _ (λ q. s.flow.flag q ≡ false) (λ q h. not_so (s.flow.flag q)))

  picked_down_decide : Decides (picked_down_test pl s) ((o : Output) (k : ℕ) (q : Queue) → Drives pl o
      → s.links.choice o ≡ sender k → of_rank (senders o) k ≡ some q → s.flow.flag q ≡ false)
  unfolding picked_down_test
  picked_down_decide =
      like
      (every_output_lem pl _ (λ o. (k : ℕ) (q : Queue) → s.links.choice o ≡ sender k → of_rank (senders o) k ≡ some q
      → s.flow.flag q ≡ false)
      (λ o h. picked_decides pl s o (s.links.choice o)))
      (λ f o k q h e g. f o h k q e g)
      (λ f o h k q e g. f o k q h e g)

  out_flags_decide : Decides (out_flags_test pl s)
      ((q : Queue) → Exists pl q → fed pl q ≡ false → s.flow.flag q ≡ false)
  unfolding out_flags_test
  out_flags_decide = every_queue_lem pl _ (λ q. fed pl q ≡ false → s.flow.flag q ≡ false)
      (λ q h. if_not (fed pl q) (not_so (s.flow.flag q)))

  marks_decide : Decides (marks_test pl s)
      ((q : Queue) → Exists pl q → s.lines.handled q ≡ true → (r i : ℕ) × (q ≡ Q r i) × (s.lines.queue q ≢ []))
  unfolding marks_test
  marks_decide = every_queue_lem pl _ (λ q. s.lines.handled q ≡ true → (r i : ℕ) × (q ≡ Q r i) × (s.lines.queue q ≢ []))
      (λ q h. mark_decides q (s.lines.handled q) (s.lines.queue q))

  free_entry_decides : Decides (free_entry_test pl s)
      ((r o : ℕ) → r < R pl → o < 4 → (t : ℕ) × (t < S pl) × (s.table r o t ≡ Free))
  unfolding free_entry_test
  free_entry_decides =
      like
      (all_below_lem (R pl) _ (λ r. (o : ℕ) → o < 4 → (t : ℕ) × (t < S pl) × (s.table r o t ≡ Free))
      (λ r h. all_below_lem 4 _ (λ o. (t : ℕ) × (t < S pl) × (s.table r o t ≡ Free))
      (λ o k. any_below_lem (S pl) _ (λ t. s.table r o t ≡ Free) (λ t l. free_decides (s.table r o t)))))
      (λ f r o h k. f r h o k)
      (λ f r h o k. f r o h k)

  credits_decide : Decides (credits_test pl s)
      ((q : Queue) → Exists pl q → fed pl q ≡ true → (s.flow.credit q).0 + length (s.lines.queue q) + on_wires pl q s
      + bit (s.flow.flag q) ≡ capacity pl.head q)
  unfolding credits_test
  credits_decide =
      every_queue_lem pl _ (λ q. fed pl q ≡ true → (s.flow.credit q).0 + length (s.lines.queue q) + on_wires pl q s
      + bit (s.flow.flag q) ≡ capacity pl.head q)
      (λ q h. if_so (fed pl q) (same ((s.flow.credit q).0 + length (s.lines.queue q) + on_wires pl q s
      + bit (s.flow.flag q)) (capacity pl.head q)))

  out_credits_decide : Decides (out_credits_test pl s)
      ((q : Queue) → Exists pl q → fed pl q ≡ false → (s.flow.credit q).0 ≡ capacity pl.head q)
  unfolding out_credits_test
  out_credits_decide =
      every_queue_lem pl _ (λ q. fed pl q ≡ false → (s.flow.credit q).0 ≡ capacity pl.head q)
      (λ q h. if_not (fed pl q) (same (s.flow.credit q).0 (capacity pl.head q)))

  allowances_decide : Decides (allowances_test pl s)
      ((a : ℕ) → a < A pl → s.flow.allowance a + total pl (spends a) s ≡ start_allowance pl)
  unfolding allowances_test
  allowances_decide =
      all_below_lem (A pl) _ (λ a. s.flow.allowance a + total pl (spends a) s ≡ start_allowance pl)
      (λ a h. same (s.flow.allowance a + total pl (spends a) s) (start_allowance pl))

-- ---- the law
module _ (pl : Plan) (wired : Wired pl) (range : InRange pl.head) where
  -- a state that passes the test is valid
  pub test_valid : (s : State) → Bounded pl s → valid_test pl s ≡ true → Valid pl s
  unfolding valid_test
  test_valid s bounded e =
      let a = also_true e in
      let b = also_true a.1 in
      let c = also_true b.1 in
      let d = also_true c.1 in
      let f = also_true d.1 in
      let g = also_true f.1 in
      let h = also_true g.1 in
      let i = also_true h.1 in
      let j = also_true i.1 in
      let k = also_true j.1 in
      let l = also_true k.1 in
      let m = also_true l.1 in
      let n = also_true m.1 in
      let o = also_true n.1 in
      let p = also_true o.1 in
      let q = also_true p.1 in
      record {
        slot = (slot_decides pl s).holds a.0;
        entries = (entries_decide pl s).holds b.0;
        capacities = (capacities_decide pl s).holds c.0;
        places = (places_decide pl s wired).holds d.0;
        wires = (wires_decide pl s wired).holds f.0;
        wires_empty = (wires_empty_decide pl s).holds g.0;
        choices = (choices_decide pl s).holds h.0;
        flags_down = (flags_down_decide pl s).holds i.0;
        picked_down = (picked_down_decide pl s).holds j.0;
        out_flags = (out_flags_decide pl s).holds k.0;
        marks = (marks_decide pl s).holds l.0;
        free_entry = (free_entry_decides pl s).holds m.0;
        credits = (credits_decide pl s).holds n.0;
        out_credits = (out_credits_decide pl s).holds o.0;
        allowances = (allowances_decide pl s).holds p.0;
        ties = (ties_decide wired range bounded).holds q.0;
        turns = (turns_decide pl s).holds q.1;
      }

  -- a valid state passes the test
  pub valid_test_lem : (s : State) → Bounded pl s → Valid pl s → valid_test pl s ≡ true
  unfolding valid_test
  valid_test_lem s bounded v =
      also_of ((slot_decides pl s).passes v.slot)
      (also_of ((entries_decide pl s).passes v.entries)
      (also_of ((capacities_decide pl s).passes v.capacities)
      (also_of ((places_decide pl s wired).passes v.places)
      (also_of ((wires_decide pl s wired).passes v.wires)
      (also_of ((wires_empty_decide pl s).passes v.wires_empty)
      (also_of ((choices_decide pl s).passes v.choices)
      (also_of ((flags_down_decide pl s).passes v.flags_down)
      (also_of ((picked_down_decide pl s).passes v.picked_down)
      (also_of ((out_flags_decide pl s).passes v.out_flags)
      (also_of ((marks_decide pl s).passes v.marks)
      (also_of ((free_entry_decides pl s).passes v.free_entry)
      (also_of ((credits_decide pl s).passes v.credits)
      (also_of ((out_credits_decide pl s).passes v.out_credits)
      (also_of ((allowances_decide pl s).passes v.allowances)
      (also_of ((ties_decide wired range bounded).passes v.ties)
      ((turns_decide pl s).passes v.turns))))))))))))))))
