-- Refusal 7's tests gathered by place: what they ask of all queues, outputs, choices and sides, of each by itself.
use mathlib.Core.Path.{◌≡◌, refl}
use mathlib.Core.Bool.{Bool, true, false, not, ◌||◌}
use Prim.Native.Nat.{ℕ, ◌*◌, ◌<◌}
use Rattle.basis.specs.Choice.{also_true, also_of}
use Rattle.basis.specs.Bounded.{any_below, all_below}
use Rattle.packets.specs.declared.Phase.TheVariants.{Read, Execute, Write}
use Rattle.plan.specs.Plan.{Plan, R, A, S}
use Rattle.plan_queues.specs.Queue.{Queue, Exists}
use Rattle.plan_queues.specs.Feeds.{Output}
use Rattle.rules.specs.State.{State, is_free, is_full}
use Rattle.rules.specs.Calls.{is_phase}
use Rattle.rules.specs.Valid.{Drives}
use Rattle.valid.specs.Ties.{passive_room, pair_ties, ties_test}
use Rattle.valid.specs.Test.{wire_test, choice_test, picked_test, entry_test, every_queue, every_output, slot_test}
use Rattle.valid.specs.Test.{entries_test, capacities_test, places_test, wires_test, wires_empty_test, choices_test}
use Rattle.valid.specs.Test.{flags_down_test, picked_down_test, out_flags_test, marks_test, free_entry_test}
use Rattle.valid.specs.Test.{credits_test}
use Rattle.valid.specs.Test.{out_credits_test, allowances_test, turns_test, valid_test}
use Rattle.valid.proofs.Decides.{Decides, like, so, all_below_lem}
use Rattle.valid.proofs.Parts.{every_queue_lem, every_output_lem}
use Rattle.check_rule.specs.Parts.{queue_test, is_nobody, output_test, pick_test, side_test}
use Rattle.check_rule.proofs.Queues.{roomed, lined, lowered, unraised, marked, accounted, unspent, QueuePasses}
use Rattle.check_rule.proofs.Queues.{queue_passes}
use Rattle.check_rule.proofs.Choices.{choice_gathers, choice_scatters}

-- ---- loops over places tell of each of them
module _ (pl : Plan) where
  pub each_queue : (f : Queue → Bool) → Decides (every_queue pl f) ((q : Queue) → Exists pl q → f q ≡ true)
  each_queue f = every_queue_lem pl f (λ q. f q ≡ true) (λ q h. so (f q))

  pub each_output : (f : Output → Bool) → Decides (every_output pl f) ((o : Output) → Drives pl o → f o ≡ true)
  each_output f = every_output_lem pl f (λ o. f o ≡ true) (λ o h. so (f o))

  pub every_side : (f : ℕ → ℕ → Bool) (X : ℕ → ℕ → Type 0)
      → ((r o : ℕ) → r < R pl → o < 4 → Decides (f r o) (X r o))
      → Decides (all_below (R pl) (λ r. all_below 4 (λ o. f r o))) ((r o : ℕ) → r < R pl → o < 4 → X r o)
  every_side f X d =
      like
      (all_below_lem (R pl) (λ r. all_below 4 (λ o. f r o)) (λ r. (o : ℕ) → o < 4 → X r o)
      (λ r h. all_below_lem 4 (f r) (X r) (λ o k. d r o h k)))
      (λ g r o h k. g r h o k)
      (λ g r h o k. g r o h k)

  each_side : (f : ℕ → ℕ → Bool)
      → Decides (all_below (R pl) (λ r. all_below 4 (λ o. f r o))) ((r o : ℕ) → r < R pl → o < 4 → f r o ≡ true)
  each_side f = every_side f (λ r o. f r o ≡ true) (λ r o h k. so (f r o))

-- a loop behind a test is a test behind each
behind : {X : Type 0} {T : X → Type 0} (f : X → Bool) (p t : Bool) → Decides t ((x : X) → T x → f x ≡ true)
    → Decides (p || t) ((x : X) → T x → (p || f x) ≡ true)
behind f true t d = record { holds = λ e x h. refl; passes = λ g. refl }
behind f false t d = d

-- ---- the whole
-- what is asked of each place
pub record Parts (pl : Plan) (s : State) : Type 0 where
  pub slot : slot_test pl s ≡ true
  pub queue : (q : Queue) → Exists pl q → queue_test pl s q ≡ true
  pub output : (o : Output) → Drives pl o → output_test pl s o ≡ true
  pub choice : (o : Output) → Drives pl o → pick_test pl s o ≡ true
  pub side : (r o : ℕ) → r < R pl → o < 4 → side_test pl s r o ≡ true
  pub allowance : allowances_test pl s ≡ true
  pub pair : (n : ℕ) → n < passive_room * A pl → pair_ties pl s n ≡ true
  pub turns : turns_test pl s ≡ true

-- the tests, each as what it tells of the places
module _ (pl : Plan) (s : State) where
  capacities_each : Decides (capacities_test pl s) ((q : Queue) → Exists pl q → roomed pl s q ≡ true)
  unfolding capacities_test
  capacities_each = each_queue pl (roomed pl s)

  places_each : Decides (places_test pl s) ((q : Queue) → Exists pl q → lined pl s q ≡ true)
  unfolding places_test
  places_each = each_queue pl (lined pl s)

  flags_each : Decides (flags_down_test pl s) ((q : Queue) → Exists pl q → lowered pl s q ≡ true)
  unfolding flags_down_test
  flags_each = behind (λ q. not (s.flow.flag q)) (not (is_phase s.clock.phase Execute)) _
      (each_queue pl (λ q. not (s.flow.flag q)))

  out_flags_each : Decides (out_flags_test pl s) ((q : Queue) → Exists pl q → unraised pl s q ≡ true)
  unfolding out_flags_test
  out_flags_each = each_queue pl (unraised pl s)

  marks_each : Decides (marks_test pl s) ((q : Queue) → Exists pl q → marked pl s q ≡ true)
  unfolding marks_test
  marks_each = each_queue pl (marked pl s)

  credits_each : Decides (credits_test pl s) ((q : Queue) → Exists pl q → accounted pl s q ≡ true)
  unfolding credits_test
  credits_each = each_queue pl (accounted pl s)

  out_credits_each : Decides (out_credits_test pl s) ((q : Queue) → Exists pl q → unspent pl s q ≡ true)
  unfolding out_credits_test
  out_credits_each = each_queue pl (unspent pl s)

  wires_each : Decides (wires_test pl s) ((o : Output) → Drives pl o → wire_test pl o (s.links.wire o) ≡ true)
  unfolding wires_test
  wires_each = each_output pl (λ o. wire_test pl o (s.links.wire o))

  empty_each : Decides (wires_empty_test pl s)
      ((o : Output) → Drives pl o → (is_phase s.clock.phase Read || not (is_full (s.links.wire o))) ≡ true)
  unfolding wires_empty_test
  empty_each = behind (λ o. not (is_full (s.links.wire o))) (is_phase s.clock.phase Read) _
      (each_output pl (λ o. not (is_full (s.links.wire o))))

  choices_each : Decides (choices_test pl s)
      ((o : Output) → Drives pl o → choice_test pl s o (s.links.choice o) ≡ true)
  unfolding choices_test
  choices_each = each_output pl (λ o. choice_test pl s o (s.links.choice o))

  picked_each : Decides (picked_down_test pl s)
      ((o : Output) → Drives pl o → picked_test s o (s.links.choice o) ≡ true)
  unfolding picked_down_test
  picked_each = each_output pl (λ o. picked_test s o (s.links.choice o))

  entries_each : Decides (entries_test pl s)
      ((r o : ℕ) → r < R pl → o < 4 → all_below (S pl) (λ t. entry_test (s.table r o t)) ≡ true)
  unfolding entries_test
  entries_each = each_side pl (λ r o. all_below (S pl) (λ t. entry_test (s.table r o t)))

  free_each : Decides (free_entry_test pl s)
      ((r o : ℕ) → r < R pl → o < 4 → any_below (S pl) (λ t. is_free (s.table r o t)) ≡ true)
  unfolding free_entry_test
  free_each = each_side pl (λ r o. any_below (S pl) (λ t. is_free (s.table r o t)))

  ties_each : Decides (ties_test pl s) ((n : ℕ) → n < passive_room * A pl → pair_ties pl s n ≡ true)
  unfolding ties_test
  ties_each = all_below_lem (passive_room * A pl) (pair_ties pl s) (λ n. pair_ties pl s n ≡ true)
      (λ n h. so (pair_ties pl s n))

-- the test of a state tells what is asked of each place
module _ (pl : Plan) (s : State) where
  pub valid_parts : valid_test pl s ≡ true → Parts pl s
  unfolding valid_test output_test pick_test side_test
  valid_parts e =
      let a = also_true e in
      let b = also_true a.1 in
      let c = also_true b.1 in
      let d = also_true c.1 in
      let f = also_true d.1 in
      let g = also_true f.1 in
      let h = also_true g.1 in
      let i = also_true h.1 in
      let j = also_true i.1 in
      let k = also_true j.1 in
      let l = also_true k.1 in
      let m = also_true l.1 in
      let n = also_true m.1 in
      let o = also_true n.1 in
      let p = also_true o.1 in
      let t = also_true p.1 in
      record {
        slot = a.0;
        queue = λ q x. (queue_passes pl s q).passes (record {
          room = (capacities_each pl s).holds c.0 q x;
          line = (places_each pl s).holds d.0 q x;
          lower = (flags_each pl s).holds i.0 q x;
          unraise = (out_flags_each pl s).holds k.0 q x;
          mark = (marks_each pl s).holds l.0 q x;
          account = (credits_each pl s).holds n.0 q x;
          unspend = (out_credits_each pl s).holds o.0 q x;
        });
        output = λ y x. also_of ((wires_each pl s).holds f.0 y x)
            (also_of ((empty_each pl s).holds g.0 y x)
            (choice_gathers pl s y (s.links.choice y) ((choices_each pl s).holds h.0 y x)
            ((picked_each pl s).holds j.0 y x)).0);
        choice = λ y x. (choice_gathers pl s y (s.links.choice y) ((choices_each pl s).holds h.0 y x)
            ((picked_each pl s).holds j.0 y x)).1;
        side = λ r y x z. also_of ((entries_each pl s).holds b.0 r y x z) ((free_each pl s).holds m.0 r y x z);
        allowance = p.0;
        pair = (ties_each pl s).holds t.0;
        turns = t.1;
      }

module _ (pl : Plan) (s : State) (p : Parts pl s) where
  of_queue : (q : Queue) → Exists pl q → QueuePasses pl s q
  of_queue q h = (queue_passes pl s q).holds (p.queue q h)

  of_output : (o : Output) → Drives pl o → (wire_test pl o (s.links.wire o) ≡ true)
      × ((is_phase s.clock.phase Read || not (is_full (s.links.wire o))) ≡ true)
      × ((is_phase s.clock.phase Write || is_nobody (s.links.choice o)) ≡ true)
  unfolding output_test
  of_output o h = let a = also_true (p.output o h) in let b = also_true a.1 in (a.0, b.0, b.1)

  of_choice : (o : Output) → Drives pl o
      → (choice_test pl s o (s.links.choice o) ≡ true) × (picked_test s o (s.links.choice o) ≡ true)
  unfolding pick_test
  of_choice o h = choice_scatters pl s o (s.links.choice o) (of_output o h).2 (p.choice o h)

  of_side : (r o : ℕ) → r < R pl → o < 4 → (all_below (S pl) (λ t. entry_test (s.table r o t)) ≡ true)
      × (any_below (S pl) (λ t. is_free (s.table r o t)) ≡ true)
  unfolding side_test
  of_side r o h k = also_true (p.side r o h k)

  -- and what is asked of each place is the test of a state
  pub parts_valid : valid_test pl s ≡ true
  unfolding valid_test
  parts_valid =
      also_of p.slot
      (also_of ((entries_each pl s).passes (λ r o h k. (of_side r o h k).0))
      (also_of ((capacities_each pl s).passes (λ q h. (of_queue q h).room))
      (also_of ((places_each pl s).passes (λ q h. (of_queue q h).line))
      (also_of ((wires_each pl s).passes (λ o h. (of_output o h).0))
      (also_of ((empty_each pl s).passes (λ o h. (of_output o h).1))
      (also_of ((choices_each pl s).passes (λ o h. (of_choice o h).0))
      (also_of ((flags_each pl s).passes (λ q h. (of_queue q h).lower))
      (also_of ((picked_each pl s).passes (λ o h. (of_choice o h).1))
      (also_of ((out_flags_each pl s).passes (λ q h. (of_queue q h).unraise))
      (also_of ((marks_each pl s).passes (λ q h. (of_queue q h).mark))
      (also_of ((free_each pl s).passes (λ r o h k. (of_side r o h k).1))
      (also_of ((credits_each pl s).passes (λ q h. (of_queue q h).account))
      (also_of ((out_credits_each pl s).passes (λ q h. (of_queue q h).unspend))
      (also_of p.allowance (also_of ((ties_each pl s).passes p.pair) p.turns)))))))))))))))
