-- The tests of phases, wires, choices, marks and entries decide what Valid says of one place; and loops over numbers
-- decide what it says of every place.
use mathlib.Core.Path.{◌≡◌, refl, ap, subst}
use mathlib.Core.Logic.{◌⊎◌, inl, inr, ◌≢◌}
use mathlib.Core.Bool.{Bool, true, false, not, ◌||◌}
use mathlib.Core.List.{List, [], ◌∷◌}
use mathlib.Core.Option.{Option, none, some}
use Prim.Native.Nat.{ℕ, ◌<◌}
use native.Mathlib.Omega.{arith}
use Rattle.basis.specs.Choice.{also, not_both, refuted}
use Rattle.packets.specs.declared.Packet.{Packet}
use Rattle.packets.specs.declared.Wire.{Wire}
use Rattle.packets.specs.declared.Wire.TheVariants.{Empty, Full}
use Rattle.packets.specs.declared.Phase.{Phase}
use Rattle.packets.specs.declared.Phase.TheVariants.{Read, Execute, Write}
use Rattle.packets.specs.declared.Entry.{Entry}
use Rattle.packets.specs.declared.Entry.TheVariants.{Free, Booked}
use Rattle.plan.specs.Plan.{Plan}
use Rattle.plan_queues.specs.Queue.{Queue, Q, Exists, number, queues, queue_at}
use Rattle.plan_queues.specs.Role.{is_unit, unit_or}
use Rattle.plan_queues.specs.Feeds.{Output}
use Rattle.rules.specs.Outputs.{senders, outputs, output_at, output_number}
use Rattle.rules.specs.State.{State, Choice, nobody, sender, is_free, is_full}
use Rattle.rules.specs.Execute.{candidate}
use Rattle.rules.specs.Write.{of_rank}
use Rattle.rules.specs.Visits.{is_empty}
use Rattle.rules.specs.Calls.{is_phase}
use Rattle.rules.specs.Valid.{Drives}
use Rattle.plan_journeys.proofs.Numbers.{queue_at_lem, number_below}
use Rattle.plan_journeys.proofs.Places.{some_not_none, some_same}
use Rattle.rules.proofs.Apart.{nobody_not, sender_same}
use Rattle.rules.proofs.Numbers.{exists_at}
use Rattle.rules.proofs.OutNumbers.{output_at_lem, output_below, drives_at}
use Rattle.valid.proofs.Decides.{Decides, like, never, always, so, not_so, less, both, if_so, if_not, all_below_lem}
use Rattle.valid.specs.Test.{every_queue, every_output, may_test, choice_test, down_test, picked_test, entry_test}

-- ---- every queue and every output of the plan, by number
module _ (pl : Plan) where
  pub every_queue_lem : (f : Queue → Bool) (X : Queue → Type 0) → ((q : Queue) → Exists pl q → Decides (f q) (X q))
      → Decides (every_queue pl f) ((q : Queue) → Exists pl q → X q)
  every_queue_lem f X d =
      like (all_below_lem (queues pl) (λ n. f (queue_at pl n)) (λ n. X (queue_at pl n))
      (λ n h. d (queue_at pl n) (exists_at pl n h)))
      (λ g q h. subst X (queue_at_lem pl q h) (g (number pl q) (number_below pl q h)))
      (λ g n h. g (queue_at pl n) (exists_at pl n h))

  pub every_output_lem : (f : Output → Bool) (X : Output → Type 0) → ((o : Output) → Drives pl o → Decides (f o) (X o))
      → Decides (every_output pl f) ((o : Output) → Drives pl o → X o)
  every_output_lem f X d =
      like (all_below_lem (outputs pl) (λ n. f (output_at pl n)) (λ n. X (output_at pl n))
      (λ n h. d (output_at pl n) (drives_at pl n h)))
      (λ g o h. subst X (output_at_lem pl o h) (g (output_number pl o) (output_below pl o h)))
      (λ g n h. g (output_at pl n) (drives_at pl n h))

-- ---- phases
pub is_phase_lem : (x y : Phase) → Decides (is_phase x y) (x ≡ y)
is_phase_lem Read Read = always refl
is_phase_lem Read Execute = never (λ e. let z : ◌≡◌ {A = ℕ} 0 1 = cc in omega arith)
is_phase_lem Read Write = never (λ e. let z : ◌≡◌ {A = ℕ} 0 1 = cc in omega arith)
is_phase_lem Execute Read = never (λ e. let z : ◌≡◌ {A = ℕ} 0 1 = cc in omega arith)
is_phase_lem Execute Execute = always refl
is_phase_lem Execute Write = never (λ e. let z : ◌≡◌ {A = ℕ} 0 1 = cc in omega arith)
is_phase_lem Write Read = never (λ e. let z : ◌≡◌ {A = ℕ} 0 1 = cc in omega arith)
is_phase_lem Write Execute = never (λ e. let z : ◌≡◌ {A = ℕ} 0 1 = cc in omega arith)
is_phase_lem Write Write = always refl

-- a claim that is made in one phase, or in the others
pub in_phase : (x y : Phase) {t : Bool} {Y : Type 0} → Decides t Y → Decides (not (is_phase x y) || t) (x ≡ y → Y)
in_phase x y d = like (if_so (is_phase x y) d) (λ f e. f ((is_phase_lem x y).passes e))
    (λ f e. f ((is_phase_lem x y).holds e))

pub out_of_phase : (x y : Phase) {t : Bool} {Y : Type 0} → Decides t Y → Decides (is_phase x y || t) (x ≢ y → Y)
out_of_phase x y d =
    like (if_not (is_phase x y) d) (λ f ne. f (refuted (is_phase x y) (λ e. ne ((is_phase_lem x y).holds e))))
    (λ f e. f (λ q. not_both ((is_phase_lem x y).passes q) e))

-- ---- one wire
pub empty_decides : (t : Wire) → Decides (not (is_full t)) (t ≡ Empty)
empty_decides Empty = always refl
empty_decides (Full x) = never (λ e. let z : ◌≡◌ {A = ℕ} 0 1 = cc in omega arith)

-- ---- one choice
module _ (pl : Plan) (s : State) (o : Output) where
  may_decides : (t : Option Queue)
      → Decides (may_test pl s o t) ((q : Queue) × (t ≡ some q) × (candidate pl s o q ≡ true))
  may_decides none = never (λ f. some_not_none f.1)
  may_decides (some q) = like (so (candidate pl s o q)) (λ e. (q, refl, e)) (λ f. rw (some_same f.1) f.2)

  pub choice_decides : (c : Choice)
      → Decides (choice_test pl s o c) ((k : ℕ) → c ≡ sender k → (s.clock.phase ≡ Write)
      × ((q : Queue) × (of_rank (senders o) k ≡ some q) × (candidate pl s o q ≡ true)))
  choice_decides nobody = always (λ k e. absurd (nobody_not e))
  choice_decides (sender j) =
      like (both (is_phase_lem s.clock.phase Write) (λ w. may_decides (of_rank (senders o) j)))
      (λ f k e. rw (← sender_same e) f) (λ f. f j refl)

  down_decides : (t : Option Queue) → Decides (down_test s t) ((q : Queue) → t ≡ some q → s.flow.flag q ≡ false)
  down_decides none = always (λ q e. absurd (some_not_none e))
  down_decides (some q) = like (not_so (s.flow.flag q)) (λ e y h. rw (← some_same h) e) (λ f. f q refl)

  pub picked_decides : (c : Choice) → Decides (picked_test s o c)
      ((k : ℕ) (q : Queue) → c ≡ sender k → of_rank (senders o) k ≡ some q → s.flow.flag q ≡ false)
  picked_decides nobody = always (λ k q e h. absurd (nobody_not e))
  picked_decides (sender j) =
      like (down_decides (of_rank (senders o) j)) (λ f k q e h. f q (rw (sender_same e) h)) (λ f q h. f j q refl h)

-- ---- one mark
is_unit_lem : (q : Queue) → Decides (is_unit q) ((r i : ℕ) × (q ≡ Q r i))
is_unit_lem q = by (unit_or q)
  where
    by : ((r i : ℕ) × (q ≡ Q r i)) ⊎ (is_unit q ≡ false) → Decides (is_unit q) ((r i : ℕ) × (q ≡ Q r i))
    by (inl (r, i, e)) = rw e (always (r, i, refl))
    by (inr n) = rw n (never (λ f. not_both (ap is_unit f.2) n))

filled : (xs : List Packet) → Decides (not (is_empty xs)) (xs ≢ [])
filled [] = never (λ f. f refl)
filled (x ∷ xs) = always (λ e. let z : ◌≡◌ {A = ℕ} 0 1 = cc in omega arith)

pub mark_decides : (q : Queue) (done : Bool) (xs : List Packet)
    → Decides (not done || also (is_unit q) (not (is_empty xs))) (done ≡ true → (r i : ℕ) × (q ≡ Q r i) × (xs ≢ []))
mark_decides q done xs =
    like (if_so done (both (is_unit_lem q) (λ u. filled xs))) (λ f e. let g = f e in (g.0.0, g.0.1, g.0.2, g.1))
    (λ f e. let g = f e in ((g.0, g.1, g.2), g.3))

-- ---- one entry
pub entry_decides : (e : Entry) → Decides (entry_test e) ((i : ℕ) → e ≡ Booked i → i < 4)
entry_decides Free = always (λ i e. let z : ◌≡◌ {A = ℕ} 0 1 = cc in absurd (omega arith))
entry_decides (Booked j) = like (less j 4) (λ l i e. let q : j ≡ i = cc in rw (← q) l) (λ f. f j refl)

pub free_decides : (e : Entry) → Decides (is_free e) (e ≡ Free)
free_decides Free = always refl
free_decides (Booked i) = never (λ e. let z : ◌≡◌ {A = ℕ} 0 1 = cc in omega arith)
