-- EXECUTE keeps the places: a unit's head, handled, belongs there, and the table keeps a free entry a side; an
-- active's NACK and its TDOWN belong in the active's queues.
use mathlib.Core.Path.{◌≡◌, refl, sym, ◌∙◌}
use mathlib.Core.Logic.{◌≢◌}
use mathlib.Core.Bool.{Bool, true, false, not, ◌&&◌, false≢true, and-eq-true_iff}
use mathlib.Core.List.{List, [], ◌∷◌}
use mathlib.Core.Option.{some}
use Prim.Native.Nat.{ℕ, ◌<◌}
use lib.Dec.{eqb}
use borrow.Author.Tests.{eqb-true, eqb-false, not-true}
use Rattle.basis.specs.Bounded.{Found, any_true}
use Rattle.packets.specs.declared.Kind.{Kind}
use Rattle.packets.specs.declared.Kind.TheVariants.{Setup, Tdown, Ack, Nack}
use Rattle.packets.specs.declared.Packet.{Packet}
use Rattle.packets.specs.declared.Entry.{Entry}
use Rattle.packets.specs.declared.Entry.TheVariants.{Free, Booked}
use Rattle.plan.specs.Head.{InRange}
use Rattle.plan.specs.Plan.{Plan, passive, R, A, S, route_to}
use Rattle.plan_queues.specs.Queue.{Queue, active_out, active_in, Q}
use Rattle.plan_queues.specs.Feeds.{Output, in_queue, handled_at}
use Rattle.plan_facts.specs.Wired.{Wired}
use Rattle.rules.specs.Store.{put_here, put_away}
use Rattle.rules.specs.Outputs.{senders}
use Rattle.rules.specs.State.{State, Choice, sender, nobody, blank, with_entry, is_free}
use Rattle.rules.specs.Execute.{came_in, declined, booked, freed, other_free, may_book, handled_as, set_up, tear_one}
use Rattle.rules.specs.Execute.{tear_down, handle, at_unit, unit, candidate, picked, choose, unmarked}
use Rattle.rules.specs.Execute.{marked, tdown_of, has_room, answer, at_active, undo}
use Rattle.rules.specs.Write.{of_rank}
use Rattle.rules.specs.Valid.{Belongs, Drives, Bounded}
use Rattle.rules.proofs.Apart.{booked_not, booked_same}
use Rattle.theory.proofs.Ground.Puts.{number_one}
use Rattle.theory.proofs.Places.Feeders.{sender_leaves}
use Rattle.theory.proofs.Places.Lines.{head_some, output_drives}
use Rattle.theory.proofs.Places.Makes.{side_out, side_in, booked_belongs, declined_belongs, freed_belongs}
use Rattle.theory.proofs.Places.Makes.{marked_belongs, tdown_belongs}
use Rattle.theory.proofs.Cases.{unmarked_kind_lem}
use Rattle.theory.proofs.Kept.Parts.{Kept, choice_kept, flag_kept, entry_kept}
use Rattle.theory.proofs.Kept.Lines.{head_belongs, behind_belong, line_kept, mark_kept, join_kept, gone_kept}
use Rattle.theory.proofs.Shape.Arbitration.{picked_candidate}

-- ---- what tests tell
free_of : (e : Entry) → is_free e ≡ true → e ≡ Free
free_of Free t = refl
free_of (Booked i) t = absurd (false≢true t)

-- an entry that may be booked leaves its side another free one
pub other_free_lem : (slots : ℕ) (entries : ℕ → Entry) (t : ℕ) → may_book slots entries t ≡ true
    → (u : ℕ) × (u < slots) × (u ≢ t) × (entries u ≡ Free)
unfolding may_book other_free
other_free_lem slots entries t m = by (any_true slots (λ u. not (eqb u t) && is_free (entries u))
    ((and-eq-true_iff (is_free (entries t)) (other_free slots entries t)).0 m).1)
  where
    by : Found slots (λ u. not (eqb u t) && is_free (entries u)) → (u : ℕ) × (u < slots) × (u ≢ t) × (entries u ≡ Free)
    by (u, h, e) =
        let c = (and-eq-true_iff (not (eqb u t)) (is_free (entries u))).0 e in
        (u, h, eqb-false u t (not-true (eqb u t) c.0), free_of (entries u) c.1)

-- an output that is not the plan's picks nobody: its senders are empty
pub picks_nobody : (pl : Plan) (s : State) → Bounded pl s → (o : Output) → (Drives pl o → ⊥) → picked pl s o ≡ nobody
unfolding candidate blank
picks_nobody pl s b o out = by (picked pl s o) refl
  where
    idle : (j : ℕ) (q : Queue) → of_rank (senders o) j ≡ some q → candidate pl s o q ≡ false
    idle j q e = rw (b.queue q (λ h. out (output_drives pl q o h (sender_leaves o j q e))))

    by : (c : Choice) → picked pl s o ≡ c → c ≡ nobody
    by nobody e = refl
    by (sender k) e = let c = (picked_candidate pl s o k e).1 in absurd (false≢true (sym (idle k c.0 c.1) ∙ c.2))

module _ {pl : Plan} (wired : Wired pl) (range : InRange pl.head) where
  -- ---- a unit's unhandled head x
  module _ (r i : ℕ) (hr : (r < R pl) × (i < 4)) (s : State) (k : Kept pl s) (x : Packet) (rest : List Packet)
      (e : s.lines.queue (Q r i) ≡ x ∷ rest) (f : s.lines.handled (Q r i) ≡ false) where
    abbrev side : ℕ
    side = route_to pl (passive x.passive) r

    here : Belongs pl (in_queue (Q r i)) x
    here = rw f at (head_belongs k (Q r i) x rest hr e)

    -- the side that it leaves by is one of the four
    out : side < 4
    out = side_out wired range x (in_queue (Q r i)) here r i refl

    -- it is handled as y, perhaps with an entry changed
    handled_as_lem : {t : State} → Kept pl t → (y : Packet) → Belongs pl (handled_at r i) y → Kept pl
        (handled_as r i y rest t)
    handled_as_lem kt y b =
        mark_kept kt (Q r i) true (y ∷ rest) hr (b, behind_belong k (Q r i) x rest hr e) (λ d.
        (r, i, refl, head_some y rest))

    set_up_lem : (m : Bool) → may_book (S pl) (s.table r side) x.slot.0 ≡ m → x.kind ≡ Setup
        → Kept pl (set_up pl r i side x rest m s)
    unfolding set_up
    set_up_lem true m q = handled_as_lem (by (other_free_lem (S pl) (s.table r side) x.slot.0 m)) (booked (S pl) x)
        (booked_belongs wired range x (in_queue (Q r i)) here r i refl q)
      where
        by : (u : ℕ) × (u < S pl) × (u ≢ x.slot.0) × (s.table r side u ≡ Free)
            → Kept pl (with_entry r side x.slot.0 (Booked (came_in pl x.active x.passive r)) s)
        by (u, hu, ne, free) =
            entry_kept k r side x.slot.0 (Booked (came_in pl x.active x.passive r)) hr.0 out
            here.ranges.slot
            (λ j c. rw (← booked_same c) (side_in wired range x (in_queue (Q r i)) here r i refl)) u hu
            (put_away eqb number_one eqb-true (s.table r side) x.slot.0
            (Booked (came_in pl x.active x.passive r)) u ne ∙ free)
    set_up_lem false m q = handled_as_lem k (declined x) (declined_belongs wired range x (in_queue (Q r i)) here r i
        refl q)

    tear_down_lem : x.kind ≡ Tdown → Kept pl (tear_down pl r i side x rest s)
    unfolding tear_down tear_one
    tear_down_lem q = by (eqb x.hub.0 1) refl
      where
        entry : Kept pl (with_entry r side x.slot.0 Free s)
        entry =
            entry_kept k r side x.slot.0 Free hr.0 out here.ranges.slot (λ j c. absurd (booked_not c))
            x.slot.0 here.ranges.slot
            (put_here eqb number_one eqb-true (s.table r side) x.slot.0 Free)

        by : (one : Bool) → eqb x.hub.0 1 ≡ one
            → Kept pl (tear_one pl r i x rest one (with_entry r side x.slot.0 Free s))
        by true o = flag_kept (gone_kept entry (Q r i) x rest hr e f) (Q r i) true hr
        by false o = handled_as_lem entry (freed (S pl) x)
            (freed_belongs wired range x (in_queue (Q r i)) here r i refl q (eqb-false x.hub.0 1 o))

    handled : (kind : Kind) → x.kind ≡ kind → Kept pl (handle pl r i side kind x rest s)
    unfolding handle
    handled Setup q = set_up_lem (may_book (S pl) (s.table r side) x.slot.0) refl q
    handled Tdown q = tear_down_lem q
    handled Ack q = k
    handled Nack q = k

  -- a unit handles its head
  pub unit_kept : (r i : ℕ) (s : State) → (r < R pl) × (i < 4) → Kept pl s → Kept pl (unit pl r i s)
  unfolding unit at_unit
  unit_kept r i s hr k = by (s.lines.queue (Q r i)) refl (s.lines.handled (Q r i)) refl
    where
      by : (l : List Packet) → s.lines.queue (Q r i) ≡ l → (done : Bool) → s.lines.handled (Q r i) ≡ done
          → Kept pl (at_unit pl r i l done s)
      by [] e done f = k
      by (x ∷ rest) e true f = k
      by (x ∷ rest) e false f = handled r i hr s k x rest e f x.kind refl

  -- an output picks a sender
  pub choose_kept : (o : Output) (s : State) → Kept pl s → Kept pl (choose pl o s)
  unfolding choose blank
  choose_kept o s k = choice_kept k o (picked pl s o) (picks_nobody pl s k.bounded o)

  -- an active tears down what was declined
  pub undo_kept : (a : ℕ) (s : State) → a < A pl → Kept pl s → Kept pl (undo pl a s)
  unfolding undo at_active answer
  undo_kept a s ha k = by (s.lines.queue (active_in a)) refl
    where
      answered : (x : Packet) (rest : List Packet) → s.lines.queue (active_in a) ≡ x ∷ rest → (t : Bool)
          → (unmarked x && has_room pl (active_out a) s) ≡ t → Kept pl (answer pl a x rest t s)
      answered x rest e true t =
          let nack =
          unmarked_kind_lem x.kind x.hub.0 ((and-eq-true_iff (unmarked x) (has_room pl (active_out a) s)).0 t).0 in
          let here : Belongs pl (in_queue (active_in a)) x = head_belongs k (active_in a) x rest ha e in
          let mark : Belongs pl (in_queue (active_in a)) (marked x) =
          marked_belongs wired range x (in_queue (active_in a)) here a refl nack.0 in
          join_kept (line_kept k (active_in a) (marked x ∷ rest) ha (mark, behind_belong k (active_in a) x rest ha e)
          (λ d. head_some (marked x) rest))
          (active_out a) (tdown_of (S pl) x) ha
          (tdown_belongs wired range x (in_queue (active_in a)) here a refl nack.1)
      answered x rest e false t = k

      by : (l : List Packet) → s.lines.queue (active_in a) ≡ l → Kept pl (at_active pl a l s)
      by [] e = k
      by (x ∷ rest) e = answered x rest e (unmarked x && has_room pl (active_out a) s) refl
