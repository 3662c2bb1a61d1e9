-- A unit's turn keeps every entry owned: a set-up comes to own the entry that it books, a tear-down owned the entry
-- that it frees.
use mathlib.Core.Path.{◌≡◌, refl, sym, ap, subst, ◌∙◌}
use mathlib.Core.Logic.{◌⊎◌, inl, inr}
use mathlib.Core.Bool.{Bool, true, false, ◌&&◌, false≢true}
use mathlib.Core.List.{List, ◌∷◌}
use mathlib.Core.Option.{Option, none, some}
use Prim.Native.Nat.{ℕ, ◌+◌, ◌<◌}
use native.Mathlib.Omega.{arith}
use lib.Dec.{eqb}
use borrow.Author.Tests.{eqb-true}
use Rattle.basis.specs.Choice.{pick, also, also_true, pick_same, test}
use Rattle.packets.specs.declared.Kind.TheVariants.{Setup, Tdown}
use Rattle.packets.specs.declared.Packet.{Packet}
use Rattle.packets.specs.declared.Entry.{Entry}
use Rattle.packets.specs.declared.Entry.TheVariants.{Free, Booked}
use Rattle.plan.specs.Plan.{Plan, R, S}
use Rattle.plan_queues.specs.Queue.{Q}
use Rattle.plan_queues.specs.Feeds.{in_queue, handled_at, Fits, head_place}
use Rattle.plan_facts.specs.Wired.{Wired}
use Rattle.rules.specs.State.{State, is_free}
use Rattle.rules.specs.Execute.{came_in, other_free, may_book, unit}
use Rattle.rules.specs.Connections.{Connection}
use Rattle.rules.specs.Valid.{Belongs}
use Rattle.theory.proofs.Places.Closure.{unit_setup}
use Rattle.theory.specs.Invariant.{Core}
use Rattle.theory.proofs.Places.CameIn.{stands_exit}
use Rattle.theory.specs.Weights.{weighed}
use Rattle.theory.proofs.Cases.{exit_at, may_book_at, unit_books, unit_declines, unit_ends, unit_frees, UnitDoes}
use Rattle.theory.proofs.Cases.{rests, books, declines, ends, frees, unit_does}
use Rattle.theory.proofs.Weights.Moves.{core_head}
use Rattle.theory.proofs.Weights.Changes.{booked_weighed, declined_weighed, freed_weighed, ended_weighed}
use Rattle.theory.specs.Promises.{OwnEntry}
use Rattle.theory.specs.Owners.{Holder, holder_of, owns, made, held_entry, holds, Owned}
use Rattle.theory.proofs.Own.Owning.{holder_same, held, free_none, put3, same_entry, put3_at, entry_same}
use Rattle.theory.proofs.Own.Packets.{fits_as, owns_most, declined_owns, one_at, booked_owns, freed_owns}
use Rattle.theory.proofs.Own.Packets.{ended_owns}
use Rattle.theory.proofs.Own.Steps.{owned_same}

-- an entry that may be booked is free
may_free : (slots : ℕ) (entries : ℕ → Entry) (t : ℕ) → may_book slots entries t ≡ true → entries t ≡ Free
unfolding may_book
may_free slots entries t e = by (entries t) refl e
  where
    by : (x : Entry) → entries t ≡ x → (is_free x && other_free slots entries t) ≡ true → entries t ≡ Free
    by Free q f = q
    by (Booked i) q f = absurd (false≢true f)

-- entries that the test finds one hold one value
at_same : {X : Type 0} (m : ℕ → ℕ → ℕ → X) (r o t i j k : ℕ) → same_entry r o t i j k ≡ true → m r o t ≡ m i j k
at_same m r o t i j k e =
    let p = also_true {a = eqb r i} {b = also (eqb o j) (eqb t k)} e in
    let q = also_true {a = eqb o j} {b = eqb t k} p.1 in
    ap (λ (n : ℕ). m n o t) (eqb-true r i p.0) ∙ ap (λ (n : ℕ). m i n t) (eqb-true o j q.0)
    ∙ ap (m i j) (eqb-true t k q.1)

-- One entry of the table changed: its old holder went, and a new one came.
pub put_owned : {pl : Plan} {acc : List Connection} (s t : State) (k : Owned pl acc s) (i j n : ℕ) (m : Option Holder)
    → t.table ≡ put3 s.table i j n (held_entry m) → ((r o u : ℕ) (v : Holder)
    → weighed pl (owns pl r o u v) t + pick (same_entry r o u i j n) (holds (k.holders i j n) v) 0
    ≡ weighed pl (owns pl r o u v) s + pick (same_entry r o u i j n) (holds m v) 0)
    → Owned pl acc t
put_owned {pl} {acc} s t k i j n m e w =
    record { holders = put3 k.holders i j n m; entries = entries'; owners = owners'; agreed = k.agreed }
  where
    entries' : (r o u : ℕ) → r < R pl → o < 4 → u < S pl → t.table r o u ≡ held_entry (put3 k.holders i j n m r o u)
    entries' r o u hr ho hu =
        ap (λ (f : ℕ → ℕ → ℕ → Entry). f r o u) e
        ∙ put3_at s.table i j n (held_entry m) r o u
        ∙ by (same_entry r o u i j n)
        ∙ sym (ap held_entry (put3_at k.holders i j n m r o u))
      where
        by : (b : Bool) → pick b (held_entry m) (s.table r o u) ≡ held_entry (pick b m (k.holders r o u))
        by true = refl
        by false = k.entries r o u hr ho hu

    owners' : (r o u : ℕ) → r < R pl → o < 4 → u < S pl → (v : Holder)
        → weighed pl (owns pl r o u v) t + made pl r o u v acc ≡ holds (put3 k.holders i j n m r o u) v
    owners' r o u hr ho hu v = by (test (same_entry r o u i j n)) (w r o u v)
        ∙ sym (ap (λ (c : Option Holder). holds c v) (put3_at k.holders i j n m r o u))
      where
        by : (same_entry r o u i j n ≡ true) ⊎ (same_entry r o u i j n ≡ false)
            → weighed pl (owns pl r o u v) t + pick (same_entry r o u i j n) (holds (k.holders i j n) v) 0
            ≡ weighed pl (owns pl r o u v) s + pick (same_entry r o u i j n) (holds m v) 0
            → weighed pl (owns pl r o u v) t + made pl r o u v acc
            ≡ holds (pick (same_entry r o u i j n) m (k.holders r o u)) v
        by (inl q) f =
            let g : weighed pl (owns pl r o u v) t + holds (k.holders i j n) v ≡ weighed pl (owns pl r o u v) s
            + holds m v = rw q at f in
            let old = k.owners r o u hr ho hu v in
            let same : holds (k.holders r o u) v ≡ holds (k.holders i j n) v =
            ap (λ (c : Option Holder). holds c v) (at_same k.holders r o u i j n q) in
            rw q (omega arith)
        by (inr q) f =
            let g : weighed pl (owns pl r o u v) t + 0 ≡ weighed pl (owns pl r o u v) s + 0 = rw q at f in
            let old = k.owners r o u hr ho hu v in
            rw q (omega arith)

module _ {pl : Plan} (wired : Wired pl) {acc : List Connection} (s : State) (c : Core pl s) (k : Owned pl acc s)
    (i d : ℕ) (h : (i < R pl) × (d < 4)) where
  module _ (x : Packet) (rest : List Packet) (e : s.lines.queue (Q i d) ≡ x ∷ rest)
      (f : s.lines.handled (Q i d) ≡ false) where
    -- the entry of the unit's head, and its pair's holder on it
    abbrev exit : ℕ
    exit = exit_at pl i x

    abbrev own : Holder
    own = holder_of pl x.active x.passive i

    here : Belongs pl (in_queue (Q i d)) x
    here = subst (λ (b : Bool). Belongs pl (head_place b (Q i d)) x) f (core_head c (Q i d) h x rest e)

    -- the side out is one of the four
    exit_below : (n : ℕ) → Fits pl Setup x.active x.passive n (in_queue (Q i d)) → exit < 4
    exit_below n g =
        let p = unit_setup wired x.active x.passive here.ranges.active here.ranges.passive here.serves
        i d n g in
        stands_exit wired x.active x.passive here.ranges.active here.ranges.passive here.serves n i
        d p

    -- ---- a set-up
    -- A set-up that books keeps the ownership: nobody owned the entry, now the set-up does.
    pub booked_owned : x.kind ≡ Setup → may_book_at pl i s x ≡ true → Owned pl acc (unit pl i d s)
    booked_owned q t =
        put_owned s (unit pl i d s) k i exit x.slot.0 (some own)
        (ap (λ (u : State). u.table) (unit_books pl i d s x rest e f q t)) by
      where
        free : k.holders i exit x.slot.0 ≡ none
        free =
            free_none (k.holders i exit x.slot.0)
            (sym (k.entries i exit x.slot.0 h.0 (exit_below x.hub.0 (fits_as Setup q here))
            here.ranges.slot)
            ∙ may_free (S pl) (s.table i exit) x.slot.0 t)

        by : (r o u : ℕ) (v : Holder) → weighed pl (owns pl r o u v) (unit pl i d s)
            + pick (same_entry r o u i exit x.slot.0) (holds (k.holders i exit x.slot.0) v) 0
            ≡ weighed pl (owns pl r o u v) s + pick (same_entry r o u i exit x.slot.0) (holds (some own) v) 0
        by r o u v =
            let all = booked_weighed pl (owns pl r o u v) i d h s x rest e f q t in
            let one = booked_owns pl r o u v wired i d x q here in
            let old : pick (same_entry r o u i exit x.slot.0) (holds (k.holders i exit x.slot.0) v) 0 ≡ 0 =
            rw free (pick_same (same_entry r o u i exit x.slot.0) 0) in
            omega arith

    -- A declined set-up keeps what it owned.
    pub declined_owned : x.kind ≡ Setup → may_book_at pl i s x ≡ false → Owned pl acc (unit pl i d s)
    declined_owned q t =
        owned_same s (unit pl i d s) k (ap (λ (u : State). u.table) (unit_declines pl i d s x rest e f q t)) by
      where
        by : (r o u : ℕ) (v : Holder) → weighed pl (owns pl r o u v) (unit pl i d s) ≡ weighed pl (owns pl r o u v) s
        by r o u v =
            let all = declined_weighed pl (owns pl r o u v) i d h s x rest e f q t in
            let one = declined_owns pl r o u v (in_queue (Q i d)) (handled_at i d) x q in
            omega arith

    -- ---- a tear-down
    -- the sum falls by the entry that is freed
    down_weighed : x.kind ≡ Tdown → (r o u : ℕ) (v : Holder)
        → weighed pl (owns pl r o u v) (unit pl i d s) + one_at pl r o u v i x ≡ weighed pl (owns pl r o u v) s
    down_weighed q r o u v = by (test (eqb x.hub.0 1))
      where
        by : (eqb x.hub.0 1 ≡ true) ⊎ (eqb x.hub.0 1 ≡ false)
            → weighed pl (owns pl r o u v) (unit pl i d s) + one_at pl r o u v i x ≡ weighed pl (owns pl r o u v) s
        by (inl t) =
            let all = ended_weighed pl (owns pl r o u v) i d h s x rest e f q t in
            let one = ended_owns pl r o u v wired i d x q (eqb-true x.hub.0 1 t) here in
            omega arith
        by (inr t) =
            let all = freed_weighed pl (owns pl r o u v) i d h s x rest e f q t in
            let one = freed_owns pl r o u v wired i d x q here in
            omega arith

    -- A tear-down finds its entry held for its own pair.
    pub tdown_holder : x.kind ≡ Tdown
        → k.holders i (exit_at pl i x) x.slot.0 ≡ some (holder_of pl x.active x.passive i)
    tdown_holder q =
        let g = fits_as Tdown q here in
        let all = down_weighed q i exit x.slot.0 own in
        let one : one_at pl i exit x.slot.0 own i x ≡ 1 = rw (entry_same i exit x.slot.0, holder_same own) in
        let sum = k.owners i exit x.slot.0 h.0 (exit_below g.0 g.1) here.ranges.slot own in
        held (k.holders i exit x.slot.0) own (omega arith)

    -- A tear-down finds its entry booked with the side that its walk came in by.
    pub tdown_entry : x.kind ≡ Tdown
        → s.table i (exit_at pl i x) x.slot.0 ≡ Booked (came_in pl x.active x.passive i)
    tdown_entry q =
        let g = fits_as Tdown q here in
        k.entries i exit x.slot.0 h.0 (exit_below g.0 g.1) here.ranges.slot
        ∙ ap held_entry (tdown_holder q)

    -- A tear-down owns the entry that it frees: it is held for its own pair, and holds the side that the pair's walk
    -- came in by.
    pub tdown_own : x.kind ≡ Tdown → OwnEntry pl acc s k i d x
    tdown_own q = record { holder = tdown_holder q; entry = tdown_entry q; own = own' }
      where
        own' : owns pl i exit x.slot.0 own (in_queue (Q i d)) x ≡ 1
        own' =
            let all = freed_owns pl i exit x.slot.0 own wired i d x q here in
            let one : one_at pl i exit x.slot.0 own i x ≡ 1 = rw (entry_same i exit x.slot.0, holder_same own) in
            let most = owns_most pl i exit x.slot.0 own (in_queue (Q i d)) x in
            omega arith

    torn_owned : x.kind ≡ Tdown → (unit pl i d s).table ≡ put3 s.table i exit x.slot.0 Free
        → Owned pl acc (unit pl i d s)
    torn_owned q t = put_owned s (unit pl i d s) k i exit x.slot.0 none t by
      where
        by : (r o u : ℕ) (v : Holder) → weighed pl (owns pl r o u v) (unit pl i d s)
            + pick (same_entry r o u i exit x.slot.0) (holds (k.holders i exit x.slot.0) v) 0
            ≡ weighed pl (owns pl r o u v) s + pick (same_entry r o u i exit x.slot.0) 0 0
        by r o u v =
            let all = down_weighed q r o u v in
            let none = pick_same {A = ℕ} (same_entry r o u i exit x.slot.0) 0 in
            rw (tdown_holder q) (omega arith)

    -- A tear-down that frees its last entry keeps the ownership of the others.
    pub ended_owned : x.kind ≡ Tdown → eqb x.hub.0 1 ≡ true → Owned pl acc (unit pl i d s)
    ended_owned q t = torn_owned q (ap (λ (u : State). u.table) (unit_ends pl i d s x rest e f q t))

    -- So does one that frees an entry and goes on.
    pub freed_owned : x.kind ≡ Tdown → eqb x.hub.0 1 ≡ false → Owned pl acc (unit pl i d s)
    freed_owned q t = torn_owned q (ap (λ (u : State). u.table) (unit_frees pl i d s x rest e f q t))

  -- A unit's turn keeps the ownership.
  pub unit_owned : Owned pl acc (unit pl i d s)
  unit_owned = by (unit_does pl i d s)
    where
      by : UnitDoes pl i d s → Owned pl acc (unit pl i d s)
      by (rests e) = subst (Owned pl acc) (sym e) k
      by (books x rest e f q t) = booked_owned x rest e f q t
      by (declines x rest e f q t) = declined_owned x rest e f q t
      by (ends x rest e f q t) = ended_owned x rest e f q t
      by (frees x rest e f q t) = freed_owned x rest e f q t
