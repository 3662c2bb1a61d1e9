-- Each way out of a unit's turn, told of the bytes.
use mathlib.Core.Path.{◌≡◌, refl, sym, ap, ◌∙◌}
use mathlib.Core.Logic.{◌⊎◌, inl, inr}
use mathlib.Core.Bool.{true, false}
use mathlib.Core.List.{List, [], ◌∷◌}
use Prim.Native.Nat.{ℕ, suc, ◌+◌, ◌*◌, ◌<◌}
use native.Mathlib.Numerals.{add-one}
use native.Mathlib.Omega.{arith}
use lib.Dec.{eqb}
use lib.ListN.{length, get_or, set}
use Rattle.basis.specs.Choice.{test}
use Rattle.packets.specs.declared.Kind.TheVariants.{Setup, Tdown, Ack, Nack}
use Rattle.packets.specs.declared.Packet.{Packet}
use Rattle.packets.specs.declared.Entry.TheVariants.{Free, Booked}
use Rattle.plan.specs.Head.{InRange}
use Rattle.plan.specs.Plan.{Plan, R, S}
use Rattle.plan_queues.specs.Queue.{Q}
use Rattle.plan_facts.specs.Wired.{Wired}
use Rattle.rules.specs.State.{State, Lines, with_entry}
use Rattle.rules.specs.Execute.{came_in, declined, booked, freed, may_book, handled_as, unit}
use Rattle.theory.proofs.Cases.{exit_at, unit_empty, unit_handled, unit_books, unit_declines, unit_ends, unit_frees}
use Rattle.bytes_layout.specs.Offsets.{queue_row, entry_row}
use Rattle.bytes_layout.specs.Places.{packet_at}
use Rattle.bytes_layout.specs.Decode.{length_at}
use Rattle.bytes_layout.specs.Encode.{encode}
use Rattle.bytes_layout.proofs.Readings.{length_at_lem, head_at}
use Rattle.bytes_layout.proofs.Updates.{put_entry}
use Rattle.bytes_steps.specs.Acts.{Steps}
use Rattle.phase_execute.specs.Moments.{Turn, Heads}
use Rattle.phase_execute.specs.Lent.{queue_of, settled, Settles, entries_at}
use Rattle.phase_pick.proofs.Steps.{steps_same}
use Rattle.phase_pick.proofs.Bytes.{line_some, queue_room, no_packet, some_packet, marked, unmarked}
use Rattle.phase_execute.proofs.Bytes.{entry_on, line_few}
use Rattle.phase_execute.proofs.Handled.{here, exit_side, setup_hub, setup_came, tdown_hub, no_ack, no_nack}
use Rattle.phase_execute.proofs.Handled.{settle_stays, settle_ends, handled_booked, handled_declined, handled_ends}
use Rattle.phase_execute.proofs.Handled.{handled_freed, may_book_at}

module _ {pl : Plan} (wired : Wired pl) (range : InRange pl.head) (r i : ℕ) (hr : (r < R pl) × (i < 4)) where
  -- ---- a unit that does nothing
  pub steps_empty : {at : ℕ} {b : List ℕ} → at ≡ queue_row pl (Q r i) → length_at at b ≡ 0
      → Steps pl (Turn pl (4 * r + i)) (unit pl r i) b b
  steps_empty {at} {b} ea z =
      steps_same pl (λ s rest t e. unit_empty pl r i s (no_packet pl s rest b e (Q r i) hr (rw ea at z)))

  -- its head, or nothing
  pub steps_marked : {at : ℕ} {b : List ℕ} → at ≡ queue_row pl (Q r i) → (get_or b (at + 2) 0 ≡ 0 → ⊥)
      → Steps pl (Turn pl (4 * r + i)) (unit pl r i) b b
  steps_marked {at} {b} ea n = steps_same pl done
    where
      done : (s : State) (rest : List ℕ) → Turn pl (4 * r + i) s → b ≡ encode pl s rest → unit pl r i s ≡ s
      done s rest t e = by (s.lines.queue (Q r i)) refl
        where
          by : (l : List Packet) → s.lines.queue (Q r i) ≡ l → unit pl r i s ≡ s
          by [] k = unit_empty pl r i s k
          by (x ∷ xs) k = unit_handled pl r i s x xs k (marked pl s rest b e (Q r i) hr (rw ea at n))

  -- a head that is not handled
  pub heads_by : {at : ℕ} {b : List ℕ} {x : Packet} → at ≡ queue_row pl (Q r i) → (length_at at b ≡ 0 → ⊥)
      → get_or b (at + 2) 0 ≡ 0 → x ≡ packet_at (at + 4) b → (s : State) (rest : List ℕ) → Turn pl (4 * r + i) s
      → b ≡ encode pl s rest → Heads pl r i x s
  heads_by {at} {b} {x} ea n z ex s rest t e =
      by (line_some (s.lines.queue (Q r i)) (some_packet pl s rest b e (Q r i) hr (rw ea at n)))
    where
      by : (y : Packet) × (ys : List Packet) × (s.lines.queue (Q r i) ≡ y ∷ ys) → Heads pl r i x s
      by (y, ys, k) =
          let same : x ≡ y = ex ∙ rw ea (head_at pl s rest b e (Q r i) hr y ys k) in
          record {
            turn = t;
            rest = ys;
            line = rw same k;
            fresh = unmarked pl s rest b e (Q r i) hr (rw ea at z);
          }

  module _ (x : Packet) where
    -- no answer is there
    pub steps_ack : {b : List ℕ} → x.kind ≡ Ack → Steps pl (Heads pl r i x) (unit pl r i) b b
    steps_ack q = steps_same pl (λ s rest g e. absurd (no_ack wired range r i hr x s g q))

    pub steps_nack : {b : List ℕ} → x.kind ≡ Nack → Steps pl (Heads pl r i x) (unit pl r i) b b
    steps_nack q = steps_same pl (λ s rest g e. absurd (no_nack wired range r i hr x s g q))

    -- ---- what the handling asks, of the bytes of a state with the same lines
    pub settles_as : (at slots : ℕ) (s u : State) (rest b : List ℕ) → at ≡ queue_row pl (Q r i) → slots ≡ S pl
        → Heads pl r i x s → u.lines ≡ s.lines → b ≡ encode pl u rest → Settles at x slots b
    settles_as at slots s u rest b ea el g k e =
        rw (ea, el) (
        let n : length_at (queue_row pl (Q r i)) b ≡ length (s.lines.queue (Q r i)) =
        length_at_lem pl u rest b e (Q r i) hr ∙ ap (λ (l : Lines). length (l.queue (Q r i))) k in
        let m : length (s.lines.queue (Q r i)) ≡ suc (length g.rest) = ap length g.line in
        let c = line_few pl s range g.turn.core (Q r i) hr in
        record {
          inside = queue_room pl u rest b e (Q r i) hr;
          few = omega arith;
          ready = record {
            slot = (here wired range r i hr x s g).ranges.slot;
            few = range.slots.1;
            some = omega arith;
            setup = setup_hub wired range r i hr x s g;
            tdown = tdown_hub wired range r i hr x s g;
          };
        })

    abbrev side : ℕ
    side = exit_at pl r x

    abbrev slot : ℕ
    slot = x.slot.0

    -- ---- a SETUP
    books : {b c : List ℕ} → x.kind ≡ Setup
        → may_book (S pl) (entries_at (entry_row pl r side 0) b) slot ≡ true
        → c ≡ settled (queue_row pl (Q r i)) x 1 (S pl) (set b (entry_row pl r side slot) (suc i))
        → Steps pl (Heads pl r i x) (unit pl r i) b c
    books {b} {c} q m k =
        record {
          done = λ s rest g e.
              let ho = exit_side wired range r i hr x s g in
              let ht = (here wired range r i hr x s g).ranges.slot in
              let few = range.slots.1 in
              let ht' : slot < 32 = omega arith in
              let u : State = with_entry r side slot (Booked i) s in
              let w : set b (entry_row pl r side slot) (suc i) ≡ encode pl u rest =
              ap (λ (l : List ℕ). set l (entry_row pl r side slot) (suc i)) e
              ∙ put_entry pl s rest r side slot (Booked i) hr.0 ho ht' in
              k ∙ settle_stays pl r i hr x 1 (S pl) u rest (set b (entry_row pl r side slot) (suc i)) w
              (g.turn.down r i (omega arith) hr) g.rest g.line (booked (S pl) x)
              (handled_booked (queue_of (queue_row pl (Q r i)) x (set b (entry_row pl r side slot) (suc i))) (S pl) q)
              ∙ ap (λ (t : State). encode pl t rest) (after s g (setup_came wired range r i hr x s g q)
              (sym (may_book_at pl r side slot s rest b e range hr.0 ho ht) ∙ m));
        }
      where
        after : (s : State) (g : Heads pl r i x s) → i ≡ came_in pl x.active x.passive r
            → may_book (S pl) (s.table r side) slot ≡ true
            → handled_as r i (booked (S pl) x) g.rest (with_entry r side slot (Booked i) s) ≡ unit pl r i s
        after s g z t =
            ap (λ (v : ℕ). handled_as r i (booked (S pl) x) g.rest (with_entry r side slot (Booked v) s)) z
            ∙ sym (unit_books pl r i s x g.rest g.line g.fresh q t)

    pub steps_booked : {at near o t n slots : ℕ} {b c : List ℕ} → at ≡ queue_row pl (Q r i) → o ≡ exit_at pl r x
        → near ≡ entry_row pl r o 0 → t ≡ x.slot.0 → slots ≡ S pl → n ≡ slots → x.kind ≡ Setup
        → may_book n (entries_at near b) t ≡ true → c ≡ settled at x 1 slots (set b (near + 2 * t) (i + 1))
        → Steps pl (Heads pl r i x) (unit pl r i) b c
    steps_booked ea eo en et el es q m k =
        books q (rw (es, el, en, eo, et) at m)
        (rw (ea, el, en, eo, et, ← entry_on pl r (exit_at pl r x) x.slot.0, add-one) at k)

    pub steps_declined : {at near o t n slots : ℕ} {b c : List ℕ} → at ≡ queue_row pl (Q r i) → o ≡ exit_at pl r x
        → near ≡ entry_row pl r o 0 → t ≡ x.slot.0 → slots ≡ S pl → n ≡ slots → x.kind ≡ Setup
        → may_book n (entries_at near b) t ≡ false → c ≡ settled at x 0 slots b
        → Steps pl (Heads pl r i x) (unit pl r i) b c
    steps_declined {b = b} ea eo en et el es q m k =
        record {
          done = λ s rest g e.
              let ho = exit_side wired range r i hr x s g in
              let ht = (here wired range r i hr x s g).ranges.slot in
              let n : may_book (S pl) (entries_at (entry_row pl r side 0) b) slot ≡ false =
              rw (es, el, en, eo, et) at m in
              (rw (ea, el) at k)
              ∙ settle_stays pl r i hr x 0 (S pl) s rest b e (g.turn.down r i (omega arith) hr) g.rest g.line
              (declined x) (handled_declined (queue_of (queue_row pl (Q r i)) x b) (S pl) q)
              ∙ ap (λ (t : State). encode pl t rest) (sym (unit_declines pl r i s x g.rest g.line g.fresh q
              (sym (may_book_at pl r side slot s rest b e range hr.0 ho ht) ∙ n)));
        }

    -- ---- a TDOWN
    pub steps_torn : {at near o t slots : ℕ} {b c : List ℕ} → at ≡ queue_row pl (Q r i) → o ≡ exit_at pl r x
        → near ≡ entry_row pl r o t → t ≡ x.slot.0 → slots ≡ S pl → x.kind ≡ Tdown
        → c ≡ settled at x 0 slots (set b near 0) → Steps pl (Heads pl r i x) (unit pl r i) b c
    steps_torn {b = b} {c = c} ea eo en et el q k =
        record {
          done = λ s rest g e.
              let ho = exit_side wired range r i hr x s g in
              let ht = (here wired range r i hr x s g).ranges.slot in
              let few = range.slots.1 in
              let ht' : slot < 32 = omega arith in
              let w : set b (entry_row pl r side slot) 0 ≡ encode pl (with_entry r side slot Free s) rest =
              ap (λ (l : List ℕ). set l (entry_row pl r side slot) 0) e
              ∙ put_entry pl s rest r side slot Free hr.0 ho ht' in
              (rw (ea, el, en, eo, et) at k) ∙ by s rest g w (test (eqb x.hub.0 1));
        }
      where
        by : (s : State) (rest : List ℕ) (g : Heads pl r i x s)
            → set b (entry_row pl r side slot) 0 ≡ encode pl (with_entry r side slot Free s) rest
            → (eqb x.hub.0 1 ≡ true) ⊎ (eqb x.hub.0 1 ≡ false)
            → settled (queue_row pl (Q r i)) x 0 (S pl) (set b (entry_row pl r side slot) 0) ≡ encode pl
            (unit pl r i s) rest
        by s rest g w (inl t) =
            settle_ends pl r i hr x 0 (S pl) (with_entry r side slot Free s) rest (set b (entry_row pl r side slot) 0) w
            (g.turn.down r i (omega arith) hr) g.rest g.line (line_few pl s range g.turn.core (Q r i) hr)
            (handled_ends (queue_of (queue_row pl (Q r i)) x (set b (entry_row pl r side slot) 0)) (S pl) q t)
            ∙ ap (λ (t : State). encode pl t rest) (sym (unit_ends pl r i s x g.rest g.line g.fresh q t))
        by s rest g w (inr t) =
            settle_stays pl r i hr x 0 (S pl) (with_entry r side slot Free s) rest (set b (entry_row pl r side slot) 0)
            w
            (g.turn.down r i (omega arith) hr) g.rest g.line (freed (S pl) x)
            (handled_freed (queue_of (queue_row pl (Q r i)) x (set b (entry_row pl r side slot) 0)) (S pl) q t)
            ∙ ap (λ (t : State). encode pl t rest) (sym (unit_frees pl r i s x g.rest g.line g.fresh q t))
