-- A unit's turn on bytes: what its head's numbers are, and that the queue lent, handled and put back is the rule's.
use mathlib.Core.Path.{◌≡◌, refl, sym, ap, ap₂, ◌∙◌}
use mathlib.Core.Bool.{Bool, true, false, not, ◌&&◌}
use mathlib.Core.List.{List, ◌∷◌}
use Prim.Native.Nat.{ℕ, ◌+◌, ◌*◌, ◌≤◌, ◌<◌}
use native.Mathlib.Omega.{arith}
use lib.Dec.{eqb}
use lib.ListN.{length, get_or, set}
use lib.Seq.{sets}
use Rattle.basis.specs.Choice.{pick}
use Rattle.basis.specs.Bounded.{any_same}
use Rattle.packets.specs.declared.Kind.{Kind}
use Rattle.packets.specs.declared.Kind.TheVariants.{Setup, Tdown, Ack, Nack}
use Rattle.packets.specs.declared.Packet.{Packet}
use Rattle.packets.specs.declared.Entry.{Entry}
use Rattle.plan.specs.Head.{InRange}
use Rattle.plan.specs.Plan.{Plan, R, S}
use Rattle.plan_queues.specs.Queue.{Q}
use Rattle.plan_queues.specs.Feeds.{in_queue, Stands, Fits}
use Rattle.plan_facts.specs.Wired.{Wired}
use Rattle.rules.specs.State.{State, with_queue, with_flag, is_free}
use Rattle.rules.specs.Execute.{came_in, declined, booked, freed, other_free, may_book, handled_as}
use Rattle.rules.specs.Valid.{Belongs}
use Rattle.theory.proofs.Places.Closure.{stands_below, span_short, unit_setup, unit_no_answer}
use Rattle.theory.proofs.Places.CameIn.{came_in_lem}
use Rattle.theory.proofs.Places.Makes.{side_out}
use Rattle.theory.proofs.Kept.Parts.{kept_of}
use Rattle.theory.proofs.Kept.Lines.{head_belongs}
use Rattle.theory.proofs.Cases.{exit_at}
use Rattle.bytes_layout.specs.Offsets.{queue_row, entry_row}
use Rattle.bytes_layout.specs.Places.{packet_bytes}
use Rattle.bytes_layout.specs.Decode.{entry_at}
use Rattle.bytes_layout.specs.Encode.{encode}
use Rattle.bytes_layout.specs.Updates.{pop_at}
use Rattle.bytes_layout.proofs.Readings.{flag_at_lem, entry_at_lem}
use Rattle.bytes_layout.proofs.Updates.{put_flag, put_handled, pop_queue, put_head}
use Rattle.phase_unit.specs.declared.Queue.{Queue}
use Rattle.phase_unit.specs.Handled.{set_up, stays, ends, torn, handled_by, handled_of}
use Rattle.phase_execute.specs.Moments.{Heads}
use Rattle.phase_execute.specs.Lent.{queue_of, put_back, settled, entries_at}
use Rattle.phase_pick.proofs.Bytes.{flag_zero}
use Rattle.phase_execute.proofs.Bytes.{entry_on}

-- ---- the head
module _ {pl : Plan} (wired : Wired pl) (range : InRange pl.head) (r i : ℕ) (hr : (r < R pl) × (i < 4)) (x : Packet)
    (s : State)
    (g : Heads pl r i x s) where
  pub here : Belongs pl (in_queue (Q r i)) x
  here = rw g.fresh at (head_belongs (kept_of pl s g.turn.core) (Q r i) x g.rest hr g.line)

  -- the walk leaves by one of the four sides
  pub exit_side : exit_at pl r x < 4
  exit_side = side_out wired range x (in_queue (Q r i)) here r i refl

  -- a SETUP stands on its walk with as many routers behind it as its hub says
  pub setup_stands : x.kind ≡ Setup → Stands pl x.active x.passive x.hub.0 r i
  setup_stands q =
      unit_setup wired x.active x.passive here.ranges.active here.ranges.passive here.serves r i
      x.hub.0 (rw q at here.fits)

  pub setup_hub : x.kind ≡ Setup → x.hub.0 < 16
  setup_hub q =
      let f = setup_stands q in
      let a = here.ranges.active in
      let p = here.ranges.passive in
      let b = stands_below wired x.active x.passive a p here.serves x.hub.0
      (record { router = r; side = i }) f in
      let c = span_short wired x.active x.passive a p here.serves in
      let m = range.routers.1 in
      omega arith

  -- and its walk came in by its queue's side
  pub setup_came : x.kind ≡ Setup → i ≡ came_in pl x.active x.passive r
  setup_came q =
      sym
      (came_in_lem wired x.active x.passive here.ranges.active here.ranges.passive here.serves
      x.hub.0 r
      i (setup_stands q))

  pub tdown_hub : x.kind ≡ Tdown → 1 ≤ x.hub.0
  tdown_hub q = let f : Fits pl Tdown x.active x.passive x.hub.0 (in_queue (Q r i)) = rw q at here.fits in f.2

  -- no answer waits to be handled
  pub no_ack : x.kind ≡ Ack → ⊥
  no_ack q =
      (unit_no_answer wired x.active x.passive here.ranges.active here.ranges.passive here.serves r i
      x.hub.0).0 (rw q at here.fits)

  pub no_nack : x.kind ≡ Nack → ⊥
  no_nack q =
      (unit_no_answer wired x.active x.passive here.ranges.active here.ranges.passive here.serves r i
      x.hub.0).1 (rw q at here.fits)

-- ---- the queue lent, handled and put back
module _ (pl : Plan) (r i : ℕ) (hr : (r < R pl) × (i < 4)) (x : Packet) (may slots : ℕ) (s : State) (rest b : List ℕ)
    (e : b ≡ encode pl s rest) (down : s.flow.flag (Q r i) ≡ false) (xs : List Packet)
    (line : s.lines.queue (Q r i) ≡ x ∷ xs) where
  abbrev row : ℕ
  row = queue_row pl (Q r i)

  abbrev lent : Queue
  lent = queue_of row x b

  flag_down : get_or b (row + 1) 0 ≡ 0
  flag_down = flag_zero (get_or b (row + 1) 0) (flag_at_lem pl s rest b e (Q r i) hr ∙ down)

  -- the head stays, handled, as y
  pub settle_stays : (y : Packet) → handled_of lent may slots ≡ stays lent y
      → settled row x may slots b ≡ encode pl (handled_as r i y xs s) rest
  unfolding settled put_back
  settle_stays y k =
      ap (λ (q : Queue). put_back row q b) k
      ∙ rw flag_down
      (ap (λ (c : List ℕ). set (sets c (row + 4) (packet_bytes y)) (row + 2) 1) e
      ∙ ap (λ (c : List ℕ). set c (row + 2) 1) (put_head pl s rest (Q r i) hr x xs line y)
      ∙ put_handled pl (with_queue (Q r i) (y ∷ xs) s) rest (Q r i) hr true)

  -- the head ended
  pub settle_ends : length (s.lines.queue (Q r i)) ≤ 7 → handled_of lent may slots ≡ ends lent
      → settled row x may slots b ≡ encode pl (with_flag (Q r i) true (with_queue (Q r i) xs s)) rest
  unfolding settled put_back
  settle_ends few k =
      ap (λ (q : Queue). put_back row q b) k
      ∙ ap (λ (c : List ℕ). set (pop_at row c) (row + 1) 1) e
      ∙ ap (λ (c : List ℕ). set c (row + 1) 1) (pop_queue pl s rest (Q r i) hr x xs line few)
      ∙ put_flag pl (with_queue (Q r i) xs s) rest (Q r i) hr true

-- ---- what the handling makes of the head, by its kind
module _ (q : Queue) (slots : ℕ) where
  kind_is : (k : Kind) (may : ℕ) → q.head.kind ≡ k → handled_of q may slots ≡ handled_by k q may slots
  unfolding handled_of
  kind_is k may e = ap (λ (c : Kind). handled_by c q may slots) e

  pub handled_booked : q.head.kind ≡ Setup → handled_of q 1 slots ≡ stays q (booked slots q.head)
  unfolding set_up
  handled_booked k = kind_is Setup 1 k

  pub handled_declined : q.head.kind ≡ Setup → handled_of q 0 slots ≡ stays q (declined q.head)
  unfolding set_up
  handled_declined k = kind_is Setup 0 k

  pub handled_ends : q.head.kind ≡ Tdown → eqb q.head.hub.0 1 ≡ true → handled_of q 0 slots ≡ ends q
  unfolding torn
  handled_ends k t = kind_is Tdown 0 k ∙ ap (λ (b : Bool). pick b (ends q) (stays q (freed slots q.head))) t

  pub handled_freed : q.head.kind ≡ Tdown → eqb q.head.hub.0 1 ≡ false
      → handled_of q 0 slots ≡ stays q (freed slots q.head)
  unfolding torn
  handled_freed k t = kind_is Tdown 0 k ∙ ap (λ (b : Bool). pick b (ends q) (stays q (freed slots q.head))) t

-- ---- the entries of a side, read from its bytes
pub may_book_at : (pl : Plan) (r o t : ℕ) (s : State) (rest b : List ℕ) → b ≡ encode pl s rest → InRange pl.head
    → r < R pl → o < 4 → t < S pl
    → may_book (S pl) (entries_at (entry_row pl r o 0) b) t ≡ may_book (S pl) (s.table r o) t
unfolding may_book other_free entries_at
may_book_at pl r o t s rest b e range hr ho ht =
    ap₂ (λ (c d : Bool). c && d) (ap is_free (read t ht))
    (any_same (S pl) (λ u. not (eqb u t) && is_free (entry_at (entry_row pl r o 0 + 2 * u) b))
    (λ u. not (eqb u t) && is_free (s.table r o u)) (λ u l. ap (λ (z : Entry). not (eqb u t) && is_free z) (read u l)))
  where
    read : (u : ℕ) → u < S pl → entry_at (entry_row pl r o 0 + 2 * u) b ≡ s.table r o u
    read u l =
        let m = range.slots.1 in
        ap (λ (i : ℕ). entry_at i b) (sym (entry_on pl r o u)) ∙ entry_at_lem pl s rest b e r o u hr ho (omega arith)
