-- An active's turn on bytes.
use mathlib.Core.Path.{◌≡◌, refl, sym, ap, ◌∙◌}
use mathlib.Core.Bool.{Bool, true, false, ◌&&◌}
use mathlib.Core.List.{List, [], ◌∷◌}
use Prim.Native.Nat.{ℕ, ◌+◌, ◌*◌, ◌≤◌, ◌<◌}
use native.Mathlib.Omega.{arith}
use lib.ListN.{length}
use lib.Seq.{sets}
use borrow.Author.Tests.{lt-ltb, le-ltb}
use Rattle.basis.specs.Fold.{up_to}
use Rattle.packets.specs.declared.Packet.{Packet}
use Rattle.plan.specs.declared.Head.{Head}
use Rattle.plan.specs.Head.{Counts, destinations}
use Rattle.plan.specs.Plan.{Plan, A, S}
use Rattle.plan.specs.Tables.{table_plan}
use Rattle.plan_queues.specs.Queue.{active_out, active_in, number}
use Rattle.plan_queues.specs.Feeds.{in_queue}
use Rattle.rules.specs.State.{State, with_queue}
use Rattle.rules.specs.Execute.{unmarked, marked, tdown_of, has_room, answer, at_active, undo}
use Rattle.rules.specs.Valid.{Belongs}
use Rattle.theory.specs.Invariant.{Core}
use Rattle.theory.proofs.Cases.{undo_tears}
use Rattle.theory.proofs.Ground.Cells.{queue_away}
use Rattle.theory.proofs.Kept.Parts.{kept_of}
use Rattle.theory.proofs.Kept.Lines.{head_belongs}
use Rattle.bytes_layout.specs.Offsets.{queue_row}
use Rattle.bytes_layout.specs.Places.{packet_bytes, packet_at}
use Rattle.bytes_layout.specs.Decode.{length_at}
use Rattle.bytes_layout.specs.Encode.{encode}
use Rattle.bytes_layout.specs.Updates.{push_at}
use Rattle.bytes_layout.proofs.Readings.{length_at_lem, head_at}
use Rattle.bytes_layout.proofs.Updates.{put_head, push_queue}
use Rattle.bytes_steps.specs.Acts.{Holds, Steps, holds_then, steps_more}
use Rattle.next_queue.specs.Wiring.{Wiring}
use Rattle.phase_execute.specs.Moments.{Starts}
use Rattle.phase_pick.proofs.Steps.{steps_same}
use Rattle.phase_pick.proofs.Bytes.{line_some, queue_room, no_packet, some_packet}
use Rattle.phase_pick.proofs.Tables.{range_of, counts_of}
use Rattle.phase_execute.proofs.Turns.{undone}

-- an active that does nothing
undo_empty : (pl : Plan) (a : ℕ) (s : State) → s.lines.queue (active_in a) ≡ [] → undo pl a s ≡ s
unfolding undo at_active
undo_empty pl a s e = rw e

undo_not : (pl : Plan) (a : ℕ) (s : State) (x : Packet) (rest : List Packet) → s.lines.queue (active_in a) ≡ x ∷ rest
    → (unmarked x && has_room pl (active_out a) s) ≡ false → undo pl a s ≡ s
unfolding undo at_active answer
undo_not pl a s x rest e f =
    ap (λ (l : List Packet). at_active pl a l s) e ∙ ap (λ (b : Bool). answer pl a x rest b s) f

and_false : (a b : Bool) → b ≡ false → (a && b) ≡ false
and_false true b e = e
and_false false b e = refl

module _ {h : Head} {routes : List (List ℕ)} {joints homes : List ℕ} (w : Wiring h routes joints homes) {a : ℕ}
    (ha : a < h.actives) where
  abbrev pl : Plan
  pl = table_plan h routes joints

  is_active : a < A pl
  unfolding table_plan
  is_active = ha

  pub in_row : {n at : ℕ} → n ≡ destinations h + 28 * h.routers → at ≡ 2 + 39 * (n + a)
      → at ≡ queue_row pl (active_in a)
  unfolding table_plan queue_row number
  in_row en ea = ea ∙ ap (λ (k : ℕ). 2 + 39 * (k + a)) en

  pub out_row : {at : ℕ} → at ≡ 2 + 39 * a → at ≡ queue_row pl (active_out a)
  unfolding queue_row number
  out_row ea = ea

  pub in_small : {at : ℕ} → at ≡ queue_row pl (active_in a) → at < 65536
  unfolding table_plan queue_row number
  in_small ea =
      let r = w.range.routers.1 in
      let x = w.range.actives.1 in
      let p = w.range.passives.1 in
      omega arith

  pub in_room : {I : State → Type 0} {at : ℕ} {b : List ℕ} → at ≡ queue_row pl (active_in a) → Holds pl I b
      → at + 39 ≤ length b
  in_room {b = b} ea k = rw ea (queue_room pl k.state k.rest b k.same (active_in a) is_active)

  pub out_room : {I : State → Type 0} {at : ℕ} {b : List ℕ} → at ≡ 2 + 39 * a → Holds pl I b → at + 39 ≤ length b
  out_room {b = b} ea k = rw (out_row ea) (queue_room pl k.state k.rest b k.same (active_out a) is_active)

  -- ---- an empty in-queue
  pub steps_none : {at : ℕ} {b : List ℕ} → at ≡ queue_row pl (active_in a) → length_at at b ≡ 0
      → Steps pl (Core pl) (undo pl a) b b
  steps_none {at} {b} ea z =
      steps_same pl (λ s rest c e. undo_empty pl a s (no_packet pl s rest b e (active_in a) is_active (rw ea at z)))

  pub starts_by : {at : ℕ} {b : List ℕ} {x : Packet} → at ≡ queue_row pl (active_in a) → (length_at at b ≡ 0 → ⊥)
      → x ≡ packet_at (at + 4) b → (s : State) (rest : List ℕ) → Core pl s → b ≡ encode pl s rest → Starts pl a x s
  starts_by {at} {b} {x} ea n ex s rest c e =
      by (line_some (s.lines.queue (active_in a)) (some_packet pl s rest b e (active_in a) is_active (rw ea at n)))
    where
      by : (y : Packet) × (ys : List Packet) × (s.lines.queue (active_in a) ≡ y ∷ ys) → Starts pl a x s
      by (y, ys, k) =
          let same : x ≡ y = ex ∙ rw ea (head_at pl s rest b e (active_in a) is_active y ys k) in
          record { core = c; rest = ys; line = rw same k }

  -- the out-queue as it was
  stays : (s : State) (l : List Packet) → (with_queue (active_in a) l s).lines.queue (active_out a)
      ≡ s.lines.queue (active_out a)
  stays s l = queue_away s.lines.queue (active_in a) l (active_out a) (λ z. apart z)
    where
      apart : active_out a ≡ active_in a → ⊥
      apart q = let z : ◌≡◌ {A = ℕ} 0 1 = cc in omega arith

  -- ---- its head x
  module _ {x : Packet} where
    -- no unmarked NACK
    pub steps_kept : {b : List ℕ} → unmarked x ≡ false → Steps pl (Starts pl a x) (undo pl a) b b
    steps_kept u =
        steps_same pl (λ s rest g e. undo_not pl a s x g.rest g.line
        (ap (λ (t : Bool). t && has_room pl (active_out a) s) u))

    -- a full out-queue
    pub steps_full : {at : ℕ} {b : List ℕ} → at ≡ 2 + 39 * a → h.aout.0 ≤ length_at at b
        → Steps pl (Starts pl a x) (undo pl a) b b
    unfolding table_plan
    steps_full {at} {b} ea f =
        steps_same pl (λ s rest g e.
        let n : length_at at b ≡ length (s.lines.queue (active_out a)) =
        rw (out_row ea) (length_at_lem pl s rest b e (active_out a) is_active) in
        undo_not pl a s x g.rest g.line (and_false (unmarked x) (has_room pl (active_out a) s)
        (le-ltb (length (s.lines.queue (active_out a))) h.aout.0 (omega arith))))

    -- the head's slot
    pub slot_asks : {b : List ℕ} → Holds pl (Starts pl a x) b → (x.slot.0 < h.slots) × (h.slots ≤ 32)
    unfolding table_plan
    slot_asks k =
        let g = k.fit in
        let b : Belongs pl (in_queue (active_in a)) x =
        head_belongs (kept_of pl k.state g.core) (active_in a) x g.rest is_active g.line in
        (b.ranges.slot, w.range.slots.1)

    -- the NACK is marked
    marks : {at : ℕ} {b c : List ℕ} {y : Packet} → at ≡ queue_row pl (active_in a) → y ≡ marked x
        → c ≡ sets b (at + 4) (packet_bytes y) → (s : State) (rest : List ℕ) (g : Starts pl a x s)
        → b ≡ encode pl s rest → c ≡ encode pl (with_queue (active_in a) (marked x ∷ g.rest) s) rest
    marks {at} {b} {c} {y} ea ey ec s rest g e =
        (rw (ea, ey, e) at ec) ∙ put_head pl s rest (active_in a) is_active x g.rest g.line (marked x)

    pub push_asks : {at to : ℕ} {b c : List ℕ} {y : Packet} → at ≡ queue_row pl (active_in a) → to ≡ 2 + 39 * a
        → y ≡ marked x → c ≡ sets b (at + 4) (packet_bytes y) → length_at to b < h.aout.0
        → Holds pl (Starts pl a x) b → (to + 39 ≤ length c) × (length_at to c < 7)
    push_asks {at} {to} {b} {c} ea et ey ec f k =
        let g = k.fit in
        let e = marks ea ey ec k.state k.rest g k.same in
        let l : length_at to b ≡ length (k.state.lines.queue (active_out a)) =
        rw (out_row et) (length_at_lem pl k.state k.rest b k.same (active_out a) is_active) in
        let m : length_at to c ≡ length ((with_queue (active_in a) (marked x ∷ g.rest) k.state).lines.queue
        (active_out a)) =
        rw (out_row et) (length_at_lem pl (with_queue (active_in a) (marked x ∷ g.rest) k.state) k.rest c e
        (active_out a) is_active) in
        let n = ap length (stays k.state (marked x ∷ g.rest)) in
        let q = w.range.aout.1 in (
          rw (out_row et) (queue_room pl (with_queue (active_in a) (marked x ∷ g.rest) k.state) k.rest c e
              (active_out a) is_active),
          omega arith,
        )

    -- the TDOWN joins
    pub steps_tears : {at to slots : ℕ} {b c d : List ℕ} {y z : Packet} → at ≡ queue_row pl (active_in a)
        → to ≡ 2 + 39 * a → slots ≡ S pl → unmarked x ≡ true → length_at to b < h.aout.0 → y ≡ marked x
        → c ≡ sets b (at + 4) (packet_bytes y) → z ≡ tdown_of slots x → d ≡ push_at to z c
        → Steps pl (Starts pl a x) (undo pl a) b d
    unfolding table_plan
    steps_tears {at} {to} {slots} {b} {c} {d} ea et el u f ey ec ez ed =
        record {
          done = λ s rest g e.
              let l : length_at to b ≡ length (s.lines.queue (active_out a)) =
              rw (out_row et) (length_at_lem pl s rest b e (active_out a) is_active) in
              let t : State = with_queue (active_in a) (marked x ∷ g.rest) s in
              let n = ap length (stays s (marked x ∷ g.rest)) in
              let q = w.range.aout.1 in
              let few : length (t.lines.queue (active_out a)) < 7 = omega arith in
              let room : has_room pl (active_out a) s ≡ true =
              lt-ltb (length (s.lines.queue (active_out a))) h.aout.0 (omega arith) in
              (rw (out_row et, ez, el, marks ea ey ec s rest g e) at ed)
              ∙ push_queue pl t rest (active_out a) is_active (tdown_of (S pl) x) few
              ∙ ap (λ (v : State). encode pl v rest) (sym (undo_tears pl a s x g.rest g.line u room));
        }

-- ---- the loop over the actives
module _ {h : Head} {routes : List (List ℕ)} {joints homes : List ℕ} (w : Wiring h routes joints homes) where
  abbrev net : Plan
  net = table_plan h routes joints

  has_actives : {a : ℕ} → a ≤ h.actives → a ≤ A net
  unfolding table_plan
  has_actives l = l

  pub base_asks : Counts h × (h.routers ≤ 256)
  base_asks = let m = w.range.routers.1 in (counts_of w, omega arith)

  pub undo_hold : {a : ℕ} {b c : List ℕ} → a < h.actives → Holds net (Core net) b
      → Steps net (Core net) (up_to (undo net) a) b c → Holds net (Core net) c
  undo_hold {a} l k x =
      holds_then net k x (λ s t. undone w.wired (range_of w) a s (has_actives (omega arith)) t)

  pub undo_more : {a : ℕ} {b c d : List ℕ} → a < h.actives → Steps net (Core net) (up_to (undo net) a) b c
      → Steps net (Core net) (undo net a) c d → Steps net (Core net) (up_to (undo net) (a + 1)) b d
  undo_more {a} l x y =
      steps_more net (undo net) a x (λ s t. undone w.wired (range_of w) a s (has_actives (omega arith)) t) y
