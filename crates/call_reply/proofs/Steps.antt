-- The bytes that an accepted Reply leaves are those of the state that the rules give; and what its step asks.
use mathlib.Core.Path.{◌≡◌, sym, ap, ap₂, ◌∙◌}
use mathlib.Core.Bool.{true}
use mathlib.Core.List.{List}
use Prim.Native.Nat.{ℕ, ◌+◌, ◌≤◌, ◌<◌}
use native.Mathlib.Omega.{arith}
use lib.ListN.{length}
use Rattle.packets.specs.declared.Packet.{Packet}
use Rattle.plan.specs.declared.Head.{Head}
use Rattle.plan.specs.Head.{InRange}
use Rattle.plan.specs.Plan.{Plan, P}
use Rattle.plan_queues.specs.Queue.{passive_in, passive_out}
use Rattle.rules.specs.State.{State, with_queue, with_flag}
use Rattle.rules.specs.Visits.{reply_kind, replied_as, replied}
use Rattle.bytes_layout.specs.Offsets.{first_place, queue_row}
use Rattle.bytes_layout.specs.Places.{packet_at}
use Rattle.bytes_layout.specs.Encode.{encode}
use Rattle.bytes_layout.specs.Decode.{length_at}
use Rattle.bytes_layout.specs.Updates.{push_at}
use Rattle.bytes_layout.proofs.Readings.{length_at_lem}
use Rattle.bytes_layout.proofs.Updates.{push_queue}
use Rattle.call_common.specs.Visits.{Ready, taken_at, passive_out_row, passive_in_row}
use Rattle.call_common.proofs.Rows.{passive_there, passive_out_inside, passive_in_inside, passive_out_row_lem}
use Rattle.call_common.proofs.Rows.{passive_in_row_lem}
use Rattle.call_common.proofs.Tests.{Headed, queued, has_head, head_is}
use Rattle.call_common.proofs.Steps.{few, taken, in_range, in_few}
use Rattle.call_reply.specs.Replying.{replied_at}

-- ---- the step on states
module _ (pl : Plan) (s : State) (rest b : List ℕ) (same : b ≡ encode pl s rest) (p : ℕ) (lp : p < P pl) (from to : ℕ)
    (out : from ≡ queue_row pl (passive_in p)) (into : to ≡ queue_row pl (passive_out p))
    (l : Headed (s.lines.queue (passive_in p))) (small : length (s.lines.queue (passive_in p)) ≤ 7) where
  abbrev gone : State
  gone = with_flag (passive_in p) true (with_queue (passive_in p) l.behind s)

  -- the out-queue is as it was
  pub out_same : length_at to (taken_at from b) ≡ length (s.lines.queue (passive_out p))
  out_same =
      ap (λ (i : ℕ). length_at i (taken_at from b)) into
      ∙ length_at_lem pl gone rest (taken_at from b) (taken pl s rest b same (passive_in p) lp from out l small)
      (passive_out p) lp

  pub replied_bytes : (c : ℕ) → length (s.lines.queue (passive_out p)) < 7
      → replied_at from to c b ≡ encode pl (replied p (reply_kind c) (s.lines.queue (passive_in p)) s) rest
  unfolding replied_at
  replied_bytes c room =
      ap₂ (λ (x : Packet) (i : ℕ). push_at i (replied_as (reply_kind c) x) (taken_at from b))
      (head_is pl s rest b same (passive_in p) lp from out l) into
      ∙ ap (λ (d : List ℕ). push_at (queue_row pl (passive_out p)) (replied_as (reply_kind c) l.first) d)
      (taken pl s rest b same (passive_in p) lp from out l small)
      ∙ push_queue pl gone rest (passive_out p) lp (replied_as (reply_kind c) l.first) room
      ∙ ap (λ (x : List Packet). encode pl (replied p (reply_kind c) x s) rest) (sym l.line)

-- ---- what the step asks
module _ {h : Head} {b : List ℕ} (range : InRange h) (ready : Ready h b) where
  pub reply_ready : (p from to : ℕ) → p < h.passives → from < 20000 → from ≡ passive_in_row h p → to ≡ passive_out_row h
      p
      → (length_at from b ≡ 0 → ⊥) → length_at to b < h.pout.0
      → (from < 20000) × (from + 39 ≤ length b) × (1 ≤ length_at from b) × (length_at from b ≤ 7) × (to + 39 ≤ length b)
      × (length_at to (taken_at from b) < 7)
  reply_ready p from to lp little out into some room =
      let plan = ready.plan in
      let state = ready.held.state in
      let rest = ready.held.rest in
      let there = passive_there plan ready.head p lp in
      let same = ready.held.same in
      let o = out ∙ passive_in_row_lem plan ready.head p in
      let i = into ∙ passive_out_row_lem plan ready.head p in
      let k = has_head plan state rest b same (passive_in p) there from o some in
      let m = few plan (in_range range ready) state ready.held.fit (passive_in p) there in
      let x = out_same plan state rest b same p there from to o i k m in
      let y = queued plan state rest b same (passive_out p) there to i in
      let z = range.pout.1 in (
        little,
        passive_in_inside ready p from lp out,
        omega arith,
        in_few range ready (passive_in p) there from o,
        passive_out_inside ready p to lp into,
        omega arith,
      )

-- ---- the step as the code makes it
pub reply_room : (b : List ℕ) (from to : ℕ) {c : List ℕ} → c ≡ taken_at from b → length_at to (taken_at from b) < 7
    → length_at to c < 7
reply_room b from to e l = rw e l

pub reply_made : (b : List ℕ) (from to choice : ℕ) {x y : Packet} {c d : List ℕ} → x ≡ packet_at (from + first_place) b
    → y ≡ replied_as (reply_kind choice) x → c ≡ taken_at from b → d ≡ push_at to y c → d ≡ replied_at from to choice b
unfolding replied_at
reply_made b from to choice e f g k =
    k ∙ ap₂ (push_at to) (f ∙ ap (replied_as (reply_kind choice)) e) g
