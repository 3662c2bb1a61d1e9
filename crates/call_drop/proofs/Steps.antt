-- The bytes that an accepted Drop leaves are those of the state that the rules give; and what its step asks.
use mathlib.Core.Path.{◌≡◌, refl, sym, ap, ap₂, ◌∙◌, subst}
use mathlib.Core.Bool.{Bool, true, false}
use mathlib.Core.List.{List, ◌∷◌}
use Prim.Native.Nat.{ℕ, ◌+◌, ◌-◌, ◌%◌, ◌≤◌, ◌<◌}
use native.Mathlib.Nat.{mod-lt}
use native.Mathlib.Omega.{arith}
use lib.ListN.{length, get_or, set}
use Rattle.basis.specs.Choice.{pick}
use Rattle.kinds.specs.declared.Slot.{Slot}
use Rattle.kinds.specs.declared.Hub.{Hub}
use Rattle.packets.specs.declared.Kind.{Kind}
use Rattle.packets.specs.declared.Kind.TheVariants.{Setup, Tdown, Ack, Nack}
use Rattle.packets.specs.declared.Packet.{Packet}
use Rattle.packets.specs.Counters.{start_slot}
use Rattle.plan.specs.declared.Head.{Head}
use Rattle.plan.specs.Head.{InRange, Counts}
use Rattle.plan.specs.Plan.{Plan, A, P}
use Rattle.plan_queues.specs.Queue.{Queue, Exists, active_in}
use Rattle.rules.specs.Connections.{connection_of}
use Rattle.rules.specs.State.{State, with_queue, with_flag}
use Rattle.rules.specs.Visits.{removed, accepting, noted_kind, noted}
use Rattle.rules.specs.Valid.{PacketOk, Lined}
use Rattle.rules.specs.Ruled.{Good}
use Rattle.bytes_layout.specs.Offsets.{queue_row, allowance_row}
use Rattle.bytes_layout.specs.Places.{packet_at}
use Rattle.bytes_layout.specs.Encode.{encode}
use Rattle.bytes_layout.specs.Decode.{length_at}
use Rattle.bytes_layout.specs.Updates.{join_start}
use Rattle.bytes_layout.proofs.Updates.{put_allowance}
use Rattle.bytes_layout.proofs.Connections.{join_connection}
use Rattle.bytes_steps.specs.Counts.{state_size}
use Rattle.call_common.specs.Visits.{Ready, taken_at, active_in_row, allowance_byte, starts_byte}
use Rattle.call_common.proofs.Rows.{active_there, active_in_inside, allowance_inside, active_in_row_lem}
use Rattle.call_common.proofs.Rows.{allowance_byte_lem}
use Rattle.call_common.proofs.Rows.{starts_byte_lem, few_counts}
use Rattle.call_common.proofs.Tests.{Headed, has_head, head_is, allowed}
use Rattle.call_common.proofs.Steps.{allowance_few, taken, in_range, in_few}
use Rattle.call_drop.specs.Dropping.{dropped_at, is_ack, accepted_at, noted_at, Named}

-- ---- the step on states
module _ (pl : Plan) (s : State) (rest b : List ℕ) (same : b ≡ encode pl s rest) (a : ℕ) (la : a < A pl) (byte : ℕ)
    (byted : byte ≡ allowance_row pl a) where
  pub removed_bytes : (row : ℕ) → row ≡ queue_row pl (active_in a) → (l : Headed (s.lines.queue (active_in a)))
      → length (s.lines.queue (active_in a)) ≤ 7
      → dropped_at row byte b ≡ encode pl (removed a l.behind s) rest
  unfolding dropped_at removed
  removed_bytes row at l small =
      ap (λ (n : ℕ). set (taken_at row b) byte (n + 1)) (allowed pl s rest b same a la byte byted)
      ∙ ap₂ (λ (c : List ℕ) (i : ℕ). set c i (s.flow.allowance a + 1))
      (taken pl s rest b same (active_in a) la row at l small) byted
      ∙ put_allowance pl (with_flag (active_in a) true (with_queue (active_in a) l.behind s)) rest a
      (s.flow.allowance a + 1) la

-- ---- an ACK's connection is accepted
start_few : {h : Head} → InRange h → (t : Slot) (n : Hub) → (start_slot t n h.slots).0 < 32
start_few {h} range t n =
    let some : 0 < h.slots = let m = range.slots.0 in omega arith in
    let l = mod-lt (t.0 + (h.slots - n.0 % h.slots)) some in
    let m = range.slots.1 in
    omega arith

module _ {h : Head} (pl : Plan) (head : pl.head ≡ h) (range : InRange pl.head) (s : State) (rest : List ℕ)
    (x : Packet) where
  accepted_bytes : x.active < A pl → x.passive < P pl
      → accepted_at h x (encode pl s rest) ≡ encode pl (accepting (connection_of pl x) s) rest
  accepted_bytes la lp =
      let m = range.passives.1 in
      ap₂ (λ (i n : ℕ). join_start i (start_slot x.slot x.hub n).0 (encode pl s rest))
      (starts_byte_lem pl head x.active x.passive) (ap (λ (y : Head). y.slots) (sym head))
      ∙ join_connection pl s rest x.active x.passive (connection_of pl x).start.0 la (omega arith)
      (start_few range x.slot x.hub)

  pub noted_bytes : PacketOk pl x → noted_at h x (encode pl s rest) ≡ encode pl (noted pl x s) rest
  unfolding noted_at noted
  noted_bytes ok = by x.kind
    where
      by : (k : Kind) → pick (is_ack k) (accepted_at h x (encode pl s rest)) (encode pl s rest)
          ≡ encode pl (noted_kind pl k x s) rest
      by Setup = refl
      by Tdown = refl
      by Ack = accepted_bytes ok.active ok.passive
      by Nack = refl

-- the head of a good state's in-queue has numbers of the plan
pub head_ok_lem : (pl : Plan) (s : State) → Good pl s → (q : Queue) → Exists pl q → (l : Headed (s.lines.queue q))
    → PacketOk pl l.first
head_ok_lem pl s good q there l =
    let lined : Lined pl q (s.lines.handled q) (l.first ∷ l.behind) =
    subst (λ (xs : List Packet). Lined pl q (s.lines.handled q) xs) l.line (good.valid.places q there) in
    lined.0.ranges

-- ---- what noting a packet asks, and what it makes
pub note_near : {h : Head} {x : Packet} {i j : ℕ} → InRange h → Named h x → i ≡ x.active → j ≡ x.passive
    → Counts h × (i < 16) × (j < 16)
note_near range named pi pj =
    let m = range.actives.1 in let n = range.passives.1 in let la = named.active in let lp = named.passive in
    (few_counts range, omega arith, omega arith)

pub note_ready : {h : Head} (x : Packet) {i j at n : ℕ} {t : Slot} → InRange h → Named h x → i ≡ x.active
    → j ≡ x.passive → at ≡ starts_byte h i j → t ≡ start_slot x.slot x.hub h.slots → state_size h ≤ n
    → (at + 4 ≤ n) × (t.0 < 32)
note_ready x range named pi pj row of long =
    let m = range.passives.1 in let la = named.active in let lp = named.passive in
    let l = start_few range x.slot x.hub in
    let e = ap (λ (y : Slot). y.0) of in
    (omega arith, omega arith)

pub note_made : (h : Head) (x : Packet) (b : List ℕ) {r : Bool} {i j at : ℕ} {t : Slot} {d : List ℕ}
    → r ≡ is_ack x.kind → r ≡ true → i ≡ x.active → j ≡ x.passive → at ≡ starts_byte h i j
    → t ≡ start_slot x.slot x.hub h.slots → d ≡ join_start at t.0 b → d ≡ noted_at h x b
unfolding noted_at
note_made h x b {d = d} e f pi pj row of g =
    let k : is_ack x.kind ≡ true = sym e ∙ f in
    let a : d ≡ accepted_at h x b =
    g ∙ ap₂ (λ (n : ℕ) (y : Slot). join_start n y.0 b) (row ∙ ap₂ (starts_byte h) pi pj) of in
    rw k a

pub note_none : (h : Head) (x : Packet) (b : List ℕ) {r : Bool} → r ≡ is_ack x.kind → r ≡ false → b ≡ noted_at h x b
unfolding noted_at
note_none h x b e f = let k : is_ack x.kind ≡ false = sym e ∙ f in rw k

-- ---- what the step asks
module _ {h : Head} {b : List ℕ} (range : InRange h) (ready : Ready h b) where
  pub drop_ready : (a row byte : ℕ) → a < h.actives → row < 20000 → row ≡ active_in_row h a
      → byte ≡ allowance_byte h a → (length_at row b ≡ 0 → ⊥)
      → (row < 20000) × (row + 39 ≤ length b) × (1 ≤ length_at row b) × (length_at row b ≤ 7) × (byte < length b)
      × (get_or b byte 0 ≤ 7)
  drop_ready a row byte la small at byted some =
      let plan = ready.plan in
      let state = ready.held.state in
      let there = active_there plan ready.head a la in
      let e = allowed plan state ready.held.rest b ready.held.same a there byte
      (byted ∙ allowance_byte_lem plan ready.head a) in
      let m = allowance_few plan (in_range range ready) state ready.held.fit a there in (
        small,
        active_in_inside ready a row la at,
        omega arith,
        in_few range ready (active_in a) there row (at ∙ active_in_row_lem plan ready.head a),
        allowance_inside ready a byte la byted,
        omega arith,
      )

  pub head_named : (a row : ℕ) → a < h.actives → row ≡ active_in_row h a → (length_at row b ≡ 0 → ⊥) → (x : Packet)
      → x ≡ packet_at (row + 4) b → Named h x
  head_named a row la at some x read =
      let plan = ready.plan in
      let state = ready.held.state in
      let there = active_there plan ready.head a la in
      let i = at ∙ active_in_row_lem plan ready.head a in
      let l = has_head plan state ready.held.rest b ready.held.same (active_in a) there row i some in
      let e = read ∙ head_is plan state ready.held.rest b ready.held.same (active_in a) there row i l in
      let ok : PacketOk plan x =
      subst (λ (y : Packet). PacketOk plan y) (sym e)
      (head_ok_lem plan state ready.held.fit (active_in a) there l) in
      by ok
    where
      by : PacketOk ready.plan x → Named h x
      by o =
          let ea = ap (λ (y : Head). y.actives) ready.head in
          let ep = ap (λ (y : Head). y.passives) ready.head in
          let es = ap (λ (y : Head). y.slots) ready.head in
          let oa = o.active in let op = o.passive in let os = o.slot in
          record { active = omega arith; passive = omega arith; slot = omega arith }
