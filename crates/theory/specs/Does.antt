-- What a call can do, by cases: refused with the state left, a phase turned, or a visit with what it found and what it
-- gives. proofs/Does shows that every call does one of these; all that is shown of calls goes by it.
use Rattle.std.specs.Prelude.{◌≡◌, ◌≢◌, true, false, List, ◌∷◌, ℕ, ◌≤◌, ◌<◌}
use Rattle.kinds.specs.declared.Refusal.{Refusal}
use Rattle.kinds.specs.declared.Refusal.TheVariants.{NotState}
use Rattle.packets.specs.declared.Packet.{Packet}
use Rattle.packets.specs.declared.Phase.{Phase}
use Rattle.packets.specs.declared.Phase.TheVariants.{Read, Write}
use Rattle.packets.specs.declared.Answer.TheVariants.{Refused, Done, Shows, Holds, Remains}
use Rattle.plan.specs.Plan.{Plan, R, A, P, S}
use Rattle.plan_walks.specs.Served.{served}
use Rattle.plan_queues.specs.Queue.{active_out, active_in, passive_in, passive_out}
use Rattle.rules.specs.State.{State}
use Rattle.rules.specs.Execute.{has_room, unmarked}
use Rattle.rules.specs.Visits.{launched, reply_kind, replied, removed, noted, closed}
use Rattle.rules.specs.Calls.{Visit, of_launch, of_reply, of_look, of_drop, of_close, of_entry, of_remaining, Call}
use Rattle.rules.specs.Calls.{turn}
use Rattle.rules.specs.Calls.{visit, Outcome, gives, phase_step}
use Rattle.rules.specs.Remaining.{remaining_in}

-- ---- what an accepted visit found
pub record MayLaunch (pl : Plan) (s : State) (a p t : ℕ) : Type 0 where
  pub phase : s.clock.phase ≡ Read
  pub active : a < A pl
  pub passive : p < P pl
  pub slot : t < S pl
  pub serves : served pl a p ≡ true
  pub allowance : 1 ≤ s.flow.allowance a
  pub room : has_room pl (active_out a) s ≡ true

pub record MayReply (pl : Plan) (s : State) (p c : ℕ) (x : Packet) (rest : List Packet) : Type 0 where
  pub phase : s.clock.phase ≡ Write
  pub passive : p < P pl
  pub choice : c ≤ 1
  pub down : s.flow.flag (passive_in p) ≡ false
  pub line : s.lines.queue (passive_in p) ≡ x ∷ rest
  pub room : has_room pl (passive_out p) s ≡ true

pub record MayLook (pl : Plan) (s : State) (a : ℕ) (x : Packet) (rest : List Packet) : Type 0 where
  pub active : a < A pl
  pub line : s.lines.queue (active_in a) ≡ x ∷ rest

pub record MayDrop (pl : Plan) (s : State) (a : ℕ) (x : Packet) (rest : List Packet) : Type 0 where
  pub phase : s.clock.phase ≡ Write
  pub active : a < A pl
  pub down : s.flow.flag (active_in a) ≡ false
  pub line : s.lines.queue (active_in a) ≡ x ∷ rest
  pub marked : unmarked x ≡ false

pub record MayClose (pl : Plan) (s : State) (a p t : ℕ) : Type 0 where
  pub phase : s.clock.phase ≡ Read
  pub active : a < A pl
  pub passive : p < P pl
  pub slot : t < S pl
  pub serves : served pl a p ≡ true
  pub accepted : s.connections a p t ≡ true
  pub room : has_room pl (active_out a) s ≡ true

pub record MayTell (pl : Plan) (r o t : ℕ) : Type 0 where
  pub router : r < R pl
  pub side : o < 4
  pub slot : t < S pl

-- ---- an accepted visit, and what it gives
pub data Visited (pl : Plan) (s : State) : Visit → Outcome → Type 0 where
  launches : (a p t : ℕ) → MayLaunch pl s a p t → Visited pl s (of_launch a p t) (gives Done (launched a p t s))
  replies : (p c : ℕ) (x : Packet) (rest : List Packet) → MayReply pl s p c x rest
      → Visited pl s (of_reply p c) (gives Done (replied p (reply_kind c) (x ∷ rest) s))
  looks : (a : ℕ) (x : Packet) (rest : List Packet) → MayLook pl s a x rest
      → Visited pl s (of_look a) (gives (Shows x) s)
  drops : (a : ℕ) (x : Packet) (rest : List Packet) → MayDrop pl s a x rest
      → Visited pl s (of_drop a) (gives Done (noted pl x (removed a rest s)))
  closes : (a p t : ℕ) → MayClose pl s a p t → Visited pl s (of_close a p t) (gives Done (closed pl a p t s))
  tells : (r o t : ℕ) → MayTell pl r o t → Visited pl s (of_entry r o t) (gives (Holds (s.table r o t)) s)
  counts : Visited pl s of_remaining (gives (Remains (remaining_in pl s)) s)

-- ---- a call: refused (7 is asked before it), a phase turned, a visit
pub data Does (pl : Plan) (s : State) : Call → Outcome → Type 0 where
  refuses : (c : Call) (w : Refusal) → w ≢ NotState → Does pl s c (gives (Refused w) s)
  turns : (x : Phase) → s.clock.phase ≡ x → Does pl s (turn x) (gives Done (phase_step pl x s))
  visits : (v : Visit) (o : Outcome) → Visited pl s v o → Does pl s (visit v) o
