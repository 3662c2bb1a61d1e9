-- What the proof of demand 3 shows on the way, and later requests build on.
use Rattle.std.specs.Prelude.{◌≡◌, Bool, true, false, List, [], ◌∷◌, ◌++◌, ℕ, ◌≤◌, ◌<◌}
use Rattle.std.proofs.Math.Option.{some}
use Rattle.packets.specs.declared.Kind.TheVariants.{Tdown}
use Rattle.packets.specs.declared.Packet.{Packet}
use Rattle.packets.specs.declared.Phase.TheVariants.{Read}
use Rattle.packets.specs.declared.Entry.TheVariants.{Booked}
use Rattle.packets.specs.declared.Answer.TheVariants.{Done}
use Rattle.plan.specs.Plan.{Plan, passive, R, S, route_to}
use Rattle.plan_queues.specs.Queue.{ahead, back, Queue, active_out, active_in, passive_in, passive_out, U, Q, F, K}
use Rattle.plan_queues.specs.Queue.{Exists}
use Rattle.plan_queues.specs.Feeds.{in_queue}
use Rattle.rules.specs.State.{State, start, has_connection}
use Rattle.rules.specs.Execute.{came_in}
use Rattle.rules.specs.Visits.{closing_of}
use Rattle.rules.specs.Calls.{Call, close, call}
use Rattle.rules.specs.Connections.{Connection, connection, Makes}
use Rattle.rules.specs.Ruled.{ruled_after, accepted_after, rounds, Moves, Good}
use Rattle.theory.specs.Owners.{Holder, holder_of, owns, Owned}

-- the queues of answers alone: K, the passives' out-queues, and F of answers
abbrev pub answering : Queue → Bool
answering (active_out x) = false
answering (active_in x) = false
answering (passive_in x) = false
answering (passive_out x) = true
answering (U r i) = false
answering (Q r i) = false
answering (F ahead r o) = false
answering (F back r o) = true
answering (K r i o) = true

-- Answers move whatever the passives do: from every valid state in READ with a packet in one of these, in S whole
-- rounds some packet moves, be every passive in-queue full.
abbrev pub AnswersMove : Plan → Type 0
AnswersMove pl =
    (s : State) → Good pl s → s.clock.phase ≡ Read → (q : Queue) (x : Packet) (rest : List Packet) → Exists pl q
    → answering q ≡ true → s.lines.queue q ≡ x ∷ rest → (cs : List Call) → S pl ≤ rounds pl cs s → Moves pl cs s

-- the entry that a TDOWN at the unit of router r is to free
pub record OwnEntry (pl : Plan) (acc : List Connection) (s : State) (k : Owned pl acc s) (r i : ℕ) (x : Packet) : Type
    0 where
  -- it is held by the TDOWN's own pair
  pub holder : k.holders r (route_to pl (passive x.passive) r) x.slot.0
      ≡ some (holder_of pl x.active x.passive r)
  -- and has the side that the pair's walk comes in by
  pub entry : s.table r (route_to pl (passive x.passive) r) x.slot.0
      ≡ Booked (came_in pl x.active x.passive r)
  -- and it is the TDOWN's own
  pub own : owns pl r (route_to pl (passive x.passive) r) x.slot.0 (holder_of pl x.active x.passive r)
      (in_queue (Q r i)) x ≡ 1

-- Every TDOWN frees an entry of its own connection: after every list from Start, each booked entry has one owner, and
-- an unhandled TDOWN at a unit finds there an entry that its own pair holds and that it owns itself.
abbrev pub TdownsOwn : Plan → Type 0
TdownsOwn pl =
    (cs : List Call) → (k : Owned pl (accepted_after pl cs (start pl) []) (ruled_after pl cs (start pl)))
    × ((r i : ℕ) (x : Packet) (rest : List Packet) → r < R pl → i < 4 → (ruled_after pl cs (start pl)).lines.queue
    (Q r i) ≡ x
    ∷ rest
    → (ruled_after pl cs (start pl)).lines.handled (Q r i) ≡ false → x.kind ≡ Tdown
    → OwnEntry pl (accepted_after pl cs (start pl) []) (ruled_after pl cs (start pl)) k r i x)

-- what a Close of the connection (a, p, t) does that is accepted after the calls cs from Start
pub record ClosesOwn (pl : Plan) (cs : List Call) (a p t : ℕ) : Type 0 where
  -- every entry that the connection makes is booked then, as it makes it
  pub booked : (r o u i : ℕ) → Makes pl (connection a p t) r o u i
      → (ruled_after pl cs (start pl)).table r o u ≡ Booked i
  -- the connection leaves the accepted ones
  pub leaves : has_connection (call pl (close a p t) (ruled_after pl cs (start pl))).state (connection a p t) ≡ false
  -- the TDOWN joins the active's out-queue
  pub joins : (call pl (close a p t) (ruled_after pl cs (start pl))).state.lines.queue (active_out a)
      ≡ (ruled_after pl cs (start pl)).lines.queue (active_out a) ++ (closing_of pl a p t ∷ [])
  -- there it owns every entry that the connection makes
  pub owns_made : (r o u i : ℕ) → Makes pl (connection a p t) r o u i
      → owns pl r o u (holder_of pl a p r) (in_queue (active_out a)) (closing_of pl a p t) ≡ 1
  -- and no other, for any holder
  pub owns_only : (r o u : ℕ) (v : Holder) → 0 < owns pl r o u v (in_queue (active_out a)) (closing_of pl a p t)
      → Makes pl (connection a p t) r o u v.side
  -- whatever follows, a connection that is accepted has every entry booked as it makes it
  pub others : (ds : List Call) (d : Connection)
      → has_connection (ruled_after pl ds (call pl (close a p t) (ruled_after pl cs (start pl))).state) d ≡ true
      → (r o u i : ℕ) → Makes pl d r o u i
      → (ruled_after pl ds (call pl (close a p t) (ruled_after pl cs (start pl))).state).table r o u ≡ Booked i

-- A Close's TDOWN frees exactly its own connection's entries: it comes to own these and no others, and every TDOWN
-- frees only what it owns (`TdownsOwn`).
abbrev pub CloseFrees : Plan → Type 0
CloseFrees pl =
    (cs : List Call) (a p t : ℕ) → (call pl (close a p t) (ruled_after pl cs (start pl))).answer ≡ Done
    → ClosesOwn pl cs a p t
