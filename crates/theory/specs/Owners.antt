-- Who owns a booked entry. A packet owns the entries that were booked for it and not yet freed, an accepted connection
-- all those of its walk. A state is owned if each booked entry has one owner, with the side and the pair that it
-- should have, and no other entry has any.
use Rattle.std.specs.Prelude.{◌≡◌, Bool, false, List, [], ◌∷◌, ℕ, ◌+◌, ◌<◌, eqb, ltb}
use Rattle.std.proofs.Math.Option.{Option, none, some}
use Rattle.basis.specs.Choice.{pick, also}
use Rattle.basis.specs.Among.{In}
use Rattle.kinds.specs.declared.Slot.{Slot}
use Rattle.packets.specs.declared.Kind.{Kind}
use Rattle.packets.specs.declared.Kind.TheVariants.{Setup, Tdown, Ack, Nack}
use Rattle.packets.specs.declared.Packet.{Packet}
use Rattle.packets.specs.declared.Entry.{Entry}
use Rattle.packets.specs.declared.Entry.TheVariants.{Free, Booked}
use Rattle.packets.specs.Counters.{start_slot, slot_after}
use Rattle.plan.specs.Plan.{Plan, active, passive, R, A, P, S, route_to}
use Rattle.plan.specs.Rules.{home}
use Rattle.plan_walks.specs.Served.{Served}
use Rattle.plan_walks.specs.Steps.{index_on}
use Rattle.plan_queues.specs.Queue.{active_out, active_in, passive_in, passive_out, U, Q, F, K}
use Rattle.plan_queues.specs.Feeds.{Place, in_queue, handled_at, span}
use Rattle.rules.specs.State.{State}
use Rattle.rules.specs.Execute.{came_in}
use Rattle.rules.specs.Connections.{Connection}
use Rattle.rules.specs.Valid.{bit}
use Rattle.theory.specs.Weights.{Weight, weighed}

-- ---- for whom an entry is booked
-- the pair, and the side that its walk came in by
pub record Holder : Type 0 where
  pub side : ℕ
  pub active : ℕ
  pub passive : ℕ

-- the same side and the same pair
abbrev pub same_holder : Holder → Holder → Bool
same_holder c v = also (eqb c.side v.side) (also (eqb c.active v.active) (eqb c.passive v.passive))

-- a pair as the holder of entries of router r
abbrev pub holder_of : Plan → ℕ → ℕ → ℕ → Holder
holder_of pl a p r = record { side = came_in pl a p r; active = a; passive = p }

-- ---- the entries of a piece of a walk
-- the k-th router is on the piece from the first to before the past one, and t is the slot k rounds after the start
abbrev pub reaches : ℕ → ℕ → Slot → ℕ → ℕ → Option ℕ → Bool
reaches slots t start first past (some k) =
    pick (ltb k first) false (pick (ltb k past) (eqb t (slot_after start (record { 0 = k }) slots).0) false)
reaches slots t start first past none = false

-- where router r stands on the walk of a pair
abbrev pub index_of : Plan → ℕ → ℕ → ℕ → Option ℕ
index_of pl a p r = index_on pl (passive p) (home pl (active a)) r

-- 1 if the entry (r, o, t), held by v, is one of those that the pair (a, p) books from a start slot on, at its routers
-- from the first to before the past one; else 0
unfoldable pub owning : Plan → ℕ → ℕ → ℕ → Holder → ℕ → ℕ → Slot → ℕ → ℕ → ℕ
owning pl r o t v a p start first past =
    pick (also (eqb o (route_to pl (passive p) r)) (reaches (S pl) t start first past (index_of pl a p r)))
    (bit (same_holder (holder_of pl a p r) v)) 0

-- ---- packets
abbrev pub index_number : Option ℕ → ℕ
index_number (some k) = k
index_number none = 0

-- the routers that a packet on the way to the passive has behind it at a place, as `Ahead` says
unfoldable pub behind : Plan → ℕ → ℕ → Place → ℕ
behind pl a p (in_queue (active_out x)) = 0
behind pl a p (in_queue (U r i)) = index_number (index_of pl a p r)
behind pl a p (in_queue (Q r i)) = index_number (index_of pl a p r)
behind pl a p (handled_at r i) = index_number (index_of pl a p r) + 1
behind pl a p (in_queue (F h r o)) = index_number (index_of pl a p r) + 1
behind pl a p (in_queue (passive_in x)) = span pl a p
behind pl a p (in_queue (active_in x)) = 0
behind pl a p (in_queue (passive_out x)) = 0
behind pl a p (in_queue (K r i o)) = 0

-- SETUP, ACK, NACK: hub routers from the walk's first, with the slot minus hub at that
abbrev pub owns_up : Plan → ℕ → ℕ → ℕ → Holder → Packet → ℕ
owns_up pl r o t v x = owning pl r o t v x.active x.passive (start_slot x.slot x.hub (S pl)) 0 x.hub.0

-- TDOWN with n routers behind it: the hub routers ahead of it, with its slot at the next of them
abbrev pub owns_down : Plan → ℕ → ℕ → ℕ → Holder → ℕ → Packet → ℕ
owns_down pl r o t v n x =
    owning pl r o t v x.active x.passive (start_slot x.slot (record { 0 = n }) (S pl)) n (n + x.hub.0)

-- what a packet of a kind owns at a place
abbrev pub owns_kind : Plan → ℕ → ℕ → ℕ → Holder → Place → Kind → Packet → ℕ
owns_kind pl r o t v at Setup x = owns_up pl r o t v x
owns_kind pl r o t v at Tdown x = owns_down pl r o t v (behind pl x.active x.passive at) x
owns_kind pl r o t v at Ack x = owns_up pl r o t v x
owns_kind pl r o t v at Nack x = owns_up pl r o t v x

-- 1 if the packet at that place owns the entry, held by v; else 0
unfoldable pub owns : Plan → ℕ → ℕ → ℕ → Holder → Weight
owns pl r o t v at x = owns_kind pl r o t v at x.kind x

-- ---- accepted connections: all routers of the walk, as `Makes` says
unfoldable pub owns_made : Plan → ℕ → ℕ → ℕ → Holder → Connection → ℕ
owns_made pl r o t v c = owning pl r o t v c.active c.passive c.start 0 (span pl c.active c.passive)

-- how many of the accepted connections own the entry, held by v
unfoldable pub made : Plan → ℕ → ℕ → ℕ → Holder → List Connection → ℕ
made pl r o t v [] = 0
made pl r o t v (c ∷ cs) = owns_made pl r o t v c + made pl r o t v cs

-- ---- the table with holders
-- the entry: the holder's side
abbrev pub held_entry : Option Holder → Entry
held_entry none = Free
held_entry (some c) = Booked c.side

-- 1 if the holder is v
abbrev pub holds : Option Holder → Holder → ℕ
holds none v = 0
holds (some c) v = bit (same_holder c v)

-- an accepted connection is of a served pair, and starts at a slot
pub record Agreed (pl : Plan) (c : Connection) : Type 0 where
  pub active : c.active < A pl
  pub passive : c.passive < P pl
  pub serves : Served pl c.active c.passive
  pub start : c.start.0 < S pl

-- every booked entry has a holder, and is owned once: by a packet of that pair, or by an accepted connection of it
pub record Owned (pl : Plan) (acc : List Connection) (s : State) : Type 0 where
  pub holders : ℕ → ℕ → ℕ → Option Holder
  -- the table has the holders' sides, and is free where there is none
  pub entries : (r o t : ℕ) → r < R pl → o < 4 → t < S pl → s.table r o t ≡ held_entry (holders r o t)
  -- packets and accepted connections together own each entry once for its holder, and never for another
  pub owners : (r o t : ℕ) → r < R pl → o < 4 → t < S pl → (v : Holder)
      → weighed pl (owns pl r o t v) s + made pl r o t v acc ≡ holds (holders r o t) v
  pub agreed : (c : Connection) → In c acc → Agreed pl c
