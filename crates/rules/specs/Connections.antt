-- Connections: an active, a passive and a start slot. The entries that a connection makes, and the table of several.
use Rattle.std.specs.Prelude.{◌≡◌, Bool, ◌&&◌, List, [], ◌∷◌, ℕ, ◌+◌, ◌<◌, eqb}
use Rattle.basis.specs.Choice.{pick}
use Rattle.basis.specs.Among.{In}
use Rattle.kinds.specs.declared.Slot.{Slot}
use Rattle.packets.specs.declared.Packet.{Packet}
use Rattle.packets.specs.declared.Entry.{Entry}
use Rattle.packets.specs.declared.Entry.TheVariants.{Free, Booked}
use Rattle.packets.specs.Counters.{start_slot, slot_after}
use Rattle.plan.specs.Plan.{Plan, passive, R, S, route_to}
use Rattle.plan_queues.specs.Feeds.{Stands}

pub record Connection : Type 0 where
  pub active : ℕ
  pub passive : ℕ
  pub start : Slot

-- a connection by its three numbers
abbrev pub connection : ℕ → ℕ → ℕ → Connection
connection a p t = record { active = a; passive = p; start = record { 0 = t } }

-- the connection of a packet: its pair, and slot minus hub
abbrev pub connection_of : Plan → Packet → Connection
connection_of pl x = record { active = x.active; passive = x.passive; start = start_slot x.slot x.hub (S pl) }

-- the same three numbers
abbrev pub same_connection : Connection → Connection → Bool
same_connection c d = eqb c.active d.active && eqb c.passive d.passive && eqb c.start.0 d.start.0

-- how many times a connection is in a list
abbrev pub times : Connection → List Connection → ℕ
times d [] = 0
times d (c ∷ cs) = pick (same_connection c d) 1 0 + times d cs

-- the connections of a list but one
abbrev pub without : Connection → List Connection → List Connection
without d [] = []
without d (c ∷ cs) = pick (same_connection c d) (without d cs) (c ∷ without d cs)

-- 'At its n-th router, n from 0, an accepted connection makes the entry (walk's side, start slot + n modulo S),
-- holding the side the walk came in by'
pub record Makes (pl : Plan) (c : Connection) (r o t i : ℕ) : Type 0 where
  pub index : ℕ
  pub at : Stands pl c.active c.passive index r i
  pub side : o ≡ route_to pl (passive c.passive) r
  pub slot : t ≡ (slot_after c.start (record { 0 = index }) (S pl)).0

-- 'The table they make has these entries, and every other one is free'
pub record MadeBy (pl : Plan) (cs : List Connection) (table : ℕ → ℕ → ℕ → Entry) : Type 0 where
  pub made : (c : Connection) → In c cs → (r o t i : ℕ) → Makes pl c r o t i → table r o t ≡ Booked i
  pub else_free : (r o t : ℕ) → r < R pl → o < 4 → t < S pl
      → ((c : Connection) (i : ℕ) → In c cs → Makes pl c r o t i → ⊥) → table r o t ≡ Free
