-- What a unit, and an active that tears down, can make of a state: one law each, over any fact about states.
use mathlib.Core.Path.{◌≡◌, refl}
use mathlib.Core.Bool.{Bool, true, false, ◌&&◌}
use mathlib.Core.List.{List, [], ◌∷◌}
use Prim.Native.Nat.{ℕ}
use lib.Dec.{eqb}
use Rattle.basis.specs.Choice.{not_both}
use Rattle.packets.specs.declared.Kind.{Kind}
use Rattle.packets.specs.declared.Kind.TheVariants.{Setup, Tdown, Ack, Nack}
use Rattle.packets.specs.declared.Packet.{Packet}
use Rattle.packets.specs.declared.Entry.{Entry}
use Rattle.packets.specs.declared.Entry.TheVariants.{Free, Booked}
use Rattle.plan.specs.Plan.{Plan, passive, S, route_to}
use Rattle.plan_queues.specs.Queue.{active_out, active_in, Q}
use Rattle.rules.specs.State.{State, with_queue, with_flag, with_entry}
use Rattle.rules.specs.Execute.{came_in, declined, booked, freed, may_book, handled_as, set_up, tear_one, tear_down}
use Rattle.rules.specs.Execute.{handle, at_unit, unit, unmarked, torn, has_room, answer, at_active, undo}

module _ (pl : Plan) (s : State) (P : State → Type 0) where
  -- a unit does nothing; or its unhandled head becomes another packet, with or without a change of one entry; or the
  -- head ends
  pub unit_by : (r i : ℕ) → P s
      → ((x y : Packet) (rest : List Packet) → s.lines.queue (Q r i) ≡ x ∷ rest → s.lines.handled (Q r i) ≡ false
      → P (handled_as r i y rest s))
      → ((x y : Packet) (rest : List Packet) (o t : ℕ) (e : Entry) → s.lines.queue (Q r i) ≡ x ∷ rest
      → s.lines.handled (Q r i) ≡ false → P (handled_as r i y rest (with_entry r o t e s)))
      → ((x : Packet) (rest : List Packet) (o t : ℕ) (e : Entry) → s.lines.queue (Q r i) ≡ x ∷ rest
      → s.lines.handled (Q r i) ≡ false → P (with_flag (Q r i) true (with_queue (Q r i) rest (with_entry r o t e s))))
      → P (unit pl r i s)
  unfolding unit at_unit handle set_up tear_down tear_one
  unit_by r i same turned booking ended = by (s.lines.queue (Q r i)) refl (s.lines.handled (Q r i)) refl
    where
      set : (o : ℕ) (x : Packet) (rest : List Packet) → s.lines.queue (Q r i) ≡ x ∷ rest
          → s.lines.handled (Q r i) ≡ false → (b : Bool) → P (set_up pl r i o x rest b s)
      set o x rest e m true =
          booking x (booked (S pl) x) rest o x.slot.0 (Booked (came_in pl x.active x.passive r)) e m
      set o x rest e m false = turned x (declined x) rest e m

      tear : (o : ℕ) (x : Packet) (rest : List Packet) → s.lines.queue (Q r i) ≡ x ∷ rest → s.lines.handled (Q r i)
          ≡ false → (b : Bool) → P (tear_one pl r i x rest b (with_entry r o x.slot.0 Free s))
      tear o x rest e m true = ended x rest o x.slot.0 Free e m
      tear o x rest e m false = booking x (freed (S pl) x) rest o x.slot.0 Free e m

      kind : (o : ℕ) (x : Packet) (rest : List Packet) → s.lines.queue (Q r i) ≡ x ∷ rest
          → s.lines.handled (Q r i) ≡ false → (k : Kind) → P (handle pl r i o k x rest s)
      kind o x rest e m Setup = set o x rest e m (may_book (S pl) (s.table r o) x.slot.0)
      kind o x rest e m Tdown = tear o x rest e m (eqb x.hub.0 1)
      kind o x rest e m Ack = same
      kind o x rest e m Nack = same

      by : (xs : List Packet) → s.lines.queue (Q r i) ≡ xs → (b : Bool) → s.lines.handled (Q r i) ≡ b
          → P (at_unit pl r i xs b s)
      by [] e b m = same
      by (x ∷ rest) e true m = same
      by (x ∷ rest) e false m = kind (route_to pl (passive x.passive) r) x rest e m x.kind

  -- an active does nothing; or its in-queue's unmarked head is marked and a tear-down joins its out-queue, which has
  -- room
  pub undo_by : (a : ℕ) → P s
      → ((x : Packet) (rest : List Packet) → s.lines.queue (active_in a) ≡ x ∷ rest → unmarked x ≡ true
      → has_room pl (active_out a) s ≡ true → P (torn pl a x rest s))
      → P (undo pl a s)
  unfolding undo at_active answer
  undo_by a same tears = by (s.lines.queue (active_in a)) refl
    where
      both : (b c : Bool) → (b && c) ≡ true → (b ≡ true) × (c ≡ true)
      both true c e = (refl, e)
      both false c e = absurd (not_both e refl)

      given : (x : Packet) (rest : List Packet) → s.lines.queue (active_in a) ≡ x ∷ rest → (b : Bool)
          → (unmarked x && has_room pl (active_out a) s) ≡ b → P (answer pl a x rest b s)
      given x rest e true t = let g = both (unmarked x) (has_room pl (active_out a) s) t in tears x rest e g.0 g.1
      given x rest e false t = same

      by : (xs : List Packet) → s.lines.queue (active_in a) ≡ xs → P (at_active pl a xs s)
      by [] e = same
      by (x ∷ rest) e = given x rest e (unmarked x && has_room pl (active_out a) s) refl
