-- '*EXECUTE*, in this order': (1) each unit handles its head, (2) each output picks a sender, (3) each active tears
-- down what was declined.
use Rattle.std.specs.Prelude.{Bool, true, false, not, ◌&&◌, List, [], ◌∷◌, ℕ, suc, ◌*◌, ◌/◌, ◌%◌, eqb, ltb, length}
use Rattle.std.specs.Prelude.{drop}
use Rattle.std.proofs.Math.Option.{Option, none, some}
use Rattle.basis.specs.Choice.{pick, also}
use Rattle.basis.specs.Bounded.{any_below}
use Rattle.basis.specs.Fold.{up_to}
use Rattle.packets.specs.declared.Kind.{Kind}
use Rattle.packets.specs.declared.Kind.TheVariants.{Setup, Tdown, Ack, Nack}
use Rattle.packets.specs.declared.Packet.{Packet}
use Rattle.packets.specs.declared.Phase.TheVariants.{Write}
use Rattle.packets.specs.declared.Entry.{Entry}
use Rattle.packets.specs.declared.Entry.TheVariants.{Free, Booked}
use Rattle.packets.specs.Counters.{slot_next, start_slot, hub_up, hub_down}
pub use Rattle.packets.specs.Directions.{unmarked_kind, unmarked}
use Rattle.plan.specs.Plan.{Plan, passive, R, A, S, route_to}
use Rattle.plan_queues.specs.Queue.{Queue, active_out, active_in, Q}
use Rattle.plan_queues.specs.Role.{Role, sending, receiving, handling, passing, role}
pub use Rattle.plan_queues.specs.Feeds.{came_by}
unfoldable pub use Rattle.plan_queues.specs.Feeds.{came_in}
use Rattle.plan_queues.specs.Feeds.{Output, of_active, of_passive, of_side, to_unit, from_unit}
use Rattle.rules.specs.Capacity.{capacity}
use Rattle.rules.specs.Outputs.{next_by, senders, outputs, output_at}
use Rattle.rules.specs.State.{State, Choice, nobody, sender, with_phase, with_queue, with_flag, with_handled}
use Rattle.rules.specs.State.{with_choice, with_entry, join, is_free}

-- ---- (1) 'Each unit handles Q's head once, if not yet handled, and no second head in that round'; by document 02 (i)
-- 'A unit handles each queue's unhandled head once in a round, side 0 first'
-- 'the packet becomes a NACK, slot and hub kept'
abbrev pub declined : Packet → Packet
declined x = record { kind = Nack; active = x.active; passive = x.passive; slot = x.slot; hub = x.hub }

-- 'hub and slot each grow by one, the slot modulo S'
abbrev pub booked : ℕ → Packet → Packet
booked slots x =
    record {
      kind = x.kind;
      active = x.active;
      passive = x.passive;
      slot = slot_next x.slot slots;
      hub = hub_up x.hub;
    }

-- 'hub falls and slot grows by one modulo S'
abbrev pub freed : ℕ → Packet → Packet
freed slots x =
    record {
      kind = x.kind;
      active = x.active;
      passive = x.passive;
      slot = slot_next x.slot slots;
      hub = hub_down x.hub;
    }

-- another entry of the side than that of slot t is free
unfoldable pub other_free : ℕ → (ℕ → Entry) → ℕ → Bool
other_free slots entries t = any_below slots (λ u. not (eqb u t) && is_free (entries u))

-- the entry is neither booked nor the only free one of its side
unfoldable pub may_book : ℕ → (ℕ → Entry) → ℕ → Bool
may_book slots entries t = is_free (entries t) && other_free slots entries t

-- the head of Q[i] has been handled and is now x
abbrev pub handled_as : ℕ → ℕ → Packet → List Packet → State → State
handled_as r i x rest s = with_handled (Q r i) true (with_queue (Q r i) (x ∷ rest) s)

-- 'SETUP: o is the walk's side. If entry (o, slot) is booked, or is the only free entry of o, the packet becomes a
-- NACK .. Else the entry is booked with the side the walk came in by'
unfoldable pub set_up : Plan → ℕ → ℕ → ℕ → Packet → List Packet → Bool → State → State
set_up pl r i o x rest true s =
    handled_as r i (booked (S pl) x) rest (with_entry r o x.slot.0 (Booked (came_in pl x.active x.passive r)) s)
set_up pl r i o x rest false s = handled_as r i (declined x) rest s

-- 'TDOWN: the entry is freed; with hub 1 the packet ends and Q's flag rises, else hub falls ..'
unfoldable pub tear_one : Plan → ℕ → ℕ → Packet → List Packet → Bool → State → State
tear_one pl r i x rest true s = with_flag (Q r i) true (with_queue (Q r i) rest s)
tear_one pl r i x rest false s = handled_as r i (freed (S pl) x) rest s

unfoldable pub tear_down : Plan → ℕ → ℕ → ℕ → Packet → List Packet → State → State
tear_down pl r i o x rest s = tear_one pl r i x rest (eqb x.hub.0 1) (with_entry r o x.slot.0 Free s)

-- a unit's head by its kind; an answer at a unit has been handled
unfoldable pub handle : Plan → ℕ → ℕ → ℕ → Kind → Packet → List Packet → State → State
handle pl r i o Setup x rest s = set_up pl r i o x rest (may_book (S pl) (s.table r o) x.slot.0) s
handle pl r i o Tdown x rest s = tear_down pl r i o x rest s
handle pl r i o Ack x rest s = s
handle pl r i o Nack x rest s = s

unfoldable pub at_unit : Plan → ℕ → ℕ → List Packet → Bool → State → State
at_unit pl r i [] done s = s
at_unit pl r i (x ∷ rest) true s = s
at_unit pl r i (x ∷ rest) false s = handle pl r i (route_to pl (passive x.passive) r) x.kind x rest s

-- router r's unit handles the head of Q[i]
unfoldable pub unit : Plan → ℕ → ℕ → State → State
unit pl r i s = at_unit pl r i (s.lines.queue (Q r i)) (s.lines.handled (Q r i)) s

-- by number, router by router, side 0 first
abbrev pub unit_at : Plan → ℕ → State → State
unit_at pl n = unit pl (n / 4) (n % 4)

-- ---- (2) 'Each output picks a sender'
-- 'its next queue has credit'
abbrev pub has_credit : State → Option Queue → Bool
has_credit s none = false
has_credit s (some q) = ltb 0 (s.flow.credit q).0

-- 'in Q a handled one'
abbrev pub may_leave_as : Role → Bool → Bool
may_leave_as sending done = true
may_leave_as receiving done = true
may_leave_as (handling r i) done = done
may_leave_as passing done = true

abbrev pub may_leave : State → Queue → Bool
may_leave s q = may_leave_as (role q) (s.lines.handled q)

-- 'A candidate has a head (in Q a handled one) and its next queue has credit'
abbrev pub head_ready : Plan → State → Output → Bool → List Packet → Bool
head_ready pl s o leaves [] = false
head_ready pl s o leaves (x ∷ rest) = also leaves (has_credit s (next_by pl o x))

unfoldable pub candidate : Plan → State → Output → Queue → Bool
candidate pl s o q = head_ready pl s o (may_leave s q) (s.lines.queue q)

-- 'a router side picks nobody when its entry for the current slot is booked'
abbrev pub is_open : State → Output → Bool
is_open s (of_active a) = true
is_open s (of_passive p) = true
is_open s (of_side r o) = is_free (s.table r o s.clock.slot.0)
is_open s (to_unit r) = true
is_open s (from_unit r) = true

-- the first of the senders, from rank k on, that passes
unfoldable pub first_of : (Queue → Bool) → ℕ → List Queue → Choice
first_of ready k [] = nobody
first_of ready k (q ∷ qs) = pick (ready q) (sender k) (first_of ready (suc k) qs)

-- one choice, or another where it is nobody
abbrev pub or_else : Choice → Choice → Choice
or_else nobody d = d
or_else (sender k) d = sender k

-- 'looks from the next one on, cyclically, in the old order' (document 02 (b)): behind rank k to the end of the order,
-- and then from its beginning on
unfoldable pub next_of : (Queue → Bool) → ℕ → List Queue → Choice
next_of ready k qs = or_else (first_of ready (suc k) (drop (suc k) qs)) (first_of ready 0 qs)

unfoldable pub picked : Plan → State → Output → Choice
picked pl s o = pick (is_open s o) (next_of (candidate pl s o) (s.last_sender o) (senders o)) nobody

unfoldable pub choose : Plan → Output → State → State
choose pl o s = with_choice o (picked pl s o) s

-- ---- (3) 'If an active's in-queue starts with an unmarked NACK and its out-queue is not full, a TDOWN joins the
-- out-queue with the NACK's hub and with slot minus hub modulo S, and the NACK is marked'
-- 'A NACK with hub 0 is *marked*'
abbrev pub marked : Packet → Packet
marked x = record { kind = x.kind; active = x.active; passive = x.passive; slot = x.slot; hub = record { 0 = 0 } }

abbrev pub tdown_of : ℕ → Packet → Packet
tdown_of n x =
    record {
      kind = Tdown;
      active = x.active;
      passive = x.passive;
      slot = start_slot x.slot x.hub n;
      hub = x.hub;
    }

abbrev pub has_room : Plan → Queue → State → Bool
has_room pl q s = ltb (length (s.lines.queue q)) (capacity pl.head q)

abbrev pub torn : Plan → ℕ → Packet → List Packet → State → State
torn pl a x rest s = join (active_out a) (tdown_of (S pl) x) (with_queue (active_in a) (marked x ∷ rest) s)

unfoldable pub answer : Plan → ℕ → Packet → List Packet → Bool → State → State
answer pl a x rest true s = torn pl a x rest s
answer pl a x rest false s = s

unfoldable pub at_active : Plan → ℕ → List Packet → State → State
at_active pl a [] s = s
at_active pl a (x ∷ rest) s = answer pl a x rest (unmarked x && has_room pl (active_out a) s) s

unfoldable pub undo : Plan → ℕ → State → State
undo pl a s = at_active pl a (s.lines.queue (active_in a)) s

-- ---- the three steps
unfoldable pub do_execute : Plan → State → State
do_execute pl s =
    with_phase Write
    (up_to (undo pl) (A pl) (up_to (λ n. choose pl (output_at pl n)) (outputs pl) (up_to (unit_at pl) (4 * R pl) s)))
