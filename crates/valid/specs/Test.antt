-- Refusal 7's test on the abstract state: one short test for each part of Valid, each a loop over the plan's places.
use Rattle.std.specs.Prelude.{Bool, true, false, not, ◌||◌, List, [], ◌∷◌, ℕ, zero, suc, ◌+◌, eqb, ltb, leb, length}
use Rattle.std.proofs.Math.Option.{Option, none, some}
use Rattle.basis.specs.Choice.{pick, also}
use Rattle.basis.specs.Bounded.{any_below, all_below}
use Rattle.basis.specs.Walk.{Spot, on, end, lost}
use Rattle.packets.specs.declared.Kind.{Kind}
use Rattle.packets.specs.declared.Kind.TheVariants.{Setup, Tdown, Ack, Nack}
use Rattle.packets.specs.declared.Packet.{Packet}
use Rattle.packets.specs.declared.Wire.{Wire}
use Rattle.packets.specs.declared.Wire.TheVariants.{Empty, Full}
use Rattle.packets.specs.declared.Phase.TheVariants.{Read, Execute, Write}
use Rattle.packets.specs.declared.Entry.{Entry}
use Rattle.packets.specs.declared.Entry.TheVariants.{Free, Booked}
use Rattle.plan.specs.Plan.{Plan, Port, Interface, active, passive, R, A, P, S, route_to}
use Rattle.plan.specs.Rules.{home}
use Rattle.plan_walks.specs.Walk.{onward, walked}
use Rattle.plan_walks.specs.Served.{served}
use Rattle.plan_walks.specs.Steps.{stands_on}
use Rattle.plan_queues.specs.Queue.{ahead, back, Queue, active_out, active_in, passive_in, passive_out, U, Q, F, K}
use Rattle.plan_queues.specs.Queue.{queues}
use Rattle.plan_queues.specs.Queue.{queue_at}
use Rattle.plan_queues.specs.Role.{is_unit}
use Rattle.plan_queues.specs.Feeds.{Output, of_active, of_passive, of_side, to_unit, from_unit, Place, in_queue}
use Rattle.plan_queues.specs.Feeds.{handled_at, span}
use Rattle.plan_queues.specs.Feeds.{head_place}
use Rattle.rules.specs.Capacity.{capacity}
use Rattle.rules.specs.Outputs.{next_by, senders, last_in_order, outputs, output_at}
use Rattle.rules.specs.State.{State, Choice, nobody, sender, start_allowance, is_free, is_full}
use Rattle.rules.specs.Execute.{candidate}
use Rattle.rules.specs.Write.{of_rank}
use Rattle.rules.specs.Visits.{is_empty}
use Rattle.rules.specs.Calls.{is_phase}
use Rattle.rules.specs.Valid.{bit, on_wires, total, spends, is_joined, fed}
use Rattle.valid.specs.Ties.{ties_test}

-- every one of a list passes
abbrev pub all_in : {X : Type 0} → (X → Bool) → List X → Bool
all_in f [] = true
all_in f (x ∷ xs) = also (f x) (all_in f xs)

-- ---- where a walk stands
-- on router r, entered by side i
abbrev pub stands_at : ℕ → ℕ → Spot Port → Bool
stands_at r i (on x) = also (eqb x.router r) (eqb x.side i)
stands_at r i end = false
stands_at r i lost = false

-- where the pair's walk stands after n routers
abbrev pub reached : Plan → ℕ → ℕ → ℕ → Spot Port
reached pl a p n = walked pl (passive p) n (home pl (active a))

-- the last of the n routers behind the packet is r
abbrev pub left_test : Plan → ℕ → ℕ → ℕ → ℕ → Bool
left_test pl a p r zero = false
left_test pl a p r (suc m) = stands_on r (reached pl a p m)

-- and the walk came in to it by side i
abbrev pub left_at_test : Plan → ℕ → ℕ → ℕ → ℕ → ℕ → Bool
left_at_test pl a p r i zero = false
left_at_test pl a p r i (suc m) = stands_at r i (reached pl a p m)

-- the walk to e from a port comes in by y, within as many steps as there are routers
unfoldable pub meets_test : Plan → Interface → Port → Port → Bool
meets_test pl e from y = any_below (R pl) (λ k. stands_at y.router y.side (walked pl e k from))

-- ---- where a packet of the pair may be, n its routers behind: on the way to the passive
unfoldable pub ahead_test : Plan → ℕ → ℕ → Place → ℕ → Bool
ahead_test pl a p (in_queue (active_out x)) n = also (eqb x a) (eqb n 0)
ahead_test pl a p (in_queue (U r i)) n = stands_at r i (reached pl a p n)
ahead_test pl a p (in_queue (Q r i)) n = stands_at r i (reached pl a p n)
ahead_test pl a p (handled_at r i) n = left_at_test pl a p r i n
ahead_test pl a p (in_queue (F back r o)) n = false
ahead_test pl a p (in_queue (F ahead r o)) n = also (left_test pl a p r n) (eqb o (route_to pl (passive p) r))
ahead_test pl a p (in_queue (passive_in x)) n = also (eqb x p) (eqb n (span pl a p))
ahead_test pl a p (in_queue (active_in x)) n = false
ahead_test pl a p (in_queue (passive_out x)) n = false
ahead_test pl a p (in_queue (K r i o)) n = false

-- ---- on the way back: from the passive, or from the unit of the n-th router
-- a walk back that goes on to a router comes in by y later
abbrev pub on_meets : Plan → ℕ → Port → Spot Port → Bool
on_meets pl a y (on z) = meets_test pl (active a) z y
on_meets pl a y end = false
on_meets pl a y lost = false

-- a NACK from the router where the walk stands comes in by y
abbrev pub nack_meets : Plan → ℕ → Port → Spot Port → Bool
nack_meets pl a y (on x) = on_meets pl a y (onward pl (active a) x)
nack_meets pl a y end = false
nack_meets pl a y lost = false

unfoldable pub returns_test : Plan → ℕ → ℕ → ℕ → Port → Bool
returns_test pl a p n y =
    also (eqb n (span pl a p)) (meets_test pl (active a) (home pl (passive p)) y) || nack_meets pl a y
    (reached pl a p n)

unfoldable pub back_test : Plan → ℕ → ℕ → Place → ℕ → Bool
back_test pl a p (in_queue (passive_out x)) n = also (eqb x p) (eqb n (span pl a p))
back_test pl a p (handled_at r i) n = stands_at r i (reached pl a p n)
back_test pl a p (in_queue (F ahead r o)) n = false
back_test pl a p (in_queue (F back r o)) n = also (stands_on r (reached pl a p n)) (eqb o (route_to pl (active a) r))
back_test pl a p (in_queue (K r i o)) n =
    also (eqb o (route_to pl (active a) r)) (returns_test pl a p n (record { router = r; side = i }))
back_test pl a p (in_queue (active_in x)) n = also (eqb x a) (leb n (span pl a p))
back_test pl a p (in_queue (Q r i)) n = false
back_test pl a p (in_queue (U r i)) n = false
back_test pl a p (in_queue (active_out x)) n = false
back_test pl a p (in_queue (passive_in x)) n = false

-- a packet of this kind, pair and hub may be at this place; the hub of a tear-down and the routers behind it are at
-- most the walk's length
unfoldable pub fits_test : Plan → Kind → ℕ → ℕ → ℕ → Place → Bool
fits_test pl Setup a p hub x = ahead_test pl a p x hub
fits_test pl Tdown a p hub x =
    also (leb 1 hub) (any_below (span pl a p) (λ n. also (leb (n + hub) (span pl a p)) (ahead_test pl a p x n)))
fits_test pl Ack a p hub x = also (eqb hub (span pl a p)) (back_test pl a p x hub)
fits_test pl Nack a p hub x = back_test pl a p x hub

-- ---- packets
unfoldable pub packet_test : Plan → Packet → Bool
packet_test pl x =
    also (ltb x.active (A pl))
    (also (ltb x.passive (P pl)) (also (ltb x.slot.0 (S pl)) (leb x.hub.0 16)))

unfoldable pub belongs_test : Plan → Place → Packet → Bool
belongs_test pl at x =
    also (packet_test pl x)
    (also (served pl x.active x.passive) (fits_test pl x.kind x.active x.passive x.hub.0 at))

-- the head where it may be, and all behind it in the queue itself
abbrev pub lined_test : Plan → Queue → Bool → List Packet → Bool
lined_test pl q done [] = true
lined_test pl q done (x ∷ rest) = also (belongs_test pl (head_place done q) x)
    (all_in (belongs_test pl (in_queue q)) rest)

-- a packet on a wire belongs in the queue that it goes to
abbrev pub bound_test : Plan → Packet → Option Queue → Bool
bound_test pl x none = false
bound_test pl x (some q) = belongs_test pl (in_queue q) x

abbrev pub wire_test : Plan → Output → Wire → Bool
wire_test pl o Empty = true
wire_test pl o (Full x) = bound_test pl x (next_by pl o x)

-- ---- choices
abbrev pub may_test : Plan → State → Output → Option Queue → Bool
may_test pl s o none = false
may_test pl s o (some q) = candidate pl s o q

abbrev pub choice_test : Plan → State → Output → Choice → Bool
choice_test pl s o nobody = true
choice_test pl s o (sender k) = also (is_phase s.clock.phase Write) (may_test pl s o (of_rank (senders o) k))

abbrev pub down_test : State → Option Queue → Bool
down_test s none = true
down_test s (some q) = not (s.flow.flag q)

abbrev pub picked_test : State → Output → Choice → Bool
picked_test s o nobody = true
picked_test s o (sender k) = down_test s (of_rank (senders o) k)

-- ---- entries
abbrev pub entry_test : Entry → Bool
entry_test Free = true
entry_test (Booked i) = ltb i 4

-- ---- the parts of Valid, in its order
abbrev pub every_queue : Plan → (Queue → Bool) → Bool
every_queue pl f = all_below (queues pl) (λ n. f (queue_at pl n))

abbrev pub every_output : Plan → (Output → Bool) → Bool
every_output pl f = all_below (outputs pl) (λ n. f (output_at pl n))

-- 'phase, slot .. out of range'
unfoldable pub slot_test : Plan → State → Bool
slot_test pl s = ltb s.clock.slot.0 (S pl)

-- 'entry out of range'
unfoldable pub entries_test : Plan → State → Bool
entries_test pl s = all_below (R pl) (λ r. all_below 4 (λ o. all_below (S pl) (λ t. entry_test (s.table r o t))))

-- 'a queue over capacity'
unfoldable pub capacities_test : Plan → State → Bool
capacities_test pl s = every_queue pl (λ q. leb (length (s.lines.queue q)) (capacity pl.head q))

-- 'a packet where no journey of its pair puts it, or with a hub that doesn't fit that place'; 'an answer in Q that is
-- not its handled head'
unfoldable pub places_test : Plan → State → Bool
places_test pl s = every_queue pl (λ q. lined_test pl q (s.lines.handled q) (s.lines.queue q))

unfoldable pub wires_test : Plan → State → Bool
wires_test pl s = every_output pl (λ o. wire_test pl o (s.links.wire o))

-- 'a wire full outside READ'
unfoldable pub wires_empty_test : Plan → State → Bool
wires_empty_test pl s = is_phase s.clock.phase Read || every_output pl (λ o. not (is_full (s.links.wire o)))

-- 'a choice outside WRITE or of no candidate'
unfoldable pub choices_test : Plan → State → Bool
choices_test pl s = every_output pl (λ o. choice_test pl s o (s.links.choice o))

-- 'a flag up in EXECUTE or on a queue whose head is picked'; a queue that no wire feeds has none
unfoldable pub flags_down_test : Plan → State → Bool
flags_down_test pl s = not (is_phase s.clock.phase Execute) || every_queue pl (λ q. not (s.flow.flag q))

unfoldable pub picked_down_test : Plan → State → Bool
picked_down_test pl s = every_output pl (λ o. picked_test s o (s.links.choice o))

unfoldable pub out_flags_test : Plan → State → Bool
out_flags_test pl s = every_queue pl (λ q. fed pl q || not (s.flow.flag q))

-- 'a handled mark on an empty Q'
unfoldable pub marks_test : Plan → State → Bool
marks_test pl s = every_queue pl (λ q. not (s.lines.handled q) || also (is_unit q) (not (is_empty (s.lines.queue q))))

-- 'a side with no free entry'
unfoldable pub free_entry_test : Plan → State → Bool
free_entry_test pl s = all_below (R pl) (λ r. all_below 4 (λ o. any_below (S pl) (λ t. is_free (s.table r o t))))

-- 'credit + queued + wire + raised flag ≠ capacity of a queue fed by a wire'; any other's credit is as Start left it
unfoldable pub credits_test : Plan → State → Bool
credits_test pl s =
    every_queue pl
    (λ q. not (fed pl q) || eqb ((s.flow.credit q).0 + length (s.lines.queue q) + on_wires pl q s
    + bit (s.flow.flag q)) (capacity pl.head q))

unfoldable pub out_credits_test : Plan → State → Bool
out_credits_test pl s = every_queue pl (λ q. fed pl q || eqb (s.flow.credit q).0 (capacity pl.head q))

-- 'an active's allowance + its SETUPs, ACKs and NACKs ≠ its start allowance'
unfoldable pub allowances_test : Plan → State → Bool
allowances_test pl s = all_below (A pl) (λ a. eqb (s.flow.allowance a + total pl (spends a) s) (start_allowance pl))

-- what an output remembers: the rank of one of its senders, and at a side that is not joined that of the last in order
abbrev pub has_wire : Plan → Output → Bool
has_wire pl (of_active a) = true
has_wire pl (of_passive p) = true
has_wire pl (of_side r o) = is_joined (pl.joint r o)
has_wire pl (to_unit r) = true
has_wire pl (from_unit r) = true

abbrev pub turn_test : Plan → Output → ℕ → Bool
turn_test pl o k = pick (has_wire pl o) (ltb k (length (senders o))) (eqb k (last_in_order o))

unfoldable pub turns_test : Plan → State → Bool
turns_test pl s = every_output pl (λ o. turn_test pl o (s.last_sender o))

-- ---- a state
unfoldable pub valid_test : Plan → State → Bool
valid_test pl s =
    also (slot_test pl s)
    (also (entries_test pl s) (also (capacities_test pl s) (also (places_test pl s) (also (wires_test pl s)
    (also (wires_empty_test pl s)
    (also (choices_test pl s) (also (flags_down_test pl s) (also (picked_down_test pl s) (also (out_flags_test pl s)
    (also (marks_test pl s)
    (also (free_entry_test pl s) (also (credits_test pl s) (also (out_credits_test pl s)
    (also (allowances_test pl s) (also (ties_test pl s) (turns_test pl s))))))))))))))))
