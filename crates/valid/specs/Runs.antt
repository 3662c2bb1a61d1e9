-- The test evaluated on plan T: it passes at Start and after every call of a whole connection, and it fails where one
-- part of a state is spoilt.
use Rattle.std.specs.Prelude.{◌≡◌, refl, Bool, true, false, List, [], ◌∷◌, ◌++◌, ℕ, ◌+◌}
use Rattle.basis.specs.Choice.{also}
use Rattle.basis.specs.Bounded.{any_below, all_below}
use Rattle.basis.specs.Fold.{up_to}
use Rattle.basis.specs.Walk.{spot, on_count}
use Rattle.fields.specs.Bits.{bit_at, field_of}
use Rattle.packets.specs.declared.Kind.{Kind}
use Rattle.packets.specs.declared.Kind.TheVariants.{Setup, Tdown, Ack, Nack}
use Rattle.packets.specs.declared.Packet.{Packet}
use Rattle.packets.specs.declared.Wire.TheVariants.{Full}
use Rattle.packets.specs.declared.Phase.TheVariants.{Execute, Write}
use Rattle.packets.specs.declared.Entry.TheVariants.{Booked}
use Rattle.packets.specs.declared.Answer.{Answer}
use Rattle.packets.specs.declared.Answer.TheVariants.{Refused, Done, Shows, Holds, Remains}
use Rattle.plan.specs.Head.{capacity_at, head_of}
use Rattle.plan.specs.Plan.{Plan, joint_in, plan_of}
use Rattle.plan.specs.Rules.{ports_of, home}
use Rattle.plan_walks.specs.Walk.{onward, arrives, walk_size}
use Rattle.plan_walks.specs.Served.{backs_arrive, served_from}
use Rattle.plan_walks.specs.Steps.{index_in, index_on}
use Rattle.plan_queues.specs.Queue.{ahead, back, Queue, active_out, active_in, U, Q, F, K, queues, queue_at}
use Rattle.plan_queues.specs.Feeds.{Output, of_active, of_passive, of_side, to_unit, from_unit}
use Rattle.rules.specs.Outputs.{output_at}
use Rattle.rules.specs.State.{State, sender, blank, start, with_phase, with_slot, with_queue, with_wire, with_credit}
use Rattle.rules.specs.State.{with_flag, with_handled, with_choice, with_entry, with_connection, with_allowance}
use Rattle.rules.specs.State.{with_last_sender, join}
use Rattle.rules.specs.Read.{arrive, deliver, lower, settle, do_read}
use Rattle.rules.specs.Execute.{came_in, other_free, may_book, set_up, tear_one, tear_down, handle, at_unit, unit}
use Rattle.rules.specs.Execute.{candidate, first_of, next_of, picked, choose, answer, at_active, undo, do_execute}
use Rattle.rules.specs.Write.{send_head, send_by, send, do_write}
use Rattle.rules.specs.Visits.{launched, removed, noted, closed}
use Rattle.rules.specs.Calls.{Call, read, execute, write, launch, reply, drop, close, call}
use Rattle.rules.specs.Valid.{bit, sum, on_wires, total}
use Rattle.valid.specs.Ties.{numbered, makes_test, claimed_before, tie_test, pair_ties, ties_test}
use Rattle.valid.specs.Test.{meets_test, ahead_test, returns_test, back_test, fits_test, packet_test, belongs_test}
use Rattle.valid.specs.Test.{slot_test, entries_test, capacities_test, places_test, wires_test, wires_empty_test}
use Rattle.valid.specs.Test.{choices_test, flags_down_test, picked_down_test, out_flags_test, marks_test}
use Rattle.valid.specs.Test.{free_entry_test}
use Rattle.valid.specs.Test.{credits_test, out_credits_test, allowances_test, turns_test, valid_test}
use Rattle.plan.specs.Samples.{plan_t as bytesT, all_sides, two_to_one, narrow_back}
use Rattle.rules.specs.Runs.BothEnds.{with_u0_remembered}
use Rattle.rules.specs.Runs.Spoilt.{anothers_entry, other_stored, booked_behind}

-- plan T of document 01
abbrev plan_t : Plan
plan_t = plan_of bytesT

abbrev round : List Call
round = read ∷ execute ∷ write ∷ []

abbrev pub is_accepted : Answer → Bool
is_accepted (Refused w) = false
is_accepted Done = true
is_accepted (Shows x) = true
is_accepted (Holds e) = true
is_accepted (Remains x) = true

-- each of the calls is accepted, and the test passes before each and after the last
unfoldable pub all_valid : Plan → List Call → State → Bool
all_valid pl [] s = valid_test pl s
all_valid pl (c ∷ cs) s =
    also (valid_test pl s) (also (is_accepted (call pl c s).answer) (all_valid pl cs (call pl c s).state))

-- from Start on plan T
unfoldable pub valid : List Call → Bool
unfolding any_below all_below up_to spot on_count bit_at field_of capacity_at head_of joint_in plan_of ports_of home
    onward arrives walk_size backs_arrive served_from index_in index_on queues queue_at output_at launched removed noted
    closed call arrive deliver lower settle do_read start blank join came_in other_free may_book set_up tear_one
    tear_down handle at_unit unit candidate first_of next_of picked choose answer at_active undo do_execute send_head
    send_by send do_write sum on_wires total meets_test ahead_test returns_test back_test fits_test packet_test
    belongs_test slot_test entries_test capacities_test places_test wires_test wires_empty_test choices_test
    flags_down_test picked_down_test out_flags_test marks_test free_entry_test credits_test out_credits_test
    allowances_test numbered makes_test claimed_before tie_test pair_ties ties_test turns_test valid_test all_valid
valid cs = all_valid plan_t cs (start plan_t)

-- 'Launch (0,0,0) in round 0: booked in round 2, waits at the passive from round 4; accepted there, consumed in
-- round 7': dropped, from document 02 (c) on
pub t_connects : valid (launch 0 0 0 ∷ round ++ round ++ round ++ round ++ (read ∷ execute ∷ reply 0 1 ∷ write ∷ round)
    ++ round ++ (read ∷ execute ∷ drop 0 ∷ write ∷ [])) ≡ true
unfolding valid
t_connects = refl

-- the same passive declines: the NACK is marked, and a TDOWN frees the entry
pub t_declines : valid (launch 0 0 0 ∷ round ++ round ++ round ++ round ++ (read ∷ execute ∷ reply 0 0 ∷ write ∷ round)
    ++ round ++ (read ∷ execute ∷ drop 0 ∷ write ∷ round) ++ round ++ round ++ round) ≡ true
unfolding valid
t_declines = refl

-- the connection is closed: a TDOWN frees its entry
pub t_closes : valid (launch 0 0 0 ∷ round ++ round ++ round ++ round ++ (read ∷ execute ∷ reply 0 1 ∷ write ∷ round)
    ++ round ++ (read ∷ execute ∷ drop 0 ∷ write ∷ close 0 0 0 ∷ round) ++ round ++ round ++ round) ≡ true
unfolding valid
t_closes = refl

-- ---- one part of Start's state is spoilt, or one part of a state that is Start's but for a packet
abbrev packet : Kind → ℕ → Packet
packet k hub = record { kind = k; active = 0; passive = 0; slot = record { 0 = 0 }; hub = record { 0 = hub } }

-- a set-up on the active's wire, as a Write leaves it, but for its hub
abbrev under_way : ℕ → State → State
under_way hub s =
    with_wire (of_active 0) (Full (packet Setup hub)) (with_credit (U 0 0) (record { 0 = 0 }) (with_allowance 0 0 s))

-- a NACK that the first router made, in Q; handled or not
abbrev in_unit : Bool → State → State
in_unit done s =
    with_handled (Q 0 0) done
    (with_queue (Q 0 0) (packet Nack 0 ∷ []) (with_credit (Q 0 0) (record { 0 = 0 }) (with_allowance 0 0 s)))

-- how many of the changes of a plan's Start leave a state; of plan T's
unfoldable pub count_on : Plan → List (State → State) → ℕ
unfolding valid
count_on pl [] = 0
count_on pl (f ∷ fs) = bit (valid_test pl (f (start pl))) + count_on pl fs

unfoldable pub count_valid : List (State → State) → ℕ
unfolding count_on
count_valid fs = count_on plan_t fs

pub t_packets : count_valid
    ((λ s. s) ∷ under_way 0 ∷ (λ s. with_queue (active_out 0) (packet Tdown 1 ∷ []) s) ∷ in_unit true ∷ []) ≡ 4
unfolding count_valid
t_packets = refl

-- in Valid's order, without picked-down: where capacities are 1 a head and a raised flag already break the credits
pub t_spoilt : count_valid (
    (λ s. with_slot (record { 0 = 2 }) s)
    ∷ (λ s. with_entry 0 0 0 (Booked 4) s)
    ∷ (λ s. with_queue (active_out 0) (packet Tdown 1 ∷ packet Tdown 1 ∷ []) s)
    ∷ (λ s. with_queue (active_out 0) (packet Tdown 2 ∷ []) s)
    ∷ (λ s. in_unit false s)
    ∷ (λ s. under_way 1 s)
    ∷ (λ s. with_phase Execute (under_way 0 s))
    ∷ (λ s. with_choice (of_active 0) (sender 0) (with_queue (active_out 0) (packet Tdown 1 ∷ []) s))
    ∷ (λ s. with_phase Write (with_choice (of_active 0) (sender 0) s))
    ∷ (λ s. with_phase Execute (with_flag (U 0 0) true (with_credit (U 0 0) (record { 0 = 0 }) s)))
    ∷ (λ s. with_flag (active_out 0) true s)
    ∷ (λ s. with_handled (Q 0 0) true s)
    ∷ (λ s. with_entry 0 1 0 (Booked 0) (with_entry 0 1 1 (Booked 0) s))
    ∷ (λ s. with_credit (U 0 0) (record { 0 = 0 }) s)
    ∷ (λ s. with_credit (active_out 0) (record { 0 = 0 }) s)
    ∷ (λ s. with_allowance 0 0 s)
    ∷ []
    ) ≡ 0
unfolding count_valid
t_spoilt = refl

-- ---- 'a queue fed by a wire': of T's router sides 0 and 1 are joined, sides 2 and 3 are not
-- a packet has left the queue, and no Read came since
abbrev flagged : Queue → State → State
flagged q s = with_flag q true (with_credit q (record { 0 = 0 }) s)

pub t_fed : count_valid (flagged (U 0 1) ∷ flagged (K 0 1 0) ∷ []) ≡ 2
unfolding count_valid
t_fed = refl

pub t_unfed : count_valid (
    flagged (U 0 2)
    ∷ flagged (K 0 3 0)
    ∷ (λ s. with_flag (U 0 2) true s)
    ∷ (λ s. with_flag (K 0 3 0) true s)
    ∷ (λ s. with_credit (U 0 2) (record { 0 = 0 }) s)
    ∷ (λ s. with_credit (K 0 3 0) (record { 0 = 0 }) s)
    ∷ []
    ) ≡ 0
unfolding count_valid
t_unfed = refl

-- ---- accepted connections: 'a mark for an unserved pair, one lacking any of its entries, or two that share an entry'
-- one more is accepted
abbrev mark : ℕ → ℕ → ℕ → State → State
mark a p t s = with_connection a p t true s

-- its entry is there
pub t_marked : count_valid ((λ s. mark 0 0 0 (with_entry 0 1 0 (Booked 0) s)) ∷ []) ≡ 1
unfolding count_valid
t_marked = refl

-- its entry is free, in another slot, or holds another side
pub t_unmade : count_valid (
    mark 0 0 0
    ∷ (λ s. mark 0 0 0 (with_entry 0 1 1 (Booked 0) s))
    ∷ (λ s. mark 0 0 0 (with_entry 0 1 0 (Booked 2) s))
    ∷ []
    ) ≡ 0
unfolding count_valid
t_unmade = refl

-- active 2 is served with passive 1, active 0 is not
pub sides_served : count_on (plan_of all_sides) ((λ s. mark 2 1 0 (with_entry 1 0 0 (Booked 2) s)) ∷ []) ≡ 1
unfolding count_on
sides_served = refl

pub sides_unserved : count_on (plan_of all_sides)
    (mark 0 1 0 ∷ (λ s. mark 0 1 0 (with_entry 1 0 1 (Booked 3) s)) ∷ []) ≡ 0
unfolding count_on
sides_unserved = refl

-- two routers, S=2, capacities 1. Router 0: side 0 to active 0, side 1 to side 0 of router 1. Router 1: side 1 to
-- passive 0, side 2 to passive 1. Routes: the shortest. At router 0 the walks to both passives leave by side 1.
-- 10 44 11 24 92 4C 02 20 00 02 0E 06 20 00 24 14
abbrev plan_fork : Plan
plan_fork = plan_of
    (16 ∷ 68 ∷ 17 ∷ 36 ∷ 146 ∷ 76 ∷ 2 ∷ 32 ∷ 0 ∷ 2 ∷ 14 ∷ 6 ∷ 32 ∷ 0 ∷ 36 ∷ 20 ∷ [])

-- the entries of both connections in slot 0, the first of which they share
abbrev forked : State → State
forked s = with_entry 0 1 0 (Booked 0) (with_entry 1 1 1 (Booked 0) (with_entry 1 2 1 (Booked 0) s))

-- each may be accepted, not both
pub fork_one : count_on plan_fork ((λ s. mark 0 0 0 (forked s)) ∷ (λ s. mark 0 1 0 (forked s)) ∷ []) ≡ 2
unfolding count_on
fork_one = refl

pub fork_both : count_on plan_fork ((λ s. mark 0 0 0 (mark 0 1 0 (forked s))) ∷ []) ≡ 0
unfolding count_on
fork_both = refl

-- ---- what outputs remember (document 02 (b)): of T's router sides 0 and 1 are joined, sides 2 and 3 are not
abbrev served : Output → ℕ → State → State
served o k s = with_last_sender o k s

-- any of its senders
pub t_ranks : count_valid (
    served (of_side 0 0) 0
    ∷ served (of_side 0 1) 4
    ∷ served (of_side 0 2) 4
    ∷ served (to_unit 0) 0
    ∷ served (from_unit 0) 0
    ∷ served (of_passive 0) 0
    ∷ []
    ) ≡ 6
unfolding count_valid
t_ranks = refl

-- none of its senders, or another than the last in order at a side that is not joined
pub t_unranked : count_valid (
    served (of_side 0 0) 5
    ∷ served (of_side 0 2) 3
    ∷ served (of_side 0 3) 5
    ∷ served (to_unit 0) 4
    ∷ served (from_unit 0) 4
    ∷ served (of_active 0) 1
    ∷ served (of_passive 0) 1
    ∷ []
    ) ≡ 0
unfolding count_valid
t_unranked = refl

-- ---- Q by incoming side, F by what is in it (document 02 (i)): on T all walks come in by side 0
-- a packet of kind k in queue q, with a hub
abbrev waits : Queue → Kind → ℕ → State → State
waits q k hub s =
    with_queue q (packet k hub ∷ []) (with_credit q (record { 0 = 0 }) (with_allowance 0 0 s))

-- a set-up on the wire to the unit, for a credit of Q[i]
abbrev on_the_way : ℕ → State → State
on_the_way i s =
    with_wire (to_unit 0) (Full (packet Setup 0)) (with_credit (Q 0 i) (record { 0 = 0 }) (with_allowance 0 0 s))

-- where they belong; and the wire is not tied to the rank that the way to the unit remembers
pub t_split : count_valid (
    waits (Q 0 0) Setup 0
    ∷ waits (F ahead 0 1) Setup 1
    ∷ waits (F back 0 0) Nack 0
    ∷ on_the_way 0
    ∷ (λ s. served (to_unit 0) 1 (on_the_way 0 s))
    ∷ []
    ) ≡ 5
unfolding count_valid
t_split = refl

-- another side's Q, a set-up in F of answers, an answer in F of set-ups, another Q's credit
pub t_unsplit : count_valid (
    waits (Q 0 1) Setup 0
    ∷ waits (F back 0 1) Setup 1
    ∷ waits (F ahead 0 0) Nack 0
    ∷ on_the_way 1
    ∷ []
    ) ≡ 0
unfolding count_valid
t_unsplit = refl

-- ---- document 02 (a): this part of 7 is not kept by each call alone, since nothing ties the packets to the table; it
-- is kept along a list from Start
-- An ACK waits at its active in WRITE, and its entry is not booked. No list from Start comes there.
abbrev answered : State → State
answered s =
    with_phase Write
    (with_queue (active_in 0)
    (record { kind = Ack; active = 0; passive = 0; slot = record { 0 = 1 }; hub = record { 0 = 1 } } ∷ [])
    (with_credit (active_in 0) (record { 0 = 0 }) (with_allowance 0 0 s)))

-- the state passes, Drop is accepted, and what it leaves does not pass
unfoldable pub passes_then : Plan → Call → State → List Bool
unfolding valid
passes_then pl c s = valid_test pl s ∷ is_accepted (call pl c s).answer ∷ valid_test pl (call pl c s).state ∷ []

pub valid_then_not : passes_then plan_t (drop 0) (answered (start plan_t)) ≡ true ∷ true ∷ false ∷ []
unfolding passes_then
valid_then_not = refl

-- ---- the states at which runs of `machine` begin that begin at another state than Start's
unfoldable pub is_valid : Plan → State → Bool
unfolding valid
is_valid pl s = valid_test pl s

pub spoilt_states :
    is_valid plan_t (anothers_entry plan_t)
    ∷ is_valid (plan_of narrow_back) (other_stored (plan_of narrow_back))
    ∷ is_valid (plan_of narrow_back) (booked_behind (plan_of narrow_back))
    ∷ is_valid (plan_of two_to_one) (with_u0_remembered (plan_of two_to_one))
    ∷ []
    ≡ true ∷ true ∷ true ∷ true ∷ []
unfolding is_valid
spoilt_states = refl
