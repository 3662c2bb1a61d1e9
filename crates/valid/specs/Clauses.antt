-- Refusal 7, clause by clause: for each condition of document 01's sentence, and for those of document 02 (a), (b) and
-- (i), a state that is kept, and one beside it that breaks this condition alone. A table of states and verdicts for
-- each plan, and one theorem that evaluates it.
use Rattle.std.specs.Prelude.{◌≡◌, refl, Bool, true, false, List, [], ◌∷◌, ◌++◌, ℕ, zero, suc, ◌-◌, length}
use Rattle.basis.specs.Choice.{pick}
use Rattle.packets.specs.declared.Kind.{Kind}
use Rattle.packets.specs.declared.Kind.TheVariants.{Setup, Tdown, Ack, Nack}
use Rattle.packets.specs.declared.Packet.{Packet}
use Rattle.packets.specs.declared.Wire.TheVariants.{Full}
use Rattle.packets.specs.declared.Phase.TheVariants.{Execute, Write}
use Rattle.packets.specs.declared.Entry.TheVariants.{Booked}
use Rattle.plan.specs.Plan.{Plan, plan_of}
use Rattle.plan.specs.Samples.{drives_around, all_sides}
use Rattle.plan_queues.specs.Queue.{ahead, back, Queue, active_out, active_in, passive_in, passive_out, U, Q, F, K}
use Rattle.plan_queues.specs.Feeds.{Output, of_active, of_passive, of_side, to_unit, from_unit}
use Rattle.rules.specs.Capacity.{capacity}
use Rattle.rules.specs.State.{State, sender, start, start_allowance, with_phase, with_slot, with_queue, with_wire}
use Rattle.rules.specs.State.{with_credit, with_flag, with_handled, with_choice, with_entry, with_connection}
use Rattle.rules.specs.State.{with_allowance, with_last_sender}
use Rattle.rules.specs.Valid.{fed}
use Rattle.rules.specs.Runs.Watch.{packet, each}
use Rattle.valid.specs.Test.{slot_test, entries_test, capacities_test, places_test, wires_test, wires_empty_test}
use Rattle.valid.specs.Test.{choices_test, flags_down_test, picked_down_test, out_flags_test, marks_test}
use Rattle.valid.specs.Test.{free_entry_test}
use Rattle.valid.specs.Test.{credits_test, out_credits_test, allowances_test, turns_test, valid_test}
use Rattle.valid.specs.Ties.{ties_test}
use Rattle.valid.specs.Runs.{valid}

-- ---- the parts of `Valid`, in its order
pub data Part : Type 0 where
  slot : Part
  entries : Part
  capacities : Part
  places : Part
  wires : Part
  wires_empty : Part
  choices : Part
  flags_down : Part
  picked_down : Part
  out_flags : Part
  marks : Part
  free_entry : Part
  credits : Part
  out_credits : Part
  allowances : Part
  ties : Part
  turns : Part

abbrev or_breaks : Bool → Part → List Part → List Part
or_breaks ok p more = pick ok more (p ∷ more)

-- those that a state breaks
unfoldable pub breaks : Plan → State → List Part
breaks pl s =
    or_breaks (slot_test pl s) slot
    (or_breaks (entries_test pl s) entries
    (or_breaks (capacities_test pl s) capacities
    (or_breaks (places_test pl s) places
    (or_breaks (wires_test pl s) wires
    (or_breaks (wires_empty_test pl s) wires_empty
    (or_breaks (choices_test pl s) choices
    (or_breaks (flags_down_test pl s) flags_down
    (or_breaks (picked_down_test pl s) picked_down
    (or_breaks (out_flags_test pl s) out_flags
    (or_breaks (marks_test pl s) marks
    (or_breaks (free_entry_test pl s) free_entry
    (or_breaks (credits_test pl s) credits
    (or_breaks (out_credits_test pl s) out_credits
    (or_breaks (allowances_test pl s) allowances
    (or_breaks (ties_test pl s) ties
    (or_breaks (turns_test pl s) turns []))))))))))))))))

-- ---- a table: what is done to Start's state, and the verdict
pub record Verdict : Type 0 where
  pub state : Bool
  pub broken : List Part

pub data Row : Type 0 where
  kept : (State → State) → Row
  broken : Part → (State → State) → Row

abbrev pub stated : Row → Verdict
stated (kept f) = record { state = true; broken = [] }
stated (broken p f) = record { state = false; broken = p ∷ [] }

abbrev pub changed : Row → State → State
changed (kept f) s = f s
changed (broken p f) s = f s

unfoldable pub judged : Plan → Row → Verdict
unfolding valid breaks
judged pl x =
    let s : State = changed x (start pl) in
    record { state = valid_test pl s; broken = breaks pl s }

-- ---- plan drivesAround: S=8; active out 4, in 4, passive out 1, all other capacities 2. Active 0's walk to passive 3
-- has three routers: 1, which it enters by side 1 and leaves by side 0; 0, by 3 and 2; and 2, by 0 and 2. Its walk to
-- passive 0 has two: 1, and 0, which it leaves by side 0. Side 3 of router 1 is not joined.
abbrev around : Plan
around = plan_of drives_around

-- a packet of active 0 for passive 3, with slot 0
abbrev of : Kind → ℕ → Packet
of k hub = packet k 0 3 0 hub

abbrev to : Kind → ℕ → ℕ → ℕ → Packet
to k p t hub = packet k 0 p t hub

abbrev credit_for : Plan → Queue → List Packet → ℕ
credit_for pl q xs = capacity pl.head q - pick (fed pl q) (length xs) 0

-- packets in a queue, their places paid for with its credit; n of them with active 0's allowance
abbrev holding : Queue → List Packet → ℕ → State → State
holding q xs n s =
    with_queue q xs
    (with_credit q (record { 0 = credit_for around q xs }) (with_allowance 0 (start_allowance around - n) s))

-- one packet that counts against the allowance; a tear-down, which does not
abbrev one : Queue → Packet → State → State
one q x s = holding q (x ∷ []) 1 s

abbrev down : Queue → ℕ → State → State
down q hub s = holding q (of Tdown hub ∷ []) 0 s

-- the head of a Q has been handled
abbrev handled : Queue → State → State
handled q s = with_handled q true s

-- 'a packet where no journey of its pair puts it, or with a hub that doesn't fit that place'
abbrev pub set_ups : List Row
set_ups =
    -- behind the head
    kept (holding (F ahead 0 2) (of Setup 2 ∷ of Setup 2 ∷ []) 2)
    ∷ broken places (holding (F ahead 0 2) (of Setup 2 ∷ of Setup 1 ∷ []) 2)
    ∷ kept (λ s. handled (Q 0 3) (holding (Q 0 3) (of Setup 2 ∷ of Setup 1 ∷ []) 2 s))
    ∷ broken places (λ s. handled (Q 0 3) (holding (Q 0 3) (of Setup 2 ∷ of Setup 2 ∷ []) 2 s))
    -- a hub more, a hub less
    ∷ kept (one (active_out 0) (of Setup 0))
    ∷ broken places (one (active_out 0) (of Setup 1))
    ∷ kept (one (U 0 3) (of Setup 1))
    ∷ broken places (one (U 0 3) (of Setup 0))
    ∷ kept (one (passive_in 3) (of Setup 3))
    ∷ broken places (one (passive_in 3) (of Setup 2))
    -- another's out-queue, another U, another Q, another passive, the other F, on the way back
    ∷ broken places (one (active_out 1) (of Setup 0))
    ∷ broken places (one (U 0 2) (of Setup 1))
    ∷ kept (one (Q 0 3) (of Setup 1))
    ∷ broken places (one (Q 0 1) (of Setup 1))
    ∷ broken places (one (passive_in 2) (of Setup 3))
    ∷ broken places (one (F back 0 2) (of Setup 2))
    ∷ broken places (one (K 0 2 3) (of Setup 3))
    ∷ broken places (one (passive_out 3) (of Setup 3))
    -- 'packet .. out of range': slot, passive, active
    ∷ kept (one (active_out 0) (to Setup 3 7 0))
    ∷ broken places (one (active_out 0) (to Setup 3 8 0))
    ∷ broken places (one (active_out 0) (to Setup 4 0 0))
    ∷ broken places (holding (active_out 0) (packet Setup 2 3 0 0 ∷ []) 0)
    ∷ []

abbrev pub tear_downs : List Row
tear_downs =
    kept (down (active_out 0) 1)
    ∷ kept (down (active_out 0) 3)
    ∷ broken places (down (active_out 0) 0)
    ∷ broken places (down (active_out 0) 4)
    ∷ kept (down (U 0 3) 2)
    ∷ broken places (down (U 0 3) 3)
    ∷ kept (down (Q 0 3) 2)
    ∷ broken places (down (Q 0 3) 3)
    -- a handled head has this router behind it
    ∷ kept (λ s. handled (Q 0 3) (down (Q 0 3) 1 s))
    ∷ broken places (λ s. handled (Q 0 3) (down (Q 0 3) 2 s))
    ∷ kept (down (F ahead 0 2) 1)
    ∷ broken places (down (F ahead 0 2) 2)
    -- at the walk's last router it ends
    ∷ kept (down (Q 2 0) 1)
    ∷ broken places (λ s. handled (Q 2 0) (down (Q 2 0) 1 s))
    ∷ broken places (down (F ahead 2 2) 1)
    ∷ broken places (down (passive_in 3) 1)
    ∷ []

abbrev pub answers : List Row
answers =
    -- 'ACK: the walk's length'
    kept (one (passive_out 3) (of Ack 3))
    ∷ broken places (one (passive_out 3) (of Ack 2))
    ∷ kept (one (K 0 2 3) (of Ack 3))
    ∷ broken places (one (K 0 2 3) (of Ack 2))
    ∷ kept (one (active_in 0) (of Ack 3))
    ∷ broken places (one (active_in 0) (of Ack 0))
    ∷ broken places (one (F back 0 3) (of Ack 3))
    -- 'NACK: that length if it can come from the passive': at the passive, and in K, where routers' NACKs pass too
    ∷ kept (one (passive_out 3) (of Nack 3))
    ∷ broken places (one (passive_out 3) (of Nack 2))
    ∷ kept (one (K 2 2 0) (of Nack 3))
    ∷ broken places (one (K 2 2 0) (of Nack 2))
    ∷ kept (one (K 0 2 3) (of Nack 2))
    ∷ broken places (one (K 0 2 3) (of Nack 1))
    ∷ kept (one (K 1 0 1) (of Nack 1))
    ∷ broken places (one (K 1 0 1) (of Nack 0))
    -- 'or the index, from 0, of a router whose NACK passes there': in F, and as a handled head of Q
    ∷ kept (one (F back 0 3) (of Nack 1))
    ∷ broken places (one (F back 0 3) (of Nack 2))
    ∷ broken places (one (F ahead 0 3) (of Nack 1))
    ∷ kept (λ s. handled (Q 0 3) (one (Q 0 3) (of Nack 1) s))
    ∷ broken places (λ s. handled (Q 0 3) (one (Q 0 3) (of Nack 2) s))
    -- at the active: any of them, 0 for a marked one
    ∷ kept (holding (active_in 0) (of Nack 3 ∷ of Nack 0 ∷ []) 2)
    ∷ broken places (one (active_in 0) (of Nack 4))
    ∷ broken places (one (active_in 1) (of Nack 0))
    -- 'an answer in Q that is not its handled head'
    ∷ broken places (one (Q 0 3) (of Nack 1))
    ∷ broken places (λ s. handled (Q 0 3) (holding (Q 0 3) (of Nack 1 ∷ of Nack 1 ∷ []) 2 s))
    ∷ []

pub places_judged : each (judged around) (set_ups ++ tear_downs ++ answers) ≡ each stated
    (set_ups ++ tear_downs ++ answers)
unfolding judged
places_judged = refl

-- ---- wires, choices, flags and marks
-- a packet on a wire, its place paid for with the credit of the queue that it goes to
abbrev on_wire : Output → Queue → Packet → State → State
on_wire o q x s =
    with_wire o (Full x)
    (with_credit q (record { 0 = credit_for around q (x ∷ []) }) (with_allowance 0 (start_allowance around - 1) s))

-- the same for the credit of no queue
abbrev on_no_way : Output → Packet → State → State
on_no_way o x s = with_wire o (Full x) (with_allowance 0 (start_allowance around - 1) s)

abbrev pub on_wires : List Row
on_wires =
    kept (on_wire (of_side 1 0) (U 0 3) (of Setup 1))
    ∷ broken wires (on_wire (of_side 1 0) (U 0 3) (of Setup 0))
    ∷ kept (on_wire (of_active 0) (U 1 1) (of Setup 0))
    ∷ broken wires (on_wire (of_active 1) (U 2 1) (of Setup 0))
    -- a side that is not joined
    ∷ broken wires (on_no_way (of_side 1 3) (of Setup 1))
    -- 'a wire full outside READ'
    ∷ broken wires_empty (λ s. with_phase Execute (on_wire (of_side 1 0) (U 0 3) (of Setup 1) s))
    ∷ broken wires_empty (λ s. with_phase Write (on_wire (of_side 1 0) (U 0 3) (of Setup 1) s))
    -- document 02 (i): on the way to the unit it takes the credit of the Q of its walk's side, not of another
    ∷ kept (on_wire (to_unit 0) (Q 0 3) (of Setup 1))
    ∷ broken credits (on_wire (to_unit 0) (Q 0 2) (of Setup 1))
    ∷ kept (on_wire (from_unit 0) (F back 0 3) (of Nack 1))
    ∷ broken credits (on_wire (from_unit 0) (F ahead 0 3) (of Nack 1))
    ∷ []

-- a set-up in set-up F[2] of router 0, and in WRITE side 2 has picked the sender of a rank
abbrev picking : ℕ → State → State
picking k s = with_phase Write (with_choice (of_side 0 2) (sender k) (one (F ahead 0 2) (of Setup 2) s))

abbrev pub on_choices : List Row
on_choices =
    kept (picking 0)
    -- 'of no candidate': an empty queue, nobody of that rank, no credit, an unhandled head
    ∷ broken choices (picking 1)
    ∷ broken choices (picking 5)
    ∷ broken choices (λ s. holding (U 2 0) (of Setup 2 ∷ of Setup 2 ∷ []) 3 (picking 0 s))
    ∷ kept (λ s. with_phase Write (with_choice (from_unit 0) (sender 3) (handled (Q 0 3) (one (Q 0 3) (of Setup 2) s))))
    ∷ broken choices (λ s. with_phase Write (with_choice (from_unit 0) (sender 3) (one (Q 0 3) (of Setup 1) s)))
    -- an entry that is booked for the current slot makes no difference here
    ∷ kept (λ s. with_entry 0 2 0 (Booked 3) (picking 0 s))
    -- 'a choice outside WRITE'
    ∷ broken choices (λ s. with_phase Execute (picking 0 s))
    ∷ []

-- a packet has left the queue, and no Read came since; with what is in it
abbrev left : Queue → ℕ → State → State
left q credit s = with_flag q true (with_credit q (record { 0 = credit }) s)

abbrev pub on_flags : List Row
on_flags =
    -- 'a flag up in EXECUTE'
    kept (left (U 0 3) 1)
    ∷ kept (λ s. with_phase Write (left (U 0 3) 1 s))
    ∷ broken flags_down (λ s. with_phase Execute (left (U 0 3) 1 s))
    -- 'or on a queue whose head is picked': the queue has room for two, so its credit can be right
    ∷ kept (λ s. with_phase Write (left (F ahead 0 2) 0 (one (F ahead 0 2) (of Setup 2) s)))
    ∷ broken picked_down (λ s. left (F ahead 0 2) 0 (picking 0 s))
    -- a queue that no wire feeds: an out-queue, U of a side that is not joined
    ∷ broken out_flags (with_flag (active_out 0) true)
    ∷ broken out_flags (with_flag (U 1 3) true)
    -- 'a handled mark on an empty Q', or on any other queue
    ∷ broken marks (handled (Q 0 3))
    ∷ broken marks (λ s. handled (U 0 3) (one (U 0 3) (of Setup 1) s))
    ∷ []

pub links_judged : each (judged around) (on_wires ++ on_choices ++ on_flags)
    ≡ each stated (on_wires ++ on_choices ++ on_flags)
unfolding judged
links_judged = refl

-- ---- numbers
-- so many of a side's entries are booked, from slot 0 on
abbrev booked_up_to : ℕ → State → State
booked_up_to zero s = s
booked_up_to (suc n) s = with_entry 0 2 n (Booked 3) (booked_up_to n s)

abbrev pub on_numbers : List Row
on_numbers =
    -- 'phase, slot, packet or entry out of range'
    kept (with_slot (record { 0 = 7 }))
    ∷ broken slot (with_slot (record { 0 = 8 }))
    ∷ kept (with_entry 0 2 0 (Booked 2))
    ∷ broken entries (with_entry 0 2 0 (Booked 4))
    -- 'a side with no free entry'
    ∷ kept (booked_up_to 7)
    ∷ broken free_entry (booked_up_to 8)
    -- 'a queue over capacity'
    ∷ kept (holding (active_out 0) (of Tdown 1 ∷ of Tdown 1 ∷ of Tdown 1 ∷ of Tdown 1 ∷ []) 0)
    ∷ broken capacities (holding (active_out 0) (of Tdown 1 ∷ of Tdown 1 ∷ of Tdown 1 ∷ of Tdown 1 ∷ of Tdown 1 ∷ []) 0)
    -- 'credit + queued + wire + raised flag ≠ capacity of a queue fed by a wire': one less, one more
    ∷ broken credits (with_credit (U 0 3) (record { 0 = 1 }))
    ∷ broken credits (with_credit (K 0 2 3) (record { 0 = 3 }))
    ∷ broken credits (with_flag (U 0 3) true)
    -- of one that no wire feeds it stays as Start left it
    ∷ broken out_credits (with_credit (active_out 0) (record { 0 = 3 }))
    ∷ broken out_credits (with_credit (U 1 3) (record { 0 = 1 }))
    -- 'an active's allowance + its SETUPs, ACKs and NACKs ≠ its start allowance': a tear-down does not count
    ∷ broken allowances (with_allowance 0 3)
    ∷ broken allowances (with_allowance 1 5)
    ∷ broken allowances (holding (active_out 0) (of Setup 0 ∷ []) 0)
    ∷ broken allowances (holding (active_out 0) (of Tdown 1 ∷ []) 1)
    ∷ []

-- document 02 (a): a connection of active 0 is accepted; its entries from slot 1 on
abbrev accepted : ℕ → State → State
accepted p s = with_connection 0 p 1 true s

abbrev first_entry : State → State
first_entry s = with_entry 1 0 1 (Booked 1) s

abbrev pub on_connections : List Row
on_connections =
    kept (λ s. accepted 3 (first_entry (with_entry 0 2 2 (Booked 3) (with_entry 2 2 3 (Booked 0) s))))
    -- 'lacking any of its entries': the first, the middle one, the last; one that is another's
    ∷ broken ties (λ s. accepted 3 (with_entry 0 2 2 (Booked 3) (with_entry 2 2 3 (Booked 0) s)))
    ∷ broken ties (λ s. accepted 3 (first_entry (with_entry 2 2 3 (Booked 0) s)))
    ∷ broken ties (λ s. accepted 3 (first_entry (with_entry 0 2 2 (Booked 3) s)))
    ∷ broken ties (λ s. accepted 3 (first_entry (with_entry 0 2 2 (Booked 1) (with_entry 2 2 3 (Booked 0) s))))
    -- 'two that share an entry': router 1's
    ∷ kept (λ s. accepted 0 (first_entry (with_entry 0 0 2 (Booked 3) (with_entry 0 2 2 (Booked 3)
    (with_entry 2 2 3 (Booked 0) s)))))
    ∷ broken ties (λ s. accepted 3 (accepted 0 (first_entry (with_entry 0 0 2 (Booked 3) (with_entry 0 2 2 (Booked 3)
    (with_entry 2 2 3 (Booked 0) s))))))
    ∷ []

-- document 02 (b): what an output remembers is one of its senders; a side that is not joined is as Start left it
abbrev pub on_turns : List Row
on_turns =
    kept (with_last_sender (of_side 0 2) 0)
    ∷ broken turns (with_last_sender (of_side 0 2) 5)
    ∷ kept (with_last_sender (to_unit 0) 0)
    ∷ broken turns (with_last_sender (to_unit 0) 4)
    ∷ kept (with_last_sender (from_unit 0) 0)
    ∷ broken turns (with_last_sender (from_unit 0) 4)
    ∷ broken turns (with_last_sender (of_active 0) 1)
    ∷ broken turns (with_last_sender (of_passive 3) 1)
    ∷ broken turns (with_last_sender (of_side 1 3) 3)
    ∷ []

pub numbers_judged : each (judged around) (on_numbers ++ on_connections ++ on_turns)
    ≡ each stated (on_numbers ++ on_connections ++ on_turns)
unfolding judged
numbers_judged = refl

-- ---- an unserved pair: on plan all_sides active 0 is not served with passive 1
abbrev launching : ℕ → State → State
launching p s = with_queue (active_out 0) (packet Setup 0 p 0 0 ∷ []) (with_allowance 0 0 s)

abbrev pub on_pairs : List Row
on_pairs =
    kept (launching 0)
    ∷ broken places (launching 1)
    ∷ kept (λ s. with_connection 2 1 0 true (with_entry 1 0 0 (Booked 2) s))
    ∷ broken ties (with_connection 0 1 0 true)
    ∷ []

pub pairs_judged : each (judged (plan_of all_sides)) on_pairs ≡ each stated on_pairs
unfolding judged
pairs_judged = refl
