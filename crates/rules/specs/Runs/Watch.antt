-- 'Runs to compare' of document 01: a run is one list of calls from Start. Seen after each call, or only at some
-- moments: the answer, and in the state some numbers (entries of the table, the current slot, an allowance, a credit)
-- and some queues, whole.
use Rattle.std.specs.Prelude.{List, [], ◌∷◌, ◌++◌, ℕ, zero, suc, length}
use Rattle.basis.specs.Choice.{pick}
use Rattle.basis.specs.Bounded.{any_below, all_below}
use Rattle.basis.specs.Fold.{up_to}
use Rattle.basis.specs.Walk.{spot, on_count}
use Rattle.fields.specs.Bits.{bit_at, field_of}
use Rattle.packets.specs.declared.Kind.{Kind}
use Rattle.packets.specs.declared.Packet.{Packet}
use Rattle.packets.specs.Answers.{entry_number, Value, refused, done, shows, holds, remains, value_of}
use Rattle.plan.specs.Head.{capacity_at, head_of}
use Rattle.plan.specs.Plan.{Plan, joint_in, plan_of}
use Rattle.plan.specs.Rules.{ports_of, home}
use Rattle.plan_walks.specs.Walk.{onward, arrives, walk_size}
use Rattle.plan_walks.specs.Served.{backs_arrive, served_from}
use Rattle.plan_walks.specs.Steps.{index_in, index_on}
use Rattle.plan_queues.specs.Queue.{Queue, queue_at, queues}
use Rattle.rules.specs.Outputs.{output_at}
use Rattle.rules.specs.State.{State, blank, start, join}
use Rattle.rules.specs.Read.{arrive, deliver, lower, settle, do_read}
use Rattle.rules.specs.Execute.{came_in, other_free, may_book, set_up, tear_one, tear_down, handle, at_unit, unit}
use Rattle.rules.specs.Execute.{candidate, first_of, next_of, picked, choose, answer, at_active, undo, do_execute}
use Rattle.rules.specs.Write.{send_head, send_by, send, do_write}
use Rattle.rules.specs.Visits.{launched, removed, noted, closed}
use Rattle.rules.specs.Valid.{sum, total}
use Rattle.rules.specs.Calls.{Outcome, Call, read, execute, write, call}
use Rattle.rules.specs.Connections.{Connection}
use Rattle.rules.specs.Ruled.{accepted_after}

-- ---- calls
-- 'A whole round is one accepted Read, Execute and Write', here with no other call between them; so many of them
abbrev pub round : List Call
round = read ∷ execute ∷ write ∷ []

abbrev pub many_rounds : ℕ → List Call
many_rounds zero = []
many_rounds (suc n) = read ∷ execute ∷ write ∷ many_rounds n

-- a round up to its WRITE, and one call there
abbrev pub in_write : Call → List Call
in_write c = read ∷ execute ∷ c ∷ []

-- ---- what is seen
-- a packet by its kind, active, passive, slot and hub
abbrev pub packet : Kind → ℕ → ℕ → ℕ → ℕ → Packet
packet k a p t h = record { kind = k; active = a; passive = p; slot = record { 0 = t }; hub = record { 0 = h } }

-- parts of a state. 'The entry, 4 for free', of a router, a side and a slot
abbrev pub entry_in : State → ℕ → ℕ → ℕ → ℕ
entry_in s r o t = entry_number (s.table r o t)

-- the current slot
abbrev pub slot_in : State → ℕ
slot_in s = s.clock.slot.0

-- an active's allowance
abbrev pub allowance_in : State → ℕ → ℕ
allowance_in s a = s.flow.allowance a

-- a queue: its packets, how many they are, its credit, and its flag: 1 up, 0 down
abbrev pub queue_in : State → Queue → List Packet
queue_in s q = s.lines.queue q

abbrev pub count_in : State → Queue → ℕ
count_in s q = length (queue_in s q)

abbrev pub credit_in : State → Queue → ℕ
credit_in s q = (s.flow.credit q).0

abbrev pub flag_in : State → Queue → ℕ
flag_in s q = pick (s.flow.flag q) 1 0

-- a connection, by active, passive and start slot: 1 accepted, 0 not
abbrev pub connection_in : State → ℕ → ℕ → ℕ → ℕ
connection_in s a p t = pick (s.connections a p t) 1 0

-- an answer, and in the state then left the numbers and the queues that are looked at
pub record After : Type 0 where
  pub answer : Value
  pub numbers : List ℕ
  pub queues : List (List Packet)

abbrev pub after : Value → List ℕ → List (List Packet) → After
after a ns qs = record { answer = a; numbers = ns; queues = qs }

-- after each call of a round that is done and leaves all that is looked at as it was
abbrev pub steady : List ℕ → List (List Packet) → List After
steady ns qs = after done ns qs ∷ after done ns qs ∷ after done ns qs ∷ []

-- many numbers or queues looked at
abbrev pub each : {X Y : Type 0} → (X → Y) → List X → List Y
each f [] = []
each f (x ∷ xs) = f x ∷ each f xs

-- ---- runs one after the other
-- a run that is evaluated once another one is right: a wrong rule falls at the first run that is false of it, and those
-- behind it are not evaluated
abbrev pub once : {X Y : Type 0} → X → Y → Y
once x y = y

-- ---- a run
-- the answer told of some calls: the first that is not 'done'. Of calls that are all done but the last, the last's
abbrev pub told : Value → Value → Value
told done later = later
told (refused n) later = refused n
told (shows x) later = shows x
told (holds n) later = holds n
told (remains n m) later = remains n m

-- a moment of a run: what is told of the calls up to it, and the state
pub record Moment : Type 0 where
  pub answer : Value
  pub state : State

abbrev pub ran : Plan → List Call → Moment → Moment
ran pl [] p = p
ran pl (c ∷ cs) p =
    let r : Outcome = call pl c p.state in
    ran pl cs (record { answer = told p.answer (value_of r.answer); state = r.state })

abbrev pub watching : Plan → (State → List ℕ) → List Queue → List (List Call) → State → List After
watching pl look qs [] s = []
watching pl look qs (cs ∷ more) s =
    let p : Moment = ran pl cs (record { answer = done; state = s }) in
    let rest : List After = watching pl look qs more p.state in
    after p.answer (look p.state) (each (queue_in p.state) qs) ∷ rest

-- a run from Start of the plan that the bytes give: what numbers and what queues are looked at, and the calls, up to
-- each moment at which they are looked at
unfoldable pub moments : List ℕ → (State → List ℕ) → List Queue → List (List Call) → List After
unfolding any_below all_below up_to spot on_count walk_size bit_at field_of capacity_at head_of joint_in plan_of
    ports_of home onward arrives backs_arrive served_from index_in index_on queue_at queues output_at start blank join
    arrive deliver lower settle do_read came_in other_free may_book set_up tear_one tear_down handle at_unit unit
    candidate first_of next_of picked choose answer at_active undo do_execute send_head send_by send do_write launched
    removed noted closed sum total call
moments b look qs css = let pl : Plan = plan_of b in watching pl look qs css (start pl)

-- the same, looked at after each call
unfoldable pub watch : List ℕ → (State → List ℕ) → List Queue → List Call → List After
unfolding moments
watch b look qs cs = moments b look qs (each (λ c. c ∷ []) cs)

-- the connections that a run accepts, told by its calls and the states before them
abbrev pub joined : List (List Call) → List Call
joined [] = []
joined (cs ∷ more) = cs ++ joined more

unfoldable pub accepts : List ℕ → List (List Call) → List Connection
unfolding moments
accepts b css = let pl : Plan = plan_of b in accepted_after pl (joined css) (start pl) []
