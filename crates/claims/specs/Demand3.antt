-- Demand 3, 'a single claim about the whole list': plan bytes that Load accepts, the state bytes that an accepted
-- Start left, and any list of the calls Read, Execute, Write, Launch, Reply, Look, Drop, Close, Entry and Remaining,
-- each on the bytes as the last one left them.
use Rattle.std.specs.Prelude.{◌≡◌, ◌≢◌, true, List, [], ◌∷◌, ◌++◌, ℕ, ◌+◌, ◌≤◌}
use Rattle.std.specs.Prelude.{Ok}
use Rattle.kinds.specs.declared.Refusal.TheVariants.{NotState}
use Rattle.packets.specs.declared.Answer.TheVariants.{Refused, Done}
use Rattle.plan.specs.declared.Head.{Head}
use Rattle.plan.specs.Plan.{plan_of, S}
use Rattle.load.specs.Load.{load_of}
use Rattle.rules.specs.State.{State, start}
use Rattle.rules.specs.Calls.{Call, call}
use Rattle.rules.specs.Connections.{Connection, MadeBy}
use Rattle.rules.specs.Accepted.{accept}
use Rattle.rules.specs.Progress.{Within, Quiet, Waits, Moved, is_timed, ends_round}
use Rattle.rules.specs.Ruled.{ruled_after, launches_call, accepts_call, Remembers}
use Rattle.bytes_layout.specs.Decode.{decode}
use Rattle.claims.specs.Calls.{is_state, call_on, start_on}

-- ---- along the list
-- the state bytes after the calls, each on the bytes that the last one left
abbrev pub bytes_after : List ℕ → List Call → List ℕ → List ℕ
bytes_after p [] b = b
bytes_after p (c ∷ cs) b = bytes_after p cs (call_on p c b).bytes

-- the state read from the bytes by the documented layout
abbrev pub state_of : List ℕ → List ℕ → State
state_of p b = decode (plan_of p) b

-- the connections accepted and not closed since, told by the calls and the states before them
abbrev pub accepted_by : List ℕ → List Call → List ℕ → List Connection → List Connection
accepted_by p [] b cs = cs
accepted_by p (c ∷ cs) b acc =
    accepted_by p cs (call_on p c b).bytes (accept (plan_of p) c (state_of p b) (call_on p c b).answer acc)

-- the whole rounds that end in the list
abbrev pub rounds_in : List ℕ → List Call → List ℕ → ℕ
rounds_in p [] b = 0
rounds_in p (c ∷ cs) b = ends_round c (call_on p c b).answer + rounds_in p cs (call_on p c b).bytes

-- how many accepted Launches of a triple the list has
abbrev pub launches_in : List ℕ → Connection → List Call → List ℕ → ℕ
launches_in p d [] b = 0
launches_in p d (c ∷ cs) b = launches_call d c (call_on p c b).answer + launches_in p d cs (call_on p c b).bytes

-- how many Drops of the list accepted a triple, closed since or not
abbrev pub acceptances_in : List ℕ → Connection → List Call → List ℕ → ℕ
acceptances_in p d [] b = 0
acceptances_in p d (c ∷ cs) b =
    accepts_call (plan_of p) d c (state_of p b) (call_on p c b).answer + acceptances_in p d cs (call_on p c b).bytes

-- 'at least one packet changes its queue or wire, or ends, by a Read, an Execute or a Write': a call of the list that
-- takes it out
pub record MovesIn (p : List ℕ) (cs : List Call) (b : List ℕ) : Type 0 where
  pub before : List Call
  pub at : Call
  pub rest : List Call
  pub split : cs ≡ before ++ (at ∷ rest)
  pub timed : is_timed at ≡ true
  pub moved : Moved (plan_of p) (state_of p (bytes_after p before b))
      (state_of p (call_on p at (bytes_after p before b)).bytes)

-- the same queues, wires, table and connections
pub record Agrees (s t : State) : Type 0 where
  pub queues : s.lines.queue ≡ t.lines.queue
  pub wires : s.links.wire ≡ t.links.wire
  pub table : s.table ≡ t.table
  pub connections : s.connections ≡ t.connections

-- ---- the claim
pub record Claim (p b : List ℕ) (cs : List Call) : Type 0 where
  -- 'No state reached from start is refused so': at the start and after each call the bytes pass refusal 7's test,
  -- and no call answers 7
  pub state : (before after : List Call) → cs ≡ before ++ after → is_state (plan_of p) (bytes_after p before b) ≡ true
  pub never_7 : (before after : List Call) (c : Call) → cs ≡ before ++ (c ∷ after)
      → (call_on p c (bytes_after p before b)).answer ≢ Refused NotState
  -- 'at the start and after each call, no queue holds more than its capacity'
  pub capacity : (before after : List Call) → cs ≡ before ++ after
      → Within (plan_of p) (state_of p (bytes_after p before b))
  -- 'Whenever every queue and wire is empty, the slot table equals, entry by entry, the one that the connections
  -- accepted so far make'; from document 02 (a) on, 'that of connections accepted and not closed since'
  pub table : (before after : List Call) → cs ≡ before ++ after → Quiet (plan_of p)
      (state_of p (bytes_after p before b))
      → MadeBy (plan_of p) (accepted_by p before b []) (state_of p (bytes_after p before b)).table
  -- 'The state now keeps the accepted connections': those told by the calls and the states before them are the state's
  -- marks, after each call
  pub told : (before after : List Call) → cs ≡ before ++ after
      → Remembers (accepted_by p before b []) (state_of p (bytes_after p before b))
  -- 'and the list goes on for S whole rounds': whatever stands between them, and with the S-th Write as the last call
  -- of `during` if one likes
  pub progress : (before during after : List Call) → cs ≡ before ++ (during ++ after)
      → Waits (plan_of p) (state_of p (bytes_after p before b))
      → S (plan_of p) ≤ rounds_in p during (bytes_after p before b) → MovesIn p during (bytes_after p before b)
  -- 'the rules above, run from Start on the same list, give after each call the same queues, wires, table and answer',
  -- and the same connections
  pub agrees : (before after : List Call) → cs ≡ before ++ after
      → Agrees (state_of p (bytes_after p before b)) (ruled_after (plan_of p) before (start (plan_of p)))
  pub answers : (before after : List Call) (c : Call) → cs ≡ before ++ (c ∷ after)
      → (call_on p c (bytes_after p before b)).answer
      ≡ (call (plan_of p) c (ruled_after (plan_of p) before (start (plan_of p)))).answer
  -- 'the list has at least as many accepted Launches of those three numbers as Consumes that accepted them', from
  -- document 02 (c) on as Drops
  pub launches : (before after : List Call) → cs ≡ before ++ after → (d : Connection)
      → acceptances_in p d before b ≤ launches_in p d before b

-- demand 3: for every loadable plan, every buffer in which Start is accepted, and every list of calls
abbrev pub Demand3 : Type 0
Demand3 =
    (p buffer : List ℕ) (h : Head) → load_of p ≡ Ok h → (start_on p buffer).answer ≡ Done → (cs : List Call)
    → Claim p (start_on p buffer).bytes cs
