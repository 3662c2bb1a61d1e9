-- 'At most three others go before it', at a side four (documents 02 (b) and (i), `TurnAbout`): so many do go. And who
-- does not stay a candidate is passed more often. Each run is one list of calls and one theorem that evaluates it.
use Rattle.std.specs.Prelude.{◌≡◌, Bool, true, not, List, [], ◌∷◌, ◌++◌, ℕ, eqb}
use Rattle.basis.specs.Choice.{pick, also}
use Rattle.packets.specs.declared.Phase.TheVariants.{Execute}
use Rattle.plan.specs.Plan.{Plan, plan_of}
use Rattle.plan_queues.specs.Feeds.{Output}
use Rattle.rules.specs.State.{State, Choice, nobody, sender, start}
use Rattle.rules.specs.Calls.{Outcome, Call, read, write, launch, reply, call}
use Rattle.rules.specs.Progress.{turns_call}
use Rattle.rules.specs.Ruled.{ruled_after}
use Rattle.rules.specs.TurnAbout.{waits, others, StaysAlong}
use Rattle.rules.specs.Runs.Watch.{round, many_rounds, in_write, each}

-- ---- `StaysAlong`, by a test that can be evaluated
abbrev pub stays_by : Plan → Output → ℕ → State → Choice → Bool
stays_by pl o j s nobody = true
stays_by pl o j s (sender k) = also (waits pl o j s) (not (eqb k j))

abbrev pub stays_test : Plan → Output → ℕ → List Call → State → Bool
stays_test pl o j [] s = true
stays_test pl o j (c ∷ cs) s =
    let r : Outcome = call pl c s in
    also (pick (eqb (turns_call Execute c r.answer) 1) (stays_by pl o j r.state (r.state.links.choice o)) true)
    (stays_test pl o j cs r.state)

-- ---- how many go first
-- the state of a plan's bytes after some calls from Start
abbrev pub reached : List ℕ → List Call → State
reached b cs = ruled_after (plan_of b) cs (start (plan_of b))

-- from there on the head of rank j stays a candidate at the output, and n others go before it
pub record GoFirst (b : List ℕ) (before : List Call) (o : Output) (j : ℕ) (cs : List Call) (n : ℕ) : Type 0 where
  pub stays : StaysAlong (plan_of b) o j cs (reached b before)
  pub count : others (plan_of b) o j cs (reached b before) ≡ n

-- the list of a run, up to its first moment
abbrev pub up_to_first : List (List Call) → List Call
up_to_first [] = []
up_to_first (cs ∷ more) = cs

-- ---- at the unit three. A line of three routers, S=8, as in `BothEnds.four_in_turn`: the set-ups of actives 0 and 1
-- come in to router 0 by sides 0 and 1, those of actives 2 and 3 by sides 2 and 3. All four arrive in round 4, and U[3]
-- sees U[0], U[1] and U[2] go
abbrev pub four_arrive : List Call
four_arrive =
    launch 2 1 0 ∷ launch 3 0 0 ∷ many_rounds 3 ++ launch 0 1 5 ∷ launch 1 0 5 ∷ round ++ read ∷ []

-- ---- who is a candidate now and then is passed more often: at a unit four times, where three is the bound. One
-- router, S=16: side 0 to passive 0, sides 1 to 3 to actives 0 to 2; F 1, passive in 1. The heads of Q[2] and Q[3] go
-- to set-up F[0], those of Q[1] become NACKs. Each time that F[0] has room it is Q[2]'s turn, for Q[1] has gone before
-- it while F[0] had none
abbrev pub now_and_then : List Call
now_and_then =
    -- round 0: active 1; round 3: active 2; from round 5 on, every third: active 0, for an entry that is booked
    each (launch 1 0) (2 ∷ 4 ∷ 5 ∷ 6 ∷ 7 ∷ 9 ∷ []) ++ many_rounds 3
    ++ launch 2 0 10 ∷ many_rounds 2
    -- from round 7 on, every third: the passive accepts
    ++ launch 0 0 2 ∷ many_rounds 2 ++ in_write (reply 0 1)
    ++ write ∷ launch 0 0 2 ∷ many_rounds 2 ++ in_write (reply 0 1)
    ++ write ∷ launch 0 0 2 ∷ many_rounds 2 ++ in_write (reply 0 1)
    ++ write ∷ launch 0 0 2 ∷ many_rounds 2 ++ in_write (reply 0 1)
    ++ write ∷ many_rounds 2
