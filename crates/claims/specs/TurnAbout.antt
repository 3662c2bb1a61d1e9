-- 'A head that stays a candidate sees at most three others go before it on that output' (document 02 (b)); of a side
-- with its five senders 'at most four others go first there' (document 02 (i)). Of the calls on bytes: plan bytes that
-- Load accepts, any state bytes at all, and any list of calls, each on the bytes as the last one left them. Bytes that
-- are no state's are refused 7, and nothing is counted.
use Rattle.std.specs.Prelude.{◌≡◌, List, [], ◌∷◌, ℕ, ◌+◌, ◌≤◌}
use Rattle.std.specs.Prelude.{Ok}
use Rattle.plan.specs.declared.Head.{Head}
use Rattle.plan.specs.Plan.{plan_of}
use Rattle.plan_queues.specs.Feeds.{Output}
use Rattle.load.specs.Load.{load_of}
use Rattle.rules.specs.Calls.{Call}
use Rattle.rules.specs.Valid.{Drives}
use Rattle.rules.specs.Outputs.{last_in_order}
use Rattle.rules.specs.TurnAbout.{others_in, StaysIn}
use Rattle.claims.specs.Calls.{call_on}
use Rattle.claims.specs.Demand3.{state_of}

-- how many others go before the head of rank j at an output: counted over the accepted Executes of the list
abbrev pub others_on : List ℕ → Output → ℕ → List Call → List ℕ → ℕ
others_on p o j [] b = 0
others_on p o j (c ∷ cs) b =
    others_in (plan_of p) o j c (call_on p c b).answer (state_of p (call_on p c b).bytes)
    + others_on p o j cs (call_on p c b).bytes

-- the head stays: in every accepted Execute in which the output picks, it is a candidate and is not picked
abbrev pub StaysOn : List ℕ → Output → ℕ → List Call → List ℕ → Type 0
StaysOn p o j [] b = record {}
StaysOn p o j (c ∷ cs) b =
    StaysIn (plan_of p) o j c (call_on p c b).answer (state_of p (call_on p c b).bytes)
    × StaysOn p o j cs (call_on p c b).bytes

-- turn about
abbrev pub TurnAboutOnBytes : Type 0
TurnAboutOnBytes =
    (p b : List ℕ) (h : Head) → load_of p ≡ Ok h → (o : Output) → Drives (plan_of p) o → (j : ℕ) (cs : List Call)
    → StaysOn p o j cs b → others_on p o j cs b ≤ last_in_order o
