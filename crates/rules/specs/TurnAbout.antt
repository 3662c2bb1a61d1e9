-- 'A head that stays a candidate sees at most three others go before it on that output' (document 02 (b)): said of any
-- list of calls. A head is told by its output and its rank in the output's order; it leaves its queue only when it is
-- picked.
use Rattle.std.specs.Prelude.{◌≡◌, ◌≢◌, Bool, true, false, not, List, [], ◌∷◌, ℕ, ◌+◌, ◌*◌, ◌≤◌, eqb}
use Rattle.std.proofs.Math.Option.{Option, none, some}
use Rattle.basis.specs.Choice.{also}
use Rattle.packets.specs.declared.Phase.TheVariants.{Execute}
use Rattle.packets.specs.declared.Answer.{Answer}
use Rattle.plan.specs.Plan.{Plan}
use Rattle.plan_queues.specs.Queue.{Queue}
use Rattle.plan_queues.specs.Feeds.{Output}
use Rattle.rules.specs.Outputs.{senders, last_in_order}
use Rattle.rules.specs.State.{State, Choice, nobody, sender}
use Rattle.rules.specs.Execute.{candidate}
use Rattle.rules.specs.Write.{of_rank}
use Rattle.rules.specs.Calls.{Call, call}
use Rattle.rules.specs.Valid.{Drives, bit}
use Rattle.rules.specs.Progress.{turns_call}
use Rattle.rules.specs.Ruled.{Good}

-- ---- in a state that an Execute has left. After the picks it changes interfaces' queues alone, so the candidates of a
-- side and of the way to the unit are those among which they picked
-- the sender of rank j is a candidate of the output
abbrev pub candidate_of : Plan → State → Output → Option Queue → Bool
candidate_of pl s o none = false
candidate_of pl s o (some q) = candidate pl s o q

abbrev pub waits : Plan → Output → ℕ → State → Bool
waits pl o j s = candidate_of pl s o (of_rank (senders o) j)

-- the output picked another
abbrev pub is_other : ℕ → Choice → Bool
is_other j nobody = false
is_other j (sender k) = not (eqb k j)

-- another goes before the head of rank j, which is a candidate
abbrev pub goes_before : Plan → Output → ℕ → State → Bool
goes_before pl o j s = also (waits pl o j s) (is_other j (s.links.choice o))

-- the head stays: whenever the output picks, the head is a candidate and is not the one that is picked
pub record Stays (pl : Plan) (o : Output) (j : ℕ) (s : State) : Type 0 where
  pub stays : (k : ℕ) → s.links.choice o ≡ sender k → (waits pl o j s ≡ true) × (k ≢ j)

-- ---- in a list of calls
-- how many others go before it: counted over the accepted Executes
abbrev pub others_in : Plan → Output → ℕ → Call → Answer → State → ℕ
others_in pl o j c a s = turns_call Execute c a * bit (goes_before pl o j s)

abbrev pub others : Plan → Output → ℕ → List Call → State → ℕ
others pl o j [] s = 0
others pl o j (c ∷ cs) s =
    others_in pl o j c (call pl c s).answer (call pl c s).state + others pl o j cs (call pl c s).state

-- the head stays in every accepted Execute
abbrev pub StaysIn : Plan → Output → ℕ → Call → Answer → State → Type 0
StaysIn pl o j c a s = turns_call Execute c a ≡ 1 → Stays pl o j s

abbrev pub StaysAlong : Plan → Output → ℕ → List Call → State → Type 0
StaysAlong pl o j [] s = record {}
StaysAlong pl o j (c ∷ cs) s =
    StaysIn pl o j c (call pl c s).answer (call pl c s).state × StaysAlong pl o j cs (call pl c s).state

-- ---- what is to be shown: from every valid state, of every list, of every output and each of its senders. At a side
-- 'at most four others go first there' (document 02 (i)), at the unit and from it three
abbrev pub TurnAbout : Plan → Type 0
TurnAbout pl =
    (s : State) → Good pl s → (o : Output) → Drives pl o → (j : ℕ) (cs : List Call) → StaysAlong pl o j cs s
    → others pl o j cs s ≤ last_in_order o
