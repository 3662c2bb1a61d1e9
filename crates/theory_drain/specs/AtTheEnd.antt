-- 'In every WRITE where it can', told at the end of the WRITE: no passive could reply and no active drop any more. It
-- is the same, since what an interface can is changed within a WRITE by its own accepted call alone, and after that its
-- flag is up.
use Rattle.std.specs.Prelude.{◌≡◌, ◌≢◌, true, List, [], ◌∷◌, ℕ}
use Rattle.packets.specs.declared.Phase.TheVariants.{Read}
use Rattle.packets.specs.declared.Answer.TheVariants.{Done}
use Rattle.plan.specs.Plan.{Plan}
use Rattle.rules.specs.State.{State}
use Rattle.rules.specs.Calls.{Call, reply, drop, call}
use Rattle.rules.specs.Progress.{ends_round}
use Rattle.theory_drain.specs.Waits.{adds, of_rules, ProgramWaits}

-- none can any more
pub record Willing (pl : Plan) (s : State) : Type 0 where
  pub replies : (p c : ℕ) → (call pl (reply p c) s).answer ≢ Done
  pub drops : (a : ℕ) → (call pl (drop a) s).answer ≢ Done

-- one call: none that adds a packet is accepted, and at a Write that ends the round all have replied and dropped
pub record Calmly (pl : Plan) (c : Call) (s : State) : Type 0 where
  pub none_added : adds c ≡ true → (call pl c s).answer ≢ Done
  pub willing : ends_round c (call pl c s).answer ≡ 1 → Willing pl s

-- every call of a list, on the state that the one before it left
abbrev pub Waiting : Plan → List Call → State → Type 0
Waiting pl [] s = record {}
Waiting pl (c ∷ cs) s = Calmly pl c s × Waiting pl cs (call pl c s).state

-- both say the same of every list from READ; what is told at the end also of a list from elsewhere
pub record SameAtTheEnd (pl : Plan) : Type 0 where
  pub told : (cs : List Call) (s : State) → s.clock.phase ≡ Read → ProgramWaits (of_rules pl) cs s → Waiting pl cs s
  pub tells : (cs : List Call) (s : State) → Waiting pl cs s → ProgramWaits (of_rules pl) cs s
