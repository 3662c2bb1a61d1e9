-- Lists of calls on the rules' states: one behind another.
use mathlib.Core.Path.{◌≡◌, refl}
use mathlib.Core.List.{List, [], ◌∷◌, ◌++◌}
use Prim.Native.Nat.{◌+◌}
use native.Mathlib.Omega.{arith}
use Rattle.plan.specs.Plan.{Plan}
use Rattle.rules.specs.State.{State}
use Rattle.rules.specs.Calls.{Call, call}
use Rattle.rules.specs.Ruled.{ruled_after, rounds}
use Rattle.theory_drain.specs.Waits.{of_rules, after}
use Rattle.theory_drain.specs.AtTheEnd.{Waiting}

module _ (pl : Plan) where
  pub after_ruled : (cs : List Call) (s : State) → after (of_rules pl) cs s ≡ ruled_after pl cs s
  after_ruled [] s = refl
  after_ruled (c ∷ cs) s = after_ruled cs (call pl c s).state

  pub ruled_append : (cs ds : List Call) (s : State)
      → ruled_after pl (cs ++ ds) s ≡ ruled_after pl ds (ruled_after pl cs s)
  ruled_append [] ds s = refl
  ruled_append (c ∷ cs) ds s = ruled_append cs ds (call pl c s).state

  pub rounds_append : (cs ds : List Call) (s : State)
      → rounds pl (cs ++ ds) s ≡ rounds pl cs s + rounds pl ds (ruled_after pl cs s)
  rounds_append [] ds s = omega arith
  rounds_append (c ∷ cs) ds s = let h = rounds_append cs ds (call pl c s).state in omega arith

  pub waiting_append : (cs ds : List Call) (s : State) → Waiting pl (cs ++ ds) s
      → Waiting pl cs s × Waiting pl ds (ruled_after pl cs s)
  waiting_append [] ds s w = (record {}, w)
  waiting_append (c ∷ cs) ds s (k, w) = let h = waiting_append cs ds (call pl c s).state w in ((k, h.0), h.1)

  pub waiting_join : (cs ds : List Call) (s : State) → Waiting pl cs s → Waiting pl ds (ruled_after pl cs s)
      → Waiting pl (cs ++ ds) s
  waiting_join [] ds s v w = w
  waiting_join (c ∷ cs) ds s (k, v) w = (k, waiting_join cs ds (call pl c s).state v w)
