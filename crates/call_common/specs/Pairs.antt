-- Launch and Close begin alike: 8 not READ, 9 a number out of range, 10 pair not served.
use Rattle.std.specs.Prelude.{◌≡◌, not, ◌&&◌, List, [], ◌∷◌, ℕ, ltb, ◌<◌, get_or}
use Rattle.kinds.specs.declared.Refusal.TheVariants.{WrongPhase, BadNumber, NotServed}
use Rattle.packets.specs.declared.Phase.TheVariants.{Read}
use Rattle.plan.specs.declared.Head.{Head}
use Rattle.plan.specs.Plan.{Plan, A, P, S}
use Rattle.plan_walks.specs.Served.{served}
use Rattle.rules.specs.State.{State}
use Rattle.rules.specs.Guards.{Guard, guard}
use Rattle.rules.specs.Calls.{Visit, visit, is_phase, guards}

-- 8, 9, 10, and then other tests
abbrev pub opening : Plan → ℕ → ℕ → ℕ → State → List Guard → List Guard
opening pl a p t s gs =
    guard WrongPhase (not (is_phase s.clock.phase Read))
    ∷ guard BadNumber (not (ltb a (A pl) && ltb p (P pl) && ltb t (S pl)))
    ∷ guard NotServed (not (served pl a p))
    ∷ gs

-- a call that begins so: the tests behind
pub record Begins (v : Visit) (a p t : ℕ) : Type 0 where
  pub more : Plan → State → List Guard
  pub begins : (pl : Plan) (s : State) → guards pl (visit v) s ≡ opening pl a p t s (more pl s)

-- bytes and numbers on which these tests are passed: the phase is READ, the numbers are the plan's, and the pair's
-- walk has n routers, at least one
pub record Opened (h : Head) (lengths : List (List ℕ)) (b : List ℕ) (a p t n : ℕ) : Type 0 where
  pub phase : get_or b 0 0 ≡ 0
  pub active : a < h.actives
  pub passive : p < h.passives
  pub slot : t < h.slots
  pub walk : n ≡ get_or (get_or lengths a []) p 0
  pub some_walk : n ≡ 0 → ⊥
