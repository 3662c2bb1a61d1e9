-- The conditions of all refusals of a call on bytes, in the documents' order: Load's, then 7, then the call's own.
use Rattle.std.specs.Prelude.{◌≡◌, ◌≢◌, ◌⊎◌, List, [], ◌∷◌, ◌++◌, ℕ, ◌<◌, length}
use Rattle.kinds.specs.declared.Refusal.TheVariants.{TooShort, OutOfRange, WrongLength, BadField, BadJoint, HasRing}
use Rattle.kinds.specs.declared.Refusal.TheVariants.{NotState}
use Rattle.kinds.specs.Conditions.{Condition, condition}
use Rattle.plan.specs.Head.{head_of, InRange, byte_count}
use Rattle.plan.specs.Plan.{Plan, plan_of}
use Rattle.plan.specs.Rules.{Filled, FieldsFit, JointsMatch}
use Rattle.plan_queues.specs.Feeds.{FeedRing}
use Rattle.rules.specs.State.{State}
use Rattle.rules.specs.Calls.{Call}
use Rattle.rules.specs.Conditions.{conditions}
use Rattle.rules.specs.Ruled.{Good}
use Rattle.bytes_layout.specs.Offsets.{size}
use Rattle.bytes_layout.specs.Encode.{encode}
use Rattle.bytes_layout.specs.Decode.{decode}

-- '**Load**: 1 fewer than six bytes; 2 R, A, P, S or a capacity outside its range; 3 wrong length or a fill bit set; 4
-- a later field outside its range; 5 a router joint not named back, a joint to the same router, or an interface
-- without exactly one joint; 6 a ring'
abbrev pub load_conditions : List ℕ → List Condition
load_conditions p =
    condition TooShort (length p < 6)
    ∷ condition OutOfRange (InRange (head_of p) → ⊥)
    ∷ condition WrongLength ((length p ≢ byte_count (head_of p)) ⊎ (Filled p → ⊥))
    ∷ condition BadField (FieldsFit p → ⊥)
    ∷ condition BadJoint (JointsMatch (plan_of p) → ⊥)
    ∷ condition HasRing (FeedRing (plan_of p))
    ∷ []

-- the bytes of a valid state, and any bytes past them
pub record StateBytes (pl : Plan) (b : List ℕ) : Type 0 where
  pub state : State
  pub rest : List ℕ
  pub good : Good pl state
  pub same : b ≡ encode pl state rest

-- '**Start**: 7 state buffer too short'
abbrev pub buffer_conditions : List ℕ → List ℕ → List Condition
buffer_conditions p b = condition NotState (length b < size (plan_of p)) ∷ []

abbrev pub start_conditions : List ℕ → List ℕ → List Condition
start_conditions p b = load_conditions p ++ buffer_conditions p b

-- '**Every other call**: 7 not a state', then its own
abbrev pub state_conditions : List ℕ → Call → List ℕ → List Condition
state_conditions p c b =
    condition NotState (StateBytes (plan_of p) b → ⊥) ∷ conditions (plan_of p) c (decode (plan_of p) b)

abbrev pub call_conditions : List ℕ → Call → List ℕ → List Condition
call_conditions p c b = load_conditions p ++ state_conditions p c b
