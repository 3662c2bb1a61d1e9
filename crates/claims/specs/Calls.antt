-- The calls on bytes: plan bytes, state bytes and arguments give the answer and the state bytes. 'Load (and first in
-- every call)'; then refusal 7;
-- then the call's own refusals. Bytes past the state are never written, and a refusal alters no byte.
use Rattle.std.specs.Prelude.{Bool, ◌&&◌, List, ℕ, ltb, length}
use Rattle.std.specs.Prelude.{Result, Ok, Err}
use Rattle.kinds.specs.declared.Refusal.{Refusal}
use Rattle.plan.specs.declared.Head.{Head}
use Rattle.basis.specs.Choice.{pick}
use Rattle.kinds.specs.declared.Refusal.TheVariants.{NotState}
use Rattle.packets.specs.declared.Answer.{Answer}
use Rattle.packets.specs.declared.Answer.TheVariants.{Refused, Done}
use Rattle.plan.specs.Plan.{Plan, plan_of}
use Rattle.load.specs.Load.{load_of}
use Rattle.rules.specs.State.{State, start}
use Rattle.rules.specs.Calls.{Outcome, Call, call}
use Rattle.valid.specs.Test.{valid_test}
use Rattle.bytes_layout.specs.Rows.{past}
use Rattle.bytes_layout.specs.Offsets.{size}
use Rattle.bytes_layout.specs.Encode.{encode}
use Rattle.bytes_layout.specs.Decode.{decode}
use Rattle.bytes_layout.specs.Canonical.{canonical}

-- what a call on bytes gives: its answer, and the state bytes that it leaves
pub record Given : Type 0 where
  pub answer : Answer
  pub bytes : List ℕ

abbrev pub given : Answer → List ℕ → Given
given a b = record { answer = a; bytes = b }

-- Load's answer taken apart: its refusal is passed up, or the plan goes on
abbrev pub on_plan : List ℕ → List ℕ → (Plan → Given) → Result Head Refusal → Given
on_plan p b go (Err w) = given (Refused w) b
on_plan p b go (Ok h) = go (plan_of p)

-- refusal 7's test: the bytes are those of a state, which is valid
unfoldable pub is_state : Plan → List ℕ → Bool
is_state pl b = canonical pl b && valid_test pl (decode pl b)

-- the state that a rule leaves, in the bytes; those past the state stay
abbrev pub stored : Plan → List ℕ → Outcome → Given
stored pl b r = given r.answer (encode pl r.state (past (size pl) b))

-- a rule on the state of the bytes
unfoldable pub on_state : (State → Outcome) → List ℕ → Plan → Given
on_state rule b pl = pick (is_state pl b) (stored pl b (rule (decode pl b))) (given (Refused NotState) b)

-- ---- the calls
-- '**Start**: 7 state buffer too short'
abbrev pub start_in : List ℕ → Plan → Given
start_in b pl =
    pick (ltb (length b) (size pl)) (given (Refused NotState) b) (given Done (encode pl (start pl) (past (size pl) b)))

unfoldable pub start_on : List ℕ → List ℕ → Given
start_on p b = on_plan p b (start_in b) (load_of p)

-- every other call
unfoldable pub call_on : List ℕ → Call → List ℕ → Given
call_on p c b = on_plan p b (λ pl. on_state (call pl c) b pl) (load_of p)
