-- The first starred run by the calls on bytes: demand 3 says that their answers are the rules', and these are
-- evaluated.
use Rattle.std.specs.Prelude.{Result, Ok, Err}
use mathlib.Core.Path.{◌≡◌, refl, sym, ap, ap₂, ◌∙◌}
use mathlib.Core.List.{List, [], ◌∷◌, ◌++◌, append_assoc}
use Prim.Native.Nat.{ℕ, ◌≤◌}
use native.Mathlib.Omega.{arith}
use Rattle.kinds.specs.declared.Refusal.{Refusal}
use Rattle.kinds.specs.Refusals.{refusal_number}
use Rattle.kinds.specs.declared.Refusal.TheVariants.{TooShort, OutOfRange, WrongLength, BadField, BadJoint, HasRing}
use Rattle.kinds.specs.declared.Refusal.TheVariants.{NotState, WrongPhase, BadNumber, NotServed, NoAllowance}
use Rattle.kinds.specs.declared.Refusal.TheVariants.{QueueFull, QueueEmpty, FlagUp, Unmarked, NotAccepted}
use Rattle.packets.specs.declared.Answer.TheVariants.{Done}
use Rattle.packets.specs.Answers.{Value, value_of}
use Rattle.plan.specs.declared.Head.{Head}
use Rattle.plan.specs.Plan.{Plan, plan_of}
use Rattle.plan.specs.Samples.{plan_t}
use Rattle.load.specs.Load.{load_of, load_number}
use Rattle.load.specs.Runs.{t_loads, loads}
use Rattle.rules.specs.State.{State, start}
use Rattle.rules.specs.Calls.{Call, call}
use Rattle.rules.specs.Ruled.{ruled_after}
use Rattle.rules.specs.Runs.Watch.{After, each, watching, moments, watch}
use Rattle.rules.specs.Runs.FirstBookings.{launch_in_round0}
use Rattle.bytes_layout.specs.Offsets.{size}
use Rattle.bytes_layout.specs.Figures.{t_parts, wired_t as plannedT}
use Rattle.claims.specs.Calls.{start_on, call_on}
use Rattle.claims.specs.Demand3.{bytes_after, Claim}
use Rattle.claims.specs.FirstRun.{answers_in, all_entries, first_answers, FirstRun}
use Rattle.claims.proofs.Run.{start_done}
use Rattle.claims.proofs.Demand3.{demand3}

-- ---- the answers of the rules
abbrev ruled_answers : Plan → List Call → State → List Value
ruled_answers pl [] s = []
ruled_answers pl (c ∷ cs) s = value_of (call pl c s).answer ∷ ruled_answers pl cs (call pl c s).state

abbrev values : List After → List Value
values [] = []
values (x ∷ xs) = x.answer ∷ values xs

values_watching : (pl : Plan) (cs : List Call) (s : State)
    → values (watching pl (λ s. []) [] (each (λ c. c ∷ []) cs) s) ≡ ruled_answers pl cs s
values_watching pl [] s = refl
values_watching pl (c ∷ cs) s =
    ap (λ (l : List Value). value_of (call pl c s).answer ∷ l) (values_watching pl cs (call pl c s).state)

watched : (cs : List Call)
    → ruled_answers (plan_of plan_t) cs (start (plan_of plan_t)) ≡ values (watch plan_t (λ s. []) [] cs)
unfolding watch moments
watched cs = sym (values_watching (plan_of plan_t) cs (start (plan_of plan_t)))

evaluated : values (watch plan_t (λ s. []) [] (launch_in_round0 ++ all_entries)) ≡ first_answers
unfolding watch
evaluated = refl

-- ---- one call more
bytes_more : (p : List ℕ) (cs : List Call) (c : Call) (b : List ℕ)
    → bytes_after p (cs ++ (c ∷ [])) b ≡ (call_on p c (bytes_after p cs b)).bytes
bytes_more p [] c b = refl
bytes_more p (d ∷ cs) c b = bytes_more p cs c (call_on p d b).bytes

ruled_more : (pl : Plan) (cs : List Call) (c : Call) (s : State)
    → ruled_after pl (cs ++ (c ∷ [])) s ≡ (call pl c (ruled_after pl cs s)).state
ruled_more pl [] c s = refl
ruled_more pl (d ∷ cs) c s = ruled_more pl cs c (call pl d s).state

-- ---- the answers on bytes are the rules'
along : (p b : List ℕ) (all : List Call) → Claim p b all → (before cs : List Call) → all ≡ before ++ cs
    → answers_in p cs (bytes_after p before b)
    ≡ ruled_answers (plan_of p) cs (ruled_after (plan_of p) before (start (plan_of p)))
along p b all k before [] e = refl
along p b all k before (c ∷ cs) e =
    let more = along p b all k (before ++ (c ∷ [])) cs (e ∙ sym (append_assoc before (c ∷ []) cs)) in
    ap₂ (λ (x : Value) (l : List Value). x ∷ l) (ap value_of (k.answers before cs c e))
    (ap (answers_in p cs) (sym (bytes_more p before c b)) ∙ more
    ∙ ap (ruled_answers (plan_of p) cs) (ruled_more (plan_of p) before c (start (plan_of p))))

-- ---- plan T loads, and has 1,635 bytes
some_number : (w : Refusal) → 1 ≤ refusal_number w
some_number TooShort = omega arith
some_number OutOfRange = omega arith
some_number WrongLength = omega arith
some_number BadField = omega arith
some_number BadJoint = omega arith
some_number HasRing = omega arith
some_number NotState = omega arith
some_number WrongPhase = omega arith
some_number BadNumber = omega arith
some_number NotServed = omega arith
some_number NoAllowance = omega arith
some_number QueueFull = omega arith
some_number QueueEmpty = omega arith
some_number FlagUp = omega arith
some_number Unmarked = omega arith
some_number NotAccepted = omega arith

loaded : (l : Result Head Refusal) → load_number l ≡ 0 → (h : Head) × (l ≡ Ok h)
loaded (Ok h) e = (h, refl)
loaded (Err w) e = let n = some_number w in absurd (omega arith)

t_accepted : (h : Head) × (load_of plan_t ≡ Ok h)
unfolding loads
t_accepted = loaded (load_of plan_t) t_loads

t_size : size (plan_of plan_t) ≡ 1635
unfolding plannedT
t_size = t_parts.5

pub first_run : FirstRun
first_run buffer long =
    let t = t_accepted in
    let done : (start_on plan_t buffer).answer ≡ Done = start_done plan_t t.0 t.1 buffer (omega (arith, t_size)) in (
      done,
      along plan_t (start_on plan_t buffer).bytes (launch_in_round0 ++ all_entries)
          (demand3 plan_t buffer t.0 t.1 done (launch_in_round0 ++ all_entries)) [] (launch_in_round0 ++ all_entries)
          refl
          ∙ watched (launch_in_round0 ++ all_entries) ∙ evaluated,
    )
