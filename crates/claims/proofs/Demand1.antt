-- Demand 1, proved: every answer is told by the first of the call's conditions, and what is not refused is accepted.
use Rattle.std.specs.Prelude.{Result, Ok, Err}
use mathlib.Core.Path.{◌≡◌, refl, sym, ap, ◌∙◌}
use mathlib.Core.Logic.{◌≢◌}
use mathlib.Core.Bool.{Bool, true, false, not}
use mathlib.Core.List.{List, [], ◌∷◌, ◌++◌}
use mathlib.Core.Option.{Option, none, some}
use Prim.Native.Nat.{ℕ}
use native.Mathlib.Omega.{arith}
use lib.Dec.{ltb}
use lib.ListN.{length}
use Rattle.basis.specs.Choice.{pick, pick_out}
use Rattle.kinds.specs.declared.Refusal.{Refusal}
use Rattle.kinds.specs.declared.Refusal.TheVariants.{NotState}
use Rattle.kinds.specs.Conditions.{Condition, NoneHolds}
use Rattle.packets.specs.declared.Answer.{Answer}
use Rattle.packets.specs.declared.Answer.TheVariants.{Refused, Done}
use Rattle.plan.specs.declared.Head.{Head}
use Rattle.plan.specs.Head.{head_of}
use Rattle.plan.specs.Plan.{Plan, plan_of}
use Rattle.plan_journeys.proofs.Places.{some_not_none}
use Rattle.load.specs.Load.{load_of}
use Rattle.rules.specs.State.{start}
use Rattle.rules.specs.Guards.{Guard, guard, refusal_of}
use Rattle.rules.specs.Calls.{Call, guards, accepted, decided, call}
use Rattle.theory.proofs.Does.{accepted_not}
use Rattle.bytes_layout.specs.Rows.{past}
use Rattle.bytes_layout.specs.Offsets.{size}
use Rattle.bytes_layout.specs.Encode.{encode}
use Rattle.bytes_layout.specs.Decode.{decode}
use Rattle.valid.proofs.Decides.{Decides, less}
use Rattle.claims.specs.Calls.{Given, given, is_state, on_plan, stored, on_state, start_in, start_on, call_on}
use Rattle.claims.specs.Conditions.{load_conditions, StateBytes, buffer_conditions, start_conditions}
use Rattle.claims.specs.Conditions.{state_conditions, call_conditions}
use Rattle.claims.specs.Demand1.{Decided, Demand1}
use Rattle.claims.proofs.Tests.{Tell, tell_more, told_first, first_told, none_told, first_or_none}
use Rattle.claims.proofs.Tell.{no, calls_tell, load_guards, load_tells}
use Rattle.claims.proofs.Exact.{accepted_wired, accepted_range, state_exact}
use Rattle.claims.proofs.Refusals.{Unaltered, kept_call, kept_start}
use Rattle.claims.proofs.Run.{start_done}

-- ---- Load by its guards
abbrev loaded_as : Option Refusal → Head → Result Head Refusal
loaded_as none h = Ok h
loaded_as (some w) h = Err w

-- the guards' first refusal, or the head
abbrev ladder : List Guard → Head → Result Head Refusal
ladder [] h = Ok h
ladder (g ∷ gs) h = pick g.holds (Err g.why) (ladder gs h)

ladder_first : (gs : List Guard) (h : Head) → ladder gs h ≡ loaded_as (refusal_of gs) h
ladder_first [] h = refl
ladder_first (g ∷ gs) h =
    ap (pick g.holds (Err g.why)) (ladder_first gs h)
    ∙ pick_out (λ (o : Option Refusal). loaded_as o h) g.holds (some g.why) (refusal_of gs)

pub load_first : (p : List ℕ) → load_of p ≡ loaded_as (refusal_of (load_guards p)) (head_of p)
unfolding load_of
load_first p = ladder_first (load_guards p) (head_of p)

unloaded_same : {v w : Refusal} → ◌≡◌ {A = Result Head Refusal} (Err v) (Err w) → v ≡ w
unloaded_same e = cc

-- ---- a call by its guards
abbrev answer_as : Option Refusal → Answer → Answer
answer_as none a = a
answer_as (some w) a = Refused w

abbrev or_else : Option Refusal → Option Refusal → Option Refusal
or_else none o = o
or_else (some w) o = some w

refusal_more : (gs hs : List Guard) → refusal_of (gs ++ hs) ≡ or_else (refusal_of gs) (refusal_of hs)
refusal_more [] hs = refl
refusal_more (g ∷ gs) hs =
    ap (pick g.holds (some g.why)) (refusal_more gs hs)
    ∙ pick_out (λ (o : Option Refusal). or_else o (refusal_of hs)) g.holds (some g.why) (refusal_of gs)

-- what is refused by guards that tell of conditions, and changes bytes as every call does, is decided by these
decided_by : (pl : Plan) (gs : List Guard) (cs : List Condition) (b : List ℕ) (a : Answer) (g : Given) → Tell gs cs
    → g.answer ≡ answer_as (refusal_of gs) a → (refusal_of gs ≡ none → (w : Refusal) → a ≢ Refused w) → Unaltered pl b g
    → Decided pl cs b g
decided_by pl gs cs b a g t e n k =
    record {
      only = λ w f. told_first gs cs t w (by (refusal_of gs) refl w (sym e ∙ f));
      always = λ w f. e ∙ ap (λ (o : Option Refusal). answer_as o a) (first_told gs cs t w f);
      first_or_none = first_or_none gs cs t;
      accepted = λ m w f.
          let h = none_told gs cs t m in
          n h w (sym (ap (λ (o : Option Refusal). answer_as o a) h) ∙ sym e ∙ f);
      refused_same = k.refused;
      past_same = k.beyond;
      length_same = k.count;
    }
  where
    by : (o : Option Refusal) → refusal_of gs ≡ o → (w : Refusal) → answer_as (refusal_of gs) a ≡ Refused w
        → refusal_of gs ≡ some w
    by none h w f = absurd (n h w (sym (ap (λ (o : Option Refusal). answer_as o a) h) ∙ f))
    by (some v) h w f =
        let r : ◌≡◌ {A = Answer} (Refused v) (Refused w) = sym (ap (λ (o : Option Refusal). answer_as o a) h) ∙ f in
        let same : v ≡ w = cc in h ∙ ap some same

-- where Load's conditions do not hold the plan loads
loaded : (p : List ℕ) → NoneHolds (load_conditions p) → load_of p ≡ Ok (head_of p)
loaded p n = load_first p
    ∙ ap (λ (o : Option Refusal). loaded_as o (head_of p)) (none_told (load_guards p) (load_conditions p) (load_tells p)
    n)

-- a call's answer, Load's guards before what its own give
load_answer : (p b : List ℕ) (go : Plan → Given) (hs : List Guard) (a : Answer)
    → (go (plan_of p)).answer ≡ answer_as (refusal_of hs) a
    → (on_plan p b go (load_of p)).answer ≡ answer_as (refusal_of (load_guards p ++ hs)) a
load_answer p b go hs a e =
    ap (λ (l : Result Head Refusal). (on_plan p b go l).answer) (load_first p) ∙ by (refusal_of (load_guards p))
    ∙ ap (λ (o : Option Refusal). answer_as o a) (sym (refusal_more (load_guards p) hs))
  where
    by : (o : Option Refusal) → (on_plan p b go (loaded_as o (head_of p))).answer ≡ answer_as
        (or_else o (refusal_of hs)) a
    by none = e
    by (some w) = refl

-- ---- Start
start_decided : (p b : List ℕ) → Decided (plan_of p) (start_conditions p b) b (start_on p b)
unfolding start_on
start_decided p b =
    decided_by (plan_of p) (load_guards p ++ short) (start_conditions p b) b Done (start_on p b)
    (tell_more (load_guards p) short (load_conditions p) (buffer_conditions p b) (load_tells p)
    (λ n. (refl, less (length b) (size (plan_of p)), λ m. record {})))
    (load_answer p b (start_in b) short Done (by (ltb (length b) (size (plan_of p)))))
    (λ e w f. let z : ◌≡◌ {A = ℕ} 0 1 = cc in omega arith) (kept_start p b)
  where
    short : List Guard
    short = guard NotState (ltb (length b) (size (plan_of p))) ∷ []

    by : (t : Bool) → (pick t (given (Refused NotState) b)
        (given Done (encode (plan_of p) (start (plan_of p)) (past (size (plan_of p)) b)))).answer
        ≡ answer_as (pick t (some NotState) none) Done
    by true = refl
    by false = refl

-- ---- every other call
-- refusal 7's test tells of its condition
not_state : (p : List ℕ) (h : Head) → load_of p ≡ Ok h → (b : List ℕ)
    → Decides (not (is_state (plan_of p) b)) (StateBytes (plan_of p) b → ⊥)
not_state p h e b =
    let x = state_exact (plan_of p) (accepted_wired p h e) (accepted_range p h e) b in
    no (record { holds = x.0; passes = x.1 })

-- 7, then the call's own
abbrev state_guards : List ℕ → Call → List ℕ → List Guard
state_guards p c b = guard NotState (not (is_state (plan_of p) b)) ∷ guards (plan_of p) c (decode (plan_of p) b)

state_answer : (p : List ℕ) (c : Call) (b : List ℕ) → (on_state (call (plan_of p) c) b (plan_of p)).answer
    ≡ answer_as (refusal_of (state_guards p c b)) (accepted (plan_of p) c (decode (plan_of p) b)).answer
unfolding on_state call
state_answer p c b = by (is_state (plan_of p) b) (refusal_of (guards (plan_of p) c (decode (plan_of p) b)))
  where
    by : (t : Bool) (o : Option Refusal)
        → (pick t (stored (plan_of p) b (decided o (decode (plan_of p) b)
        (accepted (plan_of p) c (decode (plan_of p) b))))
        (given (Refused NotState) b)).answer
        ≡ answer_as (pick (not t) (some NotState) o) (accepted (plan_of p) c (decode (plan_of p) b)).answer
    by true none = refl
    by true (some w) = refl
    by false o = refl

call_decided : (p : List ℕ) (c : Call) (b : List ℕ) → Decided (plan_of p) (call_conditions p c b) b (call_on p c b)
unfolding call_on
call_decided p c b =
    decided_by (plan_of p) (load_guards p ++ state_guards p c b) (call_conditions p c b) b
    (accepted (plan_of p) c (decode (plan_of p) b)).answer (call_on p c b)
    (tell_more (load_guards p) (state_guards p c b) (load_conditions p) (state_conditions p c b) (load_tells p) (λ n.
    let l = loaded p n in (
      refl,
      not_state p (head_of p) l b,
      λ m. calls_tell (plan_of p) (accepted_wired p (head_of p) l) (decode (plan_of p) b) c,
    )))
    (load_answer p b (λ pl. on_state (call pl c) b pl) (state_guards p c b) _ (state_answer p c b)) passed
    (kept_call p c b)
  where
    -- the last guards are passed where all are
    last : (gs hs : List Guard) → refusal_of (gs ++ hs) ≡ none → refusal_of hs ≡ none
    last gs hs e = by (refusal_of gs) (sym (refusal_more gs hs) ∙ e)
      where
        by : (o : Option Refusal) → or_else o (refusal_of hs) ≡ none → refusal_of hs ≡ none
        by none f = f
        by (some w) f = absurd (some_not_none (sym f))

    passed : refusal_of (load_guards p ++ state_guards p c b) ≡ none → (w : Refusal)
        → (accepted (plan_of p) c (decode (plan_of p) b)).answer ≢ Refused w
    passed e =
        accepted_not (plan_of p) c (decode (plan_of p) b)
        (last (guard NotState (not (is_state (plan_of p) b)) ∷ []) (guards (plan_of p) c (decode (plan_of p) b))
        (last (load_guards p) (state_guards p c b) e))

-- ---- demand 1
pub demand1 : Demand1
demand1 =
    record {
      load_only = λ p w e. told_first (load_guards p) (load_conditions p) (load_tells p) w
          (by p (refusal_of (load_guards p)) refl w e);
      load_always = λ p w f.
          load_first p ∙ ap (λ (o : Option Refusal). loaded_as o (head_of p))
          (first_told (load_guards p) (load_conditions p) (load_tells p) w f);
      load_accepted = loaded;
      start = start_decided;
      start_done = λ p b h e l. start_done p h e b l;
      calls = call_decided;
    }
  where
    by : (p : List ℕ) (o : Option Refusal) → refusal_of (load_guards p) ≡ o → (w : Refusal) → load_of p ≡ Err w
        → refusal_of (load_guards p) ≡ some w
    by p none h w e =
        let f : Ok (head_of p) ≡ Err w =
        sym (load_first p ∙ ap (λ (o : Option Refusal). loaded_as o (head_of p)) h) ∙ e in
        let z : ◌≡◌ {A = ℕ} 0 1 = cc in absurd (omega arith)
    by p (some v) h w e =
        h ∙ ap some (unloaded_same (sym (load_first p ∙ ap (λ (o : Option Refusal). loaded_as o (head_of p)) h) ∙ e))
