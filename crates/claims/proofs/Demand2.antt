-- Demand 2, proved: what an accepted call leaves and answers is what its rule gives of the state that it found.
use Rattle.std.specs.Prelude.{Result, Ok, Err}
use mathlib.Core.Path.{◌≡◌, refl, sym, ap, ◌∙◌}
use mathlib.Core.Logic.{◌≢◌}
use mathlib.Core.Bool.{Bool, true, false}
use mathlib.Core.List.{List}
use mathlib.Core.Option.{Option, none, some}
use Prim.Native.Nat.{ℕ}
use native.Mathlib.Omega.{arith}
use Rattle.basis.specs.Choice.{pick}
use Rattle.kinds.specs.declared.Refusal.{Refusal}
use Rattle.kinds.specs.declared.Refusal.TheVariants.{NotState}
use Rattle.packets.specs.declared.Answer.TheVariants.{Refused, Done}
use Rattle.plan.specs.declared.Head.{Head}
use Rattle.plan.specs.Plan.{plan_of}
use Rattle.load.specs.Load.{load_of}
use Rattle.load.specs.Rules.{accepted_obeys, obeys_accepted}
use Rattle.rules.specs.Guards.{refusal_of}
use Rattle.rules.specs.Calls.{Call, guards, accepted, decided, call}
use Rattle.theory.proofs.Does.{call_accepted}
use Rattle.bytes_layout.specs.Rows.{past}
use Rattle.bytes_layout.specs.Offsets.{size}
use Rattle.bytes_layout.specs.Decode.{decode}
use Rattle.claims.specs.Calls.{Given, given, is_state, on_plan, stored, on_state, start_in, start_on, call_on}
use Rattle.claims.specs.Demand2.{Follows, Demand2}
use Rattle.claims.proofs.Exact.{accepted_wired, accepted_range, is_state_lem}
use Rattle.claims.proofs.Run.{start_encode}

module _ (p : List ℕ) (c : Call) (b : List ℕ) (accepts : (w : Refusal) → (call_on p c b).answer ≢ Refused w) where
  -- Load accepted
  plan_loads : (l : Result Head Refusal) → load_of p ≡ l → (h : Head) × (l ≡ Ok h)
  unfolding call_on
  plan_loads (Ok h) e = (h, refl)
  plan_loads (Err w) e =
      absurd (accepts w (ap (λ (l : Result Head Refusal). (on_plan p b (λ pl. on_state (call pl c) b pl) l).answer) e))

  module _ (h : Head) (loads : load_of p ≡ Ok h) where
    abbrev tested : Bool → Given
    tested t = pick t (stored (plan_of p) b (call (plan_of p) c (decode (plan_of p) b))) (given (Refused NotState) b)

    on_state_lem : call_on p c b ≡ tested (is_state (plan_of p) b)
    unfolding call_on on_state
    on_state_lem = ap (λ (l : Result Head Refusal). on_plan p b (λ pl. on_state (call pl c) b pl) l) loads

    -- the bytes passed refusal 7's test
    passed : is_state (plan_of p) b ≡ true
    passed = by (is_state (plan_of p) b) refl
      where
        by : (t : Bool) → is_state (plan_of p) b ≡ t → t ≡ true
        by true e = refl
        by false e = absurd (accepts NotState (ap (λ (x : Given). x.answer) (on_state_lem ∙ ap tested e)))

    stores : call_on p c b ≡ stored (plan_of p) b (call (plan_of p) c (decode (plan_of p) b))
    stores = on_state_lem ∙ ap tested passed

    -- none of the call's own refusals applies
    none_applies : refusal_of (guards (plan_of p) c (decode (plan_of p) b)) ≡ none
    unfolding call
    none_applies = by (refusal_of (guards (plan_of p) c (decode (plan_of p) b))) refl
      where
        by : (o : Option Refusal) → refusal_of (guards (plan_of p) c (decode (plan_of p) b)) ≡ o → o ≡ none
        by none e = refl
        by (some w) e =
            absurd
            (accepts w
            (ap (λ (x : Given). x.answer) stores
            ∙ ap (λ (o : Option Refusal).
            (decided o (decode (plan_of p) b) (accepted (plan_of p) c (decode (plan_of p) b))).answer) e))

    follows : Follows p c b
    follows =
        let g = is_state_lem (plan_of p) (accepted_wired p h loads) (accepted_range p h loads) b passed in
        let rule = call_accepted (plan_of p) c (decode (plan_of p) b) none_applies in
        record {
          found = record { state = decode (plan_of p) b; rest = past (size (plan_of p)) b; good = g.0; same = g.1 };
          decoded = refl;
          past_it = refl;
          answer = ap (λ (x : Given). x.answer) stores ∙ rw rule;
          bytes = ap (λ (x : Given). x.bytes) stores ∙ rw rule;
        }

-- a Start that is done found a plan that loads
start_loads : (p b : List ℕ) (l : Result Head Refusal) → load_of p ≡ l → (start_on p b).answer ≡ Done
    → (h : Head) × (l ≡ Ok h)
unfolding start_on
start_loads p b (Ok h) e d = (h, refl)
start_loads p b (Err w) e d =
    let f : Done ≡ Refused w = sym d ∙ ap (λ (l : Result Head Refusal). (on_plan p b (start_in b) l).answer) e in
    let z : ◌≡◌ {A = ℕ} 0 1 = cc in absurd (omega arith)

pub demand2 : Demand2
demand2 =
    record {
      loaded_obeys = accepted_obeys;
      obeys_loaded = obeys_accepted;
      started = λ p b e. let l = start_loads p b (load_of p) refl e in start_encode p l.0 l.1 b e;
      follows = λ p c b a. let l = plan_loads p c b a (load_of p) refl in follows p c b a l.0 l.1;
    }
