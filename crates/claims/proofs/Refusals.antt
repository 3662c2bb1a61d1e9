-- 'A refusal alters no byte', 'Bytes past the state are never written', and no call alters how many bytes there are:
-- for every plan and all bytes.
use Rattle.std.specs.Prelude.{Result, Ok, Err}
use Rattle.plan.specs.declared.Head.{Head}
use mathlib.Core.Path.{◌≡◌, refl, sym, ap, ◌∙◌}
use mathlib.Core.Bool.{Bool, true, false}
use mathlib.Core.List.{List, []}
use Prim.Native.Nat.{ℕ, ◌+◌, ◌≤◌}
use native.Mathlib.Omega.{arith}
use lib.Dec.{ltb}
use lib.ListN.{length, length-append, length-drop}
use borrow.Author.Tests.{ltb-false}
use Rattle.basis.specs.Choice.{pick}
use Rattle.kinds.specs.declared.Refusal.{Refusal}
use Rattle.kinds.specs.declared.Refusal.TheVariants.{NotState}
use Rattle.packets.specs.declared.Answer.TheVariants.{Refused, Done}
use Rattle.plan.specs.Plan.{Plan, plan_of}
use Rattle.plan_facts.proofs.Heads.{and_both}
use Rattle.load.specs.Load.{load_of}
use Rattle.rules.specs.State.{State, start}
use Rattle.rules.specs.Calls.{Outcome, Call, call}
use Rattle.theory.proofs.Does.{call_does, refused_leaves}
use Rattle.bytes_layout.specs.Rows.{past}
use Rattle.bytes_layout.specs.Offsets.{size}
use Rattle.bytes_layout.specs.Encode.{encode, encode_append, length_encode}
use Rattle.bytes_layout.specs.Decode.{decode}
use Rattle.bytes_layout.proofs.StateBytes.{encode_canonical, past_encode}
use Rattle.claims.specs.Calls.{Given, given, on_plan, is_state, stored, on_state, start_in, start_on, call_on}

-- a state's bytes and what is past them, counted
pub length_encoded : (pl : Plan) (s : State) (rest : List ℕ) → length (encode pl s rest) ≡ size pl + length rest
length_encoded pl s rest =
    rw (encode_append pl s rest) (omega (arith, length-append (encode pl s []) rest, length_encode pl s))

-- what every call does with bytes: where it refuses they are as they were, past the state they always are, and there
-- are as many
pub record Unaltered (pl : Plan) (b : List ℕ) (g : Given) : Type 0 where
  pub refused : (w : Refusal) → g.answer ≡ Refused w → g.bytes ≡ b
  pub beyond : past (size pl) g.bytes ≡ past (size pl) b
  pub count : length g.bytes ≡ length b

kept_refused : (pl : Plan) (b : List ℕ) (w : Refusal) → Unaltered pl b (given (Refused w) b)
kept_refused pl b w = record { refused = λ v e. refl; beyond = refl; count = refl }

kept_stored : (pl : Plan) (b : List ℕ) (o : Outcome) → ((w : Refusal) → o.answer ≡ Refused w → o.state ≡ decode pl b)
    → is_state pl b ≡ true → Unaltered pl b (stored pl b o)
unfolding is_state
kept_stored pl b o f e =
    let same : b ≡ encode pl (decode pl b) (past (size pl) b) = encode_canonical pl b (and_both e).0 in
    record {
      refused = λ w a. ap (λ (s : State). encode pl s (past (size pl) b)) (f w a) ∙ sym same;
      beyond = past_encode pl o.state (past (size pl) b);
      count = length_encoded pl o.state (past (size pl) b)
          ∙ sym (length_encoded pl (decode pl b) (past (size pl) b)) ∙ ap length (sym same);
    }

kept_state : (pl : Plan) (c : Call) (b : List ℕ) → Unaltered pl b (on_state (call pl c) b pl)
unfolding on_state
kept_state pl c b = by (is_state pl b) refl
  where
    by : (t : Bool) → is_state pl b ≡ t
        → Unaltered pl b (pick t (stored pl b (call pl c (decode pl b))) (given (Refused NotState) b))
    by true e =
        kept_stored pl b (call pl c (decode pl b)) (λ w a. (refused_leaves (call_does pl (decode pl b) c) a).0) e
    by false e = kept_refused pl b NotState

kept_plan : (p b : List ℕ) (go : Plan → Given) → Unaltered (plan_of p) b (go (plan_of p)) → (l : Result Head Refusal)
    → Unaltered (plan_of p) b (on_plan p b go l)
kept_plan p b go k (Err w) = kept_refused (plan_of p) b w
kept_plan p b go k (Ok h) = k

-- so does every call
pub kept_call : (p : List ℕ) (c : Call) (b : List ℕ) → Unaltered (plan_of p) b (call_on p c b)
unfolding call_on
kept_call p c b = kept_plan p b (λ pl. on_state (call pl c) b pl) (kept_state (plan_of p) c b) (load_of p)

-- ---- Start
kept_started : (pl : Plan) (b : List ℕ) → size pl ≤ length b
    → Unaltered pl b (given Done (encode pl (start pl) (past (size pl) b)))
unfolding past
kept_started pl b h =
    record {
      refused = λ w e. let z : ◌≡◌ {A = ℕ} 0 1 = cc in absurd (omega arith);
      beyond = past_encode pl (start pl) (past (size pl) b);
      count = length_encoded pl (start pl) (past (size pl) b) ∙ rw (length-drop (size pl) b) (omega arith);
    }

-- and Start
pub kept_start : (p b : List ℕ) → Unaltered (plan_of p) b (start_on p b)
unfolding start_on
kept_start p b = kept_plan p b (start_in b) (by (ltb (length b) (size (plan_of p))) refl) (load_of p)
  where
    by : (t : Bool) → ltb (length b) (size (plan_of p)) ≡ t
        → Unaltered (plan_of p) b (pick t (given (Refused NotState) b)
        (given Done (encode (plan_of p) (start (plan_of p)) (past (size (plan_of p)) b))))
    by true e = kept_refused (plan_of p) b NotState
    by false e = kept_started (plan_of p) b (ltb-false (length b) (size (plan_of p)) e)
