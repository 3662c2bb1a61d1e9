-- Demand 2: 'Every accepted call leaves exactly the state, and gives exactly the answer, that the published ÆTHEREAL
-- set-up protocol prescribes as document 01 condenses and amends it; and a plan loads exactly when it obeys every plan
-- rule.' What is prescribed: machine/specs.
use Rattle.std.specs.Prelude.{◌≡◌, ◌≢◌, List, ℕ}
use Rattle.std.specs.Prelude.{Ok}
use Rattle.kinds.specs.declared.Refusal.{Refusal}
use Rattle.packets.specs.declared.Answer.TheVariants.{Refused, Done}
use Rattle.plan.specs.declared.Head.{Head}
use Rattle.plan.specs.Head.{head_of}
use Rattle.plan.specs.Plan.{plan_of}
use Rattle.load.specs.Load.{load_of}
use Rattle.load.specs.Rules.{Obeys}
use Rattle.rules.specs.State.{start}
use Rattle.rules.specs.Calls.{Call, accepted}
use Rattle.bytes_layout.specs.Rows.{past}
use Rattle.bytes_layout.specs.Offsets.{size}
use Rattle.bytes_layout.specs.Encode.{encode}
use Rattle.bytes_layout.specs.Decode.{decode}
use Rattle.claims.specs.Calls.{start_on, call_on}
use Rattle.claims.specs.Conditions.{StateBytes}

-- the call found the bytes of a state, the one that `decode` gives of them, and has left those of the state that the
-- rule gives of it, with the rule's answer; the bytes past the state are as they were
pub record Follows (p : List ℕ) (c : Call) (b : List ℕ) : Type 0 where
  pub found : StateBytes (plan_of p) b
  pub decoded : found.state ≡ decode (plan_of p) b
  pub past_it : found.rest ≡ past (size (plan_of p)) b
  pub answer : (call_on p c b).answer ≡ (accepted (plan_of p) c found.state).answer
  pub bytes : (call_on p c b).bytes ≡ encode (plan_of p) (accepted (plan_of p) c found.state).state found.rest

pub record Demand2 : Type 0 where
  -- a plan loads exactly if it obeys every plan rule
  pub loaded_obeys : (p : List ℕ) (h : Head) → load_of p ≡ Ok h → Obeys p
  pub obeys_loaded : (p : List ℕ) → Obeys p → load_of p ≡ Ok (head_of p)
  -- an accepted Start leaves the start state's bytes, and those past them as they were
  pub started : (p b : List ℕ) → (start_on p b).answer ≡ Done
      → (start_on p b).bytes ≡ encode (plan_of p) (start (plan_of p)) (past (size (plan_of p)) b)
  -- every other accepted call follows its rule
  pub follows : (p : List ℕ) (c : Call) (b : List ℕ) → ((w : Refusal) → (call_on p c b).answer ≢ Refused w)
      → Follows p c b
