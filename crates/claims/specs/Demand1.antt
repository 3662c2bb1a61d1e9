-- Demand 1: 'Refused first: every input that meets a condition in document 01's list .. Each has its number, comes
-- only under its stated condition, and alters no byte. Then accepted: everything else, whatever bytes are lent'.
use Rattle.std.specs.Prelude.{◌≡◌, ◌≢◌, ◌⊎◌, List, ℕ, ◌≤◌, length}
use Rattle.std.specs.Prelude.{Ok, Err}
use Rattle.kinds.specs.declared.Refusal.{Refusal}
use Rattle.kinds.specs.Conditions.{Condition, First, NoneHolds}
use Rattle.packets.specs.declared.Answer.TheVariants.{Refused, Done}
use Rattle.plan.specs.declared.Head.{Head}
use Rattle.plan.specs.Head.{head_of}
use Rattle.plan.specs.Plan.{Plan, plan_of}
use Rattle.load.specs.Load.{load_of}
use Rattle.rules.specs.Calls.{Call}
use Rattle.bytes_layout.specs.Rows.{past}
use Rattle.bytes_layout.specs.Offsets.{size}
use Rattle.claims.specs.Calls.{Given, start_on, call_on}
use Rattle.claims.specs.Conditions.{load_conditions, start_conditions, call_conditions}

-- what a call gives on the state bytes b, its conditions being cs
pub record Decided (pl : Plan) (cs : List Condition) (b : List ℕ) (g : Given) : Type 0 where
  -- the answer is refusal w exactly if w's condition holds and none before it does
  pub only : (w : Refusal) → g.answer ≡ Refused w → First w cs
  pub always : (w : Refusal) → First w cs → g.answer ≡ Refused w
  -- one condition is the first to hold, or none holds; then the call is accepted
  pub first_or_none : ((w : Refusal) × First w cs) ⊎ NoneHolds cs
  pub accepted : NoneHolds cs → (w : Refusal) → g.answer ≢ Refused w
  -- 'A refusal alters no byte'
  pub refused_same : (w : Refusal) → g.answer ≡ Refused w → g.bytes ≡ b
  -- 'Bytes past the state are never written', and there are as many bytes as before
  pub past_same : past (size pl) g.bytes ≡ past (size pl) b
  pub length_same : length g.bytes ≡ length b

-- for any plan bytes, state bytes, call and arguments
pub record Demand1 : Type 0 where
  pub load_only : (p : List ℕ) (w : Refusal) → load_of p ≡ Err w → First w (load_conditions p)
  pub load_always : (p : List ℕ) (w : Refusal) → First w (load_conditions p) → load_of p ≡ Err w
  pub load_accepted : (p : List ℕ) → NoneHolds (load_conditions p) → load_of p ≡ Ok (head_of p)
  pub start : (p b : List ℕ) → Decided (plan_of p) (start_conditions p b) b (start_on p b)
  -- Start is accepted on every buffer that is long enough
  pub start_done : (p b : List ℕ) (h : Head) → load_of p ≡ Ok h → size (plan_of p) ≤ length b
      → (start_on p b).answer ≡ Done
  pub calls : (p : List ℕ) (c : Call) (b : List ℕ) → Decided (plan_of p) (call_conditions p c b) b (call_on p c b)
