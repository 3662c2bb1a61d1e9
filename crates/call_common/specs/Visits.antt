-- The calls between the phases, on the bytes of a good state: what is asked of the bytes, what a call's code did, and
-- the bytes once a queue's head has left.
use Rattle.std.specs.Prelude.{◌≡◌, true, List, ℕ, ◌+◌, ◌*◌, set}
use Rattle.packets.specs.declared.Answer.{Answer}
use Rattle.plan.specs.declared.Head.{Head}
use Rattle.plan.specs.Head.{destinations}
use Rattle.plan.specs.Plan.{Plan}
use Rattle.load_arrivals.specs.Pairs.{lengths_of}
use Rattle.rules.specs.Calls.{Visit, visit}
use Rattle.rules.specs.Ruled.{Good}
use Rattle.bytes_layout.specs.Offsets.{flag_byte}
use Rattle.bytes_layout.specs.Codes.{flag_code}
use Rattle.bytes_layout.specs.Updates.{pop_at}
use Rattle.bytes_steps.specs.Acts.{Holds, Acts}
use Rattle.bytes_steps.specs.Counts.{allowances_from, connections_from}

-- the bytes of a good state of a plan that has this head
pub record Ready (h : Head) (b : List ℕ) : Type 0 where
  pub plan : Plan
  pub head : plan.head ≡ h
  pub held : Holds plan (Good plan) b

-- a call on such bytes: by the rules of every plan that has this head
pub record Visits (h : Head) (v : Visit) (b : List ℕ) (x : Answer) (d : List ℕ) : Type 0 where
  pub acts : (pl : Plan) → pl.head ≡ h → Acts pl (visit v) b x d

-- and that has these lengths of walks: 0 exactly where a pair is not served
pub record Walked (h : Head) (lengths : List (List ℕ)) (v : Visit) (b : List ℕ) (x : Answer) (d : List ℕ) : Type 0
  where
    pub acts : (pl : Plan) → pl.head ≡ h → lengths ≡ lengths_of pl → Acts pl (visit v) b x d

-- ---- rows of the interfaces' queues, by the head alone
abbrev pub active_out_row : ℕ → ℕ
active_out_row a = 2 + 39 * a

abbrev pub passive_out_row : Head → ℕ → ℕ
passive_out_row h p = 2 + 39 * (h.actives + p)

abbrev pub active_in_row : Head → ℕ → ℕ
active_in_row h a = 2 + 39 * (destinations h + 28 * h.routers + a)

abbrev pub passive_in_row : Head → ℕ → ℕ
passive_in_row h p = 2 + 39 * (destinations h + 28 * h.routers + h.actives + p)

abbrev pub allowance_byte : Head → ℕ → ℕ
allowance_byte h a = allowances_from h + a

-- and the four bytes of a pair's start slots
abbrev pub starts_byte : Head → ℕ → ℕ → ℕ
starts_byte h a p = connections_from h + 4 * (16 * a + p)

-- ---- a queue's head leaves and its flag rises
unfoldable pub taken_at : ℕ → List ℕ → List ℕ
taken_at row b = set (pop_at row b) (row + flag_byte) (flag_code true)
