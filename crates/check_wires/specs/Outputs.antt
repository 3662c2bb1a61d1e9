-- What the check of the outputs' rows gives: whether each passes, how many packets each queue is to get, and what the
-- packets on wires have spent.
use Rattle.std.specs.Prelude.{◌≡◌, Bool, true, List, ℕ, ◌+◌, ◌≤◌, ◌<◌, eqb, leb, get_or, length}
use Rattle.basis.specs.Choice.{also}
use Rattle.packets.specs.declared.Packet.{Packet}
use Rattle.plan.specs.Plan.{Plan}
use Rattle.plan_queues.specs.Queue.{queue_at, queues}
use Rattle.rules.specs.Outputs.{next_by, output_at, outputs}
use Rattle.rules.specs.Valid.{sum, goes_to, brings, in_wire, spends}
use Rattle.valid.specs.Test.{bound_test}
use Rattle.bytes_layout.specs.Decode.{decode}
use Rattle.check_rule.specs.Check.{output_row_test, outputs_part}
use Rattle.check_frames.specs.Tally.{Tallied}

-- the row at i has a full wire, with a packet of one of four kinds, and nobody is picked
unfoldable pub full_at : ℕ → List ℕ → Bool
full_at i b = also (eqb (get_or b (i + 6) 0) 0) (also (eqb (get_or b i 0) 1) (leb (get_or b (i + 1) 0) 3))

-- how many packets output m's wire brings to queue n
abbrev pub brings_to : Plan → List ℕ → ℕ → ℕ → ℕ
brings_to pl b n m = brings pl (queue_at pl n) (output_at pl m) ((decode pl b).links.wire (output_at pl m))

-- what the packet on output m's wire has spent of active a's allowance
abbrev pub spent_on : Plan → List ℕ → ℕ → ℕ → ℕ
spent_on pl b a m = in_wire (spends a) ((decode pl b).links.wire (output_at pl m))

-- the table t of packets to come grew by w, queue by queue
pub record Brought (pl : Plan) (w : ℕ → ℕ) (t u : List ℕ) : Type 0 where
  pub long : length t ≡ 512 → length u ≡ 512
  pub grown : length t ≡ 512 → (n : ℕ) → n < queues pl → get_or u n 0 ≡ get_or t n 0 + w n
  pub most : (n : ℕ) → n < queues pl → get_or u n 0 ≤ get_or t n 0 + w n

-- no count is above m: one more fits a byte
abbrev pub UpTo : Plan → ℕ → List ℕ → Type 0
UpTo pl m t = (n : ℕ) → n < queues pl → get_or t n 0 ≤ m

-- packet x on output m's wire; c and d the packets to come, t and u what has been spent, before and after
pub record Carried (pl : Plan) (m : ℕ) (x : Packet) (r : Bool) (c d t u : List ℕ) : Type 0 where
  pub test : r ≡ bound_test pl x (next_by pl (output_at pl m) x)
  pub come : r ≡ true → Brought pl (λ n. goes_to (queue_at pl n) (next_by pl (output_at pl m) x)) c d
  pub count : r ≡ true → Tallied (λ a. spends a x) t u

-- output m
pub record OutputChecked (pl : Plan) (b : List ℕ) (m : ℕ) (r : Bool) (c d t u : List ℕ) : Type 0 where
  pub test : r ≡ output_row_test pl b (output_at pl m)
  pub come : r ≡ true → Brought pl (λ n. brings_to pl b n m) c d
  pub count : r ≡ true → Tallied (λ a. spent_on pl b a m) t u

-- all outputs
pub record OutputsChecked (pl : Plan) (b : List ℕ) (r : Bool) (c d t u : List ℕ) : Type 0 where
  pub test : r ≡ outputs_part pl b
  pub come : r ≡ true → Brought pl (λ n. sum (outputs pl) (brings_to pl b n)) c d
  pub count : r ≡ true → Tallied (λ a. sum (outputs pl) (spent_on pl b a)) t u
