-- What the check's parts give.
use Rattle.std.specs.Prelude.{Result, Ok, Err}
use Rattle.std.specs.Prelude.{◌≡◌, Bool, true, false, List, ℕ, ◌<◌, min, leb, ltb, get_or, replicate}
use Rattle.basis.specs.Choice.{pick, also}
use Rattle.plan.specs.declared.Head.{Head}
use Rattle.plan.specs.Plan.{Plan, A}
use Rattle.rules.specs.Valid.{total, spends}
use Rattle.bytes_layout.specs.Decode.{decode}
use Rattle.check_rule.specs.Check.{outputs_part, queues_part, picks_part}
use Rattle.kinds.specs.declared.Refusal.{Refusal}
use Rattle.kinds.specs.declared.Refusal.TheVariants.{NotState}

-- the answer of a test
abbrev pub checked_of : Bool → Result (Unit {0}) Refusal
checked_of true = Ok tt
checked_of false = Err NotState

-- a table in which nothing has been counted
unfoldable pub none_spent : List ℕ
none_spent = replicate 16 0

-- phase and slot
unfoldable pub header_fits : Head → List ℕ → Bool
header_fits h b = also (leb (get_or b 0 0) 2) (ltb (get_or b 1 0) h.slots)

-- an active's whole allowance
unfoldable pub whole_of : Head → ℕ
whole_of h = pick (ltb h.aout.0 h.ain.0) h.aout.0 h.ain.0

-- outputs, queues and picks pass, and then each active's spending has been counted
pub record Passed (pl : Plan) (b : List ℕ) (r : Bool) (spent : List ℕ) : Type 0 where
  pub test : r ≡ also (outputs_part pl b) (also (queues_part pl b) (picks_part pl b))
  pub count : r ≡ true → (a : ℕ) → a < A pl → get_or spent a 0 ≡ min 200 (total pl (spends a) (decode pl b))
