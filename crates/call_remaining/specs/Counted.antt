-- How many packets the bytes of a state hold.
use Rattle.std.specs.Prelude.{◌≡◌, List, ℕ, ◌+◌, ◌*◌, get_or}
use Rattle.plan.specs.declared.Head.{Head}
use Rattle.plan.specs.Plan.{Plan}
use Rattle.rules.specs.State.{State}
use Rattle.rules.specs.Valid.{sum}
use Rattle.rules.specs.Remaining.{packets}
use Rattle.rules.specs.Ruled.{Good}
use Rattle.bytes_layout.specs.Encode.{encode}

-- the sum of n bytes that stand so far apart
unfoldable pub apart : ℕ → ℕ → ℕ → List ℕ → ℕ
apart at width n b = sum n (λ k. get_or b (at + width * k) 0)

-- N, of every good state of which these are the bytes
pub record Counted (h : Head) (b : List ℕ) (n : ℕ) : Type 0 where
  pub is : (pl : Plan) → pl.head ≡ h → (s : State) (rest : List ℕ) → Good pl s → b ≡ encode pl s rest
      → n ≡ packets pl s
