-- What holds of a state while its outputs pick, and what a reading of its bytes tells.
use Rattle.std.specs.Prelude.{◌≡◌, ◌≢◌, Bool, true, false, List, [], ℕ, ◌+◌, ◌*◌, ◌≤◌, ◌<◌, drop}
use Rattle.basis.specs.Fold.{up_to}
use Rattle.plan.specs.Plan.{Plan}
use Rattle.plan_queues.specs.Queue.{queue_at}
use Rattle.rules.specs.Outputs.{outputs, output_at, senders}
use Rattle.rules.specs.State.{State, nobody}
use Rattle.rules.specs.Execute.{may_leave, candidate, is_open, first_of, next_of, choose}
use Rattle.theory.specs.Invariant.{Core}
use Rattle.bytes_layout.specs.Codes.{choice_code}
use Rattle.bytes_layout.specs.Encode.{encode}

-- of states of which I holds, x is what f is of each whose bytes are b
pub record Tells {X : Type 0} (pl : Plan) (I : State → Type 0) (f : State → X) (b : List ℕ) (x : X) : Type 0 where
  pub told : (s : State) (rest : List ℕ) → I s → b ≡ encode pl s rest → x ≡ f s

-- the pick of output n
abbrev pub chooses : Plan → ℕ → State → State
chooses pl n = choose pl (output_at pl n)

-- the picks of k outputs from n on
unfoldable pub chooses_from : Plan → ℕ → ℕ → State → State
chooses_from pl n k s = up_to (λ i. chooses pl (n + i)) k s

-- the picks of router r's six outputs, the first router's beginning at n
unfoldable pub chooses_at : Plan → ℕ → ℕ → State → State
chooses_at pl n r s = chooses_from pl (n + 6 * r) 6 s

-- the outputs below n have picked: the others have no choice
pub record Picks (pl : Plan) (n : ℕ) (s : State) : Type 0 where
  pub core : Core pl s
  pub choices : (m : ℕ) → n ≤ m → m < outputs pl → s.links.choice (output_at pl m) ≡ nobody

-- queue n has a head, which may leave
pub record Leaves (pl : Plan) (n : ℕ) (s : State) : Type 0 where
  pub core : Core pl s
  pub some : s.lines.queue (queue_at pl n) ≢ []
  pub may : may_leave s (queue_at pl n) ≡ true

-- output n is open
pub record Open (pl : Plan) (n : ℕ) (s : State) : Type 0 where
  pub picks : Picks pl n s
  pub opens : is_open s (output_at pl n) ≡ true

-- the first candidate of rank i or more, as a byte
abbrev pub first_code : Plan → ℕ → ℕ → State → ℕ
first_code pl m i s = choice_code (first_of (candidate pl s (output_at pl m)) i (drop i (senders (output_at pl m))))

-- what is picked if the output is open, as a byte
abbrev pub turn_code : Plan → ℕ → State → ℕ
turn_code pl m s =
    choice_code (next_of (candidate pl s (output_at pl m)) (s.last_sender (output_at pl m)) (senders (output_at pl m)))

-- is queue n a candidate at output m?
abbrev pub is_candidate : Plan → ℕ → ℕ → State → Bool
is_candidate pl m n s = candidate pl s (output_at pl m) (queue_at pl n)

-- of the queues from n on, none from the i-th on below the k-th is one
pub record Passed (pl : Plan) (m n i k : ℕ) (b : List ℕ) : Type 0 where
  pub passed : (s : State) (rest : List ℕ) → Core pl s → b ≡ encode pl s rest → (j : ℕ) → i ≤ j → j < k
      → is_candidate pl m (n + j) s ≡ false
