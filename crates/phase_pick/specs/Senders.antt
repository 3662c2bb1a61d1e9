-- The senders of an output by their numbers: they stand one behind the other.
use Rattle.std.specs.Prelude.{◌≡◌, Bool, List, [], ◌∷◌, ℕ, zero, suc, ◌+◌, ◌≤◌, ◌<◌}
use Rattle.plan.specs.Plan.{Plan}
use Rattle.plan_queues.specs.Queue.{Queue, queues, queue_at}
use Rattle.plan_queues.specs.Role.{is_unit}
use Rattle.rules.specs.Outputs.{outputs, output_at, senders}

-- the queues of the c numbers from n on
unfoldable pub named : Plan → ℕ → ℕ → List Queue
named pl n zero = []
named pl n (suc c) = queue_at pl n ∷ named pl (suc n) c

-- the senders of output m are the c queues from number n on; all of them are at units, or none
pub record Sends (pl : Plan) (m n c : ℕ) (unit : Bool) : Type 0 where
  pub drives : m < outputs pl
  pub few : n + c ≤ queues pl
  pub are : senders (output_at pl m) ≡ named pl n c
  pub units : (k : ℕ) → k < c → is_unit (queue_at pl (n + k)) ≡ unit
