-- Document 02 (n), 'Empty by a known round', of the calls on bytes: plan bytes that Load accepts, the bytes that an
-- accepted Start left, any calls, and from some READ on a program that waits. 'With N packets .. the network is empty
-- after at most 256 × S × N rounds. .. After that many rounds the table is the accepted connections' own.'
use Rattle.std.specs.Prelude.{◌≡◌, List, [], ◌++◌, ℕ, ◌≤◌}
use Rattle.std.specs.Prelude.{Ok}
use Rattle.packets.specs.declared.Phase.TheVariants.{Read}
use Rattle.packets.specs.declared.Remaining.{Remaining}
use Rattle.packets.specs.declared.Answer.TheVariants.{Done, Remains}
use Rattle.plan.specs.declared.Head.{Head}
use Rattle.plan.specs.Plan.{plan_of, S}
use Rattle.load.specs.Load.{load_of}
use Rattle.rules.specs.Remaining.{packets, enough}
use Rattle.rules.specs.Calls.{Call, remaining}
use Rattle.rules.specs.Connections.{MadeBy}
use Rattle.rules.specs.Progress.{Quiet}
use Rattle.claims.specs.Calls.{call_on, start_on}
use Rattle.claims.specs.Demand3.{bytes_after, state_of, accepted_by, rounds_in}
use Rattle.theory_drain.specs.Waits.{View, ProgramWaits}

-- the calls on bytes, with these plan bytes
abbrev pub on_bytes : List ℕ → View (List ℕ)
on_bytes p = record { answer = λ c b. (call_on p c b).answer; next = λ c b. (call_on p c b).bytes }

-- the bytes with which it begins to wait
abbrev pub wash_bytes : List ℕ → List ℕ → List Call → List ℕ
wash_bytes p buffer before = bytes_after p before (start_on p buffer).bytes

-- plan and buffer of an accepted Start, the calls before the wash, and those of the program that waits
pub record Wash (p buffer : List ℕ) (before during : List Call) : Type 0 where
  pub head : Head
  pub loads : load_of p ≡ Ok head
  pub started : (start_on p buffer).answer ≡ Done
  -- 'from some READ on'
  pub reads : (state_of p (wash_bytes p buffer before)).clock.phase ≡ Read
  pub waits : ProgramWaits (on_bytes p) during (wash_bytes p buffer before)

-- the network is empty, and the table is the accepted connections' own
pub record Emptied (p buffer : List ℕ) (before during : List Call) : Type 0 where
  pub quiet : Quiet (plan_of p) (state_of p (bytes_after p during (wash_bytes p buffer before)))
  pub table : MadeBy (plan_of p) (accepted_by p (before ++ during) (start_on p buffer).bytes [])
      (state_of p (bytes_after p during (wash_bytes p buffer before))).table

-- 'after at most 256 × S × N rounds'
abbrev pub EmptyByOnBytes : Type 0
EmptyByOnBytes =
    (p buffer : List ℕ) (before during : List Call) → Wash p buffer before during
    → enough (S (plan_of p)) (packets (plan_of p) (state_of p (wash_bytes p buffer before)))
    ≤ rounds_in p during (wash_bytes p buffer before) → Emptied p buffer before during

-- the round is known to the arm program: it is what a Remaining answered then
abbrev pub KnownRound : Type 0
KnownRound =
    (p buffer : List ℕ) (before during : List Call) (n : Remaining) → Wash p buffer before during
    → (call_on p remaining (wash_bytes p buffer before)).answer ≡ Remains n
    → n.rounds ≤ rounds_in p during (wash_bytes p buffer before) → Emptied p buffer before during
