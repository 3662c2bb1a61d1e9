-- Document 02 (n) of the rules, from every valid state, reached or not: 'With N packets .. then in queues, wires ..,
-- the network is empty after at most 256 × S × N rounds.' After that many rounds and after any more; where N is 0, at
-- once.
use Rattle.std.specs.Prelude.{◌≡◌, List, ℕ, ◌*◌, ◌≤◌}
use Rattle.packets.specs.declared.Phase.TheVariants.{Read}
use Rattle.plan.specs.Plan.{Plan, S}
use Rattle.rules.specs.State.{State}
use Rattle.rules.specs.Remaining.{packets, enough}
use Rattle.rules.specs.Calls.{Call}
use Rattle.rules.specs.Progress.{Quiet}
use Rattle.rules.specs.Ruled.{ruled_after, rounds, Good}
use Rattle.theory_drain.specs.Waits.{of_rules, ProgramWaits}

-- a program that waits from a READ on finds the network empty once it has made so many rounds
abbrev pub EmptyAfter : (ℕ → ℕ → ℕ) → Plan → Type 0
EmptyAfter bound pl =
    (s : State) → Good pl s → s.clock.phase ≡ Read → (cs : List Call) → ProgramWaits (of_rules pl) cs s
    → bound (S pl) (packets pl s) ≤ rounds pl cs s → Quiet pl (ruled_after pl cs s)

-- '256 × S × N'
abbrev pub EmptyBy : Plan → Type 0
EmptyBy pl = EmptyAfter enough pl

-- a packet has at most 133 steps before it (specs/Left), and in S rounds one is made
abbrev pub sooner : ℕ → ℕ → ℕ
sooner slots n = 133 * slots * n

abbrev pub EmptySooner : Plan → Type 0
EmptySooner pl = EmptyAfter sooner pl
