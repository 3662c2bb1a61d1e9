-- The supposition of document 02 (n) can be met: a program that in each WRITE asks every passive to reply and every
-- active to drop waits, from every state, with any choices.
use Rattle.std.specs.Prelude.{◌≡◌, List, [], ◌∷◌, ◌++◌, ℕ, zero, suc, ◌≤◌}
use Rattle.packets.specs.declared.Phase.TheVariants.{Read}
use Rattle.plan.specs.Plan.{Plan, A, P}
use Rattle.rules.specs.State.{State}
use Rattle.rules.specs.Calls.{Call, read, execute, write, reply, drop}
use Rattle.rules.specs.Ruled.{rounds}
use Rattle.theory_drain.specs.Waits.{of_rules, ProgramWaits}

-- a Reply of each of n passives from i on, with the choice that c gives
abbrev pub replies_from : (ℕ → ℕ) → ℕ → ℕ → List Call
replies_from c i zero = []
replies_from c i (suc n) = reply i (c i) ∷ replies_from c (suc i) n

-- a Drop of each of n actives from i on
abbrev pub drops_from : ℕ → ℕ → List Call
drops_from i zero = []
drops_from i (suc n) = drop i ∷ drops_from (suc i) n

abbrev pub waiting_round : Plan → (ℕ → ℕ) → List Call
waiting_round pl c = read ∷ execute ∷ (replies_from c 0 (P pl) ++ (drops_from 0 (A pl) ++ (write ∷ [])))

-- n rounds, each with its own choices
abbrev pub waiting_rounds : Plan → (ℕ → ℕ → ℕ) → ℕ → List Call
waiting_rounds pl c zero = []
waiting_rounds pl c (suc n) = waiting_round pl (c n) ++ waiting_rounds pl c n

abbrev pub CanWait : Plan → Type 0
CanWait pl =
    (s : State) → s.clock.phase ≡ Read → (c : ℕ → ℕ → ℕ) → ((n p : ℕ) → c n p ≤ 1) → (n : ℕ)
    → ProgramWaits (of_rules pl) (waiting_rounds pl c n) s × (rounds pl (waiting_rounds pl c n) s ≡ n)
