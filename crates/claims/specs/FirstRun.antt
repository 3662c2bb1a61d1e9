-- Demand 3 used: document 01's first starred run on plan T, 'Launch (0,0,0) in round 0 .. consumed in round 7 with
-- slot 1, hub 1' (looked at and dropped, from document 02 (c) on), by the calls on 1,635 bytes that an accepted Start
-- left, and then an Entry for each entry of the table.
use Rattle.std.specs.Prelude.{◌≡◌, List, [], ◌∷◌, ◌++◌, ℕ, length, replicate}
use Rattle.packets.specs.declared.Answer.TheVariants.{Done}
use Rattle.packets.specs.Answers.{Value, done, shows, holds, value_of}
use Rattle.plan.specs.Samples.{plan_t}
use Rattle.rules.specs.Calls.{Call, entry}
use Rattle.rules.specs.Runs.FirstBookings.{launch_in_round0, ack}
use Rattle.claims.specs.Calls.{start_on, call_on}

-- the answers of the calls, each on the bytes that the last one left
abbrev pub answers_in : List ℕ → List Call → List ℕ → List Value
answers_in p [] b = []
answers_in p (c ∷ cs) b = value_of (call_on p c b).answer ∷ answers_in p cs (call_on p c b).bytes

-- both slots of each of the four sides
abbrev pub all_entries : List Call
all_entries =
    entry 0 0 0 ∷ entry 0 0 1 ∷ entry 0 1 0 ∷ entry 0 1 1 ∷ entry 0 2 0 ∷ entry 0 2 1 ∷ entry 0 3 0 ∷ entry 0 3 1 ∷ []

-- 25 calls that only say that they are done, the ACK that Look shows, its Drop, then the table: one entry is booked,
-- with side 0
abbrev pub first_answers : List Value
first_answers =
    replicate 25 done
    ++ (shows ack ∷ done ∷ holds 4 ∷ holds 4 ∷ holds 0 ∷ holds 4 ∷ holds 4 ∷ holds 4 ∷ holds 4 ∷ holds 4 ∷ [])

abbrev pub FirstRun : Type 0
FirstRun =
    (buffer : List ℕ) → length buffer ≡ 1635
    → ((start_on plan_t buffer).answer ≡ Done)
    × (answers_in plan_t (launch_in_round0 ++ all_entries) (start_on plan_t buffer).bytes ≡ first_answers)
