-- '**Entry** (router, side, slot): 9. Else the entry, 4 for free': asked in each phase, for free entries, for entries
-- booked from each side, and out of range. One list of calls and one theorem that evaluates it.
use Rattle.std.specs.Prelude.{List, [], ◌∷◌, ◌++◌, ℕ}
use Rattle.rules.specs.State.{State}
use Rattle.rules.specs.Calls.{Call, read, execute, write, launch, entry}
use Rattle.rules.specs.Runs.Watch.{many_rounds, slot_in}

-- active 0 comes in to router 0 by side 0, active 1 by side 1, active 2 to router 1 by side 2 and then to router 0 by
-- side 3. All go to passive 0, at side 2 of router 0
abbrev pub asking : List (List Call)
asking =
    -- round 0, in READ
    (entry 0 2 0 ∷ [])
    ∷ (entry 2 2 0 ∷ [])
    ∷ (entry 0 4 0 ∷ [])
    ∷ (entry 0 2 4 ∷ [])
    -- rounds 0 and 1; round 2, in EXECUTE
    ∷ (launch 0 0 0 ∷ launch 1 0 1 ∷ launch 2 0 1 ∷ many_rounds 2 ++ read ∷ entry 0 2 0 ∷ [])
    ∷ (entry 2 2 0 ∷ [])
    -- round 2, in WRITE
    ∷ (execute ∷ entry 0 2 0 ∷ [])
    ∷ (entry 1 3 1 ∷ [])
    ∷ (entry 0 2 1 ∷ [])
    ∷ (entry 0 4 1 ∷ [])
    -- rounds 3 to 6; round 7, in READ
    ∷ (write ∷ many_rounds 4 ++ entry 0 2 0 ∷ [])
    ∷ (entry 0 2 1 ∷ [])
    ∷ (entry 0 2 2 ∷ [])
    ∷ (entry 0 2 3 ∷ [])
    ∷ (entry 1 3 2 ∷ [])
    ∷ (entry 1 2 2 ∷ [])
    ∷ (entry 0 2 4 ∷ [])
    ∷ []

-- the current slot: no Entry changes it
abbrev pub current_slot : State → List ℕ
current_slot s = slot_in s ∷ []
