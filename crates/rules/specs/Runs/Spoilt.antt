-- Demand 2 speaks of any bytes, and 7 ties neither a tear-down to the entry that it frees nor a choice to the order in
-- which an output looks. So there are states that no list from Start reaches, and a rule can be wrong of them alone.
-- Each run here begins at such a state; `valid` judges each a state (`Runs.spoilt_states`).
use Rattle.std.specs.Prelude.{List, [], ◌∷◌}
use Rattle.packets.specs.declared.Kind.TheVariants.{Tdown}
use Rattle.packets.specs.declared.Entry.TheVariants.{Booked}
use Rattle.packets.specs.Answers.{done}
use Rattle.plan.specs.Plan.{Plan}
use Rattle.plan_queues.specs.Queue.{Q}
use Rattle.plan_queues.specs.Feeds.{of_side}
use Rattle.rules.specs.State.{State, sender, start, with_queue, with_credit, with_choice, with_entry}
use Rattle.rules.specs.Calls.{Call, read, execute, write}
use Rattle.rules.specs.Runs.Watch.{packet, joined, ran}
use Rattle.rules.specs.Runs.Turns.{both_wait}

-- ---- 'TDOWN: the entry is freed': whichever side it holds. Plan T, Start's state but for a TDOWN in Q[0] and its
-- entry, which is booked with side 2; its walk comes in by side 0
abbrev pub anothers_entry : Plan → State
anothers_entry pl =
    with_entry 0 1 0 (Booked 2)
    (with_queue (Q 0 0) (packet Tdown 0 0 0 1 ∷ []) (with_credit (Q 0 0) (record { 0 = 0 }) (start pl)))

-- ---- 'each picked head enters its wire': the one that is stored, whoever's turn it was. `Turns.two_in_turn` up to
-- round 6, after EXECUTE: answer F[1], of rank 1, and K[0,1], of rank 2, both wait, and K[0,1] is picked. Stored is
-- answer F[1]
abbrev pub in_round6 : Plan → State
in_round6 pl = (ran pl (joined both_wait) (record { answer = done; state = start pl })).state

abbrev pub other_stored : Plan → State
other_stored pl = with_choice (of_side 0 1) (sender 1) (in_round6 pl)

abbrev pub write_and_one_more : List (List Call)
write_and_one_more = (write ∷ []) ∷ (read ∷ []) ∷ (execute ∷ write ∷ []) ∷ []

-- ---- 'a router side picks nobody when its entry for the current slot is booked' is of EXECUTE; WRITE sends what is
-- stored. The same round, with that entry of side 1 booked behind the pick
abbrev pub booked_behind : Plan → State
booked_behind pl = with_entry 0 1 6 (Booked 0) (in_round6 pl)
