-- Document 02 (n): 'Before a wash the arm program stops launching, closing .. and waits. .. With N packets .. then in
-- queues, wires .., the network is empty after at most 256 × S × N rounds.' Each run is one list of calls and one
-- theorem that evaluates it, on plan T: 512 rounds for each packet. In every WRITE the passive is asked to reply and
-- the active to drop; where it cannot, that is refused. At each round's end Remaining tells what is left.
use Rattle.std.specs.Prelude.{List, [], ◌∷◌, ◌++◌, ℕ}
use Rattle.rules.specs.State.{State}
use Rattle.rules.specs.Calls.{Call, read, execute, write, launch, reply, drop, remaining}
use Rattle.rules.specs.Runs.Watch.{entry_in, After, after}
use Rattle.packets.specs.Answers.{Value, refused, done}

-- a round in which both are asked; the passive accepts (1) or declines (0)
abbrev pub asked : ℕ → List Call
asked choice = read ∷ execute ∷ reply 0 choice ∷ drop 0 ∷ write ∷ remaining ∷ []

-- the entry of the router's side 1 for slot 0
abbrev pub entry0 : State → List ℕ
entry0 s = entry_in s 0 1 0 ∷ []

-- such a round: the entry after Read, and from Execute on; what the Reply, the Drop and the Remaining answer
abbrev pub waited : ℕ → ℕ → Value → Value → Value → List After
waited before then replied dropped left =
    after done (before ∷ []) [] ∷ after done (then ∷ []) [] ∷ after replied (then ∷ []) []
    ∷ after dropped (then ∷ []) [] ∷ after done (then ∷ []) [] ∷ after left (then ∷ []) [] ∷ []

-- neither can: no packet has come
abbrev pub neither : ℕ → ℕ → Value → List After
neither before then left = waited before then (refused 13) (refused 13) left

-- ---- nothing is there: no round need be waited, told in every phase
abbrev pub nothing_left : List Call
nothing_left = remaining ∷ read ∷ remaining ∷ execute ∷ remaining ∷ write ∷ remaining ∷ []

-- ---- one set-up, accepted: 512 rounds are promised, 8 are needed
abbrev pub waited_out : List Call
waited_out =
    launch 0 0 0 ∷ remaining ∷ []
    ++ asked 1 ++ asked 1 ++ asked 1 ++ asked 1 ++ asked 1 ++ asked 1 ++ asked 1 ++ asked 1 ++ asked 1

-- ---- one set-up, declined: it takes the tear-down too, which is a second packet once the NACK is marked
abbrev pub declined_out : List Call
declined_out =
    launch 0 0 0 ∷ remaining ∷ []
    ++ asked 0 ++ asked 0 ++ asked 0 ++ asked 0 ++ asked 0 ++ asked 0 ++ asked 0
    -- round 7, with a Remaining after Execute
    ++ read ∷ execute ∷ remaining ∷ reply 0 0 ∷ drop 0 ∷ write ∷ remaining ∷ []
    ++ asked 0 ++ asked 0 ++ asked 0 ++ asked 0
