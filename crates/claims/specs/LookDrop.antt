-- Document 02 (c), 'Look before dropping', of the calls on bytes: plan bytes that Load accepts, any state bytes at all,
-- and any list of calls within the phase, each on the bytes as the last one left them. Bytes that are no state's are
-- refused 7, so no Drop is accepted on them.
use Rattle.std.specs.Prelude.{◌≡◌, true, List, [], ◌∷◌, ℕ}
use Rattle.std.specs.Prelude.{Ok}
use Rattle.packets.specs.declared.Packet.{Packet}
use Rattle.packets.specs.declared.Answer.TheVariants.{Done, Shows}
use Rattle.plan.specs.declared.Head.{Head}
use Rattle.plan.specs.Plan.{plan_of}
use Rattle.load.specs.Load.{load_of}
use Rattle.rules.specs.Calls.{Call, look, drop}
use Rattle.rules.specs.LookDrop.{NoDrop, Removes}
use Rattle.claims.specs.Calls.{is_state, call_on}
use Rattle.claims.specs.Demand3.{bytes_after, state_of}

-- 'within the phase': after each call of the list the phase is as it was before it
abbrev pub WithinPhaseOn : List ℕ → List Call → List ℕ → Type 0
WithinPhaseOn p [] b = record {}
WithinPhaseOn p (c ∷ cs) b =
    ((state_of p (call_on p c b).bytes).clock.phase ≡ (state_of p b).clock.phase)
    × WithinPhaseOn p cs (call_on p c b).bytes

-- an accepted Drop, and a Look any calls before it within the phase: it gave the packet that the Drop removed
abbrev pub LookBeforeDropOnBytes : Type 0
LookBeforeDropOnBytes =
    (p b : List ℕ) (h : Head) → load_of p ≡ Ok h → (a : ℕ) (between : List Call) → WithinPhaseOn p between b
    → (call_on p (drop a) (bytes_after p between b)).answer ≡ Done
    → (x : Packet) × ((call_on p (look a) b).answer ≡ Shows x)
    × Removes (plan_of p) a x (state_of p (bytes_after p between b))
    (state_of p (call_on p (drop a) (bytes_after p between b)).bytes)

-- two Looks within the phase, and no Drop of that active between them: they give the same. The bytes at the second one
-- are a state's, as from Start they always are (`Claim.state`)
abbrev pub LookStaysOnBytes : Type 0
LookStaysOnBytes =
    (p b : List ℕ) (h : Head) → load_of p ≡ Ok h → (a : ℕ) (between : List Call) → WithinPhaseOn p between b
    → NoDrop a between → is_state (plan_of p) (bytes_after p between b) ≡ true
    → (call_on p (look a) (bytes_after p between b)).answer ≡ (call_on p (look a) b).answer
