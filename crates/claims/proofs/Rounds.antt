-- 'A whole round is one accepted Read, Execute and Write': to count the accepted Writes is to count whole rounds. An
-- accepted Read goes from READ to EXECUTE, an accepted Execute on to WRITE, an accepted Write back to READ, and every
-- other call keeps the phase.
use mathlib.Core.Path.{◌≡◌, refl, subst}
use mathlib.Core.List.{List, [], ◌∷◌}
use Prim.Native.Nat.{ℕ, ◌+◌, ◌≤◌}
use native.Mathlib.Omega.{arith}
use Rattle.packets.specs.declared.Phase.{Phase}
use Rattle.packets.specs.declared.Phase.TheVariants.{Read, Execute, Write}
use Rattle.packets.specs.declared.Answer.TheVariants.{Done}
use Rattle.plan.specs.Plan.{Plan}
use Rattle.rules.specs.State.{State, join}
use Rattle.rules.specs.Read.{do_read}
use Rattle.rules.specs.Execute.{do_execute}
use Rattle.rules.specs.Write.{do_write}
use Rattle.rules.specs.Visits.{launched, removed, closed}
use Rattle.rules.specs.Calls.{Visit, Call, turn, Outcome, gives, phase_step, call}
use Rattle.theory.specs.Does.{Visited, launches, replies, looks, drops, closes, tells, counts, Does, refuses, turns}
use Rattle.theory.specs.Does.{visits}
use Rattle.rules.specs.Progress.{turns_call}
use Rattle.rules.specs.Ruled.{ruled_after, rounds}
use Rattle.theory.proofs.Does.{call_does, refused_turns}
use Rattle.theory.proofs.Cases.{noted_keeps}

-- ---- accepted calls of a phase in a list; `rounds` counts the Writes
abbrev pub turns_in : Plan → Phase → List Call → State → ℕ
turns_in pl x [] s = 0
turns_in pl x (c ∷ cs) s = turns_call x c (call pl c s).answer + turns_in pl x cs (call pl c s).state

-- ---- the part of a round that is behind a phase: a Read from EXECUTE on, an Execute in WRITE
abbrev pub read_behind : Phase → ℕ
read_behind Read = 0
read_behind Execute = 1
read_behind Write = 1

abbrev pub execute_behind : Phase → ℕ
execute_behind Read = 0
execute_behind Execute = 0
execute_behind Write = 1

-- ---- one call
-- what the call counts, and the phases before and after it
pub record Turns (x : Phase) (reads executes writes : ℕ) (y : Phase) : Type 0 where
  pub read_turn : reads + read_behind x ≡ writes + read_behind y
  pub execute_turn : executes + execute_behind x ≡ writes + execute_behind y

abbrev pub TurnsBy : Call → Phase → Outcome → Type 0
TurnsBy c x o = Turns x (turns_call Read c o.answer) (turns_call Execute c o.answer)
    (turns_call Write c o.answer) o.state.clock.phase

-- where nothing is counted the phase is kept
still : (x y : Phase) → y ≡ x → Turns x 0 0 0 y
still x y e = rw e (record { read_turn = refl; execute_turn = refl })

module _ (pl : Plan) (s : State) where
  phase_turn : (x : Phase) → s.clock.phase ≡ x → TurnsBy (turn x) s.clock.phase (gives Done (phase_step pl x s))
  unfolding do_read do_execute do_write
  phase_turn Read e = rw e (record { read_turn = refl; execute_turn = refl })
  phase_turn Execute e = rw e (record { read_turn = refl; execute_turn = refl })
  phase_turn Write e = rw e (record { read_turn = refl; execute_turn = refl })

  visit_phase : (v : Visit) (o : Outcome) → Visited pl s v o → o.state.clock.phase ≡ s.clock.phase
  unfolding launched join removed closed
  visit_phase v o (launches a p t m) = refl
  visit_phase v o (replies p c x rest m) = refl
  visit_phase v o (looks a x rest m) = refl
  visit_phase v o (drops a x rest m) =
      noted_keeps pl x (removed a rest s) (λ t. t.clock.phase ≡ s.clock.phase) (λ e. refl) refl
  visit_phase v o (closes a p t m) = refl
  visit_phase v o (tells r q t m) = refl
  visit_phase v o counts = refl

  does_turn : (c : Call) (o : Outcome) → Does pl s c o → TurnsBy c s.clock.phase o
  does_turn c o (refuses d w n) = rw (refused_turns Read d w, refused_turns Execute d w, refused_turns Write d w)
      (still s.clock.phase s.clock.phase refl)
  does_turn c o (turns x e) = phase_turn x e
  does_turn c o (visits v r d) = still s.clock.phase r.state.clock.phase (visit_phase v r d)

  -- every call turns the phase by what it counts, and not otherwise
  pub call_turn : (c : Call) → TurnsBy c s.clock.phase (call pl c s)
  call_turn c = does_turn c (call pl c s) (call_does pl s c)

-- ---- a list of calls
-- from any state: what is counted is as many rounds, but for the part of a round behind the first phase and behind the
-- last
pub list_turn : (pl : Plan) (cs : List Call) (s : State) → Turns s.clock.phase (turns_in pl Read cs s)
    (turns_in pl Execute cs s) (rounds pl cs s) (ruled_after pl cs s).clock.phase
list_turn pl [] s = still s.clock.phase s.clock.phase refl
list_turn pl (c ∷ cs) s =
    let a = call_turn pl s c in
    let b = list_turn pl cs (call pl c s).state in
    let ar = a.read_turn in let ae = a.execute_turn in let br = b.read_turn in let be = b.execute_turn in
    record { read_turn = omega arith; execute_turn = omega arith }

behind_few : (x : Phase) → (execute_behind x ≤ read_behind x) × (read_behind x ≤ 1)
behind_few Read = (omega arith, omega arith)
behind_few Execute = (omega arith, omega arith)
behind_few Write = (omega arith, omega arith)

-- a list from READ has no part of a round behind it
from_read : (pl : Plan) (cs : List Call) (s : State) → s.clock.phase ≡ Read
    → Turns Read (turns_in pl Read cs s) (turns_in pl Execute cs s) (rounds pl cs s) (ruled_after pl cs s).clock.phase
from_read pl cs s e = subst (λ (x : Phase). Turns x (turns_in pl Read cs s) (turns_in pl Execute cs s) (rounds pl cs s)
    (ruled_after pl cs s).clock.phase) e (list_turn pl cs s)

-- from READ there are never fewer Executes than Writes, nor fewer Reads than Executes, and at most one Read more than
-- Writes
pub rounds_between : (pl : Plan) (cs : List Call) (s : State) → s.clock.phase ≡ Read
    → (rounds pl cs s ≤ turns_in pl Execute cs s) × (turns_in pl Execute cs s ≤ turns_in pl Read cs s)
    × (turns_in pl Read cs s ≤ rounds pl cs s + 1)
rounds_between pl cs s e =
    let t = from_read pl cs s e in
    let r = t.read_turn in
    let x = t.execute_turn in
    let f = behind_few (ruled_after pl cs s).clock.phase in
    let f0 = f.0 in
    let f1 = f.1 in
    (omega arith, omega arith, omega arith)

-- from READ to READ there are as many Reads, Executes and Writes: whole rounds
pub rounds_whole : (pl : Plan) (cs : List Call) (s : State) → s.clock.phase ≡ Read
    → (ruled_after pl cs s).clock.phase ≡ Read
    → (turns_in pl Read cs s ≡ rounds pl cs s) × (turns_in pl Execute cs s ≡ rounds pl cs s)
rounds_whole pl cs s e f =
    let t = from_read pl cs s e in let r = t.read_turn in let x = t.execute_turn in
    let b : read_behind (ruled_after pl cs s).clock.phase ≡ 0 = rw f in
    let d : execute_behind (ruled_after pl cs s).clock.phase ≡ 0 = rw f in
    (omega arith, omega arith)
