-- A list of calls on bytes runs as the rules do: along it the bytes are those of the rules' states, with the same
-- bytes past them.
use Rattle.std.specs.Prelude.{Ok}
use mathlib.Core.Path.{◌≡◌, refl, sym, ap, ap₂, ◌∙◌}
use mathlib.Core.Bool.{Bool, true, false}
use mathlib.Core.List.{List, [], ◌∷◌}
use Prim.Native.Nat.{ℕ, ◌+◌, ◌≤◌}
use native.Mathlib.Omega.{arith}
use lib.Dec.{ltb}
use lib.ListN.{length}
use borrow.Author.Tests.{le-ltb}
use Rattle.basis.specs.Choice.{pick}
use Rattle.kinds.specs.declared.Refusal.TheVariants.{NotState}
use Rattle.packets.specs.declared.Answer.TheVariants.{Refused, Done}
use Rattle.plan.specs.declared.Head.{Head}
use Rattle.plan.specs.Plan.{plan_of}
use Rattle.load.specs.Load.{load_of}
use Rattle.rules.specs.State.{State, start}
use Rattle.rules.specs.Calls.{Call, call}
use Rattle.rules.specs.Connections.{Connection}
use Rattle.rules.specs.Accepted.{accept}
use Rattle.rules.specs.Progress.{ends_round}
use Rattle.rules.specs.Ruled.{Good, Ruled, ruled_after, accepted_after, rounds, launches_call, launches, accepts_call}
use Rattle.rules.specs.Ruled.{acceptances}
use Rattle.bytes_layout.specs.Rows.{past}
use Rattle.bytes_layout.specs.Offsets.{size}
use Rattle.bytes_layout.specs.Encode.{encode}
use Rattle.bytes_layout.specs.Decode.{decode}
use Rattle.bytes_layout.proofs.StateBytes.{past_encode}
use Rattle.claims.specs.Calls.{Given, given, on_state, start_on, call_on}
use Rattle.claims.specs.Demand3.{bytes_after, accepted_by, rounds_in, launches_in, acceptances_in}
use Rattle.claims.proofs.Exact.{accepted_wired, accepted_range, read_back, state_encode}

-- ---- one call, and Start, on a plan that Load accepts
module _ (p : List ℕ) (h : Head) (loads : load_of p ≡ Ok h) where
  -- what is read from a good state's bytes is that state
  pub decode_good : (s : State) (rest : List ℕ) → Good (plan_of p) s → decode (plan_of p) (encode (plan_of p) s rest) ≡
      s
  decode_good = read_back (plan_of p) (accepted_wired p h loads) (accepted_range p h loads)

  -- a call on a good state's bytes gives the rule's answer and the bytes of the rule's state; those past them stay
  pub on_encode : (c : Call) (s : State) (rest : List ℕ) → Good (plan_of p) s
      → call_on p c (encode (plan_of p) s rest) ≡ given (call (plan_of p) c s).answer
      (encode (plan_of p) (call (plan_of p) c s).state rest)
  unfolding call_on on_state
  on_encode c s rest g =
      rw (
        loads,
        state_encode (plan_of p) (accepted_wired p h loads) (accepted_range p h loads) s rest g,
        decode_good s rest g,
        past_encode (plan_of p) s rest,
      )

  abbrev started : Bool → List ℕ → Given
  started t buffer = pick t (given (Refused NotState) buffer)
      (given Done (encode (plan_of p) (start (plan_of p)) (past (size (plan_of p)) buffer)))

  start_on_lem : (buffer : List ℕ) → start_on p buffer ≡ started (ltb (length buffer) (size (plan_of p))) buffer
  unfolding start_on
  start_on_lem buffer = rw loads

  started_encode : (t : Bool) (buffer : List ℕ) → (started t buffer).answer ≡ Done
      → (started t buffer).bytes ≡ encode (plan_of p) (start (plan_of p)) (past (size (plan_of p)) buffer)
  started_encode true buffer e = let z : ◌≡◌ {A = ℕ} 0 1 = cc in absurd (omega arith)
  started_encode false buffer e = refl

  -- an accepted Start leaves the bytes of the start state; those past them stay
  pub start_encode : (buffer : List ℕ) → (start_on p buffer).answer ≡ Done
      → (start_on p buffer).bytes ≡ encode (plan_of p) (start (plan_of p)) (past (size (plan_of p)) buffer)
  start_encode buffer e =
      ap (λ (x : Given). x.bytes) (start_on_lem buffer)
      ∙ started_encode (ltb (length buffer) (size (plan_of p))) buffer
      (sym (ap (λ (x : Given). x.answer) (start_on_lem buffer)) ∙ e)

  -- and Start is accepted in every buffer that is long enough
  pub start_done : (buffer : List ℕ) → size (plan_of p) ≤ length buffer → (start_on p buffer).answer ≡ Done
  unfolding start_on
  start_done buffer l = rw (loads, le-ltb (length buffer) (size (plan_of p)) l)

-- ---- a list of calls, from a state that is one of those that the rules keep good
module _ (p : List ℕ) (h : Head) (loads : load_of p ≡ Ok h) (ruled : Ruled (plan_of p)) where
  -- every state along the list is one of them
  pub reached_after : (cs : List Call) (s : State) → ruled.Reached s → ruled.Reached (ruled_after (plan_of p) cs s)
  reached_after [] s g = g
  reached_after (c ∷ cs) s g = reached_after cs (call (plan_of p) c s).state (ruled.keeps c s g)

  -- and good
  pub good_after : (cs : List Call) (s : State) → ruled.Reached s → Good (plan_of p) (ruled_after (plan_of p) cs s)
  good_after cs s g = ruled.good (ruled_after (plan_of p) cs s) (reached_after cs s g)

  -- the bytes after the calls are those of the rules' state
  pub run_encode : (cs : List Call) (s : State) (rest : List ℕ) → ruled.Reached s
      → bytes_after p cs (encode (plan_of p) s rest) ≡ encode (plan_of p) (ruled_after (plan_of p) cs s) rest
  run_encode [] s rest g = refl
  run_encode (c ∷ cs) s rest g =
      ap (λ (x : Given). bytes_after p cs x.bytes) (on_encode p h loads c s rest (ruled.good s g))
      ∙ run_encode cs (call (plan_of p) c s).state rest (ruled.keeps c s g)

  -- the connections accepted are the rules'
  pub accepted_encode : (cs : List Call) (s : State) (rest : List ℕ) (acc : List Connection) → ruled.Reached s
      → accepted_by p cs (encode (plan_of p) s rest) acc ≡ accepted_after (plan_of p) cs s acc
  accepted_encode [] s rest acc g = refl
  accepted_encode (c ∷ cs) s rest acc g =
      ap₂ (λ (x : Given) (t : State). accepted_by p cs x.bytes (accept (plan_of p) c t x.answer acc))
      (on_encode p h loads c s rest (ruled.good s g)) (decode_good p h loads s rest (ruled.good s g))
      ∙ accepted_encode cs (call (plan_of p) c s).state rest (accept (plan_of p) c s (call (plan_of p) c s).answer acc)
      (ruled.keeps c s g)

  -- the whole rounds are the rules'
  pub rounds_encode : (cs : List Call) (s : State) (rest : List ℕ) → ruled.Reached s
      → rounds_in p cs (encode (plan_of p) s rest) ≡ rounds (plan_of p) cs s
  rounds_encode [] s rest g = refl
  rounds_encode (c ∷ cs) s rest g =
      ap (λ (x : Given). ends_round c x.answer + rounds_in p cs x.bytes)
      (on_encode p h loads c s rest (ruled.good s g))
      ∙ ap (λ (n : ℕ). ends_round c (call (plan_of p) c s).answer + n)
      (rounds_encode cs (call (plan_of p) c s).state rest (ruled.keeps c s g))

  -- the accepted Launches of a triple are the rules'
  pub launches_encode : (d : Connection) (cs : List Call) (s : State) (rest : List ℕ) → ruled.Reached s
      → launches_in p d cs (encode (plan_of p) s rest) ≡ launches (plan_of p) d cs s
  launches_encode d [] s rest g = refl
  launches_encode d (c ∷ cs) s rest g =
      ap (λ (x : Given). launches_call d c x.answer + launches_in p d cs x.bytes)
      (on_encode p h loads c s rest (ruled.good s g))
      ∙ ap (λ (n : ℕ). launches_call d c (call (plan_of p) c s).answer + n)
      (launches_encode d cs (call (plan_of p) c s).state rest (ruled.keeps c s g))

  -- the Drops that accepted a triple are the rules'
  pub acceptances_encode : (d : Connection) (cs : List Call) (s : State) (rest : List ℕ) → ruled.Reached s
      → acceptances_in p d cs (encode (plan_of p) s rest) ≡ acceptances (plan_of p) d cs s
  acceptances_encode d [] s rest g = refl
  acceptances_encode d (c ∷ cs) s rest g =
      ap₂ (λ (x : Given) (t : State). accepts_call (plan_of p) d c t x.answer + acceptances_in p d cs x.bytes)
      (on_encode p h loads c s rest (ruled.good s g)) (decode_good p h loads s rest (ruled.good s g))
      ∙ ap (λ (n : ℕ). accepts_call (plan_of p) d c s (call (plan_of p) c s).answer + n)
      (acceptances_encode d cs (call (plan_of p) c s).state rest (ruled.keeps c s g))
