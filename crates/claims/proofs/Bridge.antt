-- Demand 3 on bytes from demand 3 on the rules: along a list from an accepted Start the bytes are those of the rules'
-- states, all of them good.
use Rattle.std.specs.Prelude.{Ok}
use mathlib.Core.Path.{◌≡◌, refl, sym, ap, ◌∙◌, subst, subst⁻¹}
use mathlib.Core.Bool.{true}
use mathlib.Core.List.{List, []}
use Prim.Native.Nat.{ℕ, ◌≤◌}
use Rattle.packets.specs.declared.Answer.TheVariants.{Done}
use Rattle.plan.specs.declared.Head.{Head}
use Rattle.plan.specs.Plan.{plan_of, S}
use Rattle.load.specs.Load.{load_of}
use Rattle.rules.specs.State.{State, start}
use Rattle.rules.specs.Calls.{Call, call}
use Rattle.theory.proofs.Does.{call_does, refused_leaves}
use Rattle.rules.specs.Progress.{Within, Quiet, Waits}
use Rattle.rules.specs.Ruled.{Good, Ruled, Moves, ruled_after, rounds}
use Rattle.bytes_layout.specs.Rows.{past}
use Rattle.bytes_layout.specs.Offsets.{size}
use Rattle.bytes_layout.specs.Encode.{encode}
use Rattle.bytes_layout.specs.Decode.{decode}
use Rattle.claims.specs.Calls.{Given, is_state, call_on, start_on}
use Rattle.claims.specs.Demand3.{bytes_after, state_of, rounds_in, MovesIn, Claim, Demand3}
use Rattle.claims.proofs.Exact.{accepted_wired, accepted_range, state_encode}
use Rattle.claims.proofs.Run.{reached_after, decode_good, on_encode, start_encode, good_after, run_encode}
use Rattle.claims.proofs.Run.{accepted_encode, rounds_encode, launches_encode, acceptances_encode}

module _ (p : List ℕ) (h : Head) (loads : load_of p ≡ Ok h) (ruled : Ruled (plan_of p)) where
  -- ---- from the bytes of any state that the rules keep good
  -- the state read after the calls is the rules'
  pub state_after : (cs : List Call) (s : State) (rest : List ℕ) → ruled.Reached s
      → state_of p (bytes_after p cs (encode (plan_of p) s rest)) ≡ ruled_after (plan_of p) cs s
  state_after cs s rest g =
      ap (decode (plan_of p)) (run_encode p h loads ruled cs s rest g)
      ∙ decode_good p h loads (ruled_after (plan_of p) cs s) rest (good_after p h loads ruled cs s g)

  -- the call after them gives the rule's answer
  pub answer_after : (cs : List Call) (c : Call) (s : State) (rest : List ℕ) → ruled.Reached s
      → (call_on p c (bytes_after p cs (encode (plan_of p) s rest))).answer
      ≡ (call (plan_of p) c (ruled_after (plan_of p) cs s)).answer
  answer_after cs c s rest g =
      ap (λ (b : List ℕ). (call_on p c b).answer) (run_encode p h loads ruled cs s rest g)
      ∙ ap (λ (x : Given). x.answer)
      (on_encode p h loads c (ruled_after (plan_of p) cs s) rest (good_after p h loads ruled cs s g))

  -- and leaves bytes from which the rule's state is read
  pub called_after : (cs : List Call) (c : Call) (s : State) (rest : List ℕ) → ruled.Reached s
      → state_of p (call_on p c (bytes_after p cs (encode (plan_of p) s rest))).bytes
      ≡ (call (plan_of p) c (ruled_after (plan_of p) cs s)).state
  called_after cs c s rest g =
      let r : ruled.Reached (ruled_after (plan_of p) cs s) = reached_after p h loads ruled cs s g in
      let t : Good (plan_of p) (ruled_after (plan_of p) cs s) = good_after p h loads ruled cs s g in
      ap (λ (b : List ℕ). state_of p (call_on p c b).bytes) (run_encode p h loads ruled cs s rest g)
      ∙ ap (λ (x : Given). state_of p x.bytes) (on_encode p h loads c (ruled_after (plan_of p) cs s) rest t)
      ∙ decode_good p h loads (call (plan_of p) c (ruled_after (plan_of p) cs s)).state rest (ruled.good
      (call (plan_of p) c (ruled_after (plan_of p) cs s)).state (ruled.keeps c (ruled_after (plan_of p) cs s) r))

  -- the bytes after the calls are a state's
  pub state_reached : (cs : List Call) (s : State) (rest : List ℕ) → ruled.Reached s
      → is_state (plan_of p) (bytes_after p cs (encode (plan_of p) s rest)) ≡ true
  state_reached cs s rest g =
      rw (run_encode p h loads ruled cs s rest g)
      (state_encode (plan_of p) (accepted_wired p h loads) (accepted_range p h loads) (ruled_after (plan_of p) cs s)
      rest
      (good_after p h loads ruled cs s g))

  -- a move of the rules is one in the bytes
  pub moves_in : (cs : List Call) (s : State) (rest : List ℕ) → ruled.Reached s → Moves (plan_of p) cs s
      → MovesIn p cs (encode (plan_of p) s rest)
  moves_in cs s rest g m =
      record {
        before = m.before;
        at = m.at;
        rest = m.rest;
        split = m.split;
        timed = m.timed;
        moved = rw (state_after m.before s rest g, called_after m.before m.at s rest g) m.moved;
      }

  -- progress from any good state's bytes
  pub progress_in : (cs : List Call) (s : State) (rest : List ℕ) → ruled.Reached s → Waits (plan_of p) s
      → S (plan_of p) ≤ rounds_in p cs (encode (plan_of p) s rest) → MovesIn p cs (encode (plan_of p) s rest)
  progress_in cs s rest g w l = moves_in cs s rest g
      (ruled.progress s (ruled.good s g) w cs (rw (rounds_encode p h loads ruled cs s rest g) at l))

  -- ---- from the start state's bytes, whatever is past them
  module _ (rest : List ℕ) where
    abbrev begun : List ℕ
    begun = encode (plan_of p) (start (plan_of p)) rest

    abbrev after : List Call → State
    after cs = ruled_after (plan_of p) cs (start (plan_of p))

    reached : (cs : List Call) → ruled.Reached (after cs)
    reached cs = reached_after p h loads ruled cs (start (plan_of p)) ruled.starts

    good : (cs : List Call) → Good (plan_of p) (after cs)
    good cs = good_after p h loads ruled cs (start (plan_of p)) ruled.starts

    runs : (cs : List Call) → bytes_after p cs begun ≡ encode (plan_of p) (after cs) rest
    runs cs = run_encode p h loads ruled cs (start (plan_of p)) rest ruled.starts

    reads : (cs : List Call) → state_of p (bytes_after p cs begun) ≡ after cs
    reads cs = state_after cs (start (plan_of p)) rest ruled.starts

    -- the claim, part for part
    pub claim_start : (cs : List Call) → Claim p begun cs
    claim_start cs =
        record {
          state = λ before more e. state_reached before (start (plan_of p)) rest ruled.starts;
          never_7 = λ before more c e k.
              (refused_leaves (call_does (plan_of p) (after before) c)
              (sym (answer_after before c (start (plan_of p)) rest ruled.starts) ∙ k)).1 refl;
          capacity = λ before more e. subst⁻¹ (Within (plan_of p)) (reads before) (good before).valid.capacities;
          table = λ before more e q.
              rw (reads before, accepted_encode p h loads ruled before (start (plan_of p)) rest [] ruled.starts)
              (ruled.table before (subst (Quiet (plan_of p)) (reads before) q));
          told = λ before more e.
              rw (reads before, accepted_encode p h loads ruled before (start (plan_of p)) rest [] ruled.starts)
              (ruled.told before);
          progress = λ before during more e w l.
              subst⁻¹ (MovesIn p during) (runs before)
              (progress_in during (after before) rest (reached before) (subst (Waits (plan_of p)) (reads before) w)
              (subst (λ (b : List ℕ). S (plan_of p) ≤ rounds_in p during b) (runs before) l));
          agrees = λ before more e.
              record {
                queues = ap (λ (s : State). s.lines.queue) (reads before);
                wires = ap (λ (s : State).
                    s.links.wire) (reads before);
                table = ap (λ (s : State). s.table) (reads before);
                connections = ap (λ (s : State). s.connections) (reads before);
              };
          answers = λ before more c e. answer_after before c (start (plan_of p)) rest ruled.starts;
          launches = λ before more e d.
              rw (
                acceptances_encode p h loads ruled d before (start (plan_of p)) rest ruled.starts,
                launches_encode p h loads ruled d before (start (plan_of p)) rest ruled.starts,
              ) (ruled.launched before d);
        }

  -- ---- from the bytes that an accepted Start left: what the claim's parts rest on
  module _ (buffer : List ℕ) (started : (start_on p buffer).answer ≡ Done) where
    -- after every list the bytes are those of the rules' state, and past it those of the buffer
    pub reached_bytes : (cs : List Call) → bytes_after p cs (start_on p buffer).bytes
        ≡ encode (plan_of p) (ruled_after (plan_of p) cs (start (plan_of p))) (past (size (plan_of p)) buffer)
    reached_bytes cs = rw (start_encode p h loads buffer started) (runs (past (size (plan_of p)) buffer) cs)

    -- after every list they are a state's, the last call's included
    pub reached_state : (cs : List Call) → is_state (plan_of p) (bytes_after p cs (start_on p buffer).bytes) ≡ true
    reached_state cs = rw (start_encode p h loads buffer started)
        (state_reached cs (start (plan_of p)) (past (size (plan_of p)) buffer) ruled.starts)

    -- the whole rounds of a part of the list are those of the rules, which Rounds counts
    pub reached_rounds : (before during : List Call)
        → rounds_in p during (bytes_after p before (start_on p buffer).bytes)
        ≡ rounds (plan_of p) during (ruled_after (plan_of p) before (start (plan_of p)))
    reached_rounds before during =
        rw (reached_bytes before)
        (rounds_encode p h loads ruled during (ruled_after (plan_of p) before (start (plan_of p)))
        (past (size (plan_of p)) buffer) (reached (past (size (plan_of p)) buffer) before))

    -- demand 3's claim
    pub reached_claim : (cs : List Call) → Claim p (start_on p buffer).bytes cs
    reached_claim cs = rw (start_encode p h loads buffer started) (claim_start (past (size (plan_of p)) buffer) cs)

-- Demand 3 holds of the calls on bytes if what is to be shown of the rules holds for every plan that Load accepts.
pub bridge : ((p : List ℕ) (h : Head) → load_of p ≡ Ok h → Ruled (plan_of p)) → Demand3
bridge rules p buffer h loads started cs = reached_claim p h loads (rules p h loads) buffer started cs
