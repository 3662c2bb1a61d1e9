-- The calls that turn the phase: refused in another phase, else the phase's step.
use mathlib.Core.Path.{◌≡◌, refl, sym, ap, ◌∙◌}
use mathlib.Core.Logic.{◌≢◌}
use mathlib.Core.Bool.{true, false}
use mathlib.Core.List.{List}
use Prim.Native.Nat.{ℕ, ◌<◌}
use native.Mathlib.Omega.{arith}
use lib.ListN.{get_or, length}
use Rattle.kinds.specs.declared.Refusal.TheVariants.{WrongPhase}
use Rattle.packets.specs.declared.Phase.{Phase}
use Rattle.packets.specs.declared.Phase.TheVariants.{Read, Execute, Write}
use Rattle.packets.specs.declared.Answer.TheVariants.{Refused, Done}
use Rattle.plan.specs.Plan.{Plan}
use Rattle.rules.specs.State.{State}
use Rattle.rules.specs.Calls.{is_phase, turn, phase_step, call}
use Rattle.rules.specs.Ruled.{Good}
use Rattle.bytes_layout.specs.Offsets.{size_is}
use Rattle.bytes_layout.specs.Codes.{phase_code}
use Rattle.bytes_layout.specs.Encode.{encode}
use Rattle.bytes_layout.proofs.Readings.{length_bytes}
use Rattle.bytes_steps.specs.Acts.{Holds, Steps, In, Acts}

same_phase : (x : Phase) → is_phase x x ≡ true
same_phase Read = refl
same_phase Execute = refl
same_phase Write = refl

other_phase : (x y : Phase) → phase_code x ≢ phase_code y → is_phase x y ≡ false
other_phase Read Read n = absurd (n refl)
other_phase Read Execute n = refl
other_phase Read Write n = refl
other_phase Execute Read n = refl
other_phase Execute Execute n = absurd (n refl)
other_phase Execute Write n = refl
other_phase Write Read n = refl
other_phase Write Execute n = refl
other_phase Write Write n = absurd (n refl)

phase_of_code : (x y : Phase) → phase_code x ≡ phase_code y → x ≡ y
phase_of_code Read Read e = refl
phase_of_code Read Execute e = absurd (omega arith)
phase_of_code Read Write e = absurd (omega arith)
phase_of_code Execute Read e = absurd (omega arith)
phase_of_code Execute Execute e = refl
phase_of_code Execute Write e = absurd (omega arith)
phase_of_code Write Read e = absurd (omega arith)
phase_of_code Write Execute e = absurd (omega arith)
phase_of_code Write Write e = refl

module _ (pl : Plan) where
  -- the first byte says the phase
  phase_byte_lem : (b : List ℕ) (s : State) (rest : List ℕ) → b ≡ encode pl s rest → get_or b 0 0 ≡ phase_code
      s.clock.phase
  unfolding encode
  phase_byte_lem b s rest e = ap (λ (x : List ℕ). get_or x 0 0) e

  -- a state's bytes are not none
  pub held_long : {I : State → Type 0} {b : List ℕ} → Holds pl I b → 0 < length b
  held_long h =
      let l = ap length h.same ∙ length_bytes pl h.state h.rest in
      let z = size_is pl in
      omega arith

  module _ (x : Phase) where
    pub turn_refused : (b : List ℕ) → get_or b 0 0 ≢ phase_code x → Acts pl (turn x) b (Refused WrongPhase) b
    unfolding call
    turn_refused b n =
        record {
          answer = λ s rest g e. rw (other_phase s.clock.phase x (λ z. n (phase_byte_lem b s rest e ∙ z)));
          bytes = λ s rest g e. rw (other_phase s.clock.phase x (λ z. n (phase_byte_lem b s rest e ∙ z))) e;
        }

    pub turn_held : {b : List ℕ} → get_or b 0 0 ≡ phase_code x → Holds pl (Good pl) b → Holds pl (In pl x) b
    turn_held {b} e h =
        record {
          state = h.state;
          rest = h.rest;
          fit = record {
            good = h.fit;
            phase = phase_of_code h.state.clock.phase x (sym (phase_byte_lem b h.state h.rest h.same) ∙ e);
          };
          same = h.same;
        }

    pub turn_done : (b d : List ℕ) → get_or b 0 0 ≡ phase_code x → Steps pl (In pl x) (phase_step pl x) b d
        → Acts pl (turn x) b Done d
    unfolding call
    turn_done b d e k =
        record {
          answer = λ s rest g f. rw (in_phase s rest f);
          bytes = λ s rest g f. rw (in_phase s rest f)
              (k.done s rest (record {
                good = g;
                phase = phase_of_code s.clock.phase x
                    (sym (phase_byte_lem b s rest f) ∙ e);
              })
              f);
        }
      where
        in_phase : (s : State) (rest : List ℕ) → b ≡ encode pl s rest → is_phase s.clock.phase x ≡ true
        in_phase s rest f =
            ap (λ (y : Phase). is_phase y x) (phase_of_code s.clock.phase x (sym (phase_byte_lem b s rest f) ∙ e))
            ∙ same_phase x
