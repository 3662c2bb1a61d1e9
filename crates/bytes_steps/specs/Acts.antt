-- What code on bytes did, told by the rules: whatever state the bytes were of, and whatever bytes stand past it.
use Rattle.std.specs.Prelude.{◌≡◌, List, ℕ, suc, ◌+◌}
use Rattle.std.proofs.Common.{ap, ◌∙◌, add-one}
use Rattle.basis.specs.Fold.{up_to, up_none, up_suc}
use Rattle.packets.specs.declared.Phase.{Phase}
use Rattle.packets.specs.declared.Answer.{Answer}
use Rattle.plan.specs.Plan.{Plan}
use Rattle.rules.specs.State.{State}
use Rattle.rules.specs.Calls.{Call, call}
use Rattle.rules.specs.Ruled.{Good}
use Rattle.bytes_layout.specs.Encode.{encode}

-- the bytes of a state of which I holds
pub record Holds (pl : Plan) (I : State → Type 0) (b : List ℕ) : Type 0 where
  pub state : State
  pub rest : List ℕ
  pub fit : I state
  pub same : b ≡ encode pl state rest

-- of states of which I holds, the bytes b of one became those of f of it
pub record Steps (pl : Plan) (I : State → Type 0) (f : State → State) (b c : List ℕ) : Type 0 where
  pub done : (s : State) (rest : List ℕ) → I s → b ≡ encode pl s rest → c ≡ encode pl (f s) rest

-- a good state in a phase
pub record In (pl : Plan) (x : Phase) (s : State) : Type 0 where
  pub good : Good pl s
  pub phase : s.clock.phase ≡ x

-- a call on the bytes of a good state: its answer and what it leaves are the rule's
pub record Acts (pl : Plan) (c : Call) (b : List ℕ) (x : Answer) (d : List ℕ) : Type 0 where
  pub answer : (s : State) (rest : List ℕ) → Good pl s → b ≡ encode pl s rest → x ≡ (call pl c s).answer
  pub bytes : (s : State) (rest : List ℕ) → Good pl s → b ≡ encode pl s rest → d ≡ encode pl (call pl c s).state rest

module _ (pl : Plan) where
  -- nothing done is no step
  pub steps_none : (I : State → Type 0) (f : ℕ → State → State) (b : List ℕ) → Steps pl I (up_to f 0) b b
  steps_none I f b =
      record { done = λ s rest i e. e ∙ ap (λ (x : State). encode pl x rest) (up_none f s) }

  -- one step and then another
  pub steps_then : {I J : State → Type 0} {f g : State → State} {b c d : List ℕ} → Steps pl I f b c
      → ((s : State) → I s → J (f s)) → Steps pl J g c d → Steps pl I (λ s. g (f s)) b d
  steps_then {I} {J} {f} {g} x k y =
      record { done = λ s rest i e. y.done (f s) rest (k s i) (x.done s rest i e) }

  -- a turn of a loop
  pub steps_more : {I J : State → Type 0} (f : ℕ → State → State) (i : ℕ) {b c d : List ℕ} → Steps pl I (up_to f i) b c
      → ((s : State) → I s → J (up_to f i s)) → Steps pl J (f i) c d → Steps pl I (up_to f (i + 1)) b d
  steps_more f i x k y =
      record {
        done = λ s rest j e.
            y.done (up_to f i s) rest (k s j) (x.done s rest j e)
            ∙ ap (λ (z : State). encode pl z rest) (rw add-one (turn s));
      }
    where
      turn : (s : State) → f i (up_to f i s) ≡ up_to f (suc i) s
      turn s = rw (up_suc f i s)

  -- the loop's end
  pub steps_done : {I : State → Type 0} (f : ℕ → State → State) {i n : ℕ} {b c : List ℕ} → Steps pl I (up_to f i) b c
      → i ≡ n → Steps pl I (up_to f n) b c
  steps_done f {i} {n} x e =
      record { done = λ s rest j q. x.done s rest j q ∙ ap (λ (k : ℕ). encode pl (up_to f k s) rest) e }

  -- what the bytes hold after a step
  pub holds_then : {I J : State → Type 0} {f : State → State} {b c : List ℕ} → Holds pl I b → Steps pl I f b c
      → ((s : State) → I s → J (f s)) → Holds pl J c
  holds_then {I} {J} {f} h x k =
      record {
        state = f h.state;
        rest = h.rest;
        fit = k h.state h.fit;
        same = x.done h.state h.rest h.fit h.same;
      }

  -- of less that is asked
  pub steps_less : {I J : State → Type 0} {f : State → State} {b c : List ℕ} → ((s : State) → I s → J s)
      → Steps pl J f b c → Steps pl I f b c
  steps_less k x = record { done = λ s rest i e. x.done s rest (k s i) e }

  pub holds_less : {I J : State → Type 0} {b : List ℕ} → ((s : State) → I s → J s) → Holds pl I b → Holds pl J b
  holds_less k h = record { state = h.state; rest = h.rest; fit = k h.state h.fit; same = h.same }
