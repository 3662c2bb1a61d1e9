-- Steps of bytes whose states have more: what the bytes tell may be used.
use mathlib.Core.Path.{◌≡◌, sym, ap, ◌∙◌}
use mathlib.Core.List.{List}
use Prim.Native.Nat.{ℕ}
use Rattle.plan.specs.Plan.{Plan}
use Rattle.rules.specs.State.{State}
use Rattle.bytes_layout.specs.Encode.{encode}
use Rattle.bytes_steps.specs.Acts.{Holds, Steps}
use Rattle.phase_pick.specs.Moments.{Tells}

module _ (pl : Plan) where
  -- what the bytes tell of their states
  pub steps_by : {I J : State → Type 0} {f : State → State} {b c : List ℕ}
      → ((s : State) (rest : List ℕ) → I s → b ≡ encode pl s rest → J s) → Steps pl J f b c → Steps pl I f b c
  steps_by k x = record { done = λ s rest i e. x.done s rest (k s rest i e) e }

  pub holds_by : {I J : State → Type 0} {b : List ℕ} → ((s : State) (rest : List ℕ) → I s → b ≡ encode pl s rest → J s)
      → Holds pl I b → Holds pl J b
  holds_by k h =
      record {
        state = h.state;
        rest = h.rest;
        fit = k h.state h.rest h.fit h.same;
        same = h.same;
      }

  pub tells_by : {X : Type 0} {I J : State → Type 0} {f : State → X} {b : List ℕ} {x : X}
      → ((s : State) (rest : List ℕ) → I s → b ≡ encode pl s rest → J s) → Tells pl J f b x → Tells pl I f b x
  tells_by k t = record { told = λ s rest i e. t.told s rest (k s rest i e) e }

  -- bytes that stay, where the step leaves the state
  pub steps_same : {I : State → Type 0} {f : State → State} {b : List ℕ}
      → ((s : State) (rest : List ℕ) → I s → b ≡ encode pl s rest → f s ≡ s) → Steps pl I f b b
  steps_same k =
      record { done = λ s rest i e. e ∙ ap (λ (t : State). encode pl t rest) (sym (k s rest i e)) }

  -- another step that does the same
  pub steps_alike : {I : State → Type 0} {f g : State → State} {b c : List ℕ}
      → ((s : State) → I s → f s ≡ g s) → Steps pl I f b c → Steps pl I g b c
  steps_alike k x =
      record { done = λ s rest i e. x.done s rest i e ∙ ap (λ (t : State). encode pl t rest) (k s i) }
