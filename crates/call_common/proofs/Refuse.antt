-- Tests one after another: the first that holds gives the refusal. What a call that is refused, and one that is
-- accepted, does to the bytes.
use mathlib.Core.Path.{◌≡◌, refl, sym, ap, ◌∙◌}
use mathlib.Core.Bool.{Bool, true, false}
use mathlib.Core.List.{List, [], ◌∷◌}
use mathlib.Core.Option.{Option, none, some}
use Prim.Native.Nat.{ℕ}
use Rattle.kinds.specs.declared.Refusal.{Refusal}
use Rattle.packets.specs.declared.Answer.{Answer}
use Rattle.packets.specs.declared.Answer.TheVariants.{Refused}
use Rattle.plan.specs.Plan.{Plan}
use Rattle.rules.specs.State.{State}
use Rattle.rules.specs.Guards.{Guard, guard, refusal_of}
use Rattle.rules.specs.Calls.{Call, Outcome, guards, accepted, decided, call}
use Rattle.rules.specs.Ruled.{Good}
use Rattle.bytes_layout.specs.Encode.{encode}
use Rattle.bytes_steps.specs.Acts.{Acts}

-- ---- the refusal that a list of tests gives
pub data Finds : List Guard → Option Refusal → Type 0 where
  passed : Finds [] none
  here : {w : Refusal} {t : Bool} {gs : List Guard} → t ≡ true → Finds (guard w t ∷ gs) (some w)
  later : {w : Refusal} {t : Bool} {gs : List Guard} {o : Option Refusal} → t ≡ false → Finds gs o
      → Finds (guard w t ∷ gs) o

finds : {gs : List Guard} {o : Option Refusal} → Finds gs o → refusal_of gs ≡ o
finds passed = refl
finds (here e) = rw e
finds (later e f) = rw e (finds f)

-- ---- a call on bytes
module _ (pl : Plan) (c : Call) (b : List ℕ) where
  -- of every good state of which these are the bytes
  abbrev pub Each : (State → List ℕ → Type 0) → Type 0
  Each X = (s : State) (rest : List ℕ) → Good pl s → b ≡ encode pl s rest → X s rest

  called : (s : State) (o : Option Refusal) → Finds (guards pl c s) o → call pl c s ≡ decided o s (accepted pl c s)
  unfolding call
  called s o f = ap (λ (x : Option Refusal). decided x s (accepted pl c s)) (finds f)

  pub refuses : (w : Refusal) → Each (λ s rest. Finds (guards pl c s) (some w)) → Acts pl c b (Refused w) b
  refuses w f =
      record {
        answer = λ s rest g e. sym (ap (λ (x : Outcome). x.answer) (called s (some w) (f s rest g e)));
        bytes = λ s rest g e.
            e ∙ sym (ap (λ (x : Outcome). encode pl x.state rest) (called s (some w) (f s rest g e)));
      }

  pub accepts : {x : Answer} {d : List ℕ} → Each (λ s rest. Finds (guards pl c s) none)
      → Each (λ s rest. x ≡ (accepted pl c s).answer) → Each (λ s rest. d ≡ encode pl (accepted pl c s).state rest)
      → Acts pl c b x d
  accepts f y z =
      record {
        answer = λ s rest g e. y s rest g e ∙ sym (ap (λ (x : Outcome). x.answer) (called s none (f s rest g e)));
        bytes = λ s rest g e.
            z s rest g e ∙ sym (ap (λ (x : Outcome). encode pl x.state rest) (called s none (f s rest g e)));
      }
