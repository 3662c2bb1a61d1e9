-- What a call gave, told as numbers and bytes.
use mathlib.Core.Path.{◌≡◌, ap, ◌∙◌}
use mathlib.Core.List.{List}
use Prim.Native.Nat.{ℕ}
use Rattle.kinds.specs.declared.Refusal.{Refusal}
use Rattle.packets.specs.declared.Answer.{Answer}
use Rattle.plan.specs.declared.Head.{Head}
use Rattle.std.specs.Prelude.{Result, Ok, Err}
use Rattle.load.specs.Load.{load_of}
use Rattle.bytes_steps.specs.Counts.{state_size}
use Rattle.claims.specs.Calls.{Given, given}
use Rattle.answers.specs.Numbers.{answer_number, shown_bytes, entry_byte, remaining_bytes}
use Rattle.export.specs.Size.{size_of}

module _ {x : Answer} {d : List ℕ} {g : Given} (e : given x d ≡ g) where
  pub number_told : {n : ℕ} → n ≡ answer_number x → n ≡ answer_number g.answer
  number_told f = f ∙ ap (λ (y : Given). answer_number y.answer) e

  pub bytes_told : d ≡ g.bytes
  bytes_told = ap (λ (y : Given). y.bytes) e

  pub shown_told : (o : List ℕ) {u : List ℕ} → u ≡ shown_bytes x o → u ≡ shown_bytes g.answer o
  shown_told o f = f ∙ ap (λ (y : Given). shown_bytes y.answer o) e

  pub entry_told : (o : List ℕ) {u : List ℕ} → u ≡ entry_byte x o → u ≡ entry_byte g.answer o
  entry_told o f = f ∙ ap (λ (y : Given). entry_byte y.answer o) e

  pub remaining_told : (o : List ℕ) {u : List ℕ} → u ≡ remaining_bytes x o → u ≡ remaining_bytes g.answer o
  remaining_told o f = f ∙ ap (λ (y : Given). remaining_bytes y.answer o) e

-- ---- the state's size
module _ (p : List ℕ) {l : Result Head Refusal} (known : l ≡ load_of p) where
  pub size_none : {w : Refusal} → l ≡ Err w → 0 ≡ size_of p
  unfolding size_of
  size_none f = rw (← known, f)

  pub size_some : {h : Head} {n : ℕ} → l ≡ Ok h → n ≡ state_size h → n ≡ size_of p
  unfolding size_of
  size_some f g = rw (← known, f) g
