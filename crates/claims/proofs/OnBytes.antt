-- One call on any bytes: on a state's bytes it is the rule's, and on others it is refused 7 and leaves them. A single
-- call on a state's bytes may leave bytes that are refused 7 (a connection that is not tied to the table), but what it
-- leaves has core and shape, and so is read back.
use Rattle.std.specs.Prelude.{Ok}
use mathlib.Core.Path.{◌≡◌, refl, ap, ◌∙◌, subst⁻¹}
use mathlib.Core.Logic.{◌⊎◌, inl, inr, ◌≢◌}
use mathlib.Core.Bool.{true, false}
use mathlib.Core.List.{List, [], ◌∷◌}
use Prim.Native.Nat.{ℕ}
use native.Mathlib.Omega.{arith}
use Rattle.basis.specs.Choice.{test, not_both, affirmed}
use Rattle.kinds.specs.declared.Refusal.TheVariants.{NotState}
use Rattle.packets.specs.declared.Answer.{Answer}
use Rattle.packets.specs.declared.Answer.TheVariants.{Refused}
use Rattle.plan.specs.declared.Head.{Head}
use Rattle.plan.specs.Head.{InRange}
use Rattle.plan.specs.Plan.{Plan, plan_of}
use Rattle.load.specs.Load.{load_of}
use Rattle.rules.specs.State.{State}
use Rattle.rules.specs.Calls.{Call, call}
use Rattle.theory.specs.Invariant.{Inv}
use Rattle.theory.proofs.Core.{core_within}
use Rattle.theory.proofs.Keeps.{inv_of, call_inv}
use Rattle.bytes_layout.specs.Rows.{past}
use Rattle.bytes_layout.specs.Offsets.{size}
use Rattle.bytes_layout.specs.Encode.{encode}
use Rattle.bytes_layout.specs.Decode.{decode, Small, capacity_most}
use Rattle.bytes_layout.proofs.Round.{decode_encode}
use Rattle.claims.specs.Calls.{Given, given, is_state, stored, on_state, call_on}
use Rattle.claims.specs.Demand3.{bytes_after, state_of}
use Rattle.claims.proofs.Exact.{accepted_wired, accepted_range, is_state_lem}

-- what has core and shape is read back from its bytes
inv_back : (pl : Plan) → InRange pl.head → (s : State) (rest : List ℕ) → Inv pl s → decode pl (encode pl s rest) ≡ s
inv_back pl range s rest i = decode_encode pl s rest range i.core.bounded small
  where
    small : Small pl s
    small =
        record {
          few = λ q h.
              let c = core_within pl s i.core q h in let m = capacity_most pl.head q range in omega arith;
        }

module _ (p : List ℕ) (h : Head) (loads : load_of p ≡ Ok h) where
  -- ---- a call on a state's bytes is the rule's, and on others refused
  on_state_lem : (c : Call) (b : List ℕ) → is_state (plan_of p) b ≡ true
      → call_on p c b ≡ stored (plan_of p) b (call (plan_of p) c (state_of p b))
  unfolding call_on on_state
  on_state_lem c b e = rw (loads, e)

  on_other : (c : Call) (b : List ℕ) → is_state (plan_of p) b ≡ false → call_on p c b ≡ given (Refused NotState) b
  unfolding call_on on_state
  on_other c b e = rw (loads, e)

  -- So what holds of the rule's call, and of refusal 7, holds of every call on any bytes.
  pub on_bytes : (c : Call) (b : List ℕ) (P : Answer → State → Type 0)
      → (Inv (plan_of p) (state_of p b)
      → P (call (plan_of p) c (state_of p b)).answer (call (plan_of p) c (state_of p b)).state)
      → P (Refused NotState) (state_of p b) → P (call_on p c b).answer (state_of p (call_on p c b).bytes)
  on_bytes c b P ruled other = by (test (is_state (plan_of p) b))
    where
      by : (is_state (plan_of p) b ≡ true) ⊎ (is_state (plan_of p) b ≡ false)
          → P (call_on p c b).answer (state_of p (call_on p c b).bytes)
      by (inl e) =
          let wired = accepted_wired p h loads in
          let range = accepted_range p h loads in
          let s : State = state_of p b in
          let i = inv_of (plan_of p) s (is_state_lem (plan_of p) wired range b e).0 in
          subst⁻¹ (λ (x : Given). P x.answer (state_of p x.bytes)) (on_state_lem c b e)
          (subst⁻¹ (P (call (plan_of p) c s).answer)
          (inv_back (plan_of p) range (call (plan_of p) c s).state (past (size (plan_of p)) b)
          (call_inv wired range c s i)) (ruled i))
      by (inr e) = subst⁻¹ (λ (x : Given). P x.answer (state_of p x.bytes)) (on_other c b e) other

  -- its answer on a state's bytes
  pub on_answer : (c : Call) (b : List ℕ) → is_state (plan_of p) b ≡ true
      → (call_on p c b).answer ≡ (call (plan_of p) c (state_of p b)).answer
  on_answer c b e = ap (λ (x : Given). x.answer) (on_state_lem c b e)

  -- ---- along a list
  -- bytes that are no state's stay
  others_stay : (cs : List Call) (b : List ℕ) → is_state (plan_of p) b ≡ false → bytes_after p cs b ≡ b
  others_stay [] b e = refl
  others_stay (c ∷ cs) b e =
      ap (λ (x : Given). bytes_after p cs x.bytes) (on_other c b e) ∙ others_stay cs b e

  -- bytes after which some state's come were a state's
  pub states_before : (cs : List Call) (b : List ℕ) → is_state (plan_of p) (bytes_after p cs b) ≡ true
      → is_state (plan_of p) b ≡ true
  states_before cs b e =
      affirmed (is_state (plan_of p) b) (λ f. not_both e (ap (is_state (plan_of p)) (others_stay cs b f) ∙ f))

  -- a call that is not refused 7 was on a state's
  pub state_of_lem : (c : Call) (b : List ℕ) → (call_on p c b).answer ≢ Refused NotState → is_state (plan_of p) b ≡ true
  state_of_lem c b n = affirmed (is_state (plan_of p) b) (λ f. n (ap (λ (x : Given). x.answer) (on_other c b f)))
