-- Refusal 7's test on bytes is exact: it is passed by the bytes of good states, whatever is past them, and by no
-- others.
use Rattle.std.specs.Prelude.{Ok}
use mathlib.Core.Path.{◌≡◌, subst⁻¹}
use mathlib.Core.Bool.{true}
use mathlib.Core.List.{List}
use Prim.Native.Nat.{ℕ}
use Rattle.plan.specs.declared.Head.{Head}
use Rattle.plan.specs.Head.{head_of, InRange}
use Rattle.plan.specs.Plan.{Plan, plan_of}
use Rattle.plan_facts.proofs.Heads.{and_both, and_of}
use Rattle.plan_facts.specs.Wired.{Wired}
use Rattle.load.specs.Load.{load_of}
use Rattle.load.specs.Rules.{passes, passed_wired, accepted_obeys}
use Rattle.rules.specs.State.{State}
use Rattle.rules.specs.Ruled.{Good}
use Rattle.valid.proofs.Law.{test_valid, valid_test_lem}
use Rattle.bytes_layout.specs.Rows.{past}
use Rattle.bytes_layout.specs.Offsets.{size}
use Rattle.bytes_layout.specs.Encode.{encode}
use Rattle.bytes_layout.specs.Decode.{decode, decode_bounded, valid_small}
use Rattle.bytes_layout.proofs.Round.{decode_encode}
use Rattle.bytes_layout.proofs.StateBytes.{canonical_encode, encode_canonical}
use Rattle.claims.specs.Calls.{is_state}
use Rattle.claims.specs.Conditions.{StateBytes}

-- ---- what the laws below need of a plan, for every plan that Load accepts
-- its joints may be trusted
pub accepted_wired : (p : List ℕ) (h : Head) → load_of p ≡ Ok h → Wired (plan_of p)
accepted_wired p h e = passed_wired p (passes p h e).0

pub head_range : (p : List ℕ) → InRange (head_of p) → InRange (plan_of p).head
unfolding plan_of
head_range p r = r

-- its counts and capacities are in their ranges
pub accepted_range : (p : List ℕ) (h : Head) → load_of p ≡ Ok h → InRange (plan_of p).head
accepted_range p h e = head_range p (accepted_obeys p h e).ranges

-- ---- the bytes of a good state
module _ (pl : Plan) (wired : Wired pl) (range : InRange pl.head) where
  -- what is read from a good state's bytes is that state
  pub read_back : (s : State) (rest : List ℕ) → Good pl s → decode pl (encode pl s rest) ≡ s
  read_back s rest g = decode_encode pl s rest range g.bounded (valid_small pl s range g.valid)

  -- a good state's bytes pass the test
  pub state_encode : (s : State) (rest : List ℕ) → Good pl s → is_state pl (encode pl s rest) ≡ true
  unfolding is_state
  state_encode s rest g =
      and_of (canonical_encode pl range s rest g.bounded (valid_small pl s range g.valid))
      (rw (read_back s rest g) (valid_test_lem pl wired range s g.bounded g.valid))

  -- bytes that pass the test tell a good state, and are its bytes and those past them
  pub is_state_lem : (b : List ℕ) → is_state pl b ≡ true
      → Good pl (decode pl b) × (b ≡ encode pl (decode pl b) (past (size pl) b))
  unfolding is_state
  is_state_lem b e =
      let p = and_both e in (
        record {
          valid = test_valid pl wired range (decode pl b) (decode_bounded pl b) p.1;
          bounded = decode_bounded pl b;
        },
        encode_canonical pl b p.0,
      )

  -- the test is passed exactly by the bytes of good states
  pub state_exact : (b : List ℕ) → (is_state pl b ≡ true → StateBytes pl b) × (StateBytes pl b → is_state pl b ≡ true)
  state_exact b = (
    λ e. let g = is_state_lem b e in record { state = decode pl b; rest = past (size pl) b; good = g.0; same = g.1 },
    λ x. rw x.same (state_encode x.state x.rest x.good),
  )

  -- what holds of the bytes of every good state holds of all bytes that pass the test
  pub of-states {ℓ} : (P : List ℕ → Type ℓ) → ((s : State) (rest : List ℕ) → Good pl s → P (encode pl s rest))
      → (b : List ℕ) → is_state pl b ≡ true → P b
  of-states P k b e = let g = is_state_lem b e in subst⁻¹ P g.1 (k (decode pl b) (past (size pl) b) g.0)
