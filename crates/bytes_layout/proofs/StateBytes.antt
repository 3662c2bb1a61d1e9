-- 'Equal states giving equal bytes', and the other way: the test is passed by the bytes that the layout gives to a
-- state, and by no others.
use mathlib.Core.Path.{◌≡◌, refl, sym, ap, ap₂, ◌∙◌, subst⁻¹}
use mathlib.Core.Bool.{true, false≢true}
use mathlib.Core.List.{List, [], ◌∷◌, ◌++◌}
use Prim.Native.Nat.{ℕ, ◌≤◌}
use native.Mathlib.Omega.{arith}
use lib.Dec.{leb}
use lib.ListN.{length, length-append}
use borrow.Author.Tests.{eqb-true, eq-eqb, le-leb}
use Rattle.basis.specs.Choice.{also_true, also_of}
use Rattle.plan.specs.Head.{InRange}
use Rattle.plan.specs.Plan.{Plan}
use Rattle.rules.specs.State.{State}
use Rattle.rules.specs.Valid.{Bounded}
use Rattle.bytes_layout.specs.Rows.{front, past, front_past, front_append, past_append}
use Rattle.bytes_layout.specs.Offsets.{size}
use Rattle.bytes_layout.specs.Encode.{encode, encode_append, length_encode}
use Rattle.bytes_layout.specs.Decode.{decode, decode_bounded, Small, decode_small}
use Rattle.bytes_layout.proofs.Round.{decode_encode}
use Rattle.bytes_layout.specs.Canonical.{same_bytes, canonical}

-- the test is passed by equal lists alone
pub same_bytes_lem : (xs ys : List ℕ) → same_bytes xs ys ≡ true → xs ≡ ys
unfolding same_bytes
same_bytes_lem [] [] e = refl
same_bytes_lem [] (y ∷ ys) e = absurd (false≢true e)
same_bytes_lem (x ∷ xs) [] e = absurd (false≢true e)
same_bytes_lem (x ∷ xs) (y ∷ ys) e = let p = also_true e in ap₂ ◌∷◌ (eqb-true x y p.0) (same_bytes_lem xs ys p.1)

-- and by those
pub bytes_same : (xs : List ℕ) → same_bytes xs xs ≡ true
unfolding same_bytes
bytes_same [] = refl
bytes_same (x ∷ xs) = also_of (eq-eqb x x refl) (bytes_same xs)

module _ (pl : Plan) where
  -- such bytes are those of the state that they tell, and the bytes past it
  pub encode_canonical : (b : List ℕ) → canonical pl b ≡ true → b ≡ encode pl (decode pl b) (past (size pl) b)
  unfolding canonical
  encode_canonical b e =
      let p = also_true {a = leb (size pl) (length b)} {b = same_bytes (front (size pl) b) (encode pl (decode pl b) [])}
      e in
      front_past (size pl) b
      ∙ ap (λ x. x ++ past (size pl) b) (same_bytes_lem (front (size pl) b) (encode pl (decode pl b) []) p.1)
      ∙ sym (encode_append pl (decode pl b) (past (size pl) b))

  -- the bytes past a state's are what was put there
  pub past_encode : (s : State) (rest : List ℕ) → past (size pl) (encode pl s rest) ≡ rest
  past_encode s rest = rw (encode_append pl s rest) (past_append (size pl) (encode pl s []) rest (length_encode pl s))

  -- equal states give equal bytes
  pub same_encode : (s t : State) (rest : List ℕ) → s ≡ t → encode pl s rest ≡ encode pl t rest
  same_encode s t rest e = ap (λ (x : State). encode pl x rest) e

  front_encode : (s : State) (rest : List ℕ) → front (size pl) (encode pl s rest) ≡ encode pl s []
  front_encode s rest =
      rw (encode_append pl s rest) (front_append (size pl) (encode pl s []) rest (length_encode pl s))

  long_encode : (s : State) (rest : List ℕ) → size pl ≤ length (encode pl s rest)
  long_encode s rest =
      rw (encode_append pl s rest) (omega (arith, length-append (encode pl s []) rest, length_encode pl s))

module _ (pl : Plan) (range : InRange pl.head) where
  -- a state's bytes are canonical, whatever is past them
  pub canonical_encode : (s : State) (rest : List ℕ) → Bounded pl s → Small pl s
      → canonical pl (encode pl s rest) ≡ true
  unfolding canonical
  canonical_encode s rest out small =
      also_of (le-leb (size pl) (length (encode pl s rest)) (long_encode pl s rest))
      (rw (front_encode pl s rest, decode_encode pl s rest range out small) (bytes_same (encode pl s [])))

  -- and equal bytes come from equal states, whatever is past them
  pub encode_same : (s t : State) (rest more : List ℕ) → Bounded pl s → Small pl s → Bounded pl t → Small pl t
      → encode pl s rest ≡ encode pl t more → s ≡ t
  encode_same s t rest more os ss ot st e =
      sym (decode_encode pl s rest range os ss) ∙ ap (decode pl) e ∙ decode_encode pl t more range ot st

-- ---- 'bytes the layout gives to no state' are those that are not these
pub record Encodes (pl : Plan) (b : List ℕ) : Type 0 where
  pub state : State
  pub rest : List ℕ
  pub bounded : Bounded pl state
  pub small : Small pl state
  pub same : b ≡ encode pl state rest

-- the test is passed by the bytes that the layout gives to a state alone
pub canonical_encodes : (pl : Plan) (b : List ℕ) → canonical pl b ≡ true → Encodes pl b
canonical_encodes pl b e =
    record {
      state = decode pl b;
      rest = past (size pl) b;
      bounded = decode_bounded pl b;
      small = decode_small pl b;
      same = encode_canonical pl b e;
    }

-- and by all of them
pub encodes_canonical : (pl : Plan) → InRange pl.head → (b : List ℕ) → Encodes pl b → canonical pl b ≡ true
encodes_canonical pl range b x = rw x.same (canonical_encode pl range x.state x.rest x.bounded x.small)

-- what holds of every state's bytes holds of all bytes that pass the test
pub states {ℓ} : (pl : Plan) (P : List ℕ → Type ℓ)
    → ((s : State) (rest : List ℕ) → Bounded pl s → Small pl s → P (encode pl s rest)) → (b : List ℕ)
    → canonical pl b ≡ true → P b
states pl P k b e =
    subst⁻¹ P (encode_canonical pl b e) (k (decode pl b) (past (size pl) b) (decode_bounded pl b) (decode_small pl b))
