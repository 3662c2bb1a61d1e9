-- The bytes of a pair: which connections they say are accepted; and each way out of the check of a pair.
use mathlib.Core.Path.{◌≡◌, refl, sym, ap, ◌∙◌}
use mathlib.Core.Logic.{◌⊎◌, inl, inr}
use mathlib.Core.Bool.{Bool, true, false}
use mathlib.Core.List.{List}
use Prim.Native.Nat.{ℕ, ◌+◌, ◌*◌, ◌-◌, ◌/◌, ◌%◌, ◌<◌}
use native.Mathlib.Omega.{arith}
use lib.Dec.{leb}
use lib.ListN.{get_or}
use borrow.Author.Tests.{le-leb}
use Rattle.basis.specs.Choice.{pick, also, test}
use Rattle.basis.specs.Bounded.{all_fail, all_of, or_right}
use Rattle.sets.specs.Sets.{has}
use Rattle.sets.specs.Laws.{none_has}
use Rattle.plan.specs.Plan.{Plan, A, P, S}
use Rattle.plan_walks.specs.Served.{served}
use Rattle.rules.specs.State.{has_connection, blank}
use Rattle.valid.specs.Ties.{numbered, tie_test, pair_ties}
use Rattle.bytes_layout.specs.Named.{is_connection, connection_test}
use Rattle.bytes_layout.specs.Decode.{decode, four_at}
use Rattle.check_rule.specs.Forms.{pair_row, word_form, start_form, starts_form}
use Rattle.check_rule.specs.Check.{pair_test}
use Rattle.check_connections.specs.Claims.{Claims, Starts}
use Rattle.check_connections.proofs.Claiming.{claims_skip}
use Rattle.check_connections.proofs.Starting.{start_test}

-- every byte is one
abbrev pub AreBytes : List ℕ → Type 0
AreBytes b = (j : ℕ) → get_or b j 0 < 256

-- ---- the bytes of pair n
module _ (pl : Plan) (b : List ℕ) (n : ℕ) where
  abbrev word : ℕ
  word = four_at (pair_row pl n) b

  abbrev has_pair : ℕ → Bool
  has_pair t = is_connection pl (n / 16) (n % 16) t

  pick_also : (x y : Bool) → pick x y false ≡ also x y
  pick_also true y = refl
  pick_also false y = refl

  held_is : (t : ℕ) → t < 32
      → has_connection (decode pl b) (numbered (32 * n + t)) ≡ also (has_pair t) (has word t)
  unfolding numbered decode blank
  held_is t l =
      let a : (32 * n + t) / 512 ≡ n / 16 = omega arith in
      let p : (32 * n + t) / 32 % 16 ≡ n % 16 = omega arith in
      let e : (32 * n + t) % 32 ≡ t = omega arith in
      (λ i. (decode pl b).connections (a i) (p i) (e i)) ∙ pick_also (has_pair t) (has word t)

  four_bytes : AreBytes b → word_form (pair_row pl n) b ≡ true
  unfolding word_form
  four_bytes bytes =
      all_of 4 (λ k. leb (get_or b (pair_row pl n + k) 0) 255)
      (λ k l. le-leb (get_or b (pair_row pl n + k) 0) 255 (let f = bytes (pair_row pl n + k) in omega arith))

  nothing : (x : Bool) → also x false ≡ false
  nothing true = refl
  nothing false = refl

  -- no set: no connection
  module _ (none : word ≡ 0) where
    none_held : (t : ℕ) → t < 32 → has_connection (decode pl b) (numbered (32 * n + t)) ≡ false
    none_held t l = held_is t l ∙ rw (none, none_has t) (nothing (has_pair t))

    pub empty_passes : AreBytes b → pair_test pl b n ≡ true
    unfolding pair_test starts_form pair_ties
    empty_passes bytes =
        rw (
          four_bytes bytes,
          all_of 32 (start_form pl b n) (λ t l. rw (none, none_has t) (or_right (has_pair t))),
          all_of 32 (start_test pl (decode pl b) n) (λ t l. rw (none_held t l)),
        )

    pub empty_claims : {c : List ℕ} → Claims pl (decode pl b) (32 * n) c → Claims pl (decode pl b) (32 * n + 32) c
    empty_claims x =
        claims_skip pl (decode pl b) (32 * n) 32 x
        (λ j l m. let f : 32 * n + (j - 32 * n) ≡ j = omega arith in
        ap (λ (k : ℕ). has_connection (decode pl b) (numbered k)) (sym f) ∙ none_held (j - 32 * n) (omega arith))

  -- a member that is none of the plan's
  pub stray_fails : (t : ℕ) → t < 32 → has word t ≡ true → has_pair t ≡ false → pair_test pl b n ≡ false
  unfolding pair_test starts_form
  stray_fails t l e f =
      rw (all_fail (start_form pl b n) 32 t l refl (rw (f, e)), nothing (word_form (pair_row pl n) b))

  -- all members are the plan's
  module _ (ha : n / 16 < A pl) (hp : n % 16 < P pl) (few : (t : ℕ) → has word t ≡ true → t < S pl) where
    known : (t : ℕ) → has word t ≡ true → has_pair t ≡ true
    known t e = connection_test pl (n / 16) (n % 16) t (ha, hp, few t e)

    pub starts_of : Starts (decode pl b) (S pl) n word
    starts_of = record { held = λ t l. held_is t l ∙ by t (test (has word t)); few = few }
      where
        by : (t : ℕ) → (has word t ≡ true) ⊎ (has word t ≡ false) → also (has_pair t) (has word t) ≡ has word t
        by t (inl e) = rw (known t e)
        by t (inr e) = rw e (nothing (has_pair t))

    form_is : pair_test pl b n ≡ also (word_form (pair_row pl n) b) (pair_ties pl (decode pl b) n)
    unfolding pair_test starts_form
    form_is =
        rw (all_of 32 (start_form pl b n) (λ t l. by t (test (has word t)))) (through (word_form (pair_row pl n) b))
      where
        through : (x : Bool) → also (also x true) (pair_ties pl (decode pl b) n) ≡ also x (pair_ties pl (decode pl b) n)
        through true = refl
        through false = refl

        by : (t : ℕ) → (has word t ≡ true) ⊎ (has word t ≡ false) → start_form pl b n t ≡ true
        by t (inl e) = rw (known t e)
        by t (inr e) = rw e (or_right (has_pair t))

    pub form_passes : AreBytes b → pair_test pl b n ≡ pair_ties pl (decode pl b) n
    form_passes bytes = form_is ∙ rw (four_bytes bytes)

    -- a member of a pair that is not served
    pub unserved_fails : (t : ℕ) → t < 32 → has word t ≡ true → served pl (n / 16) (n % 16) ≡ false
        → pair_test pl b n ≡ false
    unfolding pair_ties tie_test numbered
    unserved_fails t l e f =
        let a : (32 * n + t) / 512 ≡ n / 16 = omega arith in
        let p : (32 * n + t) / 32 % 16 ≡ n % 16 = omega arith in
        let g : served pl ((32 * n + t) / 512) ((32 * n + t) / 32 % 16) ≡ false
        = (λ i. served pl (a i) (p i)) ∙ f in
        form_is
        ∙ rw (all_fail (start_test pl (decode pl b) n) 32 t l refl (rw (starts_of.held t l, e, g)))
        (nothing (word_form (pair_row pl n) b))
