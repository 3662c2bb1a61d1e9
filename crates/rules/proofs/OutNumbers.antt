-- Each output of a plan has one number below the count of outputs, and each of these numbers is that of one output of
-- the plan.
use mathlib.Core.Path.{◌≡◌, refl, sym, ap, ◌∙◌}
use mathlib.Core.Logic.{◌≢◌}
use Prim.Native.Nat.{ℕ, ◌+◌, ◌-◌, ◌*◌, ◌/◌, ◌%◌, ◌<◌}
use native.Mathlib.Omega.{arith}
use lib.Dec.{eqb, ltb}
use borrow.Author.Tests.{ltb-true, ltb-false, lt-ltb, le-ltb, eqb-true, eqb-false}
use Rattle.plan.specs.Plan.{Plan, R, A, P}
use Rattle.plan_queues.specs.Feeds.{Output, of_active, of_passive, of_side, to_unit, from_unit}
use Rattle.rules.specs.Outputs.{outputs, router_output, output_at, output_number}
use Rattle.rules.specs.Valid.{Drives}
use Rattle.rules.proofs.Numbers.{picked}

module _ (pl : Plan) where
  -- the k-th output of router r
  router_output_lem : (r k : ℕ) → k < 6 → output_at pl (A pl + P pl + 6 * r + k) ≡ router_output r k
  unfolding output_at
  router_output_lem r k l =
      let d : (A pl + P pl + 6 * r + k - (A pl + P pl)) / 6 ≡ r = omega arith in
      let m : (A pl + P pl + 6 * r + k - (A pl + P pl)) % 6 ≡ k = omega arith in
      rw (
        le-ltb (A pl + P pl + 6 * r + k) (A pl) (omega arith),
        le-ltb (A pl + P pl + 6 * r + k) (A pl + P pl) (omega arith),
        d,
        m,
      )

  -- the output of an output's number is that output
  pub output_at_lem : (o : Output) → Drives pl o → output_at pl (output_number pl o) ≡ o
  unfolding output_number output_at
  output_at_lem (of_active a) h = rw (lt-ltb a (A pl) h, output_at)
  output_at_lem (of_passive p) h =
      rw (le-ltb (A pl + p) (A pl) (omega arith), lt-ltb (A pl + p) (A pl + P pl) (omega arith), output_at)
      (ap of_passive (omega arith))
  output_at_lem (of_side r o) (h, l) = router_output_lem r o (omega arith) ∙ rw (lt-ltb o 4 l)
  output_at_lem (to_unit r) h = router_output_lem r 4 (omega arith)
  output_at_lem (from_unit r) h = router_output_lem r 5 (omega arith)

  -- its number is below the count of outputs
  pub output_below : (o : Output) → Drives pl o → output_number pl o < outputs pl
  unfolding output_number
  output_below (of_active a) h = omega arith
  output_below (of_passive p) h = omega arith
  output_below (of_side r o) (h, l) = omega arith
  output_below (to_unit r) h = omega arith
  output_below (from_unit r) h = omega arith

  abbrev IsOutput : ℕ → Output → Type 0
  IsOutput n o = Drives pl o × (output_number pl o ≡ n)

  output_named : (n : ℕ) → n < outputs pl → IsOutput n (output_at pl n)
  unfolding output_at output_number
  output_named n h =
      picked (IsOutput n) (ltb n (A pl)) _ _ (λ t. (ltb-true n (A pl) t, refl))
      (λ t. let a = ltb-false n (A pl) t in
      picked (IsOutput n) (ltb n (A pl + P pl)) _ _ (λ u. let b = ltb-true n (A pl + P pl) u in
      (omega arith, omega arith))
      (λ u. let b = ltb-false n (A pl + P pl) u in
      let r : (n - (A pl + P pl)) / 6 < R pl = omega arith in
      picked (IsOutput n) (ltb ((n - (A pl + P pl)) % 6) 4) _ _ (λ v. let c = ltb-true ((n - (A pl + P pl)) % 6) 4 v in
      ((r, c), omega arith))
      (λ v. let c = ltb-false ((n - (A pl + P pl)) % 6) 4 v in
      picked (IsOutput n) (eqb ((n - (A pl + P pl)) % 6) 4) _ _ (λ w. let d = eqb-true ((n - (A pl + P pl)) % 6) 4 w in
      (r, omega arith))
      (λ w. let d = eqb-false ((n - (A pl + P pl)) % 6) 4 w in (r, omega arith)))))

  -- the output of a number is one of the plan's
  pub drives_at : (n : ℕ) → n < outputs pl → Drives pl (output_at pl n)
  drives_at n h = (output_named n h).0

  -- and has that number
  pub at_output : (n : ℕ) → n < outputs pl → output_number pl (output_at pl n) ≡ n
  at_output n h = (output_named n h).1

  -- so two of them are one output only as one number
  pub at_apart : (n m : ℕ) → n < outputs pl → m < outputs pl → n ≢ m → output_at pl n ≢ output_at pl m
  at_apart n m h l ne e = ne (sym (at_output n h) ∙ ap (output_number pl) e ∙ at_output m l)
