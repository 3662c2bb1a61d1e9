-- What the test of the bytes that outputs remember says of the state that they are read as.
use mathlib.Core.Path.{◌≡◌, sym, ap, ◌∙◌}
use mathlib.Core.Logic.{◌⊎◌, inl, inr}
use mathlib.Core.Bool.{Bool, true}
use mathlib.Core.List.{List}
use Prim.Native.Nat.{ℕ, ◌+◌, ◌*◌, ◌-◌, ◌≤◌, ◌<◌}
use native.Mathlib.Omega.{arith}
use lib.Dec.{eqb, ltb}
use lib.ListN.{get_or}
use borrow.Author.Tests.{eq-eqb, eqb-true, lt-ltb, ltb-true}
use Rattle.basis.specs.Choice.{also_true, also_of, also, same_test}
use Rattle.basis.specs.Bounded.{all_at, all_of, lt_or_ge}
use Rattle.plan.specs.declared.Head.{Head}
use Rattle.plan.specs.Head.{destinations}
use Rattle.plan.specs.Plan.{Plan}
use Rattle.plan.specs.Tables.{table_plan}
use Rattle.plan_queues.specs.Feeds.{Output, of_active, of_passive, of_side, to_unit, from_unit}
use Rattle.rules.specs.Outputs.{output_number}
use Rattle.rules.specs.Valid.{Drives}
use Rattle.valid.specs.Test.{turn_test, turns_test}
use Rattle.bytes_layout.specs.Named.{drives_test_lem}
use Rattle.bytes_layout.specs.Offsets.{turn_row}
use Rattle.bytes_layout.specs.Decode.{decode}
use Rattle.bytes_steps.specs.Counts.{turns_from, turns_at_lem}
use Rattle.check_rule.specs.Forms.{zeros}
use Rattle.check_rule.specs.Check.{turns_part}
use Rattle.check_rule.proofs.Bytes.{zeros_get}
use Rattle.check_rule.proofs.Gathered.{each_output}
use Rattle.check_last_senders.specs.Turns.{side_rank, side_ranks, router_ranks, routers_ranks, turns_fit}

-- an output with one sender has one rank
one_rank : (x : ℕ) → ltb x 1 ≡ eqb x 0
one_rank x =
    same_test (ltb x 1) (eqb x 0) (λ e. let l = ltb-true x 1 e in eq-eqb x 0 (omega arith))
    (λ e. let q = eqb-true x 0 e in lt-ltb x 1 (omega arith))

module _ (h : Head) (routes : List (List ℕ)) (joints b : List ℕ) where
  abbrev net : Plan
  net = table_plan h routes joints

  -- where the routers' bytes begin
  abbrev from : ℕ
  from = turns_from h + destinations h

  -- ---- what is asked of an output, by its byte
  abbrev asked : Output → Bool
  asked o = turn_test net o ((decode net b).last_sender o)

  by_byte : (o : Output) (i : ℕ) → Drives net o → turn_row net o ≡ i → asked o ≡ turn_test net o (get_or b i 0)
  unfolding decode
  by_byte o i d e = rw (drives_test_lem net o d, e)

  row : (o : Output) → turn_row net o ≡ turns_from h + output_number net o
  unfolding turn_row table_plan
  row o = let e = turns_at_lem net in omega arith

  at_active : (a : ℕ) → a < h.actives → asked (of_active a) ≡ eqb (get_or b (turns_from h + a) 0) 0
  unfolding output_number table_plan
  at_active a l =
      by_byte (of_active a) (turns_from h + a) l (row (of_active a)) ∙ one_rank (get_or b (turns_from h + a) 0)

  at_passive : (p : ℕ) → p < h.passives
      → asked (of_passive p) ≡ eqb (get_or b (turns_from h + (h.actives + p)) 0) 0
  unfolding output_number table_plan
  at_passive p l =
      by_byte (of_passive p) (turns_from h + (h.actives + p)) l (row (of_passive p))
      ∙ one_rank (get_or b (turns_from h + (h.actives + p)) 0)

  module _ (r : ℕ) (l : r < h.routers) where
    at_side : (o : ℕ) → o < 4
        → asked (of_side r o) ≡ side_rank (get_or joints (4 * r + o) 0) (get_or b (from + 6 * r + o) 0)
    unfolding output_number table_plan side_rank
    at_side o k =
        let e = row (of_side r o) in
        by_byte (of_side r o) (from + 6 * r + o) (l, k) (omega arith) ∙ rw (lt-ltb o 4 k)

    at_unit : asked (to_unit r) ≡ ltb (get_or b (from + 6 * r + 4) 0) 4
    unfolding output_number table_plan
    at_unit = let e = row (to_unit r) in by_byte (to_unit r) (from + 6 * r + 4) l (omega arith)

    at_back : asked (from_unit r) ≡ ltb (get_or b (from + 6 * r + 5) 0) 4
    unfolding output_number table_plan
    at_back = let e = row (from_unit r) in by_byte (from_unit r) (from + 6 * r + 5) l (omega arith)

  -- ---- where the bytes fit every output passes
  -- the six bytes of a router
  router_parts : routers_ranks from h.routers joints b ≡ true → (r : ℕ) → r < h.routers
      → (side_ranks (from + 6 * r) (4 * r) 4 joints b ≡ true)
      × (ltb (get_or b (from + 6 * r + 4) 0) 4 ≡ true) × (ltb (get_or b (from + 6 * r + 5) 0) 4 ≡ true)
  unfolding routers_ranks router_ranks
  router_parts e r l =
      let p = also_true (all_at h.routers (λ n. router_ranks (from + 6 * n) (4 * n) joints b) e r l) in
      let q = also_true p.1 in
      (p.0, q.0, q.1)

  fits_pass : zeros (turns_from h) (destinations h) b ≡ true → routers_ranks from h.routers joints b ≡ true
      → (o : Output) → Drives net o → asked o ≡ true
  unfolding table_plan side_ranks
  fits_pass z e (of_active a) l =
      at_active a l ∙ eq-eqb _ 0 (zeros_get (turns_from h) (destinations h) b z a (omega arith))
  fits_pass z e (of_passive p) l =
      at_passive p l ∙ eq-eqb _ 0 (zeros_get (turns_from h) (destinations h) b z (h.actives + p) (omega arith))
  fits_pass z e (of_side r o) (l, k) =
      at_side r l o k
      ∙ all_at 4 (λ j. side_rank (get_or joints (4 * r + j) 0) (get_or b (from + 6 * r + j) 0)) (router_parts e r l).0 o
      k
  fits_pass z e (to_unit r) l = at_unit r l ∙ (router_parts e r l).1
  fits_pass z e (from_unit r) l = at_back r l ∙ (router_parts e r l).2

  -- ---- and where every output passes they fit
  module _ (f : (o : Output) → Drives net o → asked o ≡ true) where
    interface_byte : (k : ℕ) → k < destinations h → (k < h.actives) ⊎ (h.actives ≤ k)
        → eqb (get_or b (turns_from h + k) 0) 0 ≡ true
    unfolding table_plan
    interface_byte k l (inl a) = sym (at_active k a) ∙ f (of_active k) a
    interface_byte k l (inr a) =
        let p : k - h.actives < h.passives = omega arith in
        let q : k ≡ h.actives + (k - h.actives) = omega arith in
        ap (λ j. eqb (get_or b (turns_from h + j) 0) 0) q ∙ sym (at_passive (k - h.actives) p)
        ∙ f (of_passive (k - h.actives)) p

    interfaces_fit : zeros (turns_from h) (destinations h) b ≡ true
    unfolding zeros
    interfaces_fit = all_of (destinations h) _ (λ k l. interface_byte k l (lt_or_ge k h.actives))

    router_fits : (r : ℕ) → r < h.routers → router_ranks (from + 6 * r) (4 * r) joints b ≡ true
    unfolding table_plan side_ranks router_ranks
    router_fits r l =
        also_of (all_of 4 _ (λ o k. sym (at_side r l o k) ∙ f (of_side r o) (l, k)))
        (also_of (sym (at_unit r l) ∙ f (to_unit r) l) (sym (at_back r l) ∙ f (from_unit r) l))

    routers_fit : routers_ranks from h.routers joints b ≡ true
    unfolding routers_ranks
    routers_fit = all_of h.routers _ router_fits

  -- the two tests are one
  pub turns_fit_lem : turns_fit h joints b ≡ turns_part net b
  unfolding turns_fit turns_part turns_test
  turns_fit_lem =
      same_test
      (also (zeros (turns_from h) (destinations h) b) (routers_ranks from h.routers joints b)) (turns_part net b)
      (λ e. let p = also_true e in (each_output net asked).passes (fits_pass p.0 p.1))
      (λ e. let f = (each_output net asked).holds e in also_of (interfaces_fit f) (routers_fit f))
