-- A pair is served if its walk arrives and every router that it meets has a way back to the active: so where every
-- router has one, and where the words of the walks say so.
use mathlib.Core.Path.{◌≡◌, refl, sym, ap, ◌∙◌}
use mathlib.Core.Logic.{◌⊎◌, inl, inr}
use mathlib.Core.Bool.{true, false, not, true≢false, false≢true}
use mathlib.Core.List.{List, []}
use Prim.Native.Nat.{ℕ, ◌+◌, ◌≤◌, ◌<◌}
use native.Mathlib.Omega.{arith}
use lib.Dec.{eqb, ltb}
use lib.ListN.{get_or}
use lib.Bits.{and_le_r}
use borrow.Author.Tests.{eqb-true, eq-eqb, lt-ltb}
use Rattle.basis.specs.Choice.{also_true, also_of, test, same_test}
use Rattle.basis.specs.Bounded.{all_of, all_at, any_below, any_true, any_of, Found}
use Rattle.basis.specs.Walk.{Spot, on, end, lost, way_on}
use Rattle.plan.specs.Head.{destinations}
use Rattle.plan.specs.Plan.{Plan, Port, Interface, active, passive, R, A}
use Rattle.plan.specs.Tables.{interface_at}
use Rattle.plan.specs.Rules.{home}
use Rattle.plan_walks.specs.Walk.{onward, router_of, walked, arrives}
use Rattle.plan_walks.specs.Served.{served, served_from, back_arrives, backs_arrive}
use Rattle.plan_walks.specs.Steps.{stands_on}
use Rattle.plan_walks.specs.Drawn.{Arrivals}
use Rattle.plan_facts.specs.Wired.{Wired}
use Rattle.plan_facts.proofs.Wires.{home_inside}
use Rattle.plan_journeys.proofs.Walks.{walk_of, walk_short, stops_inside}
use Rattle.sets.specs.Sets.{has, both}
use Rattle.sets.specs.Laws.{has_both, none_has, no_member}
use Rattle.graph_reach.proofs.Sweeps.{and_parts}
use Rattle.load_arrivals.specs.Tracks.{Tracks}
use Rattle.load_arrivals.specs.Pairs.{Lacking}
use Rattle.load_arrivals.proofs.Meeting.{stands_at_lem}

module _ (pl : Plan) (wired : Wired pl) (a p : ℕ) (ha : a < A pl) where
  -- where the walk stands on a router, that is one of the plan's, after fewer steps than there are routers
  stands_inside : (k : ℕ) (y : Port) → arrives pl (passive p) (home pl (active a)) ≡ true
      → walked pl (passive p) k (home pl (active a)) ≡ on y → (y.router < R pl) × (k < R pl)
  stands_inside k y t q =
      let x = home pl (active a) in
      let w = walk_of wired (passive p) x t in
      let o = way_on (onward pl (passive p)) router_of w k y q in
      let h = (home_inside (active a) wired ha).0 in
      let short = walk_short wired (passive p) x h w in
      (rw (← o.1) (stops_inside wired (passive p) x w h k o.0), omega (arith, short, o.0))

  -- every router that the walk meets has a way back
  served_met : (arrives pl (passive p) (home pl (active a)) ≡ true → (k : ℕ) (y : Port)
      → walked pl (passive p) k (home pl (active a)) ≡ on y → arrives pl (active a) y ≡ true)
      → served pl a p ≡ arrives pl (passive p) (home pl (active a))
  unfolding served_from backs_arrive
  served_met back = by' (test (arrives pl (passive p) (home pl (active a))))
    where
      at : arrives pl (passive p) (home pl (active a)) ≡ true → (k : ℕ) (t : Spot Port)
          → walked pl (passive p) k (home pl (active a)) ≡ t → back_arrives pl a t ≡ true
      at t k (on y) q = back t k y q
      at t k end q = refl
      at t k lost q = refl

      by' : (arrives pl (passive p) (home pl (active a)) ≡ true) ⊎ (arrives pl (passive p) (home pl (active a)) ≡
          false)
          → served pl a p ≡ arrives pl (passive p) (home pl (active a))
      by' (inl t) =
          also_of t (all_of (R pl) (λ k. back_arrives pl a (walked pl (passive p) k (home pl (active a))))
          (λ k l. at t k (walked pl (passive p) k (home pl (active a))) refl))
          ∙ sym t
      by' (inr t) = rw t

  pub served_everywhere : ((x : Port) → x.router < R pl → arrives pl (active a) x ≡ true)
      → served pl a p ≡ arrives pl (passive p) (home pl (active a))
  served_everywhere all = served_met (λ t k y q. all y (stands_inside k y t q).0)

  -- ---- the word of the walk has none of the routers without a way back
  module _ (arrive : List ℕ) (up : List (List ℕ)) (m : ℕ) (most : R pl ≤ 16) (hp : A pl + p < destinations pl.head)
      (is-passive : interface_at pl.head (A pl + p) ≡ passive p) (is_active : interface_at pl.head a ≡ active a)
      (f : Arrivals pl arrive) (g : Tracks pl up) (l : Lacking arrive a (R pl) m)
      (t : arrives pl (passive p) (home pl (active a)) ≡ true) where
    -- a router has a way back
    back_is : (y : Port) → y.router < R pl → has (get_or arrive y.router 0) a ≡ arrives pl (active a) y
    back_is y h = f.there y a h (omega arith) ∙ ap (λ (i : Interface). arrives pl i y) is_active

    met_is : (r : ℕ) → r < 16 → has (get_or (get_or up (home pl (active a)).router []) (A pl + p) 0) r
        ≡ any_below (R pl) (λ k. stands_on r (walked pl (passive p) k (home pl (active a))))
    met_is r h =
        g.met (home pl (active a)) (A pl + p) r (home_inside (active a) wired ha).0 hp h
        (ap (λ (i : Interface). arrives pl i (home pl (active a))) is-passive ∙ t)
        ∙ ap (λ (i : Interface). any_below (R pl) (λ k. stands_on r (walked pl i k (home pl (active a))))) is-passive

    none_met : both (get_or (get_or up (home pl (active a)).router []) (A pl + p) 0) m ≡ 0 → (k : ℕ) (y : Port)
        → walked pl (passive p) k (home pl (active a)) ≡ on y → arrives pl (active a) y ≡ true
    none_met e k y q = sym (back_is y inside) ∙ by' (test (has (get_or arrive y.router 0) a))
      where
        inside : y.router < R pl
        inside = (stands_inside k y t q).0

        there : has (get_or (get_or up (home pl (active a)).router []) (A pl + p) 0) y.router ≡ true
        there =
            met_is y.router (omega (arith, inside, most))
            ∙ any_of (R pl) (λ i. stands_on y.router (walked pl (passive p) i (home pl (active a)))) k
            (stands_inside k y t q).1 (ap (stands_on y.router) q ∙ eq-eqb y.router y.router refl)

        by' : (has (get_or arrive y.router 0) a ≡ true) ⊎ (has (get_or arrive y.router 0) a ≡ false)
            → has (get_or arrive y.router 0) a ≡ true
        by' (inl c) = c
        by' (inr c) =
            absurd
            (true≢false
            (sym (has_both (get_or (get_or up (home pl (active a)).router []) (A pl + p) 0) m y.router
            ∙ rw (there, l.members y.router, lt-ltb y.router (R pl) inside, c))
            ∙ ap (λ (u : ℕ). has u y.router) e ∙ none_has y.router))

    all_back : served pl a p ≡ true
        → both (get_or (get_or up (home pl (active a)).router []) (A pl + p) 0) m ≡ 0
    unfolding served_from backs_arrive both
    all_back s =
        no_member 16 _ (let b = and_le_r (get_or (get_or up (home pl (active a)).router []) (A pl + p) 0) m in
        omega (arith, l.small))
        (λ r h. by' r h (test (has (both (get_or (get_or up (home pl (active a)).router []) (A pl + p) 0) m) r)))
      where
        met : (r : ℕ) → Found (R pl) (λ k. stands_on r (walked pl (passive p) k (home pl (active a))))
            → has (get_or arrive r 0) a ≡ true
        met r (k, h, q) =
            let z = stands_at_lem r _ q in
            let y : Port = record { router = r; side = z.0 } in
            let b : back_arrives pl a (walked pl (passive p) k (home pl (active a))) ≡ true =
            all_at (R pl) (λ i. back_arrives pl a (walked pl (passive p) i (home pl (active a)))) (also_true {a =
            arrives pl (passive p) (home pl (active a))} s).1 k h in
            back_is y (stands_inside k y t z.1).0 ∙ rw z.1 at b

        by' : (r : ℕ) → r < 16
            → (has (both (get_or (get_or up (home pl (active a)).router []) (A pl + p) 0) m) r ≡ true)
            ⊎ (has (both (get_or (get_or up (home pl (active a)).router []) (A pl + p) 0) m) r ≡ false)
            → has (both (get_or (get_or up (home pl (active a)).router []) (A pl + p) 0) m) r ≡ false
        by' r h (inr c) = c
        by' r h (inl c) =
            let b = and_parts _ _ (sym (has_both (get_or (get_or up (home pl (active a)).router []) (A pl + p) 0) m r) ∙
            c)
            in
            let there = met r (any_true (R pl) _ (sym (met_is r h) ∙ b.0)) in
            let gone = (and_parts (ltb r (R pl)) (not (has (get_or arrive r 0) a)) (sym (l.members r) ∙ b.1)).1 in
            absurd (false≢true (rw there at gone))

    pub served_sifted : eqb (both (get_or (get_or up (home pl (active a)).router []) (A pl + p) 0) m) 0 ≡ served pl a p
    served_sifted = same_test _ _ to from'
      where
        to : eqb (both (get_or (get_or up (home pl (active a)).router []) (A pl + p) 0) m) 0 ≡ true → served pl a p ≡
            true
        to e = served_met (λ u k y q. none_met (eqb-true _ 0 e) k y q) ∙ t

        from' : served pl a p ≡ true
            → eqb (both (get_or (get_or up (home pl (active a)).router []) (A pl + p) 0) m) 0 ≡ true
        from' s = eq-eqb _ 0 (all_back s)
