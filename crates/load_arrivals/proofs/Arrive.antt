-- What is reached by the tables is what the walks of the plan reach.
use mathlib.Core.Path.{◌≡◌, refl, sym, ap, ◌∙◌}
use mathlib.Core.Logic.{◌⊎◌, inl, inr}
use mathlib.Core.Bool.{Bool, true, false}
use mathlib.Core.List.{List}
use Prim.Native.Nat.{ℕ, zero, suc, ◌+◌, ◌<◌}
use native.Mathlib.Numerals.{add-one}
use native.Mathlib.Omega.{arith}
use lib.Dec.{ltb}
use lib.ListN.{get_or}
use borrow.Author.Tests.{eqb-true, eq-eqb, ltb-false}
use Rattle.basis.specs.Choice.{test, same_test}
use Rattle.basis.specs.Walk.{Spot, on, end, lost, spot, end_of, on_end, end_lost, spot_next, spot_none}
use Rattle.basis.specs.Walk.{spot_end, spot_lost, spot_add, way_of_end}
use Rattle.plan.specs.declared.Joint.{Joint}
use Rattle.plan.specs.declared.Joint.TheVariants.{Nothing, Router, Active, Passive}
use Rattle.plan.specs.Head.{destinations}
use Rattle.plan.specs.Plan.{Plan, Port, Interface, active, passive, R, A, route_to, column}
use Rattle.plan.specs.Rules.{leads_to}
use Rattle.plan.specs.Tables.{interface_at}
use Rattle.plan_walks.specs.Walk.{into, through, onward, router_of, arrives}
use Rattle.plan_facts.specs.Wired.{Wired}
use Rattle.plan_facts.proofs.Wires.{near}
use Rattle.plan_journeys.proofs.Walks.{alike, arrives_of, onward_on}
use Rattle.sets.specs.Sets.{has}
use Rattle.graph_reach.specs.Reach.{side_set, beyond, reach_in, Reached}
use Rattle.graph_reach.proofs.Sweeps.{reach_here, reach_through, reach_cases, reach_idle}
use Rattle.load_arrivals.specs.Charted.{Charted}

-- a destination's column is its number
pub column_at : (pl : Plan) (d : ℕ) → column pl (interface_at pl.head d) ≡ d
column_at pl d = by (test (ltb d (A pl)))
  where
    by : (ltb d (A pl) ≡ true) ⊎ (ltb d (A pl) ≡ false) → column pl (interface_at pl.head d) ≡ d
    by (inl t) = rw t
    by (inr t) = let l = ltb-false d (A pl) t in rw t (omega arith)

abbrev at : ℕ → ℕ → Port
at r s = record { router = r; side = s }

module _ (pl : Plan) (by : List (List ℕ)) (next first : List ℕ) (wired : Wired pl)
    (charted : Charted pl by next first) (d : ℕ)
    (known : d < destinations pl.head) where
  -- one step, by the joint that the side given leads through
  step_is : (r s : ℕ) → onward pl (interface_at pl.head d) (at r s)
      ≡ through (interface_at pl.head d) (pl.joint r (pl.route r d))
  unfolding onward
  step_is r s = ap (λ (i : ℕ). through (interface_at pl.head d) (pl.joint r (pl.route r i))) (column_at pl d)

  pub first_end : (r s : ℕ) → r < R pl → has (get_or first r 0) d ≡ true
      → onward pl (interface_at pl.head d) (at r s) ≡ end
  first_end r s l q = step_is r s ∙ rw (sym (charted.firsts r d l known) ∙ q)

  pub router_on : (r s o n t : ℕ) → pl.route r d ≡ o → pl.joint r o ≡ Router n t
      → onward pl (interface_at pl.head d) (at r s) ≡ on (at n t)
  router_on r s o n t p q = step_is r s ∙ rw (p, q) (opens (interface_at pl.head d))
    where
      opens : (i : Interface) → through i (Router n t) ≡ on (record { router = n; side = t })
      opens (active a) = refl
      opens (passive a) = refl

  -- after a first step the rest
  pub spot_front : (k : ℕ) (x : Port) (z : Spot Port) → onward pl (interface_at pl.head d) x ≡ z
      → spot (onward pl (interface_at pl.head d)) (suc k) (on x) ≡ spot (onward pl (interface_at pl.head d)) k z
  spot_front k x z q =
      let f = onward pl (interface_at pl.head d) in
      ap (λ (m : ℕ). spot f m (on x)) (sym (add-one k)) ∙ spot_add f k 1 (on x)
      ∙ ap (spot f k) (spot_next f 0 (on x) (spot_none f (on x)) ∙ q)

  spot_over : (k : ℕ) → spot (onward pl (interface_at pl.head d)) k end ≡ end
  spot_over k =
      let f = onward pl (interface_at pl.head d) in
      let z : k + 0 ≡ k = omega arith in
      ap (λ (m : ℕ). spot f m end) (sym z) ∙ spot_end f 0 end (spot_none f end) k

  spot_gone : (k : ℕ) → spot (onward pl (interface_at pl.head d)) k lost ≡ lost
  spot_gone k =
      let f = onward pl (interface_at pl.head d) in
      let z : k + 0 ≡ k = omega arith in
      ap (λ (m : ℕ). spot f m lost) (sym z) ∙ spot_lost f 0 lost (spot_none f lost) k

  -- ---- what is reached within k steps more, a walk reaches
  walk_reaches : (k r s : ℕ) → r < R pl → reach_in by next first d k r ≡ true
      → spot (onward pl (interface_at pl.head d)) (suc k) (on (at r s)) ≡ end
  unfolding reach_in
  walk_reaches zero r s l q = spot_front 0 (at r s) end (first_end r s l q) ∙ spot_over 0
  walk_reaches (suc k) r s l q = go (λ n t m z. walk_reaches k n t m z) (reach_cases by next first d k r q)
    where
      joint : (o : ℕ) → o < 4 → pl.route r d ≡ o → reach_in by next first d k (beyond by next r o) ≡ true
          → ((n t : ℕ) → n < R pl → reach_in by next first d k n ≡ true
          → spot (onward pl (interface_at pl.head d)) (suc k) (on (at n t)) ≡ end)
          → (j : Joint) → pl.joint r o ≡ j → spot (onward pl (interface_at pl.head d)) (suc (suc k)) (on (at r s))
          ≡ end
      joint o h p z rec (Router n t) c =
          spot_front (suc k) (at r s) (on (at n t)) (router_on r s o n t p c)
          ∙ rec n t (near wired c).0 (rw (charted.nexts r o n t l h c) at z)
      joint o h p z rec Nothing c = absurd (reach_idle by next (R pl) first charted.idle d k _
          (charted.offs r o l h (λ n t g. clash (sym c ∙ g))) z)
        where
          clash : {n t : ℕ} → Nothing ≡ Router n t → ⊥
          clash g = let z : ◌≡◌ {A = ℕ} 0 1 = cc in omega arith
      joint o h p z rec (Active i) c = absurd (reach_idle by next (R pl) first charted.idle d k _
          (charted.offs r o l h (λ n t g. clash (sym c ∙ g))) z)
        where
          clash : {n t : ℕ} → Active i ≡ Router n t → ⊥
          clash g = let z : ◌≡◌ {A = ℕ} 0 1 = cc in omega arith
      joint o h p z rec (Passive i) c = absurd (reach_idle by next (R pl) first charted.idle d k _
          (charted.offs r o l h (λ n t g. clash (sym c ∙ g))) z)
        where
          clash : {n t : ℕ} → Passive i ≡ Router n t → ⊥
          clash g = let z : ◌≡◌ {A = ℕ} 0 1 = cc in omega arith

      go : ((n t : ℕ) → n < R pl → reach_in by next first d k n ≡ true
          → spot (onward pl (interface_at pl.head d)) (suc k) (on (at n t)) ≡ end)
          → (has (get_or first r 0) d ≡ true)
          ⊎ ((o : ℕ) × (o < 4) × (has (side_set by next r o) d ≡ true) ×
          (reach_in by next first d k (beyond by next r o) ≡ true))
          → spot (onward pl (interface_at pl.head d)) (suc (suc k)) (on (at r s)) ≡ end
      go rec (inl a) = spot_front (suc k) (at r s) end (first_end r s l a) ∙ spot_over (suc k)
      go rec (inr (o, h, p, z)) = joint o h (eqb-true _ _ (sym (charted.sides r o d l h known) ∙ p)) z rec
          (pl.joint r o) refl

  -- ---- what a walk reaches in k steps is reached
  reaches_walk : (k : ℕ) (x : Port) → x.router < R pl → spot (onward pl (interface_at pl.head d)) k (on x) ≡ end
      → reach_in by next first d k x.router ≡ true
  reaches_walk zero x l q = absurd (on_end (sym (spot_none (onward pl (interface_at pl.head d)) (on x)) ∙ q))
  reaches_walk (suc k) x l q = go (λ y m z. reaches_walk k y m z) (onward pl (interface_at pl.head d) x) refl
    where
      r : ℕ
      r = x.router

      is : onward pl (interface_at pl.head d) x ≡ through (interface_at pl.head d)
          (pl.joint x.router (pl.route x.router d))
      is = step_is x.router x.side

      go : ((y : Port) → y.router < R pl → spot (onward pl (interface_at pl.head d)) k (on y) ≡ end
          → reach_in by next first d k y.router ≡ true)
          → (z : Spot Port) → onward pl (interface_at pl.head d) x ≡ z
          → reach_in by next first d (suc k) x.router ≡ true
      go rec (on y) c =
          let j : pl.joint x.router (route_to pl (interface_at pl.head d) x.router)
          ≡ Router y.router y.side = onward_on pl (interface_at pl.head d) x y c in
          let p : route_to pl (interface_at pl.head d) x.router
          ≡ pl.route x.router d = ap (pl.route x.router) (column_at pl d) in
          let i : pl.joint x.router (pl.route x.router d) ≡ Router y.router y.side = rw p at j in
          let s = (wired.inside x.router (pl.route x.router d) (λ g. clash (sym g ∙ i))).1 in
          reach_through by next first d k x.router (pl.route x.router d) s
          (charted.sides x.router (pl.route x.router d) d l s known
          ∙ eq-eqb (pl.route x.router d) (pl.route x.router d) refl)
          (rw (charted.nexts x.router (pl.route x.router d) y.router y.side l s i)
          (rec y (near wired i).0 (sym (spot_front k x (on y) c) ∙ q)))
        where
          clash : {n t : ℕ} → Nothing ≡ Router n t → ⊥
          clash g = let z : ◌≡◌ {A = ℕ} 0 1 = cc in omega arith
      go rec end c = reach_here by next first d (suc k) x.router
          (charted.firsts x.router d l known ∙ leads (leads_to (interface_at pl.head d)
          (pl.joint x.router (pl.route x.router d))) refl)
        where
          into_end : (j : Joint) → into j ≡ end → ⊥
          into_end Nothing q = let z : ◌≡◌ {A = ℕ} 0 1 = cc in omega arith
          into_end (Router n t) q = let z : ◌≡◌ {A = ℕ} 0 1 = cc in omega arith
          into_end (Active n) q = let z : ◌≡◌ {A = ℕ} 0 1 = cc in omega arith
          into_end (Passive n) q = let z : ◌≡◌ {A = ℕ} 0 1 = cc in omega arith

          leads : (b : Bool) → leads_to (interface_at pl.head d) (pl.joint x.router (pl.route x.router d))
              ≡ b → b ≡ true
          leads true f = refl
          leads false f = absurd (into_end (pl.joint x.router (pl.route x.router d)) (rw f at (sym is ∙ c)))
      go rec lost c = absurd (end_lost (sym q ∙ spot_front k x lost c ∙ spot_gone k))

  -- ---- so the sets that the sweeps leave are the walks that arrive
  pub reached_arrives : (full : ℕ) (t : List ℕ) → Reached by next (R pl) full first t → has full d ≡ true
      → (x : Port) → x.router < R pl
      → has (get_or t x.router 0) d ≡ arrives pl (interface_at pl.head d) x
  unfolding arrives
  reached_arrives full t w f x l = same_test _ _ to from
    where
      over : (k : ℕ) × (reach_in by next first d k x.router ≡ true) → arrives pl (interface_at pl.head d) x ≡ true
      over (k, q) =
          arrives_of wired (interface_at pl.head d) x l
          (way_of_end (onward pl (interface_at pl.head d)) router_of (alike pl (interface_at pl.head d))
          (suc k) x (walk_reaches k x.router x.side l q)).0

      to : has (get_or t x.router 0) d ≡ true → arrives pl (interface_at pl.head d) x ≡ true
      to q = over (w.sound x.router d q)

      from : arrives pl (interface_at pl.head d) x ≡ true → has (get_or t x.router 0) d ≡ true
      from q = w.complete (R pl) x.router d (omega arith) l f (reaches_walk (R pl) x l (end_of _ q))
