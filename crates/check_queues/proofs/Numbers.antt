-- A packet's numbers, as the code tests them.
use mathlib.Core.Path.{◌≡◌, sym, ap, ◌∙◌}
use mathlib.Core.Logic.{◌⊎◌, inl, inr, ◌≢◌}
use mathlib.Core.Bool.{Bool, true, false, not}
use mathlib.Core.List.{List, []}
use Prim.Native.Nat.{ℕ, ◌≤◌, ◌<◌}
use native.Mathlib.Omega.{arith}
use lib.Dec.{eqb}
use lib.ListN.{get_or}
use borrow.Author.Tests.{lt-ltb, le-ltb, le-leb, lt-leb, ne_eqb}
use Rattle.basis.specs.Choice.{also, test}
use Rattle.packets.specs.declared.Packet.{Packet}
use Rattle.plan.specs.declared.Head.{Head}
use Rattle.plan.specs.Plan.{Plan, active, passive}
use Rattle.plan.specs.Tables.{table_plan}
use Rattle.plan.specs.Rules.{home}
use Rattle.plan_walks.specs.Served.{Served, served}
use Rattle.plan_walks.specs.Walk.{walk_size}
use Rattle.plan_facts.proofs.Joints.{interface_some}
use Rattle.plan_journeys.proofs.Walks.{served_of, size_is}
use Rattle.load_arrivals.specs.Pairs.{pair_walk}
use Rattle.load.specs.Lent.{length_at_lem}
use Rattle.valid.specs.Test.{packet_test}
use Rattle.next_queue.specs.Lent.{Lent}

module _ (h : Head) (lengths routes : List (List ℕ)) (joints homes : List ℕ) (by : List (List ℕ))
    (lent : Lent h routes joints homes lengths by) (x : Packet) where
  abbrev net : Plan
  net = table_plan h routes joints

  abbrev whole : Bool
  whole = also (packet_test net x) (served net x.active x.passive)

  pub active_out_lem : h.actives ≤ x.active → false ≡ whole
  unfolding packet_test table_plan
  active_out_lem a = rw (le-ltb x.active h.actives a)

  pub passive_out_lem : x.active < h.actives → h.passives ≤ x.passive → false ≡ whole
  unfolding packet_test table_plan
  passive_out_lem a p = rw (lt-ltb x.active h.actives a, le-ltb x.passive h.passives p)

  pub slot_out : x.active < h.actives → x.passive < h.passives → h.slots ≤ x.slot.0 → false ≡ whole
  unfolding packet_test table_plan
  slot_out a p t =
      rw (lt-ltb x.active h.actives a, lt-ltb x.passive h.passives p, le-ltb x.slot.0 h.slots t)

  pub hub_out : x.active < h.actives → x.passive < h.passives → x.slot.0 < h.slots → 16 < x.hub.0
      → false ≡ whole
  unfolding packet_test table_plan
  hub_out a p t u =
      rw (
        lt-ltb x.active h.actives a,
        lt-ltb x.passive h.passives p,
        lt-ltb x.slot.0 h.slots t,
        lt-leb x.hub.0 16 u,
      )

  -- a served pair's walk has a router
  long : x.active < h.actives → served net x.active x.passive ≡ true
      → walk_size net (passive x.passive) (home net (active x.active)) ≢ 0
  unfolding table_plan
  long a s z =
      let wired = lent.tables.chart.wired in
      let v : Served net x.active x.passive = served_of wired x.active x.passive a s in
      let j = wired.joined (active x.active) a in
      let i = wired.inside (home net (active x.active)).router (home net (active x.active)).side
      (λ y. interface_some (active x.active) (sym j.there ∙ y)) in
      let e = size_is wired (passive x.passive) (home net (active x.active)) i.0 v.ahead in
      let k = v.ahead.some in
      omega arith

  -- so its length says whether it is served
  length_served : x.active < h.actives → x.passive < h.passives
      → not (eqb (get_or (get_or lengths x.active []) x.passive 0) 0) ≡ served net x.active x.passive
  unfolding table_plan pair_walk
  length_served a p =
      ap (λ (n : ℕ). not (eqb n 0))
      (ap (λ (t : List (List ℕ)). get_or (get_or t x.active []) x.passive 0) lent.sizes
      ∙ length_at_lem net x.active x.passive lent.range.actives.1 lent.range.passives.1 a p)
      ∙ cases (test (served net x.active x.passive))
    where
      cases : (served net x.active x.passive ≡ true) ⊎ (served net x.active x.passive ≡ false)
          → not (eqb (pair_walk net x.active x.passive) 0) ≡ served net x.active x.passive
      cases (inl s) = rw (s, ne_eqb _ 0 (long a s))
      cases (inr s) = rw s

  pub numbers_in : x.active < h.actives → x.passive < h.passives → x.slot.0 < h.slots → x.hub.0 ≤ 16
      → not (eqb (get_or (get_or lengths x.active []) x.passive 0) 0) ≡ whole
  unfolding packet_test table_plan
  numbers_in a p t u =
      rw (
        lt-ltb x.active h.actives a,
        lt-ltb x.passive h.passives p,
        lt-ltb x.slot.0 h.slots t,
        le-leb x.hub.0 16 u,
      ) (length_served a p)
