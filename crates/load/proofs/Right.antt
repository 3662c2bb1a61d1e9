-- The tables that an accepted Load lent are right: they give the plan of the bytes, walks can be swept with them, and
-- the ports of its interfaces are ports.
use Rattle.std.specs.Prelude.{Result, Ok}
use Rattle.kinds.specs.declared.Refusal.{Refusal}
use mathlib.Core.Path.{◌≡◌, sym, ap, ◌∙◌}
use mathlib.Core.Bool.{false}
use mathlib.Core.List.{List, []}
use Prim.Native.Nat.{ℕ, ◌+◌, ◌≤◌, ◌<◌}
use lib.ListN.{get_or}
use Rattle.sets.specs.Sets.{has}
use Rattle.plan.specs.declared.Head.{Head}
use Rattle.plan.specs.Head.{Counts}
use Rattle.plan.specs.Plan.{plan_of}
use Rattle.plan.specs.Tables.{table_plan}
use Rattle.plan_routes.specs.Sides.{sides_of}
use Rattle.load_arrivals.specs.Pairs.{Tables}
use Rattle.load_arrivals.specs.Tables.{PortsIn}
use Rattle.load.specs.Load.{load_of, load_routes, load_sides, Filled}
use Rattle.load.specs.Rules.{passes, passed_wired}
use Rattle.load.specs.Lent.{Lent, lent}
use Rattle.load.proofs.Exits.{range_counts, tables_of, sweeps_ready}

module _ {b : List ℕ} {h : Head} {l : Result Head Refusal} {routes : List (List ℕ)} {joints homes : List ℕ}
    {lengths by : List (List ℕ)} (f : Filled b l routes joints homes lengths by) (told : l ≡ Ok h) where
  loads : load_of b ≡ Ok h
  loads = sym f.answer ∙ told

  pub lent_right : Lent b h routes joints homes lengths
  lent_right = lent b routes joints homes lengths f.answer told f.routed f.joined f.homed f.sized

  pub lent_plan : plan_of b ≡ table_plan h routes joints
  lent_plan = sym lent_right.plan

  pub lent_counts : Counts h
  lent_counts = range_counts h lent_right.range

  pub lent_tables : Tables h routes joints homes by
  unfolding table_plan
  lent_tables =
      let p = passes b h loads in
      tables_of b h routes joints homes by p.1 lent_right.range lent_right.plan (passed_wired b p.0)
      (f.routed ∙ ap (load_routes b routes) loads) lent_right.ports
      (f.sided ∙ ap (load_sides b by) loads ∙ ap sides_of lent_plan)

  pub lent_ports : PortsIn homes (h.actives + h.passives)
  lent_ports = (sweeps_ready h routes joints homes by lent_counts lent_tables).1

  -- no set of a router past the plan's has a member
  pub lent_past : (r o d : ℕ) → h.routers ≤ r → o < 4 → has (get_or (get_or by r []) o 0) d ≡ false
  lent_past = (sweeps_ready h routes joints homes by lent_counts lent_tables).2
