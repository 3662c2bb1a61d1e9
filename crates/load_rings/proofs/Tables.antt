-- Load's tables of joints and homes tell what the plan of these tables says.
use mathlib.Core.Path.{◌≡◌, refl}
use mathlib.Core.List.{List}
use Prim.Native.Nat.{ℕ, ◌/◌, ◌≤◌, ◌<◌}
use native.Mathlib.Omega.{arith}
use lib.ListN.{get_or, replicate}
use borrow.Author.Tests.{lt-ltb}
use Rattle.basis.specs.Fold.{fill_at}
use Rattle.plan.specs.declared.Head.{Head}
use Rattle.plan.specs.Head.{destinations}
use Rattle.plan.specs.Plan.{Plan, active, A}
use Rattle.plan.specs.Rules.{home, ports_of, port_or0}
use Rattle.plan.specs.Tables.{table_plan, interface_at, homes_of}
use Rattle.plan_walks.specs.Drawn.{Sides, Arrivals, Serves}
use Rattle.plan.specs.Head.{Counts}
use Rattle.plan_facts.specs.Wired.{Wired}
use Rattle.load_rings.specs.Told.{Told}

-- the port of an active's home stands in the table of homes
home_at : (pl : Plan) (a : ℕ) → destinations pl.head ≤ 32 → a < A pl
    → get_or (homes_of pl) a 0 / 4 ≡ (home pl (active a)).router
unfolding homes_of home
home_at pl a room l =
    rw (
      fill_at {A = ℕ} (λ d. port_or0 (ports_of pl (interface_at pl.head d))) (destinations pl.head)
          (replicate 32 0) a 0 (omega arith) room,
      lt-ltb a (A pl) l,
    )

-- with sides, arrivals and served pairs drawn as sets, the tables tell all that the search for a ring wants
pub tables_told : (h : Head) (routes : List (List ℕ)) (joints : List ℕ) {homes arrive serve : List ℕ}
    {by : List (List ℕ)} → Counts h
    → Wired (table_plan h routes joints) → homes ≡ homes_of (table_plan h routes joints)
    → Sides (table_plan h routes joints) by
    → Arrivals (table_plan h routes joints) arrive → Serves (table_plan h routes joints) serve
    → Told (table_plan h routes joints) h by joints homes arrive serve
unfolding table_plan
tables_told h routes joints f w e s a v = record {
  same = refl;
  wired = w;
  sides = s;
  joined = λ r o lr lo. rw (lt-ltb o 4 lo);
  homed = λ b lb. rw e (home_at (table_plan h routes joints) b (omega arith) lb);
  arrivals = a;
  serves = v;
}
