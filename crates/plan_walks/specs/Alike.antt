-- A walk goes by the router that it stands on, not by the side that it came in by: from two ports of one router it
-- arrives alike.
use Rattle.std.specs.Prelude.{◌≡◌, refl, ℕ, zero, suc}
use Rattle.std.proofs.Common.{ap}
use Rattle.basis.specs.Walk.{on, is_end, go, spot}
use Rattle.plan.specs.Plan.{Plan, Port, Interface, R, route_to}
use Rattle.plan_walks.specs.Walk.{through, onward, walked, arrives}

pub onward_alike : (pl : Plan) (e : Interface) (x y : Port) → x.router ≡ y.router → onward pl e x ≡ onward pl e y
unfolding onward
onward_alike pl e x y q = ap (λ (r : ℕ). through e (pl.joint r (route_to pl e r))) q

-- after one router or more they stand alike
pub walked_alike : (pl : Plan) (e : Interface) (k : ℕ) (x y : Port) → x.router ≡ y.router
    → walked pl e (suc k) x ≡ walked pl e (suc k) y
unfolding spot
walked_alike pl e zero x y q = onward_alike pl e x y q
walked_alike pl e (suc k) x y q = ap (go (onward pl e)) (walked_alike pl e k x y q)

pub arrives_alike : (pl : Plan) (e : Interface) (x y : Port) → x.router ≡ y.router → arrives pl e x ≡ arrives pl e y
unfolding arrives spot
arrives_alike pl e x y q = by (R pl)
  where
    none : is_end (on x) ≡ is_end (on y)
    none = refl

    by : (n : ℕ) → is_end (walked pl e n x) ≡ is_end (walked pl e n y)
    by zero = none
    by (suc n) = ap is_end (walked_alike pl e n x y q)
