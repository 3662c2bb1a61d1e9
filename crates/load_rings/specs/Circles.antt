-- What a ring of feeding queues is, by links and crossings: links that the walks of served pairs go by, each for the
-- next one, or crossings that answers go by one after the other.
use Rattle.std.specs.Prelude.{◌≡◌, ℕ, ◌<◌}
use Rattle.basis.specs.Walk.{on}
use Rattle.basis.specs.Ring.{Ring}
use Rattle.plan.specs.Plan.{Plan, Port, active, passive, A, P, route_to}
use Rattle.plan.specs.Rules.{home}
use Rattle.plan_walks.specs.Walk.{onward}
use Rattle.plan_walks.specs.Served.{Served}
use Rattle.plan_queues.specs.Feeds.{Meets}

-- ---- set-ups and tear-downs
-- a link is a router with the side by which a walk leaves it. The walk of a served pair leaves by the link x and then,
-- from the next router, by the link y
pub record Trails (pl : Plan) (x y : Port) : Type 0 where
  pub a : ℕ
  pub p : ℕ
  pub has_active : a < A pl
  pub has_passive : p < P pl
  pub serves : Served pl a p
  pub from : ℕ
  pub met : Meets pl (passive p) (home pl (active a)) (record { router = x.router; side = from })
  pub leaves : x.side ≡ route_to pl (passive p) x.router
  pub into : ℕ
  pub next : onward pl (passive p) (record { router = x.router; side = from })
      ≡ on (record { router = y.router; side = into })
  pub turns : y.side ≡ route_to pl (passive p) y.router

abbrev pub WalkRing : Plan → Type 0
WalkRing pl = Ring (Trails pl)

-- ---- answers
-- answers to active a leave the router of y: they set out from a router of a served pair's walk, or from the passive
-- behind its last, and their way back meets y
pub record Answers (pl : Plan) (a : ℕ) (y : Port) : Type 0 where
  pub p : ℕ
  pub has_active : a < A pl
  pub has_passive : p < P pl
  pub serves : Served pl a p
  pub start : Port
  pub met : Meets pl (passive p) (home pl (active a)) start
  pub way : Meets pl (active a) start y

-- a router crossed from a side to another: K[i,o]
pub record Crossing : Type 0 where
  pub into : Port
  pub out : ℕ

-- answers to one active come from a router, go by the crossing x and then by the crossing y
pub record Hands (pl : Plan) (x y : Crossing) : Type 0 where
  pub a : ℕ
  pub before : Port
  pub answers : Answers pl a before
  pub enters : onward pl (active a) before ≡ on x.into
  pub leaves : x.out ≡ route_to pl (active a) x.into.router
  pub goes : onward pl (active a) x.into ≡ on y.into
  pub turns : y.out ≡ route_to pl (active a) y.into.router

abbrev pub AnswerRing : Plan → Type 0
AnswerRing pl = Ring (Hands pl)
