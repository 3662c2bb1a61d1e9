-- Where a packet of a pair may be, its hub left aside: the queues that a set-up or an answer visits.
use Rattle.std.specs.Prelude.{◌≡◌, ◌⊎◌, ℕ}
use Rattle.basis.specs.Walk.{on}
use Rattle.plan.specs.Plan.{Plan, Port, active, passive, route_to}
use Rattle.plan.specs.Rules.{home}
use Rattle.plan_walks.specs.Walk.{onward}
use Rattle.plan_queues.specs.Queue.{Queue, active_out, active_in, passive_in, passive_out, U, Q, F, K}
use Rattle.plan_queues.specs.Feeds.{Heading, ahead, back, Meets}

-- router r is on the pair's walk
abbrev pub OnWalk : Plan → ℕ → ℕ → ℕ → Type 0
OnWalk pl a p r = (i : ℕ) × Meets pl (passive p) (home pl (active a)) (record { router = r; side = i })

-- an answer of the pair comes in by y: back from the passive, or from the unit of a router x on the walk by the next
-- router z
abbrev pub Comes : Plan → ℕ → ℕ → Port → Type 0
Comes pl a p y =
    Meets pl (active a) (home pl (passive p)) y
    ⊎ ((x z : Port) × Meets pl (passive p) (home pl (active a)) x × (onward pl (active a) x ≡ on z)
    × Meets pl (active a) z y)

unfoldable pub Visits : Plan → Heading → ℕ → ℕ → Queue → Type 0
Visits pl ahead a p (active_out x) = x ≡ a
Visits pl ahead a p (U r i) = Meets pl (passive p) (home pl (active a)) (record { router = r; side = i })
Visits pl ahead a p (Q r i) = Meets pl (passive p) (home pl (active a)) (record { router = r; side = i })
Visits pl ahead a p (F back r o) = ⊥
Visits pl ahead a p (F ahead r o) = OnWalk pl a p r × (o ≡ route_to pl (passive p) r)
Visits pl ahead a p (passive_in x) = x ≡ p
Visits pl ahead a p (active_in x) = ⊥
Visits pl ahead a p (passive_out x) = ⊥
Visits pl ahead a p (K r i o) = ⊥
Visits pl back a p (passive_out x) = x ≡ p
Visits pl back a p (Q r i) = Meets pl (passive p) (home pl (active a)) (record { router = r; side = i })
Visits pl back a p (F ahead r o) = ⊥
Visits pl back a p (F back r o) = OnWalk pl a p r × (o ≡ route_to pl (active a) r)
Visits pl back a p (K r i o) = Comes pl a p (record { router = r; side = i }) × (o ≡ route_to pl (active a) r)
Visits pl back a p (active_in x) = x ≡ a
Visits pl back a p (active_out x) = ⊥
Visits pl back a p (passive_in x) = ⊥
Visits pl back a p (U r i) = ⊥
