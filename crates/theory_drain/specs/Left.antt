-- How many steps a packet still has before it, at most. A step takes a packet out of a queue (a move by Execute or
-- Write, a Reply, a Drop) or marks a NACK. A set-up counts its way to the passive, the answer, the way back, and what
-- is torn down after a decline; an answer the way back and what may be torn down; a tear-down its routers.
use Rattle.std.specs.Prelude.{ℕ, ◌+◌, ◌*◌, ◌-◌}
use Rattle.packets.specs.declared.Kind.{Kind}
use Rattle.packets.specs.declared.Kind.TheVariants.{Setup, Tdown, Ack, Nack}
use Rattle.plan.specs.Plan.{Plan, Port, active, passive}
use Rattle.plan.specs.Rules.{home}
use Rattle.plan_walks.specs.Walk.{walk_size}
use Rattle.plan_queues.specs.Queue.{ahead, back, active_out, active_in, passive_in, passive_out, U, Q, F, K}
use Rattle.plan_queues.specs.Feeds.{Place, in_queue, handled_at}
use Rattle.rules.specs.State.{State}
use Rattle.theory.specs.Weights.{Weight, weighed}

-- the routers on the way back to active a from a port, that port's among them
unfoldable pub way_back : Plan → ℕ → Port → ℕ
way_back pl a x = walk_size pl (active a) x

-- a way back depends on its first router alone: by whatever side it is entered
abbrev pub at_router : ℕ → Port
at_router r = record { router = r; side = 0 }

-- a set-up with so many routers booked: three queues for each router that may be ahead, at most 16; beyond, at most 83
abbrev pub setup_left : ℕ → Place → ℕ
setup_left h (in_queue (active_out x)) = 84 + 3 * (16 - h)
setup_left h (in_queue (U r i)) = 83 + 3 * (16 - h)
setup_left h (in_queue (Q r i)) = 82 + 3 * (16 - h)
setup_left h (handled_at r i) = 85 + 3 * (16 - h)
setup_left h (in_queue (F ahead r o)) = 84 + 3 * (16 - h)
setup_left h (in_queue (passive_in x)) = 83 + 3 * (16 - h)
setup_left h (in_queue (active_in x)) = 0
setup_left h (in_queue (passive_out x)) = 0
setup_left h (in_queue (F back r o)) = 0
setup_left h (in_queue (K r i o)) = 0

-- a tear-down with so many routers ahead: three queues for each but the last, where it ends in the second
abbrev pub tdown_left : ℕ → Place → ℕ
tdown_left h (in_queue (active_out x)) = 3 * h
tdown_left h (in_queue (U r i)) = 3 * h - 1
tdown_left h (in_queue (Q r i)) = 3 * h - 2
tdown_left h (handled_at r i) = 3 * h + 1
tdown_left h (in_queue (F ahead r o)) = 3 * h
tdown_left h (in_queue (passive_in x)) = 0
tdown_left h (in_queue (active_in x)) = 0
tdown_left h (in_queue (passive_out x)) = 0
tdown_left h (in_queue (F back r o)) = 0
tdown_left h (in_queue (K r i o)) = 0

-- an answer with a hub: a queue for each router on its way back, its Drop, and four for each router that its marking
-- and tear-down may still cost
abbrev pub answer_left : Plan → ℕ → ℕ → Place → ℕ
answer_left pl a h (in_queue (passive_out x)) = way_back pl a (home pl (passive x)) + 2 + 4 * h
answer_left pl a h (in_queue (K r i o)) = way_back pl a (record { router = r; side = i }) + 1 + 4 * h
answer_left pl a h (in_queue (F back r o)) = way_back pl a (at_router r) + 1 + 4 * h
answer_left pl a h (handled_at r i) = way_back pl a (at_router r) + 2 + 4 * h
answer_left pl a h (in_queue (active_in x)) = 1 + 4 * h
answer_left pl a h (in_queue (active_out x)) = 0
answer_left pl a h (in_queue (passive_in x)) = 0
answer_left pl a h (in_queue (U r i)) = 0
answer_left pl a h (in_queue (Q r i)) = 0
answer_left pl a h (in_queue (F ahead r o)) = 0

abbrev pub left_kind : Plan → Kind → ℕ → ℕ → Place → ℕ
left_kind pl Setup a h at = setup_left h at
left_kind pl Tdown a h at = tdown_left h at
left_kind pl Ack a h at = answer_left pl a h at
left_kind pl Nack a h at = answer_left pl a h at

-- the steps that a packet has before it at a place, at most; on a wire as in its next queue
unfoldable pub left : Plan → Weight
left pl at x = left_kind pl x.kind x.active x.hub.0 at

-- all packets' together
unfoldable pub all_left : Plan → State → ℕ
all_left pl s = weighed pl (left pl) s
