-- 'eight capacities of 3 bits, 1 to 7: active out, active in, U, Q, F, K, passive in, passive out'
use Rattle.std.specs.Prelude.{ℕ}
use Rattle.plan.specs.declared.Head.{Head}
use Rattle.plan_queues.specs.Queue.{Queue, active_out, active_in, passive_in, passive_out, U, Q, F, K}

-- the capacity of a queue, by its kind
abbrev pub capacity : Head → Queue → ℕ
capacity h (active_out a) = h.aout.0
capacity h (active_in a) = h.ain.0
capacity h (passive_in p) = h.pin.0
capacity h (passive_out p) = h.pout.0
capacity h (U r i) = h.u.0
capacity h (Q r i) = h.q.0
capacity h (F g r o) = h.f.0
capacity h (K r i o) = h.k.0
