-- What a queue does with its packets: the four roles by which the rules tell queues apart.
use Rattle.std.specs.Prelude.{◌≡◌, refl, ◌⊎◌, Bool, true, false, ℕ}
use Rattle.std.proofs.Common.{inl, inr}
use Rattle.plan_queues.specs.Queue.{Queue, active_out, active_in, passive_in, passive_out, U, Q, F, K}

pub data Role : Type 0 where
  -- an interface's out-queue: no wire feeds it
  sending : Role
  -- an interface's in-queue: its packets leave by no wire
  receiving : Role
  -- Q, at the unit of this router, of what came in by this side: its head is handled before it leaves
  handling : ℕ → ℕ → Role
  -- U, F and K: a wire feeds them, and what comes in leaves as it is
  passing : Role

abbrev pub role : Queue → Role
role (active_out a) = sending
role (active_in a) = receiving
role (passive_in p) = receiving
role (passive_out p) = sending
role (U r i) = passing
role (Q r i) = handling r i
role (F h r o) = passing
role (K r i o) = passing

-- is it the queue at a unit?
abbrev pub is_unit_as : Role → Bool
is_unit_as sending = false
is_unit_as receiving = false
is_unit_as (handling r i) = true
is_unit_as passing = false

abbrev pub is_unit : Queue → Bool
is_unit q = is_unit_as (role q)

-- is it an interface's out-queue?
abbrev pub is_out_queue_as : Role → Bool
is_out_queue_as sending = true
is_out_queue_as receiving = false
is_out_queue_as (handling r i) = false
is_out_queue_as passing = false

abbrev pub is_out_queue : Queue → Bool
is_out_queue q = is_out_queue_as (role q)

-- a queue is a unit's, or it is not
pub unit_or : (q : Queue) → ((r i : ℕ) × (q ≡ Q r i)) ⊎ (is_unit q ≡ false)
unit_or (active_out a) = inr refl
unit_or (active_in a) = inr refl
unit_or (passive_in p) = inr refl
unit_or (passive_out p) = inr refl
unit_or (U r i) = inr refl
unit_or (Q r i) = inl (r, i, refl)
unit_or (F h r o) = inr refl
unit_or (K r i o) = inr refl
