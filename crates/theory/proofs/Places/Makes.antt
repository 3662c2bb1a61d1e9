-- What a rule makes of a packet belongs where the rule puts it: at a unit, at a passive, at an active, and from a
-- queue to the next.
use mathlib.Core.Path.{◌≡◌}
use mathlib.Core.Logic.{◌⊎◌, inl, inr}
use mathlib.Core.Option.{some}
use Prim.Native.Nat.{ℕ, ◌+◌, ◌-◌, ◌%◌, ◌≤◌, ◌<◌}
use native.Mathlib.Nat.{mod-lt}
use native.Mathlib.Omega.{arith}
use Rattle.kinds.specs.declared.Slot.{Slot}
use Rattle.kinds.specs.declared.Hub.{Hub}
use Rattle.packets.specs.declared.Kind.{Kind}
use Rattle.packets.specs.declared.Kind.TheVariants.{Setup, Tdown, Ack, Nack}
use Rattle.packets.specs.declared.Packet.{Packet}
use Rattle.plan.specs.Head.{InRange}
use Rattle.plan.specs.Plan.{Plan, passive, A, P, S, route_to}
use Rattle.plan_walks.specs.Served.{Served}
use Rattle.plan_queues.specs.Queue.{Queue, active_out, active_in, passive_in, passive_out, Q}
use Rattle.plan_queues.specs.Feeds.{Output, next, output_of, Place, in_queue, handled_at, Stands, span, Fits}
use Rattle.plan_queues.specs.Feeds.{leaves_from}
use Rattle.plan_facts.specs.Wired.{Wired}
use Rattle.rules.specs.Outputs.{next_by}
use Rattle.rules.specs.Execute.{came_in, declined, booked, freed, marked, tdown_of}
use Rattle.rules.specs.Visits.{setup_of, replied_as, closing_of}
use Rattle.rules.specs.Valid.{Belongs}
use Rattle.theory.proofs.Places.Closure.{stands_below, span_some, span_short, fits_next, unit_setup}
use Rattle.theory.proofs.Places.Closure.{unit_booked, unit_declined, unit_freed, unit_no_answer, passive_setup}
use Rattle.theory.proofs.Places.Closure.{passive_ack, passive_nack, active_answer, active_tdown, active_marked}
use Rattle.theory.proofs.Places.Closure.{active_setup}
use Rattle.theory.proofs.Places.CameIn.{stands_inside, stands_exit, came_in_lem}

-- what keeps a packet's pair belongs where its kind and hub fit
belongs_as : (pl : Plan) (from at : Place) (x : Packet) (kind : Kind) (slot : Slot) (hub : Hub) → Belongs pl from x
    → Fits pl kind x.active x.passive hub.0 at → slot.0 < S pl → hub.0 ≤ 16
    → Belongs pl at (record { kind = kind; active = x.active; passive = x.passive; slot = slot; hub = hub })
belongs_as pl from at x kind slot hub b f t h =
    record {
      ranges = record { active = b.ranges.active; passive = b.ranges.passive; slot = t; hub = h };
      serves = b.serves;
      fits = f;
    }

module _ {pl : Plan} (wired : Wired pl) (range : InRange pl.head) where
  -- a number modulo S is a slot of the plan
  pub slot_in : (n : ℕ) → n % S pl < S pl
  slot_in n = mod-lt n (omega (arith, range.slots))

  -- a launched SETUP belongs in its active's out-queue
  pub setup_belongs : (a p t : ℕ) → a < A pl → p < P pl → t < S pl → Served pl a p
      → Belongs pl (in_queue (active_out a)) (setup_of a p t)
  setup_belongs a p t ha hp ht s =
      record {
        ranges = record { active = ha; passive = hp; slot = ht; hub = omega arith };
        serves = s;
        fits = active_setup wired a p ha hp s;
      }

  -- a closing TDOWN belongs there too: the whole walk is ahead of it
  pub closing_belongs : (a p t : ℕ) → a < A pl → p < P pl → t < S pl → Served pl a p
      → Belongs pl (in_queue (active_out a)) (closing_of pl a p t)
  closing_belongs a p t ha hp ht s =
      let short = span_short wired a p ha hp s in
      record {
        ranges = record { active = ha; passive = hp; slot = ht; hub = omega (arith, range.routers) };
        serves = s;
        fits = active_tdown wired a p ha hp s (span pl a p) (span_some wired a p ha hp s) (omega arith);
      }

  module _ (x : Packet) (from : Place) (here : Belongs pl from x) where
    abbrev a : ℕ
    a = x.active

    abbrev p : ℕ
    p = x.passive

    abbrev ha : a < A pl
    ha = here.ranges.active

    abbrev hp : p < P pl
    hp = here.ranges.passive

    abbrev served : Served pl a p
    served = here.serves

    -- a packet that belongs where it leaves a queue from belongs in the queue that it goes to by that queue's output
    pub next_belongs : (q y : Queue) (o : Output) → from ≡ leaves_from q → output_of q ≡ some o → next_by pl o x ≡ some
        y
        → Belongs pl (in_queue y) x
    unfolding next
    next_belongs q y o f e n =
        record {
          ranges = here.ranges;
          serves = here.serves;
          fits = fits_next wired a p ha hp served x.kind x.hub.0 q y (rw f at here.fits) (rw e n);
        }

    -- ---- at a unit
    module _ (r i : ℕ) (unit : from ≡ in_queue (Q r i)) where
      -- an unhandled packet at a unit stands there on its walk
      pub unit_stands : (n : ℕ) × Stands pl a p n r i
      unit_stands = by x.kind (rw unit at here.fits)
        where
          by : (k : Kind) → Fits pl k a p x.hub.0 (in_queue (Q r i)) → (n : ℕ) × Stands pl a p n r i
          by Setup f = (x.hub.0, unit_setup wired a p ha hp served r i x.hub.0 f)
          by Tdown f = (f.0, unit_setup wired a p ha hp served r i f.0 f.1)
          by Ack f = absurd ((unit_no_answer wired a p ha hp served r i x.hub.0).0 f)
          by Nack f = absurd ((unit_no_answer wired a p ha hp served r i x.hub.0).1 f)

      -- the side by which it leaves is one of the four
      pub side_out : route_to pl (passive p) r < 4
      side_out = let s = unit_stands in stands_exit wired a p ha hp served s.0 r i s.1

      -- and so is the side by which its walk came in
      pub side_in : came_in pl a p r < 4
      side_in =
          let s = unit_stands in
          rw (came_in_lem wired a p ha hp served s.0 r i s.1)
          (stands_inside wired a p ha hp served s.0 r i s.1).1

      -- a booked SETUP belongs there as handled
      pub booked_belongs : x.kind ≡ Setup → Belongs pl (handled_at r i) (booked (S pl) x)
      booked_belongs q =
          let f : Fits pl Setup a p x.hub.0 (in_queue (Q r i)) = rw (unit, q) at here.fits in
          let s = unit_setup wired a p ha hp served r i x.hub.0 f in
          let before = stands_below wired a p ha hp served x.hub.0 (record { router = r; side = i }) s in
          let short = span_short wired a p ha hp served in
          belongs_as pl from (handled_at r i) x x.kind (booked (S pl) x).slot (booked (S pl) x).hub here
          (rw q (unit_booked wired a p ha hp served r i x.hub.0 f)) (slot_in (x.slot.0 + 1))
          (omega (arith, range.routers))

      -- so does the NACK that a SETUP becomes
      pub declined_belongs : x.kind ≡ Setup → Belongs pl (handled_at r i) (declined x)
      declined_belongs q =
          belongs_as pl from (handled_at r i) x Nack (declined x).slot (declined x).hub here
          (unit_declined wired a p ha hp served r i x.hub.0 (rw (unit, q) at here.fits)) here.ranges.slot
          here.ranges.hub

      -- and a TDOWN that has more to free
      pub freed_belongs : x.kind ≡ Tdown → (x.hub.0 ≡ 1 → ⊥) → Belongs pl (handled_at r i) (freed (S pl) x)
      freed_belongs q more =
          let f : Fits pl Tdown a p x.hub.0 (in_queue (Q r i)) = rw (unit, q) at here.fits in
          belongs_as pl from (handled_at r i) x x.kind (freed (S pl) x).slot (freed (S pl) x).hub here
          (rw q (unit_freed wired a p ha hp served r i x.hub.0 (omega (arith, f.2)) f)) (slot_in (x.slot.0 + 1))
          (omega (arith, here.ranges.hub))

    -- ---- at a passive
    -- the answer to a SETUP belongs in the out-queue
    pub replied_belongs : (y : ℕ) (kind : Kind) → from ≡ in_queue (passive_in y) → (kind ≡ Ack) ⊎ (kind ≡ Nack)
        → Belongs pl (in_queue (passive_out y)) (replied_as kind x)
    replied_belongs y kind there answer = belongs_as pl from (in_queue (passive_out y)) x kind x.slot x.hub here
        (fits answer) here.ranges.slot here.ranges.hub
      where
        own : (x.kind ≡ Setup) × (y ≡ p) × (x.hub.0 ≡ span pl a p)
        own = passive_setup wired a p ha hp served x.kind x.hub.0 y (rw there at here.fits)

        fits : (kind ≡ Ack) ⊎ (kind ≡ Nack) → Fits pl kind a p x.hub.0 (in_queue (passive_out y))
        fits (inl q) = rw (q, own.1) (passive_ack wired a p ha hp served x.hub.0 own.2)
        fits (inr q) = rw (q, own.1) (passive_nack wired a p ha hp served x.hub.0 own.2)

    -- ---- at an active
    module _ (y : ℕ) (there : from ≡ in_queue (active_in y)) where
      own : (y ≡ a) × (x.hub.0 ≤ span pl a p) × ((x.kind ≡ Ack) ⊎ (x.kind ≡ Nack))
      own = active_answer wired a p ha hp served x.kind x.hub.0 y (rw there at here.fits)

      -- a NACK that is marked belongs where it was
      pub marked_belongs : x.kind ≡ Nack → Belongs pl (in_queue (active_in y)) (marked x)
      marked_belongs q =
          belongs_as pl from (in_queue (active_in y)) x x.kind x.slot (marked x).hub here
          (rw (q, own.0) (active_marked wired a p ha hp served))
          here.ranges.slot (omega arith)

      -- its TDOWN belongs in the out-queue
      pub tdown_belongs : 1 ≤ x.hub.0 → Belongs pl (in_queue (active_out y)) (tdown_of (S pl) x)
      tdown_belongs h =
          let slot = slot_in (x.slot.0 + (S pl - x.hub.0 % S pl)) in
          belongs_as pl from (in_queue (active_out y)) x Tdown (tdown_of (S pl) x).slot (tdown_of (S pl) x).hub here
          (rw own.0 (active_tdown wired a p ha hp served x.hub.0 h own.1))
          (omega (arith, here.ranges.slot)) here.ranges.hub
