-- Each queue is fed by one output, and is a sender of one output: so two outputs never meet in a credit, a wire or a
-- queue. And a queue in which a packet may be is fed by a wire, or it is an interface's out-queue.
use mathlib.Core.Path.{◌≡◌, refl, sym, ap, ◌∙◌}
use mathlib.Core.Logic.{◌≢◌}
use mathlib.Core.Bool.{true, not}
use mathlib.Core.Option.{Option, none, some}
use Prim.Native.Nat.{ℕ, zero, suc, ◌<◌}
use Rattle.packets.specs.declared.Packet.{Packet}
use Rattle.plan.specs.declared.Joint.{Joint}
use Rattle.plan.specs.declared.Joint.TheVariants.{Nothing, Router, Active, Passive}
use Rattle.plan.specs.Plan.{Plan, Port, active, passive, A, P}
use Rattle.plan.specs.Rules.{home}
use Rattle.plan_walks.specs.Served.{Served}
use Rattle.plan_queues.specs.Queue.{Queue, active_out, active_in, passive_in, passive_out, U, Q, F, K}
use Rattle.plan_queues.specs.Role.{is_out_queue}
use Rattle.plan_queues.specs.Feeds.{Heading, ahead, back, heading_of, Output, of_active, of_passive, of_side, to_unit}
use Rattle.plan_queues.specs.Feeds.{from_unit}
use Rattle.plan_queues.specs.Feeds.{enters, across, beyond, output_of, leaves_from}
use Rattle.plan_facts.specs.Wired.{Wired}
use Rattle.plan_journeys.specs.Visits.{Visits}
use Rattle.plan_journeys.proofs.Places.{some_same, some_not_none, walk_joined, returns_joined}
use Rattle.plan_journeys.proofs.Fitting.{fits_visits}
use Rattle.rules.specs.Outputs.{senders}
use Rattle.rules.specs.Valid.{Belongs, Drives, is_joined, fed}
use Rattle.rules.specs.Write.{of_rank}

-- ---- the output that feeds a queue
-- what leads in to a router's side
abbrev leads_in : Joint → Option Output
leads_in Nothing = none
leads_in (Router n t) = some (of_side n t)
leads_in (Active n) = some (of_active n)
leads_in (Passive n) = some (of_passive n)

abbrev pub feeder : Plan → Queue → Option Output
feeder pl (active_out x) = none
feeder pl (passive_out x) = none
feeder pl (active_in x) = some (of_side (home pl (active x)).router (home pl (active x)).side)
feeder pl (passive_in x) = some (of_side (home pl (passive x)).router (home pl (passive x)).side)
feeder pl (U r i) = leads_in (pl.joint r i)
feeder pl (Q r i) = some (to_unit r)
feeder pl (F h r o) = some (from_unit r)
feeder pl (K r i o) = leads_in (pl.joint r i)

module _ {pl : Plan} (wired : Wired pl) where
  entered : (h : Heading) (a p : ℕ) (x : Port)
      → feeder pl (enters pl h a p x) ≡ leads_in (pl.joint x.router x.side)
  entered ahead a p x = refl
  entered back a p x = refl

  across_fed : (h : Heading) (a p r o : ℕ) (j : Joint) → pl.joint r o ≡ j → (y : Queue) → across pl h a p j ≡ some y
      → feeder pl y ≡ some (of_side r o)
  across_fed h a p r o Nothing e y q = absurd (some_not_none q)
  across_fed h a p r o (Router n t) e y q =
      rw (← some_same q) (entered h a p (record { router = n; side = t }) ∙ ap leads_in (wired.named r o n t e).1)
  across_fed h a p r o (Active n) e y q =
      let b = (wired.joined (active n) (wired.known r o (active n) e)).only r o e in
      rw (← some_same q, ← b.0, ← b.1)
  across_fed h a p r o (Passive n) e y q =
      let b = (wired.joined (passive n) (wired.known r o (passive n) e)).only r o e in
      rw (← some_same q, ← b.0, ← b.1)

  -- the queue beyond an output is fed by that output
  pub fed_by : (h : Heading) (a p : ℕ) (o : Output) → Drives pl o → (y : Queue) → beyond pl h a p o ≡ some y
      → feeder pl y ≡ some o
  fed_by h a p (of_active x) d y q =
      rw (← some_same q) (entered h a p (home pl (active x)) ∙ ap leads_in (wired.joined (active x) d).there)
  fed_by h a p (of_passive x) d y q =
      rw (← some_same q) (entered h a p (home pl (passive x)) ∙ ap leads_in (wired.joined (passive x) d).there)
  fed_by h a p (of_side r o) d y q = across_fed h a p r o (pl.joint r o) refl y q
  fed_by h a p (to_unit r) d y q = rw (← some_same q)
  fed_by h a p (from_unit r) d y q = rw (← some_same q)

  -- so two outputs with one next queue are one
  pub one_feeder : (g h : Heading) (a p b q : ℕ) (o u : Output) → Drives pl o → Drives pl u → (y : Queue)
      → beyond pl g a p o ≡ some y → beyond pl h b q u ≡ some y → o ≡ u
  one_feeder g h a p b q o u d e y m n = some_same (sym (fed_by g a p o d y m) ∙ fed_by h b q u e y n)

-- ---- queues that a wire feeds
leads_joined : (j : Joint) (o : Output) → leads_in j ≡ some o → is_joined j ≡ true
leads_joined Nothing o e = absurd (some_not_none e)
leads_joined (Router n t) o e = refl
leads_joined (Active n) o e = refl
leads_joined (Passive n) o e = refl

-- a queue that an output feeds is one
pub feeder_fed : (pl : Plan) (q : Queue) (o : Output) → feeder pl q ≡ some o → fed pl q ≡ true
feeder_fed pl (active_out x) o e = absurd (some_not_none e)
feeder_fed pl (passive_out x) o e = absurd (some_not_none e)
feeder_fed pl (active_in x) o e = refl
feeder_fed pl (passive_in x) o e = refl
feeder_fed pl (U r i) o e = leads_joined (pl.joint r i) o e
feeder_fed pl (Q r i) o e = refl
feeder_fed pl (F h r k) o e = refl
feeder_fed pl (K r i k) o e = leads_joined (pl.joint r i) o e

joined_fed : (j : Joint) → j ≢ Nothing → is_joined j ≡ true
joined_fed Nothing n = absurd (n refl)
joined_fed (Router n t) ne = refl
joined_fed (Active n) ne = refl
joined_fed (Passive n) ne = refl

module _ {pl : Plan} (wired : Wired pl) where
  -- a queue in which a packet of a served pair may be is fed by a wire unless it is an out-queue: what is in U[i] or
  -- K[i,o] came in by side i, which is joined
  visits_fed : (a p : ℕ) → a < A pl → p < P pl → Served pl a p → (h : Heading) (q : Queue) → Visits pl h a p q
      → fed pl q ≡ not (is_out_queue q)
  unfolding Visits
  visits_fed a p ha hp s h (active_out x) v = refl
  visits_fed a p ha hp s h (passive_out x) v = refl
  visits_fed a p ha hp s h (active_in x) v = refl
  visits_fed a p ha hp s h (passive_in x) v = refl
  visits_fed a p ha hp s ahead (U r i) v =
      joined_fed (pl.joint r i) (walk_joined wired a p ha hp s (record { router = r; side = i }) v)
  visits_fed a p ha hp s back (U r i) v = absurd v
  visits_fed a p ha hp s h (Q r i) v = refl
  visits_fed a p ha hp s h (F g r o) v = refl
  visits_fed a p ha hp s ahead (K r i o) v = absurd v
  visits_fed a p ha hp s back (K r i o) v =
      joined_fed (pl.joint r i) (returns_joined wired a p ha hp s (record { router = r; side = i }) v.0)

  pub belongs_fed : (q : Queue) (x : Packet) → Belongs pl (leaves_from q) x → fed pl q ≡ not (is_out_queue q)
  belongs_fed q x b =
      visits_fed x.active x.passive b.ranges.active b.ranges.passive b.serves (heading_of x.kind) q
      (fits_visits pl x.active x.passive x.kind x.hub.0 q b.fits)

-- ---- a queue's output
-- the sender of a rank leaves by its output
pub sender_leaves : (o : Output) (k : ℕ) (q : Queue) → of_rank (senders o) k ≡ some q → output_of q ≡ some o
sender_leaves (of_active a) zero q e = rw (← some_same e)
sender_leaves (of_active a) (suc k) q e = absurd (some_not_none e)
sender_leaves (of_passive a) zero q e = rw (← some_same e)
sender_leaves (of_passive a) (suc k) q e = absurd (some_not_none e)
sender_leaves (of_side r o) zero q e = rw (← some_same e)
sender_leaves (of_side r o) (suc zero) q e = rw (← some_same e)
sender_leaves (of_side r o) (suc (suc zero)) q e = rw (← some_same e)
sender_leaves (of_side r o) (suc (suc (suc zero))) q e = rw (← some_same e)
sender_leaves (of_side r o) (suc (suc (suc (suc zero)))) q e = rw (← some_same e)
sender_leaves (of_side r o) (suc (suc (suc (suc (suc k))))) q e = absurd (some_not_none e)
sender_leaves (to_unit r) zero q e = rw (← some_same e)
sender_leaves (to_unit r) (suc zero) q e = rw (← some_same e)
sender_leaves (to_unit r) (suc (suc zero)) q e = rw (← some_same e)
sender_leaves (to_unit r) (suc (suc (suc zero))) q e = rw (← some_same e)
sender_leaves (to_unit r) (suc (suc (suc (suc k)))) q e = absurd (some_not_none e)
sender_leaves (from_unit r) zero q e = rw (← some_same e)
sender_leaves (from_unit r) (suc zero) q e = rw (← some_same e)
sender_leaves (from_unit r) (suc (suc zero)) q e = rw (← some_same e)
sender_leaves (from_unit r) (suc (suc (suc zero))) q e = rw (← some_same e)
sender_leaves (from_unit r) (suc (suc (suc (suc k)))) q e = absurd (some_not_none e)

-- so two outputs with one sender are one
pub one_output : (o u : Output) (k m : ℕ) (q : Queue) → of_rank (senders o) k ≡ some q → of_rank (senders u) m ≡ some q
    → o ≡ u
one_output o u k m q e f = some_same (sym (sender_leaves o k q e) ∙ sender_leaves u m q f)
