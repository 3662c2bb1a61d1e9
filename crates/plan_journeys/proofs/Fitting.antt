-- A packet that fits where it leaves a queue visits that queue, and where a packet visits a queue one of some kind and
-- hub fits.
use mathlib.Core.Path.{◌≡◌, refl}
use mathlib.Core.Logic.{inl, inr}
use Prim.Native.Nat.{ℕ, suc}
use native.Mathlib.Omega.{arith}
use Rattle.packets.specs.declared.Kind.{Kind}
use Rattle.packets.specs.declared.Kind.TheVariants.{Setup, Tdown, Ack, Nack}
use Rattle.plan.specs.Plan.{Plan, Port}
use Rattle.plan_queues.specs.Queue.{Queue, active_out, active_in, passive_in, passive_out, U, Q, F, K}
use Rattle.plan_queues.specs.Feeds.{Heading, ahead, back, heading_of, span, Ahead}
use Rattle.plan_queues.specs.Feeds.{Returns, Back, Fits, leaves_from}
use Rattle.plan_journeys.specs.Visits.{Comes, Visits}

module _ (pl : Plan) (a p : ℕ) where
  ahead_visits : (x : Queue) (n : ℕ) → Ahead pl a p (leaves_from x) n → Visits pl ahead a p x
  unfolding Ahead Visits
  ahead_visits (active_out x) n f = f.0
  ahead_visits (U r i) n f = record { steps = n; here = f }
  ahead_visits (Q r i) n (m, f, e) = record { steps = m; here = f }
  ahead_visits (F back r o) n f = f
  ahead_visits (F ahead r o) n (i, m, f, e, q) = ((i, record { steps = m; here = f }), q)
  ahead_visits (passive_in x) n f = f.0
  ahead_visits (active_in x) n f = f
  ahead_visits (passive_out x) n f = f
  ahead_visits (K r i o) n f = f

  comes : (n : ℕ) (y : Port) → Returns pl a p n y → Comes pl a p y
  comes n y (inl (m, e)) = inl m
  comes n y (inr (x, z, f, g, m)) = inr (x, z, record { steps = n; here = f }, g, m)

  back_visits : (x : Queue) (n : ℕ) → Back pl a p (leaves_from x) n → Visits pl back a p x
  unfolding Back Visits
  back_visits (passive_out x) n f = f.0
  back_visits (Q r i) n f = record { steps = n; here = f }
  back_visits (F ahead r o) n f = f
  back_visits (F back r o) n (i, f, q) = ((i, record { steps = n; here = f }), q)
  back_visits (K r i o) n (f, q) = (comes n (record { router = r; side = i }) f, q)
  back_visits (active_in x) n f = f.0
  back_visits (active_out x) n f = f
  back_visits (passive_in x) n f = f
  back_visits (U r i) n f = f

  pub fits_visits : (k : Kind) (hub : ℕ) (x : Queue) → Fits pl k a p hub (leaves_from x) → Visits pl (heading_of k) a p
      x
  fits_visits Setup hub x f = ahead_visits x hub f
  fits_visits Tdown hub x (n, f, h, l) = ahead_visits x n f
  fits_visits Ack hub x (f, e) = back_visits x hub f
  fits_visits Nack hub x f = back_visits x hub f

  pub record Somehow (h : Heading) (x : Queue) : Type 0 where
    pub kind : Kind
    pub hub : ℕ
    pub heads : heading_of kind ≡ h
    pub fits : Fits pl kind a p hub (leaves_from x)

  returns : (y : Port) → Comes pl a p y → (n : ℕ) × Returns pl a p n y
  returns y (inl m) = (span pl a p, inl (m, refl))
  returns y (inr (x, z, m, g, k)) = (m.steps, inr (x, z, m.here, g, k))

  pub visits_fit : (h : Heading) (x : Queue) → Visits pl h a p x → Somehow h x
  unfolding Visits Ahead Back
  visits_fit ahead (active_out x) v = record { kind = Setup; hub = 0; heads = refl; fits = (v, refl) }
  visits_fit ahead (U r i) v = record { kind = Setup; hub = v.steps; heads = refl; fits = v.here }
  visits_fit ahead (Q r i) v =
      record { kind = Setup; hub = suc v.steps; heads = refl; fits = (v.steps, v.here, refl) }
  visits_fit ahead (F back r o) v = absurd v
  visits_fit ahead (F ahead r o) ((i, v), q) =
      record { kind = Setup; hub = suc v.steps; heads = refl; fits = (i, v.steps, v.here, refl, q) }
  visits_fit ahead (passive_in x) v = record { kind = Setup; hub = span pl a p; heads = refl; fits = (v, refl) }
  visits_fit ahead (active_in x) v = absurd v
  visits_fit ahead (passive_out x) v = absurd v
  visits_fit ahead (K r i o) v = absurd v
  visits_fit back (passive_out x) v = record { kind = Nack; hub = span pl a p; heads = refl; fits = (v, refl) }
  visits_fit back (Q r i) v = record { kind = Nack; hub = v.steps; heads = refl; fits = v.here }
  visits_fit back (F ahead r o) v = absurd v
  visits_fit back (F back r o) ((i, v), q) = record {
    kind = Nack;
    hub = v.steps;
    heads = refl;
    fits = (i, v.here, q);
  }
  visits_fit back (K r i o) (v, q) =
      let c = returns (record { router = r; side = i }) v in
      record { kind = Nack; hub = c.0; heads = refl; fits = (c.1, q) }
  visits_fit back (active_in x) v = record { kind = Nack; hub = 0; heads = refl; fits = (v, omega arith) }
  visits_fit back (active_out x) v = absurd v
  visits_fit back (passive_in x) v = absurd v
  visits_fit back (U r i) v = absurd v
