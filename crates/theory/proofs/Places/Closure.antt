-- Where a packet fits, the packet that a rule makes of it fits where the rule puts it: on the way from queue to queue,
-- at a unit, at a passive, at an active.
use mathlib.Core.Path.{◌≡◌, refl, sym, ◌∙◌}
use mathlib.Core.Logic.{◌⊎◌, inl, inr}
use mathlib.Core.Option.{some}
use Prim.Native.Nat.{ℕ, suc, ◌+◌, ◌-◌, ◌≤◌, ◌<◌}
use native.Mathlib.Omega.{arith}
use Rattle.basis.specs.Walk.{on, end, spot_none, spot_next, way_on, count_is}
use Rattle.packets.specs.declared.Kind.{Kind}
use Rattle.packets.specs.declared.Kind.TheVariants.{Setup, Tdown, Ack, Nack}
use Rattle.plan.specs.Plan.{Plan, Port, active, passive, R, A, P}
use Rattle.plan.specs.Rules.{home}
use Rattle.plan_walks.specs.Walk.{onward, router_of, walked, walk_size}
use Rattle.plan_walks.specs.Served.{Served}
use Rattle.plan_queues.specs.Queue.{Queue, active_out, active_in, passive_in, passive_out, U, Q, F, K}
use Rattle.plan_queues.specs.Feeds.{ahead, back, heading_of, next, in_queue, handled_at, Stands, span}
use Rattle.plan_queues.specs.Feeds.{Ahead, Returns, Back, Fits, leaves_from}
use Rattle.plan_facts.specs.Wired.{Wired}
use Rattle.plan_facts.proofs.Wires.{home_inside}
use Rattle.plan_journeys.proofs.Walks.{onward_on, onward_end, walk_short, size_is}
use Rattle.plan_journeys.proofs.Places.{meets_here, meets_next, goes_from, back_walk, nack_walk, next_walk, some_same}
use Rattle.plan_journeys.proofs.Places.{some_not_none}
use Rattle.plan_journeys.proofs.CameIn.{came_in_lem}

module _ {pl : Plan} (wired : Wired pl) (a p : ℕ) (ha : a < A pl) (hp : p < P pl) (s : Served pl a p) where
  abbrev start : Port
  start = home pl (active a)

  inside : start.router < R pl
  inside = (home_inside (active a) wired ha).0

  -- the walk's length is that of the walk
  pub span_is : span pl a p ≡ s.ahead.size
  span_is = size_is wired (passive p) start inside s.ahead

  -- the routers on the walk are those before its length
  pub stands_below : (n : ℕ) (x : Port) → walked pl (passive p) n start ≡ on x → n < span pl a p
  stands_below n x e = rw span_is (way_on (onward pl (passive p)) router_of s.ahead n x e).0

  -- the walk begins at the active's router
  pub stands_first : walked pl (passive p) 0 start ≡ on start
  stands_first = spot_none (onward pl (passive p)) (on start)

  -- the walk has a router
  pub span_some : 1 ≤ span pl a p
  span_some = stands_below 0 start stands_first

  -- the walk has at most R routers
  pub span_short : span pl a p ≤ R pl
  span_short = rw span_is (walk_short wired (passive p) start inside s.ahead)

  -- the router behind which the passive is the walk's last
  last_router : (n : ℕ) (x : Port) → walked pl (passive p) n start ≡ on x → onward pl (passive p) x ≡ end
      → span pl a p ≡ suc n
  unfolding walk_size
  last_router n x e q = count_is (onward pl (passive p)) n (on start) x e q (R pl)
      (let b = stands_below n x e in let c = span_short in omega arith)

  -- ---- from queue to queue
  ahead_next : (n : ℕ) (x y : Queue) → Ahead pl a p (leaves_from x) n → next pl ahead a p x ≡ some y
      → Ahead pl a p (in_queue y) n
  unfolding Ahead next
  ahead_next n (active_out x) y (e, z) q = rw (← some_same q) (rw (e, z) (spot_none (onward pl (passive p)) (on start)))
  ahead_next n (U r i) y f q = rw (← some_same q, came_in_lem wired a p ha s n r i f) f
  ahead_next n (Q r i) y (m, f, e) q = rw (← some_same q) (i, m, f, e, refl)
  ahead_next n (F back r o) y f q = absurd f
  ahead_next n (F ahead r o) y (i, m, f, e, g) q =
      by (goes_from pl (passive p) start s.ahead x (record { steps = m; here = f }))
    where
      x : Port
      x = record { router = r; side = i }

      by : ((z : Port) × (onward pl (passive p) x ≡ on z)) ⊎ (onward pl (passive p) x ≡ end)
          → Ahead pl a p (in_queue y) n
      by (inl (z, h)) = rw (← some_same (rw (g, onward_on pl (passive p) x z h) at q), e)
          (spot_next (onward pl (passive p)) m (on start) f ∙ h)
      by (inr h) = rw (← some_same (rw (g, onward_end pl (passive p) x h) at q)) (refl, e ∙ sym (last_router m x f h))
  ahead_next n (passive_in x) y f q = absurd (some_not_none q)
  ahead_next n (active_in x) y f q = absurd f
  ahead_next n (passive_out x) y f q = absurd f
  ahead_next n (K r i o) y f q = absurd f

  -- an answer at a router: where it stands, it goes on, or it is there
  crossing : (n : ℕ) (y : Port) → Returns pl a p n y → ((z : Port) × (onward pl (active a) y ≡ on z)
      × Returns pl a p n z) ⊎ ((onward pl (active a) y ≡ end) × (n ≤ span pl a p))
  crossing n y (inl (m, e)) = by (goes_from pl (active a) (home pl (passive p)) (back_walk wired a p ha hp s) y m)
    where
      by : ((z : Port) × (onward pl (active a) y ≡ on z)) ⊎ (onward pl (active a) y ≡ end)
          → ((z : Port) × (onward pl (active a) y ≡ on z) × Returns pl a p n z)
          ⊎ ((onward pl (active a) y ≡ end) × (n ≤ span pl a p))
      by (inl (z, h)) = inl (z, h, inl (meets_next pl (active a) (home pl (passive p)) y z m h, e))
      by (inr h) = inr (h, omega arith)
  crossing n y (inr (x, u, f, g, m)) =
      by (goes_from pl (active a) u (next_walk wired a p ha hp s x u (record { steps = n; here = f }) g) y m)
    where
      by : ((z : Port) × (onward pl (active a) y ≡ on z)) ⊎ (onward pl (active a) y ≡ end)
          → ((z : Port) × (onward pl (active a) y ≡ on z) × Returns pl a p n z)
          ⊎ ((onward pl (active a) y ≡ end) × (n ≤ span pl a p))
      by (inl (z, h)) = inl (z, h, inr (x, u, f, g, meets_next pl (active a) u y z m h))
      by (inr h) = inr (h, let b = stands_below n x f in omega arith)

  back_next : (n : ℕ) (x y : Queue) → Back pl a p (leaves_from x) n → next pl back a p x ≡ some y
      → Back pl a p (in_queue y) n
  unfolding Back next
  back_next n (passive_out x) y (e, z) q =
      rw (← some_same q) (rw e (inl (meets_here pl (active a) (home pl (passive p)), z), refl))
  back_next n (Q r i) y f q = rw (← some_same q) (i, f, refl)
  back_next n (F ahead r o) y f q = absurd f
  back_next n (F back r o) y (i, f, g) q = by (goes_from pl (active a) x
      (nack_walk wired a p ha hp s x (record { steps = n; here = f })) x (meets_here pl (active a) x))
    where
      x : Port
      x = record { router = r; side = i }

      by : ((z : Port) × (onward pl (active a) x ≡ on z)) ⊎ (onward pl (active a) x ≡ end) → Back pl a p (in_queue y) n
      by (inl (z, h)) = rw (← some_same (rw (g, onward_on pl (active a) x z h) at q))
          (inr (x, z, f, h, meets_here pl (active a) z), refl)
      by (inr h) = rw (← some_same (rw (g, onward_end pl (active a) x h) at q))
          (refl, let b = stands_below n x f in omega arith)
  back_next n (K r i o) y (f, g) q = by (crossing n x f)
    where
      x : Port
      x = record { router = r; side = i }

      by : ((z : Port) × (onward pl (active a) x ≡ on z) × Returns pl a p n z)
          ⊎ ((onward pl (active a) x ≡ end) × (n ≤ span pl a p)) → Back pl a p (in_queue y) n
      by (inl (z, h, c)) = rw (← some_same (rw (g, onward_on pl (active a) x z h) at q)) (c, refl)
      by (inr (h, l)) = rw (← some_same (rw (g, onward_end pl (active a) x h) at q)) (refl, l)
  back_next n (active_in x) y f q = absurd (some_not_none q)
  back_next n (active_out x) y f q = absurd f
  back_next n (passive_in x) y f q = absurd f
  back_next n (U r i) y f q = absurd f

  pub fits_next : (k : Kind) (hub : ℕ) (x y : Queue) → Fits pl k a p hub (leaves_from x)
      → next pl (heading_of k) a p x ≡ some y → Fits pl k a p hub (in_queue y)
  fits_next Setup hub x y f q = ahead_next hub x y f q
  fits_next Tdown hub x y (n, f, h, l) q = (n, ahead_next n x y f q, h, l)
  fits_next Ack hub x y (f, e) q = (back_next hub x y f q, e)
  fits_next Nack hub x y f q = back_next hub x y f q

  -- ---- at a unit: an unhandled head is a SETUP or a TDOWN
  pub unit_setup : (r i hub : ℕ) → Fits pl Setup a p hub (in_queue (Q r i)) → Stands pl a p hub r i
  unfolding Ahead
  unit_setup r i hub f = f

  pub unit_booked : (r i hub : ℕ) → Fits pl Setup a p hub (in_queue (Q r i)) → Fits pl Setup a p (hub + 1)
      (handled_at r i)
  unfolding Ahead
  unit_booked r i hub f = (hub, f, omega arith)

  pub unit_declined : (r i hub : ℕ) → Fits pl Setup a p hub (in_queue (Q r i)) → Fits pl Nack a p hub (handled_at r i)
  unfolding Ahead Back
  unit_declined r i hub f = f

  pub unit_freed : (r i hub : ℕ) → 1 < hub → Fits pl Tdown a p hub (in_queue (Q r i))
      → Fits pl Tdown a p (hub - 1) (handled_at r i)
  unfolding Ahead
  unit_freed r i hub h (n, f, g, l) = (suc n, (n, f, refl), omega arith, omega arith)

  pub unit_no_answer : (r i hub : ℕ) → (Fits pl Ack a p hub (in_queue (Q r i)) → ⊥)
      × (Fits pl Nack a p hub (in_queue (Q r i)) → ⊥)
  unfolding Back
  unit_no_answer r i hub = (λ f. f.0, λ f. f)

  -- ---- at a passive: a SETUP with the walk's length, whose answer fits the out-queue
  pub passive_setup : (k : Kind) (hub x : ℕ) → Fits pl k a p hub (in_queue (passive_in x))
      → (k ≡ Setup) × (x ≡ p) × (hub ≡ span pl a p)
  unfolding Ahead Back
  passive_setup Setup hub x (e, q) = (refl, e, q)
  passive_setup Tdown hub x (n, (e, q), h, l) = absurd (omega arith)
  passive_setup Ack hub x (f, e) = absurd f
  passive_setup Nack hub x f = absurd f

  pub passive_ack : (hub : ℕ) → hub ≡ span pl a p → Fits pl Ack a p hub (in_queue (passive_out p))
  unfolding Back
  passive_ack hub e = ((refl, e), e)

  pub passive_nack : (hub : ℕ) → hub ≡ span pl a p → Fits pl Nack a p hub (in_queue (passive_out p))
  unfolding Back
  passive_nack hub e = (refl, e)

  -- ---- at an active: an answer of its own; a NACK's tear-down fits the out-queue, and marked it fits
  pub active_answer : (k : Kind) (hub x : ℕ) → Fits pl k a p hub (in_queue (active_in x))
      → (x ≡ a) × (hub ≤ span pl a p) × ((k ≡ Ack) ⊎ (k ≡ Nack))
  unfolding Ahead Back
  active_answer Setup hub x f = absurd f
  active_answer Tdown hub x (n, f, h, l) = absurd f
  active_answer Ack hub x ((e, l), q) = (e, l, inl refl)
  active_answer Nack hub x (e, l) = (e, l, inr refl)

  pub active_tdown : (hub : ℕ) → 1 ≤ hub → hub ≤ span pl a p → Fits pl Tdown a p hub (in_queue (active_out a))
  unfolding Ahead
  active_tdown hub h l = (0, (refl, refl), h, omega arith)

  pub active_marked : Fits pl Nack a p 0 (in_queue (active_in a))
  unfolding Back
  active_marked = (refl, omega arith)

  pub active_setup : Fits pl Setup a p 0 (in_queue (active_out a))
  unfolding Ahead
  active_setup = (refl, refl)
