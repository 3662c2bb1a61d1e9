-- The place test decides Fits for a served pair: where a packet of this kind, pair and hub may be.
use mathlib.Core.Path.{◌≡◌, refl, sym, ap}
use Prim.Native.Nat.{ℕ, zero, suc, ◌+◌, ◌≤◌, ◌<◌}
use native.Mathlib.Omega.{arith}
use Rattle.basis.specs.Walk.{Spot, on, end, lost, on_end, on_lost, on_same, way_on}
use Rattle.packets.specs.declared.Kind.{Kind}
use Rattle.packets.specs.declared.Kind.TheVariants.{Setup, Tdown, Ack, Nack}
use Rattle.plan.specs.Plan.{Plan, Port, Interface, active, passive, R, A, P, route_to}
use Rattle.plan.specs.Rules.{home}
use Rattle.plan_walks.specs.Walk.{onward, router_of, Walk, walked}
use Rattle.plan_walks.specs.Served.{Served}
use Rattle.plan_walks.specs.Steps.{stands_on}
use Rattle.plan_queues.specs.Queue.{ahead, back, active_out, active_in, passive_in, passive_out, U, Q, F, K}
use Rattle.plan_queues.specs.Feeds.{Place, in_queue, handled_at, Meets, Stands, span, Ahead, Returns, Back, Fits}
use Rattle.plan_facts.specs.Wired.{Wired}
use Rattle.plan_facts.proofs.Wires.{near, home_inside}
use Rattle.plan_journeys.proofs.Walks.{onward_on, walk_short}
use Rattle.plan_journeys.proofs.Places.{back_walk, next_walk}
use Rattle.valid.proofs.Decides.{Decides, like, never, most, same, both, either, any_below_lem}
use Rattle.valid.specs.Test.{stands_at, reached, left_test, left_at_test, meets_test, ahead_test, on_meets, nack_meets}
use Rattle.valid.specs.Test.{returns_test}
use Rattle.valid.specs.Test.{back_test, fits_test}

-- ---- where a walk stands
suc_not : {n : ℕ} → zero ≡ suc n → ⊥
suc_not e = omega arith

-- on router r, entered by side i
pub stands_at_lem : (r i : ℕ) (t : Spot Port) → Decides (stands_at r i t) (t ≡ on (record { router = r; side = i }))
stands_at_lem r i (on x) =
    like (both (same x.router r) (λ e. same x.side i)) (λ e j. on (record { router = e.0 j; side = e.1 j }))
    (λ q. let s = on_same q in (ap (λ (y : Port). y.router) s, ap (λ (y : Port). y.side) s))
stands_at_lem r i end = never (λ e. on_end (sym e))
stands_at_lem r i lost = never (λ e. on_lost (sym e))

-- on router r
pub stands_on_lem : (r : ℕ) (t : Spot Port) → Decides (stands_on r t)
    ((i : ℕ) × (t ≡ on (record { router = r; side = i })))
stands_on_lem r (on x) =
    like (same x.router r) (λ e. (x.side, λ j. on (record { router = e j; side = x.side })))
    (λ q. ap (λ (y : Port). y.router) (on_same q.1))
stands_on_lem r end = never (λ e. on_end (sym e.1))
stands_on_lem r lost = never (λ e. on_lost (sym e.1))

-- a walk that arrives comes in by y within as many steps as there are routers
pub meets : {pl : Plan} → Wired pl → (e : Interface) (from : Port) → from.router < R pl → Walk pl e from → (y : Port)
    → Decides (meets_test pl e from y) (Meets pl e from y)
unfolding meets_test
meets {pl} wired e from h w y =
    like (any_below_lem (R pl) _ (λ k. walked pl e k from ≡ on y)
    (λ k l. stands_at_lem y.router y.side (walked pl e k from)))
    (λ f. record { steps = f.0; here = f.2 })
    (λ m. let short = walk_short wired e from h w in let o = way_on (onward pl e) router_of w m.steps y m.here in
    (m.steps, omega arith, m.here))

module _ (pl : Plan) (a p : ℕ) where
  -- ---- on the way to the passive
  left : (r n : ℕ) → Decides (left_test pl a p r n) ((i m : ℕ) × Stands pl a p m r i × (n ≡ suc m))
  left r zero = never (λ f. suc_not f.3)
  left r (suc m) = like (stands_on_lem r (reached pl a p m)) (λ f. (f.0, m, f.1, refl)) (λ f. (f.0, back' f))
    where
      back' : (f : (i k : ℕ) × Stands pl a p k r i × (suc m ≡ suc k)) → Stands pl a p m r f.0
      back' (i, k, q, e) = let s : m ≡ k = omega arith in rw s q

  left_at : (r i n : ℕ) → Decides (left_at_test pl a p r i n) ((m : ℕ) × Stands pl a p m r i × (n ≡ suc m))
  left_at r i zero = never (λ f. suc_not f.2)
  left_at r i (suc m) = like (stands_at_lem r i (reached pl a p m)) (λ f. (m, f, refl)) back'
    where
      back' : (f : (k : ℕ) × Stands pl a p k r i × (suc m ≡ suc k)) → Stands pl a p m r i
      back' (k, q, e) = let s : m ≡ k = omega arith in rw s q

  pub ahead_decides : (x : Place) (n : ℕ) → Decides (ahead_test pl a p x n) (Ahead pl a p x n)
  unfolding ahead_test Ahead
  ahead_decides (in_queue (active_out x)) n = both (same x a) (λ e. same n 0)
  ahead_decides (in_queue (U r i)) n = stands_at_lem r i (reached pl a p n)
  ahead_decides (in_queue (Q r i)) n = stands_at_lem r i (reached pl a p n)
  ahead_decides (handled_at r i) n = left_at r i n
  ahead_decides (in_queue (F back r o)) n = never (λ f. f)
  ahead_decides (in_queue (F ahead r o)) n =
      like (both (left r n) (λ f. same o (route_to pl (passive p) r))) (λ f. (f.0.0, f.0.1, f.0.2, f.0.3, f.1))
      (λ f. ((f.0, f.1, f.2, f.3), f.4))
  ahead_decides (in_queue (passive_in x)) n = both (same x p) (λ e. same n (span pl a p))
  ahead_decides (in_queue (active_in x)) n = never (λ f. f)
  ahead_decides (in_queue (passive_out x)) n = never (λ f. f)
  ahead_decides (in_queue (K r i o)) n = never (λ f. f)

module _ {pl : Plan} (wired : Wired pl) (a p : ℕ) (ha : a < A pl) (hp : p < P pl) (s : Served pl a p) where
  -- ---- on the way back
  -- behind a router x of the walk, where the walk back goes on
  on_meets_lem : (n : ℕ) (x y : Port) → reached pl a p n ≡ on x → (t : Spot Port) → onward pl (active a) x ≡ t
      → Decides (on_meets pl a y t) ((z : Port) × (t ≡ on z) × Meets pl (active a) z y)
  on_meets_lem n x y q (on z) e =
      like (meets wired (active a) z (near wired (onward_on pl (active a) x z e)).0
      (next_walk wired a p ha hp s x z (record { steps = n; here = q }) e) y)
      (λ m. (z, refl, m)) (λ f. rw (on_same f.1) f.2)
  on_meets_lem n x y q end e = never (λ f. on_end (sym f.1))
  on_meets_lem n x y q lost e = never (λ f. on_lost (sym f.1))

  nack_meets_lem : (n : ℕ) (y : Port) (t : Spot Port) → reached pl a p n ≡ t
      → Decides (nack_meets pl a y t)
      ((x z : Port) × (t ≡ on x) × (onward pl (active a) x ≡ on z) × Meets pl (active a) z y)
  nack_meets_lem n y (on x) q =
      like (on_meets_lem n x y q (onward pl (active a) x) refl) (λ f. (x, f.0, refl, f.1, f.2))
      (λ f. (f.1, rw (on_same f.2) f.3, f.4))
  nack_meets_lem n y end q = never (λ f. on_end (sym f.2))
  nack_meets_lem n y lost q = never (λ f. on_lost (sym f.2))

  pub returns_decides : (n : ℕ) (y : Port) → Decides (returns_test pl a p n y) (Returns pl a p n y)
  unfolding returns_test
  returns_decides n y =
      let h = home_inside (passive p) wired hp in
      either
      (like (both (same n (span pl a p)) (λ e. meets wired (active a) (home pl (passive p)) h.0
      (back_walk wired a p ha hp s) y)) (λ f. (f.1, f.0)) (λ f. (f.1, f.0)))
      (nack_meets_lem n y (reached pl a p n) refl)

  pub back_decides : (x : Place) (n : ℕ) → Decides (back_test pl a p x n) (Back pl a p x n)
  unfolding back_test Back
  back_decides (in_queue (passive_out x)) n = both (same x p) (λ e. same n (span pl a p))
  back_decides (handled_at r i) n = stands_at_lem r i (reached pl a p n)
  back_decides (in_queue (F ahead r o)) n = never (λ f. f)
  back_decides (in_queue (F back r o)) n =
      like (both (stands_on_lem r (reached pl a p n)) (λ f. same o (route_to pl (active a) r)))
      (λ f. (f.0.0, f.0.1, f.1)) (λ f. ((f.0, f.1), f.2))
  back_decides (in_queue (K r i o)) n =
      like (both (same o (route_to pl (active a) r)) (λ e. returns_decides n (record { router = r; side = i })))
      (λ f. (f.1, f.0)) (λ f. (f.1, f.0))
  back_decides (in_queue (active_in x)) n = both (same x a) (λ e. most n (span pl a p))
  back_decides (in_queue (Q r i)) n = never (λ f. f)
  back_decides (in_queue (U r i)) n = never (λ f. f)
  back_decides (in_queue (active_out x)) n = never (λ f. f)
  back_decides (in_queue (passive_in x)) n = never (λ f. f)

  -- ---- every kind
  pub fits_decides : (k : Kind) (hub : ℕ) (x : Place) → Decides (fits_test pl k a p hub x) (Fits pl k a p hub x)
  unfolding fits_test
  fits_decides Setup hub x = ahead_decides pl a p x hub
  fits_decides Tdown hub x =
      like
      (both (most 1 hub) (λ h. any_below_lem (span pl a p) _ (λ n. (n + hub ≤ span pl a p) × Ahead pl a p x n)
      (λ n l. both (most (n + hub) (span pl a p)) (λ m. ahead_decides pl a p x n))))
      (λ f. (f.1.0, f.1.2.1, f.0, f.1.2.0))
      (λ f. (f.2, (f.0, omega (arith, f.2, f.3), (f.3, f.1))))
  fits_decides Ack hub x =
      like (both (same hub (span pl a p)) (λ e. back_decides x hub)) (λ f. (f.1, f.0)) (λ f. (f.1, f.0))
  fits_decides Nack hub x = back_decides x hub
