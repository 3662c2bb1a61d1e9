-- Where a packet of a served pair may be: the queue exists, and where it goes next it may be too.
use mathlib.Core.Path.{◌≡◌, refl, sym, ap, ◌∙◌}
use mathlib.Core.Logic.{◌⊎◌, inl, inr, ◌≢◌}
use mathlib.Core.Option.{none, some}
use Prim.Native.Nat.{ℕ, zero, suc, ◌-◌, ◌<◌}
use native.Mathlib.Omega.{arith}
use Rattle.basis.specs.Bounded.{below_suc}
use Rattle.basis.specs.Walk.{on, end, spot_next, spot_none, way_on}
use Rattle.basis.specs.Walk.{way_tail}
use Rattle.plan.specs.declared.Joint.TheVariants.{Nothing, Router}
use Rattle.plan.specs.Plan.{Plan, Port, Interface, active, passive, R, A, P, Has, joint_of, route_to}
use Rattle.plan.specs.Rules.{home}
use Rattle.plan_walks.specs.Walk.{onward, router_of, Walk}
use Rattle.plan_walks.specs.Served.{Served}
use Rattle.plan_queues.specs.Queue.{Queue, active_out, active_in, passive_in, passive_out, U, Q, F, K, Exists}
use Rattle.plan_queues.specs.Feeds.{Heading, ahead, back, next, Meets}
use Rattle.plan_journeys.specs.Visits.{Comes, Visits}
use Rattle.plan_facts.specs.Wired.{Wired}
use Rattle.plan_facts.proofs.Wires.{near, home_inside}
use Rattle.plan_journeys.proofs.Walks.{onward_on, onward_end, alike}
use Rattle.plan_journeys.proofs.CameIn.{came_in_lem}
use Rattle.plan_journeys.proofs.Sides.{joined_back, turns, turns_later, home_turns}

pub some_not_none : {X : Type 0} {x : X} → none ≡ some x → ⊥
some_not_none e = let z : ◌≡◌ {A = ℕ} 0 1 = cc in omega arith

pub some_same : {X : Type 0} {x y : X} → some x ≡ some y → x ≡ y
some_same e = cc

joined_not : (e : Interface) → joint_of e ≡ Nothing → ⊥
joined_not (active a) q = let z : ◌≡◌ {A = ℕ} 0 1 = cc in omega arith
joined_not (passive p) q = let z : ◌≡◌ {A = ℕ} 0 1 = cc in omega arith

router_not : {n t : ℕ} → Router n t ≡ Nothing → ⊥
router_not q = let z : ◌≡◌ {A = ℕ} 0 1 = cc in omega arith

-- ---- what a walk meets
pub meets_here : (pl : Plan) (e : Interface) (x : Port) → Meets pl e x x
meets_here pl e x = record { steps = 0; here = spot_none (onward pl e) (on x) }

abbrev pub meets_next : (pl : Plan) (e : Interface) (from y z : Port) → Meets pl e from y → onward pl e y ≡ on z
    → Meets pl e from z
meets_next pl e from y z m q =
    record { steps = suc m.steps; here = spot_next (onward pl e) m.steps (on from) m.here ∙ q }

-- a walk that arrives goes on from each router that it meets, or is there
pub goes_from : (pl : Plan) (e : Interface) (from : Port) (w : Walk pl e from) (y : Port) → Meets pl e from y
    → ((z : Port) × (onward pl e y ≡ on z)) ⊎ (onward pl e y ≡ end)
goes_from pl e from w y m = by (leads_on (way_on (onward pl e) router_of w m.steps y m.here))
  where
    leads_on : (m.steps < w.size) × (w.stop m.steps ≡ y)
        → ((suc m.steps < w.size) ⊎ (suc m.steps ≡ w.size)) × (w.stop m.steps ≡ y)
    leads_on (h, q) = (cases m.steps h, q)
      where
        cases : (k : ℕ) → k < w.size → (suc k < w.size) ⊎ (suc k ≡ w.size)
        cases k l = below_suc {i = suc k} {n = w.size} (omega arith)

    by : ((suc m.steps < w.size) ⊎ (suc m.steps ≡ w.size)) × (w.stop m.steps ≡ y)
        → ((z : Port) × (onward pl e y ≡ on z)) ⊎ (onward pl e y ≡ end)
    by (inl l, q) = inl (w.stop (suc m.steps), rw q at (w.goes m.steps l))
    by (inr l, q) = inr (rw q at (w.ends m.steps l))

-- a walk depends on the router that it starts from alone
pub walk_move : (pl : Plan) (e : Interface) (x y : Port) → x.router ≡ y.router → Walk pl e x → Walk pl e y
walk_move pl e x y same w =
    record {
      size = w.size;
      some = w.some;
      stop = stop';
      begins = refl;
      goes = λ k h. alike pl e (stop' k) (w.stop k) (at k) ∙ w.goes k h;
      ends = λ k q. alike pl e (stop' k) (w.stop k) (at k) ∙ w.ends k q;
      once = λ i j hi hj q. w.once i j hi hj (sym (at i) ∙ q ∙ at j);
    }
  where
    stop' : ℕ → Port
    stop' zero = y
    stop' (suc k) = w.stop (suc k)

    at : (k : ℕ) → (stop' k).router ≡ (w.stop k).router
    at zero = sym same ∙ sym (ap router_of w.begins)
    at (suc k) = refl

module _ {pl : Plan} (wired : Wired pl) where
  -- the routers and sides that a walk meets are the plan's
  pub meets_inside : (e : Interface) (from : Port) (w : Walk pl e from) → (from.router < R pl) × (from.side < 4)
      → (y : Port) → Meets pl e from y → (y.router < R pl) × (y.side < 4)
  meets_inside e from w h y m =
      let o = way_on (onward pl e) router_of w m.steps y m.here in
      rw o.1 at (at m.steps o.0)
    where
      at : (k : ℕ) → k < w.size → ((w.stop k).router < R pl) × ((w.stop k).side < 4)
      at zero l = rw w.begins h
      at (suc k) l =
          near wired (onward_on pl e (w.stop k) (w.stop (suc k)) (w.goes k l))

  -- a walk that begins at a joined side comes in to every router by a joined side
  meets_joined : (e : Interface) (from : Port) (w : Walk pl e from) → pl.joint from.router from.side ≢ Nothing
      → (y : Port) → Meets pl e from y → pl.joint y.router y.side ≢ Nothing
  meets_joined e from w first y m =
      let o = way_on (onward pl e) router_of w m.steps y m.here in rw o.1 at (at m.steps o.0)
    where
      at : (k : ℕ) → k < w.size → pl.joint (w.stop k).router (w.stop k).side ≢ Nothing
      at zero l = rw w.begins first
      at (suc k) l = λ n. router_not (sym (joined_back wired e (w.stop k) (w.stop (suc k)) (w.goes k l)) ∙ n)

  home_joined : (e : Interface) → Has pl e → pl.joint (home pl e).router (home pl e).side ≢ Nothing
  home_joined e h n = joined_not e (sym (wired.joined e h).there ∙ n)

  -- the side out is one of the four
  pub exit_inside : (e : Interface) (from : Port) (w : Walk pl e from) (y : Port) → Meets pl e from y
      → route_to pl e y.router < 4
  exit_inside e from w y m = by (goes_from pl e from w y m)
    where
      by : ((z : Port) × (onward pl e y ≡ on z)) ⊎ (onward pl e y ≡ end) → route_to pl e y.router < 4
      by (inl (z, q)) =
          (wired.inside y.router (route_to pl e y.router) (λ n. router_not (sym (onward_on pl e y z q) ∙ n))).1
      by (inr q) =
          (wired.inside y.router (route_to pl e y.router) (λ n. joined_not e (sym (onward_end pl e y q) ∙ n))).1

  -- the side out is not the side in
  pub meets_turns : (e : Interface) (from : Port) (w : Walk pl e from) → route_to pl e from.router ≢ from.side
      → (y : Port) → Meets pl e from y → y.side ≢ route_to pl e y.router
  meets_turns e from w first y m =
      let o = way_on (onward pl e) router_of w m.steps y m.here in
      λ q. (rw o.1 at (turns wired e from w first m.steps o.0)) (sym q)

  module _ (a p : ℕ) (ha : a < A pl) (hp : p < P pl) (s : Served pl a p) where
    -- the passive's router is the walk's last, so an answer from the passive arrives
    pub back_walk : Walk pl (active a) (home pl (passive p))
    back_walk =
        let n : ℕ = s.ahead.size - 1 in
        let last : suc (s.ahead.size - 1) ≡ s.ahead.size = omega (arith, s.ahead.some) in
        let z : Port = s.ahead.stop (s.ahead.size - 1) in
        let e = onward_end pl (passive p) (s.ahead.stop (s.ahead.size - 1))
        (s.ahead.ends (s.ahead.size - 1) last) in
        let same = (wired.joined (passive p) hp).only (s.ahead.stop (s.ahead.size - 1)).router
        (route_to pl (passive p) (s.ahead.stop (s.ahead.size - 1)).router) e in
        walk_move pl (active a) (s.ahead.stop (s.ahead.size - 1)) (home pl (passive p)) same.0
        (s.back (s.ahead.size - 1) (omega (arith, s.ahead.some)))

    -- from each router on the walk the walk back arrives
    pub nack_walk : (x : Port) → Meets pl (passive p) (home pl (active a)) x → Walk pl (active a) x
    nack_walk x m =
        let o = way_on (onward pl (passive p)) router_of s.ahead m.steps x m.here in
        rw o.1 at (s.back m.steps o.0)

    -- and on from the router behind it
    pub next_walk : (x z : Port) → Meets pl (passive p) (home pl (active a)) x → onward pl (active a) x ≡ on z
        → Walk pl (active a) z
    next_walk x z m q = by (way_on (onward pl (active a)) router_of w 1 z
        (spot_next (onward pl (active a)) 0 (on x) (spot_none (onward pl (active a)) (on x)) ∙ q))
      where
        w : Walk pl (active a) x
        w = nack_walk x m

        by : (1 < w.size) × (w.stop 1 ≡ z) → Walk pl (active a) z
        by (h, r) = rw r at (way_tail (onward pl (active a)) router_of w 1 h)

    at_home_lem : ((home pl (active a)).router < R pl) × ((home pl (active a)).side < 4)
    at_home_lem = home_inside (active a) wired ha

    -- ---- what a walk or a way back of the pair meets
    walk_inside : (x : Port) → Meets pl (passive p) (home pl (active a)) x → (x.router < R pl) × (x.side < 4)
    walk_inside x m = meets_inside (passive p) (home pl (active a)) s.ahead at_home_lem x m

    nack_exit : (x : Port) → Meets pl (passive p) (home pl (active a)) x → route_to pl (active a) x.router < 4
    nack_exit x m = exit_inside (active a) x (nack_walk x m) x (meets_here pl (active a) x)

    passive_not : active a ≢ passive p
    passive_not q = let z : ◌≡◌ {A = ℕ} 0 1 = cc in omega arith

    -- an answer that comes in to a router crosses it to another side
    pub returns_cross : (y : Port) → Comes pl a p y
        → Exists pl (K y.router y.side (route_to pl (active a) y.router))
    returns_cross y (inl m) =
        let i = meets_inside (active a) (home pl (passive p)) back_walk (home_inside (passive p) wired hp) y m in (
          i.0,
          i.1,
          exit_inside (active a) (home pl (passive p)) back_walk y m,
          meets_turns (active a)
              (home pl (passive p)) back_walk (home_turns wired (active a) (passive p) hp passive_not back_walk) y m,
        )
    returns_cross y (inr (x, z, m, q, n)) =
        let w = next_walk x z m q in
        let v = nack_walk x m in
        let o = way_on (onward pl (active a)) router_of v 1 z
        (spot_next (onward pl (active a)) 0 (on x) (spot_none (onward pl (active a)) (on x)) ∙ q) in
        let first : route_to pl (active a) z.router ≢ z.side =
        rw o.1 at (turns_later wired (active a) x v 0 o.0) in
        let i = meets_inside (active a) z w (near wired (onward_on pl (active a) x z q)) y n in
        (i.0, i.1, exit_inside (active a) z w y n, meets_turns (active a) z w first y n)

    -- ---- a packet comes in to a router by a joined side
    pub walk_joined : (x : Port) → Meets pl (passive p) (home pl (active a)) x
        → pl.joint x.router x.side ≢ Nothing
    walk_joined x m = meets_joined (passive p) (home pl (active a)) s.ahead (home_joined (active a) ha) x m

    pub returns_joined : (y : Port) → Comes pl a p y → pl.joint y.router y.side ≢ Nothing
    returns_joined y (inl m) = meets_joined (active a) (home pl (passive p)) back_walk (home_joined (passive p) hp) y m
    returns_joined y (inr (x, z, m, q, n)) =
        let b = joined_back wired (active a) x z q in
        meets_joined (active a) z (next_walk x z m q) (λ j. router_not (sym b ∙ j)) y n

    -- ---- the queues where a packet may be exist
    pub may_exist : (h : Heading) (x : Queue) → Visits pl h a p x → Exists pl x
    unfolding Visits
    may_exist ahead (active_out x) m = rw m ha
    may_exist ahead (U r i) m = walk_inside (record { router = r; side = i }) m
    may_exist ahead (Q r i) m = walk_inside (record { router = r; side = i }) m
    may_exist ahead (F back r o) m = absurd m
    may_exist ahead (F ahead r o) ((i, m), q) = (
      (walk_inside (record { router = r; side = i }) m).0,
      rw q (exit_inside (passive p) (home pl (active a)) s.ahead (record { router = r; side = i }) m),
    )
    may_exist ahead (passive_in x) m = rw m hp
    may_exist ahead (active_in x) m = absurd m
    may_exist ahead (passive_out x) m = absurd m
    may_exist ahead (K r i o) m = absurd m
    may_exist back (passive_out x) m = rw m hp
    may_exist back (Q r i) m = walk_inside (record { router = r; side = i }) m
    may_exist back (F ahead r o) m = absurd m
    may_exist back (F back r o) ((i, m), q) =
        ((walk_inside (record { router = r; side = i }) m).0, rw q (nack_exit (record { router = r; side = i }) m))
    may_exist back (K r i o) (m, q) = rw q (returns_cross (record { router = r; side = i }) m)
    may_exist back (active_in x) m = rw m ha
    may_exist back (active_out x) m = absurd m
    may_exist back (passive_in x) m = absurd m
    may_exist back (U r i) m = absurd m

    -- ---- and where a packet goes next it may be
    crosses : (y z : Port) → Comes pl a p y → onward pl (active a) y ≡ on z → Comes pl a p z
    crosses y z (inl m) q = inl (meets_next pl (active a) (home pl (passive p)) y z m q)
    crosses y z (inr (x, u, m, r, n)) q = inr (x, u, m, r, meets_next pl (active a) u y z n q)

    pub returns_on : (y : Port) → Comes pl a p y → ((z : Port) × (onward pl (active a) y ≡ on z))
        ⊎ (onward pl (active a) y ≡ end)
    returns_on y (inl m) = goes_from pl (active a) (home pl (passive p)) back_walk y m
    returns_on y (inr (x, z, m, q, n)) = goes_from pl (active a) z (next_walk x z m q) y n

    pub may_next : (h : Heading) (x y : Queue) → Visits pl h a p x → next pl h a p x ≡ some y → Visits pl h a p y
    unfolding Visits next
    may_next ahead (active_out x) y m q = rw (← some_same q) (rw m (meets_here pl (passive p) (home pl (active a))))
    may_next ahead (U r i) y m q = rw (← some_same q, came_in_lem wired a p ha s m.steps r i m.here) m
    may_next ahead (Q r i) y m q = rw (← some_same q) ((i, m), refl)
    may_next ahead (F back r o) y m q = absurd m
    may_next ahead (F ahead r o) y ((i, m), e) q = by (goes_from pl (passive p) (home pl (active a)) s.ahead x m)
      where
        x : Port
        x = record { router = r; side = i }

        by : ((z : Port) × (onward pl (passive p) x ≡ on z)) ⊎ (onward pl (passive p) x ≡ end) → Visits pl ahead a p y
        by (inl (z, g)) = rw (← some_same (rw (e, onward_on pl (passive p) x z g) at q))
            (meets_next pl (passive p) (home pl (active a)) x z m g)
        by (inr g) = rw (← some_same (rw (e, onward_end pl (passive p) x g) at q)) refl
    may_next ahead (passive_in x) y m q = absurd (some_not_none q)
    may_next ahead (active_in x) y m q = absurd m
    may_next ahead (passive_out x) y m q = absurd m
    may_next ahead (K r i o) y m q = absurd m
    may_next back (passive_out x) y m q =
        rw (← some_same q) (rw m (inl (meets_here pl (active a) (home pl (passive p))), refl))
    may_next back (Q r i) y m q = rw (← some_same q) ((i, m), refl)
    may_next back (F ahead r o) y m q = absurd m
    may_next back (F back r o) y ((i, m), e) q =
        by (goes_from pl (active a) x (nack_walk x m) x (meets_here pl (active a) x))
      where
        x : Port
        x = record { router = r; side = i }

        by : ((z : Port) × (onward pl (active a) x ≡ on z)) ⊎ (onward pl (active a) x ≡ end) → Visits pl back a p y
        by (inl (z, g)) = rw (← some_same (rw (e, onward_on pl (active a) x z g) at q))
            (inr (x, z, m, g, meets_here pl (active a) z), refl)
        by (inr g) = rw (← some_same (rw (e, onward_end pl (active a) x g) at q)) refl
    may_next back (K r i o) y (m, e) q = by (returns_on x m)
      where
        x : Port
        x = record { router = r; side = i }

        by : ((z : Port) × (onward pl (active a) x ≡ on z)) ⊎ (onward pl (active a) x ≡ end) → Visits pl back a p y
        by (inl (z, g)) = rw (← some_same (rw (e, onward_on pl (active a) x z g) at q)) (crosses x z m g, refl)
        by (inr g) = rw (← some_same (rw (e, onward_end pl (active a) x g) at q)) refl
    may_next back (active_in x) y m q = absurd (some_not_none q)
    may_next back (active_out x) y m q = absurd m
    may_next back (passive_in x) y m q = absurd m
    may_next back (U r i) y m q = absurd m
