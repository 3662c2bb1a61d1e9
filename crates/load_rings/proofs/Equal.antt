-- A ring of feeding queues is a ring of walks or a ring of crossing answers, and each of these is a ring of queues.
use mathlib.Core.Path.{◌≡◌, refl, sym, ap, ◌∙◌, subst}
use mathlib.Core.Logic.{◌⊎◌, inl, inr}
use mathlib.Core.Option.{some}
use mathlib.Core.Bool.{Bool, true, false}
use Prim.Native.Nat.{ℕ, zero, suc, ◌<◌}
use native.Mathlib.Omega.{arith}
use Rattle.basis.specs.Choice.{not_both}
use Rattle.basis.specs.Walk.{on, way_on, way_at}
use Rattle.basis.specs.Ring.{Ring, ring_map}
use Rattle.plan.specs.declared.Joint.{Joint}
use Rattle.plan.specs.declared.Joint.TheVariants.{Nothing, Router, Active, Passive}
use Rattle.plan.specs.Plan.{Plan, Port, Interface, active, passive, A, P, route_to}
use Rattle.plan.specs.Rules.{home}
use Rattle.plan_walks.specs.Walk.{onward, router_of, Walk, walked}
use Rattle.plan_walks.specs.Served.{Served}
use Rattle.plan_queues.specs.Queue.{Queue, active_out, active_in, passive_in, passive_out, U, Q, F, K}
use Rattle.plan_queues.specs.Feeds.{Heading, ahead, back, heading_of, enters, across, next, Meets, Feeds, FeedRing}
use Rattle.plan_facts.specs.Wired.{Wired}
use Rattle.plan_journeys.specs.Visits.{Visits}
use Rattle.plan_journeys.proofs.Walks.{onward_on}
use Rattle.plan_journeys.proofs.Sides.{router_not_end, joined_back}
use Rattle.plan_journeys.proofs.CameIn.{came_in_lem}
use Rattle.plan_journeys.proofs.Places.{some_same, some_not_none, meets_next}
use Rattle.plan_journeys.proofs.Fitting.{fits_visits, visits_fit}
use Rattle.load_rings.specs.Rounds.{Three, Amid, Both, ring_amid, ring_split, ring_strides, ring_thrice}
use Rattle.load_rings.specs.Circles.{Trails, WalkRing, Crossing, Hands, AnswerRing}
use Rattle.load_rings.proofs.Crossings.{Crosses, hands_crosses, crossing_ring}

-- ---- feeding as a packet that visits a queue and goes on
pub record Goes (pl : Plan) (h : Heading) (x y : Queue) : Type 0 where
  pub a : ℕ
  pub p : ℕ
  pub has_active : a < A pl
  pub has_passive : p < P pl
  pub serves : Served pl a p
  pub visits : Visits pl h a p x
  pub goes : next pl h a p x ≡ some y

goes_of : (pl : Plan) (x y : Queue) → Feeds pl x y → (h : Heading) × Goes pl h x y
goes_of pl x y f = (
  heading_of f.kind,
  record {
    a = f.active;
    p = f.passive;
    has_active = f.has_active;
    has_passive = f.has_passive;
    serves = f.serves;
    visits = fits_visits pl f.active f.passive f.kind f.hub x f.here;
    goes = f.goes;
  },
)

feeds_of : (pl : Plan) (h : Heading) (x y : Queue) → Goes pl h x y → Feeds pl x y
feeds_of pl h x y g =
    let c = visits_fit pl g.a g.p h x g.visits in
    record {
      active = g.a;
      passive = g.p;
      has_active = g.has_active;
      has_passive = g.has_passive;
      serves = g.serves;
      kind = c.kind;
      hub = c.hub;
      here = c.fits;
      goes = rw c.heads g.goes;
    }

-- ---- the router before one on a walk that is entered from a router
module _ {pl : Plan} (wired : Wired pl) where
  pub record Before (e : Interface) (from y : Port) (m u : ℕ) : Type 0 where
    pub side : ℕ
    pub met : Meets pl e from (record { router = m; side = side })
    pub goes : onward pl e (record { router = m; side = side }) ≡ on y
    pub leaves : u ≡ route_to pl e m

  router_same : {n t m u : ℕ} → Router n t ≡ Router m u → (n ≡ m) × (t ≡ u)
  router_same e = (cc, cc)

  meets_before : (e : Interface) (from y : Port) (w : Walk pl e from) (m u : ℕ)
      → pl.joint y.router y.side ≡ Router m u
      → ((n t : ℕ) → pl.joint from.router from.side ≡ Router n t → ⊥) → Meets pl e from y → Before e from y m u
  meets_before e from y w m u j first met = by met.steps met.here
    where
      by : (k : ℕ) → walked pl e k from ≡ on y → Before e from y m u
      by zero q =
          let o = way_on (onward pl e) router_of w 0 y q in
          let same : from ≡ y = sym w.begins ∙ o.1 in
          absurd (first m u (ap (λ (x : Port). pl.joint x.router x.side) same ∙ j))
      by (suc k) q = made (way_on (onward pl e) router_of w (suc k) y q)
        where
          made : (suc k < w.size) × (w.stop (suc k) ≡ y) → Before e from y m u
          made (h, g) = named (joined_back wired e (w.stop k) y there)
            where
              there : onward pl e (w.stop k) ≡ on y
              there = w.goes k h ∙ ap on g

              named : pl.joint y.router y.side ≡ Router (w.stop k).router (route_to pl e (w.stop k).router)
                  → Before e from y m u
              named f =
                  let same = router_same (sym f ∙ j) in
                  let at : w.stop k ≡ record { router = m; side = (w.stop k).side } =
                  λ i. record { router = same.0 i; side = (w.stop k).side } in
                  record {
                    side = (w.stop k).side;
                    met = record { steps = k; here = way_at (onward pl e) router_of w k (omega arith) ∙ ap on at };
                    goes = ap (onward pl e) (sym at) ∙ there;
                    leaves = sym same.1 ∙ ap (route_to pl e) same.0;
                  }

  -- ---- a ring of walks is a ring of queues
  abbrev out_of : Port → Queue
  out_of x = F ahead x.router x.side

  trails_feeds : (x y : Port) → Trails pl x y → Three (Feeds pl) (out_of x) (out_of y)
  unfolding Visits next
  trails_feeds x y f = record {
    one = U y.router f.into;
    two = Q y.router f.into;
    first = feeds_of pl ahead (out_of x) (U y.router f.into) (record {
      a = f.a;
      p = f.p;
      has_active = f.has_active;
      has_passive = f.has_passive;
      serves = f.serves;
      visits = ((f.from, f.met), f.leaves);
      goes = ap (λ (o : ℕ). across pl ahead f.a f.p (pl.joint x.router o)) f.leaves
          ∙ ap (across pl ahead f.a f.p) (onward_on pl (passive f.p) here there f.next);
    });
    second = feeds_of pl ahead (U y.router f.into) (Q y.router f.into) (record {
      a = f.a;
      p = f.p;
      has_active = f.has_active;
      has_passive = f.has_passive;
      serves = f.serves;
      visits = met;
      goes = ap (λ (i : ℕ). some (Q y.router i))
          (came_in_lem wired f.a f.p f.has_active f.serves met.steps y.router f.into met.here);
    });
    third = feeds_of pl ahead (Q y.router f.into) (out_of y) (record {
      a = f.a;
      p = f.p;
      has_active = f.has_active;
      has_passive = f.has_passive;
      serves = f.serves;
      visits = met;
      goes = ap (λ (o : ℕ). some (F ahead y.router o)) (sym f.turns);
    });
  }
    where
      here : Port
      here = record { router = x.router; side = f.from }

      there : Port
      there = record { router = y.router; side = f.into }

      met : Meets pl (passive f.p) (home pl (active f.a)) there
      met = meets_next pl (passive f.p) (home pl (active f.a)) here there f.met f.next

  pub walk_ring : WalkRing pl → FeedRing pl
  walk_ring r = ring_thrice (Trails pl) (Feeds pl) out_of trails_feeds r

module _ (pl : Plan) where
  -- ---- a ring of crossings is a ring of queues
  abbrev crossed : Crossing → Queue
  crossed x = K x.into.router x.into.side x.out

  crosses_feeds : (x y : Crossing) → Crosses pl x y → Feeds pl (crossed x) (crossed y)
  unfolding Visits next
  crosses_feeds x y c = feeds_of pl back (crossed x) (crossed y) (record {
    a = c.a;
    p = c.p;
    has_active = c.has_active;
    has_passive = c.has_passive;
    serves = c.serves;
    visits = (c.comes, c.leaves);
    goes = rw c.turns (ap (across pl back c.a c.p) c.joined);
  })

  pub answer_ring : AnswerRing pl → FeedRing pl
  answer_ring r = ring_map (Hands pl) (Feeds pl) crossed (λ x y h. crosses_feeds x y (hands_crosses pl x y h)) r

-- ---- where a ring of queues is
-- answers on their way from a unit or crossing, and the in-queues: from there nothing goes to a unit
abbrev late : Queue → Bool
late (active_out x) = false
late (passive_out x) = false
late (U r i) = false
late (Q r i) = false
late (F ahead r o) = false
late (F back r o) = true
late (K r i o) = true
late (active_in x) = true
late (passive_in x) = true

abbrev is_out : Queue → Bool
is_out (active_out x) = true
is_out (passive_out x) = true
is_out (U r i) = false
is_out (Q r i) = false
is_out (F h r o) = false
is_out (K r i o) = false
is_out (active_in x) = false
is_out (passive_in x) = false

false_true : ◌≡◌ {A = Bool} false true → ⊥
false_true e = let z : ◌≡◌ {A = ℕ} 0 1 = cc in omega arith

module _ (pl : Plan) where
  -- answers that leave a router's side cross another router or come in
  across_late : (a p : ℕ) (j : Joint) (y : Queue) → across pl back a p j ≡ some y → late y ≡ true
  across_late a p Nothing y q = absurd (some_not_none q)
  across_late a p (Router n t) y q = rw (← some_same q) refl
  across_late a p (Active n) y q = rw (← some_same q) refl
  across_late a p (Passive n) y q = rw (← some_same q) refl

  goes_late : (h : Heading) (x y : Queue) → Goes pl h x y → late x ≡ true → late y ≡ true
  unfolding Visits next
  goes_late ahead (K r i o) y g l = absurd g.visits
  goes_late back (K r i o) y g l = across_late g.a g.p (pl.joint r o) y g.goes
  goes_late h (active_in x) y g l = absurd (some_not_none g.goes)
  goes_late h (passive_in x) y g l = absurd (some_not_none g.goes)
  goes_late h (active_out x) y g l = absurd (false_true l)
  goes_late h (passive_out x) y g l = absurd (false_true l)
  goes_late h (U r i) y g l = absurd (false_true l)
  goes_late h (Q r i) y g l = absurd (false_true l)
  goes_late h (F ahead r o) y g l = absurd (false_true l)
  goes_late ahead (F back r o) y g l = absurd g.visits
  goes_late back (F back r o) y g l = across_late g.a g.p (pl.joint r o) y g.goes

  feeds_late : (x y : Queue) → Feeds pl x y → late x ≡ true → late y ≡ true
  feeds_late x y f l = let g = goes_of pl x y f in goes_late g.0 x y g.1 l

  -- ---- nothing feeds an out-queue
  enters_in : (h : Heading) (a p : ℕ) (x : Port) → is_out (enters pl h a p x) ≡ false
  enters_in ahead a p x = refl
  enters_in back a p x = refl

  across_in : (h : Heading) (a p : ℕ) (j : Joint) (y : Queue) → across pl h a p j ≡ some y → is_out y ≡ false
  across_in h a p Nothing y q = absurd (some_not_none q)
  across_in h a p (Router n t) y q = rw (← some_same q) (enters_in h a p (record { router = n; side = t }))
  across_in h a p (Active n) y q = rw (← some_same q) refl
  across_in h a p (Passive n) y q = rw (← some_same q) refl

  goes_in : (h : Heading) (x y : Queue) → Goes pl h x y → is_out y ≡ false
  unfolding next
  goes_in h (active_out x) y g = rw (← some_same g.goes) (enters_in h g.a g.p (home pl (active x)))
  goes_in h (passive_out x) y g = rw (← some_same g.goes) (enters_in h g.a g.p (home pl (passive x)))
  goes_in h (U r i) y g = rw (← some_same g.goes) refl
  goes_in h (Q r i) y g = rw (← some_same g.goes) refl
  goes_in h (F k r o) y g = across_in h g.a g.p (pl.joint r o) y g.goes
  goes_in h (K r i o) y g = across_in h g.a g.p (pl.joint r o) y g.goes
  goes_in h (active_in x) y g = absurd (some_not_none g.goes)
  goes_in h (passive_in x) y g = absurd (some_not_none g.goes)

  feeds_in : (x y : Queue) → Feeds pl x y → is_out y ≡ false
  feeds_in x y f = let g = goes_of pl x y f in goes_in g.0 x y g.1

  -- ---- the steps among U, Q and F of set-ups and tear-downs
  -- from F to U
  across_unit : (a p : ℕ) (j : Joint) (y : Queue) → across pl ahead a p j ≡ some y → late y ≡ false
      → (n t : ℕ) × (y ≡ U n t) × (j ≡ Router n t)
  across_unit a p Nothing y q early = absurd (some_not_none q)
  across_unit a p (Router n t) y q early = (n, t, sym (some_same q), refl)
  across_unit a p (Active n) y q early = absurd (not_both (ap late (sym (some_same q))) early)
  across_unit a p (Passive n) y q early = absurd (not_both (ap late (sym (some_same q))) early)

  from_f : (r o : ℕ) (y : Queue) → Feeds pl (F ahead r o) y → late y ≡ false
      → (n t : ℕ) × (y ≡ U n t) × (pl.joint r o ≡ Router n t)
  unfolding Visits next
  from_f r o y f early = by (goes_of pl (F ahead r o) y f)
    where
      by : (h : Heading) × Goes pl h (F ahead r o) y → (n t : ℕ) × (y ≡ U n t) × (pl.joint r o ≡ Router n t)
      by (back, g) = absurd g.visits
      by (ahead, g) = across_unit g.a g.p (pl.joint r o) y g.goes early

  abbrev link_of : Queue → Port
  link_of (active_out x) = record { router = 0; side = 0 }
  link_of (passive_out x) = record { router = 0; side = 0 }
  link_of (U r i) = record { router = 0; side = 0 }
  link_of (Q r i) = record { router = 0; side = 0 }
  link_of (F h r o) = record { router = r; side = o }
  link_of (K r i o) = record { router = 0; side = 0 }
  link_of (active_in x) = record { router = 0; side = 0 }
  link_of (passive_in x) = record { router = 0; side = 0 }

  abbrev AtOut : Queue → Type 0
  AtOut x = (r o : ℕ) × (x ≡ F ahead r o)

  -- a step among the queues that are not late
  abbrev Early : Queue → Queue → Type 0
  Early = Amid (Both (Feeds pl) late false)

module _ {pl : Plan} (wired : Wired pl) where
  -- from U to Q of the same side
  from_u : (r i : ℕ) (y : Queue) → Feeds pl (U r i) y → y ≡ Q r i
  unfolding Visits next
  from_u r i y f = by (goes_of pl (U r i) y f)
    where
      by : (h : Heading) × Goes pl h (U r i) y → y ≡ Q r i
      by (back, g) = absurd g.visits
      by (ahead, g) = sym (some_same g.goes)
          ∙ ap (Q r) (came_in_lem wired g.a g.p g.has_active g.serves g.visits.steps r i g.visits.here)

  -- from Q to F: by a set-up or tear-down of a served pair that came in by that side. So its walk left the router
  -- behind that side by the side that is joined there
  from_q : (r i : ℕ) (y : Queue) → Feeds pl (Q r i) y → late y ≡ false
      → (o : ℕ) × (y ≡ F ahead r o)
      × ((n t : ℕ) → pl.joint n t ≡ Router r i
      → Trails pl (record { router = n; side = t }) (record { router = r; side = o }))
  unfolding Visits next
  from_q r i y f early = by (goes_of pl (Q r i) y f)
    where
      by : (h : Heading) × Goes pl h (Q r i) y → (o : ℕ) × (y ≡ F ahead r o)
          × ((n t : ℕ) → pl.joint n t ≡ Router r i
          → Trails pl (record { router = n; side = t }) (record { router = r; side = o }))
      by (back, g) = absurd (not_both (ap late (sym (some_same g.goes))) early)
      by (ahead, g) = (route_to pl (passive g.p) r, sym (some_same g.goes), walk)
        where
          walk : (n t : ℕ) → pl.joint n t ≡ Router r i
              → Trails pl (record { router = n; side = t })
              (record { router = r; side = route_to pl (passive g.p) r })
          walk n t j =
              let b = meets_before wired (passive g.p) (home pl (active g.a)) (record { router = r; side = i })
              g.serves.ahead n t (wired.named n t r i j).1
              (λ m u q. router_not_end (active g.a) (sym q ∙ (wired.joined (active g.a) g.has_active).there))
              g.visits in
              record {
                a = g.a;
                p = g.p;
                has_active = g.has_active;
                has_passive = g.has_passive;
                serves = g.serves;
                from = b.side;
                met = b.met;
                leaves = b.leaves;
                into = i;
                next = b.goes;
                turns = refl;
              }

  three_steps : (w x y z : Queue) → AtOut pl w → Early pl w x → Early pl x y → Early pl y z
      → AtOut pl z × Trails pl (link_of pl w) (link_of pl z)
  three_steps w x y z (r, o, e) f g h =
      by (from_f pl r o x (subst (λ (k : Queue). Feeds pl k x) e f.step.step) f.step.to)
    where
      by : (n t : ℕ) × (x ≡ U n t) × (pl.joint r o ≡ Router n t) → AtOut pl z × Trails pl (link_of pl w) (link_of pl z)
      by (n, t, q, j) = go (from_u n t y (subst (λ (k : Queue). Feeds pl k y) q g.step.step))
        where
          made : (u : ℕ) × (z ≡ F ahead n u) × ((m v : ℕ) → pl.joint m v ≡ Router n t
              → Trails pl (record { router = m; side = v }) (record { router = n; side = u }))
              → AtOut pl z × Trails pl (link_of pl w) (link_of pl z)
          made (u, s, walk) = (
            (n, u, s),
            subst (λ (k : Queue). Trails pl (link_of pl k) (link_of pl z)) (sym e)
                (subst (λ (k : Queue). Trails pl (record { router = r; side = o }) (link_of pl k)) (sym s)
                (walk r o j)),
          )

          go : y ≡ Q n t → AtOut pl z × Trails pl (link_of pl w) (link_of pl z)
          go s = made (from_q n t z (subst (λ (k : Queue). Feeds pl k z) s h.step.step) h.step.to)

  first_out : (x y z : Queue) → Early pl x y → Early pl y z → AtOut pl x ⊎ AtOut pl y ⊎ AtOut pl z
  first_out (active_out a) y z f g = absurd (not_both refl (feeds_in pl f.before (active_out a) f.into.step))
  first_out (passive_out p) y z f g = absurd (not_both refl (feeds_in pl f.before (passive_out p) f.into.step))
  first_out (U r i) y z f g =
      let e = from_u r i y f.step.step in
      let s = from_q r i z (subst (λ (k : Queue). Feeds pl k z) e g.step.step) g.step.to in
      inr (inr (r, s.0, s.1))
  first_out (Q r i) y z f g = let s = from_q r i y f.step.step f.step.to in inr (inl (r, s.0, s.1))
  first_out (F ahead r o) y z f g = inl (r, o, refl)
  first_out (F back r o) y z f g = absurd (not_both refl f.step.from)
  first_out (K r i o) y z f g = absurd (not_both refl f.step.from)
  first_out (active_in a) y z f g = absurd (not_both refl f.step.from)
  first_out (passive_in p) y z f g = absurd (not_both refl f.step.from)

  early_ring : Ring (Both (Feeds pl) late false) → WalkRing pl
  early_ring r =
      ring_strides (Early pl) (Trails pl) (link_of pl) (AtOut pl) three_steps first_out
      (ring_amid (Both (Feeds pl) late false) r)

-- ---- the steps among K
across_crossing : (pl : Plan) (a p : ℕ) (j : Joint) (r i o : ℕ) → across pl back a p j ≡ some (K r i o)
    → (j ≡ Router r i) × (o ≡ route_to pl (active a) r)
across_crossing pl a p Nothing r i o q = absurd (some_not_none q)
across_crossing pl a p (Router n t) r i o q =
    let same : K n t (route_to pl (active a) n) ≡ K r i o = some_same q in
    let en : n ≡ r = cc in
    let et : t ≡ i = cc in
    let eo : route_to pl (active a) n ≡ o = cc in
    (rw (en, et) refl, sym eo ∙ ap (route_to pl (active a)) en)
across_crossing pl a p (Active n) r i o q =
    let same : active_in n ≡ K r i o = some_same q in
    let z : ◌≡◌ {A = ℕ} 0 1 = cc in
    absurd (omega arith)
across_crossing pl a p (Passive n) r i o q =
    let same : passive_in n ≡ K r i o = some_same q in
    let z : ◌≡◌ {A = ℕ} 0 1 = cc in
    absurd (omega arith)

abbrev cross : ℕ → ℕ → ℕ → Crossing
cross r i o = record { into = record { router = r; side = i }; out = o }

abbrev crossing : Queue → Crossing
crossing (K r i o) = cross r i o
crossing (active_out x) = cross 0 0 0
crossing (passive_out x) = cross 0 0 0
crossing (U r i) = cross 0 0 0
crossing (Q r i) = cross 0 0 0
crossing (F h r o) = cross 0 0 0
crossing (active_in x) = cross 0 0 0
crossing (passive_in x) = cross 0 0 0

module _ (pl : Plan) where
  feeds_crosses : (r i o n t u : ℕ) → Feeds pl (K r i o) (K n t u) → Crosses pl (cross r i o) (cross n t u)
  unfolding Visits next
  feeds_crosses r i o n t u f = by (goes_of pl (K r i o) (K n t u) f)
    where
      by : (h : Heading) × Goes pl h (K r i o) (K n t u) → Crosses pl (cross r i o) (cross n t u)
      by (ahead, g) = absurd g.visits
      by (back, g) =
          let s = across_crossing pl g.a g.p (pl.joint r o) n t u g.goes in
          record {
            a = g.a;
            p = g.p;
            has_active = g.has_active;
            has_passive = g.has_passive;
            serves = g.serves;
            comes = g.visits.0;
            leaves = g.visits.1;
            joined = s.0;
            turns = s.1;
          }

  -- what is late and feeds is an F of answers or a K
  late_from : (x y : Queue) → late x ≡ true → Feeds pl x y
      → ((r o : ℕ) × (x ≡ F back r o)) ⊎ ((r i o : ℕ) × (x ≡ K r i o))
  unfolding next
  late_from (K r i o) y l f = inr (r, i, o, refl)
  late_from (F back r o) y l f = inl (r, o, refl)
  late_from (F ahead r o) y l f = absurd (false_true l)
  late_from (active_in x) y l f = absurd (some_not_none f.goes)
  late_from (passive_in x) y l f = absurd (some_not_none f.goes)
  late_from (active_out x) y l f = absurd (false_true l)
  late_from (passive_out x) y l f = absurd (false_true l)
  late_from (U r i) y l f = absurd (false_true l)
  late_from (Q r i) y l f = absurd (false_true l)

  -- beyond a side there is no F
  across_no_f : (h g : Heading) (a p : ℕ) (j : Joint) (r o : ℕ) → across pl h a p j ≡ some (F g r o) → ⊥
  across_no_f h g a p Nothing r o q = some_not_none q
  across_no_f ahead g a p (Router n t) r o q =
      let s : U n t ≡ F g r o = some_same q in let z : ◌≡◌ {A = ℕ} 0 1 = cc in omega arith
  across_no_f back g a p (Router n t) r o q =
      let s : K n t (route_to pl (active a) n) ≡ F g r o = some_same q in let z : ◌≡◌ {A = ℕ} 0 1 = cc in omega arith
  across_no_f h g a p (Active n) r o q =
      let s : active_in n ≡ F g r o = some_same q in let z : ◌≡◌ {A = ℕ} 0 1 = cc in omega arith
  across_no_f h g a p (Passive n) r o q =
      let s : passive_in n ≡ F g r o = some_same q in let z : ◌≡◌ {A = ℕ} 0 1 = cc in omega arith

  -- so nothing late feeds an F, and what is late between two late ones is a K
  late_no_f : (x : Queue) (r o : ℕ) → late x ≡ true → Feeds pl x (F back r o) → ⊥
  unfolding next
  late_no_f x r o l f = by (late_from x (F back r o) l f)
    where
      goes : (k : Queue) → x ≡ k → next pl (heading_of f.kind) f.active f.passive k ≡ some (F back r o)
      goes k e = ap (next pl (heading_of f.kind) f.active f.passive) (sym e) ∙ f.goes

      by : ((n u : ℕ) × (x ≡ F back n u)) ⊎ ((n t u : ℕ) × (x ≡ K n t u)) → ⊥
      by (inl (n, u, e)) =
          across_no_f (heading_of f.kind) back f.active f.passive (pl.joint n u) r o (goes (F back n u) e)
      by (inr (n, t, u, e)) =
          across_no_f (heading_of f.kind) back f.active f.passive (pl.joint n u) r o (goes (K n t u) e)

  late_crossing : (w x y : Queue) → late w ≡ true → Feeds pl w x → late x ≡ true → Feeds pl x y
      → (r i o : ℕ) × (x ≡ K r i o)
  late_crossing w x y lw f lx g = by (late_from x y lx g)
    where
      by : ((r o : ℕ) × (x ≡ F back r o)) ⊎ ((r i o : ℕ) × (x ≡ K r i o)) → (r i o : ℕ) × (x ≡ K r i o)
      by (inl (r, o, e)) = absurd (late_no_f w r o lw (subst (λ (k : Queue). Feeds pl w k) e f))
      by (inr k) = k

  late_crosses : (x y : Queue) → Amid (Both (Feeds pl) late true) x y → Crosses pl (crossing x) (crossing y)
  late_crosses x y m =
      by (late_crossing m.before x y m.into.from m.into.step m.step.from m.step.step)
      (late_crossing x y m.after m.step.from m.step.step m.out.from m.out.step)
    where
      by : (r i o : ℕ) × (x ≡ K r i o) → (n t u : ℕ) × (y ≡ K n t u) → Crosses pl (crossing x) (crossing y)
      by (r, i, o, ex) (n, t, u, ey) =
          subst (λ (k : Queue). Crosses pl (crossing k) (crossing y)) (sym ex)
          (subst (λ (k : Queue). Crosses pl (cross r i o) (crossing k)) (sym ey) (feeds_crosses r i o n t u
          (subst (λ (k : Queue). Feeds pl (K r i o) k) ey (subst (λ (k : Queue). Feeds pl k y) ex m.step.step))))

  late_ring : Ring (Both (Feeds pl) late true) → Ring (Crosses pl)
  late_ring r = ring_map (Amid (Both (Feeds pl) late true)) (Crosses pl) crossing late_crosses
      (ring_amid (Both (Feeds pl) late true) r)

-- ---- so
module _ {pl : Plan} (wired : Wired pl) where
  pub rings_of_feeds : FeedRing pl → WalkRing pl ⊎ AnswerRing pl
  rings_of_feeds r = by (ring_split (Feeds pl) late (feeds_late pl) r)
    where
      by : Ring (Both (Feeds pl) late true) ⊎ Ring (Both (Feeds pl) late false) → WalkRing pl ⊎ AnswerRing pl
      by (inl k) = inr (crossing_ring wired (late_ring pl k))
      by (inr u) = inl (early_ring wired u)

  pub feeds_of_rings : WalkRing pl ⊎ AnswerRing pl → FeedRing pl
  feeds_of_rings (inl r) = walk_ring wired r
  feeds_of_rings (inr r) = answer_ring pl r
