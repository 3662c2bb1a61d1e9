-- If every head that may leave its queue finds its next queue without credit, while wires are empty, flags are down
-- and no passive in-queue is full, then no packet is in a queue other than an in-queue: the full queues ahead of it
-- would make a ring of feeding queues.
use mathlib.Core.Path.{◌≡◌, refl, sym, ap, ◌∙◌}
use mathlib.Core.Logic.{◌⊎◌, inl, inr, ◌≢◌}
use mathlib.Core.Bool.{Bool, true, false, false≢true, true≢false}
use mathlib.Core.List.{List, [], ◌∷◌}
use mathlib.Core.Option.{Option, none, some}
use Prim.Native.Nat.{ℕ, ◌≤◌, ◌<◌}
use native.Mathlib.Nat.{min-le_right}
use native.Mathlib.Omega.{arith}
use lib.ListN.{length}
use borrow.Author.Tests.{eq-eqb}
use Rattle.basis.specs.Among.{In}
use Rattle.basis.specs.Walk.{on, end}
use Rattle.packets.specs.declared.Kind.TheVariants.{Ack, Nack}
use Rattle.packets.specs.declared.Packet.{Packet}
use Rattle.plan.specs.declared.Head.{Head}
use Rattle.plan.specs.Head.{InRange}
use Rattle.plan.specs.declared.Joint.{Joint}
use Rattle.plan.specs.declared.Joint.TheVariants.{Nothing, Router, Active, Passive}
use Rattle.plan.specs.Plan.{Plan, Port, Interface, active, passive, A, P, route_to}
use Rattle.plan.specs.Rules.{home}
use Rattle.plan_walks.specs.Walk.{onward}
use Rattle.plan_walks.specs.Served.{Served}
use Rattle.plan_queues.specs.Queue.{Queue, active_out, active_in, passive_in, passive_out, U, Q, F, K, Exists, number}
use Rattle.plan_queues.specs.Queue.{queues}
use Rattle.plan_queues.specs.Queue.{queue_at}
use Rattle.plan_queues.specs.Feeds.{Heading, ahead, back, heading_of, destination, Output, output_of, leaving, enters}
use Rattle.plan_queues.specs.Feeds.{came_in, Meets, across, next, span, leaves_from, Fits, in_queue, Feeds, FeedRing}
use Rattle.plan_queues.specs.Feeds.{head_place}
use Rattle.plan_facts.specs.Wired.{Wired}
use Rattle.plan_facts.proofs.Joints.{router_some, interface_some}
use Rattle.plan_journeys.proofs.Numbers.{queue_at_lem, number_same, number_below}
use Rattle.plan_journeys.proofs.Places.{may_exist, may_next, goes_from, nack_walk, returns_on, meets_here, some_same}
use Rattle.plan_journeys.proofs.Places.{some_not_none}
use Rattle.plan_journeys.specs.Visits.{Visits}
use Rattle.plan_journeys.proofs.Walks.{onward_on, onward_end}
use Rattle.plan_journeys.proofs.Fitting.{fits_visits}
use Rattle.rules.specs.Capacity.{capacity}
use Rattle.rules.specs.State.{State, start_allowance}
use Rattle.rules.specs.Valid.{Belongs, Lined, bit, fed, on_wires, in_all, total, spends}
use Rattle.rules.specs.Outputs.{outputs, output_at}
use Rattle.rules.specs.Progress.{is_in_queue, PassiveRoom}
use Rattle.rules.proofs.OutNumbers.{drives_at}
use Rattle.theory.proofs.Ground.Sums.{sum_two, sum_nought}
use Rattle.theory.specs.Promises.{answering}
use Rattle.theory.specs.Invariant.{Core, WiresEmpty, FlagsDown, account}
use Rattle.theory.proofs.Places.Feeders.{fed_by, feeder_fed}
use Rattle.theory.proofs.Places.Lines.{head_leaves, may_leave_lem, output_drives}
use Rattle.theory.proofs.Places.Closure.{fits_next, active_answer}
use Rattle.theory.proofs.Progress.Follow.{follow}

all_one : (w : Packet → ℕ) (l : List Packet) → ((z : Packet) → In z l → w z ≡ 1) → in_all w l ≡ length l
all_one w [] h = refl
all_one w (x ∷ l) h = let a = h x (inl refl) in let b = all_one w l (λ z i. h z (inr i)) in omega arith

-- ---- a head that may leave has a next queue
across_some : (pl : Plan) (h : Heading) (a p : ℕ) (j : Joint) → (j ≡ Nothing → ⊥)
    → (y : Queue) × (across pl h a p j ≡ some y)
across_some pl h a p Nothing ne = absurd (ne refl)
across_some pl h a p (Router n t) ne = (enters pl h a p (record { router = n; side = t }), refl)
across_some pl h a p (Active n) ne = (active_in n, refl)
across_some pl h a p (Passive n) ne = (passive_in n, refl)

-- a side by which a walk goes on, or is there, is joined
goes_joined : (pl : Plan) (e : Interface) (x : Port) → ((z : Port) × (onward pl e x ≡ on z)) ⊎ (onward pl e x ≡ end)
    → pl.joint x.router (route_to pl e x.router) ≡ Nothing → ⊥
goes_joined pl e x (inl (z, q)) n = router_some (sym (onward_on pl e x z q) ∙ n)
goes_joined pl e x (inr q) n = interface_some e (sym (onward_end pl e x q) ∙ n)

module _ {pl : Plan} (wired : Wired pl) (a p : ℕ) (ha : a < A pl) (hp : p < P pl) (s : Served pl a p) where
  pub next_some : (h : Heading) (q : Queue) → Visits pl h a p q → is_in_queue q ≡ false
      → (y : Queue) × (next pl h a p q ≡ some y)
  unfolding next Visits
  next_some h (active_out x) v e = (enters pl h a p (home pl (active x)), refl)
  next_some h (active_in x) v e = absurd (true≢false e)
  next_some h (passive_in x) v e = absurd (true≢false e)
  next_some h (passive_out x) v e = (enters pl h a p (home pl (passive x)), refl)
  next_some h (U r i) v e = (Q r (came_in pl a p r), refl)
  next_some h (Q r i) v e = (F h r (route_to pl (destination h a p) r), refl)
  next_some ahead (F back r o) v e = absurd v
  next_some back (F ahead r o) v e = absurd v
  next_some ahead (F ahead r o) ((i, m), g) e =
      across_some pl ahead a p (pl.joint r o)
      (rw g (goes_joined pl (passive p) (record { router = r; side = i })
      (goes_from pl (passive p) (home pl (active a)) s.ahead (record { router = r; side = i }) m)))
  next_some back (F back r o) ((i, m), g) e =
      across_some pl back a p (pl.joint r o)
      (rw g (goes_joined pl (active a) (record { router = r; side = i })
      (goes_from pl (active a) (record { router = r; side = i })
      (nack_walk wired a p ha hp s (record { router = r; side = i }) m) (record { router = r; side = i })
      (meets_here pl (active a) (record { router = r; side = i })))))
  next_some ahead (K r i o) v e = absurd v
  next_some back (K r i o) (m, g) e =
      across_some pl back a p (pl.joint r o) (rw g (goes_joined pl (active a) (record { router = r; side = i })
      (returns_on wired a p ha hp s (record { router = r; side = i }) m)))

-- the queue that a packet goes to next is fed by a wire
beyond_fed : {pl : Plan} → Wired pl → (h : Heading) (a p : ℕ) (q y : Queue) → Exists pl q → next pl h a p q ≡ some y
    → fed pl y ≡ true
unfolding next
beyond_fed {pl} wired h a p q y k n = by (output_of q) refl n
  where
    by : (o : Option Output) → output_of q ≡ o → leaving pl h a p o ≡ some y → fed pl y ≡ true
    by none e n = absurd (some_not_none n)
    by (some o) e n = feeder_fed pl y o (fed_by wired h a p o (output_drives pl q o k e) y n)

-- every capacity is at least 1
pub capacity_some : (h : Head) → InRange h → (q : Queue) → 1 ≤ capacity h q
capacity_some h r (active_out x) = r.aout.0
capacity_some h r (active_in x) = r.ain.0
capacity_some h r (passive_in x) = r.pin.0
capacity_some h r (passive_out x) = r.pout.0
capacity_some h r (U i j) = r.u.0
capacity_some h r (Q i j) = r.q.0
capacity_some h r (F k i j) = r.f.0
capacity_some h r (K i j k) = r.k.0

-- ---- every head is handled where a unit has one, and its next queue has no credit
pub record Jammed (pl : Plan) (s : State) : Type 0 where
  pub core : Core pl s
  pub wires : WiresEmpty pl s
  pub flags : FlagsDown pl s
  pub handled : (r i : ℕ) (x : Packet) (rest : List Packet) → Exists pl (Q r i) → s.lines.queue (Q r i) ≡ x ∷ rest
      → s.lines.handled (Q r i) ≡ true
  pub blocked : (q y : Queue) (x : Packet) (rest : List Packet) → Exists pl q → is_in_queue q ≡ false
      → s.lines.queue q ≡ x ∷ rest
      → next pl (heading_of x.kind) x.active x.passive q ≡ some y → (s.flow.credit y).0 ≡ 0

-- a set of queues that packets leave only for an in-queue, and for a passive's only where it is not full
pub record Closed (pl : Plan) (set : Queue → Bool) (s : State) : Type 0 where
  pub stays : (h : Heading) (a p : ℕ) (q y : Queue) → a < A pl → p < P pl → Served pl a p → set q ≡ true
      → Visits pl h a p q → next pl h a p q ≡ some y → is_in_queue y ≡ false → set y ≡ true
  pub room : (h : Heading) (a p b : ℕ) (q : Queue) → a < A pl
      → p < P pl → Served pl a p → set q ≡ true → Visits pl h a p q → next pl h a p q ≡ some (passive_in b) → b < P pl
      → length (s.lines.queue (passive_in b)) < capacity pl.head (passive_in b)

module _ {pl : Plan} (wired : Wired pl) (range : InRange pl.head) (free : FeedRing pl → ⊥) (s : State)
    (jam : Jammed pl s) (set : Queue → Bool) (closed : Closed pl set s) where
  -- a queue with a packet that could leave it
  abbrev Waiting : Queue → Type 0
  Waiting q = Exists pl q × (is_in_queue q ≡ false) × (set q ≡ true)
      × ((x : Packet) × (rest : List Packet) × (s.lines.queue q ≡ x ∷ rest))

  -- the head is where it leaves from
  head_place_lem : (q : Queue) (x : Packet) (rest : List Packet) → Exists pl q → s.lines.queue q ≡ x ∷ rest
      → head_place (s.lines.handled q) q ≡ leaves_from q
  head_place_lem q x rest h e =
      head_leaves s q (may_leave_lem s q (λ r i u. rw u (jam.handled r i x rest (rw u at h) (rw u at e))))

  head_belongs : (q : Queue) (x : Packet) (rest : List Packet) → Exists pl q → s.lines.queue q ≡ x ∷ rest
      → Belongs pl (leaves_from q) x
  head_belongs q x rest h e = rw (head_place_lem q x rest h e) at (rw e at (jam.core.places q h)).0

  no_wires : (y : Queue) → on_wires pl y s ≡ 0
  unfolding on_wires
  no_wires y = sum_nought (outputs pl) _ (λ n l. rw (jam.wires (output_at pl n) (drives_at pl n l)))

  full : (y : Queue) → Exists pl y → fed pl y ≡ true → (s.flow.credit y).0 ≡ 0
      → length (s.lines.queue y) ≡ capacity pl.head y
  unfolding account
  full y h f c =
      let a = jam.core.credits y h f in
      let w = no_wires y in
      let b : bit (s.flow.flag y) ≡ 0 = rw (jam.flags y h) in
      omega arith

  -- ---- an active's in-queue to which an answer goes is not full
  spends_one : (b : ℕ) (z : Packet) (at : Queue) → Belongs pl (in_queue at) z → at ≡ active_in b → spends b z ≡ 1
  spends_one b z at g e = by (active_answer wired z.active z.passive g.ranges.active g.ranges.passive
      g.serves z.kind z.hub.0 b (rw e at g.fits))
    where
      by : (b ≡ z.active) × (z.hub.0 ≤ span pl z.active z.passive) × ((z.kind ≡ Ack) ⊎ (z.kind ≡ Nack))
          → spends b z ≡ 1
      by (e, l, inl k) = rw (eq-eqb z.active b (sym e), k)
      by (e, l, inr k) = rw (eq-eqb z.active b (sym e), k)

  line_spends : (b : ℕ) → b < A pl
      → in_all (spends b) (s.lines.queue (active_in b)) ≡ length (s.lines.queue (active_in b))
  line_spends b h = all_one (spends b) (s.lines.queue (active_in b)) (λ z i.
      spends_one b z (active_in b) (at (s.lines.queue (active_in b)) (jam.core.places (active_in b) h) z i) refl)
    where
      at : (l : List Packet) → Lined pl (active_in b) (s.lines.handled (active_in b)) l → (z : Packet) → In z l
          → Belongs pl (in_queue (active_in b)) z
      at [] l z i = absurd i
      at (x ∷ l) (g, k) z (inl e) = rw e g
      at (x ∷ l) (g, k) z (inr i) = k z i

  room_at_active : (q : Queue) (x : Packet) (rest : List Packet) (b : ℕ) → b < A pl → Exists pl q → is_in_queue q ≡
      false
      → s.lines.queue q ≡ x ∷ rest → spends b x ≡ 1
      → length (s.lines.queue (active_in b)) ≡ capacity pl.head (active_in b) → ⊥
  unfolding total
  room_at_active q x rest b hb hq ni e w f =
      let i : ℕ = number pl q in
      let ne : number pl q ≢ number pl (active_in b) = λ g. not_in q b ni (number_same pl q (active_in b) hq hb g) in
      let two = sum_two (queues pl) (λ n. in_all (spends b) (s.lines.queue (queue_at pl n))) (number pl q)
      (number pl (active_in b)) (number_below pl q hq) (number_below pl (active_in b) hb) ne in
      let one : 1 ≤ in_all (spends b) (s.lines.queue (queue_at pl (number pl q))) =
      rw (queue_at_lem pl q hq, e) (omega arith) in
      let line : in_all (spends b) (s.lines.queue (queue_at pl (number pl (active_in b))))
      ≡ length (s.lines.queue (active_in b)) = rw (queue_at_lem pl (active_in b) hb) (line_spends b hb) in
      let least : start_allowance pl ≤ pl.head.ain.0 = min-le_right pl.head.aout.0 pl.head.ain.0 in
      let account = jam.core.allowances b hb in
      omega arith
    where
      not_in : (q : Queue) (b : ℕ) → is_in_queue q ≡ false → q ≡ active_in b → ⊥
      not_in q b n g = true≢false (sym (ap is_in_queue g) ∙ n)

  -- ---- so each waiting queue feeds another waiting queue
  step : (q : Queue) → Waiting q → ((y : Queue) × Waiting y × Feeds pl q y) ⊎ ⊥
  step q (h, ni, b, (x, rest, e)) = found (next_some wired x.active x.passive g.ranges.active
      g.ranges.passive g.serves (heading_of x.kind) q v ni)
    where
      g : Belongs pl (leaves_from q) x
      g = head_belongs q x rest h e

      v : Visits pl (heading_of x.kind) x.active x.passive q
      v = fits_visits pl x.active x.passive x.kind x.hub.0 q g.fits

      feeds_it : (y : Queue) → next pl (heading_of x.kind) x.active x.passive q ≡ some y → Feeds pl q y
      feeds_it y n =
          record {
            active = x.active;
            passive = x.passive;
            has_active = g.ranges.active;
            has_passive = g.ranges.passive;
            serves = g.serves;
            kind = x.kind;
            hub = x.hub.0;
            here = g.fits;
            goes = n;
          }

      fits_there : (y : Queue) → next pl (heading_of x.kind) x.active x.passive q ≡ some y
          → Fits pl x.kind x.active x.passive x.hub.0 (in_queue y)
      fits_there y n = fits_next wired x.active x.passive g.ranges.active g.ranges.passive g.serves
          x.kind x.hub.0 q y g.fits n

      exists : (y : Queue) → next pl (heading_of x.kind) x.active x.passive q ≡ some y → Exists pl y
      exists y n =
          may_exist wired x.active x.passive g.ranges.active g.ranges.passive g.serves
          (heading_of x.kind) y
          (may_next wired x.active x.passive g.ranges.active g.ranges.passive g.serves
          (heading_of x.kind) q y v n)

      there : (y : Queue) (n : next pl (heading_of x.kind) x.active x.passive q ≡ some y)
          → length (s.lines.queue y) ≡ capacity pl.head y
      there y n = full y (exists y n) (beyond_fed wired (heading_of x.kind) x.active x.passive q y h n)
          (jam.blocked q y x rest h ni e n)

      -- a full queue has a packet
      filled : (y : Queue) → Exists pl y → length (s.lines.queue y) ≡ capacity pl.head y
          → (z : Packet) × (more : List Packet) × (s.lines.queue y ≡ z ∷ more)
      filled y k f = some_packet (s.lines.queue y) refl
        where
          some_packet : (l : List Packet) → s.lines.queue y ≡ l
              → (z : Packet) × (more : List Packet) × (s.lines.queue y ≡ z ∷ more)
          some_packet [] m = let c = capacity_some pl.head range y in absurd (nothing (sym (ap length m) ∙ f) c)
            where
              nothing : 0 ≡ capacity pl.head y → 1 ≤ capacity pl.head y → ⊥
              nothing a b = omega arith
          some_packet (z ∷ more) m = (z, more, m)

      inner : (y : Queue) (n : next pl (heading_of x.kind) x.active x.passive q ≡ some y) → is_in_queue y ≡ false
          → ((u : Queue) × Waiting u × Feeds pl q u) ⊎ ⊥
      inner y n i =
          inl (
            y,
            (
              exists y n,
              i,
              closed.stays (heading_of x.kind) x.active x.passive q y g.ranges.active
                  g.ranges.passive g.serves b v n i,
              filled y (exists y n) (there y n),
            ),
            feeds_it y n,
          )

      into : (y : Queue) (n : next pl (heading_of x.kind) x.active x.passive q ≡ some y)
          → ((u : Queue) × Waiting u × Feeds pl q u) ⊎ ⊥
      into (active_out a) n = inner (active_out a) n refl
      into (passive_out a) n = inner (passive_out a) n refl
      into (U r i) n = inner (U r i) n refl
      into (Q r i) n = inner (Q r i) n refl
      into (F k r o) n = inner (F k r o) n refl
      into (K r i o) n = inner (K r i o) n refl
      into (passive_in c) n =
          inr (let l = closed.room (heading_of x.kind) x.active x.passive c q g.ranges.active
          g.ranges.passive g.serves b v n (exists (passive_in c) n) in let f = there (passive_in c) n in
          omega arith)
      into (active_in c) n =
          let k : Belongs pl (in_queue (active_in c)) x =
          record { ranges = g.ranges; serves = g.serves; fits = fits_there (active_in c) n } in
          inr (room_at_active q x rest c (exists (active_in c) n) h ni e (spends_one c x (active_in c) k refl)
          (there (active_in c) n))

      found : (y : Queue) × (next pl (heading_of x.kind) x.active x.passive q ≡ some y)
          → ((u : Queue) × Waiting u × Feeds pl q u) ⊎ ⊥
      found (y, n) = into y n

  -- no packet is in a queue of the set other than an in-queue
  pub none_waits : (q : Queue) (x : Packet) (rest : List Packet) → Exists pl q → is_in_queue q ≡ false → set q ≡ true
      → s.lines.queue q ≡ x ∷ rest → ⊥
  none_waits q x rest h ni b e =
      follow (number pl) (queues pl) (Feeds pl) Waiting ⊥ (λ u w. number_below pl u w.0)
      (λ u v w z m. number_same pl u v w.0 z.0 m) step free q (h, ni, b, (x, rest, e))

-- ---- two such sets
-- all queues, where no passive in-queue is full
abbrev pub every : Queue → Bool
every q = true

pub every_closed : (pl : Plan) (s : State) → PassiveRoom pl s → Closed pl every s
every_closed pl s room =
    record { stays = λ h a p q y ha hp d b v n i. refl; room = λ h a p b q ha hp d c v n l. room b l }

-- the queues of answers alone: an answer never goes to a passive
-- what an answer meets beyond a side: a K, or an in-queue
across_answers : (pl : Plan) (a p : ℕ) (j : Joint) (y : Queue) → across pl back a p j ≡ some y → is_in_queue y ≡ false
    → answering y ≡ true
across_answers pl a p Nothing y n i = absurd (some_not_none n)
across_answers pl a p (Router m t) y n i = rw (← some_same n)
across_answers pl a p (Active m) y n i = absurd (true≢false (ap is_in_queue (some_same n) ∙ i))
across_answers pl a p (Passive m) y n i = absurd (true≢false (ap is_in_queue (some_same n) ∙ i))

-- a side beyond which a passive stands is joined to it
across_passive : (pl : Plan) (a p b : ℕ) (j : Joint) → across pl back a p j ≡ some (passive_in b) → j ≡ Passive b
across_passive pl a p b Nothing n = absurd (some_not_none n)
across_passive pl a p b (Router m t) n = let z : K m t (route_to pl (active a) m) ≡ passive_in b = some_same n in cc
across_passive pl a p b (Active m) n = let z : active_in m ≡ passive_in b = some_same n in cc
across_passive pl a p b (Passive m) n =
    let z : passive_in m ≡ passive_in b = some_same n in
    let e : m ≡ b = cc in
    ap Passive e

pub answering_closed : {pl : Plan} (wired : Wired pl) (s : State) → Closed pl answering s
unfolding next Visits
answering_closed {pl} wired s = record { stays = stays'; room = room' }
  where
    stays' : (h : Heading) (a p : ℕ) (q y : Queue) → a < A pl → p < P pl → Served pl a p → answering q ≡ true
        → Visits pl h a p q → next pl h a p q ≡ some y → is_in_queue y ≡ false → answering y ≡ true
    stays' ahead a p (passive_out x) y ha hp d b v n i = absurd v
    stays' back a p (passive_out x) y ha hp d b v n i = rw (← some_same n)
    stays' ahead a p (K r j o) y ha hp d b v n i = absurd v
    stays' back a p (K r j o) y ha hp d b v n i = across_answers pl a p (pl.joint r o) y n i
    stays' h a p (active_out x) y ha hp d b v n i = absurd (false≢true b)
    stays' h a p (active_in x) y ha hp d b v n i = absurd (false≢true b)
    stays' h a p (passive_in x) y ha hp d b v n i = absurd (false≢true b)
    stays' h a p (U r j) y ha hp d b v n i = absurd (false≢true b)
    stays' h a p (Q r j) y ha hp d b v n i = absurd (false≢true b)
    stays' h a p (F ahead r o) y ha hp d b v n i = absurd (false≢true b)
    stays' ahead a p (F back r o) y ha hp d b v n i = absurd v
    stays' back a p (F back r o) y ha hp d b v n i = across_answers pl a p (pl.joint r o) y n i

    -- a way back leads to no passive
    leads_never : (a p r j o c : ℕ) → o ≡ route_to pl (active a) r
        → across pl back a p (pl.joint r o) ≡ some (passive_in c)
        → ((z : Port) × (onward pl (active a) (record { router = r; side = j }) ≡ on z))
        ⊎ (onward pl (active a) (record { router = r; side = j }) ≡ end) → ⊥
    leads_never a p r j o c g n = by
      where
        there : pl.joint r (route_to pl (active a) r) ≡ Passive c
        there = rw (← g) (across_passive pl a p c (pl.joint r o) n)

        by : ((z : Port) × (onward pl (active a) (record { router = r; side = j }) ≡ on z))
            ⊎ (onward pl (active a) (record { router = r; side = j }) ≡ end) → ⊥
        by (inl (z, q)) =
            let k : Passive c ≡ Router z.router z.side = sym there
            ∙ onward_on pl (active a) (record { router = r; side = j }) z q in
            let z' : ◌≡◌ {A = ℕ} 0 1 = cc in
            omega arith
        by (inr q) =
            let k : Passive c ≡ Active a = sym there ∙ onward_end pl (active a) (record { router = r; side = j }) q in
            let z' : ◌≡◌ {A = ℕ} 0 1 = cc in
            omega arith

    never : (a p r j o c : ℕ) → a < A pl → p < P pl → Served pl a p → Visits pl back a p (K r j o)
        → across pl back a p (pl.joint r o) ≡ some (passive_in c) → ⊥
    never a p r j o c ha hp d (m, g) n =
        leads_never a p r j o c g n (returns_on wired a p ha hp d (record { router = r; side = j }) m)

    -- nor does it from a unit
    never_from : (a p r j o c : ℕ) → a < A pl → p < P pl → Served pl a p
        → Meets pl (passive p) (home pl (active a)) (record { router = r; side = j }) → o ≡ route_to pl (active a) r
        → across pl back a p (pl.joint r o) ≡ some (passive_in c) → ⊥
    never_from a p r j o c ha hp d m g n =
        leads_never a p r j o c g n
        (goes_from pl (active a) (record { router = r; side = j })
        (nack_walk wired a p ha hp d (record { router = r; side = j }) m) (record { router = r; side = j })
        (meets_here pl (active a) (record { router = r; side = j })))

    room' : (h : Heading) (a p c : ℕ) (q : Queue) → a < A pl → p < P pl → Served pl a p → answering q ≡ true
        → Visits pl h a p q → next pl h a p q ≡ some (passive_in c) → c < P pl
        → length (s.lines.queue (passive_in c)) < capacity pl.head (passive_in c)
    room' ahead a p c (passive_out x) ha hp d b v n l = absurd v
    room' back a p c (passive_out x) ha hp d b v n l =
        let k : K (home pl (passive x)).router (home pl (passive x)).side
        (route_to pl (active a) (home pl (passive x)).router) ≡ passive_in c = some_same n in
        let z : ◌≡◌ {A = ℕ} 0 1 = cc in
        absurd (omega arith)
    room' ahead a p c (K r j o) ha hp d b v n l = absurd v
    room' back a p c (K r j o) ha hp d b v n l = absurd (never a p r j o c ha hp d v n)
    room' h a p c (active_out x) ha hp d b v n l = absurd (false≢true b)
    room' h a p c (active_in x) ha hp d b v n l = absurd (false≢true b)
    room' h a p c (passive_in x) ha hp d b v n l = absurd (false≢true b)
    room' h a p c (U r j) ha hp d b v n l = absurd (false≢true b)
    room' h a p c (Q r i) ha hp d b v n l = absurd (false≢true b)
    room' h a p c (F ahead r o) ha hp d b v n l = absurd (false≢true b)
    room' ahead a p c (F back r o) ha hp d b v n l = absurd v
    room' back a p c (F back r o) ha hp d b ((j, m), g) n l = absurd (never_from a p r j o c ha hp d m g n)
