-- What the code looks up is the place test, for a served pair of the plan that the tables are.
use mathlib.Core.Path.{sym, ◌≡◌, refl, ap, ◌∙◌}
use mathlib.Core.Logic.{◌⊎◌, inl, inr}
use mathlib.Core.Bool.{Bool, true, false}
use mathlib.Core.List.{List, []}
use Prim.Native.Nat.{ℕ, zero, suc, ◌+◌, ◌*◌, ◌-◌, ◌/◌, ◌%◌, ◌≤◌, ◌<◌}
use native.Mathlib.Omega.{arith}
use lib.Dec.{ltb}
use lib.ListN.{get_or}
use borrow.Author.Tests.{lt-ltb, le-ltb, ne_eqb, ltb-true, ltb-false}
use Rattle.basis.specs.Choice.{pick, test, same_test}
use Rattle.basis.specs.Bounded.{lt_or_ge}
use Rattle.sets.specs.Sets.{has}
use Rattle.packets.specs.declared.Kind.{Kind}
use Rattle.packets.specs.declared.Kind.TheVariants.{Setup, Tdown, Ack, Nack}
use Rattle.packets.specs.declared.Packet.{Packet}
use Rattle.plan.specs.declared.Head.{Head}
use Rattle.plan.specs.Plan.{active, R, A, P}
use Rattle.plan.specs.Tables.{table_plan}
use Rattle.plan_walks.specs.Served.{Served}
use Rattle.plan_walks.proofs.Through.{same_default}
use Rattle.plan_queues.specs.Queue.{Heading, ahead, back, Queue, active_out, active_in, passive_in, passive_out, U, Q}
use Rattle.plan_queues.specs.Queue.{F, K}
use Rattle.plan_queues.specs.Queue.{sender_at, in_router, queue_at}
use Rattle.plan_queues.specs.Feeds.{heading_of, Place, in_queue, Fits, head_place}
use Rattle.plan_journeys.proofs.Walks.{served_of}
use Rattle.load_arrivals.specs.Pairs.{pair_walk}
use Rattle.load_arrivals.specs.Charted.{Charting}
use Rattle.load.specs.Lent.{length_at_lem}
use Rattle.theory.proofs.Places.Closure.{span_short}
use Rattle.valid.specs.Test.{fits_test}
use Rattle.valid.proofs.Decides.{never, Decides}
use Rattle.valid.proofs.Fitting.{fits_decides}
use Rattle.check_places.specs.declared.Trip.{Trip}
use Rattle.check_places.specs.Asked.{Asked}
use Rattle.check_places.specs.Look.{track_at, track_of, trip_of, out_by, cross_by, Marked, Led}
use Rattle.check_places.specs.Look.{sent_by, received_by, sender_by}
use Rattle.check_places.specs.Look.{router_by, fits_by, answers}
use Rattle.check_places.proofs.OnTrack.{active_at, Trips, on_track, rest_is}
use Rattle.check_places.proofs.Fitting.{active_out_lem, passive_out_lem, active_in_lem, passive_in_lem, unit_decides}
use Rattle.check_places.proofs.Fitting.{side_decides}
use Rattle.check_places.proofs.Fitting.{out_decides, other_decides}
use Rattle.check_places.proofs.Crossing.{home_at, nth_inside, cross_decides}

-- two tests of one claim
decided_same : {s t : Bool} {X : Type 0} → Decides s X → Decides t X → s ≡ t
decided_same {s} {t} d e = same_test s t (λ q. e.passes (d.holds q)) (λ q. d.passes (e.holds q))

-- ---- what a packet of a served pair brings
-- its numbers are inside the tables
pub in_range : {h : Head} {actives outs inner : ℕ} {routes : List (List ℕ)} {joints homes : List ℕ}
    {lengths by up : List (List ℕ)} {a p : ℕ} → Asked h actives outs inner routes joints homes lengths by up a p
    → (actives ≤ 16) × (a < 16) × (p < 16)
unfolding table_plan
in_range asked =
    let a = asked.lent.range.actives.1 in
    let p = asked.lent.range.passives.1 in
    (omega (arith, asked.counts.0), omega (arith, asked.active), omega (arith, asked.passive))

module _ {h : Head} {actives outs inner : ℕ} {routes : List (List ℕ)} {joints homes : List ℕ}
    {lengths by up : List (List ℕ)} (x : Packet)
    (asked : Asked h actives outs inner routes joints homes lengths by up x.active x.passive) where
  pub chart : Charting (table_plan h routes joints) by joints homes
  chart = asked.lent.tables.chart

  pub pair : Served (table_plan h routes joints) x.active x.passive
  pair = served_of chart.wired x.active x.passive asked.active asked.serves

  routed : (r d : ℕ) → r < 16 → d < 32 → (table_plan h routes joints).route r d ≡ get_or (get_or routes r []) d 0
  unfolding table_plan
  routed r d l m = same_default (get_or routes r []) d 7 0 (rw (asked.lent.tables.rows r l) m)

  pub trips : {t : Trip} → t ≡ trip_of actives homes lengths x
      → Trips (table_plan h routes joints) x.active x.passive t
  unfolding trip_of table_plan pair_walk
  trips {t} e =
      rw e (record {
        from =
            home_at chart (active x.active) x.active (omega (arith, asked.active))
            (active_at (table_plan h routes joints) x.active asked.active);
        column = ap (λ (k : ℕ). k + x.passive) asked.counts.0;
        size =
            ap (λ (z : List (List ℕ)). get_or (get_or z x.active []) x.passive 0) asked.lent.sizes
            ∙ length_at_lem (table_plan h routes joints) x.active x.passive asked.lent.range.actives.1
            asked.lent.range.passives.1 asked.active asked.passive
            ∙ rw asked.serves;
      })

  -- ---- every index is inside the tables
  module _ {t : Trip} (e : t ≡ trip_of actives homes lengths x) where
    trip : Trips (table_plan h routes joints) x.active x.passive t
    trip = trips e

    inside : (A (table_plan h routes joints) ≡ h.actives) × (P (table_plan h routes joints) ≡ h.passives)
        × (R (table_plan h routes joints) ≡ h.routers)
    unfolding table_plan
    inside = (refl, refl, refl)

    marked : Marked up t
    unfolding trip_of
    marked =
        let ports = asked.lent.ports in
        let few = chart.few in
        let column = trip.column in
        record {
          home = rw e (asked.lent.ports x.active (omega (arith, asked.active, inside.0)));
          column = omega (arith, asked.passive);
          long =
              let short = span_short chart.wired x.active x.passive asked.active
              asked.passive pair in
              let size = trip.size in
              omega (arith, chart.routers);
          most = most';
        }
      where
        most' : (r : ℕ) → r < 16 → has (track_of up t) r ≡ true → track_at up r t.column / 65536 ≤ t.length
        most' r l q =
            let m = (on_track chart.wired up asked.tracks x.active x.passive asked.active
            asked.passive pair t trip r l).holds q in
            let f = (rest_is chart.wired up asked.tracks x.active x.passive asked.active
            asked.passive pair t trip m.1.steps (record { router = r; side = m.0 }) m.1.here).0 in
            let long = trip.size in
            omega arith

    far_inside : get_or homes t.column 0 < 64
    far_inside =
        let column = trip.column in
        asked.lent.ports t.column (omega (arith, asked.passive, inside.0, inside.1))

    led : Led routes joints t
    led n l =
        let long = trip.size in
        (nth_inside chart x.active x.passive asked.active asked.passive pair t trip routes
        routed n (omega arith)).1

    pub ready : (inner ≤ 448) × Marked up t × Led routes joints t × (get_or homes t.column 0 < 64) × (x.active < 16)
    ready =
        let few = asked.lent.range.routers.1 in
        (omega (arith, asked.counts.2), marked, led, far_inside, (in_range asked).1)

    -- ---- every queue
    -- a place whose test decides Fits
    as_tested : (at : Place) {b : Bool}
        → Decides b (Fits (table_plan h routes joints) x.kind x.active x.passive x.hub.0 at)
        → b ≡ fits_test (table_plan h routes joints) x.kind x.active x.passive x.hub.0 at
    as_tested at d =
        decided_same d (fits_decides chart.wired x.active x.passive asked.active
        asked.passive pair x.kind x.hub.0 at)

    abbrev Tested : Place → Bool → Type 0
    Tested at b = b ≡ fits_test (table_plan h routes joints) x.kind x.active x.passive x.hub.0 at

    out_is : (r o : ℕ) → r < 16
        → Tested (in_queue (F (heading_of x.kind) r o)) (out_by routes up t r o x.active x.kind x.hub.0)
    out_is r o l =
        as_tested (in_queue (F (heading_of x.kind) r o)) (out_decides chart up asked.tracks x.active x.passive
        asked.active asked.passive pair t trip r l x.kind x.hub.0 routes o (λ d m. routed r d l m))

    -- F of set-ups and tear-downs, or of answers
    class_is : (r o : ℕ) → r < 16
        → (Tested (in_queue (F ahead r o)) (pick (answers x.kind) false
        (out_by routes up t r o x.active x.kind x.hub.0)))
        × (Tested (in_queue (F back r o)) (pick (answers x.kind)
        (out_by routes up t r o x.active x.kind x.hub.0) false))
    class_is r o l = by' x.kind refl
      where
        none : (g : Heading) → (g ≡ heading_of x.kind → ⊥) → Tested (in_queue (F g r o)) false
        none g ne = as_tested (in_queue (F g r o)) (never (other_decides chart up asked.tracks x.active
            x.passive asked.active asked.passive pair t trip r l x.kind x.hub.0 o g ne))

        apart : ahead ≡ back → ⊥
        apart e = let z : ◌≡◌ {A = ℕ} 0 1 = cc in omega arith

        by' : (k : Kind) → x.kind ≡ k
            → (Tested (in_queue (F ahead r o)) (pick (answers x.kind) false
            (out_by routes up t r o x.active x.kind x.hub.0)))
            × (Tested (in_queue (F back r o)) (pick (answers x.kind)
            (out_by routes up t r o x.active x.kind x.hub.0) false))
        by' Setup q = (rw q (rw q at (out_is r o l)), rw q (rw q at (none back (λ e. apart (sym (rw q at e))))))
        by' Tdown q = (rw q (rw q at (out_is r o l)), rw q (rw q at (none back (λ e. apart (sym (rw q at e))))))
        by' Ack q = (rw q (rw q at (none ahead (λ e. apart (rw q at e)))), rw q (rw q at (out_is r o l)))
        by' Nack q = (rw q (rw q at (none ahead (λ e. apart (rw q at e)))), rw q (rw q at (out_is r o l)))

    cross_is : (r i o : ℕ) → r < 16 → i < 4
        → Tested (in_queue (K r i o)) (cross_by routes joints homes by up t x.active (4 * r + i) o x.kind x.hub.0)
    cross_is r i o l m =
        as_tested (in_queue (K r i o)) (cross_decides chart x.active x.passive asked.active
        asked.passive pair t trip routes routed up asked.tracks (record { router = r; side = i }) l m
        x.hub.0 o x.kind)

    sender_is : (done : Bool) (r o j : ℕ) → r < 16 → o < 4 → j < 5
        → Tested (head_place done (sender_at r o j)) (sender_by routes joints homes by up t x r o j)
    unfolding sender_by
    sender_is done r o zero l m n = (class_is r o l).0
    sender_is done r o (suc zero) l m n = (class_is r o l).1
    sender_is done r o (suc (suc j)) l m n = by' (test (ltb j o))
      where
        first : suc (suc j) - 2 ≡ j
        first = omega arith

        second : suc (suc j) - 1 ≡ suc j
        second = omega arith

        by' : (ltb j o ≡ true) ⊎ (ltb j o ≡ false) → Tested (head_place done (sender_at r o (suc (suc j))))
            (sender_by routes joints homes by up t x r o (suc (suc j)))
        by' (inl q) =
            rw (ne_eqb (suc (suc j)) 0 (λ z. omega arith), ne_eqb (suc (suc j)) 1 (λ z. omega arith), first, second, q)
            (cross_is r j o l (omega arith))
        by' (inr q) =
            rw (ne_eqb (suc (suc j)) 0 (λ z. omega arith), ne_eqb (suc (suc j)) 1 (λ z. omega arith), first, second, q)
            (cross_is r (suc j) o l (omega arith))

    router_is : (done : Bool) (r k : ℕ) → r < 16 → k < 28
        → Tested (head_place done (in_router r k)) (router_by routes joints homes by up t x r k done)
    unfolding router_by
    router_is done r k l m = by' (test (ltb k 4)) (test (ltb k 8))
      where
        by' : (ltb k 4 ≡ true) ⊎ (ltb k 4 ≡ false) → (ltb k 8 ≡ true) ⊎ (ltb k 8 ≡ false)
            → Tested (head_place done (in_router r k)) (router_by routes joints homes by up t x r k done)
        by' (inl q) z =
            rw q (as_tested (in_queue (U r k)) (side_decides chart up asked.tracks x.active x.passive
            asked.active asked.passive pair t trip r l x.kind x.hub.0 k (ltb-true k 4 q)))
        by' (inr q) (inl z) =
            let low = ltb-false k 4 q in
            let high = ltb-true k 8 z in
            rw (q, z) (as_tested (head_place done (Q r (k - 4))) (unit_decides chart up asked.tracks x.active
            x.passive asked.active asked.passive pair t trip r l x.kind x.hub.0 (k - 4) (omega arith)
            done))
        by' (inr q) (inr z) =
            let low = ltb-false k 8 z in
            rw (q, z) (sender_is done r ((k - 8) / 5) ((k - 8) % 5) l (omega arith) (omega arith))

    sent_is : (n : ℕ) → n < h.actives + h.passives
        → Tested (in_queue (pick (ltb n h.actives) (active_out n) (passive_out (n - h.actives))))
        (sent_by h.actives t.length n x)
    unfolding sent_by
    sent_is n l = by' (test (ltb n h.actives))
      where
        by' : (ltb n h.actives ≡ true) ⊎ (ltb n h.actives ≡ false)
            → Tested (in_queue (pick (ltb n h.actives) (active_out n) (passive_out (n - h.actives))))
            (sent_by h.actives t.length n x)
        by' (inl q) =
            rw q (as_tested (in_queue (active_out n)) (active_out_lem chart.wired x.active x.passive
            asked.active asked.passive pair t.length trip.size n x.hub.0 x.kind))
        by' (inr q) =
            rw q (as_tested (in_queue (passive_out (n - h.actives))) (passive_out_lem chart.wired x.active x.passive
            asked.active asked.passive pair t.length trip.size (n - h.actives) x.hub.0
            x.kind))

    received_is : (n : ℕ)
        → Tested (in_queue (pick (ltb n h.actives) (active_in n) (passive_in (n - h.actives))))
        (received_by h.actives t.length n x)
    unfolding received_by
    received_is n = by' (test (ltb n h.actives))
      where
        by' : (ltb n h.actives ≡ true) ⊎ (ltb n h.actives ≡ false)
            → Tested (in_queue (pick (ltb n h.actives) (active_in n) (passive_in (n - h.actives))))
            (received_by h.actives t.length n x)
        by' (inl q) =
            rw q (as_tested (in_queue (active_in n)) (active_in_lem chart.wired x.active x.passive
            asked.active asked.passive pair t.length trip.size n x.hub.0 x.kind))
        by' (inr q) =
            rw q (as_tested (in_queue (passive_in (n - h.actives))) (passive_in_lem chart.wired x.active x.passive
            asked.active asked.passive pair t.length trip.size (n - h.actives) x.hub.0
            x.kind))

    -- ---- the queue of a number: out-queues, routers' queues, in-queues
    queue_out : (n : ℕ) → n < h.actives + h.passives
        → queue_at (table_plan h routes joints) n ≡ pick (ltb n h.actives) (active_out n) (passive_out (n - h.actives))
    unfolding queue_at table_plan
    queue_out n l = rw (lt-ltb n (h.actives + h.passives) l)

    queue_router : (n : ℕ) → h.actives + h.passives ≤ n → n - (h.actives + h.passives) < 28 * h.routers
        → queue_at (table_plan h routes joints) n
        ≡ in_router ((n - (h.actives + h.passives)) / 28) ((n - (h.actives + h.passives)) % 28)
    unfolding queue_at table_plan
    queue_router n l m =
        rw (
          le-ltb n h.actives (omega arith),
          le-ltb n (h.actives + h.passives) l,
          lt-ltb n (h.actives + h.passives + 28 * h.routers) (omega arith),
        )

    queue_in : (n : ℕ) → h.actives + h.passives ≤ n → 28 * h.routers ≤ n - (h.actives + h.passives)
        → queue_at (table_plan h routes joints) n
        ≡ pick (ltb (n - (h.actives + h.passives) - 28 * h.routers) h.actives)
        (active_in (n - (h.actives + h.passives) - 28 * h.routers))
        (passive_in (n - (h.actives + h.passives) - 28 * h.routers - h.actives))
    unfolding queue_at table_plan
    queue_in n l m = by' (lt_or_ge (n - (h.actives + h.passives) - 28 * h.routers) h.actives)
      where
        base : n - (h.actives + h.passives + 28 * h.routers) ≡ n - (h.actives + h.passives) - 28 * h.routers
        base = omega arith

        by' : (n - (h.actives + h.passives) - 28 * h.routers < h.actives)
            ⊎ (h.actives ≤ n - (h.actives + h.passives) - 28 * h.routers)
            → queue_at (table_plan h routes joints) n
            ≡ pick (ltb (n - (h.actives + h.passives) - 28 * h.routers) h.actives)
            (active_in (n - (h.actives + h.passives) - 28 * h.routers))
            (passive_in (n - (h.actives + h.passives) - 28 * h.routers - h.actives))
        by' (inl z) =
            rw (
              le-ltb n h.actives (omega arith),
              le-ltb n (h.actives + h.passives) l,
              le-ltb n (h.actives + h.passives + 28 * h.routers) (omega arith),
              lt-ltb n (h.actives + h.passives + 28 * h.routers + h.actives) (omega arith),
              lt-ltb (n - (h.actives + h.passives) - 28 * h.routers) h.actives z,
              base,
            )
        by' (inr z) =
            rw (
              le-ltb n h.actives (omega arith),
              le-ltb n (h.actives + h.passives) l,
              le-ltb n (h.actives + h.passives + 28 * h.routers) (omega arith),
              le-ltb n (h.actives + h.passives + 28 * h.routers + h.actives) (omega arith),
              le-ltb (n - (h.actives + h.passives) - 28 * h.routers) h.actives z,
              base,
            )

    -- what is looked up is what is meant
    looked_is : (n : ℕ) (done : Bool)
        → fits_by routes joints homes by up t x h.actives (h.actives + h.passives) (28 * h.routers) n done
        ≡ fits_test (table_plan h routes joints) x.kind x.active x.passive x.hub.0
        (head_place done (queue_at (table_plan h routes joints) n))
    unfolding fits_by
    looked_is n done =
        by' (lt_or_ge n (h.actives + h.passives)) (lt_or_ge (n - (h.actives + h.passives)) (28 * h.routers))
      where
        plain : (b : Bool) (q u : Queue) → head_place done q ≡ in_queue q → head_place done u ≡ in_queue u
            → head_place done (pick b q u) ≡ in_queue (pick b q u)
        plain true q u e f = e
        plain false q u e f = f

        by' : (n < h.actives + h.passives) ⊎ (h.actives + h.passives ≤ n)
            → (n - (h.actives + h.passives) < 28 * h.routers) ⊎ (28 * h.routers ≤ n - (h.actives + h.passives))
            → Tested (head_place done (queue_at (table_plan h routes joints) n))
            (fits_by routes joints homes by up t x h.actives
            (h.actives + h.passives) (28 * h.routers) n done)
        by' (inl l) m =
            rw (lt-ltb n (h.actives + h.passives) l, queue_out n l)
            (rw (plain (ltb n h.actives) (active_out n) (passive_out (n - h.actives)) refl refl) (sent_is n l))
        by' (inr l) (inl m) =
            rw (
              le-ltb n (h.actives + h.passives) l,
              lt-ltb (n - (h.actives + h.passives)) (28 * h.routers) m,
              queue_router n l m,
            )
            (router_is done ((n - (h.actives + h.passives)) / 28) ((n - (h.actives + h.passives)) % 28)
            (omega (arith, asked.lent.range.routers.1)) (omega arith))
        by' (inr l) (inr m) =
            rw (
              le-ltb n (h.actives + h.passives) l,
              le-ltb (n - (h.actives + h.passives)) (28 * h.routers) m,
              queue_in n l m,
            )
            (rw (plain (ltb (n - (h.actives + h.passives) - 28 * h.routers) h.actives)
            (active_in (n - (h.actives + h.passives) - 28 * h.routers))
            (passive_in (n - (h.actives + h.passives) - 28 * h.routers - h.actives)) refl refl)
            (received_is (n - (h.actives + h.passives) - 28 * h.routers)))

    pub fits_is : (n : ℕ) (done : Bool) {b : Bool} → b ≡ fits_by routes joints homes by up t x actives outs inner n done
        → b ≡ fits_test (table_plan h routes joints) x.kind x.active x.passive x.hub.0
        (head_place done (queue_at (table_plan h routes joints) n))
    fits_is n done e =
        rw (asked.counts.0, asked.counts.1, asked.counts.2) at e ∙ looked_is n done
