-- Each step leaves a packet fewer steps: on the way to its next queue one fewer at least; handled at a unit, answered
-- and torn down, no more.
use mathlib.Core.Path.{◌≡◌, refl, ap, ◌∙◌}
use mathlib.Core.Logic.{◌⊎◌, inl, inr}
use mathlib.Core.Option.{some}
use Prim.Native.Nat.{ℕ, ◌+◌, ◌*◌, ◌≤◌, ◌<◌}
use native.Mathlib.Omega.{arith}
use Rattle.basis.specs.Walk.{on, end}
use Rattle.packets.specs.declared.Kind.{Kind}
use Rattle.packets.specs.declared.Kind.TheVariants.{Setup, Tdown, Ack, Nack}
use Rattle.packets.specs.declared.Packet.{Packet}
use Rattle.plan.specs.Plan.{Plan, Port, active, passive, R, A, P, S, route_to}
use Rattle.plan.specs.Rules.{home}
use Rattle.plan_walks.specs.Walk.{onward, Walk}
use Rattle.plan_walks.specs.Served.{Served}
use Rattle.plan_queues.specs.Queue.{Queue, active_out, active_in, passive_in, passive_out, U, Q, F, K, Exists}
use Rattle.plan_queues.specs.Feeds.{Place, in_queue, handled_at, ahead, back, heading_of, Output, leaving, next, Stands}
use Rattle.plan_queues.specs.Feeds.{across, Ahead, Returns, Back, Fits, leaves_from}
use Rattle.plan_facts.specs.Wired.{Wired}
use Rattle.plan_facts.proofs.Wires.{home_inside}
use Rattle.plan_journeys.proofs.Walks.{onward_on, onward_end}
use Rattle.plan_journeys.proofs.Places.{meets_here, goes_from, back_walk, nack_walk, next_walk, walk_move, some_same}
use Rattle.plan_journeys.proofs.Places.{some_not_none}
use Rattle.rules.specs.Outputs.{next_by, senders}
use Rattle.rules.specs.Write.{of_rank}
use Rattle.rules.specs.Execute.{declined, booked, freed, marked, tdown_of}
use Rattle.rules.specs.Visits.{replied_as}
use Rattle.rules.specs.Valid.{Belongs, Drives}
use Rattle.theory.proofs.Places.Closure.{unit_setup, passive_setup}
use Rattle.rules.proofs.Numbers.{sender_exists}
use Rattle.theory.proofs.Places.Feeders.{sender_leaves}
use Rattle.theory.proofs.Own.Packets.{fits_as}
use Rattle.theory_drain.specs.Left.{way_back, at_router, setup_left, tdown_left, answer_left, left_kind, left}
use Rattle.theory_drain.proofs.Ways.{rest_walk, way_some, way_short, way_next}

-- What a packet of a kind has left.
pub left_of : (pl : Plan) (k : Kind) (at : Place) (x : Packet) → x.kind ≡ k
    → left pl at x ≡ left_kind pl k x.active x.hub.0 at
unfolding left
left_of pl k at x e = ap (λ (k : Kind). left_kind pl k x.active x.hub.0 at) e

module _ {pl : Plan} (wired : Wired pl) (a p : ℕ) (ha : a < A pl) (hp : p < P pl) (s : Served pl a p) where
  abbrev start : Port
  start = home pl (active a)

  -- ---- to the passive: a weight that falls from each queue to the next
  module _ (w : Place → ℕ) (out : (x r i : ℕ) → w (in_queue (U r i)) + 1 ≤ w (in_queue (active_out x)))
      (up : (r i j : ℕ) → w (in_queue (Q r j)) + 1 ≤ w (in_queue (U r i)))
      (handled : (r i o : ℕ) → w (in_queue (F ahead r o)) + 1 ≤ w (handled_at r i))
      (across : (r o n i : ℕ) → w (in_queue (U n i)) + 1 ≤ w (in_queue (F ahead r o)))
      (over : (r o x : ℕ) → w (in_queue (passive_in x)) + 1 ≤ w (in_queue (F ahead r o))) where
    ahead_falls : (n : ℕ) (x y : Queue) → Ahead pl a p (leaves_from x) n → next pl ahead a p x ≡ some y
        → w (in_queue y) + 1 ≤ w (leaves_from x)
    unfolding Ahead next
    ahead_falls n (active_out x) y f q = rw (← some_same q) (out _ _ _)
    ahead_falls n (U r i) y f q = rw (← some_same q) (up _ _ _)
    ahead_falls n (Q r i) y f q = rw (← some_same q) (handled _ _ _)
    ahead_falls n (F ahead r o) y (i, m, f, e, g) q =
        by (goes_from pl (passive p) start s.ahead x (record { steps = m; here = f }))
      where
        x : Port
        x = record { router = r; side = i }

        by : ((z : Port) × (onward pl (passive p) x ≡ on z)) ⊎ (onward pl (passive p) x ≡ end)
            → w (in_queue y) + 1 ≤ w (in_queue (F ahead r o))
        by (inl (z, k)) = rw (← some_same (rw (g, onward_on pl (passive p) x z k) at q)) (across _ _ _ _)
        by (inr k) = rw (← some_same (rw (g, onward_end pl (passive p) x k) at q)) (over _ _ _)
    ahead_falls n (passive_in x) y f q = absurd (some_not_none q)
    ahead_falls n (active_in x) y f q = absurd f
    ahead_falls n (passive_out x) y f q = absurd f
    ahead_falls n (F back r o) y f q = absurd f
    ahead_falls n (K r i o) y f q = absurd f

  setup_falls : (n h : ℕ) (x y : Queue) → Ahead pl a p (leaves_from x) n → next pl ahead a p x ≡ some y
      → setup_left h (in_queue y) + 1 ≤ setup_left h (leaves_from x)
  setup_falls n h =
      ahead_falls (setup_left h) (λ x r i. omega arith) (λ r i j. omega arith) (λ r i o. omega arith)
      (λ r o n i. omega arith) (λ r o x. omega arith) n

  tdown_falls : (n h : ℕ) (x y : Queue) → 1 ≤ h → Ahead pl a p (leaves_from x) n → next pl ahead a p x ≡ some y
      → tdown_left h (in_queue y) + 1 ≤ tdown_left h (leaves_from x)
  tdown_falls n h x y l =
      ahead_falls (tdown_left h) (λ x r i. omega arith) (λ r i j. omega arith) (λ r i o. omega arith)
      (λ r o n i. omega arith) (λ r o x. omega arith) n x y

  -- ---- back to the active
  -- from where an answer comes in, its way back
  returns_walk : (n : ℕ) (y : Port) → Returns pl a p n y → Walk pl (active a) y
  returns_walk n y (inl (m, e)) = rest_walk pl (active a) (home pl (passive p)) y (back_walk wired a p ha hp s) m
  returns_walk n y (inr (x, z, f, g, m)) =
      rest_walk pl (active a) z y (next_walk wired a p ha hp s x z (record { steps = n; here = f }) g) m

  -- from the n-th router of the walk
  stands_walk : (n r i : ℕ) → Stands pl a p n r i → Walk pl (active a) (at_router r)
  stands_walk n r i f =
      walk_move pl (active a) (record { router = r; side = i }) (at_router r) refl
      (nack_walk wired a p ha hp s (record { router = r; side = i }) (record { steps = n; here = f }))

  -- an answer that leaves a router for its next queue
  across_falls : (h : ℕ) (x : Port) (o : ℕ) (y : Queue) → x.router < R pl → Walk pl (active a) x
      → o ≡ route_to pl (active a) x.router → across pl back a p (pl.joint x.router o) ≡ some y
      → answer_left pl a h (in_queue y) ≤ way_back pl a x + 4 * h
  across_falls h x o y l w g q = by (goes_from pl (active a) x w x (meets_here pl (active a) x))
    where
      by : ((z : Port) × (onward pl (active a) x ≡ on z)) ⊎ (onward pl (active a) x ≡ end)
          → answer_left pl a h (in_queue y) ≤ way_back pl a x + 4 * h
      by (inl (z, k)) =
          let m = way_next wired a x z l w k in
          rw (← some_same (rw (g, onward_on pl (active a) x z k) at q)) (omega arith)
      by (inr k) =
          let m = way_some wired a x l w in
          rw (← some_same (rw (g, onward_end pl (active a) x k) at q)) (omega arith)

  answer_falls : (n h : ℕ) (x y : Queue) → Exists pl x → Back pl a p (leaves_from x) n → next pl back a p x ≡ some y
      → answer_left pl a h (in_queue y) + 1 ≤ answer_left pl a h (leaves_from x)
  unfolding Back next
  answer_falls n h (passive_out x) y l f q = rw (← some_same q) (omega arith)
  answer_falls n h (Q r i) y l f q = rw (← some_same q) (omega arith)
  answer_falls n h (F back r o) y l (i, f, g) q =
      let k = across_falls h (at_router r) o y l.0 (stands_walk n r i f) g q in omega arith
  answer_falls n h (K r i o) y l (f, g) q =
      let x : Port = record { router = r; side = i } in
      let k = across_falls h (record { router = r; side = i }) o y l.0
      (returns_walk n (record { router = r; side = i }) f) g q in omega arith
  answer_falls n h (active_in x) y l f q = absurd (some_not_none q)
  answer_falls n h (active_out x) y l f q = absurd f
  answer_falls n h (passive_in x) y l f q = absurd f
  answer_falls n h (U r i) y l f q = absurd f
  answer_falls n h (F ahead r o) y l f q = absurd f

  -- ---- a packet that leaves a queue for the next
  pub next_falls : (k : Kind) (h : ℕ) (x y : Queue) → Exists pl x → Fits pl k a p h (leaves_from x)
      → next pl (heading_of k) a p x ≡ some y → left_kind pl k a h (in_queue y) + 1 ≤ left_kind pl k a h (leaves_from x)
  next_falls Setup h x y l f q = setup_falls h h x y f q
  next_falls Tdown h x y l (n, f, m, g) q = tdown_falls n h x y m f q
  next_falls Ack h x y l (f, e) q = answer_falls h h x y l f q
  next_falls Nack h x y l f q = answer_falls h h x y l f q

  -- ---- at a passive: the way back from it is counted before the set-up is answered
  pub reply_falls : (h : ℕ) → R pl ≤ 16 → h ≤ 16
      → answer_left pl a h (in_queue (passive_out p)) + 1 ≤ setup_left h (in_queue (passive_in p))
  reply_falls h r l =
      let m = way_short wired a (home pl (passive p)) (home_inside (passive p) wired hp).0
      (back_walk wired a p ha hp s) in
      omega arith

  -- ---- at a unit: the way back is counted before the set-up is declined
  pub decline_falls : (n h r i : ℕ) → R pl ≤ 16 → h ≤ 16 → r < R pl → Stands pl a p n r i
      → answer_left pl a h (handled_at r i) ≤ setup_left h (in_queue (Q r i))
  decline_falls n h r i m l k f =
      let w = way_short wired a (at_router r) k (stands_walk n r i f) in
      omega arith

module _ {pl : Plan} (wired : Wired pl) where
  -- A packet that leaves its queue has at least one step fewer in the next.
  pub leaves_falls : (o : Output) (k : ℕ) (q y : Queue) (x : Packet) → Drives pl o → of_rank (senders o) k ≡ some q
      → next_by pl o x ≡ some y → Belongs pl (leaves_from q) x → left pl (in_queue y) x + 1 ≤ left pl (leaves_from q) x
  unfolding next left
  leaves_falls o k q y x d e n b =
      next_falls wired x.active x.passive b.ranges.active b.ranges.passive b.serves x.kind
      x.hub.0 q y (sender_exists pl o k q d e) b.fits
      (ap (leaving pl (heading_of x.kind) x.active x.passive) (sender_leaves o k q e) ∙ n)

  -- ---- at a unit
  -- A set-up that is booked has as many.
  pub booked_left : (r i : ℕ) (x : Packet) → x.kind ≡ Setup → x.hub.0 < 16
      → left pl (handled_at r i) (booked (S pl) x) ≡ left pl (in_queue (Q r i)) x
  booked_left r i x e l =
      let new = left_of pl Setup (handled_at r i) (booked (S pl) x) e in
      let old = left_of pl Setup (in_queue (Q r i)) x e in
      omega arith

  -- A set-up that is declined has no more.
  pub declined_left : (r i : ℕ) (x : Packet) → R pl ≤ 16 → r < R pl → x.kind ≡ Setup → Belongs pl (in_queue (Q r i)) x
      → left pl (handled_at r i) (declined x) ≤ left pl (in_queue (Q r i)) x
  declined_left r i x m l e b =
      let f = unit_setup wired x.active x.passive b.ranges.active b.ranges.passive b.serves r i
      x.hub.0 (fits_as Setup e b) in
      let less = decline_falls wired x.active x.passive b.ranges.active b.ranges.passive b.serves
      x.hub.0 x.hub.0 r i m b.ranges.hub l f in
      let new = left_of pl Nack (handled_at r i) (declined x) refl in
      let old = left_of pl Setup (in_queue (Q r i)) x e in
      omega arith

  -- A tear-down that goes on has as many,
  pub freed_left : (r i : ℕ) (x : Packet) → x.kind ≡ Tdown → 1 < x.hub.0
      → left pl (handled_at r i) (freed (S pl) x) ≡ left pl (in_queue (Q r i)) x
  freed_left r i x e l =
      let new = left_of pl Tdown (handled_at r i) (freed (S pl) x) e in
      let old = left_of pl Tdown (in_queue (Q r i)) x e in
      omega arith

  -- and one that ends had one.
  pub ended_left : (r i : ℕ) (x : Packet) → x.kind ≡ Tdown → x.hub.0 ≡ 1 → left pl (in_queue (Q r i)) x ≡ 1
  ended_left r i x e l = let old = left_of pl Tdown (in_queue (Q r i)) x e in omega arith

  -- ---- at an active
  -- A NACK that is marked and its tear-down together have one fewer at least.
  pub torn_left : (a : ℕ) (x : Packet) → x.kind ≡ Nack → 1 ≤ x.hub.0
      → left pl (in_queue (active_in a)) (marked x) + left pl (in_queue (active_out a)) (tdown_of (S pl) x) + 1
      ≤ left pl (in_queue (active_in a)) x
  torn_left a x e l =
      let one = left_of pl Nack (in_queue (active_in a)) (marked x) e in
      let two = left_of pl Tdown (in_queue (active_out a)) (tdown_of (S pl) x) refl in
      let old = left_of pl Nack (in_queue (active_in a)) x e in
      omega arith

  -- What is dropped had one.
  pub dropped_left : (a : ℕ) (x : Packet) → (x.kind ≡ Ack) ⊎ (x.kind ≡ Nack) → 1 ≤ left pl (in_queue (active_in a)) x
  dropped_left a x (inl e) = let old = left_of pl Ack (in_queue (active_in a)) x e in omega arith
  dropped_left a x (inr e) = let old = left_of pl Nack (in_queue (active_in a)) x e in omega arith

  -- ---- at a passive
  -- An answer has one fewer than the set-up had.
  pub replied_left : (p : ℕ) (k : Kind) (x : Packet) → R pl ≤ 16 → (k ≡ Ack) ⊎ (k ≡ Nack)
      → Belongs pl (in_queue (passive_in p)) x
      → left pl (in_queue (passive_out p)) (replied_as k x) + 1 ≤ left pl (in_queue (passive_in p)) x
  replied_left p k x m c b =
      let g = passive_setup wired x.active x.passive b.ranges.active b.ranges.passive b.serves
      x.kind x.hub.0 p b.fits in
      let less = reply_falls wired x.active x.passive b.ranges.active b.ranges.passive b.serves
      x.hub.0 m b.ranges.hub in
      let same : answer_left pl x.active x.hub.0 (in_queue (passive_out p))
      ≡ answer_left pl x.active x.hub.0 (in_queue (passive_out x.passive))
      = ap (λ (n : ℕ). answer_left pl x.active x.hub.0 (in_queue (passive_out n))) g.1 in
      let old = left_of pl Setup (in_queue (passive_in p)) x g.0 in
      let new = by c in
      omega arith
    where
      by : (k ≡ Ack) ⊎ (k ≡ Nack)
          → left pl (in_queue (passive_out p)) (replied_as k x)
          ≡ answer_left pl x.active x.hub.0 (in_queue (passive_out p))
      by (inl e) = left_of pl Ack (in_queue (passive_out p)) (replied_as k x) e
      by (inr e) = left_of pl Nack (in_queue (passive_out p)) (replied_as k x) e
