-- What a packet owns at the places that it comes to: on the way from queue to queue the same; booked, one entry more;
-- at each router that tears down, one less; declined, answered and torn down at the active, the same.
use mathlib.Core.Path.{◌≡◌, refl, sym, ap, ap₂, subst, ◌∙◌}
use mathlib.Core.Logic.{◌⊎◌, inl, inr}
use mathlib.Core.Option.{some}
use Prim.Native.Nat.{ℕ, ◌+◌, ◌-◌, ◌≤◌, ◌<◌}
use native.Mathlib.Omega.{arith}
use Rattle.basis.specs.Choice.{pick}
use Rattle.kinds.specs.declared.Slot.{Slot}
use Rattle.packets.specs.declared.Kind.{Kind}
use Rattle.packets.specs.declared.Kind.TheVariants.{Setup, Tdown, Ack, Nack}
use Rattle.packets.specs.declared.Packet.{Packet}
use Rattle.packets.specs.Counters.{slot_next, start_slot}
use Rattle.plan.specs.Plan.{Plan, A, P, S}
use Rattle.plan_walks.specs.Served.{Served}
use Rattle.plan_queues.specs.Queue.{back, Queue, active_out, active_in, passive_in, passive_out, U, Q, F, K}
use Rattle.plan_queues.specs.Feeds.{Place, in_queue, handled_at, heading_of, ahead, leaving, next, Stands, Ahead, Fits}
use Rattle.plan_queues.specs.Feeds.{leaves_from}
use Rattle.plan_facts.specs.Wired.{Wired}
use Rattle.rules.specs.Execute.{declined, booked, freed, marked, tdown_of}
use Rattle.rules.specs.Visits.{setup_of, replied_as}
use Rattle.rules.specs.Valid.{Belongs, bit}
use Rattle.theory.proofs.Places.Closure.{fits_next, unit_setup}
use Rattle.theory.proofs.Places.Feeders.{sender_leaves}
use Rattle.theory.proofs.Cases.{exit_at}
use Rattle.theory.proofs.Weights.Moves.{Steady}
use Rattle.theory.proofs.Places.Slots.{start_below, after_start, start_next, start_none}
use Rattle.theory.proofs.Places.Indices.{index_is}
use Rattle.theory.specs.Owners.{Holder, same_holder, holder_of, index_of, index_number, owning, behind, owns_up}
use Rattle.theory.specs.Owners.{owns_down, owns_kind, owns}
use Rattle.theory.proofs.Own.Owning.{same_entry, owning_none, owning_most, owning_sum, owning_one}

-- ---- the routers behind a packet
module _ {pl : Plan} (wired : Wired pl) (a p : ℕ) (ha : a < A pl) (hp : p < P pl) (s : Served pl a p) where
  number_is : (n r i : ℕ) → Stands pl a p n r i → index_number (index_of pl a p r) ≡ n
  number_is n r i f = ap index_number (index_is wired a p ha hp s n r i f)

  -- A packet on the way to the passive has as many routers behind it as its place tells.
  pub ahead_behind : (at : Place) (n : ℕ) → Ahead pl a p at n → behind pl a p at ≡ n
  unfolding Ahead behind
  ahead_behind (in_queue (active_out x)) n (e, z) = sym z
  ahead_behind (in_queue (U r i)) n f = number_is n r i f
  ahead_behind (in_queue (Q r i)) n f = number_is n r i f
  ahead_behind (handled_at r i) n (m, f, e) = let q = number_is m r i f in omega arith
  ahead_behind (in_queue (F back r o)) n f = absurd f
  ahead_behind (in_queue (F ahead r o)) n (i, m, f, e, g) = let q = number_is m r i f in omega arith
  ahead_behind (in_queue (passive_in x)) n (e, z) = sym z
  ahead_behind (in_queue (active_in x)) n f = absurd f
  ahead_behind (in_queue (passive_out x)) n f = absurd f
  ahead_behind (in_queue (K r i o)) n f = absurd f

  -- It keeps that number on the way from queue to queue.
  pub behind_next : (n : ℕ) (q y : Queue) → Ahead pl a p (leaves_from q) n → next pl ahead a p q ≡ some y
      → behind pl a p (leaves_from q) ≡ behind pl a p (in_queue y)
  behind_next n q y f e =
      ahead_behind (leaves_from q) n f ∙ sym (ahead_behind (in_queue y) n (fits_next wired a p ha hp s Setup n q y f e))

-- A packet that fits as one of its kind.
pub fits_as : {pl : Plan} {at : Place} {x : Packet} (k : Kind) → x.kind ≡ k → Belongs pl at x
    → Fits pl k x.active x.passive x.hub.0 at
fits_as {pl} {at} {x} k e b = subst (λ (k : Kind). Fits pl k x.active x.passive x.hub.0 at) e b.fits

module _ (pl : Plan) (r o t : ℕ) (v : Holder) where
  -- ---- by kind
  -- What a packet of a kind owns.
  pub owns_of : (k : Kind) (at : Place) (x : Packet) → x.kind ≡ k → owns pl r o t v at x ≡ owns_kind pl r o t v at k x
  unfolding owns
  owns_of k at x e = ap (λ (k : Kind). owns_kind pl r o t v at k x) e

  -- A packet owns an entry once at most.
  pub owns_most : (at : Place) (x : Packet) → owns pl r o t v at x ≤ 1
  unfolding owns
  owns_most at x = by x.kind
    where
      up : owns_up pl r o t v x ≤ 1
      up = owning_most pl r o t v x.active x.passive (start_slot x.slot x.hub (S pl)) 0 x.hub.0

      by : (k : Kind) → owns_kind pl r o t v at k x ≤ 1
      by Setup = up
      by Tdown = owning_most pl r o t v x.active x.passive _ _ _
      by Ack = up
      by Nack = up

  -- A packet other than a tear-down owns nothing with hub 0.
  pub up_none : (x : Packet) → x.hub.0 ≡ 0 → owns_up pl r o t v x ≡ 0
  up_none x e =
      owning_none pl r o t v x.active x.passive (start_slot x.slot x.hub (S pl)) 0 x.hub.0 (omega arith)

  -- A launched set-up owns nothing.
  pub launched_owns : (at : Place) (a p u : ℕ) → owns pl r o t v at (setup_of a p u) ≡ 0
  launched_owns at a p u = owns_of Setup at (setup_of a p u) refl ∙ up_none (setup_of a p u) refl

  -- A declined set-up owns what it owned.
  pub declined_owns : (from at : Place) (x : Packet) → x.kind ≡ Setup
      → owns pl r o t v at (declined x) ≡ owns pl r o t v from x
  declined_owns from at x e = owns_of Nack at (declined x) refl ∙ sym (owns_of Setup from x e)

  -- So does an answered one.
  pub replied_owns : (from at : Place) (k : Kind) (x : Packet) → (k ≡ Ack) ⊎ (k ≡ Nack) → x.kind ≡ Setup
      → owns pl r o t v at (replied_as k x) ≡ owns pl r o t v from x
  replied_owns from at k x (inl q) e = owns_of Ack at (replied_as k x) q ∙ sym (owns_of Setup from x e)
  replied_owns from at k x (inr q) e = owns_of Nack at (replied_as k x) q ∙ sym (owns_of Setup from x e)

  -- A NACK marked owns nothing, and the tear-down made of it owns what it owned.
  pub torn_owns : (a : ℕ) (from at : Place) (x : Packet) → x.kind ≡ Nack → x.slot.0 < S pl
      → owns pl r o t v at (marked x) + owns pl r o t v (in_queue (active_out a)) (tdown_of (S pl) x)
      ≡ owns pl r o t v from x
  unfolding behind
  torn_owns a from at x e h =
      let none = owns_of Nack at (marked x) e ∙ up_none (marked x) refl in
      let down : owns pl r o t v (in_queue (active_out a)) (tdown_of (S pl) x)
      ≡ owns_down pl r o t v 0 (tdown_of (S pl) x) = owns_of Tdown (in_queue (active_out a)) (tdown_of (S pl) x) refl in
      let first : start_slot (tdown_of (S pl) x).slot (record { 0 = 0 }) (S pl) ≡ start_slot x.slot x.hub (S pl) =
      start_none (S pl) (start_slot x.slot x.hub (S pl)) (start_below (S pl) x.slot x.hub (omega arith)) in
      let size : 0 + x.hub.0 ≡ x.hub.0 = omega arith in
      let same : owns_down pl r o t v 0 (tdown_of (S pl) x) ≡ owns_up pl r o t v x =
      ap₂ (λ (b : Slot) (n : ℕ). owning pl r o t v x.active x.passive b 0 n) first size in
      let was = owns_of Nack from x e in
      omega arith

  -- 1 if the entry is the one of router i that a packet books or frees there, and the holder its pair's; else 0
  abbrev pub one_at : ℕ → Packet → ℕ
  one_at i x = pick (same_entry r o t i (exit_at pl i x) x.slot.0)
      (bit (same_holder (holder_of pl x.active x.passive i) v)) 0

  module _ (wired : Wired pl) where
    -- ---- on the way
    -- A packet owns the same in its next queue.
    pub owns_steady : Steady pl (owns pl r o t v)
    unfolding next
    owns_steady w k q y x d e n b = by x.kind refl
      where
        far : x.kind ≡ Tdown
            → behind pl x.active x.passive (leaves_from q) ≡ behind pl x.active x.passive (in_queue y)
        far c =
            let f = fits_as Tdown c b in
            let go : next pl (heading_of x.kind) x.active x.passive q ≡ some y =
            ap (leaving pl (heading_of x.kind) x.active x.passive) (sender_leaves w k q e) ∙ n in
            behind_next wired x.active x.passive b.ranges.active b.ranges.passive b.serves f.0 q y
            f.1 (rw c at go)

        by : (k : Kind) → x.kind ≡ k → owns pl r o t v (leaves_from q) x ≡ owns pl r o t v (in_queue y) x
        by Setup c = owns_of Setup (leaves_from q) x c ∙ sym (owns_of Setup (in_queue y) x c)
        by Tdown c = owns_of Tdown (leaves_from q) x c ∙ ap (λ (m : ℕ). owns_down pl r o t v m x) (far c)
            ∙ sym (owns_of Tdown (in_queue y) x c)
        by Ack c = owns_of Ack (leaves_from q) x c ∙ sym (owns_of Ack (in_queue y) x c)
        by Nack c = owns_of Nack (leaves_from q) x c ∙ sym (owns_of Nack (in_queue y) x c)

    -- ---- at a unit
    -- the piece of one router, with the slot that comes there
    one_at_lem : (i : ℕ) (x : Packet) (at : Place) → Belongs pl at x → (n j : ℕ) → Stands pl x.active x.passive n i j
        → owning pl r o t v x.active x.passive (start_slot x.slot (record { 0 = n }) (S pl)) n (n + 1)
        ≡ one_at i x
    one_at_lem i x at b n j f =
        owning_one wired x.active x.passive b.ranges.active b.ranges.passive b.serves n i j f
        (start_slot x.slot (record { 0 = n }) (S pl)) r o t v
        ∙ ap (λ (u : Slot). pick (same_entry r o t i (exit_at pl i x) u.0)
        (bit (same_holder (holder_of pl x.active x.passive i) v)) 0)
        (after_start (S pl) x.slot (record { 0 = n }) b.ranges.slot)

    -- A set-up that is booked owns that entry more.
    pub booked_owns : (i j : ℕ) (x : Packet) → x.kind ≡ Setup → Belongs pl (in_queue (Q i j)) x
        → owns pl r o t v (handled_at i j) (booked (S pl) x) ≡ owns pl r o t v (in_queue (Q i j)) x + one_at i x
    booked_owns i j x e b =
        let f = unit_setup wired x.active x.passive b.ranges.active b.ranges.passive b.serves i j
        x.hub.0 (fits_as Setup e b) in
        let new = owns_of Setup (handled_at i j) (booked (S pl) x) e in
        let start = ap (λ (u : Slot). owning pl r o t v x.active x.passive u 0 (x.hub.0 + 1))
        (start_next (S pl) x.slot x.hub b.ranges.slot) in
        let all = owning_sum pl r o t v x.active x.passive (start_slot x.slot x.hub (S pl)) 0 x.hub.0
        (x.hub.0 + 1) (omega arith) (omega arith) in
        let one = one_at_lem i x (in_queue (Q i j)) b x.hub.0 j f in
        let old = owns_of Setup (in_queue (Q i j)) x e in
        omega arith

    -- A tear-down that frees an entry owns that entry less.
    pub freed_owns : (i j : ℕ) (x : Packet) → x.kind ≡ Tdown → Belongs pl (in_queue (Q i j)) x
        → owns pl r o t v (in_queue (Q i j)) x ≡ owns pl r o t v (handled_at i j) (freed (S pl) x) + one_at i x
    unfolding Ahead
    freed_owns i j x e b = by (fits_as Tdown e b)
      where
        by : Fits pl Tdown x.active x.passive x.hub.0 (in_queue (Q i j))
            → owns pl r o t v (in_queue (Q i j)) x ≡ owns pl r o t v (handled_at i j) (freed (S pl) x) + one_at i x
        by (n, f, l, g) =
            let here = ahead_behind wired x.active x.passive b.ranges.active b.ranges.passive b.serves
            (in_queue (Q i j)) n f in
            let there = ahead_behind wired x.active x.passive b.ranges.active b.ranges.passive
            b.serves (handled_at i j) (n + 1) (n, f, omega arith) in
            let old = owns_of Tdown (in_queue (Q i j)) x e ∙ ap (λ (m : ℕ). owns_down pl r o t v m x) here in
            let new = owns_of Tdown (handled_at i j) (freed (S pl) x) e
            ∙ ap (λ (m : ℕ). owns_down pl r o t v m (freed (S pl) x)) there in
            let size : n + 1 + (x.hub.0 - 1) ≡ n + x.hub.0 = omega arith in
            let start = ap₂ (λ (u : Slot) (m : ℕ). owning pl r o t v x.active x.passive u (n + 1) m)
            (start_next (S pl) x.slot (record { 0 = n }) b.ranges.slot) size in
            let all = owning_sum pl r o t v x.active x.passive (start_slot x.slot (record { 0 = n }) (S pl)) n
            (n + 1) (n + x.hub.0) (omega arith) (omega arith) in
            let one = one_at_lem i x (in_queue (Q i j)) b n j f in
            omega arith

    -- With hub 1 that entry is all that it owns.
    pub ended_owns : (i j : ℕ) (x : Packet) → x.kind ≡ Tdown → x.hub.0 ≡ 1 → Belongs pl (in_queue (Q i j)) x
        → owns pl r o t v (in_queue (Q i j)) x ≡ one_at i x
    ended_owns i j x e h b =
        let n : ℕ = behind pl x.active x.passive (handled_at i j) in
        let none = owning_none pl r o t v x.active x.passive
        (start_slot (slot_next x.slot (S pl)) (record { 0 = n }) (S pl)) n (n + (x.hub.0 - 1)) (omega arith) in
        let new = owns_of Tdown (handled_at i j) (freed (S pl) x) e in
        let all = freed_owns i j x e b in
        omega arith
