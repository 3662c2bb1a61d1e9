-- The test of the accepted connections decides Ties: each is of a served pair, has all its entries, and shares none of
-- them with another.
use mathlib.Core.Path.{◌≡◌, refl, sym, ap, subst, ◌∙◌}
use mathlib.Core.Logic.{◌⊎◌, inl, inr}
use mathlib.Core.Bool.{true, false}
use Prim.Native.Nat.{ℕ, ◌+◌, ◌*◌, ◌/◌, ◌%◌, ◌≤◌, ◌<◌}
use native.Mathlib.Omega.{arith}
use Rattle.basis.specs.Choice.{also_true, also_of, not_both, refuted}
use Rattle.basis.specs.Bounded.{lt_or_ge, all_below, all_at, all_of}
use Rattle.basis.specs.Walk.{on, way_at, way_on}
use Rattle.packets.specs.declared.Entry.{Entry}
use Rattle.packets.specs.declared.Entry.TheVariants.{Free, Booked}
use Rattle.plan.specs.Head.{InRange}
use Rattle.plan.specs.Plan.{Plan, Port, active, passive, A, P, S}
use Rattle.plan.specs.Rules.{home}
use Rattle.plan_walks.specs.Walk.{onward, router_of, walked}
use Rattle.plan_walks.specs.Served.{Served, served}
use Rattle.plan_queues.specs.Feeds.{Stands, span}
use Rattle.plan_facts.specs.Wired.{Wired}
use Rattle.plan_facts.proofs.Wires.{home_inside}
use Rattle.plan_journeys.proofs.Walks.{size_is}
use Rattle.rules.specs.Connections.{Connection, connection, Makes}
use Rattle.rules.specs.State.{State, blank, has_connection}
use Rattle.rules.specs.Valid.{Ties, Bounded}
use Rattle.valid.specs.Ties.{numbered, number_of, standing, side_of, slot_of, length_of, makes_at}
use Rattle.valid.specs.Ties.{makes_test, claimed_before, booked_by, entry_tie, tie_test, pair_ties, ties_test}
use Rattle.valid.proofs.Decides.{Decides, like, never, so, not_so, same, both, if_so, all_below_lem, any_below_lem}
use Rattle.valid.proofs.Fitting.{stands_on_lem}
use Rattle.valid.proofs.Packets.{served_decides}

-- ---- connections by number
-- A number is that of its connection.
pub number_of_lem : (m : ℕ) → number_of (numbered m) ≡ m
unfolding numbered
number_of_lem m = omega arith

-- A connection whose passive and start slot have room is that of its number.
pub numbered_of : (c : Connection) → c.passive < 16 → c.start.0 < 32 → numbered (number_of c) ≡ c
unfolding numbered
numbered_of c hp ht = λ i. connection (ea i) (ep i) (et i)
  where
    ea : number_of c / 512 ≡ c.active
    ea = omega arith

    ep : number_of c / 32 % 16 ≡ c.passive
    ep = omega arith

    et : number_of c % 32 ≡ c.start.0
    et = omega arith

-- The pair of an accepted number is among the pairs.
pair_below : (m a : ℕ) → (numbered m).active < a → m / 32 < 16 * a
unfolding numbered
pair_below m a h = omega arith

-- ---- an entry that is booked with a side
booked_by_lem : (i : ℕ) (e : Entry) → Decides (booked_by i e) (e ≡ Booked i)
booked_by_lem i Free = never (λ e. let z : ◌≡◌ {A = ℕ} 0 1 = cc in omega arith)
booked_by_lem i (Booked j) = like (same j i) (λ e. ap Booked e) (λ e. let q : j ≡ i = cc in q)

-- ---- the walk of a served pair of the plan
module _ {pl : Plan} (wired : Wired pl) (a p : ℕ) (ha : a < A pl) (s : Served pl a p) where
  -- its length is the one that the test counts
  long : span pl a p ≡ s.ahead.size
  long = size_is wired (passive p) (home pl (active a)) (home_inside (active a) wired ha).0 s.ahead

  -- it stands on a router before its length, and only then
  stands_then : (n : ℕ) → n < span pl a p → (x : Port) × (walked pl (passive p) n (home pl (active a)) ≡ on x)
  stands_then n l = (s.ahead.stop n, way_at (onward pl (passive p)) router_of s.ahead n (rw (← long) l))

  stands_when : (n : ℕ) (x : Port) → walked pl (passive p) n (home pl (active a)) ≡ on x → n < span pl a p
  stands_when n x e = rw long (way_on (onward pl (passive p)) router_of s.ahead n x e).0

-- A connection that passes its test is of a served pair and has its entries.
tie_parts : (pl : Plan) (s : State) (m : ℕ) → tie_test pl s m ≡ true
    → (served pl (numbered m).active (numbered m).passive ≡ true)
    × (all_below (length_of pl (numbered m)) (λ n. entry_tie pl s m n (standing pl (numbered m) n)) ≡ true)
unfolding tie_test
tie_parts pl s m e = also_true e

-- the connection is of the plan
abbrev pub Known : Plan → Connection → Type 0
Known pl c = (c.active < A pl) × (c.passive < P pl) × (c.start.0 < S pl)

module _ {pl : Plan} (wired : Wired pl) (range : InRange pl.head) {s : State} (bounded : Bounded pl s) where
  -- An accepted connection is of the plan, since elsewhere no mark is set.
  known : (c : Connection) → has_connection s c ≡ true → Known pl c
  unfolding blank
  known c h = by (lt_or_ge c.active (A pl)) (lt_or_ge c.passive (P pl)) (lt_or_ge c.start.0 (S pl))
    where
      out : (Known pl c → ⊥) → ⊥
      out f = not_both h (bounded.connection c.active c.passive c.start.0 f)

      by : (c.active < A pl) ⊎ (A pl ≤ c.active) → (c.passive < P pl) ⊎ (P pl ≤ c.passive)
          → (c.start.0 < S pl) ⊎ (S pl ≤ c.start.0) → Known pl c
      by (inl a) (inl p) (inl t) = (a, p, t)
      by (inl a) (inl p) (inr t) = absurd (out (λ k. omega (arith, k.2)))
      by (inl a) (inr p) y = absurd (out (λ k. omega (arith, k.1)))
      by (inr a) x y = absurd (out (λ k. omega (arith, k.0)))

  -- So it is that of its number.
  told : (c : Connection) → has_connection s c ≡ true → numbered (number_of c) ≡ c
  told c h =
      let k = known c h in
      numbered_of c (omega (arith, k.1, range.passives.1)) (omega (arith, k.2, range.slots.1))

  -- The loops over pairs and start slots come by every accepted connection.
  each_tie : Decides (ties_test pl s) ((m : ℕ) → has_connection s (numbered m) ≡ true → tie_test pl s m ≡ true)
  unfolding ties_test pair_ties
  each_tie =
      like
      (all_below_lem (16 * A pl) _
      (λ n. (t : ℕ) → t < 32 → has_connection s (numbered (32 * n + t)) ≡ true → tie_test pl s (32 * n + t) ≡ true)
      (λ n h. all_below_lem 32 _
      (λ t. has_connection s (numbered (32 * n + t)) ≡ true → tie_test pl s (32 * n + t) ≡ true)
      (λ t l. if_so (has_connection s (numbered (32 * n + t))) (so (tie_test pl s (32 * n + t))))))
      all (λ f n h t l. f (32 * n + t))
    where
      all : ((n : ℕ) → n < 16 * A pl → (t : ℕ) → t < 32 → has_connection s (numbered (32 * n + t)) ≡ true
          → tie_test pl s (32 * n + t) ≡ true) → (m : ℕ) → has_connection s (numbered m) ≡ true → tie_test pl s m ≡ true
      all f m h =
          let q : 32 * (m / 32) + m % 32 ≡ m = omega arith in
          let k = known (numbered m) h in
          let p : m / 32 < 16 * A pl = pair_below m (A pl) k.0 in
          let l : m % 32 < 32 = omega arith in
          subst (λ (i : ℕ). has_connection s (numbered i) ≡ true → tie_test pl s i ≡ true) q (f (m / 32) p (m % 32) l) h

  -- ---- where every accepted connection is of a served pair
  module _ (serves : (c : Connection) → has_connection s c ≡ true → Served pl c.active c.passive) where
    -- the test finds the entries that it makes
    makes_decides : (c : Connection) → has_connection s c ≡ true → (r o t : ℕ)
        → Decides (makes_test pl c r o t) ((i : ℕ) × Makes pl c r o t i)
    unfolding makes_test
    makes_decides c h r o t =
        like
        (any_below_lem (length_of pl c) (makes_at pl c r o t)
        (λ n. ((i : ℕ) × Stands pl c.active c.passive n r i) × ((o ≡ side_of pl c r) × (t ≡ slot_of pl c n)))
        (λ n l. both (stands_on_lem r (standing pl c n))
        (λ f. both (same o (side_of pl c r)) (λ e. same t (slot_of pl c n)))))
        (λ f. (f.2.0.0, record { index = f.0; at = f.2.0.1; side = f.2.1.0; slot = f.2.1.1 }))
        (λ f. (
          f.1.index,
          stands_when wired c.active c.passive (known c h).0 (serves c h) f.1.index
              (record { router = r; side = f.0 }) f.1.at,
          ((f.0, f.1.at), (f.1.side, f.1.slot)),
        ))

    -- and whether one before makes an entry
    claimed_decides : (m r o t : ℕ) → Decides (claimed_before pl s m r o t)
        ((k : ℕ) × (k < m) × ((has_connection s (numbered k) ≡ true) × ((i : ℕ) × Makes pl (numbered k) r o t i)))
    unfolding claimed_before
    claimed_decides m r o t =
        any_below_lem m _ (λ k. (has_connection s (numbered k) ≡ true) × ((i : ℕ) × Makes pl (numbered k) r o t i))
        (λ k l. both (so (has_connection s (numbered k))) (λ h. makes_decides (numbered k) h r o t))

    -- Connection m's entries are there, and none before it makes one of them.
    abbrev Tied : ℕ → Type 0
    Tied m = (r o t i : ℕ) → Makes pl (numbered m) r o t i → (s.table r o t ≡ Booked i)
        × ((k : ℕ) → k < m → has_connection s (numbered k) ≡ true → (j : ℕ) → Makes pl (numbered k) r o t j → ⊥)

    tie_decides : (m : ℕ) → has_connection s (numbered m) ≡ true → Decides (tie_test pl s m) (Tied m)
    unfolding tie_test
    tie_decides m h = record { holds = holds'; passes = passes' }
      where
        c : Connection
        c = numbered m

        ha : c.active < A pl
        ha = (known c h).0

        -- what the test says at the n-th router, and what it decides there
        At : ℕ → Port → Type 0
        At n x = (s.table x.router (side_of pl c x.router) (slot_of pl c n) ≡ Booked x.side)
            × (claimed_before pl s m x.router (side_of pl c x.router) (slot_of pl c n) ≡ false)

        at : (n : ℕ) (x : Port) → Decides (entry_tie pl s m n (on x)) (At n x)
        at n x =
            both (booked_by_lem x.side (s.table x.router (side_of pl c x.router) (slot_of pl c n)))
            (λ e. not_so (claimed_before pl s m x.router (side_of pl c x.router) (slot_of pl c n)))

        free : (r o t : ℕ) → claimed_before pl s m r o t ≡ false → (k : ℕ) → k < m
            → has_connection s (numbered k) ≡ true → (j : ℕ) → Makes pl (numbered k) r o t j → ⊥
        free r o t e k l g j y = not_both ((claimed_decides m r o t).passes (k, l, (g, (j, y)))) e

        holds' : tie_test pl s m ≡ true → Tied m
        holds' e r o t i y =
            let x : Port = record { router = r; side = i } in
            let n : ℕ = y.index in
            let l = stands_when wired c.active c.passive ha (serves c h) n x y.at in
            let f = all_at (length_of pl c) (λ k. entry_tie pl s m k (standing pl c k)) (tie_parts pl s m e).1 n l in
            let g = (at n x).holds (rw y.at at f) in
            (rw (y.side, y.slot) g.0, free r o t (rw (y.side, y.slot) g.1))

        passes' : Tied m → tie_test pl s m ≡ true
        passes' f =
            also_of ((served_decides wired c.active c.passive ha).passes (serves c h))
            (all_of (length_of pl c) (λ n. entry_tie pl s m n (standing pl c n)) each)
          where
            there : (n : ℕ) (x : Port) → standing pl c n ≡ on x → At n x
            there n x q =
                let y : Makes pl c x.router (side_of pl c x.router) (slot_of pl c n) x.side =
                record { index = n; at = q; side = refl; slot = refl } in
                let g = f x.router (side_of pl c x.router) (slot_of pl c n) x.side y in (
                  g.0,
                  refuted (claimed_before pl s m x.router (side_of pl c x.router) (slot_of pl c n))
                      (λ e. let d = (claimed_decides m x.router (side_of pl c x.router) (slot_of pl c n)).holds e in
                      g.1 d.0 d.1 d.2.0 d.2.1.0 d.2.1.1),
                )

            each : (n : ℕ) → n < length_of pl c → entry_tie pl s m n (standing pl c n) ≡ true
            each n l =
                let q = stands_then wired c.active c.passive ha (serves c h) n l in
                rw q.1 ((at n q.0).passes (there n q.0 q.1))

  -- ---- the law
  -- an accepted connection passes its test, so its pair is served
  tested : ((m : ℕ) → has_connection s (numbered m) ≡ true → tie_test pl s m ≡ true) → (c : Connection)
      → has_connection s c ≡ true → Served pl c.active c.passive
  tested f c h =
      let e = (tie_parts pl s (number_of c) (f (number_of c) (rw (told c h) h))).0 in
      (served_decides wired c.active c.passive (known c h).0).holds (rw (told c h) at e)

  pub ties_decide : Decides (ties_test pl s) (Ties pl s)
  ties_decide = like each_tie ties (λ y m h. (tie_decides y.serves m h).passes (tied y m h))
    where
      ties : ((m : ℕ) → has_connection s (numbered m) ≡ true → tie_test pl s m ≡ true) → Ties pl s
      ties f = record { serves = serves'; booked = λ c h r o t i y. (holds c h r o t i y).0; apart = apart' }
        where
          serves' : (c : Connection) → has_connection s c ≡ true → Served pl c.active c.passive
          serves' = tested f

          holds : (c : Connection) → has_connection s c ≡ true → (r o t i : ℕ) → Makes pl c r o t i
              → (s.table r o t ≡ Booked i) × ((k : ℕ) → k < number_of c → has_connection s (numbered k) ≡ true → (j : ℕ)
              → Makes pl (numbered k) r o t j → ⊥)
          holds c h r o t i y =
              let g : has_connection s (numbered (number_of c)) ≡ true = rw (told c h) h in
              (tie_decides serves' (number_of c) g).holds (f (number_of c) g) r o t i
              (subst (λ (d : Connection). Makes pl d r o t i) (sym (told c h)) y)

          before : (c d : Connection) → has_connection s c ≡ true → has_connection s d ≡ true → (r o t i j : ℕ)
              → Makes pl c r o t i → Makes pl d r o t j → number_of d < number_of c → ⊥
          before c d hc hd r o t i j y z l =
              (holds c hc r o t i y).1 (number_of d) l (rw (told d hd) hd) j
              (subst (λ (e : Connection). Makes pl e r o t j) (sym (told d hd)) z)

          apart' : (c d : Connection) → has_connection s c ≡ true → has_connection s d ≡ true → (r o t i j : ℕ)
              → Makes pl c r o t i → Makes pl d r o t j → c ≡ d
          apart' c d hc hd r o t i j y z =
              by (lt_or_ge (number_of d) (number_of c)) (lt_or_ge (number_of c) (number_of d))
            where
              by : (number_of d < number_of c) ⊎ (number_of c ≤ number_of d)
                  → (number_of c < number_of d) ⊎ (number_of d ≤ number_of c) → c ≡ d
              by (inl l) x = absurd (before c d hc hd r o t i j y z l)
              by (inr g) (inl l) = absurd (before d c hd hc r o t j i z y l)
              by (inr g) (inr k) =
                  let e : number_of c ≡ number_of d = omega arith in sym (told c hc) ∙ ap numbered e ∙ told d hd

      tied : (y : Ties pl s) (m : ℕ) → has_connection s (numbered m) ≡ true → Tied y.serves m
      tied y m h r o t i x = (y.booked (numbered m) h r o t i x, others)
        where
          others : (k : ℕ) → k < m → has_connection s (numbered k) ≡ true → (j : ℕ) → Makes pl (numbered k) r o t j → ⊥
          others k l g j z =
              let e = ap number_of (y.apart (numbered m) (numbered k) h g r o t i j x z) in
              let a = number_of_lem m in
              let b = number_of_lem k in
              omega arith
