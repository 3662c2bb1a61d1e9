-- The words that the sweeps leave say which routers the walks meet, and how many.
use mathlib.Core.Path.{◌≡◌, refl, sym, ap, ◌∙◌}
use mathlib.Core.Logic.{◌⊎◌, inl, inr}
use mathlib.Core.Bool.{Bool, true, false, ◌&&◌, ◌||◌, false≢true}
use mathlib.Core.List.{List, []}
use Prim.Native.Nat.{ℕ, zero, suc, ◌+◌, ◌-◌, ◌/◌, ◌%◌, ◌^◌, ◌≤◌, ◌<◌}
use native.Mathlib.Omega.{arith}
use lib.Dec.{eqb}
use lib.ListN.{get_or, length, replicate, length-replicate, get_or-replicate}
use borrow.Author.Tests.{eqb-true, eq-eqb}
use Rattle.basis.specs.Choice.{test, same_test}
use Rattle.basis.specs.Bounded.{any_below, any_true, any_of, Found, or_cases, or_right, lt_or_ge}
use Rattle.basis.specs.Walk.{Spot, on, end, lost, spot, spot_none, spot_next, spot_end, way_on}
use Rattle.plan.specs.declared.Head.{Head}
use Rattle.plan.specs.Head.{destinations}
use Rattle.plan.specs.Plan.{Plan, Port, R}
use Rattle.plan.specs.Tables.{interface_at, table_plan}
use Rattle.plan_walks.specs.Walk.{onward, router_of, walked, arrives, walk_size}
use Rattle.plan_walks.specs.Steps.{stands_on}
use Rattle.plan_walks.specs.Drawn.{Arrivals}
use Rattle.plan_facts.specs.Wired.{Wired}
use Rattle.plan_facts.proofs.Tables.{replicate_row}
use Rattle.sets.specs.Sets.{has, single, below}
use Rattle.sets.specs.Laws.{has_single, has_plus, plus_lt, has_cut}
use Rattle.graph_reach.specs.Reach.{side_set, beyond, Reached}
use Rattle.graph_reach.specs.Sizes.{far_in}
use Rattle.graph_met.specs.Trails.{Trail, last, more, Tracked, Trailed, Blank}
use Rattle.graph_met.proofs.Trailing.{single_le}
use Rattle.load_arrivals.specs.Tables.{nexts_of, firsts_of}
use Rattle.load_arrivals.specs.Charted.{Charted}
use Rattle.load_arrivals.specs.Pairs.{Tables}
use Rattle.load_arrivals.specs.Tracks.{Tracks}
use Rattle.load_arrivals.proofs.Arrive.{spot_front}
use Rattle.load_arrivals.proofs.Charts.{charted}
use Rattle.load_arrivals.proofs.Sizes.{side_on, far_idle, far_walk, far_way, far_count, arrivals}

pub blank : (n : ℕ) {up : List (List ℕ)} → up ≡ replicate n (replicate 32 0) → Blank up
blank n e = rw e record {
  shape = record { wide = λ r l. wide' r (rw (length-replicate n (replicate 32 zero)) at l) };
  none = λ r d. replicate_row n 32 0 r d;
}
  where
    wide' : (r : ℕ) → r < n → length (get_or (replicate n (replicate 32 zero)) r []) ≡ 32
    wide' r l = ap length (get_or-replicate n r (replicate 32 zero) [] l) ∙ length-replicate 32 zero

pub rows : (n : ℕ) {up : List (List ℕ)} → up ≡ replicate n (replicate 32 0) → length up ≡ n
rows n e = ap length e ∙ length-replicate n (replicate 32 zero)

pub stands_at_lem : (r : ℕ) (s : Spot Port) → stands_on r s ≡ true → (i : ℕ) ×
    (s ≡ on (record { router = r; side = i }))
stands_at_lem r (on x) t = (x.side, ap (λ (n : ℕ). on (record { router = n; side = x.side })) (eqb-true x.router r t))
stands_at_lem r end t = absurd (false≢true t)
stands_at_lem r lost t = absurd (false≢true t)

module _ (pl : Plan) (by : List (List ℕ)) (next first : List ℕ) (wired : Wired pl)
    (chart : Charted pl by next first) (most : R pl ≤ 16) (d : ℕ)
    (known : d < destinations pl.head) where
  abbrev stands : ℕ → Port → ℕ → Bool
  stands q x k = stands_on q (walked pl (interface_at pl.head d) k x)

  trail_far : {r m s : ℕ} → Trail by next first d r m s → (k : ℕ) × (m ≡ suc k) × (far_in by next first d k r ≡ true)
  unfolding far_in
  trail_far (last x l q) = (0, refl, q)
  trail_far (more x o m s l h p t) =
      let f = trail_far t in (
        suc f.0,
        ap suc f.1,
        any_of 4 (λ i. has (side_set by next x i) d && far_in by next first d f.0 (beyond by next x i)) o h
            (rw (p, f.2)),
      )

  -- a walk that arrives does not come to its first router again
  once : (x y : Port) (k n : ℕ) → x.router < R pl → far_in by next first d n x.router ≡ true
      → walked pl (interface_at pl.head d) (suc k) x ≡ on y → y.router ≡ x.router → ⊥
  once x y k n l f e same =
      let way = far_way pl by next first wired chart d known n x l f in
      let at = way_on (onward pl (interface_at pl.head d)) router_of way (suc k) y e in
      let again : 0 ≡ suc k = way.once 0 (suc k) way.some at.0
      (ap router_of way.begins ∙ sym same ∙ sym (ap router_of at.1)) in
      omega arith

  -- ---- the sum of a way's places is the set of the routers that the walk meets
  abbrev Meets : Port → ℕ → ℕ → Type 0
  Meets x m s = (s < 2 ^ 16) × ((q : ℕ) → has s q ≡ any_below m (stands q x))

  first_stands : (q : ℕ) (x : Port) → stands q x 0 ≡ eqb x.router q
  first_stands q x = ap (stands_on q) (spot_none (onward pl (interface_at pl.head d)) (on x))

  small : (r : ℕ) → r < R pl → single r < 2 ^ 16
  small r l = let a = single_le r (omega arith) in omega arith

  meets_last : (x : Port) → x.router < R pl → Meets x 1 (single x.router)
  meets_last x l = (small x.router l, λ q. same_test _ _ (to q) (from q))
    where
      to : (q : ℕ) → has (single x.router) q ≡ true → any_below 1 (stands q x) ≡ true
      to q e =
          any_of 1 (stands q x) 0 (omega arith)
          (first_stands q x ∙ eq-eqb x.router q (sym (eqb-true q x.router (sym (has_single x.router q) ∙ e))))

      from : (q : ℕ) → any_below 1 (stands q x) ≡ true → has (single x.router) q ≡ true
      from q e = at (any_true 1 (stands q x) e)
        where
          at : Found 1 (stands q x) → has (single x.router) q ≡ true
          at (zero, m, f) =
              has_single x.router q ∙ eq-eqb q x.router (sym (eqb-true x.router q (sym (first_stands q x) ∙
              f)))
          at (suc k, m, f) = absurd (omega arith)

  meets_more : (x y : Port) (m s : ℕ) → x.router < R pl → far_in by next first d m x.router ≡ true
      → onward pl (interface_at pl.head d) x ≡ on y → Meets y m s → Meets x (suc m) (s + single x.router)
  meets_more x y m s l f e (less, w) =
      (plus_lt 16 s x.router less (small x.router l) away, λ q. same_test _ _ (to q) (from q))
    where
      later : (q k : ℕ) → stands q x (suc k) ≡ stands q y k
      later q k = ap (stands_on q) (spot_front pl by next first wired chart d known k x (on y) e)

      away : has s x.router ≡ false
      away = by' (test (has s x.router))
        where
          back : Found m (stands x.router y) → ⊥
          back (k, h, q) =
              let z = stands_at_lem x.router _ (later x.router k ∙ q) in once x _ k m l f z.1 refl

          by' : (has s x.router ≡ true) ⊎ (has s x.router ≡ false) → has s x.router ≡ false
          by' (inl q) = absurd (back (any_true m (stands x.router y) (sym (w x.router) ∙ q)))
          by' (inr q) = q

      split : (q : ℕ) → has (s + single x.router) q ≡ (has s q || eqb q x.router)
      split q = has_plus 16 s x.router q less away

      to : (q : ℕ) → has (s + single x.router) q ≡ true → any_below (suc m) (stands q x) ≡ true
      to q a = go (or_cases (has s q) (eqb q x.router) (sym (split q) ∙ a))
        where
          on_from : Found m (stands q y) → any_below (suc m) (stands q x) ≡ true
          on_from (k, h, z) = any_of (suc m) (stands q x) (suc k) (omega arith) (later q k ∙ z)

          go : (has s q ≡ true) ⊎ (eqb q x.router ≡ true) → any_below (suc m) (stands q x) ≡ true
          go (inl z) = on_from (any_true m (stands q y) (sym (w q) ∙ z))
          go (inr z) =
              any_of (suc m) (stands q x) 0 (omega arith)
              (first_stands q x ∙ eq-eqb x.router q (sym (eqb-true q x.router z)))

      from : (q : ℕ) → any_below (suc m) (stands q x) ≡ true → has (s + single x.router) q ≡ true
      from q a = at (any_true (suc m) (stands q x) a)
        where
          at : Found (suc m) (stands q x) → has (s + single x.router) q ≡ true
          at (zero, h, z) =
              split q
              ∙ rw (eq-eqb q x.router (sym (eqb-true x.router q (sym (first_stands q x) ∙ z))))
              (or_right (has s q))
          at (suc k, h, z) =
              split q ∙ rw (w q ∙ any_of m (stands q y) k (omega arith) (sym (later q k) ∙ z))

  trail_meets : {r m s : ℕ} (i : ℕ) → r < R pl → Trail by next first d r m s
      → Meets (record { router = r; side = i }) m s
  trail_meets i b (last x l q) = meets_last (record { router = x; side = i }) b
  trail_meets i b (more x o m s l h p t) =
      go (λ j c. trail_meets j c t) (trail_far t) (lt_or_ge (beyond by next x o) (R pl))
    where
      go : ((j : ℕ) → beyond by next x o < R pl → Meets (record { router = beyond by next x o; side = j }) m s)
          → (k : ℕ) × (m ≡ suc k) × (far_in by next first d k (beyond by next x o) ≡ true)
          → (beyond by next x o < R pl) ⊎ (R pl ≤ beyond by next x o)
          → Meets (record { router = x; side = i }) (suc m) (s + single x)
      go rec (k, e, f) (inl c) =
          let y = side_on pl by next first wired chart d known x i o b h p c in
          let g = trail_far (more x o m s l h p t) in
          let same : g.0 ≡ m = omega (arith, g.1) in
          meets_more (record { router = x; side = i }) (record { router = beyond by next x o; side = y.0 }) m s b
          (rw same at g.2) y.1 (rec y.0 c)
      go rec (k, e, f) (inr c) = absurd (far_idle pl by next first wired chart d known k _ c f)

  -- ---- a word of the table
  pub word_is : (x : Port) {b v : ℕ} → x.router < R pl → Tracked by next first b d x.router v
      → (v / 65536 ≡ walk_size pl (interface_at pl.head d) x)
      × ((r : ℕ) → r < 16 → has v r ≡ any_below (R pl) (stands r x))
  word_is x {b} {v} l w = (number, members)
    where
      far : (k : ℕ) × (w.count ≡ suc k) × (far_in by next first d k x.router ≡ true)
      far = trail_far w.trail

      meets : Meets x w.count w.sum
      meets = trail_meets x.side l w.trail

      counted : (far.0 < R pl) × (walk_size pl (interface_at pl.head d) x ≡ suc far.0)
      counted = far_count pl by next first wired chart d known far.0 x l far.2

      number : v / 65536 ≡ walk_size pl (interface_at pl.head d) x
      number =
          let a : v / 65536 ≡ w.count = omega (arith, w.word, meets.0) in a ∙ far.1 ∙ sym counted.1

      over : (k : ℕ) → w.count ≤ k → walked pl (interface_at pl.head d) k x ≡ end
      over k h =
          let step = onward pl (interface_at pl.head d) in
          let y = far_walk pl by next first wired chart d known far.0 x.router x.side l far.2 in
          let at : k - suc far.0 + suc far.0 ≡ k = omega (arith, far.1, h) in
          ap (λ (n : ℕ). spot step n (on x)) (sym at)
          ∙ spot_end step (suc far.0) (on x) (spot_next step far.0 (on x) y.1 ∙ y.2) (k - suc far.0)

      whole : (r : ℕ) → any_below w.count (stands r x) ≡ any_below (R pl) (stands r x)
      whole r = same_test _ _ to from
        where
          up : Found w.count (stands r x) → any_below (R pl) (stands r x) ≡ true
          up (k, h, z) = any_of (R pl) (stands r x) k (omega (arith, h, far.1, counted.0)) z

          to : any_below w.count (stands r x) ≡ true → any_below (R pl) (stands r x) ≡ true
          to a = up (any_true w.count (stands r x) a)

          at : (k : ℕ) → stands r x k ≡ true → (k < w.count) ⊎ (w.count ≤ k)
              → any_below w.count (stands r x) ≡ true
          at k z (inl h) = any_of w.count (stands r x) k h z
          at k z (inr h) = absurd (false≢true (sym (ap (stands_on r) (over k h)) ∙ z))

          from : any_below (R pl) (stands r x) ≡ true → any_below w.count (stands r x) ≡ true
          from a =
              let f = any_true (R pl) (stands r x) a in at f.0 f.2 (lt_or_ge f.0 w.count)

      members : (r : ℕ) → r < 16 → has v r ≡ any_below (R pl) (stands r x)
      members r h =
          let low : v % 2 ^ 16 ≡ w.sum = omega (arith, w.word, meets.0) in
          sym (has_cut 16 v r h) ∙ ap (λ (u : ℕ). has u r) low ∙ meets.1 r ∙ whole r

-- ---- what the code leaves
pub tracks_are : (h : Head) (joints homes : List ℕ) (by : List (List ℕ)) {next first : List ℕ} {full b : ℕ}
    {t : List ℕ} {up : List (List ℕ)}
    → next ≡ nexts_of joints h.routers → first ≡ firsts_of by homes (h.actives + h.passives)
    → full ≡ below (h.actives + h.passives) → Reached by next h.routers full first t
    → Trailed by next first b t up
    → (routes : List (List ℕ)) → Tables h routes joints homes by → Tracks (table_plan h routes joints) up
unfolding table_plan
tracks_are h joints homes by {next} {first} {full} {b} {t} {up} en ef eu r w routes tables = record {
  met = λ x d q lx ld lq a. (word x d lx ld a).1 q lq;
  size = λ x d lx ld a. (word x d lx ld a).0;
}
  where
    pl : Plan
    pl = table_plan h routes joints

    f : Arrivals (table_plan h routes joints) t
    f = arrivals (table_plan h routes joints) by joints homes tables.chart t (rw (en, ef, eu) at r)

    trailed : Trailed by (nexts_of joints h.routers) (firsts_of by homes (destinations h)) b t up
    trailed = rw (en, ef) at w

    word : (x : Port) (d : ℕ) → x.router < h.routers → d < destinations h
        → arrives (table_plan h routes joints) (interface_at h d) x ≡ true
        → (get_or (get_or up x.router []) d 0 / 65536 ≡ walk_size (table_plan h routes joints) (interface_at h d) x)
        × ((q : ℕ) → q < 16 → has (get_or (get_or up x.router []) d 0) q
        ≡ any_below h.routers (λ k. stands_on q (walked (table_plan h routes joints) (interface_at h d) k x)))
    word x d lx ld a =
        word_is (table_plan h routes joints) by (nexts_of joints h.routers) (firsts_of by homes (destinations h))
        tables.chart.wired (charted (table_plan h routes joints) by joints homes tables.chart)
        tables.chart.routers d ld x lx (trailed.some x.router d (f.there x d lx ld ∙ a))
