-- The tables that the sweeps leave are the plan's arrivals, served pairs and lengths.
use mathlib.Core.Path.{◌≡◌, refl, sym, ap, ◌∙◌}
use mathlib.Core.Logic.{◌⊎◌, inl, inr}
use mathlib.Core.Bool.{Bool, true, false, ◌&&◌, true≢false}
use mathlib.Core.List.{List, [], ◌∷◌}
use Prim.Native.Nat.{ℕ, zero, suc, ◌+◌, ◌-◌, ◌/◌, ◌≤◌, ◌<◌}
use native.Mathlib.Omega.{arith}
use lib.Dec.{eqb, ltb}
use lib.ListN.{get_or, set, length, replicate}
use borrow.Author.Tests.{lt-ltb, le-ltb, ltb-true, eqb-true, ne_eqb}
use Rattle.basis.specs.Choice.{pick, test, also_true}
use Rattle.basis.specs.Bounded.{lt_or_ge}
use Rattle.basis.specs.Fold.{up_to, fill, up_same}
use Rattle.plan.specs.declared.Head.{Head}
use Rattle.plan.specs.Head.{destinations}
use Rattle.plan.specs.Plan.{Plan, Port, Interface, active, passive, R, A, P}
use Rattle.plan.specs.Rules.{home, port_or0, ports_of}
use Rattle.plan.specs.Tables.{interface_at, table_plan}
use Rattle.plan_walks.specs.Walk.{arrives, walk_size}
use Rattle.plan_walks.specs.Served.{served, served_from}
use Rattle.plan_walks.specs.Drawn.{Arrivals, Serves}
use Rattle.plan_facts.proofs.Wires.{home_inside}
use Rattle.sets.specs.Sets.{has, both, below}
use Rattle.sets.specs.Laws.{has_both, none_has}
use Rattle.graph_reach.specs.declared.Span.{Span}
use Rattle.graph_reach.specs.Reach.{Reached, common_of}
use Rattle.graph_reach.specs.Sizes.{Sized, Told, Grows}
use Rattle.graph_reach.proofs.Sweeps.{and_parts, common_has}
use Rattle.load_arrivals.specs.Tables.{nexts_of, firsts_of, nears_of, far_of}
use Rattle.load_arrivals.specs.Charted.{Charting}
use Rattle.load_arrivals.specs.Pairs.{pair_walk, lengths_of, plain_of, at_home, Known, Serving, Servings, copy_of}
use Rattle.load_arrivals.specs.Pairs.{mask_of, length_of, lengths_by, Tables, Walks}
use Rattle.load_arrivals.specs.Tracks.{Tracks}
use Rattle.load_arrivals.proofs.Charts.{ports_in, sides_past, charted, first_idle}
use Rattle.load_arrivals.proofs.Sizes.{far_size, arrivals}
use Rattle.load_arrivals.proofs.Everywhere.{served_everywhere, served_sifted}
use Rattle.load_lengths.proofs.Start.{far_has, far_known, sized_start}

-- ---- one active's passives
and_all : (b : Bool) → (b && true) ≡ b
and_all true = refl
and_all false = refl

passive_at : (pl : Plan) (p : ℕ) → interface_at pl.head (A pl + p) ≡ passive p
passive_at pl p =
    let e : A pl + p - A pl ≡ p = omega arith in
    rw (le-ltb (A pl + p) (A pl) (omega arith), e)

active_at : (pl : Plan) (a : ℕ) → a < A pl → interface_at pl.head a ≡ active a
active_at pl a l = rw (lt-ltb a (A pl) l)

module _ (pl : Plan) (by : List (List ℕ)) (joints homes : List ℕ) (w : Charting pl by joints homes) (t : List ℕ)
    (all : ℕ)
    (f : Arrivals pl t) (common : all ≡ common_of t (below (destinations pl.head)) (R pl))
    (tracks : (up : List (List ℕ)) → Known by joints homes t pl.head up → Tracks pl up) where
  -- the home of an active
  home_at : (a : ℕ) → a < A pl → (home pl (active a)).router ≡ get_or homes a 0 / 4
  unfolding home
  home_at a l =
      ap (λ (e : Interface). port_or0 (ports_of pl e) / 4) (sym (active_at pl a l))
      ∙ ap (λ (k : ℕ). k / 4) (sym (w.ports a (omega arith)))

  home_in : (a : ℕ) → a < A pl → (home pl (active a)).router < R pl
  home_in a l = (home_inside (active a) w.wired l).0

  -- membership at the home: the walk arrives
  at_home_lem : (a p : ℕ) → a < A pl → p < P pl
      → has (both (get_or t (get_or homes a 0 / 4) 0) (far_of pl.head)) (A pl + p)
      ≡ arrives pl (passive p) (home pl (active a))
  at_home_lem a p la lp =
      let x = home pl (active a) in
      has_both (get_or t (get_or homes a 0 / 4) 0) (far_of pl.head) (A pl + p)
      ∙ rw (far_has pl.head p, lt-ltb p (P pl) lp) (and_all (has (get_or t (get_or homes a 0 / 4) 0) (A pl + p)))
      ∙ ap (λ (r : ℕ). has (get_or t r 0) (A pl + p)) (sym (home_at a la))
      ∙ f.there x (A pl + p) (home_in a la) (omega arith)
      ∙ ap (λ (e : Interface). arrives pl e x) (passive_at pl p)

  -- where all at which the walk arrives are served
  plain_served : (a p v : ℕ) → a < A pl → p < P pl
      → v ≡ both (get_or t (get_or homes a 0 / 4) 0) (far_of pl.head)
      → (eqb v 0 ≡ true) ⊎ (eqb v 0 ≡ false) → plain_of all a v ≡ true → has v (A pl + p) ≡ served pl a p
  unfolding plain_of served_from
  plain_served a p v la lp g (inl z) e =
      let is : v ≡ 0 = eqb-true v 0 z in
      let none : arrives pl (passive p) (home pl (active a)) ≡ false =
      sym (at_home_lem a p la lp) ∙ ap (λ (u : ℕ). has u (A pl + p)) (sym g ∙ is) ∙ none_has (A pl + p) in
      ap (λ (u : ℕ). has u (A pl + p)) is ∙ none_has (A pl + p) ∙ rw none
  plain_served a p v la lp g (inr z) e =
      ap (λ (u : ℕ). has u (A pl + p)) g ∙ at_home_lem a p la lp
      ∙ sym (served_everywhere pl w.wired a p la back)
    where
      back : (x : Port) → x.router < R pl → arrives pl (active a) x ≡ true
      back x l =
          let there = (common_has t (below (destinations pl.head)) (R pl) a
          (sym (ap (λ (u : ℕ). has u a) common) ∙ rw z at e)).1 x.router l in
          ap (λ (i : Interface). arrives pl i x) (sym (active_at pl a la)) ∙ sym (f.there x a l (omega arith)) ∙ there

  pub serving_served : (a p v : ℕ) → a < A pl → p < P pl
      → Serving by joints homes t pl.head all a v → has v (A pl + p) ≡ served pl a p
  unfolding served_from at_home
  serving_served a p v la lp (inl (e, g)) = plain_served a p v la lp g (test (eqb v 0)) e
  serving_served a p v la lp (inr (up, m, k, l, s)) =
      s.members (A pl + p) ∙ by' (test (arrives pl (passive p) (home pl (active a))))
    where
      by' : (arrives pl (passive p) (home pl (active a)) ≡ true) ⊎ (arrives pl (passive p) (home pl (active a)) ≡
          false)
          → (has (both (get_or t (get_or homes a 0 / 4) 0) (far_of pl.head)) (A pl + p)
          && eqb (both (get_or (get_or up (get_or homes a 0 / 4) []) (A pl + p) 0) m) 0) ≡ served pl a p
      by' (inl q) =
          rw (at_home_lem a p la lp ∙ q)
          (ap (λ (r : ℕ). eqb (both (get_or (get_or up r []) (A pl + p) 0) m) 0) (sym (home_at a la))
          ∙ served_sifted pl w.wired a p la t up m w.routers (omega arith) (passive_at pl p) (active_at pl a la)
          f
          (tracks up k) l q)
      by' (inr q) = rw (at_home_lem a p la lp ∙ q, q)

  pub serving_known : (a d v : ℕ) → Serving by joints homes t pl.head all a v → has v d ≡ true
      → (A pl ≤ d) × (d < destinations pl.head)
  unfolding at_home
  serving_known a d v (inl (e, g)) q =
      far_known pl.head d
      (and_parts (has (get_or t (get_or homes a 0 / 4) 0) d) _ (sym
      (has_both (get_or t (get_or homes a 0 / 4) 0) (far_of pl.head) d) ∙ sym (ap (λ (u : ℕ). has u d) g) ∙ q)).1
  serving_known a d v (inr (up, m, k, l, s)) q =
      far_known pl.head d
      (and_parts (has (get_or t (get_or homes a 0 / 4) 0) d) _ (sym
      (has_both (get_or t (get_or homes a 0 / 4) 0) (far_of pl.head) d)
      ∙ (and_parts (has (both (get_or t (get_or homes a 0 / 4) 0) (far_of pl.head)) d) _ (sym (s.members d) ∙ q)).0)).1

  pub served_pairs : (serve : List ℕ) → Servings by joints homes t pl.head all (A pl) serve
      → Serves pl serve
  served_pairs serve s = record {
    pairs = λ a p la lp. serving_served a p (get_or serve a 0) la lp (s.some a la);
    known = λ a d q. known' a d q (lt_or_ge a (A pl));
  }
    where
      known' : (a d : ℕ) → has (get_or serve a 0) d ≡ true → (a < A pl) ⊎ (A pl ≤ a)
          → (a < A pl) × (A pl ≤ d) × (d < destinations pl.head)
      known' a d q (inl l) = let k = serving_known a d (get_or serve a 0) (s.some a l) q in (l, k.0, k.1)
      known' a d q (inr l) = absurd (true≢false (sym q ∙ ap (λ (u : ℕ). has u d) (s.none a l) ∙ none_has d))

  -- ---- the lengths
  module _ (s : Span) (z : List (List ℕ)) (size : Sized by (nexts_of joints (R pl)) s
      (firsts_of by homes (destinations pl.head)) t z)
      (sized : s.sized ≡ far_of pl.head) (column : s.column ≡ A pl) (most : P pl ≤ 16) where
    zero_at : (r p : ℕ) → p < 16 → (has (far_of pl.head) (A pl + p) && has (get_or t r 0) (A pl + p)) ≡ false
        → get_or (get_or z r []) p 0 ≡ 0
    zero_at r p l e = size.none r p l (rw (sized, column) e)

    size_at : (a p : ℕ) → a < A pl → p < P pl → has (get_or t (get_or homes a 0 / 4) 0) (A pl + p) ≡ true
        → get_or (get_or z (get_or homes a 0 / 4) []) p 0 ≡ walk_size pl (passive p) (home pl (active a))
    size_at a p la lp e =
        let x = home pl (active a) in
        let known : A pl + p < destinations pl.head = omega arith in
        let far = size.some (get_or homes a 0 / 4) p (omega arith)
        (rw (sized, column) (far_has pl.head p ∙ lt-ltb p (P pl) lp)) (rw column e) in
        let there = rw (column, ← home_at a la) at far in
        ap (λ (r : ℕ). get_or (get_or z r []) p 0) (sym (home_at a la))
        ∙ far_size pl by (nexts_of joints (R pl)) (firsts_of by homes (destinations pl.head)) w.wired
        (charted pl by joints homes w)
        (A pl + p) known w.routers x (home_in a la) there
        ∙ ap (λ (i : Interface). walk_size pl i x) (passive_at pl p)

    module _ (serve : List ℕ) (sv : Servings by joints homes t pl.head all (A pl) serve) where
      -- the size, where the pair is served
      masked_at : (a p : ℕ) → a < A pl → p < 16
          → pick (has (get_or serve a 0) (A pl + p)) (get_or (get_or z (get_or homes a 0 / 4) []) p 0) 0
          ≡ pick (ltb p (P pl)) (pair_walk pl a p) 0
      unfolding pair_walk served_from
      masked_at a p la l = go (lt_or_ge p (P pl)) (test (served pl a p))
        where
          out : P pl ≤ p → (has (get_or serve a 0) (A pl + p) ≡ true) ⊎ (has (get_or serve a 0) (A pl + p) ≡ false)
              → has (get_or serve a 0) (A pl + p) ≡ false
          out k (inl q) = let m = serving_known a (A pl + p) (get_or serve a 0) (sv.some a la) q in absurd (omega arith)
          out k (inr q) = q

          go : (p < P pl) ⊎ (P pl ≤ p) → (served pl a p ≡ true) ⊎ (served pl a p ≡ false)
              → pick (has (get_or serve a 0) (A pl + p)) (get_or (get_or z (get_or homes a 0 / 4) []) p 0) 0
              ≡ pick (ltb p (P pl)) (pair_walk pl a p) 0
          go (inl k) (inl q) =
              let has-it : has (get_or serve a 0) (A pl + p) ≡ true = serving_served a p (get_or serve a 0) la k
              (sv.some a la) ∙ q in
              let there : arrives pl (passive p) (home pl (active a)) ≡ true = (also_true q).0 in
              let member = (and_parts _ _ (sym (has_both (get_or t (get_or homes a 0 / 4) 0) (far_of pl.head)
              (A pl + p)) ∙ at_home_lem a p la k ∙ there)).0 in
              rw (has-it, lt-ltb p (P pl) k, q) (size_at a p la k member)
          go (inl k) (inr q) =
              let has-it : has (get_or serve a 0) (A pl + p) ≡ false = serving_served a p (get_or serve a 0) la k
              (sv.some a la) ∙ q in
              rw (has-it, lt-ltb p (P pl) k, q)
          go (inr k) q = rw (out k (test (has (get_or serve a 0) (A pl + p))), le-ltb p (P pl) k)

      -- where all at which the walk arrives are served, the table's row is right as it is
      copied_at : (a p : ℕ) → p < 16 → get_or serve a 0 ≡ both (get_or t (get_or homes a 0 / 4) 0) (far_of pl.head)
          → get_or (get_or z (get_or homes a 0 / 4) []) p 0
          ≡ pick (has (get_or serve a 0) (A pl + p)) (get_or (get_or z (get_or homes a 0 / 4) []) p 0) 0
      copied_at a p l e = go (test (has (get_or serve a 0) (A pl + p)))
        where
          swap : (x y : Bool) → (x && y) ≡ false → (y && x) ≡ false
          swap true y q = and_all y ∙ q
          swap false true q = refl
          swap false false q = refl

          go : (has (get_or serve a 0) (A pl + p) ≡ true) ⊎ (has (get_or serve a 0) (A pl + p) ≡ false)
              → get_or (get_or z (get_or homes a 0 / 4) []) p 0
              ≡ pick (has (get_or serve a 0) (A pl + p)) (get_or (get_or z (get_or homes a 0 / 4) []) p 0) 0
          go (inl q) = rw q
          go (inr q) =
              rw q
              (zero_at (get_or homes a 0 / 4) p l
              (swap (has (get_or t (get_or homes a 0 / 4) 0) (A pl + p)) (has (far_of pl.head) (A pl + p))
              (sym (has_both (get_or t (get_or homes a 0 / 4) 0) (far_of pl.head) (A pl + p))
              ∙ ap (λ (u : ℕ). has u (A pl + p)) (sym e) ∙ q)))

      row_is : (a : ℕ) → a < A pl
          → length_of z (get_or homes a 0 / 4) (get_or serve a 0)
          (both (get_or t (get_or homes a 0 / 4) 0) (far_of pl.head)) (A pl)
          ≡ up_to (fill (λ p. pick (ltb p (P pl)) (pair_walk pl a p) 0)) 16 (replicate 16 0)
      unfolding length_of copy_of mask_of
      row_is a la = go (test (eqb (get_or serve a 0) (both (get_or t (get_or homes a 0 / 4) 0) (far_of pl.head))))
        where
          go : (eqb (get_or serve a 0) (both (get_or t (get_or homes a 0 / 4) 0) (far_of pl.head)) ≡ true)
              ⊎ (eqb (get_or serve a 0) (both (get_or t (get_or homes a 0 / 4) 0) (far_of pl.head)) ≡ false)
              → length_of z (get_or homes a 0 / 4) (get_or serve a 0)
              (both (get_or t (get_or homes a 0 / 4) 0) (far_of pl.head)) (A pl)
              ≡ up_to (fill (λ p. pick (ltb p (P pl)) (pair_walk pl a p) 0)) 16 (replicate 16 0)
          go (inl q) =
              let e = eqb-true (get_or serve a 0) (both (get_or t (get_or homes a 0 / 4) 0) (far_of pl.head)) q in
              rw q
              (up_same (fill (λ p. get_or (get_or z (get_or homes a 0 / 4) []) p 0))
              (fill (λ p. pick (ltb p (P pl)) (pair_walk pl a p) 0)) 16 (replicate 16 0)
              (λ p u l. ap (set u p) (copied_at a p l e ∙ masked_at a p la l)))
          go (inr q) =
              rw q
              (up_same (fill (λ p. pick (has (get_or serve a 0) (A pl + p))
              (get_or (get_or z (get_or homes a 0 / 4) []) p 0) 0))
              (fill (λ p. pick (ltb p (P pl)) (pair_walk pl a p) 0)) 16 (replicate 16 0)
              (λ p u l. ap (set u p) (masked_at a p la l)))

      pub lengths_are : lengths_by z t serve homes pl.head ≡ lengths_of pl
      unfolding lengths_by lengths_of
      lengths_are =
          up_same
          (fill (λ a. length_of z (get_or homes a 0 / 4) (get_or serve a 0)
          (both (get_or t (get_or homes a 0 / 4) 0) (far_of pl.head)) (A pl)))
          (fill (λ a. up_to (fill (λ p. pick (ltb p (P pl)) (pair_walk pl a p) 0)) 16 (replicate 16 0))) (A pl)
          (replicate 16 (replicate 16 0)) (λ a u l. ap (set u a) (row_is a l))

-- ---- the routes' table says what the sets by side say
default : (l : List ℕ) (i a b : ℕ) → i < length l → get_or l i a ≡ get_or l i b
default [] i a b l = absurd (omega arith)
default (x ∷ xs) zero a b l = refl
default (x ∷ xs) (suc i) a b l = default xs i a b (omega arith)

pub told : (h : Head) (routes : List (List ℕ)) (joints homes : List ℕ) (by : List (List ℕ)) (next : List ℕ) (s : Span)
    → h.actives ≤ 16 → s.column ≡ h.actives → s.sized ≡ far_of h → Tables h routes joints homes by
    → Told by next s routes
unfolding table_plan
told h routes joints homes by next s most column sized w = record {
  sides = λ r o p l m k. rw column (side r o p l m k);
  sized = λ r o p l m k q. rw (sized, column) (far r o p m (rw column at q));
}
  where
    side : (r o p : ℕ) → r < 16 → o < 4 → p < 16
        → has (get_or (get_or by r []) o 0) (h.actives + p) ≡ eqb (get_or (get_or routes r []) (h.actives + p) 0) o
    side r o p l m k = w.chart.sides r o (h.actives + p) m ∙ go (lt_or_ge (h.actives + p) (destinations h))
      where
        at : get_or (get_or routes r []) (h.actives + p) 0 ≡ get_or (get_or routes r []) (h.actives + p) 7
        at = default (get_or routes r []) (h.actives + p) 0 7 (rw (w.rows r l) (omega arith))

        go : (h.actives + p < destinations h) ⊎ (destinations h ≤ h.actives + p)
            → (ltb (h.actives + p) (destinations h) && eqb (get_or (get_or routes r []) (h.actives + p) 7) o)
            ≡ eqb (get_or (get_or routes r []) (h.actives + p) 0) o
        go (inl b) = rw (lt-ltb (h.actives + p) (destinations h) b, at)
        go (inr b) =
            rw (le-ltb (h.actives + p) (destinations h) b, at, w.past r (h.actives + p) b)
            (sym (ne_eqb 7 o (λ q. omega arith)))

    far : (r o p : ℕ) → o < 4 → has (get_or (get_or by r []) o 0) (h.actives + p) ≡ true
        → has (far_of h) (h.actives + p) ≡ true
    far r o p m q =
        let b = (and_parts (ltb (h.actives + p) (destinations h)) _
        (sym (w.chart.sides r o (h.actives + p) m) ∙ q)).0 in
        far_has h p ∙ lt-ltb p h.passives (below' b)
      where
        below' : ltb (h.actives + p) (destinations h) ≡ true → p < h.passives
        below' b = let l = ltb-true (h.actives + p) (destinations h) b in omega arith

-- ---- what the code leaves
pub walks_sound : (h : Head) (routes : List (List ℕ)) (joints homes : List ℕ) (by : List (List ℕ))
    {next first : List ℕ} {z₀ : List (List ℕ)}
    {full far : ℕ} (t : List ℕ) (z : List (List ℕ)) {all : ℕ} {serve : List ℕ} {lengths : List (List ℕ)}
    → h.actives ≤ 16 → h.passives ≤ 16
    → next ≡ nexts_of joints h.routers → first ≡ firsts_of by homes (h.actives + h.passives)
    → z₀ ≡ nears_of first homes h.actives h.passives → full ≡ below (h.actives + h.passives) → far ≡ far_of h
    → Reached by next h.routers full first t → all ≡ common_of t full h.routers
    → Grows by next routes (record { routers = h.routers; all = full; sized = far; column = h.actives }) first z₀ t z
    → Servings by joints homes t h all h.actives serve → lengths ≡ lengths_by z t serve homes h
    → Walks h routes joints homes by t lengths serve
unfolding table_plan
walks_sound h routes joints homes by {next} {first} {z₀} {full} {far} t z {all} {serve}
    {lengths} ma mp en ef ez eu er r ea g sv el w = (
      f,
      served_pairs pl by joints homes w.chart t all f common know serve sv,
      el ∙ lengths_are pl by joints homes w.chart t all f common know s z size er refl mp serve sv,
    )
  where
    pl : Plan
    pl = table_plan h routes joints

    s : Span
    s = record { routers = h.routers; all = full; sized = far; column = h.actives }

    f : Arrivals (table_plan h routes joints) t
    f = arrivals (table_plan h routes joints) by joints homes w.chart t (rw (en, ef, eu) at r)

    common : all ≡ common_of t (below (destinations h)) h.routers
    common = rw eu at ea

    know : (up : List (List ℕ)) → Known by joints homes t h up → Tracks (table_plan h routes joints) up
    know up k = k routes w

    ports : (d : ℕ) → d < destinations h → get_or homes d 0 < 64
    ports = ports_in (table_plan h routes joints) by joints homes w.chart

    most : h.routers ≤ 16
    most = w.chart.routers

    idle : (r d : ℕ) → 17 ≤ r → has (get_or (firsts_of by homes (destinations h)) r 0) d ≡ false
    idle r d l =
        (first_idle by homes (destinations h) h.routers ports
        (sides_past (table_plan h routes joints) by joints homes w.chart) (nexts_of joints h.routers)).here r d
        (omega arith)

    grown : Grows by (nexts_of joints h.routers) routes (record
        { routers = h.routers; all = full; sized = far; column = h.actives })
        (firsts_of by homes (destinations h)) (nears_of (firsts_of by homes (destinations h)) homes h.actives
        h.passives) t z
    grown = rw (ez, ef, en) at g

    size : Sized by (nexts_of joints h.routers)
        (record { routers = h.routers; all = full; sized = far; column = h.actives })
        (firsts_of by homes (destinations h)) t z
    size =
        grown (firsts_of by homes (destinations h))
        (told h routes joints homes by (nexts_of joints h.routers)
        (record { routers = h.routers; all = full; sized = far; column = h.actives }) ma refl er w)
        (sized_start by (nexts_of joints h.routers) homes h
        (record { routers = h.routers; all = full; sized = far; column = h.actives }) er refl mp ports idle)
