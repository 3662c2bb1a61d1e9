-- Chains and rings of a relation, and a test that finds a ring of a tested relation between the numbers below n.
use Rattle.std.specs.Prelude.{◌≡◌, refl, ◌⊎◌, ◌&&◌}
use Rattle.std.proofs.Common.{sym, ap, ◌∙◌, inl, inr, not-suc-le-zero, add-suc, add-zero, add-sub_of_le, arith}
use mathlib.Core.List.{List}
use Rattle.std.proofs.Math.ListN.{get_or}
use Rattle.std.proofs.Math.Bool.{Bool, true, false, and-eq-true_iff}
use Prim.Native.Nat.{ℕ, zero, suc, ◌+◌, ◌-◌, ◌≤◌, ◌<◌}
use Rattle.basis.specs.Bounded.{Found, below_suc, any_below, any_true, any_of}
use Rattle.basis.specs.Pigeon.{Twice, pigeon}
use Rattle.basis.specs.Tab.{tab, get_d_tab}

-- a closed chain of one step or more
pub record Ring {X : Type 0} (Next : X → X → Type 0) : Type 0 where
  pub size : ℕ
  pub node : ℕ → X
  pub some : 0 < size
  pub closed : node size ≡ node 0
  pub linked : (i : ℕ) → i < size → Next (node i) (node (suc i))

-- a ring stays one where each step is also a step of another relation
pub ring_map : {X Y : Type 0} (R : X → X → Type 0) (T : Y → Y → Type 0) (f : X → Y)
    → ((x y : X) → R x y → T (f x) (f y)) → Ring R → Ring T
ring_map R T f h r = record {
  size = r.size;
  node = λ i. f (r.node i);
  some = r.some;
  closed = ap f r.closed;
  linked = λ i l. h (r.node i) (r.node (suc i)) (r.linked i l);
}

-- a step of a tested relation between numbers below n
pub record Leads (n : ℕ) (feeds : ℕ → ℕ → Bool) (x y : ℕ) : Type 0 where
  pub from : x < n
  pub to : y < n
  pub step : feeds x y ≡ true

module _ (n : ℕ) (feeds : ℕ → ℕ → Bool) where
  -- k steps from x, by the nodes node 0, .. , node k
  pub record Chain (k x : ℕ) : Type 0 where
    pub node : ℕ → ℕ
    pub from : node 0 ≡ x
    pub inside : (i : ℕ) → i ≤ k → node i < n
    pub linked : (i : ℕ) → i < k → feeds (node i) (node (suc i)) ≡ true

  -- a chain that meets a node twice has a ring
  ring_of : {k x : ℕ} (c : Chain k x) → Twice c.node (suc k) → Ring (Leads n feeds)
  ring_of c t =
      let le : t.first ≤ t.second = omega arith in
      record {
        size = t.second - t.first;
        node = λ i. c.node (t.first + i);
        some = omega arith;
        closed = rw (add-sub_of_le, add-zero) (sym t.same);
        linked = λ i h. rw add-suc (record {
          from = c.inside (t.first + i) (omega arith);
          to = c.inside (suc (t.first + i)) (omega arith);
          step = c.linked (t.first + i) (omega arith);
        });
      }

  -- n steps inside n nodes go round
  pub ring_in : {x : ℕ} → Chain n x → Ring (Leads n feeds)
  ring_in c = ring_of c (pigeon n c.node (λ i h. c.inside i (omega arith)))

  pub still : (x : ℕ) → x < n → Chain 0 x
  still x l = record { node = λ i. x; from = refl; inside = λ i h. l; linked = λ i h. absurd (not-suc-le-zero h) }

  pub longer : {k x y : ℕ} → x < n → feeds x y ≡ true → Chain k y → Chain (suc k) x
  longer {k} {x} {y} l e c = record { node = node'; from = refl; inside = inside'; linked = linked' }
    where
      node' : ℕ → ℕ
      node' zero = x
      node' (suc i) = c.node i

      inside' : (i : ℕ) → i ≤ suc k → node' i < n
      inside' zero h = l
      inside' (suc i) h = c.inside i (omega arith)

      linked' : (i : ℕ) → i < suc k → feeds (node' i) (node' (suc i)) ≡ true
      linked' zero h = rw c.from e
      linked' (suc i) h = c.linked i (omega arith)

  -- ---- the test: is there a chain of k steps from x? By tables, so that no way is gone twice
  unfoldable pub any_next : (ℕ → Bool) → ℕ → Bool
  any_next live x = any_below n (λ y. feeds x y && live y)

  unfoldable pub live : ℕ → List Bool
  live zero = tab n (λ x. true)
  live (suc k) = let was : List Bool = live k in tab n (any_next (λ y. get_or was y false))

  live_more : (k x : ℕ) → x < n → get_or (live (suc k)) x false ≡ any_next (λ y. get_or (live k) y false) x
  unfolding live
  live_more k x h = get_d_tab n (any_next (λ y. get_or (live k) y false)) x false h

  pub chain_of_live : (k x : ℕ) → x < n → get_or (live k) x false ≡ true → Chain k x
  unfolding any_next
  chain_of_live zero x l t = still x l
  chain_of_live (suc k) x l t =
      go (λ y m u. chain_of_live k y m u)
      (any_true n (λ y. feeds x y && get_or (live k) y false) (sym (live_more k x l) ∙ t))
    where
      go : ((y : ℕ) → y < n → get_or (live k) y false ≡ true → Chain k y)
          → Found n (λ y. feeds x y && get_or (live k) y false) → Chain (suc k) x
      go rec (y, m, e) =
          let b = (and-eq-true_iff (feeds x y) (get_or (live k) y false)).0 e in longer l b.0 (rec y m b.1)

  -- round a ring one can go for as long as one likes
  pub live_in_ring : (r : Ring (Leads n feeds)) (k i : ℕ) → i ≤ r.size → get_or (live k) (r.node i) false ≡ true
  unfolding live any_next
  live_in_ring r zero i h = get_d_tab n (λ x. true) (r.node i) false (inside (below_suc {n = r.size} (omega arith)))
    where
      inside : (i < r.size) ⊎ (i ≡ r.size) → r.node i < n
      inside (inl m) = (r.linked i m).from
      inside (inr e) = rw (e, r.closed) (r.linked 0 r.some).from
  live_in_ring r (suc k) i h = go (λ j m. live_in_ring r k j m) (below_suc {n = r.size} (omega arith))
    where
      link : (j : ℕ) → j < r.size → get_or (live k) (r.node (suc j)) false ≡ true
          → get_or (live (suc k)) (r.node j) false ≡ true
      link j m t =
          let l = r.linked j m in
          live_more k (r.node j) l.from
          ∙ any_of n (λ y. feeds (r.node j) y && get_or (live k) y false) (r.node (suc j)) l.to
          ((and-eq-true_iff (feeds (r.node j) (r.node (suc j))) (get_or (live k) (r.node (suc j)) false)).1
          (l.step, t))

      go : ((j : ℕ) → j ≤ r.size → get_or (live k) (r.node j) false ≡ true) → (i < r.size) ⊎ (i ≡ r.size)
          → get_or (live (suc k)) (r.node i) false ≡ true
      go rec (inl m) = link i m (rec (suc i) m)
      go rec (inr e) = rw (e, r.closed) (link 0 r.some (rec 1 r.some))

  -- ---- so a ring is found by a test
  unfoldable pub ring_test : Bool
  unfolding live any_next any_below
  ring_test = let last : List Bool = live n in any_below n (λ x. get_or last x false)

  pub ring_of_test : ring_test ≡ true → Ring (Leads n feeds)
  unfolding ring_test
  ring_of_test t = go (any_true n (λ x. get_or (live n) x false) t)
    where
      go : Found n (λ x. get_or (live n) x false) → Ring (Leads n feeds)
      go (x, l, e) = ring_in (chain_of_live n x l e)

  pub test_of_ring : Ring (Leads n feeds) → ring_test ≡ true
  unfolding ring_test
  test_of_ring r =
      any_of n (λ x. get_or (live n) x false) (r.node 0) (r.linked 0 r.some).from
      (live_in_ring r n 0 (omega arith))

  -- ---- following the next: each step comes to what is wanted, or to another node that the relation leads to
  module _ (D : Type 0) (B : ℕ → Type 0)
      (inside : (q : ℕ) → B q → q < n)
      (step : (q : ℕ) → B q → ((p : ℕ) × B p × (feeds q p ≡ true)) ⊎ D) where
    chain_or : (k q : ℕ) → B q → Chain k q ⊎ D
    chain_or zero q b = inl (still q (inside q b))
    chain_or (suc k) q b = go (λ p c. chain_or k p c) (step q b)
      where
        grow : (p : ℕ) → feeds q p ≡ true → Chain k p ⊎ D → Chain (suc k) q ⊎ D
        grow p e (inl c) = inl (longer (inside q b) e c)
        grow p e (inr d) = inr d

        go : ((p : ℕ) → B p → Chain k p ⊎ D) → ((p : ℕ) × B p × (feeds q p ≡ true)) ⊎ D → Chain (suc k) q ⊎ D
        go rec (inl (p, c, e)) = grow p e (rec p c)
        go rec (inr d) = inr d

    pub follow : (Ring (Leads n feeds) → ⊥) → (q : ℕ) → B q → D
    follow free q b = go (chain_or n q b)
      where
        go : Chain n q ⊎ D → D
        go (inl c) = absurd (free (ring_in c))
        go (inr d) = d

-- two relations that agree below n have rings together
pub ring_same : (n : ℕ) (f g : ℕ → ℕ → Bool) → ((x y : ℕ) → x < n → y < n → f x y ≡ g x y) → Ring (Leads n f)
    → Ring (Leads n g)
ring_same n f g h r =
    ring_map (Leads n f) (Leads n g) (λ x. x)
    (λ x y l. record { from = l.from; to = l.to; step = sym (h x y l.from l.to) ∙ l.step }) r
