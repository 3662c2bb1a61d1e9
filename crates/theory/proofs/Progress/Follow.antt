-- Following a relation that has no ring, among finitely many: from any of them one comes to where it is wanted.
use mathlib.Core.Path.{◌≡◌, refl, sym}
use mathlib.Core.Logic.{◌⊎◌, inl, inr}
use Prim.Native.Nat.{ℕ, zero, suc, ◌+◌, ◌-◌, ◌≤◌, ◌<◌}
use native.Mathlib.Nat.{not-suc-le-zero, add-suc, add-zero, add-sub_of_le}
use native.Mathlib.Omega.{arith}
use Rattle.basis.specs.Pigeon.{Twice, pigeon}
use Rattle.basis.specs.Ring.{Ring}

module _ {X : Type 0} (num : X → ℕ) (n : ℕ) (Next : X → X → Type 0) (B : X → Type 0) (D : Type 0)
    (inside : (x : X) → B x → num x < n)
    (named : (x y : X) → B x → B y → num x ≡ num y → x ≡ y)
    (step : (x : X) → B x → ((y : X) × B y × Next x y) ⊎ D) where
  record Chain (k : ℕ) (x : X) : Type 0 where
    pub node : ℕ → X
    pub from : node 0 ≡ x
    pub good : (i : ℕ) → i ≤ k → B (node i)
    pub linked : (i : ℕ) → i < k → Next (node i) (node (suc i))

  longer : {k : ℕ} {x y : X} → B x → Next x y → Chain k y → Chain (suc k) x
  longer {k} {x} {y} b e c = record { node = node'; from = refl; good = good'; linked = linked' }
    where
      node' : ℕ → X
      node' zero = x
      node' (suc i) = c.node i

      good' : (i : ℕ) → i ≤ suc k → B (node' i)
      good' zero h = b
      good' (suc i) h = c.good i (omega arith)

      linked' : (i : ℕ) → i < suc k → Next (node' i) (node' (suc i))
      linked' zero h = rw c.from e
      linked' (suc i) h = c.linked i (omega arith)

  chain_or : (k : ℕ) (x : X) → B x → Chain k x ⊎ D
  chain_or zero x b =
      inl (record { node = λ i. x; from = refl; good = λ i h. b; linked = λ i h. absurd (not-suc-le-zero h) })
  chain_or (suc k) x b = go (λ y c. chain_or k y c) (step x b)
    where
      grow : (y : X) → Next x y → Chain k y ⊎ D → Chain (suc k) x ⊎ D
      grow y e (inl c) = inl (longer b e c)
      grow y e (inr d) = inr d

      go : ((y : X) → B y → Chain k y ⊎ D) → ((y : X) × B y × Next x y) ⊎ D → Chain (suc k) x ⊎ D
      go rec (inl (y, c, e)) = grow y e (rec y c)
      go rec (inr d) = inr d

  -- n steps among n go round
  ring_in : {x : X} → Chain n x → Ring Next
  ring_in c = round (pigeon n (λ i. num (c.node i)) (λ i h. inside (c.node i) (c.good i (omega arith))))
    where
      round : Twice (λ i. num (c.node i)) (suc n) → Ring Next
      round t =
          let le : t.first ≤ t.second = omega arith in
          record {
            size = t.second - t.first;
            node = λ i. c.node (t.first + i);
            some = omega arith;
            closed =
                rw (add-sub_of_le, add-zero)
                (named (c.node t.second) (c.node t.first) (c.good t.second (omega arith))
                (c.good t.first (omega arith)) (sym t.same));
            linked = λ i h. rw add-suc (c.linked (t.first + i) (omega arith));
          }

  pub follow : (Ring Next → ⊥) → (x : X) → B x → D
  follow free x b = go (chain_or n x b)
    where
      go : Chain n x ⊎ D → D
      go (inl c) = absurd (free (ring_in c))
      go (inr d) = d
