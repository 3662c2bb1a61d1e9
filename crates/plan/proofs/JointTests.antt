-- Tests of all joints, made one after the other: what a loop has tested so far, and that testing joints as they are
-- read is testing the table. Assumes nothing.
use mathlib.Core.Path.{◌≡◌, refl, sym, ap}
use mathlib.Core.Bool.{Bool, true, false, ◌&&◌}
use mathlib.Core.List.{List}
use Prim.Native.Nat.{ℕ, ◌+◌, ◌*◌, ◌≤◌, ◌<◌}
use native.Mathlib.Numerals.{add-one}
use native.Mathlib.Omega.{arith}
use lib.ListN.{get_or, replicate, length-replicate}
use Rattle.basis.specs.Choice.{pick}
use Rattle.basis.specs.Bounded.{all_below, all_same, all_at}
use Rattle.basis.specs.Fold.{fill_at}
use Rattle.plan.specs.declared.Head.{Head}
use Rattle.plan.specs.Tables.{joint_byte, joints_of, joint_byte_ok, joint_bytes_ok}

-- one more turn of a loop that tests and goes on
pub all_and : (f : ℕ → Bool) (i : ℕ) {b c : Bool} → b ≡ all_below i f → c ≡ f i → (b && c) ≡ all_below (i + 1) f
unfolding all_below
all_and f i e g = rw (add-one, e, g) (and_pick (all_below i f) (f i))
  where
    and_pick : (b c : Bool) → (b && c) ≡ pick b c false
    and_pick true c = refl
    and_pick false c = refl

pub all_end : (f : ℕ → Bool) {i n : ℕ} {b : Bool} → b ≡ all_below i f → i ≡ n → b ≡ all_below n f
all_end f e q = rw (← q) e

-- joints tested while they are read are those of the table
pub joints_tested : (b : List ℕ) (h : Head) → h.routers ≤ 16
    → all_below (4 * h.routers) (λ i. joint_byte_ok h (joint_byte b i)) ≡ joint_bytes_ok h (joints_of b h)
unfolding joint_bytes_ok joints_of
joints_tested b h few =
    all_same (4 * h.routers) (λ i. joint_byte_ok h (joint_byte b i)) _
    (λ i l. ap (joint_byte_ok h)
    (sym (fill_at (joint_byte b) (4 * h.routers) (replicate 64 0) i 0 l (rw length-replicate (omega arith)))))

-- each joint of a table that passed the test passes it
pub byte_fits : (h : Head) (js : List ℕ) → joint_bytes_ok h js ≡ true → (i : ℕ) → i < 4 * h.routers
    → joint_byte_ok h (get_or js i 0) ≡ true
unfolding joint_bytes_ok
byte_fits h js e i l = all_at (4 * h.routers) (λ i. joint_byte_ok h (get_or js i 0)) e i l
