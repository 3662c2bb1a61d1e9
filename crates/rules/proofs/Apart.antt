-- Values of different constructors differ, and values of one constructor have one content.
use mathlib.Core.Path.{◌≡◌, refl, sym, ap, ◌∙◌}
use mathlib.Core.Bool.{not, true, false, true≢false}
use Prim.Native.Nat.{ℕ}
use native.Mathlib.Omega.{arith}
use Rattle.packets.specs.declared.Packet.{Packet}
use Rattle.packets.specs.declared.Wire.TheVariants.{Empty, Full}
use Rattle.packets.specs.declared.Phase.{Phase}
use Rattle.packets.specs.declared.Phase.TheVariants.{Read, Execute, Write}
use Rattle.packets.specs.declared.Entry.TheVariants.{Free, Booked}
use Rattle.plan_queues.specs.Queue.{Q}
use Rattle.rules.specs.State.{nobody, sender}
use Rattle.rules.specs.Calls.{Visit, turn, visit, is_phase}

-- ---- phases
pub read_execute : Read ≡ Execute → ⊥
read_execute e = let z : ◌≡◌ {A = ℕ} 0 1 = cc in omega arith

pub read_write : Read ≡ Write → ⊥
read_write e = let z : ◌≡◌ {A = ℕ} 0 1 = cc in omega arith

pub execute_write : Execute ≡ Write → ⊥
execute_write e = let z : ◌≡◌ {A = ℕ} 0 1 = cc in omega arith

-- the phases that the test does not tell apart are one
pub phase_of : (x y : Phase) → not (is_phase x y) ≡ false → x ≡ y
phase_of Read Read e = refl
phase_of Read Execute e = absurd (true≢false e)
phase_of Read Write e = absurd (true≢false e)
phase_of Execute Read e = absurd (true≢false e)
phase_of Execute Execute e = refl
phase_of Execute Write e = absurd (true≢false e)
phase_of Write Read e = absurd (true≢false e)
phase_of Write Execute e = absurd (true≢false e)
phase_of Write Write e = refl

-- and the test tells of a phase that it is itself
phase_itself : (x : Phase) → is_phase x x ≡ true
phase_itself Read = refl
phase_itself Execute = refl
phase_itself Write = refl

pub phase_is : (x y : Phase) → x ≡ y → is_phase x y ≡ true
phase_is x y e = ap (is_phase x) (sym e) ∙ phase_itself x

-- ---- choices
pub nobody_not : {k : ℕ} → nobody ≡ sender k → ⊥
nobody_not e = let z : ◌≡◌ {A = ℕ} 0 1 = cc in omega arith

pub sender_same : {k n : ℕ} → sender k ≡ sender n → k ≡ n
sender_same e = cc

-- ---- wires
pub full_not : {x : Packet} → Empty ≡ Full x → ⊥
full_not e = let z : ◌≡◌ {A = ℕ} 0 1 = cc in omega arith

pub full_same : {x y : Packet} → Full x ≡ Full y → x ≡ y
full_same e = cc

-- ---- entries
pub booked_not : {i : ℕ} → Free ≡ Booked i → ⊥
booked_not e = let z : ◌≡◌ {A = ℕ} 0 1 = cc in omega arith

pub booked_same : {i j : ℕ} → Booked i ≡ Booked j → i ≡ j
booked_same e = cc

-- ---- units
pub unit_same : {r i n j : ℕ} → Q r i ≡ Q n j → (r ≡ n) × (i ≡ j)
unit_same e = (cc, cc)

-- ---- calls
pub turn_same : {x y : Phase} → turn x ≡ turn y → x ≡ y
turn_same e = cc

pub visit_not : (v : Visit) (x : Phase) → visit v ≡ turn x → ⊥
visit_not v x e = let z : ◌≡◌ {A = ℕ} 0 1 = cc in omega arith
