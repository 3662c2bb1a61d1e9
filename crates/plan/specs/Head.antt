-- Plan bytes, the first 45 bits: 'routers R, actives A, passives P (5 bits each), S (6), then eight capacities of 3
-- bits, 1 to 7'.
use Rattle.std.specs.Prelude.{Bool, ◌&&◌, List, ℕ, ◌+◌, ◌*◌, ◌/◌, ◌≤◌, leb}
use Rattle.fields.specs.Bits.{field_of}
use Rattle.kinds.specs.declared.Credit.{Credit}
use Rattle.plan.specs.declared.Head.{Head}

-- the i-th capacity
unfoldable pub capacity_at : List ℕ → ℕ → Credit
capacity_at b i = record { 0 = field_of b (21 + 3 * i) 3 }

unfoldable pub head_of : List ℕ → Head
head_of b =
    record {
      routers = field_of b 0 5;
      actives = field_of b 5 5;
      passives = field_of b 10 5;
      slots = field_of b 15 6;
      aout = capacity_at b 0;
      ain = capacity_at b 1;
      u = capacity_at b 2;
      q = capacity_at b 3;
      f = capacity_at b 4;
      k = capacity_at b 5;
      pin = capacity_at b 6;
      pout = capacity_at b 7;
    }

-- ---- refusal 2: 'R, A, P, S or a capacity outside its range'
pub record InRange (h : Head) : Type 0 where
  pub routers : (1 ≤ h.routers) × (h.routers ≤ 16)
  pub actives : (1 ≤ h.actives) × (h.actives ≤ 16)
  pub passives : (1 ≤ h.passives) × (h.passives ≤ 16)
  pub slots : (2 ≤ h.slots) × (h.slots ≤ 32)
  pub aout : (1 ≤ h.aout.0) × (h.aout.0 ≤ 7)
  pub ain : (1 ≤ h.ain.0) × (h.ain.0 ≤ 7)
  pub u : (1 ≤ h.u.0) × (h.u.0 ≤ 7)
  pub q : (1 ≤ h.q.0) × (h.q.0 ≤ 7)
  pub f : (1 ≤ h.f.0) × (h.f.0 ≤ 7)
  pub k : (1 ≤ h.k.0) × (h.k.0 ≤ 7)
  pub pin : (1 ≤ h.pin.0) × (h.pin.0 ≤ 7)
  pub pout : (1 ≤ h.pout.0) × (h.pout.0 ≤ 7)

abbrev pub within : ℕ → ℕ → ℕ → Bool
within low n high = leb low n && leb n high

unfoldable pub counts_ok : Head → Bool
counts_ok h =
    within 1 h.routers 16 && within 1 h.actives 16 && within 1 h.passives 16 && within 2 h.slots 32

unfoldable pub capacities_ok : Head → Bool
capacities_ok h =
    within 1 h.aout.0 7 && within 1 h.ain.0 7 && within 1 h.u.0 7 && within 1 h.q.0 7
    && within 1 h.f.0 7 && within 1 h.k.0 7 && within 1 h.pin.0 7 && within 1 h.pout.0 7

unfoldable pub head_ok : Head → Bool
head_ok h = counts_ok h && capacities_ok h

-- ---- the plan's length: 'The length is 45+32R+3R(A+P) bits rounded up'
abbrev pub destinations : Head → ℕ
destinations h = h.actives + h.passives

-- the first bit of the routes, behind the joints
abbrev pub routes_at : Head → ℕ
routes_at h = 45 + 32 * h.routers

abbrev pub bit_count : Head → ℕ
bit_count h = routes_at h + 3 * (h.routers * destinations h)

abbrev pub byte_count : Head → ℕ
byte_count h = (bit_count h + 7) / 8

-- the counts are at most 16
abbrev pub Counts : Head → Type 0
Counts h = (h.routers ≤ 16) × (h.actives ≤ 16) × (h.passives ≤ 16)
