-- Refusal 2: the test of the counts and capacities is document 01's rule; and how long a plan in range is at most.
use mathlib.Core.Path.{◌≡◌, refl}
use mathlib.Core.Bool.{Bool, true, false, ◌&&◌, false≢true}
use Prim.Native.Nat.{ℕ, ◌*◌, ◌≤◌}
use native.Mathlib.Nat.{mul-le-mul}
use native.Mathlib.Omega.{arith}
use borrow.Author.Tests.{leb-true, le-leb}
use Rattle.plan.specs.declared.Head.{Head}
use Rattle.plan.specs.Head.{InRange, within, counts_ok, capacities_ok, head_ok, destinations, bit_count, byte_count}

-- Two tests pass together: each passes.
pub and_both : {a b : Bool} → (a && b) ≡ true → (a ≡ true) × (b ≡ true)
and_both {a = true} {b = b} e = (refl, e)
and_both {a = false} {b = b} e = absurd (false≢true e)

-- Each of two tests passes: they pass together.
pub and_of : {a b : Bool} → a ≡ true → b ≡ true → (a && b) ≡ true
and_of p q = rw (p, q)

-- A number passes the test of a range: it lies in the range.
pub within_true : (low n high : ℕ) → within low n high ≡ true → (low ≤ n) × (n ≤ high)
within_true low n high e = let p = and_both e in (leb-true low n p.0, leb-true n high p.1)

-- A number in a range passes its test.
pub within_of : (low n high : ℕ) → (low ≤ n) × (n ≤ high) → within low n high ≡ true
within_of low n high (p, q) = and_of (le-leb low n p) (le-leb n high q)

-- Counts and capacities that pass the test are in their ranges.
pub head_ok_lem : (h : Head) → head_ok h ≡ true → InRange h
unfolding head_ok counts_ok capacities_ok
head_ok_lem h e =
    let all = and_both e in
    let c3 = and_both all.0 in
    let c2 = and_both c3.0 in
    let c1 = and_both c2.0 in
    let k7 = and_both all.1 in
    let k6 = and_both k7.0 in
    let k5 = and_both k6.0 in
    let k4 = and_both k5.0 in
    let k3 = and_both k4.0 in
    let k2 = and_both k3.0 in
    let k1 = and_both k2.0 in
    record {
      routers = within_true 1 h.routers 16 c1.0;
      actives = within_true 1 h.actives 16 c1.1;
      passives = within_true 1 h.passives 16 c2.1;
      slots = within_true 2 h.slots 32 c3.1;
      aout = within_true 1 h.aout.0 7 k1.0;
      ain = within_true 1 h.ain.0 7 k1.1;
      u = within_true 1 h.u.0 7 k2.1;
      q = within_true 1 h.q.0 7 k3.1;
      f = within_true 1 h.f.0 7 k4.1;
      k = within_true 1 h.k.0 7 k5.1;
      pin = within_true 1 h.pin.0 7 k6.1;
      pout = within_true 1 h.pout.0 7 k7.1;
    }

-- Counts and capacities in their ranges pass the test.
pub ok_head : (h : Head) → InRange h → head_ok h ≡ true
unfolding head_ok counts_ok capacities_ok
ok_head h i =
    rw (
      within_of 1 h.routers 16 i.routers,
      within_of 1 h.actives 16 i.actives,
      within_of 1 h.passives 16 i.passives,
      within_of 2 h.slots 32 i.slots,
      within_of 1 h.aout.0 7 i.aout,
      within_of 1 h.ain.0 7 i.ain,
      within_of 1 h.u.0 7 i.u,
      within_of 1 h.q.0 7 i.q,
      within_of 1 h.f.0 7 i.f,
      within_of 1 h.k.0 7 i.k,
      within_of 1 h.pin.0 7 i.pin,
      within_of 1 h.pout.0 7 i.pout,
    )

-- What a plan in range has at most: destinations, bits and bytes.
pub record Most (h : Head) : Type 0 where
  pub columns : destinations h ≤ 32
  pub bits : bit_count h ≤ 2093
  pub bytes : byte_count h ≤ 262

-- A plan in range has at most 32 destinations, 2093 bits and 262 bytes.
pub counts_most : (h : Head) → InRange h → Most h
counts_most h i =
    let columns : destinations h ≤ 32 = omega arith in
    let routes : h.routers * destinations h ≤ 16 * 32 = mul-le-mul i.routers.1 columns in
    let bits : bit_count h ≤ 2093 = omega arith in
    record { columns = columns; bits = bits; bytes = omega arith }
