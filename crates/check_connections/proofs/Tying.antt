-- A connection's entries, one after another along its walk: each is there, claimed by none before, and then claimed.
use mathlib.Core.Path.{◌≡◌, refl, sym, ap, ap₂, ◌∙◌}
use mathlib.Core.Bool.{Bool, true, false, not, ◌||◌, false≢true}
use mathlib.Core.List.{List}
use Prim.Native.Nat.{ℕ, zero, suc, ◌+◌, ◌*◌, ◌/◌, ◌%◌, ◌≤◌, ◌<◌}
use native.Mathlib.Numerals.{add-one}
use native.Mathlib.Omega.{arith}
use lib.Dec.{eqb, eqb-suc-suc}
use lib.ListN.{get_or}
use borrow.Author.Tests.{ne_eqb}
use Rattle.basis.specs.Choice.{also, refuted, not_both}
use Rattle.basis.specs.Bounded.{any_below, any_true, all_below, all_none, all_more, all_fail, all_done}
use Rattle.basis.specs.Walk.{Spot, on, end, lost}
use Rattle.sets.specs.Sets.{has}
use Rattle.plan.specs.declared.Head.{Head}
use Rattle.plan.specs.Plan.{Plan, Port, Interface, R, S, route_to}
use Rattle.plan.specs.Rules.{port_of}
use Rattle.plan.specs.Tables.{table_plan, interface_at}
use Rattle.rules.specs.State.{State}
use Rattle.valid.specs.Ties.{numbered, standing, side_of, slot_of, length_of, makes_at, claimed_before, booked_by}
use Rattle.valid.specs.Ties.{entry_tie}
use Rattle.valid.specs.Ties.{tie_test}
use Rattle.bytes_layout.specs.Named.{entry_test_lem}
use Rattle.bytes_layout.specs.Offsets.{entry_row}
use Rattle.bytes_layout.specs.Codes.{entry_from}
use Rattle.bytes_layout.specs.Decode.{decode}
use Rattle.bytes_steps.specs.Counts.{table_from, table_at_lem}
use Rattle.check_connections.specs.Claims.{Claims, Claimed, slot_from, Tied}
use Rattle.check_connections.specs.Given.{Course}
use Rattle.check_connections.proofs.Along.{column_is, size_few, stands_first, stands_inside, stands_exit, stands_once}
use Rattle.check_connections.proofs.Along.{stands_next}
use Rattle.check_connections.proofs.Claiming.{Claiming, claiming_none, claiming_more, claiming_done, made_at, or_none}

-- ---- an entry's byte
booked_byte : (i v : ℕ) → booked_by i (entry_from v) ≡ eqb v (i + 1)
booked_byte i zero = sym (ne_eqb 0 (i + 1) (omega arith))
booked_byte i (suc v) = rw (add-one i, eqb-suc-suc v i)

module _ (pl : Plan) (r o t : ℕ) where
  entry_byte : (b : List ℕ) → r < R pl → o < 4 → t < S pl
      → (decode pl b).table r o t ≡ entry_from (get_or b (entry_row pl r o t) 0)
  unfolding decode
  entry_byte b hr ho ht = rw (entry_test_lem pl r o t (hr, ho, ht))

  entry_offset : entry_row pl r o t ≡ table_from pl.head + 64 * (4 * r + o) + 2 * t
  unfolding entry_row
  entry_offset = let e = table_at_lem pl in omega arith

-- ---- the loop: the first n entries pass and are claimed, and where one follows the walk stands on the port at
pub record Tying (pl : Plan) (s : State) (m size n at : ℕ) (c : List ℕ) : Type 0 where
  pub tests : all_below n (λ j. entry_tie pl s m j (standing pl (numbered m) j)) ≡ true
  pub claims : Claiming pl s m n c
  pub here : n < size → standing pl (numbered m) n ≡ on (port_of at)

module _ {h : Head} {routes : List (List ℕ)} {joints : List ℕ} {from d size : ℕ} (m : ℕ)
    (w : Course h routes joints (m / 512) (m / 32 % 16) from d size) (b : List ℕ) where
  abbrev net : Plan
  net = table_plan h routes joints

  abbrev state : State
  state = decode net b

  abbrev entry : ℕ → Bool
  entry j = entry_tie net state m j (standing net (numbered m) j)

  pub tying_none : {c : List ℕ} → Claims net state m c → Tying net state m size 0 from c
  unfolding numbered
  tying_none x =
      record { tests = all_none entry; claims = claiming_none net state m x; here = λ l. stands_first w }

  module _ {n at : ℕ} {c : List ℕ} (t : Tying net state m size n at c) (l : n < size) where
    -- by the column that the code looks up
    side_same : route_to net (interface_at h d) (at / 4) ≡ side_of net (numbered m) (at / 4)
    unfolding numbered
    side_same = ap (λ (e : Interface). route_to net e (at / 4)) (column_is w)

    side_few : side_of net (numbered m) (at / 4) < 4
    unfolding numbered
    side_few = stands_exit w n (port_of at) (t.here l)

    router_few : at / 4 < h.routers
    unfolding numbered
    router_few = stands_inside w n (port_of at) (t.here l)

    -- the port and the side by which the walk leaves are inside the tables
    pub tying_port : (at < 64) × (4 * (at / 4) + route_to net (interface_at h d) (at / 4) < 4 * h.routers)
        × (h.routers ≤ 16) × (n ≤ 16)
    tying_port =
        let r = router_few in let o = side_few in let e = side_same in let f = size_few w in
        (omega arith, omega arith, f.1, omega arith)

    -- so is the number of that side
    pub tying_key : {k : ℕ} → k ≡ 4 * (at / 4) + route_to net (interface_at h d) (at / 4)
        → (k < 4 * h.routers) × (h.routers ≤ 16)
    tying_key e = let p = tying_port in (omega arith, p.2)

    -- no router before is this one, so no entry before is this one
    none_before : (o u : ℕ) → any_below n (makes_at net (numbered m) (at / 4) o u) ≡ false
    unfolding numbered
    none_before o u =
        refuted (any_below n (makes_at net (numbered m) (at / 4) o u))
        (λ e. let f = any_true n (makes_at net (numbered m) (at / 4) o u) e in
        not_both f.2 (none f.0 f.1 (standing net (numbered m) f.0) refl))
      where
        none : (j : ℕ) → j < n → (z : Spot Port) → standing net (numbered m) j ≡ z
            → makes_at net (numbered m) (at / 4) o u j ≡ false
        none j q (on y) e =
            made_at net state m j (at / 4) o u (on y) e
            ∙ rw (ne_eqb y.router (at / 4)
            (λ same. let one = stands_once w n (port_of at) (t.here l) j y e same in omega arith))
        none j q end e = made_at net state m j (at / 4) o u end e
        none j q lost e = made_at net state m j (at / 4) o u lost e

    module _ {k x table : ℕ} {r : Bool} {f : List ℕ}
        (ek : k ≡ 4 * (at / 4) + route_to net (interface_at h d) (at / 4)) (ex : x ≡ slot_from (m % 32) n h.slots)
        (lx : x < h.slots) (et : table ≡ table_from h) (z : Claimed b (table + 64 * k + 2 * x) (at % 4) k x r c f) where
      key_is : k ≡ 4 * (at / 4) + side_of net (numbered m) (at / 4)
      key_is = let e = side_same in omega arith

      slot_is : x ≡ slot_of net (numbered m) n
      unfolding numbered table_plan
      slot_is = ex

      slot_few : x < 32
      slot_few = let s = w.range.slots.1 in omega arith

      booked_is : booked_by (at % 4) (state.table (at / 4) (side_of net (numbered m) (at / 4)) x)
          ≡ eqb (get_or b (table + 64 * k + 2 * x) 0) (at % 4 + 1)
      unfolding table_plan
      booked_is =
          let o : ℕ = side_of net (numbered m) (at / 4) in
          let q : entry_row net (at / 4) o x ≡ table + 64 * k + 2 * x
          = entry_offset net (at / 4) o x ∙ (let e = key_is in omega arith) in
          ap (booked_by (at % 4)) (entry_byte net (at / 4) o x b router_few side_few lx)
          ∙ booked_byte (at % 4) (get_or b (entry_row net (at / 4) o x) 0)
          ∙ ap (λ (i : ℕ). eqb (get_or b i 0) (at % 4 + 1)) q

      claimed_is : has (get_or c k 0) x ≡ claimed_before net state m (at / 4) (side_of net (numbered m) (at / 4)) x
      claimed_is =
          let r = router_few in let q = size_few w in
          ap (λ (i : ℕ). has (get_or c i 0) x) key_is
          ∙ t.claims.same (at / 4) (side_of net (numbered m) (at / 4)) x (omega arith) side_few slot_few
          ∙ ap (λ (y : Bool). claimed_before net state m (at / 4) (side_of net (numbered m) (at / 4)) x || y)
          (none_before (side_of net (numbered m) (at / 4)) x)
          ∙ or_none (claimed_before net state m (at / 4) (side_of net (numbered m) (at / 4)) x)

      -- what is tested is the entry
      entry_is : r ≡ entry n
      entry_is =
          z.test ∙ ap₂ (λ (p q : Bool). also p (not q)) (sym booked_is) claimed_is
          ∙ ap (λ (u : ℕ). also (booked_by (at % 4) (state.table (at / 4) (side_of net (numbered m) (at / 4)) u))
          (not (claimed_before net state m (at / 4) (side_of net (numbered m) (at / 4)) u))) slot_is
          ∙ sym (ap (entry_tie net state m n) (t.here l))

      pub tying_more : r ≡ true → {v : ℕ} → v ≡ get_or joints k 0 → Tying net state m size (n + 1) (v % 64) f
      unfolding numbered
      tying_more e {v} g =
          record {
            tests = all_more entry n t.tests entry_is e;
            claims = rw (add-one n, z.grown e) (claiming_more net state m n (port_of at) (t.here l)
                (let r = router_few in let q = size_few w in omega arith) side_few c t.claims k x key_is slot_is);
            here = λ q. rw (add-one n) (stands_next w n at (t.here l) (omega arith) key_is g);
          }

      pub tying_fail : r ≡ false → {g : List ℕ} → Tied net state m false g
      unfolding tie_test numbered
      tying_fail e =
          record {
            test = rw w.serves
                (sym (all_fail entry (length_of net (numbered m)) n (let q = w.routers in omega arith) entry_is e));
            claims = λ q. absurd (false≢true q);
          }

  pub tying_done : {n at : ℕ} {c : List ℕ} → Tying net state m size n at c → n ≡ size → Tied net state m true c
  unfolding tie_test numbered
  tying_done {n} t e =
      record {
        test = rw w.serves (sym (all_done entry t.tests (e ∙ w.routers)));
        claims = λ q g. claiming_done net state m n (e ∙ w.routers) g t.claims;
      }
