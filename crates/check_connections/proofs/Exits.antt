-- The ways out of the check of a pair, over the tables that it is lent; and the loop over all pairs.
use mathlib.Core.Path.{◌≡◌, refl, sym, ap, subst, ◌∙◌}
use mathlib.Core.Logic.{◌⊎◌, inl, inr, ◌≢◌}
use mathlib.Core.Bool.{Bool, true, false, not, ◌&&◌, false≢true}
use mathlib.Core.List.{List, []}
use Prim.Native.Nat.{ℕ, ◌+◌, ◌*◌, ◌/◌, ◌%◌, ◌≤◌, ◌<◌}
use native.Mathlib.Omega.{arith}
use lib.Dec.{eqb, ltb}
use lib.ListN.{get_or}
use borrow.Author.Tests.{lt-ltb, le-ltb, eqb-true, eqb-false}
use Rattle.basis.specs.Choice.{not_both}
use Rattle.basis.specs.Bounded.{all_below, all_none, all_more, all_fail, all_done, all_of, lt_or_ge}
use Rattle.sets.specs.Sets.{has, less, below, lowest}
use Rattle.sets.specs.Laws.{none_has, has_less, has_below, less_le, lowest_is, lowest_lt}
use Rattle.plan.specs.declared.Head.{Head}
use Rattle.plan.specs.Plan.{Plan, Interface, active, A}
use Rattle.plan.specs.Rules.{port_of, port_or0, ports_of, home}
use Rattle.plan.specs.Tables.{table_plan, interface_at}
use Rattle.plan_walks.specs.Served.{served}
use Rattle.call_common.proofs.Served.{not_served, is_served, walk_span}
use Rattle.bytes_layout.specs.Offsets.{starts_row}
use Rattle.bytes_layout.specs.Decode.{decode, four_at}
use Rattle.bytes_steps.specs.Counts.{connections_from, connections_at_lem}
use Rattle.check_rule.specs.Forms.{zeros}
use Rattle.check_rule.specs.Check.{pair_test, connections_part}
use Rattle.check_rule.proofs.Bytes.{zeros_byte}
use Rattle.check_connections.specs.Claims.{none_claimed, Claims, Starts, StartsTied, PairChecked}
use Rattle.check_connections.specs.Given.{Given, Course}
use Rattle.check_connections.proofs.Claiming.{claims_none}
use Rattle.check_connections.proofs.Pairs.{AreBytes, empty_passes, empty_claims, stray_fails, starts_of, form_passes}
use Rattle.check_connections.proofs.Pairs.{unserved_fails}

-- ---- the walk of a pair whose length is not 0
module _ {h : Head} {routes : List (List ℕ)} {joints homes : List ℕ} {lengths : List (List ℕ)} {b : List ℕ}
    (given : Given h routes joints homes lengths b) (a p : ℕ) (ha : a < h.actives) (hp : p < h.passives)
    {size : ℕ} (known : size ≡ get_or (get_or lengths a []) p 0) where
  abbrev net : Plan
  net = table_plan h routes joints

  -- the port at which it begins
  home_is : {from : ℕ} → from ≡ get_or homes a 0 → port_of from ≡ home net (active a)
  unfolding home
  home_is {from} e =
      let w = given.wiring in
      let c : interface_at h a ≡ active a = rw (lt-ltb a h.actives ha) in
      ap port_of (e ∙ w.ports a (omega arith) ∙ ap (λ (i : Interface). port_or0 (ports_of net i)) c)

  unserved : size ≡ 0 → served net a p ≡ false
  unfolding table_plan
  unserved z = not_served net given.wiring.range a p lengths given.sizes ha hp (sym known ∙ z)

  pub course_of : size ≢ 0 → {from : ℕ} → from ≡ get_or homes a 0
      → Course h routes joints a p from (h.actives + p) size
  unfolding table_plan
  course_of n e =
      let some : get_or (get_or lengths a []) p 0 ≢ 0 = λ z. n (known ∙ z) in
      record {
        range = given.wiring.range;
        wired = given.wiring.wired;
        has_active = ha;
        has_passive = hp;
        serves = is_served net given.wiring.range a p lengths given.sizes ha hp some;
        begins = home_is e;
        column = refl;
        routers = known ∙ walk_span net given.wiring.range a p lengths given.sizes ha hp some;
      }

-- the walk of a pair's connection is the pair's
pub course_turn : {h : Head} {routes : List (List ℕ)} {joints : List ℕ} (n t : ℕ) {from d size : ℕ} → t < 32
    → Course h routes joints (n / 16) (n % 16) from d size
    → Course h routes joints ((32 * n + t) / 512) ((32 * n + t) / 32 % 16) from d size
course_turn n t l w =
    let a : (32 * n + t) / 512 ≡ n / 16 = omega arith in
    let p : (32 * n + t) / 32 % 16 ≡ n % 16 = omega arith in
    rw (a, p) w

-- ---- one pair
module _ {h : Head} {routes : List (List ℕ)} {joints homes : List ℕ} {lengths : List (List ℕ)} {b : List ℕ}
    (given : Given h routes joints homes lengths b) (n : ℕ) (inside : n < 16 * h.actives) where
  abbrev plan : Plan
  plan = table_plan h routes joints

  abbrev word : ℕ
  word = four_at (starts_row plan (n / 16) (n % 16)) b

  offset : connections_from h + 4 * n ≡ starts_row plan (n / 16) (n % 16)
  unfolding starts_row table_plan
  offset = let c = connections_at_lem plan in omega arith

  active_in_lem : n / 16 < A plan
  unfolding table_plan
  active_in_lem = omega arith

  module _ {v : ℕ} (e : v ≡ four_at (connections_from h + 4 * n) b) where
    word_is : v ≡ word
    word_is = e ∙ ap (λ (i : ℕ). four_at i b) offset

    pub pair_none : AreBytes b → v ≡ 0 → {c : List ℕ} → Claims plan (decode plan b) (32 * n) c
        → PairChecked plan b n true c
    pair_none bytes z x =
        let f : word ≡ 0 = sym word_is ∙ z in
        record { test = sym (empty_passes plan b n f bytes); claims = λ q. empty_claims plan b n f x }

    failed : pair_test plan b n ≡ false → {c : List ℕ} → PairChecked plan b n false c
    failed f = record { test = sym f; claims = λ q. absurd (false≢true q) }

    module _ (some : 0 < v) (small : v < 4294967296) where
      -- a member
      first : (has word (lowest v) ≡ true) × (lowest v < 32)
      first = (rw (← word_is) (lowest_is v some (omega arith)).there, lowest_lt 32 32 v (omega arith) some small)

      -- 'a mark ..' of no passive
      pub pair_passive : h.passives ≤ n % 16 → {c : List ℕ} → PairChecked plan b n false c
      unfolding table_plan
      pair_passive l = failed (stray_fails plan b n (lowest v) first.1 first.0
          (rw (lt-ltb (n / 16) h.actives active_in_lem, le-ltb (n % 16) h.passives l)))

      -- of no slot
      pub pair_slot : n % 16 < h.passives → {r : Bool} → r ≡ eqb (less v (below h.slots)) 0 → r ≡ false
          → {c : List ℕ} → PairChecked plan b n false c
      unfolding table_plan
      pair_slot lp f g = failed (stray_fails plan b n t under (rw (← word_is) member.0)
          (rw (lt-ltb (n / 16) h.actives active_in_lem, lt-ltb (n % 16) h.passives lp, member.1)))
        where
          past : ℕ
          past = less v (below h.slots)

          above : (0 < past) × (past < 4294967296)
          above =
              let k = eqb-false past 0 (sym f ∙ g) in
              let m = less_le v (below h.slots) in
              (omega arith, omega arith)

          t : ℕ
          t = lowest past

          under : t < 32
          under = lowest_lt 32 32 past (omega arith) above.0 above.1

          parts : (x y : Bool) → (x && not y) ≡ true → (x ≡ true) × (y ≡ false)
          parts true true q = absurd (false≢true q)
          parts true false q = (refl, refl)
          parts false y q = absurd (false≢true q)

          member : (has v t ≡ true) × (ltb t h.slots ≡ false)
          member = parts (has v t) (ltb t h.slots)
              (sym (has_less v (below h.slots) t ∙ ap (λ (y : Bool). has v t && not y) (has_below h.slots t))
              ∙ (lowest_is past above.0 (omega (arith, above.1))).there)

    module _ (lp : n % 16 < h.passives) {r : Bool} (f : r ≡ eqb (less v (below h.slots)) 0) (g : r ≡ true) where
      few : (t : ℕ) → has word t ≡ true → t < h.slots
      few t q = by (lt_or_ge t h.slots)
        where
          z : less v (below h.slots) ≡ 0
          z = eqb-true (less v (below h.slots)) 0 (sym f ∙ g)

          by : (t < h.slots) ⊎ (h.slots ≤ t) → t < h.slots
          by (inl l) = l
          by (inr l) =
              absurd
              (not_both
              (has_less v (below h.slots) t
              ∙ rw (has_below h.slots t, le-ltb t h.slots l, word_is, q))
              (ap (λ (x : ℕ). has x t) z ∙ none_has t))

      pub pair_starts : Starts (decode plan b) h.slots n v
      unfolding table_plan
      pair_starts = rw word_is (starts_of plan b n active_in_lem lp few)

      pub pair_done : AreBytes b → {y : Bool} {c : List ℕ} → StartsTied plan (decode plan b) n y c
          → PairChecked plan b n y c
      unfolding table_plan
      pair_done bytes x =
          record { test = x.test ∙ sym (form_passes plan b n active_in_lem lp few bytes); claims = x.claims }

      -- 'a mark for an unserved pair'
      pub pair_unserved : 0 < v → v < 4294967296 → {size : ℕ} → size ≡ get_or (get_or lengths (n / 16) []) (n % 16) 0
          → size ≡ 0 → {c : List ℕ} → PairChecked plan b n false c
      unfolding table_plan
      pair_unserved some small k z =
          let m = first some small in
          failed (unserved_fails plan b n active_in_lem lp few (lowest v) m.1 m.0
          (unserved given (n / 16) (n % 16) active_in_lem lp k z))

-- ---- all pairs
pub record Pairing (pl : Plan) (b : List ℕ) (n : ℕ) (c : List ℕ) : Type 0 where
  pub tests : all_below n (pair_test pl b) ≡ true
  pub claims : Claims pl (decode pl b) (32 * n) c

module _ (pl : Plan) (b : List ℕ) where
  pub pairing_none : {c : List ℕ} → c ≡ none_claimed → Pairing pl b 0 c
  pairing_none e = record { tests = all_none (pair_test pl b); claims = claims_none pl (decode pl b) e }

  pub pairing_more : (n : ℕ) {c d : List ℕ} {r : Bool} → Pairing pl b n c → PairChecked pl b n r d → r ≡ true
      → Pairing pl b (n + 1) d
  pairing_more n {c} {d} x z e =
      let q : 32 * n + 32 ≡ 32 * (n + 1) = omega arith in
      record {
        tests = all_more (pair_test pl b) n x.tests z.test e;
        claims = subst (λ (k : ℕ). Claims pl (decode pl b) k d) q (z.claims e);
      }

module _ (h : Head) (routes : List (List ℕ)) (joints : List ℕ) (b : List ℕ) where
  pub pairing_fail : (n : ℕ) {d : List ℕ} {r : Bool} → n < 16 * h.actives
      → PairChecked (table_plan h routes joints) b n r d → r ≡ false
      → false ≡ connections_part (table_plan h routes joints) b
  unfolding connections_part table_plan
  pairing_fail n l z e =
      sym (all_fail (pair_test (table_plan h routes joints) b) (16 * h.actives) n l z.test e)

  pub pairing_done : (n : ℕ) {c : List ℕ} → Pairing (table_plan h routes joints) b n c → n ≡ 16 * h.actives
      → true ≡ connections_part (table_plan h routes joints) b
  unfolding connections_part table_plan
  pairing_done n x e = sym (all_done (pair_test (table_plan h routes joints) b) x.tests e)

-- ---- the bytes
-- those of a pair, by where the pairs begin
pub four_at_lem : (h : Head) (i n : ℕ) (b : List ℕ) {v : ℕ} → v ≡ four_at (i + 4 * n) b → i ≡ connections_from h
    → v ≡ four_at (connections_from h + 4 * n) b
four_at_lem h i n b e f = e ∙ ap (λ (k : ℕ). four_at (k + 4 * n) b) f

-- no byte is set: no connection is accepted
pub zeros_pass : {h : Head} {routes : List (List ℕ)} {joints homes : List ℕ} {lengths : List (List ℕ)} {b : List ℕ}
    → Given h routes joints homes lengths b → AreBytes b → {i : ℕ} → i ≡ connections_from h → {r : Bool}
    → r ≡ zeros i (64 * h.actives) b → r ≡ true
    → true ≡ connections_part (table_plan h routes joints) b
unfolding connections_part table_plan four_at
zeros_pass {h} {routes} {joints} {homes} {lengths} {b} given bytes {i} e f g =
    sym (all_of (16 * h.actives) (pair_test (table_plan h routes joints) b)
    (λ n l. empty_passes (table_plan h routes joints) b n (empty n l) bytes))
  where
    clear : (j : ℕ) → connections_from h ≤ j → j < connections_from h + 64 * h.actives → get_or b j 0 ≡ 0
    clear j l m = zeros_byte i (64 * h.actives) j b (sym f ∙ g) (omega arith) (omega arith)

    four : (j : ℕ) → connections_from h ≤ j → j + 4 ≤ connections_from h + 64 * h.actives → four_at j b ≡ 0
    four j l m =
        let p = clear j l (omega arith) in
        let q = clear (j + 1) (omega arith) (omega arith) in
        let s = clear (j + 2) (omega arith) (omega arith) in
        let t = clear (j + 3) (omega arith) (omega arith) in
        omega arith

    empty : (n : ℕ) → n < 16 * h.actives → four_at (starts_row (table_plan h routes joints) (n / 16) (n % 16)) b ≡ 0
    empty n l =
        ap (λ (k : ℕ). four_at k b) (sym (offset given n l))
        ∙ four (connections_from h + 4 * n) (omega arith) (omega arith)
