-- The tables that Load builds of a plan's bytes: their entries are the bytes' fields, their test is refusal 4's, and
-- the plan that they give is the bytes' plan.
use mathlib.Core.Path.{◌≡◌, refl, sym, ap, ap₂, fun_ext, ◌∙◌}
use mathlib.Core.Logic.{◌⊎◌, inl, inr}
use mathlib.Core.Bool.{Bool, true, false, ◌&&◌}
use mathlib.Core.List.{List, []}
use Prim.Native.Nat.{ℕ, zero, suc, ◌+◌, ◌*◌, ◌/◌, ◌%◌, ◌<◌}
use native.Mathlib.Omega.{arith}
use lib.Dec.{ltb}
use lib.ListN.{get_or, replicate}
use borrow.Author.Tests.{ltb-true, ltb-false}
use Rattle.basis.specs.Choice.{pick, pick_same, test}
use Rattle.basis.specs.Bounded.{all_below, all_same}
use Rattle.basis.specs.Fold.{fill_at, fill_past}
use Rattle.fields.specs.Bits.{field_of}
use Rattle.plan.specs.declared.Head.{Head}
use Rattle.plan.specs.declared.Joint.{Joint}
use Rattle.plan.specs.declared.Joint.TheVariants.{Nothing, Router, Active, Passive}
use Rattle.plan.specs.Head.{InRange, head_of, destinations, routes_at}
use Rattle.plan.specs.Plan.{no_side, joint_at, route_at, joint_from, joint_in, plan_of}
use Rattle.plan.specs.Rules.{joint_ok, route_ok, joint_there, route_there, fields_ok, joint_of_port, back_ok, named_ok}
use Rattle.plan.specs.Rules.{ports_of}
use Rattle.plan.specs.Rules.{interfaces_ok}
use Rattle.plan.specs.Tables.{joint_byte, joint_of_byte, joint_byte_ok, joints_of, row_of, routes_of, table_plan}
use Rattle.plan.specs.Tables.{joint_bytes_ok}
use Rattle.plan.specs.Tables.{row_ok, routes_ok}
use Rattle.plan_facts.proofs.Heads.{counts_most}
use Rattle.fields.specs.Laws.{field_lt}

-- ---- entries of the tables
-- Every entry of a list of one value is that value, also past its end where that is what is read there.
pub replicate_at : {A : Type 0} (n : ℕ) (a : A) (i : ℕ) → get_or (replicate n a) i a ≡ a
replicate_at zero a i = refl
replicate_at (suc n) a zero = refl
replicate_at (suc n) a (suc i) = replicate_at n a i

-- Every entry of every row is the one value, also past the rows.
pub replicate_row : {A : Type 0} (m n : ℕ) (a : A) (r d : ℕ) → get_or (get_or (replicate m (replicate n a)) r []) d a ≡
    a
replicate_row zero n a r d = refl
replicate_row (suc m) n a zero d = replicate_at n a d
replicate_row (suc m) n a (suc r) d = replicate_row m n a r d

-- A byte of a kind, a four-bit number and a two-bit side gives them back.
pub byte_parts : (k n s : ℕ) → n < 16 → s < 4
    → ((k * 64 + n * 4 + s) / 64 ≡ k) × ((k * 64 + n * 4 + s) / 4 % 16 ≡ n) × ((k * 64 + n * 4 + s) % 4 ≡ s)
byte_parts k n s l m = (omega arith, omega arith, omega arith)

-- A joint's byte gives back the fields it was made of, to whoever takes the three.
pub joint_parts : {A : Type 0} (b : List ℕ) (i : ℕ) (f : ℕ → ℕ → ℕ → A)
    → f (joint_byte b i / 64) (joint_byte b i / 4 % 16) (joint_byte b i % 4)
    ≡ f (field_of b (45 + 8 * i) 2) (field_of b (45 + 8 * i + 2) 4) (field_of b (45 + 8 * i + 6) 2)
unfolding joint_byte
joint_parts b i f =
    let p = byte_parts (field_of b (45 + 8 * i) 2) (field_of b (45 + 8 * i + 2) 4) (field_of b (45 + 8 * i + 6) 2)
    (field_lt b (45 + 8 * i + 2) 4) (field_lt b (45 + 8 * i + 6) 2) in
    rw (p.0, p.1, p.2)

-- The joint of a joint's byte is the joint that the bits give.
pub joint_of_byte_lem : (b : List ℕ) (i : ℕ) → joint_of_byte (joint_byte b i) ≡ joint_in b (45 + 8 * i)
unfolding joint_of_byte joint_in
joint_of_byte_lem b i = joint_parts b i joint_from

module _ (b : List ℕ) (range : InRange (head_of b)) where
  -- The joints' table holds the byte of each of the plan's ports.
  pub joints_at : (i : ℕ) → i < 4 * (head_of b).routers → get_or (joints_of b (head_of b)) i 0 ≡ joint_byte b i
  unfolding joints_of
  joints_at i l = fill_at (joint_byte b) (4 * (head_of b).routers) (replicate 64 0) i 0 l (omega arith)

  -- The routes' table holds each of the plan's routes.
  pub routes_at_lem : (r d : ℕ) → r < (head_of b).routers → d < destinations (head_of b)
      → get_or (get_or (routes_of b (head_of b)) r []) d no_side ≡ field_of b (route_at (head_of b) r d) 3
  unfolding routes_of row_of
  routes_at_lem r d l m =
      let h : Head = head_of b in
      let most = counts_most h range in
      let at : ℕ = routes_at h + 3 * (destinations h * r) in
      let here : at + 3 * d ≡ route_at h r d = omega arith in
      let row = fill_at (λ q. row_of b (destinations h) (routes_at h + 3 * (destinations h * q))) h.routers
      (replicate 16 (replicate 32 no_side)) r [] l (omega arith) in
      let entry = fill_at (λ c. field_of b (at + 3 * c) 3) (destinations h) (replicate 32 no_side) d no_side m
      (omega arith) in
      ap (λ (x : List ℕ). get_or x d no_side) row ∙ entry ∙ ap (λ (p : ℕ). field_of b p 3) here

  -- ---- refusal 4 over the tables
  -- The tables pass their test where the bytes' later fields pass theirs.
  pub tables_ok : (joint_bytes_ok (head_of b) (joints_of b (head_of b)) && routes_ok (head_of b)
      (routes_of b (head_of b)))
      ≡ fields_ok b
  unfolding fields_ok joint_bytes_ok joint_byte_ok routes_ok row_ok
  tables_ok =
      ap₂ (λ (x y : Bool). x && y)
      (all_same (4 * (head_of b).routers) (λ i. joint_byte_ok (head_of b) (get_or (joints_of b (head_of b)) i 0))
      (λ i. joint_there b (45 + 8 * i)) joint')
      (all_same (head_of b).routers (λ r. row_ok (get_or (routes_of b (head_of b)) r []) (destinations (head_of b)))
      (λ r. all_below (destinations (head_of b)) (route_there b r)) row')
    where
      joint' : (i : ℕ) → i < 4 * (head_of b).routers
          → joint_byte_ok (head_of b) (get_or (joints_of b (head_of b)) i 0) ≡ joint_there b (45 + 8 * i)
      joint' i l = ap (joint_byte_ok (head_of b)) (joints_at i l) ∙ joint_parts b i (joint_ok (head_of b))

      row' : (r : ℕ) → r < (head_of b).routers → row_ok (get_or (routes_of b (head_of b)) r [])
          (destinations (head_of b))
          ≡ all_below (destinations (head_of b)) (route_there b r)
      row' r l = all_same (destinations (head_of b)) (λ d. route_ok
          (get_or (get_or (routes_of b (head_of b)) r []) d no_side))
          (route_there b r) (λ d m. ap route_ok (routes_at_lem r d l m))

  -- ---- the plan of the tables
  -- A side's joint in the joints' table is the plan's, also where nothing is joined.
  pub table_joint : (r s : ℕ) → (table_plan (head_of b) (routes_of b (head_of b)) (joints_of b (head_of b))).joint r s
      ≡ (plan_of b).joint r s
  unfolding table_plan plan_of joints_of joint_of_byte
  table_joint r s = by (test (ltb s 4)) (test (ltb r (head_of b).routers))
    where
      by : (ltb s 4 ≡ true) ⊎ (ltb s 4 ≡ false)
          → (ltb r (head_of b).routers ≡ true) ⊎ (ltb r (head_of b).routers ≡ false)
          → pick (ltb s 4) (joint_of_byte (get_or (joints_of b (head_of b)) (4 * r + s) 0)) Nothing
          ≡ pick (ltb r (head_of b).routers) (pick (ltb s 4) (joint_in b (joint_at r s)) Nothing) Nothing
      by (inl e) (inl f) =
          let l = ltb-true s 4 e in
          let m = ltb-true r (head_of b).routers f in
          let here : 45 + 8 * (4 * r + s) ≡ joint_at r s = omega arith in
          rw (e, f) (ap joint_of_byte (joints_at (4 * r + s) (omega arith)) ∙ joint_of_byte_lem b (4 * r + s)
          ∙ ap (joint_in b) here)
      by (inl e) (inr f) =
          let m = ltb-false r (head_of b).routers f in
          rw (e, f) (ap joint_of_byte (fill_past (joint_byte b) (4 * (head_of b).routers) (replicate 64 0) (4 * r + s) 0
          (omega arith) ∙ replicate_at 64 0 (4 * r + s)))
      by (inr e) c = rw e (sym (pick_same (ltb r (head_of b).routers) Nothing))

  -- A route in the routes' table is the plan's, also where no side is given.
  pub table_route : (r d : ℕ) → (table_plan (head_of b) (routes_of b (head_of b)) (joints_of b (head_of b))).route r d
      ≡ (plan_of b).route r d
  unfolding table_plan plan_of routes_of row_of
  table_route r d = by (test (ltb r (head_of b).routers)) (test (ltb d (destinations (head_of b))))
    where
      by : (ltb r (head_of b).routers ≡ true) ⊎ (ltb r (head_of b).routers ≡ false)
          → (ltb d (destinations (head_of b)) ≡ true) ⊎ (ltb d (destinations (head_of b)) ≡ false)
          → get_or (get_or (routes_of b (head_of b)) r []) d no_side
          ≡ pick (ltb r (head_of b).routers)
          (pick (ltb d (destinations (head_of b))) (field_of b (route_at (head_of b) r d) 3) no_side) no_side
      by (inl e) (inl f) =
          rw (e, f) (routes_at_lem r d (ltb-true r (head_of b).routers e) (ltb-true d (destinations (head_of b)) f))
      by (inl e) (inr f) =
          let h : Head = head_of b in
          let l = ltb-true r h.routers e in
          let m = ltb-false d (destinations h) f in
          let at : ℕ = routes_at h + 3 * (destinations h * r) in
          let row = fill_at (λ q. row_of b (destinations h) (routes_at h + 3 * (destinations h * q))) h.routers
          (replicate 16 (replicate 32 no_side)) r [] l (omega arith) in
          rw (e, f) (ap (λ (x : List ℕ). get_or x d no_side) row
          ∙ fill_past (λ c. field_of b (at + 3 * c) 3) (destinations h) (replicate 32 no_side) d no_side m
          ∙ replicate_at 32 no_side d)
      by (inr f) c =
          let h : Head = head_of b in
          let m = ltb-false r h.routers f in
          let row = fill_past (λ q. row_of b (destinations h) (routes_at h + 3 * (destinations h * q))) h.routers
          (replicate 16 (replicate 32 no_side)) r [] m in
          rw f (ap (λ (x : List ℕ). get_or x d no_side) row ∙ replicate_row 16 32 no_side r d)

  -- The plan that the tables give is the plan that the bytes give.
  pub table_plan_lem : table_plan (head_of b) (routes_of b (head_of b)) (joints_of b (head_of b)) ≡ plan_of b
  unfolding table_plan plan_of
  table_plan_lem =
      ap₂ (λ (j : ℕ → ℕ → Joint) (t : ℕ → ℕ → ℕ). record { head = head_of b; joint = j; route = t })
      (fun_ext (λ r. fun_ext (λ s. table_joint r s))) (fun_ext (λ r. fun_ext (λ d. table_route r d)))

-- ---- what does not depend on the routes
module _ (h : Head) (routes other : List (List ℕ)) (joints : List ℕ) where
  -- Whether router joints are named back does not depend on the routes.
  pub named_alike : named_ok (table_plan h routes joints) ≡ named_ok (table_plan h other joints)
  unfolding named_ok table_plan
  named_alike =
      all_same (4 * h.routers) (λ i. back_ok (table_plan h routes joints) i
      (joint_of_port (table_plan h routes joints) i))
      (λ i. back_ok (table_plan h other joints) i (joint_of_port (table_plan h other joints) i))
      (λ i l. alike i (joint_of_port (table_plan h routes joints) i))
    where
      alike : (i : ℕ) (j : Joint) → back_ok (table_plan h routes joints) i j ≡ back_ok (table_plan h other joints) i j
      alike i Nothing = refl
      alike i (Router n t) = refl
      alike i (Active n) = refl
      alike i (Passive n) = refl

  -- Whether each interface has one port does not depend on the routes.
  pub interfaces_alike : interfaces_ok (table_plan h routes joints) ≡ interfaces_ok (table_plan h other joints)
  unfolding interfaces_ok ports_of table_plan
  interfaces_alike = refl
