-- The ports of an interface one after the other, and those of all interfaces in one pass. Assumes nothing.
use mathlib.Core.Path.{◌≡◌, refl, sym, ap, ◌∙◌}
use mathlib.Core.Logic.{◌⊎◌, inl, inr}
use mathlib.Core.Bool.{Bool, true, false, ◌&&◌}
use mathlib.Core.List.{List, []}
use Prim.Native.Nat.{ℕ, suc, ◌+◌, ◌*◌, ◌-◌, ◌≤◌, ◌<◌}
use native.Mathlib.Omega.{arith}
use lib.Dec.{eqb, ltb}
use lib.ListN.{length, get_or, set, replicate, length-set, get_or-replicate}
use lib.Seq.{get_or-set_same, get_or-set_other}
use borrow.Author.Tests.{eqb-true, eqb-false, ne_eqb, lt-ltb, le-ltb}
use Rattle.std.proofs.Common.{Option, Some, None}
use Rattle.basis.specs.Choice.{pick, test, same_test}
use Rattle.basis.specs.Bounded.{all_below, all_at, all_of, all_same, lt_or_ge}
use Rattle.basis.specs.Fold.{up_to, fill, up_suc, up_none, up_keeps_at, up_same}
use Rattle.plan.specs.declared.Head.{Head}
use Rattle.plan.specs.declared.Ports.{Ports}
use Rattle.plan.specs.declared.Ports.TheVariants.{Missing, One, Several}
use Rattle.plan.specs.declared.Joint.{Joint}
use Rattle.plan.specs.Plan.{Plan, Interface, active, passive, joint_of}
use Rattle.plan.specs.Rules.{joint_of_port, leads_to, meet, ports_of, is_one, port_or0, interfaces_ok}
use Rattle.plan.specs.Tables.{joint_of_byte, table_plan, interface_at, homes_of}
use Rattle.plan.specs.Found.{column_of, mark_of, cell_of, port_of_cell, found_step, found_of}
use Rattle.plan.proofs.JointLaws.{port_joint, leads_same, leads_other, leads_column}

-- ---- options
pub some_same : {n m : ℕ} → ◌≡◌ {A = Option ℕ} (Some n) (Some m) → m ≡ n
some_same e = cc

pub some_not : {n : ℕ} → ◌≡◌ {A = Option ℕ} (Some n) None → ⊥
some_not e = let z : ◌≡◌ {A = ℕ} 0 1 = cc in omega arith

pub none_not : {n : ℕ} → ◌≡◌ {A = Option ℕ} None (Some n) → ⊥
none_not e = let z : ◌≡◌ {A = ℕ} 0 1 = cc in omega arith

-- ---- a port that is not met changes nothing
meet_miss : (i : ℕ) (t : Ports) → meet false i t ≡ t
meet_miss i Missing = refl
meet_miss i (One k) = refl
meet_miss i Several = refl

-- ---- the ports of an interface, step by step
unfoldable pub port_step : Plan → Interface → ℕ → Ports → Ports
port_step pl e i t = meet (leads_to e (joint_of_port pl i)) i t

module _ (h : Head) (js : List ℕ) where
  abbrev pl : Plan
  pl = table_plan h [] js

  pub ports_up : (e : Interface) → ports_of pl e ≡ up_to (port_step pl e) (4 * h.routers) Missing
  unfolding ports_of port_step table_plan
  ports_up e = refl

  port_step_lem : (e : Interface) (i : ℕ) (t : Ports)
      → port_step pl e i t ≡ meet (leads_to e (joint_of_byte (get_or js i 0))) i t
  unfolding port_step
  port_step_lem e i t = rw (port_joint h [] js i)

  -- by the joint: it is the interface's, or another
  pub port_met : (e : Interface) (i : ℕ) (t : Ports) {j : Joint} → j ≡ joint_of_byte (get_or js i 0) → j ≡ joint_of e
      → meet true i t ≡ port_step pl e i t
  port_met e i t known same = sym (port_step_lem e i t
      ∙ ap (λ (b : Bool). meet b i t) (leads_same e (joint_of_byte (get_or js i 0)) (sym known ∙ same)))

  pub port_passed : (e : Interface) (i : ℕ) (t : Ports) {j : Joint} → j ≡ joint_of_byte (get_or js i 0)
      → (j ≡ joint_of e → ⊥) → t ≡ port_step pl e i t
  port_passed e i t known other = sym (port_step_lem e i t
      ∙ ap (λ (b : Bool). meet b i t)
      (leads_other e (joint_of_byte (get_or js i 0)) (λ q. other (known ∙ q)))
      ∙ meet_miss i t)

  -- a port found is one of those passed
  small_step : (b : Bool) (i : ℕ) (t : Ports) → port_or0 t ≤ i - 1 → port_or0 (meet b i t) ≤ i
  small_step true i Missing l = omega arith
  small_step false i Missing l = omega arith
  small_step true i (One k) l = omega arith
  small_step false i (One k) l = omega arith
  small_step true i Several l = omega arith
  small_step false i Several l = omega arith

  small : (e : Interface) (n : ℕ) → port_or0 (up_to (port_step pl e) n Missing) ≤ n - 1
  unfolding port_step
  small e n =
      up_keeps_at (λ i t. port_or0 t ≤ i - 1) (port_step pl e) n Missing
      (λ i t l k. omega (arith, small_step (leads_to e (joint_of_port pl i)) i t k)) (omega arith)

  module _ (few : h.routers ≤ 16) (act : h.actives ≤ 16) (pas : h.passives ≤ 16) where
    -- an interface's port is below 64
    pub port_small : (e : Interface) → port_or0 (ports_of pl e) < 64
    port_small e = rw (ports_up e) (omega (arith, small e (4 * h.routers)))

    -- ---- one pass: each column's cell is that of the interface's ports so far
    mark_cell : (i : ℕ) (t : Ports) → port_or0 t < 64 → mark_of (cell_of t) i ≡ cell_of (meet true i t)
    unfolding mark_of
    mark_cell i Missing l = refl
    mark_cell i (One k) l = rw (ne_eqb k 64 (λ e. omega arith))
    mark_cell i Several l = refl

    abbrev Cells : ℕ → List ℕ → Type 0
    Cells i t = (length t ≡ 32) × ((d : ℕ) → d < h.actives + h.passives → get_or t d 0
        ≡ cell_of (up_to (port_step pl (interface_at h d)) i Missing))

    cells_step : (i : ℕ) (t : List ℕ) → i < 4 * h.routers → Cells i t
        → Cells (suc i) (found_step h.actives h.passives js i t)
    unfolding found_step
    cells_step i t l (len, cells) = by (lt_or_ge c 32)
      where
        c : ℕ
        c = column_of h.actives h.passives (get_or js i 0)

        x : ℕ
        x = mark_of (get_or t c 0) i

        next : (d : ℕ) (m : d < h.actives + h.passives) (b : Bool) → eqb d c ≡ b
            → up_to (port_step pl (interface_at h d)) (suc i) Missing
            ≡ meet b i (up_to (port_step pl (interface_at h d)) i Missing)
        next d m b e =
            up_suc (port_step pl (interface_at h d)) i Missing
            ∙ port_step_lem (interface_at h d) i (up_to (port_step pl (interface_at h d)) i Missing)
            ∙ ap (λ (b : Bool). meet b i (up_to (port_step pl (interface_at h d)) i Missing))
            (leads_column h act pas d m (get_or js i 0) ∙ e)

        miss_cell : (d : ℕ) (m : d < h.actives + h.passives) → eqb d c ≡ false
            → get_or t d 0 ≡ cell_of (up_to (port_step pl (interface_at h d)) (suc i) Missing)
        miss_cell d m e =
            rw (next d m false e)
            (cells d m ∙ ap cell_of (sym (meet_miss i (up_to (port_step pl (interface_at h d)) i Missing))))

        at : c < 32 → (d : ℕ) (m : d < h.actives + h.passives) → (eqb d c ≡ true) ⊎ (eqb d c ≡ false)
            → get_or (set t c x) d 0 ≡ cell_of (up_to (port_step pl (interface_at h d)) (suc i) Missing)
        at k d m (inl e) =
            let q : d ≡ c = eqb-true d c e in
            ap (λ (k : ℕ). get_or (set t c x) k 0) q
            ∙ get_or-set_same t c x 0 (rw len k)
            ∙ ap (λ (k : ℕ). mark_of k i) (ap (λ (k : ℕ). get_or t k 0) (sym q) ∙ cells d m)
            ∙ mark_cell i (up_to (port_step pl (interface_at h d)) i Missing)
            (omega (arith, small (interface_at h d) i))
            ∙ ap cell_of (sym (next d m true e))
        at k d m (inr e) = get_or-set_other t c d x 0 (eqb-false d c e) ∙ miss_cell d m e

        by : (c < 32) ⊎ (32 ≤ c) → Cells (suc i) (pick (ltb c 32) (set t c x) t)
        by (inl k) = rw (lt-ltb c 32 k) (length-set t c x ∙ len, λ d m. at k d m (test (eqb d c)))
        by (inr k) = rw (le-ltb c 32 k) (len, λ d m. miss_cell d m (ne_eqb d c (λ q. omega arith)))

    pub found_at : (d : ℕ) → d < h.actives + h.passives
        → get_or (found_of h js) d 0 ≡ cell_of (ports_of pl (interface_at h d))
    unfolding found_of
    found_at d l = rw (ports_up (interface_at h d)) (all.1 d l)
      where
        all : Cells (4 * h.routers)
            (up_to (found_step h.actives h.passives js) (4 * h.routers) (replicate 32 64))
        all =
            up_keeps_at Cells (found_step h.actives h.passives js) (4 * h.routers) (replicate 32 64)
            (λ i t k p. cells_step i t k p) (
              refl,
              λ d m. get_or-replicate 32 d 64 0 (omega arith)
                  ∙ ap cell_of (up_none (port_step pl (interface_at h d)) Missing),
            )

    -- ---- what the cells tell
    one_cell : (t : Ports) → port_or0 t < 64 → ltb (cell_of t) 64 ≡ is_one t
    one_cell Missing l = refl
    one_cell (One k) l = lt-ltb k 64 l
    one_cell Several l = refl

    port_cell : (t : Ports) → port_or0 t < 64 → port_of_cell (cell_of t) ≡ port_or0 t
    unfolding port_of_cell
    port_cell Missing l = refl
    port_cell (One k) l = rw (lt-ltb k 64 l)
    port_cell Several l = refl

    both : (a b : Bool) → (a && b) ≡ true → (a ≡ true) × (b ≡ true)
    both true b e = (refl, e)
    both false b e = absurd (let z : ◌≡◌ {A = ℕ} 0 1 = cc in omega arith)

    -- the interfaces by column are the actives and the passives
    abbrev Joined : ℕ → Bool
    Joined d = is_one (ports_of pl (interface_at h d))

    columns : all_below (h.actives + h.passives) Joined ≡ interfaces_ok pl
    unfolding interfaces_ok table_plan
    columns = same_test (all_below (h.actives + h.passives) Joined) (interfaces_ok pl) to from
      where
        to : all_below (h.actives + h.passives) Joined ≡ true → interfaces_ok pl ≡ true
        to e =
            rw (
              all_of h.actives (λ a. is_one (ports_of pl (active a)))
                  (λ a l.
                  rw (lt-ltb a h.actives l) at (all_at (h.actives + h.passives) Joined e a (omega arith))),
              all_of h.passives (λ p. is_one (ports_of pl (passive p))) (λ p l. last p l),
            )
          where
            last : (p : ℕ) → p < h.passives → is_one (ports_of pl (passive p)) ≡ true
            last p l =
                let q : h.actives + p - h.actives ≡ p = omega arith in
                rw (le-ltb (h.actives + p) h.actives (omega arith), q) at (all_at (h.actives + h.passives) Joined
                e (h.actives + p) (omega arith))

        from : interfaces_ok pl ≡ true → all_below (h.actives + h.passives) Joined ≡ true
        from e = all_of (h.actives + h.passives) Joined (λ d l. at d l (lt_or_ge d h.actives))
          where
            parts : (all_below h.actives (λ a. is_one (ports_of pl (active a))) ≡ true)
                × (all_below h.passives (λ p. is_one (ports_of pl (passive p))) ≡ true)
            parts = both _ _ e

            at : (d : ℕ) → d < h.actives + h.passives → (d < h.actives) ⊎ (h.actives ≤ d) → Joined d ≡ true
            at d l (inl m) =
                rw (lt-ltb d h.actives m) (all_at h.actives (λ a. is_one (ports_of pl (active a))) parts.0 d m)
            at d l (inr m) = rw (le-ltb d h.actives m)
                (all_at h.passives (λ p. is_one (ports_of pl (passive p))) parts.1 (d - h.actives) (omega arith))

    pub found_ok : (t : List ℕ) → t ≡ found_of h js
        → all_below (h.actives + h.passives) (λ d. ltb (get_or t d 0) 64) ≡ interfaces_ok pl
    found_ok t e =
        rw e
        (all_same (h.actives + h.passives) (λ d. ltb (get_or (found_of h js) d 0) 64) Joined
        (λ d l. rw (found_at d l) (one_cell (ports_of pl (interface_at h d)) (port_small (interface_at h d))))
        ∙ columns)

    pub found_homes : (t : List ℕ) → t ≡ found_of h js
        → up_to (fill (λ d. port_of_cell (get_or t d 0))) (h.actives + h.passives) (replicate 32 0) ≡ homes_of pl
    unfolding homes_of table_plan
    found_homes t e =
        rw e
        (up_same (fill (λ d. port_of_cell (get_or (found_of h js) d 0)))
        (fill (λ d. port_or0 (ports_of pl (interface_at h d)))) (h.actives + h.passives) (replicate 32 0)
        (λ d s l.
        ap (set s d) (rw (found_at d l) (port_cell (ports_of pl (interface_at h d)) (port_small (interface_at h d))))))
