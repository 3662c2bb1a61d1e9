-- Refusal 5: the tests of the joints are document 01's rules.
use mathlib.Core.Path.{◌≡◌, refl, sym, ap, ap₂, ◌∙◌}
use mathlib.Core.Logic.{◌⊎◌, inl, inr, ◌≢◌}
use mathlib.Core.Bool.{Bool, true, false, false≢true}
use Prim.Native.Nat.{ℕ, suc, ◌+◌, ◌*◌, ◌/◌, ◌%◌, ◌<◌}
use native.Mathlib.Omega.{arith}
use lib.Dec.{eqb}
use borrow.Author.Tests.{eqb-true, eqb-false, eq-eqb, ne_eqb, not-true}
use Rattle.basis.specs.Choice.{test, not_both}
use Rattle.basis.specs.Bounded.{all_below, all_at, all_of, below_suc}
use Rattle.basis.specs.Fold.{up_to, up_keeps_at}
use Rattle.plan.specs.declared.Joint.{Joint}
use Rattle.plan.specs.declared.Joint.TheVariants.{Nothing, Router, Active, Passive}
use Rattle.plan.specs.declared.Ports.{Ports}
use Rattle.plan.specs.declared.Ports.TheVariants.{Missing, One, Several}
use Rattle.plan.specs.Plan.{Plan, Port, Interface, active, passive, R, A, P, Has, joint_of}
use Rattle.plan.specs.Rules.{NamedBack, JoinedAt, JointsMatch, port_of, joint_of_port, is_router_at, back_ok, named_ok}
use Rattle.plan.specs.Rules.{leads_to, meet, ports_of, is_one, port_or0, home, interfaces_ok}
use Rattle.plan_facts.proofs.Heads.{and_both, and_of}

-- ---- a joint by itself
-- A joint to a router is not nothing.
pub router_some : {n t : ℕ} → Router n t ≡ Nothing → ⊥
router_some e = let z : ◌≡◌ {A = ℕ} 0 1 = cc in omega arith

-- A joint to an interface is not nothing.
pub interface_some : (e : Interface) → joint_of e ≡ Nothing → ⊥
interface_some (active a) q = let z : ◌≡◌ {A = ℕ} 0 1 = cc in omega arith
interface_some (passive p) q = let z : ◌≡◌ {A = ℕ} 0 1 = cc in omega arith

-- A joint to a router leads to no interface.
pub router_else : (e : Interface) {n t : ℕ} → Router n t ≡ joint_of e → ⊥
router_else (active a) q = let z : ◌≡◌ {A = ℕ} 0 1 = cc in omega arith
router_else (passive p) q = let z : ◌≡◌ {A = ℕ} 0 1 = cc in omega arith

-- Two interfaces with one joint are the same.
pub interface_same : (d e : Interface) → joint_of d ≡ joint_of e → d ≡ e
interface_same (active a) (active c) q = cc
interface_same (active a) (passive p) q = cc
interface_same (passive p) (active a) q = cc
interface_same (passive p) (passive o) q = cc

-- A joint that passes the test of leading to an interface is that interface's joint.
pub leads_true : (e : Interface) (j : Joint) → leads_to e j ≡ true → j ≡ joint_of e
leads_true e Nothing t = absurd (false≢true t)
leads_true e (Router n s) t = absurd (false≢true t)
leads_true (active a) (Active n) t = ap Active (eqb-true n a t)
leads_true (passive p) (Active n) t = absurd (false≢true t)
leads_true (active a) (Passive n) t = absurd (false≢true t)
leads_true (passive p) (Passive n) t = ap Passive (eqb-true n p t)

-- An interface's joint passes the test of leading there.
pub leads_of : (e : Interface) (j : Joint) → j ≡ joint_of e → leads_to e j ≡ true
leads_of e j q = rw q (here e)
  where
    here : (d : Interface) → leads_to d (joint_of d) ≡ true
    here (active a) = eq-eqb a a refl
    here (passive p) = eq-eqb p p refl

-- A joint that passes the test of leading to a port is a router joint to it.
pub router_true : (i : ℕ) (j : Joint) → is_router_at i j ≡ true → (n : ℕ) × (t : ℕ) × (j ≡ Router n t) × (4 * n + t ≡ i)
router_true i Nothing e = absurd (false≢true e)
router_true i (Router n t) e = (n, t, refl, eqb-true (4 * n + t) i e)
router_true i (Active n) e = absurd (false≢true e)
router_true i (Passive n) e = absurd (false≢true e)

-- ---- the scan for ports that pass a test
-- What is known after n ports: none passes; one alone does; or two different ones do.
abbrev pub Seen : (ℕ → Bool) → ℕ → Ports → Type 0
Seen f n Missing = (i : ℕ) → i < n → f i ≡ false
Seen f n (One k) = (k < n) × (f k ≡ true) × ((i : ℕ) → i < n → f i ≡ true → i ≡ k)
Seen f n Several = (i : ℕ) × (k : ℕ) × (i < n) × (k < n) × (i ≢ k) × (f i ≡ true) × (f k ≡ true)

-- One more port keeps what is known.
pub seen_more : (f : ℕ → Bool) (n : ℕ) (t : Ports) → Seen f n t → Seen f (suc n) (meet (f n) n t)
seen_more f n t s = by t s (test (f n))
  where
    none : ((i : ℕ) → i < n → f i ≡ false) → f n ≡ false → (i : ℕ) → (i < n) ⊎ (i ≡ n) → f i ≡ false
    none k e i (inl l) = k i l
    none k e i (inr q) = rw q e

    first : ((i : ℕ) → i < n → f i ≡ false) → (i : ℕ) → f i ≡ true → (i < n) ⊎ (i ≡ n) → i ≡ n
    first k i e (inl l) = absurd (not_both e (k i l))
    first k i e (inr q) = q

    same : (k : ℕ) → ((i : ℕ) → i < n → f i ≡ true → i ≡ k) → f n ≡ false → (i : ℕ) → f i ≡ true → (i < n) ⊎ (i ≡ n)
        → i ≡ k
    same k h e i t (inl l) = h i l t
    same k h e i t (inr q) = absurd (not_both t (rw q e))

    by : (u : Ports) → Seen f n u → (f n ≡ true) ⊎ (f n ≡ false) → Seen f (suc n) (meet (f n) n u)
    by Missing k (inl e) = rw e (omega arith, e, λ i l q. first k i q (below_suc l))
    by Missing k (inr e) = rw e (λ i l. none k e i (below_suc l))
    by (One k) (l, p, h) (inl e) = rw e (k, n, omega arith, omega arith, (λ q. omega arith), p, e)
    by (One k) (l, p, h) (inr e) = rw e (omega arith, p, λ i m q. same k h e i q (below_suc m))
    by Several (i, k, l, m, d, p, q) c = (i, k, omega arith, omega arith, d, p, q)

-- What is known after the whole scan.
pub seen : (f : ℕ → Bool) (n : ℕ) → Seen f n (up_to (λ i t. meet (f i) i t) n Missing)
seen f n =
    up_keeps_at (Seen f) (λ i t. meet (f i) i t) n Missing (λ i t l s. seen_more f i t s) (λ i l. absurd (omega arith))

-- ---- the tests of a plan whose joints stand inside it, at the sides 0 to 3
-- Nothing is joined outside the plan's routers and their four sides.
abbrev pub Inside : Plan → Type 0
Inside pl = (r s : ℕ) → (pl.joint r s ≡ Nothing → ⊥) → (r < R pl) × (s < 4)

-- A router joint names one of its partner's four sides.
abbrev pub Sided : Plan → Type 0
Sided pl = (r s n t : ℕ) → pl.joint r s ≡ Router n t → t < 4

-- The joint of the port numbered by a router and one of its sides is that side's joint.
pub port_joint : (pl : Plan) (r s : ℕ) → s < 4 → joint_of_port pl (4 * r + s) ≡ pl.joint r s
port_joint pl r s l =
    let at-r : (4 * r + s) / 4 ≡ r = omega arith in
    let at-s : (4 * r + s) % 4 ≡ s = omega arith in
    ap₂ pl.joint at-r at-s

-- Router joints that pass the test are named back.
pub named_ok_lem : (pl : Plan) → Inside pl → Sided pl → named_ok pl ≡ true → NamedBack pl
unfolding named_ok
named_ok_lem pl inside sided e r s n t j =
    let within = inside r s (λ q. router_some (sym j ∙ q)) in
    let i : ℕ = 4 * r + s in
    let at-r : i / 4 ≡ r = omega arith in
    let passes = all_at (4 * R pl) (λ k. back_ok pl k (joint_of_port pl k)) e i (omega arith) in
    let parts = and_both (ap (back_ok pl i) (sym (port_joint pl r s within.1 ∙ j)) ∙ passes) in
    let other = eqb-false n (i / 4) (not-true (eqb n (i / 4)) parts.0) in
    ((λ q. other (q ∙ sym at-r)), by (router_true (4 * r + s) (pl.joint n t) parts.1))
  where
    by : (m : ℕ) × (u : ℕ) × (pl.joint n t ≡ Router m u) × (4 * m + u ≡ 4 * r + s) → pl.joint n t ≡ Router r s
    by (m, u, q, same) =
        let l = sided n t m u q in
        let k = inside r s (λ z. router_some (sym j ∙ z)) in
        let er : m ≡ r = omega arith in
        let es : u ≡ s = omega arith in
        cc

-- Router joints that are named back pass the test.
pub ok_named : (pl : Plan) → NamedBack pl → named_ok pl ≡ true
unfolding named_ok
ok_named pl named = all_of (4 * R pl) (λ i. back_ok pl i (joint_of_port pl i)) (λ i l. by i (joint_of_port pl i) refl)
  where
    by : (i : ℕ) (j : Joint) → joint_of_port pl i ≡ j → back_ok pl i j ≡ true
    by i Nothing q = refl
    by i (Router n t) q =
        let b = named (i / 4) (i % 4) n t q in
        let here : 4 * (i / 4) + i % 4 ≡ i = omega arith in
        rw (ne_eqb n (i / 4) b.0, b.1) (eq-eqb (4 * (i / 4) + i % 4) i here)
    by i (Active n) q = refl
    by i (Passive n) q = refl

-- What the scan for an interface's ports tells.
pub ports_seen : (pl : Plan) (e : Interface) → Seen (λ i. leads_to e (joint_of_port pl i)) (4 * R pl) (ports_of pl e)
unfolding ports_of
ports_seen pl e = seen (λ i. leads_to e (joint_of_port pl i)) (4 * R pl)

-- An interface whose scan found one port is joined there and nowhere else.
pub ports_one : (pl : Plan) (e : Interface) (i : ℕ) → Inside pl → ports_of pl e ≡ One i → JoinedAt pl e (port_of i)
ports_one pl e i inside q = by (rw q at (ports_seen pl e))
  where
    by : Seen (λ k. leads_to e (joint_of_port pl k)) (4 * R pl) (One i) → JoinedAt pl e (port_of i)
    by (l, t, h) = record { there = leads_true e (joint_of_port pl i) t; only = only' }
      where
        only' : (r s : ℕ) → pl.joint r s ≡ joint_of e → (r ≡ i / 4) × (s ≡ i % 4)
        only' r s j =
            let within = inside r s (λ z. interface_some e (sym j ∙ z)) in
            let leads = leads_of e (joint_of_port pl (4 * r + s)) (port_joint pl r s within.1 ∙ j) in
            let same : 4 * r + s ≡ i = h (4 * r + s) (omega arith) leads in
            (omega arith, omega arith)

-- The scan of an interface joined at one port alone finds that port.
pub one_ports : (pl : Plan) (e : Interface) (x : Port) → Inside pl → JoinedAt pl e x
    → ports_of pl e ≡ One (4 * x.router + x.side)
one_ports pl e x inside j = by (ports_of pl e) (ports_seen pl e)
  where
    is_x : (i : ℕ) → leads_to e (joint_of_port pl i) ≡ true → i ≡ 4 * x.router + x.side
    is_x i t = let o = j.only (i / 4) (i % 4) (leads_true e (joint_of_port pl i) t) in omega arith

    by : (t : Ports) → Seen (λ i. leads_to e (joint_of_port pl i)) (4 * R pl) t → t ≡ One (4 * x.router + x.side)
    by Missing none =
        let within = inside x.router x.side (λ z. interface_some e (sym j.there ∙ z)) in
        let i : ℕ = 4 * x.router + x.side in
        let leads = leads_of e (joint_of_port pl i) (port_joint pl x.router x.side within.1 ∙ j.there) in
        absurd (not_both leads (none i (omega arith)))
    by (One k) (l, t, h) = ap One (is_x k t)
    by Several (i, k, l, m, d, p, q) = absurd (d (is_x i p ∙ sym (is_x k q)))

-- ---- interfaces
-- Each of the plan's interfaces has one port where the test of the interfaces passes.
pub interfaces_at : (pl : Plan) → interfaces_ok pl ≡ true → (e : Interface) → Has pl e → is_one (ports_of pl e) ≡ true
unfolding interfaces_ok
interfaces_at pl t e h = by (and_both t) e h
  where
    by : (all_below (A pl) (λ a. is_one (ports_of pl (active a))) ≡ true)
        × (all_below (P pl) (λ p. is_one (ports_of pl (passive p))) ≡ true)
        → (d : Interface) → Has pl d → is_one (ports_of pl d) ≡ true
    by (x, y) (active a) l = all_at (A pl) (λ c. is_one (ports_of pl (active c))) x a l
    by (x, y) (passive p) l = all_at (P pl) (λ c. is_one (ports_of pl (passive c))) y p l

-- The test of the interfaces passes where each of the plan's interfaces has one port.
pub interfaces_of : (pl : Plan) → ((e : Interface) → Has pl e → is_one (ports_of pl e) ≡ true) → interfaces_ok pl ≡ true
unfolding interfaces_ok
interfaces_of pl k =
    and_of (all_of (A pl) (λ a. is_one (ports_of pl (active a))) (λ a l. k (active a) l))
    (all_of (P pl) (λ p. is_one (ports_of pl (passive p))) (λ p l. k (passive p) l))

-- Each of the plan's interfaces is joined at its home alone where the test of the interfaces passes.
pub interfaces_ok_lem : (pl : Plan) → Inside pl → interfaces_ok pl ≡ true → (e : Interface) → Has pl e
    → JoinedAt pl e (home pl e)
unfolding home
interfaces_ok_lem pl inside t e h = by (ports_of pl e) refl (interfaces_at pl t e h)
  where
    by : (p : Ports) → ports_of pl e ≡ p → is_one p ≡ true → JoinedAt pl e (port_of (port_or0 (ports_of pl e)))
    by Missing q o = absurd (false≢true o)
    by (One i) q o = rw q (ports_one pl e i inside q)
    by Several q o = absurd (false≢true o)

-- The test of the interfaces passes where each of the plan's interfaces is joined at some port alone.
pub ok_interfaces : (pl : Plan) → Inside pl → ((e : Interface) → Has pl e → (x : Port) × JoinedAt pl e x)
    → interfaces_ok pl ≡ true
ok_interfaces pl inside k =
    interfaces_of pl (λ e h. let at = k e h in ap is_one (one_ports pl e at.0 inside at.1))

-- Joints that pass both tests match.
pub joints_ok : (pl : Plan) → Inside pl → Sided pl → named_ok pl ≡ true → interfaces_ok pl ≡ true → JointsMatch pl
joints_ok pl inside sided n i =
    record { named = named_ok_lem pl inside sided n; joined = λ e h. (home pl e, interfaces_ok_lem pl inside i e h) }

-- Joints that match pass both tests.
pub ok_joints : (pl : Plan) → Inside pl → JointsMatch pl → (named_ok pl ≡ true) × (interfaces_ok pl ≡ true)
ok_joints pl inside m = (ok_named pl m.named, ok_interfaces pl inside m.joined)
