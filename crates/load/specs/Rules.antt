-- Load accepts exactly the byte strings that obey every plan rule.
use Rattle.std.specs.Prelude.{◌≡◌, refl, Bool, true, false, not, List, ℕ, ◌≤◌, ltb, length}
use Rattle.std.specs.Prelude.{Result, Ok, Err}
use Rattle.std.proofs.Common.{sym, ◌∙◌, true≢false, arith, ltb-false, le-ltb, eqb-true, eq-eqb}
use Rattle.basis.specs.Choice.{pick, refuted}
use Rattle.kinds.specs.declared.Refusal.{Refusal}
use Rattle.plan.specs.declared.Head.{Head}
use Rattle.plan.specs.Head.{head_of, head_ok, InRange, byte_count}
use Rattle.plan.specs.Plan.{plan_of}
use Rattle.plan.specs.Rules.{Filled, FieldsFit, JointsMatch, fields_ok}
use Rattle.plan_queues.specs.Feeds.{FeedRing}
use Rattle.load_rings.specs.RingTest.{has_ring}
use Rattle.plan_facts.proofs.Heads.{head_ok_lem, ok_head, and_both, and_of}
use Rattle.plan_facts.proofs.Fields.{fill_ok_lem, ok_fill, fields_ok_lem, ok_fields}
use Rattle.plan_facts.specs.Wired.{Wired}
use Rattle.plan_facts.proofs.Wires.{wired, plan_match, match_plan}
use Rattle.load_rings.proofs.Tests.{ring_test_lem, test_ring}
use Rattle.load.specs.Load.{length_ok, joints_ok, load_of}

-- every plan rule of document 01
pub record Obeys (b : List ℕ) : Type 0 where
  pub six : 6 ≤ length b
  pub ranges : InRange (head_of b)
  pub size : length b ≡ byte_count (head_of b)
  pub filled : Filled b
  pub fields : FieldsFit b
  pub joints : JointsMatch (plan_of b)
  pub ringless : FeedRing (plan_of b) → ⊥

-- the rules' tests, each passed
pub record Passes (b : List ℕ) : Type 0 where
  pub six : ltb (length b) 6 ≡ false
  pub ranges : head_ok (head_of b) ≡ true
  pub size : length_ok b ≡ true
  pub fields : fields_ok b ≡ true
  pub joints : joints_ok b ≡ true
  pub ringless : has_ring (plan_of b) ≡ false

not-true : (t : Bool) → not t ≡ false → t ≡ true
not-true true e = refl
not-true false e = absurd (true≢false e)

refused_not : {h : Head} {w : Refusal} → Err w ≡ Ok h → ⊥
refused_not e = let z : ◌≡◌ {A = ℕ} 0 1 = cc in omega arith

-- a choice of a refusal or something else that is an acceptance took its second case
past : {h : Head} (t : Bool) (w : Refusal) (y : Result Head Refusal) → pick t (Err w) y ≡ Ok h
    → (t ≡ false) × (y ≡ Ok h)
past true w y e = absurd (refused_not e)
past false w y e = (refl, e)

pub passes : (b : List ℕ) (h : Head) → load_of b ≡ Ok h → Passes b × (h ≡ head_of b)
unfolding load_of
passes b h e =
    let p = past (ltb (length b) 6) _ _ e in
    let q = past (not (head_ok (head_of b))) _ _ p.1 in
    let r = past (not (length_ok b)) _ _ q.1 in
    let s = past (not (fields_ok b)) _ _ r.1 in
    let t = past (not (joints_ok b)) _ _ s.1 in
    let u = past (has_ring (plan_of b)) _ _ t.1 in
    let same : head_of b ≡ h = cc u.1 in (
      record {
        six = p.0;
        ranges = not-true _ q.0;
        size = not-true _ r.0;
        fields = not-true _ s.0;
        joints = not-true _ t.0;
        ringless = u.0;
      },
      sym same,
    )

pub accepts : (b : List ℕ) → Passes b → load_of b ≡ Ok (head_of b)
unfolding load_of
accepts b p = rw (p.six, p.ranges, p.size, p.fields, p.joints, p.ringless)

-- the plan's joints match and its walks may be trusted
pub passed_wired : (b : List ℕ) → Passes b → Wired (plan_of b)
unfolding joints_ok
passed_wired b p = let j = and_both p.joints in wired b (fields_ok_lem b p.fields) j.0 j.1

pub obeys_passed : (b : List ℕ) → Passes b → Obeys b
unfolding length_ok joints_ok
obeys_passed b p =
    let range = head_ok_lem (head_of b) p.ranges in
    let l = and_both p.size in
    let j = and_both p.joints in
    record {
      six = ltb-false (length b) 6 p.six;
      ranges = range;
      size = eqb-true (length b) (byte_count (head_of b)) l.0;
      filled = fill_ok_lem b l.1;
      fields = fields_ok_lem b p.fields;
      joints = plan_match b j.0 j.1;
      ringless = λ r. true≢false (sym (test_ring (passed_wired b p) r) ∙ p.ringless);
    }

pub passed_obeys : (b : List ℕ) → Obeys b → Passes b
unfolding length_ok joints_ok
passed_obeys b o =
    let j = match_plan b o.joints in
    let w = wired b o.fields j.0 j.1 in
    record {
      six = le-ltb (length b) 6 o.six;
      ranges = ok_head (head_of b) o.ranges;
      size = and_of (eq-eqb (length b) (byte_count (head_of b)) o.size) (ok_fill b o.filled);
      fields = ok_fields b o.fields;
      joints = and_of j.0 j.1;
      ringless = refuted (has_ring (plan_of b)) (λ t. o.ringless (ring_test_lem w t));
    }

-- Load accepts a byte string exactly if it obeys every plan rule
pub accepted_obeys : (b : List ℕ) (h : Head) → load_of b ≡ Ok h → Obeys b
accepted_obeys b h e = obeys_passed b (passes b h e).0

pub obeys_accepted : (b : List ℕ) → Obeys b → load_of b ≡ Ok (head_of b)
obeys_accepted b o = accepts b (passed_obeys b o)
