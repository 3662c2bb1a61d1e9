-- The tables of a plan whose joints match say what the plan says.
use mathlib.Core.Path.{◌≡◌, refl, sym, ap, ap₂, ◌∙◌}
use mathlib.Core.Logic.{◌⊎◌, inl, inr}
use mathlib.Core.Bool.{Bool, true, false, ◌&&◌, ◌||◌, false≢true}
use mathlib.Core.List.{List, []}
use Prim.Native.Nat.{ℕ, zero, suc, ◌+◌, ◌*◌, ◌/◌, ◌%◌, ◌≤◌, ◌<◌}
use native.Mathlib.Omega.{arith}
use lib.Dec.{eqb, ltb}
use lib.ListN.{get_or, set, length, length-set, replicate, length-replicate}
use lib.Seq.{get_or-set_same, get_or-set_other}
use borrow.Author.Tests.{eqb-true, eq-eqb, ne_eqb, lt-ltb, le-ltb, ltb-true}
use Rattle.basis.specs.Choice.{pick, test, same_test}
use Rattle.basis.specs.Bounded.{lt_or_ge}
use Rattle.basis.specs.Fold.{up_to, up_none, up_suc, fill_at, fill_past}
use Rattle.plan.specs.declared.Joint.{Joint}
use Rattle.plan.specs.declared.Joint.TheVariants.{Nothing, Router, Active, Passive}
use Rattle.plan.specs.Head.{destinations}
use Rattle.plan.specs.Plan.{Plan, Interface, active, passive, R, A, Has, joint_of}
use Rattle.plan.specs.Rules.{leads_to, home, JoinedAt}
use Rattle.plan.specs.Tables.{interface_at, joint_of_byte}
use Rattle.plan_facts.proofs.Wires.{home_inside}
use Rattle.plan_facts.proofs.Tables.{replicate_at}
use Rattle.plan_journeys.proofs.Walks.{joint_leads}
use Rattle.sets.specs.Sets.{has, single, both, either}
use Rattle.sets.specs.Laws.{has_both, has_either, has_single, none_has}
use Rattle.graph_reach.specs.Reach.{Inside, Idle}
use Rattle.graph_reach.proofs.Sweeps.{and_parts, same_or_not}
use Rattle.load_arrivals.specs.Tables.{next_of, nexts_of, PortsIn, first_of, first_step, firsts_of}
use Rattle.load_arrivals.specs.Charted.{Charted, Charting}

-- ---- routers beyond sides
router_not : (v : ℕ) {n t : ℕ} → eqb (v / 64) 1 ≡ false → joint_of_byte v ≡ Router n t → ⊥
unfolding joint_of_byte
router_not v {n} {t} e q = by (eqb (v / 64) 2) (eqb (v / 64) 3) (rw e at q)
  where
    by : (y z : Bool) → pick y (Active (v / 4 % 16)) (pick z (Passive (v / 4 % 16)) Nothing) ≡ Router n t → ⊥
    by true z f = let k : ◌≡◌ {A = ℕ} 0 1 = cc in omega arith
    by false true f = let k : ◌≡◌ {A = ℕ} 0 1 = cc in omega arith
    by false false f = let k : ◌≡◌ {A = ℕ} 0 1 = cc in omega arith

pub next_router : (v : ℕ) {n t : ℕ} → joint_of_byte v ≡ Router n t → next_of v ≡ n
unfolding joint_of_byte next_of
next_router v {n} {t} q = by (test (eqb (v / 64) 1))
  where
    by : (eqb (v / 64) 1 ≡ true) ⊎ (eqb (v / 64) 1 ≡ false) → next_of v ≡ n
    by (inl e) = let f : Router (v / 4 % 16) (v % 4) ≡ Router n t = rw e at q in rw e (same f)
      where
        same : Router (v / 4 % 16) (v % 4) ≡ Router n t → v / 4 % 16 ≡ n
        same f = cc
    by (inr e) = absurd (router_not v e q)

pub next_none : (v : ℕ) → ((n t : ℕ) → joint_of_byte v ≡ Router n t → ⊥) → next_of v ≡ 16
unfolding joint_of_byte next_of
next_none v q = by (test (eqb (v / 64) 1))
  where
    by : (eqb (v / 64) 1 ≡ true) ⊎ (eqb (v / 64) 1 ≡ false) → next_of v ≡ 16
    by (inl e) = absurd (q (v / 4 % 16) (v % 4) (rw e))
    by (inr e) = rw e

next_small : (v : ℕ) → next_of v < 17
unfolding next_of
next_small v = by (eqb (v / 64) 1)
  where
    by : (b : Bool) → pick b (v / 4 % 16) 16 < 17
    by true = omega arith
    by false = omega arith

next_at : (joints : List ℕ) (routers k : ℕ) → routers ≤ 16 → k < 4 * routers
    → get_or (nexts_of joints routers) k 0 ≡ next_of (get_or joints k 0)
unfolding nexts_of
next_at joints routers k m l =
    fill_at (λ i. next_of (get_or joints i 0)) (4 * routers) (replicate 64 16) k 0 l (rw length-replicate (omega arith))

pub nexts_inside : (joints : List ℕ) (routers : ℕ) → routers ≤ 16 → Inside (nexts_of joints routers)
unfolding nexts_of
nexts_inside joints routers m i l = by (lt_or_ge i (4 * routers))
  where
    sixteen : (n k : ℕ) → get_or (replicate n 16) k 0 < 17
    sixteen zero k = omega arith
    sixteen (suc n) zero = omega arith
    sixteen (suc n) (suc k) = sixteen n k

    by : (i < 4 * routers) ⊎ (4 * routers ≤ i) → get_or (nexts_of joints routers) i 0 < 17
    by (inl k) = rw (next_at joints routers i m k) (next_small (get_or joints i 0))
    by (inr k) =
        rw (fill_past (λ j. next_of (get_or joints j 0)) (4 * routers) (replicate 64 16) i 0 k) (sixteen 64 i)

-- ---- destinations one step away
or_none : (b : Bool) → (b || false) ≡ b
or_none true = refl
or_none false = refl

pub ltb_alike : (i k j m : ℕ) → (i < k → j < m) → (j < m → i < k) → ltb i k ≡ ltb j m
ltb_alike i k j m f g =
    same_test (ltb i k) (ltb j m) (λ e. lt-ltb j m (f (ltb-true i k e))) (λ e. lt-ltb i k (g (ltb-true j m e)))

module _ (by : List (List ℕ)) (homes : List ℕ) where
  pub firsts_long : (n : ℕ) → length (firsts_of by homes n) ≡ 32
  unfolding firsts_of up_to first_step
  firsts_long zero = length-replicate 32 zero
  firsts_long (suc n) = length-set (firsts_of by homes n) (get_or homes n 0 / 4) _ ∙ firsts_long n

  pub first_has : (n r d : ℕ) → PortsIn homes n
      → has (get_or (firsts_of by homes n) r 0) d
      ≡ (ltb d n && (eqb r (get_or homes d 0 / 4) && has (get_or (get_or by r []) (get_or homes d 0 % 4) 0) d))
  unfolding firsts_of first_step first_of
  first_has zero r d ports =
      ap (λ (s : List ℕ). has (get_or s r 0) d) (zeros) ∙ ap (λ (x : ℕ). has x d) (replicate_at 32 0 r) ∙ none_has d
      ∙ rw (le-ltb d 0 (omega arith))
    where
      zeros : firsts_of by homes 0 ≡ replicate 32 0
      zeros = sym (up_none (first_step by homes) (replicate 32 0))
  first_has (suc n) r d ports = go (first_has n r d (λ i l. ports i (omega arith))) (same_or_not d n)
      (same_or_not r (get_or homes n 0 / 4))
    where
      turn : firsts_of by homes (suc n) ≡ set (firsts_of by homes n) (get_or homes n 0 / 4)
          (either (get_or (firsts_of by homes n) (get_or homes n 0 / 4) 0)
          (both (get_or (get_or by (get_or homes n 0 / 4) []) (get_or homes n 0 % 4) 0) (single n)))
      turn = up_suc (first_step by homes) n (replicate 32 0)

      here : get_or (firsts_of by homes (suc n)) (get_or homes n 0 / 4) 0
          ≡ either (get_or (firsts_of by homes n) (get_or homes n 0 / 4) 0)
          (both (get_or (get_or by (get_or homes n 0 / 4) []) (get_or homes n 0 % 4) 0) (single n))
      here =
          let l = ports n (omega arith) in
          ap (λ (s : List ℕ). get_or s (get_or homes n 0 / 4) 0) turn
          ∙ get_or-set_same (firsts_of by homes n) (get_or homes n 0 / 4) _ 0 (rw (firsts_long n) (omega arith))

      there : (r ≡ get_or homes n 0 / 4 → ⊥) → get_or (firsts_of by homes (suc n)) r 0 ≡ get_or (firsts_of by homes n) r
          0
      there h =
          ap (λ (s : List ℕ). get_or s r 0) turn ∙ get_or-set_other (firsts_of by homes n) (get_or homes n 0 / 4) r _ 0
          h

      members : has (either (get_or (firsts_of by homes n) (get_or homes n 0 / 4) 0)
          (both (get_or (get_or by (get_or homes n 0 / 4) []) (get_or homes n 0 % 4) 0) (single n))) d
          ≡ (has (get_or (firsts_of by homes n) (get_or homes n 0 / 4) 0) d ||
          (has (get_or (get_or by (get_or homes n 0 / 4) []) (get_or homes n 0 % 4) 0) d && eqb d n))
      members =
          has_either (get_or (firsts_of by homes n) (get_or homes n 0 / 4) 0)
          (both (get_or (get_or by (get_or homes n 0 / 4) []) (get_or homes n 0 % 4) 0) (single n)) d
          ∙ ap (λ (q : Bool). has (get_or (firsts_of by homes n) (get_or homes n 0 / 4) 0) d || q)
          (has_both (get_or (get_or by (get_or homes n 0 / 4) []) (get_or homes n 0 % 4) 0) (single n) d
          ∙ ap (λ (q : Bool). has (get_or (get_or by (get_or homes n 0 / 4) []) (get_or homes n 0 % 4) 0) d && q)
          (has_single n d))

      and_none : (b : Bool) → (b && false) ≡ false
      and_none true = refl
      and_none false = refl

      and_all : (b : Bool) → (b && true) ≡ b
      and_all true = refl
      and_all false = refl

      go : has (get_or (firsts_of by homes n) r 0) d
          ≡ (ltb d n && (eqb r (get_or homes d 0 / 4) && has (get_or (get_or by r []) (get_or homes d 0 % 4) 0) d))
          → (d ≡ n) ⊎ (d ≡ n → ⊥) → (r ≡ get_or homes n 0 / 4) ⊎ (r ≡ get_or homes n 0 / 4 → ⊥)
          → has (get_or (firsts_of by homes (suc n)) r 0) d
          ≡ (ltb d (suc n) && (eqb r (get_or homes d 0 / 4) && has (get_or (get_or by r []) (get_or homes d 0 % 4) 0)
          d))
      go rec (inl e) (inl f) =
          let old : has (get_or (firsts_of by homes n) (get_or homes n 0 / 4) 0) n ≡ false =
          rw (e, f, le-ltb n n (omega arith)) at rec in
          rw (e, f, lt-ltb n (suc n) (omega arith), eq-eqb (get_or homes n 0 / 4) (get_or homes n 0 / 4) refl, here)
          ((rw e at members) ∙ rw (old, eq-eqb n n refl) (and_all
          (has (get_or (get_or by (get_or homes n 0 / 4) []) (get_or homes n 0 % 4) 0) n)))
      go rec (inl e) (inr f) =
          let old : has (get_or (firsts_of by homes n) r 0) n ≡ false = rw (e, le-ltb n n (omega arith)) at rec in
          rw (e, lt-ltb n (suc n) (omega arith), ne_eqb r (get_or homes n 0 / 4) f, there f) old
      go rec (inr e) (inl f) =
          rw (f, ltb_alike d (suc n) d n (λ q. omega arith) (λ q. omega arith), here)
          (members
          ∙ rw (ne_eqb d n e, and_none (has (get_or (get_or by (get_or homes n 0 / 4) []) (get_or homes n 0 % 4) 0) d))
          (or_none (has (get_or (firsts_of by homes n) (get_or homes n 0 / 4) 0) d) ∙ rw f at rec))
      go rec (inr e) (inr f) = rw (ltb_alike d (suc n) d n (λ q. omega arith) (λ q. omega arith), there f) rec

  -- where a router has no sets by side, nothing is one step away
  pub first_idle : (n routers : ℕ) → PortsIn homes n
      → ((r o d : ℕ) → routers ≤ r → o < 4 → has (get_or (get_or by r []) o 0) d ≡ false)
      → (next : List ℕ) → Idle by next routers (firsts_of by homes n)
  first_idle n routers ports none next = record { here = here'; sides = λ r o d l m. none r o d l m }
    where
      and_off : (a b : Bool) → (a && (b && false)) ≡ false
      and_off true true = refl
      and_off true false = refl
      and_off false b = refl

      here' : (r d : ℕ) → routers ≤ r → has (get_or (firsts_of by homes n) r 0) d ≡ false
      here' r d l =
          first_has n r d ports
          ∙ rw (none r (get_or homes d 0 % 4) d l (omega arith)) (and_off (ltb d n) (eqb r (get_or homes d 0 / 4)))

-- ---- the plan's tables
leads_joint : (e : Interface) (j : Joint) → leads_to e j ≡ true → j ≡ joint_of e
leads_joint (active a) Nothing t = absurd (false≢true t)
leads_joint (passive p) Nothing t = absurd (false≢true t)
leads_joint (active a) (Router n s) t = absurd (false≢true t)
leads_joint (passive p) (Router n s) t = absurd (false≢true t)
leads_joint (active a) (Active n) t = ap Active (eqb-true n a t)
leads_joint (passive p) (Active n) t = absurd (false≢true t)
leads_joint (active a) (Passive n) t = absurd (false≢true t)
leads_joint (passive p) (Passive n) t = ap Passive (eqb-true n p t)

pub has_at : (pl : Plan) (d : ℕ) → d < destinations pl.head → Has pl (interface_at pl.head d)
has_at pl d l = by (lt_or_ge d (A pl))
  where
    by : (d < A pl) ⊎ (A pl ≤ d) → Has pl (interface_at pl.head d)
    by (inl k) = rw (lt-ltb d (A pl) k) k
    by (inr k) = rw (le-ltb d (A pl) k) (omega arith)

module _ (pl : Plan) (by : List (List ℕ)) (joints homes : List ℕ) (w : Charting pl by joints homes) where
  -- the port of a destination is its home
  home_router : (d : ℕ) → d < destinations pl.head → (home pl (interface_at pl.head d)).router ≡ get_or homes d 0 / 4
  unfolding home
  home_router d l = ap (λ (k : ℕ). k / 4) (sym (w.ports d l))

  home_side : (d : ℕ) → d < destinations pl.head → (home pl (interface_at pl.head d)).side ≡ get_or homes d 0 % 4
  unfolding home
  home_side d l = ap (λ (k : ℕ). k % 4) (sym (w.ports d l))

  pub ports_in : PortsIn homes (destinations pl.head)
  ports_in d l =
      let inside = (home_inside (interface_at pl.head d) w.wired (has_at pl d l)).0 in
      let most = w.routers in
      let is = home_router d l in
      omega arith

  and_none : (b : Bool) → (b && false) ≡ false
  and_none true = refl
  and_none false = refl

  pub sides_past : (r o d : ℕ) → R pl ≤ r → o < 4 → has (get_or (get_or by r []) o 0) d ≡ false
  sides_past r o d l m =
      w.sides r o d m
      ∙ rw (w.past r d l, ne_eqb 7 o (λ q. omega arith)) (and_none (ltb d (destinations pl.head)))

  pub charted : Charted pl by (nexts_of joints (R pl)) (firsts_of by homes (destinations pl.head))
  charted = record {
    sides = sides';
    nexts = nexts';
    offs = offs';
    firsts = firsts';
    idle = first_idle by homes _
        (R pl) ports_in sides_past (nexts_of joints (R pl));
  }
    where
      sides' : (r o d : ℕ) → r < R pl → o < 4 → d < destinations pl.head
          → has (get_or (get_or by r []) o 0) d ≡ eqb (pl.route r d) o
      sides' r o d l m k = w.sides r o d m ∙ rw (lt-ltb d (destinations pl.head) k)

      nexts' : (r o n t : ℕ) → r < R pl → o < 4 → pl.joint r o ≡ Router n t
          → get_or (nexts_of joints (R pl)) (4 * r + o) 0 ≡ n
      nexts' r o n t l m e =
          next_at joints (R pl) (4 * r + o) w.routers (omega arith)
          ∙ next_router (get_or joints (4 * r + o) 0) (sym (w.joined r o m) ∙ e)

      offs' : (r o : ℕ) → r < R pl → o < 4 → ((n t : ℕ) → pl.joint r o ≡ Router n t → ⊥)
          → R pl ≤ get_or (nexts_of joints (R pl)) (4 * r + o) 0
      offs' r o l m f =
          rw (
            next_at joints (R pl) (4 * r + o) w.routers (omega arith),
            next_none (get_or joints (4 * r + o) 0) (λ n t e. f n t (w.joined r o m ∙ e)),
          )
          w.routers

      firsts' : (r d : ℕ) → r < R pl → d < destinations pl.head
          → has (get_or (firsts_of by homes (destinations pl.head)) r 0) d
          ≡ leads_to (interface_at pl.head d) (pl.joint r (pl.route r d))
      firsts' r d l k =
          first_has by homes (destinations pl.head) r d ports_in
          ∙ rw (lt-ltb d (destinations pl.head) k, w.sides r (get_or homes d 0 % 4) d (omega arith))
          (rw (lt-ltb d (destinations pl.head) k) (same_test _ _ to from))
        where
          e : Interface
          e = interface_at pl.head d

          at : JoinedAt pl (interface_at pl.head d) (home pl (interface_at pl.head d))
          at = w.wired.joined (interface_at pl.head d) (has_at pl d k)

          to : (eqb r (get_or homes d 0 / 4) && eqb (pl.route r d) (get_or homes d 0 % 4)) ≡ true
              → leads_to (interface_at pl.head d) (pl.joint r (pl.route r d)) ≡ true
          to q =
              let p = and_parts (eqb r (get_or homes d 0 / 4)) (eqb (pl.route r d) (get_or homes d 0 % 4)) q in
              let a : r ≡ (home pl (interface_at pl.head d)).router = eqb-true r (get_or homes d 0 / 4) p.0
              ∙ sym (home_router d k) in
              let b : pl.route r d ≡ (home pl (interface_at pl.head d)).side = eqb-true (pl.route r d)
              (get_or homes d 0 % 4) p.1 ∙ sym (home_side d k) in
              ap (leads_to (interface_at pl.head d)) (ap₂ pl.joint a b ∙ at.there)
              ∙ joint_leads (interface_at pl.head d)

          from : leads_to (interface_at pl.head d) (pl.joint r (pl.route r d)) ≡ true
              → (eqb r (get_or homes d 0 / 4) && eqb (pl.route r d) (get_or homes d 0 % 4)) ≡ true
          from q =
              let o = at.only r (pl.route r d) (leads_joint (interface_at pl.head d)
              (pl.joint r (pl.route r d)) q) in
              rw (
                eq-eqb r (get_or homes d 0 / 4) (o.0 ∙ home_router d k),
                eq-eqb (pl.route r d) (get_or homes d 0 % 4) (o.1 ∙ home_side d k),
              )
