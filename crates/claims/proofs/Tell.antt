-- The tests of each call's refusals, and of Load's, tell of their conditions.
use mathlib.Core.Path.{◌≡◌, refl, ap}
use mathlib.Core.Logic.{◌⊎◌, inl, inr, ◌≢◌}
use mathlib.Core.Bool.{Bool, true, false, not, ◌&&◌, false≢true}
use mathlib.Core.List.{List, [], ◌∷◌}
use Prim.Native.Nat.{ℕ, zero, suc, ◌≤◌, ◌<◌}
use native.Mathlib.Omega.{arith}
use lib.Dec.{eqb, ltb, leb}
use lib.ListN.{length}
use borrow.Author.Tests.{ltb-false, le-ltb, ltb-true, leb-true, le-leb, not-true, not-false}
use Rattle.kinds.specs.declared.Refusal.TheVariants.{TooShort, OutOfRange, WrongLength, BadField, BadJoint, HasRing}
use Rattle.packets.specs.declared.Packet.{Packet}
use Rattle.packets.specs.declared.Phase.{Phase}
use Rattle.packets.specs.declared.Phase.TheVariants.{Read, Write}
use Rattle.plan.specs.Head.{head_of, head_ok, InRange, bit_count, byte_count}
use Rattle.plan.specs.Plan.{Plan, plan_of, R, A, P, S}
use Rattle.plan.specs.Rules.{Filled, FieldsFit, JointsMatch, fill_ok, fields_ok, named_ok, interfaces_ok}
use Rattle.plan_queues.specs.Queue.{Queue, active_in, passive_in, active_out, passive_out}
use Rattle.plan_queues.specs.Feeds.{FeedRing}
use Rattle.load_rings.specs.RingTest.{has_ring}
use Rattle.plan_facts.specs.Wired.{Wired}
use Rattle.plan_facts.proofs.Heads.{head_ok_lem, ok_head, and_both, and_of}
use Rattle.plan_facts.proofs.Fields.{fill_ok_lem, ok_fill, fields_ok_lem, ok_fields}
use Rattle.plan_facts.proofs.Wires.{wired, plan_match, match_plan}
use Rattle.plan_journeys.proofs.Walks.{serves_of, served_of}
use Rattle.load_rings.proofs.Tests.{ring_test_lem, test_ring}
use Rattle.load.specs.Load.{length_ok, joints_ok}
use Rattle.rules.specs.Capacity.{capacity}
use Rattle.rules.specs.State.{State}
use Rattle.rules.specs.Visits.{is_empty, head_unmarked}
use Rattle.rules.specs.Guards.{Guard, guard}
use Rattle.rules.specs.Calls.{of_launch, of_reply, of_look, of_drop, of_close, of_entry, of_remaining, Call, turn}
use Rattle.rules.specs.Calls.{visit}
use Rattle.rules.specs.Calls.{is_phase}
use Rattle.rules.specs.Calls.{guards}
use Rattle.rules.specs.Conditions.{QueueIsFull, UnmarkedHead, conditions}
use Rattle.rules.proofs.Apart.{phase_of, phase_is}
use Rattle.theory.proofs.Cases.{unmarked_kind_lem}
use Rattle.valid.proofs.Decides.{Decides, like, so, not_so, less, same}
use Rattle.claims.specs.Conditions.{load_conditions}
use Rattle.claims.proofs.Tests.{Tell, failed}

-- ---- tests that hold where something does not
pub no : {t : Bool} {X : Type 0} → Decides t X → Decides (not t) (X → ⊥)
no {t = true} d = record { holds = λ e. absurd (false≢true e); passes = λ n. absurd (n (d.holds refl)) }
no {t = false} d = record { holds = λ e x. false≢true (d.passes x); passes = λ n. refl }

-- what is not denied holds
sure : {t : Bool} {X : Type 0} → Decides t X → ((X → ⊥) → ⊥) → X
sure {t = true} d n = d.holds refl
sure {t = false} d n = absurd (n (λ x. false≢true (d.passes x)))

not_each : (s t : Bool) {X Y : Type 0} → Decides (not s) X → Decides (not t) Y → Decides (not (s && t)) (X ⊎ Y)
not_each true t {X} {Y} d e = record { holds = λ h. inr (e.holds h); passes = by }
  where
    by : X ⊎ Y → not t ≡ true
    by (inl x) = absurd (false≢true (d.passes x))
    by (inr y) = e.passes y
not_each false t d e = record { holds = λ h. inl (d.holds refl); passes = λ x. refl }

not_less : (m n : ℕ) → Decides (not (ltb m n)) (n ≤ m)
not_less m n = record { holds = λ e. ltb-false m n (not-true _ e); passes = λ h. rw (le-ltb m n h) }

-- three numbers, one of which is out of range
not_three : (a b c m n k : ℕ) → Decides (not (ltb a m && ltb b n && ltb c k)) ((m ≤ a) ⊎ (n ≤ b) ⊎ (k ≤ c))
not_three a b c m n k = like (not_each (ltb a m && ltb b n) (ltb c k)
    (not_each (ltb a m) (ltb b n) (not_less a m) (not_less b n)) (not_less c k)) to from
  where
    to : ((m ≤ a) ⊎ (n ≤ b)) ⊎ (k ≤ c) → (m ≤ a) ⊎ (n ≤ b) ⊎ (k ≤ c)
    to (inl (inl x)) = inl x
    to (inl (inr x)) = inr (inl x)
    to (inr x) = inr (inr x)

    from : (m ≤ a) ⊎ (n ≤ b) ⊎ (k ≤ c) → ((m ≤ a) ⊎ (n ≤ b)) ⊎ (k ≤ c)
    from (inl x) = inl (inl x)
    from (inr (inl x)) = inl (inr x)
    from (inr (inr x)) = inr x

-- ---- the tests of the calls
other_phase : (x y : Phase) → Decides (not (is_phase x y)) (x ≢ y)
other_phase x y = no (record { holds = λ e. phase_of x y (rw e); passes = phase_is x y })

no_choice : (c : ℕ) → Decides (not (leb c 1)) ((c ≢ 0) × (c ≢ 1))
no_choice c =
    like (no (record { holds = leb-true c 1; passes = le-leb c 1 }))
    (λ n. (λ e. n (omega arith), λ e. n (omega arith)))
    (λ n l. by c n l)
  where
    by : (c : ℕ) → (c ≢ 0) × (c ≢ 1) → c ≤ 1 → ⊥
    by zero n l = n.0 refl
    by (suc zero) n l = n.1 refl
    by (suc (suc c)) n l = omega arith

none_queued : (l : List Packet) → Decides (is_empty l) (l ≡ [])
none_queued [] = record { holds = λ e. refl; passes = λ e. refl }
none_queued (x ∷ l) = record { holds = λ e. absurd (false≢true e); passes = λ e. ap is_empty e }

full : (pl : Plan) (q : Queue) (s : State)
    → Decides (not (ltb (length (s.lines.queue q)) (capacity pl.head q))) (QueueIsFull pl q s)
full pl q s = not_less (length (s.lines.queue q)) (capacity pl.head q)

head_unmarked_lem : (q : Queue) (s : State) → Decides (head_unmarked (s.lines.queue q)) (UnmarkedHead q s)
head_unmarked_lem q s = record { holds = λ e. of (s.lines.queue q) refl e; passes = by }
  where
    of : (l : List Packet) → s.lines.queue q ≡ l → head_unmarked l ≡ true → UnmarkedHead q s
    of [] e t = absurd (false≢true t)
    of (x ∷ l) e t =
        let k = unmarked_kind_lem x.kind x.hub.0 t in
        let some : 1 ≤ x.hub.0 = k.1 in
        record { head = x; rest = l; line = e; kind = k.0; hub = λ z. omega arith }

    by : UnmarkedHead q s → head_unmarked (s.lines.queue q) ≡ true
    by h = rw (h.line, h.kind, failed (same h.head.hub.0 0) h.hub)

module _ (pl : Plan) (wired : Wired pl) (s : State) where
  -- an active of three numbers that are in range
  below : (a p t : ℕ) → ((A pl ≤ a) ⊎ (P pl ≤ p) ⊎ (S pl ≤ t) → ⊥) → a < A pl
  below a p t k = ltb-true a (A pl) (not-false _ (failed (not_less a (A pl)) (λ h. k (inl h))))

  -- they tell of the calls' conditions
  pub calls_tell : (c : Call) → Tell (guards pl c s) (conditions pl c s)
  calls_tell (turn x) = (refl, other_phase s.clock.phase x, λ n. record {})
  calls_tell (visit (of_launch a p t)) = (
    refl,
    other_phase s.clock.phase Read,
    λ n. (
      refl,
      not_three a p t (A pl) (P pl) (S pl),
      λ k. (
        refl,
        no (record { holds = served_of wired a p (below a p t k); passes = serves_of wired a p (below a p t k) }),
        λ m. (refl, same (s.flow.allowance a) 0, λ u. (refl, full pl (active_out a) s, λ v. record {})),
      ),
    ),
  )
  calls_tell (visit (of_reply p c)) = (
    refl,
    other_phase s.clock.phase Write,
    λ n. (
      refl,
      not_each (ltb p (P pl)) (leb c 1) (not_less p (P pl)) (no_choice c),
      λ k. (
        refl,
        so (s.flow.flag (passive_in p)),
        λ m. (
          refl,
          none_queued (s.lines.queue (passive_in p)),
          λ u. (refl, full pl (passive_out p) s, λ v. record {}),
        ),
      ),
    ),
  )
  calls_tell (visit (of_look a)) = (
    refl,
    not_less a (A pl),
    λ n. (refl, none_queued (s.lines.queue (active_in a)), λ k. record {}),
  )
  calls_tell (visit (of_drop a)) = (
    refl,
    other_phase s.clock.phase Write,
    λ n. (
      refl,
      not_less a (A pl),
      λ k. (
        refl,
        so (s.flow.flag (active_in a)),
        λ m. (
          refl,
          none_queued (s.lines.queue (active_in a)),
          λ u. (refl, head_unmarked_lem (active_in a) s, λ v. record {}),
        ),
      ),
    ),
  )
  calls_tell (visit (of_close a p t)) = (
    refl,
    other_phase s.clock.phase Read,
    λ n. (
      refl,
      not_three a p t (A pl) (P pl) (S pl),
      λ k. (
        refl,
        no (record { holds = served_of wired a p (below a p t k); passes = serves_of wired a p (below a p t k) }),
        λ m. (refl, not_so (s.connections a p t), λ u. (refl, full pl (active_out a) s, λ v. record {})),
      ),
    ),
  )
  calls_tell (visit (of_entry r o t)) = (refl, not_three r o t (R pl) 4 (S pl), λ n. record {})
  calls_tell (visit of_remaining) = record {}

-- ---- the tests of Load
abbrev pub load_guards : List ℕ → List Guard
load_guards p =
    guard TooShort (ltb (length p) 6)
    ∷ guard OutOfRange (not (head_ok (head_of p)))
    ∷ guard WrongLength (not (length_ok p))
    ∷ guard BadField (not (fields_ok p))
    ∷ guard BadJoint (not (joints_ok p))
    ∷ guard HasRing (has_ring (plan_of p))
    ∷ []

module _ (p : List ℕ) where
  ranged : Decides (head_ok (head_of p)) (InRange (head_of p))
  ranged = record { holds = head_ok_lem (head_of p); passes = ok_head (head_of p) }

  long : Decides (not (length_ok p)) ((length p ≢ byte_count (head_of p)) ⊎ (Filled p → ⊥))
  unfolding length_ok
  long =
      not_each (eqb (length p) (byte_count (head_of p))) (fill_ok p (bit_count (head_of p)))
      (no (same (length p) (byte_count (head_of p))))
      (no (record { holds = fill_ok_lem p; passes = ok_fill p }))

  fielded : Decides (fields_ok p) (FieldsFit p)
  fielded = record { holds = fields_ok_lem p; passes = ok_fields p }

  joined : Decides (joints_ok p) (JointsMatch (plan_of p))
  unfolding joints_ok
  joined =
      record {
        holds = λ e. let j : (named_ok (plan_of p) ≡ true) × (interfaces_ok (plan_of p) ≡ true) = and_both e in
            plan_match p j.0 j.1;
        passes = λ m. let j = match_plan p m in and_of j.0 j.1;
      }

  -- they tell of Load's conditions
  pub load_tells : Tell (load_guards p) (load_conditions p)
  load_tells = (
    refl,
    less (length p) 6,
    λ a. (
      refl,
      no ranged,
      λ b. (
        refl,
        long,
        λ c. (
          refl,
          no fielded,
          λ d. (
            refl,
            no joined,
            λ e. (refl, rings (sure ranged b) (sure fielded d) (match_plan p (sure joined e)), λ f. record {}),
          ),
        ),
      ),
    ),
  )
    where
      rings : InRange (head_of p) → FieldsFit p → (named_ok (plan_of p) ≡ true) × (interfaces_ok (plan_of p) ≡ true)
          → Decides (has_ring (plan_of p)) (FeedRing (plan_of p))
      rings range fields j =
          let w : Wired (plan_of p) = wired p fields j.0 j.1 in
          record { holds = ring_test_lem w; passes = test_ring w }
