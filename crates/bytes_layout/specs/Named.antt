-- Which queues, outputs and entries a plan has, as tests.
use Rattle.std.specs.Prelude.{◌≡◌, refl, ◌≢◌, Bool, true, false, not, ℕ, ◌<◌, eqb, ltb}
use Rattle.std.proofs.Common.{sym, ltb-true, lt-ltb, ne_eqb}
use Rattle.std.proofs.lemmas.Bool.{eqb-false}
use Rattle.basis.specs.Choice.{also, also_true, also_of}
use Rattle.plan.specs.Plan.{Plan, R, A, P, S}
use Rattle.plan_queues.specs.Queue.{Queue, active_out, active_in, passive_in, passive_out, U, Q, F, K, Exists}
use Rattle.plan_queues.specs.Feeds.{Output, of_active, of_passive, of_side, to_unit, from_unit}
use Rattle.rules.specs.Valid.{Drives}

-- ---- the plan has a queue
abbrev pub exists_test : Plan → Queue → Bool
exists_test pl (active_out a) = ltb a (A pl)
exists_test pl (active_in a) = ltb a (A pl)
exists_test pl (passive_in p) = ltb p (P pl)
exists_test pl (passive_out p) = ltb p (P pl)
exists_test pl (U r i) = also (ltb r (R pl)) (ltb i 4)
exists_test pl (Q r i) = also (ltb r (R pl)) (ltb i 4)
exists_test pl (F h r o) = also (ltb r (R pl)) (ltb o 4)
exists_test pl (K r i o) = also (ltb r (R pl)) (also (ltb i 4) (also (ltb o 4) (not (eqb i o))))

not_eqb : (i o : ℕ) → not (eqb i o) ≡ true → i ≢ o
not_eqb i o e = eqb-false i o (by (eqb i o) e)
  where
    by : (t : Bool) → not t ≡ true → t ≡ false
    by true u = sym u
    by false u = refl

-- the test is passed by the plan's queues alone
pub test_exists : (pl : Plan) (q : Queue) → exists_test pl q ≡ true → Exists pl q
test_exists pl (active_out a) e = ltb-true a (A pl) e
test_exists pl (active_in a) e = ltb-true a (A pl) e
test_exists pl (passive_in p) e = ltb-true p (P pl) e
test_exists pl (passive_out p) e = ltb-true p (P pl) e
test_exists pl (U r i) e = let p = also_true e in (ltb-true r (R pl) p.0, ltb-true i 4 p.1)
test_exists pl (Q r i) e = let p = also_true e in (ltb-true r (R pl) p.0, ltb-true i 4 p.1)
test_exists pl (F h r o) e = let p = also_true e in (ltb-true r (R pl) p.0, ltb-true o 4 p.1)
test_exists pl (K r i o) e =
    let p = also_true e in let q = also_true p.1 in let s = also_true q.1 in
    (ltb-true r (R pl) p.0, ltb-true i 4 q.0, ltb-true o 4 s.0, not_eqb i o s.1)

-- and by each of them
pub exists_test_lem : (pl : Plan) (q : Queue) → Exists pl q → exists_test pl q ≡ true
exists_test_lem pl (active_out a) h = lt-ltb a (A pl) h
exists_test_lem pl (active_in a) h = lt-ltb a (A pl) h
exists_test_lem pl (passive_in p) h = lt-ltb p (P pl) h
exists_test_lem pl (passive_out p) h = lt-ltb p (P pl) h
exists_test_lem pl (U r i) (h, l) = also_of (lt-ltb r (R pl) h) (lt-ltb i 4 l)
exists_test_lem pl (Q r i) (h, l) = also_of (lt-ltb r (R pl) h) (lt-ltb i 4 l)
exists_test_lem pl (F g r o) (h, l) = also_of (lt-ltb r (R pl) h) (lt-ltb o 4 l)
exists_test_lem pl (K r i o) (h, hi, ho, ne) =
    also_of (lt-ltb r (R pl) h) (also_of (lt-ltb i 4 hi) (also_of (lt-ltb o 4 ho) (rw (ne_eqb i o ne))))

-- ---- the plan has an output
abbrev pub drives_test : Plan → Output → Bool
drives_test pl (of_active a) = ltb a (A pl)
drives_test pl (of_passive p) = ltb p (P pl)
drives_test pl (of_side r o) = also (ltb r (R pl)) (ltb o 4)
drives_test pl (to_unit r) = ltb r (R pl)
drives_test pl (from_unit r) = ltb r (R pl)

-- the test is passed by the plan's outputs alone
pub test_drives : (pl : Plan) (o : Output) → drives_test pl o ≡ true → Drives pl o
test_drives pl (of_active a) e = ltb-true a (A pl) e
test_drives pl (of_passive p) e = ltb-true p (P pl) e
test_drives pl (of_side r o) e = let p = also_true e in (ltb-true r (R pl) p.0, ltb-true o 4 p.1)
test_drives pl (to_unit r) e = ltb-true r (R pl) e
test_drives pl (from_unit r) e = ltb-true r (R pl) e

-- and by each of them
pub drives_test_lem : (pl : Plan) (o : Output) → Drives pl o → drives_test pl o ≡ true
drives_test_lem pl (of_active a) h = lt-ltb a (A pl) h
drives_test_lem pl (of_passive p) h = lt-ltb p (P pl) h
drives_test_lem pl (of_side r o) (h, l) = also_of (lt-ltb r (R pl) h) (lt-ltb o 4 l)
drives_test_lem pl (to_unit r) h = lt-ltb r (R pl) h
drives_test_lem pl (from_unit r) h = lt-ltb r (R pl) h

-- ---- the plan has a connection: an active's, a passive's, a start slot's
abbrev pub is_connection : Plan → ℕ → ℕ → ℕ → Bool
is_connection pl a p t = also (ltb a (A pl)) (also (ltb p (P pl)) (ltb t (S pl)))

abbrev pub HasConnection : Plan → ℕ → ℕ → ℕ → Type 0
HasConnection pl a p t = (a < A pl) × (p < P pl) × (t < S pl)

pub test_connection : (pl : Plan) (a p t : ℕ) → is_connection pl a p t ≡ true → HasConnection pl a p t
test_connection pl a p t e =
    let f = also_true e in let g = also_true f.1 in
    (ltb-true a (A pl) f.0, ltb-true p (P pl) g.0, ltb-true t (S pl) g.1)

pub connection_test : (pl : Plan) (a p t : ℕ) → HasConnection pl a p t → is_connection pl a p t ≡ true
connection_test pl a p t (h, k, l) = also_of (lt-ltb a (A pl) h) (also_of (lt-ltb p (P pl) k) (lt-ltb t (S pl) l))

-- ---- the plan has an entry: a router's, a side's, a slot's
abbrev pub is_entry : Plan → ℕ → ℕ → ℕ → Bool
is_entry pl r o t = also (ltb r (R pl)) (also (ltb o 4) (ltb t (S pl)))

-- a router, a side and a slot of the plan
abbrev pub HasEntry : Plan → ℕ → ℕ → ℕ → Type 0
HasEntry pl r o t = (r < R pl) × (o < 4) × (t < S pl)

-- the test is passed by the plan's entries alone
pub test_entry : (pl : Plan) (r o t : ℕ) → is_entry pl r o t ≡ true → HasEntry pl r o t
test_entry pl r o t e =
    let p = also_true e in let q = also_true p.1 in
    (ltb-true r (R pl) p.0, ltb-true o 4 q.0, ltb-true t (S pl) q.1)

-- and by each of them
pub entry_test_lem : (pl : Plan) (r o t : ℕ) → HasEntry pl r o t → is_entry pl r o t ≡ true
entry_test_lem pl r o t (h, k, l) = also_of (lt-ltb r (R pl) h) (also_of (lt-ltb o 4 k) (lt-ltb t (S pl) l))
