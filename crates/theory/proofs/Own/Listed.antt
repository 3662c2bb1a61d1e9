-- Lists of connections: what is in one, how many times, and without one of them. And the state's connections as those
-- of a list: one more with an ACK that is dropped, one less with a Close.
use mathlib.Core.Path.{◌≡◌, refl, sym, ap, subst, ◌∙◌}
use mathlib.Core.Logic.{◌⊎◌, inl, inr}
use mathlib.Core.Bool.{Bool, true, false, ◌&&◌, false≢true}
use mathlib.Core.List.{List, [], ◌∷◌}
use Prim.Native.Nat.{ℕ, ◌≤◌}
use native.Mathlib.Omega.{arith}
use lib.Dec.{eqb}
use borrow.Author.Tests.{eqb-true, eq-eqb}
use Rattle.basis.specs.Choice.{pick, also, test, not_both}
use Rattle.basis.specs.Among.{In}
use Rattle.packets.specs.declared.Kind.{Kind}
use Rattle.packets.specs.declared.Kind.TheVariants.{Setup, Tdown, Ack, Nack}
use Rattle.packets.specs.declared.Packet.{Packet}
use Rattle.plan.specs.Plan.{Plan}
use Rattle.plan_queues.specs.Queue.{active_out}
use Rattle.plan_facts.proofs.Heads.{and_both, and_of}
use Rattle.rules.specs.Connections.{Connection, connection, connection_of, same_connection, times, without}
use Rattle.rules.specs.State.{State, with_connection, has_connection, join}
use Rattle.rules.specs.Visits.{accepting, noted_kind, noted, closing_of, closed}
use Rattle.rules.specs.Accepted.{accept_kind}
use Rattle.rules.specs.Ruled.{Remembers}
use Rattle.theory.proofs.Own.Owning.{put3_at}

-- ---- when two connections are one
-- A connection is itself.
pub connection_same : (c : Connection) → same_connection c c ≡ true
connection_same c = and_of (and_of (eq-eqb c.active c.active refl) (eq-eqb c.passive c.passive refl))
    (eq-eqb c.start.0 c.start.0 refl)

-- Connections that the test finds one are one.
pub same_connection_lem : (c d : Connection) → same_connection c d ≡ true → c ≡ d
same_connection_lem c d e =
    let p = and_both e in
    let q = and_both p.0 in
    let a : c.active ≡ d.active = eqb-true c.active d.active q.0 in
    let b : c.passive ≡ d.passive = eqb-true c.passive d.passive q.1 in
    let t : c.start.0 ≡ d.start.0 = eqb-true c.start.0 d.start.0 p.1 in
    ap (λ (n : ℕ). connection n c.passive c.start.0) a
    ∙ ap (λ (n : ℕ). connection d.active n c.start.0) b
    ∙ ap (λ (n : ℕ). connection d.active d.passive n) t

-- ---- lists
-- What is in a list is in it at least once.
pub in_times : (c : Connection) (cs : List Connection) → In c cs → 1 ≤ times c cs
in_times c [] i = absurd i
in_times c (d ∷ cs) (inl q) =
    let e : same_connection d c ≡ true =
    subst (λ (x : Connection). same_connection x c ≡ true) q (connection_same c) in
    rw e (omega arith)
in_times c (d ∷ cs) (inr i) = let h = in_times c cs i in omega arith

-- What is in a list without one is in the list, and another.
pub without_in : (d c : Connection) (cs : List Connection) → In d (without c cs)
    → In d cs × (same_connection d c ≡ false)
without_in d c [] i = absurd i
without_in d c (e ∷ cs) i = by (λ j. without_in d c cs j) (test (same_connection e c)) i
  where
    up : In d cs × (same_connection d c ≡ false) → In d (e ∷ cs) × (same_connection d c ≡ false)
    up (j, n) = (inr j, n)

    by : (In d (without c cs) → In d cs × (same_connection d c ≡ false))
        → (same_connection e c ≡ true) ⊎ (same_connection e c ≡ false)
        → In d (pick (same_connection e c) (without c cs) (e ∷ without c cs))
        → In d (e ∷ cs) × (same_connection d c ≡ false)
    by rec (inl q) j = up (rec (rw q at j))
    by rec (inr q) j = at (rw q at j)
      where
        at : In d (e ∷ without c cs) → In d (e ∷ cs) × (same_connection d c ≡ false)
        at (inl p) = (inl p, subst (λ (x : Connection). same_connection x c ≡ false) (sym p) q)
        at (inr l) = up (rec l)

-- Another that is in the list is in it without the one.
pub in_without : (d c : Connection) (cs : List Connection) → In d cs → same_connection d c ≡ false
    → In d (without c cs)
in_without d c [] i n = absurd i
in_without d c (e ∷ cs) i n = by (λ j. in_without d c cs j n) (test (same_connection e c)) i
  where
    by : (In d cs → In d (without c cs)) → (same_connection e c ≡ true) ⊎ (same_connection e c ≡ false) → In d (e ∷ cs)
        → In d (pick (same_connection e c) (without c cs) (e ∷ without c cs))
    by rec (inl q) (inl p) = absurd (not_both (subst (λ (x : Connection). same_connection x c ≡ true) (sym p) q) n)
    by rec (inl q) (inr j) = rw q (rec j)
    by rec (inr q) (inl p) = rw q (inl p)
    by rec (inr q) (inr j) = rw q (inr (rec j))

-- ---- one connection set or cleared
all_three : (a b c : Bool) → also a (also b c) ≡ (a && b && c)
all_three true true c = refl
all_three true false c = refl
all_three false b c = refl

-- A state has the one that was set or cleared as it was put, and every other as before.
pub connection_at : (d c : Connection) (x : Bool) (s : State)
    → has_connection (with_connection c.active c.passive c.start.0 x s) d
    ≡ pick (same_connection d c) x (has_connection s d)
connection_at d c x s =
    put3_at s.connections c.active c.passive c.start.0 x d.active d.passive d.start.0
    ∙ ap (λ (b : Bool). pick b x (has_connection s d))
    (all_three (eqb d.active c.active) (eqb d.passive c.passive) (eqb d.start.0 c.start.0))

-- ---- the state's connections are those of a list
-- A state with the same connections has those of the same list.
pub remembers_same : {acc : List Connection} (s t : State) → Remembers acc s → t.connections ≡ s.connections
    → Remembers acc t
remembers_same s t k e =
    record {
      has = λ c i. same c ∙ k.has c i;
      only = λ c h. k.only c (sym (same c) ∙ h);
    }
  where
    same : (c : Connection) → has_connection t c ≡ has_connection s c
    same c = ap (λ (m : ℕ → ℕ → ℕ → Bool). m c.active c.passive c.start.0) e

module _ {acc : List Connection} (s : State) (k : Remembers acc s) where
  -- One that is set is one more.
  pub accepting_remembers : (c : Connection) → Remembers (c ∷ acc) (accepting c s)
  accepting_remembers c = record { has = has'; only = only' }
    where
      set : (d : Connection) → (same_connection d c ≡ true) ⊎ (has_connection s d ≡ true)
          → pick (same_connection d c) true (has_connection s d) ≡ true
      set d (inl q) = rw q
      set d (inr h) = by (same_connection d c)
        where
          by : (b : Bool) → pick b true (has_connection s d) ≡ true
          by true = refl
          by false = h

      has' : (d : Connection) → In d (c ∷ acc) → has_connection (accepting c s) d ≡ true
      has' d (inl q) = connection_at d c true s
          ∙ set d (inl (subst (λ (x : Connection). same_connection x c ≡ true) (sym q) (connection_same c)))
      has' d (inr i) = connection_at d c true s ∙ set d (inr (k.has d i))

      only' : (d : Connection) → has_connection (accepting c s) d ≡ true → In d (c ∷ acc)
      only' d h = by (test (same_connection d c)) (sym (connection_at d c true s) ∙ h)
        where
          by : (same_connection d c ≡ true) ⊎ (same_connection d c ≡ false)
              → pick (same_connection d c) true (has_connection s d) ≡ true → In d (c ∷ acc)
          by (inl q) g = inl (same_connection_lem d c q)
          by (inr q) g = inr (k.only d (rw q at g))

  -- What a dropped packet notes is what it accepts.
  pub noted_remembers : (pl : Plan) (x : Packet) → Remembers (accept_kind pl x.kind x acc) (noted pl x s)
  unfolding noted
  noted_remembers pl x = by x.kind
    where
      by : (n : Kind) → Remembers (accept_kind pl n x acc) (noted_kind pl n x s)
      by Setup = k
      by Tdown = k
      by Ack = accepting_remembers (connection_of pl x)
      by Nack = k

  -- One that is cleared is one less.
  pub clearing_remembers : (c : Connection)
      → Remembers (without c acc) (with_connection c.active c.passive c.start.0 false s)
  clearing_remembers c = record { has = has'; only = only' }
    where
      has' : (d : Connection) → In d (without c acc)
          → has_connection (with_connection c.active c.passive c.start.0 false s) d ≡ true
      has' d i =
          let j = without_in d c acc i in
          connection_at d c false s ∙ rw j.1 (k.has d j.0)

      only' : (d : Connection)
          → has_connection (with_connection c.active c.passive c.start.0 false s) d ≡ true
          → In d (without c acc)
      only' d h = by (test (same_connection d c)) (sym (connection_at d c false s) ∙ h)
        where
          by : (same_connection d c ≡ true) ⊎ (same_connection d c ≡ false)
              → pick (same_connection d c) false (has_connection s d) ≡ true → In d (without c acc)
          by (inl q) g = let z : false ≡ true = rw q at g in absurd (false≢true z)
          by (inr q) g = in_without d c acc (k.only d (rw q at g)) q

-- A Close clears its connection.
pub closed_remembers : {acc : List Connection} (pl : Plan) (s : State) → Remembers acc s → (a p t : ℕ)
    → Remembers (without (connection a p t) acc) (closed pl a p t s)
unfolding closed join
closed_remembers pl s k a p t =
    clearing_remembers (join (active_out a) (closing_of pl a p t) s)
    (remembers_same s (join (active_out a) (closing_of pl a p t) s) k refl) (connection a p t)
