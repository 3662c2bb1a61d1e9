-- What the accepted connections own: each makes the entries that it owns, all together own the sum, and in an owned
-- state an entry that one of them makes is booked as it makes it.
use mathlib.Core.Path.{◌≡◌, refl, sym, ap, subst, ◌∙◌}
use mathlib.Core.Logic.{◌⊎◌, inl, inr}
use mathlib.Core.Bool.{Bool, true, false, false≢true}
use mathlib.Core.List.{List, [], ◌∷◌}
use mathlib.Core.Option.{Option, none, some}
use Prim.Native.Nat.{ℕ, zero, suc, ◌+◌, ◌≤◌, ◌<◌}
use native.Mathlib.Nat.{mod-lt}
use native.Mathlib.Omega.{arith}
use lib.Dec.{eqb, ltb}
use borrow.Author.Tests.{eqb-true, eq-eqb, lt-ltb, le-ltb}
use Rattle.basis.specs.Choice.{pick, also, also_true, not_both, test}
use Rattle.basis.specs.Among.{In}
use Rattle.kinds.specs.declared.Slot.{Slot}
use Rattle.packets.specs.declared.Entry.TheVariants.{Booked}
use Rattle.packets.specs.Counters.{slot_after}
use Rattle.plan.specs.Plan.{Plan, active, passive, R, S, route_to}
use Rattle.plan.specs.Rules.{home}
use Rattle.plan_queues.specs.Feeds.{Stands, span}
use Rattle.plan_facts.specs.Wired.{Wired}
use Rattle.rules.specs.State.{State}
use Rattle.rules.specs.Connections.{Connection, same_connection, times, without, Makes}
use Rattle.rules.specs.Valid.{bit}
use Rattle.theory.proofs.Places.Closure.{stands_below, stands_first}
use Rattle.theory.proofs.Places.CameIn.{stands_inside, stands_exit, came_in_lem}
use Rattle.theory.proofs.Places.Indices.{index_stands, index_is}
use Rattle.theory.specs.Owners.{Holder, same_holder, holder_of, reaches, index_of, owning, owns_made, made}
use Rattle.theory.specs.Owners.{held_entry, holds, Agreed, Owned}
use Rattle.theory.proofs.Own.Owning.{holder_same, same_holder_lem, bit_true, bit_most, held}
use Rattle.theory.proofs.Own.Listed.{connection_same, same_connection_lem, in_times}

-- ---- the sum over the accepted connections
module _ (pl : Plan) (r o t : ℕ) (v : Holder) where
  -- One of them owns no more than all.
  pub made_in : (c : Connection) (cs : List Connection) → In c cs → owns_made pl r o t v c ≤ made pl r o t v cs
  unfolding made
  made_in c [] i = absurd i
  made_in c (d ∷ cs) (inl q) = let e = ap (owns_made pl r o t v) q in omega arith
  made_in c (d ∷ cs) (inr i) = let h = made_in c cs i in omega arith

  -- What all own one owns.
  pub made_some : (cs : List Connection) → 0 < made pl r o t v cs
      → (c : Connection) × In c cs × (0 < owns_made pl r o t v c)
  unfolding made
  made_some [] h = absurd (omega arith)
  made_some (c ∷ cs) h = by (owns_made pl r o t v c) refl (λ g. made_some cs g)
    where
      up : (d : Connection) × In d cs × (0 < owns_made pl r o t v d)
          → (d : Connection) × In d (c ∷ cs) × (0 < owns_made pl r o t v d)
      up (d, i, g) = (d, inr i, g)

      by : (n : ℕ) → owns_made pl r o t v c ≡ n
          → (0 < made pl r o t v cs → (d : Connection) × In d cs × (0 < owns_made pl r o t v d))
          → (d : Connection) × In d (c ∷ cs) × (0 < owns_made pl r o t v d)
      by zero e rec = up (rec (omega arith))
      by (suc n) e rec = (c, inl refl, omega arith)

  -- Two of them own no more than all.
  pub made_two : (c d : Connection) (cs : List Connection) → In c cs → In d cs → same_connection c d ≡ false
      → owns_made pl r o t v c + owns_made pl r o t v d ≤ made pl r o t v cs
  unfolding made
  made_two c d [] i j n = absurd i
  made_two c d (e ∷ cs) (inl q) (inl p) n =
      absurd (not_both (subst (λ (x : Connection). same_connection c x ≡ true) (q ∙ sym p) (connection_same c)) n)
  made_two c d (e ∷ cs) (inl q) (inr j) n =
      let h = made_in d cs j in
      let own = ap (owns_made pl r o t v) q in
      omega arith
  made_two c d (e ∷ cs) (inr i) (inl p) n =
      let h = made_in c cs i in
      let own = ap (owns_made pl r o t v) p in
      omega arith
  made_two c d (e ∷ cs) (inr i) (inr j) n = let h = made_two c d cs i j n in omega arith

  -- What one owns is owned as many times as it is among them.
  pub made_times : (c : Connection) (cs : List Connection) → owns_made pl r o t v c ≡ 1
      → times c cs ≤ made pl r o t v cs
  unfolding made
  made_times c [] e = omega arith
  made_times c (d ∷ cs) e = by (made_times c cs e) (test (same_connection d c))
    where
      by : times c cs ≤ made pl r o t v cs → (same_connection d c ≡ true) ⊎ (same_connection d c ≡ false)
          → pick (same_connection d c) 1 0 + times c cs ≤ owns_made pl r o t v d + made pl r o t v cs
      by h (inl q) = let own = ap (owns_made pl r o t v) (same_connection_lem d c q) in rw q (omega arith)
      by h (inr q) = rw q (omega arith)

  -- Without one that is not among them they own the same.
  pub made_none : (c : Connection) (cs : List Connection) → times c cs ≡ 0
      → made pl r o t v cs ≡ made pl r o t v (without c cs)
  unfolding made
  made_none c [] e = refl
  made_none c (d ∷ cs) e = by (λ f. made_none c cs f) (test (same_connection d c))
    where
      by : (times c cs ≡ 0 → made pl r o t v cs ≡ made pl r o t v (without c cs))
          → (same_connection d c ≡ true) ⊎ (same_connection d c ≡ false)
          → owns_made pl r o t v d + made pl r o t v cs
          ≡ made pl r o t v (pick (same_connection d c) (without c cs) (d ∷ without c cs))
      by rec (inl q) = let z : 1 + times c cs ≡ 0 = rw q at e in absurd (omega arith)
      by rec (inr q) =
          let z : 0 + times c cs ≡ 0 = rw q at e in
          rw q (ap (λ (n : ℕ). owns_made pl r o t v d + n) (rec (omega arith)))

  -- Without one that is among them once they own less what that one owns.
  pub made_once : (c : Connection) (cs : List Connection) → times c cs ≡ 1
      → made pl r o t v cs ≡ owns_made pl r o t v c + made pl r o t v (without c cs)
  unfolding made
  made_once c [] e = absurd (omega arith)
  made_once c (d ∷ cs) e = by (λ f. made_once c cs f) (test (same_connection d c))
    where
      by : (times c cs ≡ 1 → made pl r o t v cs ≡ owns_made pl r o t v c + made pl r o t v (without c cs))
          → (same_connection d c ≡ true) ⊎ (same_connection d c ≡ false)
          → owns_made pl r o t v d + made pl r o t v cs ≡ owns_made pl r o t v c
          + made pl r o t v (pick (same_connection d c) (without c cs) (d ∷ without c cs))
      by rec (inl q) =
          let z : 1 + times c cs ≡ 1 = rw q at e in
          let none = made_none c cs (omega arith) in
          let own = ap (owns_made pl r o t v) (same_connection_lem d c q) in
          rw q (omega arith)
      by rec (inr q) =
          let z : 0 + times c cs ≡ 1 = rw q at e in
          let less = rec (omega arith) in
          rw q (omega arith)

-- ---- what owning tells
picked_some : (b : Bool) (n : ℕ) → 0 < pick b n 0 → (b ≡ true) × (0 < n)
picked_some true n h = (refl, h)
picked_some false n h = absurd (omega arith)

reached : (slots t : ℕ) (start : Slot) (first past : ℕ) (i : Option ℕ) → reaches slots t start first past i ≡ true
    → (k : ℕ) × (i ≡ some k) × (t ≡ (slot_after start (record { 0 = k }) slots).0)
reached slots t start first past none e = absurd (false≢true e)
reached slots t start first past (some k) e = (k, refl, by (ltb k first) (ltb k past) e)
  where
    by : (b d : Bool) → pick b false (pick d (eqb t (slot_after start (record { 0 = k }) slots).0) false) ≡ true
        → t ≡ (slot_after start (record { 0 = k }) slots).0
    by true d f = absurd (false≢true f)
    by false true f = eqb-true t (slot_after start (record { 0 = k }) slots).0 f
    by false false f = absurd (false≢true f)

-- an entry that is owned with a holder
record Owning (pl : Plan) (r o t : ℕ) (v : Holder) (a p : ℕ) (start : Slot) : Type 0 where
  pub index : ℕ
  pub at : index_of pl a p r ≡ some index
  pub side : o ≡ route_to pl (passive p) r
  pub slot : t ≡ (slot_after start (record { 0 = index }) (S pl)).0
  pub holder : holder_of pl a p r ≡ v

owning_tells : (pl : Plan) (r o t : ℕ) (v : Holder) (a p : ℕ) (start : Slot) (first past : ℕ)
    → 0 < owning pl r o t v a p start first past → Owning pl r o t v a p start
unfolding owning
owning_tells pl r o t v a p start first past h =
    let b = picked_some (also (eqb o (route_to pl (passive p) r))
    (reaches (S pl) t start first past (index_of pl a p r))) (bit (same_holder (holder_of pl a p r) v)) h in
    let d = also_true {a = eqb o (route_to pl (passive p) r)} {b = reaches (S pl) t start first past
    (index_of pl a p r)}
    b.0 in
    let g = reached (S pl) t start first past (index_of pl a p r) d.1 in
    record {
      index = g.0;
      at = g.1;
      side = eqb-true o (route_to pl (passive p) r) d.0;
      slot = g.2;
      holder = same_holder_lem (holder_of pl a p r) v (bit_true (same_holder (holder_of pl a p r) v) b.1);
    }

module _ {pl : Plan} (wired : Wired pl) (c : Connection) (g : Agreed pl c) (r o t : ℕ) where
  -- What an accepted connection owns it makes.
  pub owns_makes : (v : Holder) → 0 < owns_made pl r o t v c → Makes pl c r o t v.side
  unfolding owns_made
  owns_makes v h =
      let w = owning_tells pl r o t v c.active c.passive c.start 0 (span pl c.active c.passive) h in
      let f = index_stands pl c.active c.passive r w.index w.at in
      let came : came_of ≡ f.0 = came_in_lem wired c.active c.passive g.active g.passive g.serves w.index
      r f.0 f.1 in
      let side : f.0 ≡ v.side = sym came ∙ ap (λ (d : Holder). d.side) w.holder in
      record {
        index = w.index;
        at = subst (λ (n : ℕ). Stands pl c.active c.passive w.index r n) side f.1;
        side = w.side;
        slot = w.slot;
      }
    where
      came_of : ℕ
      came_of = (holder_of pl c.active c.passive r).side

  -- What it makes it owns, with its pair's holder.
  pub makes_owns : (i : ℕ) → Makes pl c r o t i → owns_made pl r o t (holder_of pl c.active c.passive r) c ≡ 1
  unfolding owns_made owning
  makes_owns i m =
      let short = stands_below wired c.active c.passive g.active g.passive g.serves m.index
      (record { router = r; side = i }) m.at in
      rw (
        eq-eqb o (route_to pl (passive c.passive) r) m.side,
        index_is wired c.active c.passive g.active g.passive g.serves m.index r i m.at,
        le-ltb m.index 0 (omega arith),
        lt-ltb m.index (span pl c.active c.passive) short,
        eq-eqb t (slot_after c.start (record { 0 = m.index }) (S pl)).0 m.slot,
        holder_same (holder_of pl c.active c.passive r),
      )

  -- An entry that it makes is one of the plan's.
  pub makes_inside : (i : ℕ) → Makes pl c r o t i → (r < R pl) × (o < 4) × (t < S pl)
  makes_inside i m =
      let out = stands_exit wired c.active c.passive g.active g.passive g.serves m.index r i
      m.at in
      let side = m.side in
      let below : (slot_after c.start (record { 0 = m.index }) (S pl)).0 < S pl =
      mod-lt (c.start.0 + m.index) (let l = g.start in omega arith) in
      let slot = m.slot in (
        (stands_inside wired c.active c.passive g.active g.passive g.serves m.index r i m.at).0,
        omega arith,
        omega arith,
      )

-- The entry that a connection of a served pair makes at its walk's first router.
pub makes_first : {pl : Plan} → Wired pl → (c : Connection) → Agreed pl c → Makes pl c
    (home pl (active c.active)).router (route_to pl (passive c.passive) (home pl (active c.active)).router)
    (slot_after c.start (record { 0 = 0 }) (S pl)).0 (home pl (active c.active)).side
makes_first wired c g =
    record {
      index = 0;
      at = stands_first wired c.active c.passive g.active g.passive g.serves;
      side = refl;
      slot = refl;
    }

-- ---- in an owned state
-- An entry is owned once at most.
pub holds_most : (m : Option Holder) (v : Holder) → holds m v ≤ 1
holds_most none v = omega arith
holds_most (some c) v = bit_most (same_holder c v)

module _ {pl : Plan} (wired : Wired pl) {acc : List Connection} (s : State) (k : Owned pl acc s) (c : Connection)
    (n : In c acc) where
  -- An entry that an accepted connection makes is held by its pair.
  pub owned_holder : (r o t i : ℕ) → Makes pl c r o t i
      → k.holders r o t ≡ some (holder_of pl c.active c.passive r)
  owned_holder r o t i m =
      let g = k.agreed c n in
      let h = makes_inside wired c g r o t i m in
      let one = makes_owns wired c g r o t i m in
      let all = made_in pl r o t (holder_of pl c.active c.passive r) c acc n in
      let sum = k.owners r o t h.0 h.1 h.2 (holder_of pl c.active c.passive r) in
      held (k.holders r o t) (holder_of pl c.active c.passive r) (omega arith)

  -- It is booked, with the side that the walk came in by.
  pub owned_booked : (r o t i : ℕ) → Makes pl c r o t i → s.table r o t ≡ Booked i
  owned_booked r o t i m =
      let g = k.agreed c n in
      let h = makes_inside wired c g r o t i m in
      k.entries r o t h.0 h.1 h.2 ∙ ap held_entry (owned_holder r o t i m)
      ∙ ap Booked (came_in_lem wired c.active c.passive g.active g.passive g.serves m.index r i m.at)

  -- An accepted connection is accepted once: twice, it would own the entry at its first router twice.
  pub owned_once : times c acc ≡ 1
  owned_once =
      let g = k.agreed c n in
      let r : ℕ = (home pl (active c.active)).router in
      let o : ℕ = route_to pl (passive c.passive) r in
      let t : ℕ = (slot_after c.start (record { 0 = 0 }) (S pl)).0 in
      let i : ℕ = (home pl (active c.active)).side in
      let m = makes_first wired c g in
      let h = makes_inside wired c g r o t i m in
      let v : Holder = holder_of pl c.active c.passive r in
      let all = made_times pl r o t v c acc (makes_owns wired c g r o t i m) in
      let sum = k.owners r o t h.0 h.1 h.2 v in
      let most = holds_most (k.holders r o t) v in
      let some = in_times c acc n in
      omega arith
