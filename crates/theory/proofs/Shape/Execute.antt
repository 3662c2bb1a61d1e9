-- EXECUTE from empty wires and lowered flags: wires stay empty, and what each output picks can be sent. A flag that
-- rises is that of a Q whose head ended; its mark is down, so it is no candidate.
use mathlib.Core.Path.{◌≡◌, refl, sym, ap, subst, ◌∙◌}
use mathlib.Core.Logic.{◌⊎◌, inl, inr, ◌≢◌}
use mathlib.Core.Bool.{Bool, true, false}
use mathlib.Core.List.{◌∷◌}
use Prim.Native.Nat.{ℕ, suc, ◌<◌, ◌*◌, ◌/◌, ◌%◌}
use native.Mathlib.Nat.{not-suc-le-zero}
use native.Mathlib.Omega.{arith}
use Rattle.basis.specs.Choice.{not_both, refuted}
use Rattle.basis.specs.Bounded.{below_suc}
use Rattle.basis.specs.Fold.{up_to, up_keeps, up_keeps_at}
use Rattle.packets.specs.declared.Wire.{Wire}
use Rattle.plan.specs.Plan.{Plan, R, A, S}
use Rattle.plan_queues.specs.Queue.{Queue, active_out, active_in, Q, Exists}
use Rattle.plan_queues.specs.Feeds.{Output}
use Rattle.plan_journeys.proofs.Places.{some_not_none}
use Rattle.rules.specs.Store.{put, same_queue}
use Rattle.rules.specs.Outputs.{outputs, output_at, output_number}
use Rattle.rules.specs.State.{State, Choice, sender, with_queue, with_flag, with_entry, join}
use Rattle.rules.specs.Execute.{unit_at, handled_as, unit, may_leave, picked, choose, marked, tdown_of, undo}
use Rattle.rules.specs.Execute.{do_execute}
use Rattle.rules.specs.Valid.{Drives}
use Rattle.rules.proofs.Apart.{unit_same}
use Rattle.rules.proofs.Numbers.{sender_exists}
use Rattle.rules.proofs.OutNumbers.{output_at_lem, output_below, drives_at, at_apart}
use Rattle.theory.proofs.Ground.Cells.{queue_or, queue_away, output_here, output_away}
use Rattle.theory.specs.Invariant.{WiresEmpty, FlagsDown, Sendable, ChoicesSendable, Shape, in_write}
use Rattle.theory.proofs.Places.Senders.{candidate_ready}
use Rattle.theory.proofs.Account.Units.{unit_by, undo_by}
use Rattle.theory.proofs.Shape.Arbitration.{picked_candidate}
use Rattle.theory.proofs.Shape.Spared.{Spares, spared_sendable, spares_alike, spares_then, join_spares}
use Rattle.theory.proofs.Shape.Spared.{turn_spares}

-- ---- (1) units
-- the Q whose turn is the n-th
abbrev pub q_at : ℕ → Queue
q_at n = Q (n / 4) (n % 4)

pub q_same : (n m : ℕ) → q_at n ≡ q_at m → n ≡ m
q_same n m e = let z = unit_same e in let a = z.0 in let b = z.1 in omega arith

-- while the first n units' queues have had their turn: a flag that is up is that of such a Q, and its mark is down
abbrev pub FlagsBehind : Plan → ℕ → State → Type 0
FlagsBehind pl n s =
    (q : Queue) → Exists pl q → s.flow.flag q ≡ true → (r : ℕ) × (r < n) × (q ≡ q_at r) × (s.lines.handled q ≡ false)

module _ (pl : Plan) where
  -- before the first turn
  pub quiet_start : (s : State) → FlagsDown pl s → FlagsBehind pl 0 s
  quiet_start s f q h up = absurd (not_both up (f q h))

  -- the flag of the Q whose turn it is is down
  pub quiet_down : (n : ℕ) (s : State) → n < 4 * R pl → FlagsBehind pl n s → s.flow.flag (q_at n) ≡ false
  quiet_down n s h g = refuted (s.flow.flag (q_at n)) (λ up. by (g (q_at n) (omega arith, omega arith) up))
    where
      by : (r : ℕ) × (r < n) × (q_at n ≡ q_at r) × (s.lines.handled (q_at n) ≡ false) → ⊥
      by (r, l, e, m) = let z : n ≡ r = q_same n r e in omega arith

  quiet_same : (n : ℕ) (s t : State) → t.flow.flag ≡ s.flow.flag → t.lines.handled ≡ s.lines.handled
      → FlagsBehind pl n s → FlagsBehind pl n t
  quiet_same n s t f m g q h up =
      let d = g q h (sym (ap (λ (m : Queue → Bool). m q) f) ∙ up) in
      (d.0, d.1, d.2, ap (λ (m : Queue → Bool). m q) m ∙ d.3)

  quiet_more : (n : ℕ) (s : State) → FlagsBehind pl n s → FlagsBehind pl (suc n) s
  quiet_more n s g q h up = by (g q h up)
    where
      by : (r : ℕ) × (r < n) × (q ≡ q_at r) × (s.lines.handled q ≡ false)
          → (r : ℕ) × (r < suc n) × (q ≡ q_at r) × (s.lines.handled q ≡ false)
      by (r, l, e, m) = (r, omega arith, e, m)

  -- its head is handled
  quiet_handled : (n : ℕ) (s t : State) → t.flow.flag ≡ s.flow.flag → t.lines.handled
      ≡ put same_queue s.lines.handled (q_at n) true → FlagsBehind pl n s → FlagsBehind pl (suc n) t
  quiet_handled n s t f m g q h up = by (g q h (sym (ap (λ (m : Queue → Bool). m q) f) ∙ up))
    where
      by : (r : ℕ) × (r < n) × (q ≡ q_at r) × (s.lines.handled q ≡ false)
          → (r : ℕ) × (r < suc n) × (q ≡ q_at r) × (t.lines.handled q ≡ false)
      by (r, l, e, d) =
          let ne : q ≢ q_at n = λ z. let i : r ≡ n = q_same r n (sym e ∙ z) in omega arith in
          (r, omega arith, e, ap (λ (m : Queue → Bool). m q) m ∙ queue_away s.lines.handled (q_at n) true q ne ∙ d)

  -- its head ended
  quiet_ended : (n : ℕ) (s t : State) → t.flow.flag ≡ put same_queue s.flow.flag (q_at n) true → t.lines.handled
      ≡ s.lines.handled → s.lines.handled (q_at n) ≡ false → FlagsBehind pl n s → FlagsBehind pl (suc n) t
  quiet_ended n s t f m d g q h up = by (queue_or q (q_at n))
    where
      by : (q ≡ q_at n) ⊎ (q ≢ q_at n) → (r : ℕ) × (r < suc n) × (q ≡ q_at r) × (t.lines.handled q ≡ false)
      by (inl e) = (n, omega arith, e, ap (λ (m : Queue → Bool). m q) m ∙ rw e d)
      by (inr ne) =
          last (g q h (sym (ap (λ (m : Queue → Bool). m q) f ∙ queue_away s.flow.flag (q_at n) true q ne) ∙ up))
        where
          last : (r : ℕ) × (r < n) × (q ≡ q_at r) × (s.lines.handled q ≡ false)
              → (r : ℕ) × (r < suc n) × (q ≡ q_at r) × (t.lines.handled q ≡ false)
          last (r, l, e, d) = (r, omega arith, e, ap (λ (m : Queue → Bool). m q) m ∙ d)

  -- a unit's turn
  pub unit_quiet : (n : ℕ) (s : State) → FlagsBehind pl n s → FlagsBehind pl (suc n) (unit_at pl n s)
  unit_quiet n s g =
      unit_by pl s (FlagsBehind pl (suc n)) (n / 4) (n % 4) (quiet_more n s g)
      (λ x y rest e m. quiet_handled n s (handled_as (n / 4) (n % 4) y rest s) refl refl g)
      (λ x y rest o t b e m. quiet_handled n s (handled_as (n / 4) (n % 4) y rest (with_entry (n / 4) o t b s)) refl
      refl
      g)
      (λ x rest o t b e m. quiet_ended n s (with_flag (q_at n) true (with_queue (q_at n) rest
      (with_entry (n / 4) o t b s))) refl refl m g)

  -- it changes no wire
  pub unit_wire : (r i : ℕ) (s : State) → (unit pl r i s).links.wire ≡ s.links.wire
  unit_wire r i s = unit_by pl s (λ (t : State). t.links.wire ≡ s.links.wire) r i refl (λ x y rest e m. refl)
      (λ x y rest o t b e m. refl) (λ x rest o t b e m. refl)

  -- after all units
  pub units_quiet : (s : State) → FlagsDown pl s → FlagsBehind pl (4 * R pl) (up_to (unit_at pl) (4 * R pl) s)
  units_quiet s f = up_keeps_at (FlagsBehind pl) (unit_at pl) (4 * R pl) s (λ i t h g. unit_quiet i t g)
      (quiet_start s f)

  -- after all units wires are still empty
  pub units_wires : (s : State) → WiresEmpty pl s → WiresEmpty pl (up_to (unit_at pl) (4 * R pl) s)
  units_wires s w = up_keeps (WiresEmpty pl) (unit_at pl) (4 * R pl) s
      (λ i t h p o d. ap (λ (m : Output → Wire). m o) (unit_wire (i / 4) (i % 4) t) ∙ p o d) w

  -- ---- (2) picks
  -- what an output picks can be sent
  pub picked_sendable : (s : State) → FlagsBehind pl (4 * R pl) s → (o : Output) (k : ℕ) → Drives pl o
      → picked pl s o ≡ sender k → Sendable pl s o k
  picked_sendable s g o k d e =
      let c = (picked_candidate pl s o k e).1 in
      record {
        queue = c.0;
        rank = c.1;
        ready = c.2;
        down = refuted (s.flow.flag c.0)
            (λ up. not_both (leaves c.0 (g c.0 (sender_exists pl o k c.0 d c.1) up)
            (candidate_ready pl s o c.0 c.2).leaves) (g c.0 (sender_exists pl o k c.0 d c.1) up).3);
      }
    where
      leaves : (q : Queue) → (r : ℕ) × (r < 4 * R pl) × (q ≡ q_at r) × (s.lines.handled q ≡ false) → may_leave s q
          ≡ true
          → s.lines.handled q ≡ true
      leaves q (r, l, e, m) h = rw e (rw e at h)

  -- the outputs below n have picked
  abbrev pub Picked : ℕ → State → Type 0
  Picked n s = FlagsBehind pl (4 * R pl) s
      × ((j : ℕ) → j < n → (k : ℕ) → s.links.choice (output_at pl j) ≡ sender k → Sendable pl s (output_at pl j) k)

  choose_spares : (o u : Output) (s : State) → Spares pl s (choose pl o s) u
  unfolding choose
  choose_spares o u s = spares_alike s (choose pl o s) refl refl refl refl

  -- an output's pick
  pub choose_picked : (n : ℕ) (s : State) → n < outputs pl → Picked n s → Picked (suc n) (choose pl (output_at pl n) s)
  unfolding choose
  choose_picked n s h g =
      (quiet_same (4 * R pl) s (choose pl (output_at pl n) s) refl refl g.0, λ j l. by j (below_suc l))
    where
      by : (j : ℕ) → (j < n) ⊎ (j ≡ n) → (k : ℕ) → (choose pl (output_at pl n) s).links.choice (output_at pl j)
          ≡ sender k → Sendable pl (choose pl (output_at pl n) s) (output_at pl j) k
      by j (inl l) k e =
          spared_sendable (choose_spares (output_at pl n) (output_at pl j) s) k
          (g.1 j l k (sym (output_away s.links.choice (output_at pl n) (picked pl s (output_at pl n))
          (output_at pl j) (at_apart pl j n (omega arith) h (λ z. omega arith))) ∙ e))
      by j (inr z) k e = rw z (last (rw z at e))
        where
          last : (choose pl (output_at pl n) s).links.choice (output_at pl n) ≡ sender k
              → Sendable pl (choose pl (output_at pl n) s) (output_at pl n) k
          last f =
              spared_sendable (choose_spares (output_at pl n) (output_at pl n) s) k
              (picked_sendable s g.0 (output_at pl n) k (drives_at pl n h)
              (sym (output_here s.links.choice (output_at pl n) (picked pl s (output_at pl n))) ∙ f))

  abbrev chooses : ℕ → State → State
  chooses n = choose pl (output_at pl n)

  -- after all picks
  pub picks_sendable : (s : State) → FlagsBehind pl (4 * R pl) s → ChoicesSendable pl (up_to chooses (outputs pl) s)
  picks_sendable s g o k d e =
      let all = up_keeps_at Picked chooses (outputs pl) s (λ i t h p. choose_picked i t h p)
      (g, λ j l. absurd (not-suc-le-zero l)) in
      subst (λ (u : Output). Sendable pl (up_to chooses (outputs pl) s) u k) (output_at_lem pl o d)
      (all.1 (output_number pl o) (output_below pl o d) k (rw (output_at_lem pl o d) e))

  -- and wires are still empty
  pub picks_wires : (s : State) → WiresEmpty pl s → WiresEmpty pl (up_to chooses (outputs pl) s)
  unfolding choose
  picks_wires s w = up_keeps (WiresEmpty pl) chooses (outputs pl) s (λ i t h p. p) w

  -- ---- (3) tear-downs
  -- a tear-down spares every output
  pub undo_spares : (a : ℕ) (o : Output) (s : State) → Spares pl s (undo pl a s) o
  undo_spares a o s =
      undo_by pl s (λ (t : State). Spares pl s t o) a (spares_alike s s refl refl refl refl)
      (λ x rest e u room. spares_then s (with_queue (active_in a) (marked x ∷ rest) s)
      (join (active_out a) (tdown_of (S pl) x) (with_queue (active_in a) (marked x ∷ rest) s))
      (turn_spares (active_in a) (λ z. some_not_none z) (marked x ∷ rest) s)
      (join_spares (active_out a) (tdown_of (S pl) x) (with_queue (active_in a) (marked x ∷ rest) s)))

  -- it changes no choice
  pub undo_choice : (a : ℕ) (s : State) → (undo pl a s).links.choice ≡ s.links.choice
  unfolding join
  undo_choice a s = undo_by pl s (λ (t : State). t.links.choice ≡ s.links.choice) a refl (λ x rest e u room. refl)

  -- and no wire
  pub undo_wire : (a : ℕ) (s : State) → (undo pl a s).links.wire ≡ s.links.wire
  unfolding join
  undo_wire a s = undo_by pl s (λ (t : State). t.links.wire ≡ s.links.wire) a refl (λ x rest e u room. refl)

  -- ---- the whole phase
  -- after EXECUTE wires are still empty
  pub execute_wires : (s : State) → WiresEmpty pl s → WiresEmpty pl (do_execute pl s)
  unfolding do_execute
  execute_wires s w =
      up_keeps (WiresEmpty pl) (undo pl) (A pl) (up_to chooses (outputs pl) (up_to (unit_at pl) (4 * R pl) s))
      (λ i t h p o d. ap (λ (m : Output → Wire). m o) (undo_wire i t) ∙ p o d)
      (picks_wires (up_to (unit_at pl) (4 * R pl) s) (units_wires s w))

  undone : (s : State) → ChoicesSendable pl s → ChoicesSendable pl (up_to (undo pl) (A pl) s)
  undone s c =
      up_keeps (ChoicesSendable pl) (undo pl) (A pl) s
      (λ i t h p o k d e. spared_sendable (undo_spares i o t) k
      (p o k d (sym (ap (λ (m : Output → Choice). m o) (undo_choice i t)) ∙ e))) c

  -- after EXECUTE every choice can be sent
  pub execute_choices : (s : State) → FlagsDown pl s → ChoicesSendable pl (do_execute pl s)
  unfolding do_execute
  execute_choices s f o k d e =
      let u : State = up_to (undo pl) (A pl) (up_to chooses (outputs pl) (up_to (unit_at pl) (4 * R pl) s)) in
      spared_sendable (spares_alike u (do_execute pl s) refl refl refl refl) k (undone (up_to chooses (outputs pl)
      (up_to (unit_at pl) (4 * R pl) s)) (picks_sendable (up_to (unit_at pl) (4 * R pl) s) (units_quiet s f)) o k d e)

  -- EXECUTE ends in the shape of WRITE
  pub execute_shape : (s : State) → WiresEmpty pl s → FlagsDown pl s → Shape pl (do_execute pl s)
  unfolding do_execute
  execute_shape s w f = in_write refl (execute_wires s w) (execute_choices s f)
