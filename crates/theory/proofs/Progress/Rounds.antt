-- Progress: from every valid state in READ with a packet under way, any list with S whole rounds moves a packet by a
-- Read, an Execute or a Write. Suppose nothing moves. After the first EXECUTE's units the network is as in a state p,
-- but for what Still allows. Each output comes to a round in which it is open and picks nobody, so no head of its
-- senders finds credit: the network is jammed, and Stuck says that it then holds no packet.
use mathlib.Core.Path.{subst, ◌≡◌, refl, sym, ap, ◌∙◌}
use mathlib.Core.Logic.{◌⊎◌, inl, inr, ◌≢◌}
use mathlib.Core.Bool.{Bool, true, false, not, true≢false, false≢true}
use mathlib.Core.List.{List, [], ◌∷◌, ◌++◌}
use mathlib.Core.Option.{some}
use Prim.Native.Nat.{ℕ, zero, suc, ◌+◌, ◌-◌, ◌%◌, ◌≤◌, ◌<◌, ◌*◌, ◌/◌}
use native.Mathlib.Nat.{mod-add-mod, mod-eq_of_lt, mod-eq-sub-mod, add-zero}
use native.Mathlib.Omega.{arith}
use lib.Dec.{ltb}
use lib.ListN.{length}
use borrow.Author.Tests.{ltb-false, not-true, not-false}
use Rattle.basis.specs.Choice.{test}
use Rattle.basis.specs.Bounded.{Found, find, lt_or_ge}
use Rattle.basis.specs.Fold.{up_to, up_keeps_at}
use Rattle.kinds.specs.declared.Slot.{Slot}
use Rattle.kinds.specs.declared.Refusal.TheVariants.{WrongPhase}
use Rattle.packets.specs.declared.Kind.{Kind}
use Rattle.packets.specs.declared.Kind.TheVariants.{Setup, Tdown, Ack, Nack}
use Rattle.packets.specs.declared.Packet.{Packet}
use Rattle.packets.specs.declared.Phase.{Phase}
use Rattle.packets.specs.declared.Phase.TheVariants.{Read, Execute, Write}
use Rattle.packets.specs.declared.Entry.TheVariants.{Free}
use Rattle.plan.specs.Head.{InRange}
use Rattle.plan.specs.Plan.{Plan, R, S}
use Rattle.plan_queues.specs.Queue.{ahead, back, Queue, active_out, active_in, passive_in, passive_out, U, Q, F, K}
use Rattle.plan_queues.specs.Queue.{Exists}
use Rattle.plan_queues.specs.Role.{is_out_queue}
use Rattle.plan_queues.specs.Feeds.{Output, of_active, of_passive, of_side, to_unit, from_unit, output_of, heading_of}
use Rattle.plan_queues.specs.Feeds.{next}
use Rattle.plan_queues.specs.Feeds.{in_queue, FeedRing}
use Rattle.plan_facts.specs.Wired.{Wired}
use Rattle.rules.specs.Outputs.{next_by, senders, outputs, output_at, output_number}
use Rattle.rules.specs.State.{State, Choice, nobody, sender, is_free}
use Rattle.rules.specs.Execute.{unit_at, may_leave, candidate, is_open, picked, do_execute}
use Rattle.rules.specs.Write.{of_rank, do_write}
use Rattle.rules.specs.Read.{do_read}
use Rattle.rules.specs.Calls.{Outcome, Call, turn, visit, read, execute, write, call}
use Rattle.rules.specs.Valid.{Belongs, Drives}
use Rattle.rules.specs.Progress.{is_in_queue, ends_round}
use Rattle.rules.specs.Ruled.{rounds, Moves}
use Rattle.rules.proofs.Apart.{read_execute, read_write, execute_write, turn_same, visit_not}
use Rattle.theory.proofs.Does.{refused_turns}
use Rattle.rules.proofs.Numbers.{sender_exists}
use Rattle.rules.proofs.OutNumbers.{output_at_lem, output_below, drives_at}
use Rattle.theory.specs.Invariant.{Core, WiresEmpty, FlagsDown, NoChoices, Inv}
use Rattle.theory.proofs.Places.Closure.{unit_no_answer}
use Rattle.theory.proofs.Places.Lines.{output_drives}
use Rattle.theory.proofs.Places.Senders.{candidate_ready}
use Rattle.theory.proofs.Shape.Arbitration.{picked_none}
use Rattle.theory.proofs.Shape.Execute.{q_at, FlagsBehind, quiet_start, quiet_down, unit_quiet, units_wires}
use Rattle.theory.proofs.Shape.Calls.{execute_has, write_has}
use Rattle.theory.proofs.Keeps.{unit_core, call_inv}
use Rattle.theory.proofs.Progress.Stuck.{Jammed, Closed, none_waits}
use Rattle.theory.proofs.Progress.Interval.{MovesNow, moves_now, moves_later, Turn, moves, stays, ends}
use Rattle.theory.proofs.Progress.Interval.{interval}
use Rattle.theory.proofs.Progress.Still.{Same, same_self, AllHandled, Picks, read_stays, execute_rest}
use Rattle.theory.proofs.Progress.Still.{execute_picks, write_stays}
use Rattle.theory.proofs.Progress.Moving.{write_takes}
use Rattle.theory.proofs.Progress.First.{Ends, Upto, units, ends_moves}
use Rattle.theory.proofs.Progress.Undisturbed.{Undisturbed, turn_now, turn_not, still, visit_undisturbed}
use Rattle.theory.proofs.Progress.Undisturbed.{only_execute}

-- ---- every slot comes within S rounds
pub slot_reached : (n s t : ℕ) → s < n → t < n → (j : ℕ) × (j < n) × ((s + j) % n ≡ t)
slot_reached n s t hs ht = by (lt_or_ge t s)
  where
    wrap : (x : ℕ) → n ≤ x → x < n + n → x % n ≡ x - n
    wrap x h l = mod-eq-sub-mod h ∙ mod-eq_of_lt (omega arith)

    by : (t < s) ⊎ (s ≤ t) → (j : ℕ) × (j < n) × ((s + j) % n ≡ t)
    by (inl l) = (n - s + t, omega arith, wrap (s + (n - s + t)) (omega arith) (omega arith) ∙ omega arith)
    by (inr l) = (t - s, omega arith, mod-eq_of_lt (omega arith) ∙ omega arith)

-- ---- an output's senders by rank
pub ranked : (pl : Plan) (q : Queue) (o : Output) → Exists pl q → output_of q ≡ some o
    → (k : ℕ) × (of_rank (senders o) k ≡ some q)
ranked pl (active_out x) o h e = let z : of_active x ≡ o = cc in (0, rw (← z))
ranked pl (active_in x) o h e = let z : ◌≡◌ {A = ℕ} 0 1 = cc in absurd (omega arith)
ranked pl (passive_in x) o h e = let z : ◌≡◌ {A = ℕ} 0 1 = cc in absurd (omega arith)
ranked pl (passive_out x) o h e = let z : of_passive x ≡ o = cc in (0, rw (← z))
ranked pl (Q r i) o (hr, hi) e = let z : from_unit r ≡ o = cc in rw (← z) (at i hi)
  where
    at : (i : ℕ) → i < 4 → (k : ℕ) × (of_rank (senders (from_unit r)) k ≡ some (Q r i))
    at zero l = (0, refl)
    at (suc zero) l = (1, refl)
    at (suc (suc zero)) l = (2, refl)
    at (suc (suc (suc zero))) l = (3, refl)
    at (suc (suc (suc (suc i)))) l = absurd (omega arith)
ranked pl (F ahead r s) o h e = let z : of_side r s ≡ o = cc in (0, rw (← z))
ranked pl (F back r s) o h e = let z : of_side r s ≡ o = cc in (1, rw (← z))
ranked pl (U r i) o (hr, hi) e = let z : to_unit r ≡ o = cc in rw (← z) (at i hi)
  where
    at : (i : ℕ) → i < 4 → (k : ℕ) × (of_rank (senders (to_unit r)) k ≡ some (U r i))
    at zero l = (0, refl)
    at (suc zero) l = (1, refl)
    at (suc (suc zero)) l = (2, refl)
    at (suc (suc (suc zero))) l = (3, refl)
    at (suc (suc (suc (suc i)))) l = absurd (omega arith)
ranked pl (K r i s) o (hr, hi, hs, ne) e = let z : of_side r s ≡ o = cc in rw (← z) (at i s hi hs ne)
  where
    at : (i s : ℕ) → i < 4 → s < 4 → i ≢ s → (k : ℕ) × (of_rank (senders (of_side r s)) k ≡ some (K r i s))
    at zero zero a b n = absurd (n refl)
    at zero (suc zero) a b n = (2, refl)
    at zero (suc (suc zero)) a b n = (2, refl)
    at zero (suc (suc (suc zero))) a b n = (2, refl)
    at zero (suc (suc (suc (suc s)))) a b n = absurd (omega arith)
    at (suc zero) zero a b n = (2, refl)
    at (suc zero) (suc zero) a b n = absurd (n refl)
    at (suc zero) (suc (suc zero)) a b n = (3, refl)
    at (suc zero) (suc (suc (suc zero))) a b n = (3, refl)
    at (suc zero) (suc (suc (suc (suc s)))) a b n = absurd (omega arith)
    at (suc (suc zero)) zero a b n = (3, refl)
    at (suc (suc zero)) (suc zero) a b n = (3, refl)
    at (suc (suc zero)) (suc (suc zero)) a b n = absurd (n refl)
    at (suc (suc zero)) (suc (suc (suc zero))) a b n = (4, refl)
    at (suc (suc zero)) (suc (suc (suc (suc s)))) a b n = absurd (omega arith)
    at (suc (suc (suc zero))) zero a b n = (4, refl)
    at (suc (suc (suc zero))) (suc zero) a b n = (4, refl)
    at (suc (suc (suc zero))) (suc (suc zero)) a b n = (4, refl)
    at (suc (suc (suc zero))) (suc (suc (suc zero))) a b n = absurd (n refl)
    at (suc (suc (suc zero))) (suc (suc (suc (suc s)))) a b n = absurd (omega arith)
    at (suc (suc (suc (suc i)))) s a b n = absurd (omega arith)

-- the output of a queue that is no in-queue
leaves : (q : Queue) → is_in_queue q ≡ false → (o : Output) × (output_of q ≡ some o)
leaves (active_out x) e = (of_active x, refl)
leaves (active_in x) e = absurd (true≢false e)
leaves (passive_in x) e = absurd (true≢false e)
leaves (passive_out x) e = (of_passive x, refl)
leaves (U r i) e = (to_unit r, refl)
leaves (Q r i) e = (from_unit r, refl)
leaves (F h r o) e = (of_side r o, refl)
leaves (K r i o) e = (of_side r o, refl)

next_by_lem : (pl : Plan) (q : Queue) (o : Output) (x : Packet) → output_of q ≡ some o
    → next pl (heading_of x.kind) x.active x.passive q ≡ next_by pl o x
unfolding next
next_by_lem pl q o x e = rw e

-- the phases' ends
pub execute_phase : (pl : Plan) (s : State) → (do_read pl s).clock.phase ≡ Execute
unfolding do_read
execute_phase pl s = refl

write_phase : (pl : Plan) (s : State) → (do_execute pl s).clock.phase ≡ Write
unfolding do_execute
write_phase pl s = refl

read_phase : (pl : Plan) (s : State) → (do_write pl s).clock.phase ≡ Read
unfolding do_write
read_phase pl s = refl

is_nobody : Choice → Bool
is_nobody nobody = true
is_nobody (sender k) = false

module _ {pl : Plan} (wired : Wired pl) (range : InRange pl.head) (free : FeedRing pl → ⊥) where
  -- ---- from a state in EXECUTE
  module _ (e : State) (inv : Inv pl e) (phase : e.clock.phase ≡ Execute) where
    has : NoChoices pl e × WiresEmpty pl e × FlagsDown pl e
    has = execute_has e phase inv.shape

    -- an unhandled head at a unit is a SETUP or a TDOWN
    own : (n : ℕ) (x : Packet) (l : List Packet) → n < 4 * R pl → e.lines.queue (q_at n) ≡ x ∷ l
        → e.lines.handled (q_at n) ≡ false → (x.kind ≡ Setup) ⊎ (x.kind ≡ Tdown)
    own n x l h q f = by x.kind refl
      where
        b : Belongs pl (in_queue (q_at n)) x
        b = rw f at (rw q at (inv.core.places (q_at n) (omega arith, omega arith))).0

        by : (k : Kind) → x.kind ≡ k → (k ≡ Setup) ⊎ (k ≡ Tdown)
        by Setup g = inl refl
        by Tdown g = inr refl
        by Ack g = absurd ((unit_no_answer wired x.active x.passive b.ranges.active b.ranges.passive
            b.serves (n / 4) (n % 4) x.hub.0).0 (rw g at b.fits))
        by Nack g = absurd ((unit_no_answer wired x.active x.passive b.ranges.active b.ranges.passive
            b.serves (n / 4) (n % 4) x.hub.0).1 (rw g at b.fits))

    -- where Execute moves a packet, a list with a whole round does
    until_execute : MovesNow pl execute e → (cs : List Call) → 1 ≤ rounds pl cs e → Moves pl cs e
    until_execute m [] h = absurd (omega arith)
    until_execute m (c ∷ cs) h = by c (λ g. until_execute m cs g) h
      where
        other : (c : Call) → c ≢ execute → (1 ≤ rounds pl cs e → Moves pl cs e) → 1 ≤ rounds pl (c ∷ cs) e
            → Moves pl (c ∷ cs) e
        other c ne rec h =
            let o = only_execute pl e phase c ne in
            let n : 1 ≤ rounds pl cs e = let a : rounds pl cs (call pl c e).state ≡ rounds pl cs e =
            ap (rounds pl cs) o.0 in omega (arith, o.1) in
            moves_later pl c cs e (rw o.0 (rec n))

        by : (c : Call) → (1 ≤ rounds pl cs e → Moves pl cs e) → 1 ≤ rounds pl (c ∷ cs) e → Moves pl (c ∷ cs) e
        by (turn Execute) rec h = moves_now pl execute cs e m
        by (turn Read) rec h = other read (λ g. read_execute (turn_same g)) rec h
        by (turn Write) rec h = other write (λ g. execute_write (sym (turn_same g))) rec h
        by (visit v) rec h = other (visit v) (λ g. visit_not v Execute g) rec h

    -- ---- no unit ends a packet: the state p after the units
    module _ (u : Upto pl e own (4 * R pl) (up_to (unit_at pl) (4 * R pl) e)) where
      p : State
      p = up_to (unit_at pl) (4 * R pl) e

      core_p : Core pl p
      unfolding p
      core_p =
          (up_keeps_at (λ (n : ℕ) (t : State). FlagsBehind pl n t × Core pl t) (unit_at pl) (4 * R pl) e
          (λ i t h q. (
            unit_quiet pl i t q.0,
            unit_core wired range (i / 4) (i % 4) t (omega arith, omega arith)
                (quiet_down pl i t h q.0) q.1,
          ))
          (quiet_start pl e has.2, inv.core)).1

      wires_p : WiresEmpty pl p
      unfolding p
      wires_p = units_wires pl e has.1

      flags_p : FlagsDown pl p
      unfolding p
      flags_p q h = ap (λ (f : Queue → Bool). f q) u.flag ∙ has.2 q h

      handled_p : AllHandled pl p
      unfolding p
      handled_p r h = u.done r h

      slot_p : p.clock.slot ≡ e.clock.slot
      unfolding p
      slot_p = u.slot

      -- the slot of the j-th round
      abbrev At : ℕ → State → Type 0
      At j s = s.clock.slot.0 ≡ (e.clock.slot.0 + j) % S pl

      record Seen (j : ℕ) : Type 0 where
        pub state : State
        pub same : Same pl p state
        pub slot : At j state
        pub picks : (n : ℕ) → n < outputs pl → picked pl state (output_at pl n) ≡ nobody

      data Calm (j : ℕ) (s : State) : Type 0 where
        first : j ≡ 0 → s ≡ e → Calm j s
        reading : s.clock.phase ≡ Read → Inv pl s → Same pl p s → At j s → Calm j s
        executing : s.clock.phase ≡ Execute → Inv pl s → Same pl p s → At j s → Calm j s
        writing : s.clock.phase ≡ Write → Inv pl s → Same pl p s → At j s → (d : State) → Same pl p d → At j d
            → ((n : ℕ) → n < outputs pl → s.links.choice (output_at pl n) ≡ picked pl d (output_at pl n)) → Calm j s

      handled_s : (s : State) → Same pl p s → AllHandled pl s
      handled_s s k r h = by (handled_p r h)
        where
          by : (p.lines.queue (q_at r) ≡ []) ⊎ (p.lines.handled (q_at r) ≡ true)
              → (s.lines.queue (q_at r) ≡ []) ⊎ (s.lines.handled (q_at r) ≡ true)
          by (inl a) = inl (k.inner (q_at r) refl refl ∙ a)
          by (inr a) = inr (k.handled (q_at r) ∙ a)

      at_start : At 0 e
      at_start = sym (ap (λ (n : ℕ). n % S pl) (add-zero e.clock.slot.0) ∙ mod-eq_of_lt inv.core.slot)

      -- ---- the calls in each stage
      abbrev Next : ℕ → Call → State → Type 0
      Next j c s = Turn pl Calm Seen j c s

      -- the state after Execute where nothing ended: each output has picked in d
      executed : (j : ℕ) (s d : State) → s.clock.phase ≡ Execute → Inv pl s → Picks pl p d (do_execute pl s)
          → Same pl p d → At j d → Next j execute s
      executed j s d f i k m t =
          let g = turn_now pl s Execute f in
          let n : (call pl execute s).state ≡ do_execute pl s = ap (λ (r : Outcome). r.state) g in
          stays refl
          (writing (ap (λ (x : State). x.clock.phase) n ∙ write_phase pl s) (call_inv wired range execute s i)
          (rw n k.same) (ap (λ (x : State). x.clock.slot.0) n ∙ ap (λ (x : Slot). x.0) k.slot ∙ t) d m t
          (λ x h. ap (λ (y : State). y.links.choice (output_at pl x)) n ∙ k.picks x h))

      first_picks : Picks pl p p (do_execute pl e)
      unfolding do_execute p
      first_picks =
          let k = execute_rest pl p p (same_self pl p wires_p) in
          record {
            same =
                record {
                  inner = k.same.inner;
                  outs = k.same.outs;
                  handled = k.same.handled;
                  table = k.same.table;
                  credit = k.same.credit;
                  wires = k.same.wires;
                };
            slot = k.slot;
            picks = k.picks;
          }

      waits : (c : Call) → c ≢ execute → Next 0 c e
      waits c ne = let o = only_execute pl e phase c ne in stays o.1 (first refl o.0)

      at_first : (c : Call) → Next 0 c e
      at_first (turn Execute) =
          executed 0 e p phase inv first_picks (same_self pl p wires_p) (ap (λ (x : Slot). x.0) slot_p ∙ at_start)
      at_first (turn Read) = waits read (λ g. read_execute (turn_same g))
      at_first (turn Write) = waits write (λ g. execute_write (sym (turn_same g)))
      at_first (visit v) = waits (visit v) (λ g. visit_not v Execute g)

      -- a call that leaves the stage as it is
      reads_on : (j : ℕ) (c : Call) (s : State) → s.clock.phase ≡ Read → Inv pl s → At j s
          → ends_round c (call pl c s).answer ≡ 0 → Undisturbed pl p s (call pl c s).state → Next j c s
      reads_on j c s f i t z k = stays z
          (reading (k.phase ∙ f) (call_inv wired range c s i) k.same (ap (λ (x : Slot). x.0) k.slot ∙ t))

      executes_on : (j : ℕ) (c : Call) (s : State) → s.clock.phase ≡ Execute → Inv pl s → At j s
          → ends_round c (call pl c s).answer ≡ 0 → Undisturbed pl p s (call pl c s).state → Next j c s
      executes_on j c s f i t z k = stays z
          (executing (k.phase ∙ f) (call_inv wired range c s i) k.same (ap (λ (x : Slot). x.0) k.slot ∙ t))

      -- a phase's call outside its phase disturbs nothing, and ends no round
      out_of_phase : (x : Phase) (s : State) → Same pl p s → s.clock.phase ≢ x
          → (ends_round (turn x) (call pl (turn x) s).answer ≡ 0) × Undisturbed pl p s (call pl (turn x) s).state
      out_of_phase x s k ne =
          let g = turn_not pl s x ne in (
            ap (λ (r : Outcome). ends_round (turn x) r.answer) g ∙ refused_turns Write (turn x) WrongPhase,
            rw g (still pl p s k),
          )

      at_reading : (j : ℕ) (c : Call) (s : State) → s.clock.phase ≡ Read → Inv pl s → Same pl p s → At j s
          → Next j c s
      at_reading j (turn Read) s f i k t =
          let g = turn_now pl s Read f in
          let n : (call pl read s).state ≡ do_read pl s = ap (λ (r : Outcome). r.state) g in
          let d = read_stays pl p s k in
          stays refl (executing (ap (λ (x : State). x.clock.phase) n ∙ execute_phase pl s) (call_inv wired range read
          s i) (rw n d.same) (ap (λ (x : State). x.clock.slot.0) n ∙ ap (λ (x : Slot). x.0) d.slot ∙ t))
      at_reading j (turn Execute) s f i k t =
          let o = out_of_phase Execute s k (λ g. read_execute (sym f ∙ g)) in reads_on j execute s f i t o.0 o.1
      at_reading j (turn Write) s f i k t =
          let o = out_of_phase Write s k (λ g. read_write (sym f ∙ g)) in reads_on j write s f i t o.0 o.1
      at_reading j (visit v) s f i k t = reads_on j (visit v) s f i t refl (visit_undisturbed pl p s k v)

      at_executing : (j : ℕ) (c : Call) (s : State) → s.clock.phase ≡ Execute → Inv pl s → Same pl p s → At j s
          → Next j c s
      at_executing j (turn Execute) s f i k t = executed j s s f i (execute_picks pl p s k (handled_s s k)) k t
      at_executing j (turn Read) s f i k t =
          let o = out_of_phase Read s k (λ g. read_execute (sym g ∙ f)) in executes_on j read s f i t o.0 o.1
      at_executing j (turn Write) s f i k t =
          let o = out_of_phase Write s k (λ g. execute_write (sym f ∙ g)) in executes_on j write s f i t o.0 o.1
      at_executing j (visit v) s f i k t = executes_on j (visit v) s f i t refl (visit_undisturbed pl p s k v)

      module _ (j : ℕ) (s : State) (f : s.clock.phase ≡ Write) (i : Inv pl s) (k : Same pl p s) (t : At j s)
          (d : State) (m : Same pl p d) (v : At j d)
          (picks : (n : ℕ) → n < outputs pl → s.links.choice (output_at pl n) ≡ picked pl d (output_at pl n)) where
        writes_on : (c : Call) → ends_round c (call pl c s).answer ≡ 0 → Undisturbed pl p s (call pl c s).state
            → Next j c s
        writes_on c z w =
            stays z
            (writing (w.phase ∙ f) (call_inv wired range c s i) w.same (ap (λ (x : Slot). x.0) w.slot ∙ t) d m
            v
            (λ n h. ap (λ (x : Output → Choice). x (output_at pl n)) w.choice ∙ picks n h))

        -- a picked head moves
        sends : (n : ℕ) → n < outputs pl → (c : Choice) → s.links.choice (output_at pl n) ≡ c → is_nobody c ≡ false
            → MovesNow pl write s
        unfolding is_nobody
        sends n h nobody e b = absurd (true≢false b)
        sends n h (sender r) e b =
            let o : Output = output_at pl n in
            let g = (write_has s f i.shape).1 (output_at pl n) r (drives_at pl n h) e in
            let y = candidate_ready pl s (output_at pl n) g.queue g.ready in
            let left : (do_write pl s).lines.queue g.queue ≡ y.rest =
            write_takes pl s (output_at pl n) r g.queue y.head y.rest g.rank e y.queue n h refl in
            let now : (call pl write s).state ≡ do_write pl s = ap (λ (x : Outcome). x.state) (turn_now pl s Write f) in
            let a : length ((call pl write s).state.lines.queue g.queue) ≡ length y.rest =
            ap length (ap (λ (x : State). x.lines.queue g.queue) now ∙ left) in
            let c : length (s.lines.queue g.queue) ≡ suc (length y.rest) = ap length y.queue in (
              refl,
              inr
                  (g.queue, sender_exists pl (output_at pl n) r g.queue (drives_at pl n h) g.rank, omega arith),
            )

        -- nobody is picked: the round was seen
        unsent : ((n : ℕ) → n < outputs pl → is_nobody (s.links.choice (output_at pl n)) ≡ true) → Next j write s
        unfolding is_nobody
        unsent nil =
            let quiet : NoChoices pl s = λ o h. ap s.links.choice (sym (output_at_lem pl o h)) ∙ nobody_of
            (s.links.choice (output_at pl (output_number pl o))) (nil (output_number pl o) (output_below pl o h)) in
            let w = write_stays pl p s k quiet in
            let now = turn_now pl s Write f in
            let n : (call pl write s).state ≡ do_write pl s = ap (λ (x : Outcome). x.state) now in
            let slot : (do_write pl s).clock.slot.0 ≡ (e.clock.slot.0 + suc j) % S pl
            = ap (λ (x : Slot). x.0) w.1 ∙ ap (λ (x : ℕ). (x + 1) % S pl) t ∙ mod-add-mod (e.clock.slot.0 + j)
            (S pl) 1 ∙ ap (λ (x : ℕ). x % S pl) (plus_suc e.clock.slot.0 j) in
            ends (ap (λ (x : Outcome). ends_round write x.answer) now)
            (reading (ap (λ (x : State). x.clock.phase) n ∙ read_phase pl s) (call_inv wired range write s i)
            (rw n w.0) (ap (λ (x : State). x.clock.slot.0) n ∙ slot))
            (record {
              state = d;
              same = m;
              slot = v;
              picks = λ x h. sym (picks x h)
                  ∙ nobody_of (s.links.choice (output_at pl x)) (nil x h);
            })
          where
            plus_suc : (a b : ℕ) → a + b + 1 ≡ a + suc b
            plus_suc a b = omega arith

            nobody_of : (c : Choice) → is_nobody c ≡ true → c ≡ nobody
            nobody_of nobody b = refl
            nobody_of (sender r) b = absurd (false≢true b)

        at_writing : (c : Call) → Next j c s
        at_writing (turn Write) = by (find (outputs pl) (λ n. not (is_nobody (s.links.choice (output_at pl n)))))
          where
            by : Found (outputs pl) (λ n. not (is_nobody (s.links.choice (output_at pl n))))
                ⊎ ((n : ℕ) → n < outputs pl → not (is_nobody (s.links.choice (output_at pl n))) ≡ false)
                → Next j write s
            by (inl (n, h, b)) = moves (sends n h (s.links.choice (output_at pl n)) refl (not-true _ b))
            by (inr nil) = unsent (λ n h. not-false _ (nil n h))
        at_writing (turn Read) =
            let o = out_of_phase Read s k (λ g. read_write (sym g ∙ f)) in
            writes_on read o.0 o.1
        at_writing (turn Execute) =
            let o = out_of_phase Execute s k (λ g. execute_write (sym g ∙ f)) in
            writes_on execute o.0 o.1
        at_writing (visit v) = writes_on (visit v) refl (visit_undisturbed pl p s k v)

      goes_on : (j : ℕ) (c : Call) (s : State) → Calm j s → Next j c s
      goes_on j c s (first z g) = rw (z, g) (at_first c)
      goes_on j c s (reading f i k t) = at_reading j c s f i k t
      goes_on j c s (executing f i k t) = at_executing j c s f i k t
      goes_on j c s (writing f i k t d m v picks) = at_writing j s f i k t d m v picks c

      -- ---- every round was seen: no head finds credit
      module _ (seen : (j : ℕ) → j < S pl → Seen j) where
        -- a round in which an output is open
        open_round : (o : Output) → Drives pl o
            → (j : ℕ) × (j < S pl) × ((d : State) → Same pl p d → At j d → is_open d o ≡ true)
        open_round (of_active a) h = (0, omega (arith, range.slots.0), λ d k t. refl)
        open_round (of_passive a) h = (0, omega (arith, range.slots.0), λ d k t. refl)
        open_round (to_unit r) h = (0, omega (arith, range.slots.0), λ d k t. refl)
        open_round (from_unit r) h = (0, omega (arith, range.slots.0), λ d k t. refl)
        open_round (of_side r o) (hr, ho) = by (core_p.free_entry r o hr ho)
          where
            by : (t : ℕ) × (t < S pl) × (p.table r o t ≡ Free)
                → (j : ℕ) × (j < S pl) × ((d : State) → Same pl p d → At j d → is_open d (of_side r o) ≡ true)
            by (t, h, f) = at (slot_reached (S pl) e.clock.slot.0 t inv.core.slot h)
              where
                at : (j : ℕ) × (j < S pl) × ((e.clock.slot.0 + j) % S pl ≡ t)
                    → (j : ℕ) × (j < S pl) × ((d : State) → Same pl p d → At j d → is_open d (of_side r o) ≡ true)
                at (j, l, g) = (j, l, λ d k v. ap is_free (ap (d.table r o) (v ∙ g) ∙ k.table r o t ∙ f))

        -- the head in p is the head in any later state
        head_in : (d : State) → Same pl p d → (q : Queue) (x : Packet) (rest : List Packet) → is_in_queue q ≡ false
            → p.lines.queue q ≡ x ∷ rest → (more : List Packet) × (d.lines.queue q ≡ x ∷ more)
        head_in d k q x rest ni g = by (test (is_out_queue q))
          where
            by : (is_out_queue q ≡ true) ⊎ (is_out_queue q ≡ false) → (more : List Packet) ×
                (d.lines.queue q ≡ x ∷ more)
            by (inl b) = let o = k.outs q b in (rest ++ o.0, o.1 ∙ ap (λ (l : List Packet). l ++ o.0) g)
            by (inr b) = (rest, k.inner q b ni ∙ g)

        -- a unit's head is handled
        head_done : (r i : ℕ) (x : Packet) (rest : List Packet) → (r < R pl) × (i < 4)
            → p.lines.queue (Q r i) ≡ x ∷ rest → p.lines.handled (Q r i) ≡ true
        head_done r i x rest (h, l) g =
            subst (λ (z : Queue). p.lines.handled z ≡ true) same
            (by (handled_p (4 * r + i) (omega arith)) (subst (λ (z : Queue). p.lines.queue z ≡ x ∷ rest)
            (sym same) g))
          where
            same : q_at (4 * r + i) ≡ Q r i
            same =
                let a : (4 * r + i) / 4 ≡ r = omega arith in
                let b : (4 * r + i) % 4 ≡ i = omega arith in
                rw (a, b)

            by : (p.lines.queue (q_at (4 * r + i)) ≡ []) ⊎ (p.lines.handled (q_at (4 * r + i)) ≡ true)
                → p.lines.queue (q_at (4 * r + i)) ≡ x ∷ rest → p.lines.handled (q_at (4 * r + i)) ≡ true
            by (inl z) w =
                let v : [] ≡ x ∷ rest = sym z ∙ w in
                let z' : ◌≡◌ {A = ℕ} 0 1 = cc in
                absurd (omega arith)
            by (inr b) w = b

        -- a head that may leave: at a unit it is handled
        may_leave_lem : (d : State) → Same pl p d → (q : Queue) (x : Packet) (rest : List Packet) → Exists pl q
            → p.lines.queue q ≡ x ∷ rest → may_leave d q ≡ true
        may_leave_lem d k (active_out a) x rest h g = refl
        may_leave_lem d k (active_in a) x rest h g = refl
        may_leave_lem d k (passive_in a) x rest h g = refl
        may_leave_lem d k (passive_out a) x rest h g = refl
        may_leave_lem d k (U r a) x rest h g = refl
        may_leave_lem d k (Q r i) x rest h g = k.handled (Q r i) ∙ head_done r i x rest h g
        may_leave_lem d k (F b r o) x rest h g = refl
        may_leave_lem d k (K r a o) x rest h g = refl

        blocked : (q y : Queue) (x : Packet) (rest : List Packet) → Exists pl q → is_in_queue q ≡ false
            → p.lines.queue q ≡ x ∷ rest
            → next pl (heading_of x.kind) x.active x.passive q ≡ some y → (p.flow.credit y).0 ≡ 0
        unfolding candidate
        blocked q y x rest h ni g n = out (leaves q ni)
          where
            out : (o : Output) × (output_of q ≡ some o) → (p.flow.credit y).0 ≡ 0
            out (o, w) = at (open_round o drives)
              where
                drives : Drives pl o
                drives = output_drives pl q o h w

                goes : next_by pl o x ≡ some y
                goes = sym (next_by_lem pl q o x w) ∙ n

                closed : (d : State) → Same pl p d → is_open d o ≡ true → picked pl d o ≡ nobody
                    → (p.flow.credit y).0 ≡ 0
                closed d k b c = by (picked_none pl d o c)
                  where
                    stuck : candidate pl d o q ≡ false → (d.flow.credit y).0 ≡ 0
                    stuck z =
                        let l = head_in d k q x rest ni g in
                        no_credit (rw (l.1, may_leave_lem d k q x rest h g, goes) at z)
                      where
                        no_credit : ltb 0 (d.flow.credit y).0 ≡ false → (d.flow.credit y).0 ≡ 0
                        no_credit u = let v = ltb-false 0 (d.flow.credit y).0 u in omega arith

                    by : (is_open d o ≡ false)
                        ⊎ ((r : ℕ) (z : Queue) → of_rank (senders o) r ≡ some z → candidate pl d o z ≡ false)
                        → (p.flow.credit y).0 ≡ 0
                    by (inl z) = absurd (true≢false (sym b ∙ z))
                    by (inr nil) =
                        let r = ranked pl q o h w in
                        let z = stuck (nil r.0 q r.1) in
                        let l = k.credit y in
                        omega arith

                at : (j : ℕ) × (j < S pl) × ((d : State) → Same pl p d → At j d → is_open d o ≡ true)
                    → (p.flow.credit y).0 ≡ 0
                at (j, l, opens) =
                    let z = seen j l in
                    closed z.state z.same (opens z.state z.same z.slot) (ap (picked pl z.state)
                    (sym (output_at_lem pl o drives)) ∙ z.picks (output_number pl o) (output_below pl o drives))

        jammed : Jammed pl p
        jammed =
            record {
              core = core_p;
              wires = wires_p;
              flags = flags_p;
              handled = head_done;
              blocked = blocked;
            }

    -- ---- so a list with S whole rounds moves a packet
    pub from_execute : (set : Queue → Bool) → Closed pl set e → (q : Queue) (x : Packet) (rest : List Packet)
        → Exists pl q → is_in_queue q ≡ false → set q ≡ true → e.lines.queue q ≡ x ∷ rest
        → (cs : List Call) → S pl ≤ rounds pl cs e → Moves pl cs e
    unfolding p
    from_execute set c q x rest h ni b g cs n = by (units pl e own (4 * R pl) (omega arith))
      where
        ended : (r : ℕ) → r < 4 * R pl → Ends e r → Moves pl cs e
        ended r l w =
            let now : (call pl execute e).state ≡ do_execute pl e =
            ap (λ (o : Outcome). o.state) (turn_now pl e Execute phase) in
            until_execute (refl, rw now (ends_moves pl e r w l)) cs (omega (arith, range.slots.0))

        -- the packet is still there
        there : (u : Upto pl e own (4 * R pl) (up_to (unit_at pl) (4 * R pl) e)) (z : Queue) → Exists pl z
            → e.lines.queue z ≡ x ∷ rest
            → (y : Packet) × (more : List Packet) × ((up_to (unit_at pl) (4 * R pl) e).lines.queue z ≡ y ∷ more)
        there u z k w = at z k w
          where
            same : (z : Queue) → e.lines.queue z ≡ x ∷ rest → ((r : ℕ) → z ≢ q_at r)
                → (y : Packet) × (more : List Packet) × ((up_to (unit_at pl) (4 * R pl) e).lines.queue z ≡ y ∷ more)
            same z w ne = (x, rest, u.others z ne ∙ w)

            long : (z : Queue) (l : List Packet)
                → length ((up_to (unit_at pl) (4 * R pl) e).lines.queue z) ≡ length (e.lines.queue z)
                → (up_to (unit_at pl) (4 * R pl) e).lines.queue z ≡ l → e.lines.queue z ≡ x ∷ rest
                → (y : Packet) × (more : List Packet) × ((up_to (unit_at pl) (4 * R pl) e).lines.queue z ≡ y ∷ more)
            long z [] u v w =
                let a : 0 ≡ length (e.lines.queue z) = ap length (sym v) ∙ u in
                let d : length (e.lines.queue z) ≡ suc (length rest) = ap length w in
                absurd (omega arith)
            long z (y ∷ more) u v w = (y, more, v)

            as_long : (r i : ℕ) → i < 4 → length ((up_to (unit_at pl) (4 * R pl) e).lines.queue (Q r i))
                ≡ length (e.lines.queue (Q r i))
            as_long r i l =
                let a : (4 * r + i) / 4 ≡ r = omega arith in
                let b : (4 * r + i) % 4 ≡ i = omega arith in
                let same : q_at (4 * r + i) ≡ Q r i = rw (a, b) in
                subst (λ (z : Queue). length ((up_to (unit_at pl) (4 * R pl) e).lines.queue z)
                ≡ length (e.lines.queue z)) same (u.long (4 * r + i))

            at : (z : Queue) → Exists pl z → e.lines.queue z ≡ x ∷ rest
                → (y : Packet) × (more : List Packet) × ((up_to (unit_at pl) (4 * R pl) e).lines.queue z ≡ y ∷ more)
            at (active_out a) k w = same (active_out a) w (λ r f. let z : ◌≡◌ {A = ℕ} 0 1 = cc in omega arith)
            at (active_in a) k w = same (active_in a) w (λ r f. let z : ◌≡◌ {A = ℕ} 0 1 = cc in omega arith)
            at (passive_in a) k w = same (passive_in a) w (λ r f. let z : ◌≡◌ {A = ℕ} 0 1 = cc in omega arith)
            at (passive_out a) k w = same (passive_out a) w (λ r f. let z : ◌≡◌ {A = ℕ} 0 1 = cc in omega arith)
            at (U r i) k w = same (U r i) w (λ r f. let z : ◌≡◌ {A = ℕ} 0 1 = cc in omega arith)
            at (Q r i) k w = long (Q r i) ((up_to (unit_at pl) (4 * R pl) e).lines.queue (Q r i)) (as_long r i
                k.1) refl w
            at (F b r o) k w = same (F b r o) w (λ r f. let z : ◌≡◌ {A = ℕ} 0 1 = cc in omega arith)
            at (K r i o) k w = same (K r i o) w (λ r f. let z : ◌≡◌ {A = ℕ} 0 1 = cc in omega arith)

        closed_p : Upto pl e own (4 * R pl) (up_to (unit_at pl) (4 * R pl) e) → Closed pl set (up_to (unit_at pl)
            (4 * R pl) e)
        closed_p u =
            record {
              stays = c.stays;
              room = λ hd a z b q ha hz d k v m l. rw (u.others (passive_in b) (λ r w. let z : ◌≡◌ {A = ℕ} 0 1 = cc in
                  omega arith)) (c.room hd a z b q ha hz d k v m l);
            }

        stuck : (u : Upto pl e own (4 * R pl) (up_to (unit_at pl) (4 * R pl) e)) → ((j : ℕ) → j < S pl → Seen u j) → ⊥
        stuck u seen =
            let w = there u q h g in
            none_waits wired range free (up_to (unit_at pl) (4 * R pl) e) (jammed u seen) set (closed_p u) q w.0
            w.1 h ni
            b w.2

        rest_of : (u : Upto pl e own (4 * R pl) (up_to (unit_at pl) (4 * R pl) e))
            → Moves pl cs e ⊎ ((j : ℕ) → j < S pl → Seen u j) → Moves pl cs e
        rest_of u (inl m) = m
        rest_of u (inr seen) = absurd (stuck u seen)

        by : ((r : ℕ) × (r < 4 * R pl) × Ends e r) ⊎ Upto pl e own (4 * R pl) (up_to (unit_at pl) (4 * R pl) e)
            → Moves pl cs e
        by (inl (r, l, w)) = ended r l w
        by (inr u) = rest_of u (interval pl (Calm u) (Seen u) (goes_on u) (S pl) cs e (first refl refl) n)
