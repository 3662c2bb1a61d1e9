-- Every call does one of the things that specs/Does lists: its refusals taken one after another, once for all calls.
use mathlib.Core.Path.{◌≡◌, refl, sym, ap, ◌∙◌}
use mathlib.Core.Logic.{◌≢◌}
use mathlib.Core.Bool.{Bool, true, false, not, ◌&&◌, true≢false, false≢true}
use mathlib.Core.List.{List, [], ◌∷◌}
use mathlib.Core.Option.{Option, none, some}
use Prim.Native.Nat.{ℕ}
use native.Mathlib.Omega.{arith}
use lib.Dec.{eqb}
use borrow.Author.Tests.{ltb-true, leb-true, eqb-false, not-false}
use Rattle.basis.specs.Choice.{not_both, pick_same}
use Rattle.kinds.specs.Refusals.{refusal_number}
use Rattle.kinds.specs.declared.Refusal.{Refusal}
use Rattle.kinds.specs.declared.Refusal.TheVariants.{NotState}
use Rattle.packets.specs.declared.Packet.{Packet}
use Rattle.packets.specs.declared.Phase.{Phase}
use Rattle.packets.specs.declared.Phase.TheVariants.{Read, Write}
use Rattle.packets.specs.declared.Answer.{Answer}
use Rattle.packets.specs.declared.Answer.TheVariants.{Refused, Done}
use Rattle.plan.specs.Plan.{Plan, R, A, P, S}
use Rattle.plan_queues.specs.Queue.{active_in, passive_in}
use Rattle.plan_facts.proofs.Heads.{and_both}
use Rattle.plan_journeys.proofs.Places.{some_not_none}
use Rattle.rules.specs.State.{State}
use Rattle.rules.specs.Visits.{removed, noted, dropped, closed, is_empty, head_unmarked}
use Rattle.rules.specs.Guards.{Guard, refusal_of, Passed}
use Rattle.rules.specs.Calls.{Visit, of_launch, of_reply, of_look, of_drop, of_close, of_entry, of_remaining, Call}
use Rattle.rules.specs.Calls.{turn}
use Rattle.rules.specs.Calls.{visit, drop}
use Rattle.rules.specs.Calls.{close, Outcome, is_phase, launch_guards, reply_guards, look_guards, drop_guards}
use Rattle.rules.specs.Calls.{close_guards}
use Rattle.rules.specs.Calls.{entry_guards, guards, accepted, decided, call}
use Rattle.theory.specs.Does.{MayLaunch, MayDrop, MayClose, MayTell, Visited, launches, replies, looks, drops}
use Rattle.theory.specs.Does.{closes, tells, counts, Does, refuses, turns, visits}
use Rattle.rules.specs.Progress.{turns_call}
use Rattle.rules.proofs.Apart.{phase_of}

-- ---- a list of guards
-- none of its refusals is 7
abbrev pub no7 : List Guard → Bool
no7 [] = true
no7 (g ∷ gs) = not (eqb (refusal_number g.why) 7) && no7 gs

not_so : {b : Bool} → not b ≡ true → b ≡ false
not_so {b = true} h = absurd (false≢true h)
not_so {b = false} h = refl

-- what follows from the list's first refusal, or from none
by_guards : (F : Option Refusal → Type 0) (gs : List Guard) → no7 gs ≡ true
    → ((w : Refusal) → w ≢ NotState → F (some w)) → (Passed gs → F none) → F (refusal_of gs)
by_guards F [] n r a = a (record {})
by_guards F (g ∷ gs) n r a = by (λ e. by_guards F gs both.1 r (λ p. a (e, p))) g.holds refl
  where
    both : (not (eqb (refusal_number g.why) 7) ≡ true) × (no7 gs ≡ true)
    both = and_both n

    not7 : g.why ≢ NotState
    not7 e = not_both (ap (λ (w : Refusal). eqb (refusal_number w) 7) e) (not_so both.0)

    by : (g.holds ≡ false → F (refusal_of gs)) → (t : Bool) → g.holds ≡ t → F (refusal_of (g ∷ gs))
    by more true e = rw e (r g.why not7)
    by more false e = rw e (more e)

-- ---- what a visit that passed them found
module _ (pl : Plan) (s : State) where
  may_launch : (a p t : ℕ) → Passed (launch_guards pl a p t s) → MayLaunch pl s a p t
  may_launch a p t (e, (f, (g, (h, (r, n))))) =
      let x = and_both (not-false _ f) in
      let y = and_both x.0 in
      record {
        phase = phase_of s.clock.phase Read e;
        active = ltb-true a (A pl) y.0;
        passive = ltb-true p (P pl) y.1;
        slot = ltb-true t (S pl) x.1;
        serves = not-false _ g;
        allowance = let ne = eqb-false (s.flow.allowance a) 0 h in omega arith;
        room = not-false _ r;
      }

  replies_to : (p c : ℕ) (l : List Packet) → s.lines.queue (passive_in p) ≡ l → Passed (reply_guards pl p c s)
      → Visited pl s (of_reply p c) (accepted pl (visit (of_reply p c)) s)
  replies_to p c [] q (e, (f, (g, (h, (r, n))))) = absurd (true≢false (sym (ap is_empty q) ∙ h))
  replies_to p c (x ∷ rest) q (e, (f, (g, (h, (r, n))))) =
      let y = and_both (not-false _ f) in
      rw q
      (replies p c x rest
      (record {
        phase = phase_of s.clock.phase Write e;
        passive = ltb-true p (P pl) y.0;
        choice = leb-true c 1 y.1;
        down = g;
        line = q;
        room = not-false _ r;
      }))

  looks_at : (a : ℕ) (l : List Packet) → s.lines.queue (active_in a) ≡ l → Passed (look_guards pl a s)
      → Visited pl s (of_look a) (accepted pl (visit (of_look a)) s)
  looks_at a [] q (f, (h, n)) = absurd (true≢false (sym (ap is_empty q) ∙ h))
  looks_at a (x ∷ rest) q (f, (h, n)) =
      rw q (looks a x rest (record { active = ltb-true a (A pl) (not-false _ f); line = q }))

  -- the packet that a Drop removes, and those behind it
  abbrev pub DropFound : ℕ → Type 0
  DropFound a = (x : Packet) × (rest : List Packet) × MayDrop pl s a x rest

  drop_found : (a : ℕ) (l : List Packet) → s.lines.queue (active_in a) ≡ l → Passed (drop_guards pl a s) → DropFound a
  drop_found a [] q (e, (f, (g, (h, (u, n))))) = absurd (true≢false (sym (ap is_empty q) ∙ h))
  drop_found a (x ∷ rest) q (e, (f, (g, (h, (u, n))))) = (
    x,
    rest,
    record {
      phase = phase_of s.clock.phase Write e;
      active = ltb-true a (A pl) (not-false _ f);
      down = g;
      line = q;
      marked = sym (ap head_unmarked q) ∙ u;
    },
  )

  drops_from : (a : ℕ) → DropFound a → Visited pl s (of_drop a) (accepted pl (visit (of_drop a)) s)
  drops_from a (x, rest, m) = rw m.line (drops a x rest m)

  may_close : (a p t : ℕ) → Passed (close_guards pl a p t s) → MayClose pl s a p t
  may_close a p t (e, (f, (g, (h, (r, n))))) =
      let x = and_both (not-false _ f) in
      let y = and_both x.0 in
      record {
        phase = phase_of s.clock.phase Read e;
        active = ltb-true a (A pl) y.0;
        passive = ltb-true p (P pl) y.1;
        slot = ltb-true t (S pl) x.1;
        serves = not-false _ g;
        accepted = not-false _ h;
        room = not-false _ r;
      }

  may_tell : (r o t : ℕ) → Passed (entry_guards pl r o t) → MayTell pl r o t
  may_tell r o t (f, n) =
      let x = and_both (not-false _ f) in
      let y = and_both x.0 in
      record { router = ltb-true r (R pl) y.0; side = ltb-true o 4 y.1; slot = ltb-true t (S pl) x.1 }

  -- ---- every call
  accepted_visits : (v : Visit) → Passed (guards pl (visit v) s) → Visited pl s v (accepted pl (visit v) s)
  accepted_visits (of_launch a p t) g = launches a p t (may_launch a p t g)
  accepted_visits (of_reply p c) g = replies_to p c (s.lines.queue (passive_in p)) refl g
  accepted_visits (of_look a) g = looks_at a (s.lines.queue (active_in a)) refl g
  accepted_visits (of_drop a) g = drops_from a (drop_found a (s.lines.queue (active_in a)) refl g)
  accepted_visits (of_close a p t) g = closes a p t (may_close a p t g)
  accepted_visits (of_entry r o t) g = tells r o t (may_tell r o t g)
  accepted_visits of_remaining g = counts

  accepted_does : (c : Call) → Passed (guards pl c s) → Does pl s c (accepted pl c s)
  accepted_does (turn x) (e, n) = turns x (phase_of s.clock.phase x e)
  accepted_does (visit v) g = visits v (accepted pl (visit v) s) (accepted_visits v g)

  never_7 : (c : Call) → no7 (guards pl c s) ≡ true
  never_7 (turn x) = refl
  never_7 (visit (of_launch a p t)) = refl
  never_7 (visit (of_reply p c)) = refl
  never_7 (visit (of_look a)) = refl
  never_7 (visit (of_drop a)) = refl
  never_7 (visit (of_close a p t)) = refl
  never_7 (visit (of_entry r o t)) = refl
  never_7 (visit of_remaining) = refl

  -- Every call is refused or accepted so.
  pub call_does : (c : Call) → Does pl s c (call pl c s)
  unfolding call
  call_does c =
      by_guards (λ (w : Option Refusal). Does pl s c (decided w s (accepted pl c s))) (guards pl c s) (never_7 c)
      (λ w n. refuses c w n) (accepted_does c)

-- ---- what follows for every call
-- a refused call turns no phase
pub refused_turns : (x : Phase) (c : Call) (w : Refusal) → turns_call x c (Refused w) ≡ 0
refused_turns x (turn y) w = pick_same (is_phase y x) 0
refused_turns x (visit v) w = refl

pub done_not : {w : Refusal} → ◌≡◌ {A = Answer} Done (Refused w) → ⊥
done_not e = let z : ◌≡◌ {A = ℕ} 0 1 = cc in omega arith

module _ {pl : Plan} {s : State} where
  -- an accepted visit does not answer with a refusal
  visit_not_refused : {v : Visit} {o : Outcome} → Visited pl s v o → {w : Refusal} → o.answer ≡ Refused w → ⊥
  visit_not_refused (launches a p t m) e = done_not e
  visit_not_refused (replies p c x rest m) e = done_not e
  visit_not_refused (looks a x rest m) e = let z : ◌≡◌ {A = ℕ} 0 1 = cc in omega arith
  visit_not_refused (drops a x rest m) e = done_not e
  visit_not_refused (closes a p t m) e = done_not e
  visit_not_refused (tells r q t m) e = let z : ◌≡◌ {A = ℕ} 0 1 = cc in omega arith
  visit_not_refused counts e = let z : ◌≡◌ {A = ℕ} 0 1 = cc in omega arith

  -- a refused call leaves the state, and is not refused 7
  pub refused_leaves : {c : Call} {o : Outcome} → Does pl s c o → {w : Refusal} → o.answer ≡ Refused w
      → (o.state ≡ s) × (w ≢ NotState)
  refused_leaves (refuses d v n) {w} e = let same : v ≡ w = cc in (refl, λ k. n (same ∙ k))
  refused_leaves (turns x f) e = absurd (done_not e)
  refused_leaves (visits v o d) e = absurd (visit_not_refused d e)

-- ---- a call whose refusals do not apply
passed_none : (gs : List Guard) → refusal_of gs ≡ none → Passed gs
passed_none [] e = record {}
passed_none (g ∷ gs) e = by (λ f. passed_none gs f) g.holds refl
  where
    by : (refusal_of gs ≡ none → Passed gs) → (b : Bool) → g.holds ≡ b → Passed (g ∷ gs)
    by more true h = let f : some g.why ≡ none = rw h at e in absurd (some_not_none (sym f))
    by more false h = (h, more (rw h at e))

module _ (pl : Plan) (c : Call) (s : State) (e : refusal_of (guards pl c s) ≡ none) where
  -- gives what the rule gives
  pub call_accepted : call pl c s ≡ accepted pl c s
  unfolding call
  call_accepted = rw e

  -- which is no refusal
  pub accepted_not : (w : Refusal) → (accepted pl c s).answer ≢ Refused w
  accepted_not w f = by c (passed_none (guards pl c s) e) f
    where
      by : (c : Call) → Passed (guards pl c s) → (accepted pl c s).answer ≡ Refused w → ⊥
      by (turn x) g k = done_not k
      by (visit v) g k = visit_not_refused (accepted_visits pl s v g) k

-- ---- a call that is done
module _ (pl : Plan) (s : State) where
  -- passed its guards, and gives what the rule gives
  pub done_accepted : (c : Call) → (call pl c s).answer ≡ Done → Passed (guards pl c s) ×
      (call pl c s ≡ accepted pl c s)
  unfolding call
  done_accepted c f = by (refusal_of (guards pl c s)) refl f
    where
      by : (w : Option Refusal) → refusal_of (guards pl c s) ≡ w → (decided w s (accepted pl c s)).answer ≡ Done
          → Passed (guards pl c s) × (call pl c s ≡ accepted pl c s)
      by none e g = (passed_none (guards pl c s) e, call_accepted pl c s e)
      by (some w) e g = absurd (done_not (sym g))

  -- an accepted Close found what it asks, and left the closed state
  pub close_done : (a p t : ℕ) → (call pl (close a p t) s).answer ≡ Done
      → MayClose pl s a p t × ((call pl (close a p t) s).state ≡ closed pl a p t s)
  close_done a p t f =
      let g = done_accepted (close a p t) f in
      (may_close pl s a p t g.0, ap (λ (o : Outcome). o.state) g.1)

  -- an accepted Drop found what it asks, and left the state without the head
  pub drop_done : (a : ℕ) → (call pl (drop a) s).answer ≡ Done → (d : DropFound pl s a)
      × ((call pl (drop a) s).state ≡ noted pl d.0 (removed a d.1 s))
  drop_done a f =
      let g = done_accepted (drop a) f in
      let d = drop_found pl s a (s.lines.queue (active_in a)) refl g.0 in
      (d, ap (λ (o : Outcome). o.state) g.1 ∙ ap (λ (l : List Packet). dropped pl a l s) d.2.line)
