-- What calls do in WRITE. Each interface has a call there: a passive its Reply, an active its Drop. An accepted one
-- puts the flag of its in-queue up, so that no other is accepted; what others can is left. But for a Write no call does
-- anything else.
use mathlib.Core.Path.{◌≡◌, refl, sym, ap, subst, ◌∙◌}
use mathlib.Core.Logic.{◌⊎◌, inl, inr, ◌≢◌}
use mathlib.Core.Bool.{true, false}
use mathlib.Core.List.{List, ◌∷◌}
use mathlib.Core.Option.{Option, none, some}
use Prim.Native.Nat.{ℕ, ◌≤◌}
use native.Mathlib.Omega.{arith}
use lib.Dec.{ltb}
use borrow.Author.Tests.{ltb-true, le-leb, not-false}
use Rattle.basis.specs.Choice.{not_both}
use Rattle.kinds.specs.declared.Refusal.{Refusal}
use Rattle.packets.specs.declared.Packet.{Packet}
use Rattle.packets.specs.declared.Phase.TheVariants.{Write}
use Rattle.packets.specs.declared.Entry.{Entry}
use Rattle.packets.specs.declared.Remaining.{Remaining}
use Rattle.packets.specs.declared.Answer.TheVariants.{Done, Shows, Holds, Remains}
use Rattle.plan.specs.Plan.{Plan, Interface, active, passive, A, P, Has}
use Rattle.plan_queues.specs.Queue.{Queue, active_out, active_in, passive_in, passive_out, U, Q, F, K}
use Rattle.plan_facts.proofs.Heads.{and_both}
use Rattle.plan_journeys.proofs.Places.{some_same}
use Rattle.rules.specs.Store.{put, same_queue}
use Rattle.rules.specs.State.{State, join}
use Rattle.rules.specs.Visits.{reply_kind, replied, removed, noted}
use Rattle.rules.specs.Guards.{refusal_of, Passed}
use Rattle.rules.specs.Calls.{Visit, Call, turn, visit, write, reply, drop, Outcome, guards, accepted, decided, call}
use Rattle.rules.proofs.Apart.{read_write}
use Rattle.theory.specs.Does.{Visited, launches, replies, looks, drops, closes, tells, counts, Does, refuses, turns}
use Rattle.theory.specs.Does.{visits}
use Rattle.theory.proofs.Cases.{noted_keeps}
use Rattle.theory.proofs.Does.{call_does, done_not, done_accepted}
use Rattle.theory.proofs.Ground.Cells.{queue_or, queue_here, queue_away}

-- ---- an interface's own queues, and its call: a passive's has a choice
abbrev pub in_of : Interface → Queue
in_of (active a) = active_in a
in_of (passive p) = passive_in p

abbrev pub out_of : Interface → Queue
out_of (active a) = active_out a
out_of (passive p) = passive_out p

abbrev pub asks : Interface → ℕ → Call
asks (active a) d = drop a
asks (passive p) d = reply p d

-- whose a queue is
abbrev owner : Queue → Option Interface
owner (active_out a) = some (active a)
owner (active_in a) = some (active a)
owner (passive_in p) = some (passive p)
owner (passive_out p) = some (passive p)
owner (U r i) = none
owner (Q r i) = none
owner (F h r o) = none
owner (K r i o) = none

owner_in : (x : Interface) → owner (in_of x) ≡ some x
owner_in (active a) = refl
owner_in (passive p) = refl

owner_out : (x : Interface) → owner (out_of x) ≡ some x
owner_out (active a) = refl
owner_out (passive p) = refl

-- queues of two interfaces differ
apart : {x y : Interface} (j k : Queue) → owner j ≡ some x → owner k ≡ some y → x ≢ y → j ≢ k
apart j k p q n e = n (some_same (sym p ∙ ap owner e ∙ q))

interface_or : (x y : Interface) → (x ≡ y) ⊎ (x ≢ y)
interface_or x y = by (queue_or (in_of x) (in_of y))
  where
    by : (in_of x ≡ in_of y) ⊎ (in_of x ≢ in_of y) → (x ≡ y) ⊎ (x ≢ y)
    by (inl e) = inl (some_same (sym (owner_in x) ∙ ap owner e ∙ owner_in y))
    by (inr n) = inr (λ e. n (ap in_of e))

-- ---- an accepted call of an interface: its flag rises, and only its own queues change
pub record Acts (x : Interface) (s t : State) : Type 0 where
  pub phase : t.clock.phase ≡ s.clock.phase
  pub up : t.flow.flag (in_of x) ≡ true
  pub flag : (k : Queue) → k ≢ in_of x → t.flow.flag k ≡ s.flow.flag k
  pub queue : (k : Queue) → k ≢ in_of x → k ≢ out_of x → t.lines.queue k ≡ s.lines.queue k

reply_acts : (p d : ℕ) (x : Packet) (rest : List Packet) (s : State)
    → Acts (passive p) s (replied p (reply_kind d) (x ∷ rest) s)
unfolding join
reply_acts p d x rest s =
    record {
      phase = refl;
      up = queue_here s.flow.flag (passive_in p) true;
      flag = λ k n. queue_away s.flow.flag (passive_in p) true k n;
      queue = λ k n m.
          queue_away (put same_queue s.lines.queue (passive_in p) rest) (passive_out p) _ k m
          ∙ queue_away s.lines.queue (passive_in p) rest k n;
    }

drop_acts : (pl : Plan) (a : ℕ) (x : Packet) (rest : List Packet) (s : State)
    → Acts (active a) s (noted pl x (removed a rest s))
unfolding removed
drop_acts pl a x rest s =
    noted_keeps pl x (removed a rest s) (Acts (active a) s)
    (λ e. record { phase = refl; up = gone.up; flag = gone.flag; queue = gone.queue }) gone
  where
    gone : Acts (active a) s (removed a rest s)
    gone =
        record {
          phase = refl;
          up = queue_here s.flow.flag (active_in a) true;
          flag = λ k n. queue_away s.flow.flag (active_in a) true k n;
          queue = λ k n m. queue_away s.lines.queue (active_in a) rest k n;
        }

-- ---- a call in WRITE
pub data InWrite (s : State) : Call → Outcome → Type 0 where
  ends : (c : Call) (o : Outcome) → c ≡ write → InWrite s c o
  leaves : (c : Call) (o : Outcome) → o.state ≡ s → o.answer ≢ Done → InWrite s c o
  acts : (x : Interface) (d : ℕ) (o : Outcome) → o.answer ≡ Done → Acts x s o.state → InWrite s (asks x d) o

shows_not : {x : Packet} → Shows x ≢ Done
shows_not e = let z : ◌≡◌ {A = ℕ} 0 1 = cc in omega arith

holds_not : {x : Entry} → Holds x ≢ Done
holds_not e = let z : ◌≡◌ {A = ℕ} 0 1 = cc in omega arith

remains_not : {x : Remaining} → Remains x ≢ Done
remains_not e = let z : ◌≡◌ {A = ℕ} 0 1 = cc in omega arith

module _ (pl : Plan) (s : State) (now : s.clock.phase ≡ Write) where
  does_in : (c : Call) (o : Outcome) → Does pl s c o → InWrite s c o
  does_in c o (refuses d w n) = leaves d _ refl (λ f. done_not (sym f))
  does_in c o (turns x f) = ends (turn x) _ (ap turn (sym f ∙ now))
  does_in c o (visits v r d) = by v r d
    where
      by : (v : Visit) (r : Outcome) → Visited pl s v r → InWrite s (visit v) r
      by v r (launches a p t m) = absurd (read_write (sym m.phase ∙ now))
      by v r (replies p c x rest m) = acts (passive p) c _ refl (reply_acts p c x rest s)
      by v r (looks a x rest m) = leaves _ _ refl shows_not
      by v r (drops a x rest m) = acts (active a) 0 _ refl (drop_acts pl a x rest s)
      by v r (closes a p t m) = absurd (read_write (sym m.phase ∙ now))
      by v r (tells i q t m) = leaves _ _ refl holds_not
      by v r counts = leaves _ _ refl remains_not

  pub in_write : (c : Call) → InWrite s c (call pl c s)
  in_write c = does_in c (call pl c s) (call_does pl s c)

-- ---- which interface can, and with what choice
module _ (pl : Plan) (d : ℕ) where
  same_guards : (x : Interface) (s t : State) → t.clock.phase ≡ s.clock.phase
      → t.flow.flag (in_of x) ≡ s.flow.flag (in_of x) → t.lines.queue (in_of x) ≡ s.lines.queue (in_of x)
      → t.lines.queue (out_of x) ≡ s.lines.queue (out_of x)
      → refusal_of (guards pl (asks x d) t) ≡ refusal_of (guards pl (asks x d) s)
  same_guards (active a) s t e f q r = rw (e, f, q)
  same_guards (passive p) s t e f q r = rw (e, f, q, r)

  same_done : (x : Interface) (w : Option Refusal) (s t : State)
      → (decided w t (accepted pl (asks x d) t)).answer ≡ (decided w s (accepted pl (asks x d) s)).answer
  same_done (active a) none s t = refl
  same_done (active a) (some w) s t = refl
  same_done (passive p) none s t = refl
  same_done (passive p) (some w) s t = refl

  -- It is told by the phase, its flag and its two queues.
  same_can : (x : Interface) (s t : State) → t.clock.phase ≡ s.clock.phase
      → t.flow.flag (in_of x) ≡ s.flow.flag (in_of x) → t.lines.queue (in_of x) ≡ s.lines.queue (in_of x)
      → t.lines.queue (out_of x) ≡ s.lines.queue (out_of x)
      → (call pl (asks x d) t).answer ≡ (call pl (asks x d) s).answer
  unfolding call
  same_can x s t e f q r =
      ap (λ (w : Option Refusal). (decided w t (accepted pl (asks x d) t)).answer) (same_guards x s t e f q r)
      ∙ same_done x (refusal_of (guards pl (asks x d) s)) s t

  -- It is one of the plan's that can,
  passed_has : (x : Interface) (s : State) → Passed (guards pl (asks x d) s) → Has pl x
  passed_has (active a) s (e, (f, more)) = ltb-true a (A pl) (not-false _ f)
  passed_has (passive p) s (e, (f, more)) = ltb-true p (P pl) (and_both (not-false _ f)).0

  pub done_has : (x : Interface) (s : State) → (call pl (asks x d) s).answer ≡ Done → Has pl x
  done_has x s f = passed_has x s (done_accepted pl s (asks x d) f).0

  -- with any choice;
  pub any_choice : (x : Interface) (e : ℕ) (s : State) → e ≤ 1 → (call pl (asks x d) s).answer ≡ Done
      → (call pl (asks x e) s).answer ≡ Done
  unfolding call
  any_choice (active a) e s l f = f
  any_choice (passive p) e s l f = by (done_accepted pl s (reply p d) f).0
    where
      by : Passed (guards pl (reply p d) s) → (call pl (reply p e) s).answer ≡ Done
      by (now, (range, (down, (some-head, (room, more))))) =
          let has : ltb p (P pl) ≡ true = (and_both (not-false _ range)).0 in
          rw (now, has, le-leb e 1 l, down, some-head, room)

  passed_down : (x : Interface) (s : State) → Passed (guards pl (asks x d) s) → s.flow.flag (in_of x) ≡ false
  passed_down (active a) s (e, (f, (g, more))) = g
  passed_down (passive p) s (e, (f, (g, more))) = g

  -- and where its flag is up, none.
  pub up_cannot : (x : Interface) (s : State) → s.flow.flag (in_of x) ≡ true → (call pl (asks x d) s).answer ≢ Done
  up_cannot x s u f = not_both u (passed_down x s (done_accepted pl s (asks x d) f).0)

module _ (pl : Plan) (s : State) (now : s.clock.phase ≡ Write) where
  -- A call that is no Write stays in WRITE,
  pub stays_write : (c : Call) → c ≢ write → (call pl c s).state.clock.phase ≡ Write
  stays_write c n = by c (call pl c s) (in_write pl s now c) n
    where
      by : (c : Call) (o : Outcome) → InWrite s c o → c ≢ write → o.state.clock.phase ≡ Write
      by c o (ends d r e) n = absurd (n e)
      by c o (leaves d r e k) n = ap (λ (t : State). t.clock.phase) e ∙ now
      by c o (acts x d r e k) n = k.phase ∙ now

  -- and is an accepted one of the interface's own, or leaves what the interface can.
  pub own_or_left : (x : Interface) (c : Call) → c ≢ write
      → ((d : ℕ) × (c ≡ asks x d) × ((call pl c s).answer ≡ Done))
      ⊎ ((e : ℕ) → (call pl (asks x e) (call pl c s).state).answer ≡ (call pl (asks x e) s).answer)
  own_or_left x c n = by c (call pl c s) (in_write pl s now c) n
    where
      by : (c : Call) (o : Outcome) → InWrite s c o → c ≢ write
          → ((d : ℕ) × (c ≡ asks x d) × (o.answer ≡ Done))
          ⊎ ((e : ℕ) → (call pl (asks x e) o.state).answer ≡ (call pl (asks x e) s).answer)
      by c o (ends d r e) n = absurd (n e)
      by c o (leaves d r f k) n = inr (λ e. ap (λ (t : State). (call pl (asks x e) t).answer) f)
      by c o (acts y d r f k) n = at (interface_or x y)
        where
          at : (x ≡ y) ⊎ (x ≢ y)
              → ((e : ℕ) × (asks y d ≡ asks x e) × (r.answer ≡ Done))
              ⊎ ((e : ℕ) → (call pl (asks x e) r.state).answer ≡ (call pl (asks x e) s).answer)
          at (inl e) = inl (d, ap (λ (z : Interface). asks z d) (sym e), f)
          at (inr m) =
              let ins = apart (in_of x) (in_of y) (owner_in x) (owner_in y) m in
              let outs = apart (out_of x) (out_of y) (owner_out x) (owner_out y) m in
              let in-out = apart (in_of x) (out_of y) (owner_in x) (owner_out y) m in
              let out-in = apart (out_of x) (in_of y) (owner_out x) (owner_in y) m in
              inr (λ e. same_can pl e x s r.state k.phase (k.flag (in_of x) ins)
              (k.queue (in_of x) ins in-out) (k.queue (out_of x) out-in outs))

  -- An interface's call is accepted with its flag up then, or leaves the state.
  pub asked : (x : Interface) (d : ℕ)
      → ((call pl (asks x d) s).state.flow.flag (in_of x) ≡ true)
      ⊎ (((call pl (asks x d) s).state ≡ s) × ((call pl (asks x d) s).answer ≢ Done))
  asked x d = by (asks x d) (call pl (asks x d) s) (in_write pl s now (asks x d)) refl
    where
      not_write : (x : Interface) → asks x d ≢ write
      not_write (active a) e = let z : ◌≡◌ {A = ℕ} 0 1 = cc in omega arith
      not_write (passive p) e = let z : ◌≡◌ {A = ℕ} 0 1 = cc in omega arith

      whose : (x y : Interface) (e : ℕ) → asks y e ≡ asks x d → y ≡ x
      whose (active a) (active b) e f = cc
      whose (passive p) (passive q) e f = cc
      whose (active a) (passive q) e f = let z : ◌≡◌ {A = ℕ} 0 1 = cc in absurd (omega arith)
      whose (passive p) (active b) e f = let z : ◌≡◌ {A = ℕ} 0 1 = cc in absurd (omega arith)

      by : (c : Call) (o : Outcome) → InWrite s c o → c ≡ asks x d
          → (o.state.flow.flag (in_of x) ≡ true) ⊎ ((o.state ≡ s) × (o.answer ≢ Done))
      by c o (ends k r e) f = absurd (not_write x (sym f ∙ e))
      by c o (leaves k r e n) f = inr (e, n)
      by c o (acts y e r g k) f =
          inl (subst (λ (z : Interface). r.state.flow.flag (in_of z) ≡ true) (whose x y e f) k.up)

-- ---- an interface that can no more
abbrev pub Spent : Plan → Interface → State → Type 0
Spent pl x s = (d : ℕ) → (call pl (asks x d) s).answer ≢ Done

module _ (pl : Plan) (s : State) (now : s.clock.phase ≡ Write) (x : Interface) where
  -- after an accepted call of its own;
  pub done_spent : (d : ℕ) → (call pl (asks x d) s).answer ≡ Done → Spent pl x (call pl (asks x d) s).state
  done_spent d f e = by (asked pl s now x d)
    where
      by : ((call pl (asks x d) s).state.flow.flag (in_of x) ≡ true)
          ⊎ (((call pl (asks x d) s).state ≡ s) × ((call pl (asks x d) s).answer ≢ Done))
          → (call pl (asks x e) (call pl (asks x d) s).state).answer ≢ Done
      by (inl u) = up_cannot pl e x (call pl (asks x d) s).state u
      by (inr (same, n)) = absurd (n f)

  -- after any call of its own, whatever the answer;
  pub asked_spent : (d : ℕ) → d ≤ 1 → Spent pl x (call pl (asks x d) s).state
  asked_spent d l e = by (asked pl s now x d)
    where
      by : ((call pl (asks x d) s).state.flow.flag (in_of x) ≡ true)
          ⊎ (((call pl (asks x d) s).state ≡ s) × ((call pl (asks x d) s).answer ≢ Done))
          → (call pl (asks x e) (call pl (asks x d) s).state).answer ≢ Done
      by (inl u) = up_cannot pl e x (call pl (asks x d) s).state u
      by (inr (same, n)) =
          λ f. n (any_choice pl e x d s l (ap (λ (t : State). (call pl (asks x e) t).answer) (sym same) ∙ f))

  -- it stays so in WRITE.
  pub spent_next : (c : Call) → c ≢ write → Spent pl x s → Spent pl x (call pl c s).state
  spent_next c n k e = by (own_or_left pl s now x c n)
    where
      by : ((d : ℕ) × (c ≡ asks x d) × ((call pl c s).answer ≡ Done))
          ⊎ ((e : ℕ) → (call pl (asks x e) (call pl c s).state).answer ≡ (call pl (asks x e) s).answer)
          → (call pl (asks x e) (call pl c s).state).answer ≢ Done
      by (inl (d, f, g)) = absurd (k d (ap (λ (y : Call). (call pl y s).answer) (sym f) ∙ g))
      by (inr h) = λ g. k e (sym (h e) ∙ g)
