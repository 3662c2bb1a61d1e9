-- Senders: what a raised flag leaves, which queues an output's senders are, and what a candidate has.
use mathlib.Core.Path.{◌≡◌, refl, ap, ◌∙◌}
use mathlib.Core.Logic.{◌⊎◌, inl, inr, ◌≢◌}
use mathlib.Core.Bool.{Bool, true, false}
use mathlib.Core.List.{List, [], ◌∷◌}
use mathlib.Core.Option.{Option, none, some}
use Prim.Native.Nat.{◌<◌}
use borrow.Author.Tests.{ltb-true}
use Rattle.basis.specs.Choice.{also_true, not_both, test}
use Rattle.packets.specs.declared.Packet.{Packet}
use Rattle.plan.specs.Plan.{Plan}
use Rattle.plan_queues.specs.Queue.{Queue}
use Rattle.plan_queues.specs.Role.{Role, sending, receiving, handling, passing, role, is_out_queue_as, is_out_queue}
use Rattle.plan_queues.specs.Feeds.{Output}
use Rattle.rules.specs.Store.{put, same_queue}
use Rattle.rules.specs.Outputs.{next_by}
use Rattle.rules.specs.State.{State, with_flag, with_handled}
use Rattle.rules.specs.Execute.{has_credit, may_leave, head_ready, candidate}
use Rattle.rules.specs.Write.{raise_as, raise}
use Rattle.theory.proofs.Ground.Cells.{queue_away}

-- ---- what raising a flag leaves
-- what neither a flag nor a mark changes stays as a flag is raised
pub raise_leaves : {X : Type 0} (f : State → X) → ((q : Queue) (b : Bool) (s : State) → f (with_flag q b s) ≡ f s)
    → ((q : Queue) (b : Bool) (s : State) → f (with_handled q b s) ≡ f s) → (q : Queue) (s : State)
    → f (raise q s) ≡ f s
raise_leaves f flags marks q s = by (role q)
  where
    by : (k : Role) → f (raise_as k q s) ≡ f s
    by sending = refl
    by receiving = flags q true s
    by (handling r i) = flags q true (with_handled q false s) ∙ marks q false s
    by passing = flags q true s

-- queues, credits, wires, choices and allowances stay
pub raise_queue : (q : Queue) (s : State) → (raise q s).lines.queue ≡ s.lines.queue
raise_queue = raise_leaves (λ s. s.lines.queue) (λ q b s. refl) (λ q b s. refl)

pub raise_credit : (q : Queue) (s : State) → (raise q s).flow.credit ≡ s.flow.credit
raise_credit = raise_leaves (λ s. s.flow.credit) (λ q b s. refl) (λ q b s. refl)

pub raise_links : (q : Queue) (s : State) → (raise q s).links ≡ s.links
raise_links = raise_leaves (λ s. s.links) (λ q b s. refl) (λ q b s. refl)

pub raise_allowance : (q : Queue) (s : State) → (raise q s).flow.allowance ≡ s.flow.allowance
raise_allowance = raise_leaves (λ s. s.flow.allowance) (λ q b s. refl) (λ q b s. refl)

-- another queue's mark stays
pub raise_handled : (q : Queue) (s : State) (p : Queue) → p ≢ q → (raise q s).lines.handled p ≡ s.lines.handled p
raise_handled q s p ne = by (role q)
  where
    by : (k : Role) → (raise_as k q s).lines.handled p ≡ s.lines.handled p
    by sending = refl
    by receiving = refl
    by (handling r i) = queue_away s.lines.handled q false p ne
    by passing = refl

-- the flag of a queue that is no out-queue rises
pub raise_flag : (q : Queue) (s : State) → is_out_queue q ≡ false
    → (raise q s).flow.flag ≡ put same_queue s.flow.flag q true
raise_flag q s f = by (role q) f
  where
    by : (k : Role) → is_out_queue_as k ≡ false → (raise_as k q s).flow.flag ≡ put same_queue s.flow.flag q true
    by sending f = absurd (not_both refl f)
    by receiving f = refl
    by (handling r i) f = refl
    by passing f = refl

-- an out-queue's flag stays
pub raise_none : (q : Queue) (s : State) → is_out_queue q ≡ true → (raise q s).flow.flag ≡ s.flow.flag
raise_none q s f = by (role q) f
  where
    by : (k : Role) → is_out_queue_as k ≡ true → (raise_as k q s).flow.flag ≡ s.flow.flag
    by sending f = refl
    by receiving f = absurd (not_both f refl)
    by (handling r i) f = absurd (not_both f refl)
    by passing f = absurd (not_both f refl)

-- another queue's flag stays
pub raise_other : (q : Queue) (s : State) (p : Queue) → p ≢ q → (raise q s).flow.flag p ≡ s.flow.flag p
raise_other q s p ne = by (test (is_out_queue q))
  where
    by : (is_out_queue q ≡ true) ⊎ (is_out_queue q ≡ false) → (raise q s).flow.flag p ≡ s.flow.flag p
    by (inl f) = ap (λ (m : Queue → Bool). m p) (raise_none q s f)
    by (inr f) = ap (λ (m : Queue → Bool). m p) (raise_flag q s f) ∙ queue_away s.flow.flag q true p ne

-- ---- senders
-- a candidate: its head, and its next queue, which has credit
pub record Ready (pl : Plan) (s : State) (o : Output) (q : Queue) : Type 0 where
  pub head : Packet
  pub rest : List Packet
  pub queue : s.lines.queue q ≡ head ∷ rest
  pub leaves : may_leave s q ≡ true
  pub next : Queue
  pub goes : next_by pl o head ≡ some next
  pub room : 0 < (s.flow.credit next).0

-- a candidate is ready
pub candidate_ready : (pl : Plan) (s : State) (o : Output) (q : Queue) → candidate pl s o q ≡ true → Ready pl s o q
unfolding candidate
candidate_ready pl s o q t = by (s.lines.queue q) refl t
  where
    credit : (x : Packet) (n : Option Queue) → next_by pl o x ≡ n → has_credit s n ≡ true
        → (y : Queue) × (next_by pl o x ≡ some y) × (0 < (s.flow.credit y).0)
    credit x none e h = absurd (not_both h refl)
    credit x (some y) e h = (y, e, ltb-true 0 (s.flow.credit y).0 h)

    by : (xs : List Packet) → s.lines.queue q ≡ xs → head_ready pl s o (may_leave s q) xs ≡ true → Ready pl s o q
    by [] e h = absurd (not_both h refl)
    by (x ∷ rest) e h =
        let both = also_true {a = may_leave s q} {b = has_credit s (next_by pl o x)} h in
        let g = credit x (next_by pl o x) refl both.1 in
        record { head = x; rest = rest; queue = e; leaves = both.0; next = g.0; goes = g.1; room = g.2 }
