-- READ keeps the credits' part of the core: a packet that joins its queue leaves its wire, and a flag that is lowered
-- becomes a credit.
use mathlib.Core.Path.{◌≡◌, refl, sym, ap, subst, ◌∙◌}
use mathlib.Core.Logic.{◌⊎◌, inl, inr}
use mathlib.Core.Bool.{Bool, true, false}
use mathlib.Core.List.{[], ◌∷◌, ◌++◌}
use mathlib.Core.Option.{Option, some}
use native.Mathlib.Omega.{arith}
use lib.ListN.{length, length-append}
use Rattle.basis.specs.Choice.{test, not_both}
use Rattle.kinds.specs.declared.Credit.{Credit}
use Rattle.packets.specs.declared.Packet.{Packet}
use Rattle.packets.specs.declared.Wire.{Wire}
use Rattle.packets.specs.declared.Wire.TheVariants.{Empty, Full}
use Rattle.packets.specs.Counters.{credit_up}
use Rattle.plan.specs.Plan.{Plan}
use Rattle.plan_queues.specs.Queue.{Queue, Exists}
use Rattle.plan_queues.specs.Feeds.{Output}
use Rattle.plan_facts.specs.Wired.{Wired}
use Rattle.rules.specs.Store.{same_queue}
use Rattle.rules.specs.Outputs.{next_by}
use Rattle.rules.specs.State.{State, with_wire, join}
use Rattle.rules.specs.Read.{arrived, join_next, arrive, deliver, lower, settle}
use Rattle.rules.specs.Valid.{Drives, bit, goes_to, brings, on_wires, fed}
use Rattle.theory.specs.Invariant.{account, Core}
use Rattle.theory.proofs.Ground.Cells.{queue_away, same_turn, cell_sum, fed_apart, outputs_put}
use Rattle.theory.proofs.Account.Paid.{Paid, SameAccounts, Spared, paid_by, paid_of, next_fed, out_put}

module _ {pl : Plan} (wired : Wired pl) where
  joined_paid : (o : Output) (x : Packet) (n : Queue) (s : State) → Drives pl o → Paid pl s → s.links.wire o ≡ Full x
      → next_by pl o x ≡ some n → Paid pl (arrived n x (with_wire o Empty s))
  unfolding join account on_wires
  joined_paid o x n s d c e g = paid_by s (arrived n x (with_wire o Empty s)) c kept (λ q f. (refl, refl))
      (out_put s c n (s.lines.queue n ++ (x ∷ [])) (λ f. absurd (not_both wire_fed f)))
    where
      wire_fed : fed pl n ≡ true
      wire_fed = next_fed wired o x n d g

      kept : SameAccounts pl s (arrived n x (with_wire o Empty s))
      kept q f =
          let wire = outputs_put pl (brings pl q) s.links.wire o Empty d in
          let was : brings pl q o (s.links.wire o) ≡ bit (same_queue q n) = ap (brings pl q o) e ∙ ap (goes_to q) g
          ∙ ap bit (same_turn n q) in
          let queue = cell_sum length s.lines.queue n (s.lines.queue n ++ (x ∷ [])) 1 0
          (rw length-append (omega arith)) q in
          omega arith

  -- a wire's packet joins its queue
  pub deliver_paid : (o : Output) (s : State) → Drives pl o → Core pl s → Paid pl (deliver pl o s)
  unfolding deliver arrive
  deliver_paid o s d c = by (s.links.wire o) refl
    where
      by : (w : Wire) → s.links.wire o ≡ w → Paid pl (arrive pl o w s)
      by Empty e = paid_of c
      by (Full x) e =
          let g = c.wires o d x e in
          subst (λ (y : Option Queue). Paid pl (join_next y x (with_wire o Empty s))) (sym g.next)
          (joined_paid o x g.queue s d (paid_of c) e g.next)

-- a raised flag is a credit
pub settle_paid : {pl : Plan} (p : Queue) (s : State) → Exists pl p → Core pl s → Paid pl (settle p s)
unfolding settle lower account on_wires
settle_paid {pl} p s h c = by (s.flow.flag p) refl
  where
    flagged : s.flow.flag p ≡ true → (fed pl p ≡ true) ⊎ (fed pl p ≡ false) → fed pl p ≡ true
    flagged e (inl f) = f
    flagged e (inr f) = absurd (not_both e (c.out_flags p h f))

    by : (b : Bool) → s.flow.flag p ≡ b → Paid pl (lower p b s)
    by false e = paid_of c
    by true e = paid_by s (lower p true s) (paid_of c) kept spared c.out_capacities
      where
        kept : SameAccounts pl s (lower p true s)
        kept q f =
            let credit = cell_sum (λ (x : Credit). x.0) s.flow.credit p (credit_up (s.flow.credit p)) 1 0
            (omega arith) q in
            let flag = cell_sum bit s.flow.flag p false 0 1 (rw e (omega arith)) q in
            omega arith

        spared : Spared pl s (lower p true s)
        spared q f =
            let ne = fed_apart pl q p f (flagged e (test (fed pl p))) in (
              queue_away s.flow.credit p (credit_up (s.flow.credit p)) q ne,
              queue_away s.flow.flag p false q ne,
            )
