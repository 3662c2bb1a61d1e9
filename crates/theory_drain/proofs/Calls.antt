-- A call of a program that waits leaves all packets together no more steps; where wires are empty, fewer, or as many
-- and the state alike. Along a list in which a packet moves, fewer.
use mathlib.Core.Path.{◌≡◌, refl, sym, ap, subst, subst⁻¹, ◌∙◌}
use mathlib.Core.Logic.{◌⊎◌, inl, inr, ◌≢◌}
use mathlib.Core.Bool.{true}
use mathlib.Core.List.{List, [], ◌∷◌, ◌++◌}
use Prim.Native.Nat.{◌≤◌, ◌<◌}
use native.Mathlib.Omega.{arith}
use Rattle.packets.specs.declared.Packet.{Packet}
use Rattle.packets.specs.declared.Wire.{Wire}
use Rattle.packets.specs.declared.Phase.TheVariants.{Read, Execute, Write}
use Rattle.packets.specs.declared.Answer.TheVariants.{Done}
use Rattle.plan.specs.Head.{InRange}
use Rattle.plan.specs.Plan.{Plan}
use Rattle.plan_queues.specs.Queue.{active_in, passive_in}
use Rattle.plan_queues.specs.Feeds.{Output}
use Rattle.plan_facts.specs.Wired.{Wired}
use Rattle.rules.specs.State.{State}
use Rattle.rules.specs.Read.{do_read}
use Rattle.rules.specs.Visits.{reply_kind, removed, noted}
use Rattle.rules.specs.Calls.{Visit, Call, visit, Outcome, call}
use Rattle.rules.specs.Progress.{Moved}
use Rattle.rules.specs.Ruled.{ruled_after, Moves}
use Rattle.rules.proofs.Apart.{full_not}
use Rattle.theory.specs.Does.{Visited, launches, replies, looks, drops, closes, tells, counts, Does, refuses, turns}
use Rattle.theory.specs.Does.{visits}
use Rattle.theory.specs.Invariant.{WiresEmpty, Inv}
use Rattle.theory.specs.Weights.{weighed}
use Rattle.theory.proofs.Does.{call_does}
use Rattle.theory.proofs.Places.Closure.{active_answer}
use Rattle.theory.proofs.Cases.{noted_keeps}
use Rattle.theory.proofs.Keeps.{call_inv, reply_kind_lem}
use Rattle.theory.proofs.Shape.Calls.{execute_has, write_has}
use Rattle.theory.proofs.Weights.Moves.{core_head, connection_weighed}
use Rattle.theory.proofs.Weights.Changes.{replied_weighed, removed_weighed}
use Rattle.theory_drain.proofs.Ground.{wire_drives}
use Rattle.theory_drain.specs.Left.{left, all_left}
use Rattle.theory_drain.specs.Waits.{adds}
use Rattle.theory_drain.specs.AtTheEnd.{Calmly, Waiting}
use Rattle.theory_drain.proofs.Falling.{replied_left, dropped_left}
use Rattle.theory_drain.proofs.Steps.{Alike, Lowers, falls, stays, lowers_same, lowers_most}
use Rattle.theory_drain.proofs.Phases.{read_alike, read_left, execute_lowers, write_lowers}

module _ {pl : Plan} (wired : Wired pl) (range : InRange pl.head) where
  -- ---- the visits of a program that waits: answered, dropped, or nothing done
  noted_left : (x : Packet) (s : State) → all_left pl (noted pl x s) ≡ all_left pl s
  unfolding all_left
  noted_left x s =
      noted_keeps pl x s (λ (t : State). weighed pl (left pl) t ≡ weighed pl (left pl) s)
      (λ e. connection_weighed pl (left pl) x.active x.passive _ true s) refl

  visit_lowers : (v : Visit) (s : State) (o : Outcome) → Inv pl s → Visited pl s v o
      → (adds (visit v) ≡ true → o.answer ≢ Done) → Lowers pl s o.state
  unfolding all_left
  visit_lowers v s o i (launches a p t m) n = absurd (n refl refl)
  visit_lowers v s o i (replies p c x rest m) n =
      let b = core_head i.core (passive_in p) m.passive x rest m.line in
      let less = replied_left wired p (reply_kind c) x range.routers.1 (reply_kind_lem wired range c) b in
      let all = replied_weighed pl (left pl) i.core p m.passive (reply_kind c) x rest m.line in
      falls (omega arith)
  visit_lowers v s o i (looks a x rest m) n = lowers_same pl s s refl
  visit_lowers v s o i (drops a x rest m) n =
      let b = core_head i.core (active_in a) m.active x rest m.line in
      let k = active_answer wired x.active x.passive b.ranges.active b.ranges.passive b.serves
      x.kind x.hub.0 a b.fits in
      let one = dropped_left wired a x k.2 in
      let all = removed_weighed pl (left pl) s a m.active x rest m.line in
      let same = noted_left x (removed a rest s) in
      falls (omega arith)
  visit_lowers v s o i (closes a p t m) n = absurd (n refl refl)
  visit_lowers v s o i (tells r q t m) n = lowers_same pl s s refl
  visit_lowers v s o i counts n = lowers_same pl s s refl

  -- ---- a call: an accepted Read, or it lowers the sum
  does_lowers : (c : Call) (s : State) (o : Outcome) → Inv pl s → Does pl s c o → (adds c ≡ true → o.answer ≢ Done)
      → (o.state ≡ do_read pl s) ⊎ Lowers pl s o.state
  does_lowers c s o i (refuses d z n) k = inr (lowers_same pl s s refl)
  does_lowers c s o i (turns Read e) k = inl refl
  does_lowers c s o i (turns Execute e) k =
      inr (execute_lowers wired range s i.core (execute_has s e i.shape).2)
  does_lowers c s o i (turns Write e) k =
      let h = write_has s e i.shape in inr (write_lowers wired range s i.core h.0 h.1)
  does_lowers c s o i (visits v r d) k = inr (visit_lowers v s r i d k)

  reads_or_lowers : (c : Call) (s : State) → Inv pl s → Calmly pl c s
      → ((call pl c s).state ≡ do_read pl s) ⊎ Lowers pl s (call pl c s).state
  reads_or_lowers c s i k = does_lowers c s (call pl c s) i (call_does pl s c) k.none_added

  -- Where wires are empty, each lowers it.
  pub call_lowers : (c : Call) (s : State) → Inv pl s → WiresEmpty pl s → Calmly pl c s
      → Lowers pl s (call pl c s).state
  call_lowers c s i w k = by (reads_or_lowers c s i k)
    where
      by : ((call pl c s).state ≡ do_read pl s) ⊎ Lowers pl s (call pl c s).state → Lowers pl s (call pl c s).state
      by (inl e) =
          let l = read_left wired range s i.core in
          subst⁻¹ (Lowers pl s) e (stays (omega arith) (read_alike pl s w))
      by (inr l) = l

  -- No call of a program that waits raises it.
  call_most : (c : Call) (s : State) → Inv pl s → Calmly pl c s → all_left pl (call pl c s).state ≤ all_left pl s
  call_most c s i k = by (reads_or_lowers c s i k)
    where
      by : ((call pl c s).state ≡ do_read pl s) ⊎ Lowers pl s (call pl c s).state
          → all_left pl (call pl c s).state ≤ all_left pl s
      by (inl e) =
          let f = ap (all_left pl) e in
          let l = read_left wired range s i.core in
          omega arith
      by (inr l) = lowers_most pl s (call pl c s).state l

  -- ---- along a list
  pub list_most : (cs : List Call) (s : State) → Inv pl s → Waiting pl cs s
      → all_left pl (ruled_after pl cs s) ≤ all_left pl s
  list_most [] s i w = omega arith
  list_most (c ∷ cs) s i (k, w) =
      let one = call_most c s i k in
      let rest = list_most cs (call pl c s).state (call_inv wired range c s i) w in
      omega arith

  pub list_inv : (cs : List Call) (s : State) → Inv pl s → Inv pl (ruled_after pl cs s)
  list_inv [] s i = i
  list_inv (c ∷ cs) s i = list_inv cs (call pl c s).state (call_inv wired range c s i)

  -- ---- a move lowers the sum
  still_not : (s t : State) → WiresEmpty pl s → Alike s t → Moved pl s t → ⊥
  still_not s t w a (inl (o, x, h, e, f)) = full_not (sym (w o (wire_drives pl o h)) ∙ e)
  still_not s t w a (inr (q, h, l)) = let e = a.long q in omega arith

  after_split : (before : List Call) (at : Call) (rest : List Call) (s : State) → Inv pl s → WiresEmpty pl s
      → Waiting pl (before ++ (at ∷ rest)) s
      → Moved pl (ruled_after pl before s) (call pl at (ruled_after pl before s)).state
      → all_left pl (ruled_after pl (before ++ (at ∷ rest)) s) < all_left pl s
  after_split [] at rest s i w (k, more) m = by (call_lowers at s i w k)
    where
      by : Lowers pl s (call pl at s).state → all_left pl (ruled_after pl rest (call pl at s).state) < all_left pl s
      by (falls l) = let n = list_most rest (call pl at s).state (call_inv wired range at s i) more in omega arith
      by (stays l a) = absurd (still_not s (call pl at s).state w a m)
  after_split (c ∷ before) at rest s i w (k, more) m =
      by (λ v. after_split before at rest (call pl c s).state (call_inv wired range c s i) v more m)
      (call_lowers c s i w k)
    where
      by : (WiresEmpty pl (call pl c s).state
          → all_left pl (ruled_after pl (before ++ (at ∷ rest)) (call pl c s).state) < all_left pl (call pl c s).state)
          → Lowers pl s (call pl c s).state
          → all_left pl (ruled_after pl (before ++ (at ∷ rest)) (call pl c s).state) < all_left pl s
      by rec (falls l) =
          let n = list_most (before ++ (at ∷ rest)) (call pl c s).state (call_inv wired range c s i) more in
          omega arith
      by rec (stays l a) = let n = rec (λ o d. ap (λ (f : Output → Wire). f o) a.wire ∙ w o d) in omega arith

  -- Along a list from empty wires in which a packet moves, the sum falls.
  pub moves_fall : (cs : List Call) (s : State) → Inv pl s → WiresEmpty pl s → Waiting pl cs s → Moves pl cs s
      → all_left pl (ruled_after pl cs s) < all_left pl s
  moves_fall cs s i w k m =
      subst (λ (l : List Call). all_left pl (ruled_after pl l s) < all_left pl s) (sym m.split)
      (after_split m.before m.at m.rest s i w (subst (λ (l : List Call). Waiting pl l s) m.split k)
      m.moved)
