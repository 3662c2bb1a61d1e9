-- 'In every WRITE where it can' says of a list from READ that at the end of each WRITE none can any more.
use mathlib.Core.Path.{◌≡◌, refl, sym, ap, subst, subst⁻¹, ◌∙◌}
use mathlib.Core.Logic.{◌⊎◌, inl, inr, ◌≢◌}
use mathlib.Core.Bool.{true}
use mathlib.Core.List.{List, [], ◌∷◌, ◌++◌, append_assoc, append-nil}
use Prim.Native.Nat.{ℕ}
use native.Mathlib.Omega.{arith}
use Rattle.packets.specs.declared.Phase.TheVariants.{Write}
use Rattle.packets.specs.declared.Answer.TheVariants.{Done}
use Rattle.plan.specs.Plan.{Plan, Interface, active, passive}
use Rattle.rules.specs.State.{State}
use Rattle.rules.specs.Write.{do_write}
use Rattle.rules.specs.Calls.{Call, execute, write, Outcome, call}
use Rattle.rules.specs.Progress.{ends_round}
use Rattle.rules.proofs.Apart.{read_write}
use Rattle.theory.proofs.Progress.Undisturbed.{turn_now}
use Rattle.theory_drain.specs.Waits.{adds, of_rules, after, Made, Could, WriteIn, first, ProgramWaits}
use Rattle.theory_drain.specs.AtTheEnd.{Willing, Calmly, Waiting, SameAtTheEnd}
use Rattle.theory_drain.proofs.Views.{after_append, waits_behind}
use Rattle.theory_drain.proofs.Lists.{after_ruled, waiting_append}
use Rattle.theory_drain.proofs.Write.{asks, Spent}
use Rattle.theory_drain.proofs.Turns.{Ends, ends_or, execute_opens, opens_or}
use Rattle.theory_drain.proofs.Along.{NoWrite, write_or, no_write_append, none_made, none_written, write_goes}
use Rattle.theory_drain.proofs.Along.{made_spent, could_made}

-- ---- none can any more: no interface
willing_spent : (pl : Plan) (s : State) → Willing pl s → (x : Interface) → Spent pl x s
willing_spent pl s w (active a) d = w.drops a
willing_spent pl s w (passive p) d = w.replies p d

pub spent_willing : (pl : Plan) (s : State) → ((x : Interface) → Spent pl x s) → Willing pl s
spent_willing pl s k = record { replies = λ p d. k (passive p) d; drops = λ a. k (active a) 0 }

module _ (pl : Plan) where
  -- ---- along the list: outside WRITE, or in the WRITE that an accepted Execute began, after some calls
  data Since (cs : List Call) : State → Type 0 where
    outside : (t : State) → t.clock.phase ≢ Write → ProgramWaits (of_rules pl) cs t → Since cs t
    inside : (s : State) (done : List Call) → (call pl execute s).answer ≡ Done → NoWrite done
        → ProgramWaits (of_rules pl) (execute ∷ (done ++ cs)) s
        → Since cs (after (of_rules pl) done (call pl execute s).state)

  module _ (s : State) (done : List Call) (c : Call) (cs : List Call) (opens : (call pl execute s).answer ≡ Done)
      (none : NoWrite done) (k : ProgramWaits (of_rules pl) (execute ∷ (done ++ (c ∷ cs))) s) where
    -- where the WRITE began, and where it is
    abbrev from : State
    from = (call pl execute s).state

    abbrev here : State
    here = after (of_rules pl) done from

    now : here.clock.phase ≡ Write
    now = write_goes pl done from (execute_opens pl s opens) none

    -- a Write ends it
    abbrev this : c ≡ write → WriteIn (of_rules pl) (execute ∷ (done ++ (c ∷ cs))) s
    this e =
        record {
          before = [];
          within = done;
          behind = cs;
          split = ap (λ (d : Call). execute ∷ (done ++ (d ∷ cs))) e;
          opens = opens;
          stays = none_made pl done from none;
          closes = ap (λ (o : Outcome). o.answer) (turn_now pl here Write now);
        }

    could_here : (x : Interface) (d : ℕ) → (call pl (asks x d) here).answer ≡ Done
        → Could (of_rules pl) (asks x d) done from
    could_here x d f = record { before = done; behind = []; split = sym (append-nil done); can = f }

    spent_here : c ≡ write → (x : Interface) → Spent pl x here
    spent_here e (passive p) d f =
        let r = k.replies (this e) p d (could_here (passive p) d f) in
        made_spent pl (passive p) r.0 done from (execute_opens pl s opens) none r.1 d f
    spent_here e (active a) d f =
        let r = k.drops (this e) a (could_here (active a) d f) in
        made_spent pl (active a) 0 done from (execute_opens pl s opens) none r d f

    calm_inside : Calmly pl c here
    calm_inside =
        record {
          none_added = λ a f. k.stops c a
              (record { before = execute ∷ done; behind = cs; split = refl; done = f });
          willing = λ r. by r (ends_or pl here c);
        }
      where
        by : ends_round c (call pl c here).answer ≡ 1
            → Ends pl here c (call pl c here) ⊎ (ends_round c (call pl c here).answer ≡ 0) → Willing pl here
        by r (inl (one, e, f, g)) = spent_willing pl here (spent_here e)
        by r (inr z) = absurd (omega arith)

    next_inside : Since cs (call pl c here).state
    unfolding do_write
    next_inside = by (write_or c)
      where
        by : (c ≡ write) ⊎ (c ≢ write) → Since cs (call pl c here).state
        by (inl e) =
            outside (call pl c here).state
            (λ f. read_write (sym (ap (λ (o : Outcome). o.state.clock.phase) (turn_now pl here Write now))
            ∙ ap (λ (d : Call). (call pl d here).state.clock.phase) (sym e) ∙ f))
            (waits_behind (of_rules pl) (c ∷ []) cs here (waits_behind (of_rules pl) (execute ∷ done) (c ∷ cs) s k))
        by (inr n) =
            subst (Since cs) (after_append (of_rules pl) done (c ∷ []) from)
            (inside s (done ++ (c ∷ [])) opens (no_write_append done (c ∷ []) none (n, record {}))
            (subst (λ (l : List Call). ProgramWaits (of_rules pl) (execute ∷ l) s)
            (sym (append_assoc done (c ∷ []) cs)) k))

  module _ (t : State) (c : Call) (cs : List Call) (out : t.clock.phase ≢ Write)
      (k : ProgramWaits (of_rules pl) (c ∷ cs) t) where
    calm_outside : Calmly pl c t
    calm_outside =
        record {
          none_added = λ a f. k.stops c a (record { before = []; behind = cs; split = refl; done = f });
          willing = λ r. by r (ends_or pl t c);
        }
      where
        by : ends_round c (call pl c t).answer ≡ 1
            → Ends pl t c (call pl c t) ⊎ (ends_round c (call pl c t).answer ≡ 0) → Willing pl t
        by r (inl (one, e, f, g)) = absurd (out f)
        by r (inr z) = absurd (omega arith)

    next_outside : Since cs (call pl c t).state
    next_outside = by (opens_or pl t c out)
      where
        by : ((c ≡ execute) × ((call pl c t).answer ≡ Done)) ⊎ ((call pl c t).state.clock.phase ≢ Write)
            → Since cs (call pl c t).state
        by (inl (e, f)) =
            subst (λ (d : Call). Since cs (call pl d t).state) (sym e)
            (inside t [] (ap (λ (d : Call). (call pl d t).answer) (sym e) ∙ f) (record {})
            (subst (λ (d : Call). ProgramWaits (of_rules pl) (d ∷ cs) t) e k))
        by (inr n) = outside (call pl c t).state n (waits_behind (of_rules pl) (c ∷ []) cs t k)

  since_waits : (cs : List Call) (t : State) → Since cs t → Waiting pl cs t
  since_waits [] t k = record {}
  since_waits (c ∷ cs) t k = (calm t k, since_waits cs (call pl c t).state (next t k))
    where
      calm : (t : State) → Since (c ∷ cs) t → Calmly pl c t
      calm t (outside u out k) = calm_outside t c cs out k
      calm t (inside s done o n k) = calm_inside s done c cs o n k

      next : (t : State) → Since (c ∷ cs) t → Since cs (call pl c t).state
      next t (outside u out k) = next_outside t c cs out k
      next t (inside s done o n k) = next_inside s done c cs o n k

  -- ---- and back: from the end of each WRITE to what was made in it
  waiting_behind : (cs ds : List Call) (s : State) → Waiting pl (cs ++ ds) s
      → Waiting pl ds (after (of_rules pl) cs s)
  waiting_behind cs ds s w = subst⁻¹ (Waiting pl ds) (after_ruled pl cs s) (waiting_append pl cs ds s w).1

  module _ {cs : List Call} {s : State} (k : Waiting pl cs s) where
    none_added : (c : Call) → adds c ≡ true → Made (of_rules pl) c cs s → ⊥
    none_added c a m =
        (waiting_behind m.before (c ∷ m.behind) s (subst (λ (l : List Call). Waiting pl l s) m.split k)).0.none_added a
        m.done

    -- at the end of a WRITE
    end_spent : (w : WriteIn (of_rules pl) cs s) (x : Interface)
        → Spent pl x (after (of_rules pl) w.within (first (of_rules pl) w))
    end_spent w x =
        let opened = waiting_behind w.before (execute ∷ (w.within ++ (write ∷ w.behind))) s
        (subst (λ (l : List Call). Waiting pl l s) w.split k) in
        let closed = waiting_behind w.within (write ∷ w.behind) (first (of_rules pl) w) opened.1 in
        willing_spent pl (after (of_rules pl) w.within (first (of_rules pl) w))
        (closed.0.willing (ap (ends_round write) w.closes)) x

    made_in : (w : WriteIn (of_rules pl) cs s) (x : Interface) (d : ℕ)
        → Could (of_rules pl) (asks x d) w.within (first (of_rules pl) w)
        → (e : ℕ) × Made (of_rules pl) (asks x e) w.within (first (of_rules pl) w)
    made_in w x d c =
        let now = execute_opens pl (after (of_rules pl) w.before s) w.opens in
        could_made pl x d w.within (first (of_rules pl) w) now
        (none_written pl w.within (first (of_rules pl) w) now w.stays) c (end_spent w x)

    program_waits : ProgramWaits (of_rules pl) cs s
    program_waits =
        record {
          stops = none_added;
          replies = λ w p c m. made_in w (passive p) c m;
          drops = λ w a m. (made_in w (active a) 0 m).1;
        }

  -- Both say the same.
  pub same_at_the_end : SameAtTheEnd pl
  same_at_the_end =
      record {
        told = λ cs s e k. since_waits cs s (outside s (λ f. read_write (sym e ∙ f)) k);
        tells = λ cs s k. program_waits k;
      }
