-- What each moment of EXECUTE leaves to the next: turns of units, tear-downs of actives.
use mathlib.Core.Path.{◌≡◌, refl, ap, ◌∙◌}
use mathlib.Core.Bool.{true}
use Prim.Native.Nat.{ℕ, suc, ◌≤◌, ◌<◌, ◌*◌, ◌/◌, ◌%◌}
use native.Mathlib.Omega.{arith}
use Rattle.basis.specs.Fold.{up_to, up_keeps, up_keeps_at}
use Rattle.packets.specs.declared.Phase.TheVariants.{Execute}
use Rattle.plan.specs.Head.{InRange}
use Rattle.plan.specs.Plan.{Plan, R, A}
use Rattle.plan_queues.specs.Queue.{Q}
use Rattle.plan_facts.specs.Wired.{Wired}
use Rattle.rules.specs.Outputs.{output_at}
use Rattle.rules.specs.State.{State, Links}
use Rattle.rules.specs.Execute.{unit, unit_at, undo}
use Rattle.rules.proofs.Apart.{unit_same}
use Rattle.rules.proofs.OutNumbers.{drives_at}
use Rattle.theory.specs.Invariant.{Core}
use Rattle.theory.proofs.Ground.Cells.{queue_away}
use Rattle.theory.proofs.Account.Units.{unit_by}
use Rattle.theory.proofs.Shape.Calls.{execute_has}
use Rattle.theory.proofs.Keeps.{inv_of, unit_core, undo_core}
use Rattle.bytes_steps.specs.Acts.{In}
use Rattle.phase_pick.specs.Moments.{Picks}
use Rattle.phase_execute.specs.Moments.{Turn}

-- before the first unit's turn
pub turn_first : (pl : Plan) (s : State) → In pl Execute s → Turn pl 0 s
turn_first pl s i =
    let v = inv_of pl s i.good in
    let h = execute_has s i.phase v.shape in
    record { core = v.core; down = λ r i l k. h.2 (Q r i) k; choices = h.0 }

-- after the last one
pub picks_first : (pl : Plan) (n : ℕ) (s : State) → Turn pl n s → Picks pl 0 s
picks_first pl n s t =
    record { core = t.core; choices = λ m l k. t.choices (output_at pl m) (drives_at pl m k) }

module _ (pl : Plan) (r i : ℕ) (s : State) where
  -- a unit changes no other queue's flag
  flag_away : (n j : ℕ) → (n ≡ r → j ≡ i → ⊥) → (unit pl r i s).flow.flag (Q n j) ≡ s.flow.flag (Q n j)
  flag_away n j ne =
      unit_by pl s (λ (t : State). t.flow.flag (Q n j) ≡ s.flow.flag (Q n j)) r i refl (λ x y rest e m. refl)
      (λ x y rest o t b e m. refl)
      (λ x rest o t b e m. queue_away s.flow.flag (Q r i) true (Q n j)
      (λ z. let u = unit_same z in ne u.0 u.1))

  -- and neither wires nor choices
  links_stay : (unit pl r i s).links ≡ s.links
  links_stay =
      unit_by pl s (λ (t : State). t.links ≡ s.links) r i refl (λ x y rest e m. refl) (λ x y rest o t b e m. refl)
      (λ x rest o t b e m. refl)

module _ {pl : Plan} (wired : Wired pl) (range : InRange pl.head) where
  turn_next : (m : ℕ) (s : State) → m < 4 * R pl → Turn pl m s → Turn pl (suc m) (unit_at pl m s)
  turn_next m s h t =
      record {
        core = unit_core wired range (m / 4) (m % 4) s (omega arith, omega arith)
            (t.down (m / 4) (m % 4) (omega arith) (omega arith, omega arith)) t.core;
        down = λ n j l k. flag_away pl (m / 4) (m % 4) s n j (λ y z. omega arith) ∙ t.down n j (omega arith) k;
        choices = λ o d. ap (λ (l : Links). l.choice o) (links_stay pl (m / 4) (m % 4) s) ∙ t.choices o d;
      }

  -- the first n turns
  pub turns : (n : ℕ) (s : State) → n ≤ 4 * R pl → Turn pl 0 s → Turn pl n (up_to (unit_at pl) n s)
  turns n s l t = up_keeps_at (Turn pl) (unit_at pl) n s (λ i u h g. turn_next i u (omega arith) g) t

  -- the tear-downs of n actives
  pub undone : (n : ℕ) (s : State) → n ≤ A pl → Core pl s → Core pl (up_to (undo pl) n s)
  undone n s l c = up_keeps (Core pl) (undo pl) n s (λ i t h p. undo_core wired range i t (omega arith) p) c
