-- A Close's TDOWN frees exactly its own connection's entries.
use mathlib.Core.Path.{◌≡◌, ap, ◌∙◌}
use mathlib.Core.Bool.{false}
use mathlib.Core.List.{List, [], ◌∷◌, ◌++◌}
use Prim.Native.Nat.{ℕ}
use Rattle.basis.specs.Among.{In}
use Rattle.plan.specs.Head.{InRange}
use Rattle.plan.specs.Plan.{Plan}
use Rattle.plan_queues.specs.Queue.{active_out}
use Rattle.plan_facts.specs.Wired.{Wired}
use Rattle.rules.specs.State.{State, start, has_connection, join}
use Rattle.rules.specs.Visits.{closing_of, closed}
use Rattle.rules.specs.Calls.{Call, close, call}
use Rattle.rules.specs.Connections.{connection}
use Rattle.rules.specs.Ruled.{ruled_after, accepted_after, Good}
use Rattle.theory.specs.Does.{MayClose}
use Rattle.theory.specs.Owners.{holder_of, Agreed}
use Rattle.theory.specs.Promises.{CloseFrees}
use Rattle.theory.proofs.Does.{close_done}
use Rattle.theory.proofs.Ground.Cells.{queue_here}
use Rattle.theory.proofs.Own.Listed.{connection_same, connection_at}
use Rattle.theory.proofs.Own.Made.{owns_makes, makes_owns, owned_booked}
use Rattle.theory.proofs.Own.Closing.{closing_owns}
use Rattle.theory.proofs.Tracked.{list_tracked, call_tracked, reached, tracked_good}

-- ---- what a Close leaves
-- The TDOWN is the last in the active's out-queue.
closed_joins : (pl : Plan) (a p t : ℕ) (s : State)
    → (closed pl a p t s).lines.queue (active_out a) ≡ s.lines.queue (active_out a) ++ (closing_of pl a p t ∷ [])
unfolding closed join
closed_joins pl a p t s =
    queue_here s.lines.queue (active_out a) (s.lines.queue (active_out a) ++ (closing_of pl a p t ∷ []))

-- The connection is not among the accepted ones.
closed_leaves : (pl : Plan) (a p t : ℕ) (s : State) → has_connection (closed pl a p t s) (connection a p t) ≡ false
unfolding closed join
closed_leaves pl a p t s =
    connection_at (connection a p t) (connection a p t) false (join (active_out a) (closing_of pl a p t) s)
    ∙ rw (connection_same (connection a p t))

module _ {pl : Plan} (wired : Wired pl) (range : InRange pl.head) where
  -- whatever follows a call after a list from Start, the state is not refused 7
  later_good : (cs : List Call) (c : Call) (ds : List Call)
      → Good pl (ruled_after pl ds (call pl c (ruled_after pl cs (start pl))).state)
  later_good cs c ds =
      let s : State = ruled_after pl cs (start pl) in
      tracked_good wired range (ruled_after pl ds (call pl c s).state)
      (list_tracked wired range ds _ _ _ (call pl c s).state (call_tracked wired range _ _ _ s
      (reached wired range cs) c))

  pub close_frees : CloseFrees pl
  close_frees cs a p t done =
      record {
        booked = owned_booked wired s (reached wired range cs).owned (connection a p t) here;
        leaves = ap (λ (u : State). has_connection u (connection a p t)) now.1 ∙ closed_leaves pl a p t s;
        joins = ap (λ (u : State). u.lines.queue (active_out a)) now.1 ∙ closed_joins pl a p t s;
        owns_made = λ r o u i m.
            closing_owns pl r o u (holder_of pl a p r) a p t now.0.slot
            ∙ makes_owns wired (connection a p t) agrees r o u i m;
        owns_only = λ r o u v h.
            owns_makes wired (connection a p t) agrees r o u v
            (rw (closing_owns pl r o u v a p t now.0.slot) at h);
        others = λ ds d h. (later_good cs (close a p t) ds).valid.ties.booked d h;
      }
    where
      s : State
      s = ruled_after pl cs (start pl)

      now : MayClose pl (ruled_after pl cs (start pl)) a p t
          × ((call pl (close a p t) (ruled_after pl cs (start pl))).state
          ≡ closed pl a p t (ruled_after pl cs (start pl)))
      now = close_done pl (ruled_after pl cs (start pl)) a p t done

      here : In (connection a p t) (accepted_after pl cs (start pl) [])
      here = (reached wired range cs).remembers.only (connection a p t) now.0.accepted

      agrees : Agreed pl (connection a p t)
      agrees = (reached wired range cs).owned.agreed (connection a p t) here
