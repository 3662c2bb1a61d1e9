-- What a shape has in each phase; and Launch, Reply, Drop and Close keep it.
use mathlib.Core.Path.{◌≡◌, refl, sym, ap, ◌∙◌}
use mathlib.Core.Bool.{Bool, true}
use mathlib.Core.List.{List, ◌∷◌}
use Prim.Native.Nat.{ℕ}
use Rattle.packets.specs.declared.Kind.{Kind}
use Rattle.packets.specs.declared.Packet.{Packet}
use Rattle.packets.specs.declared.Wire.{Wire}
use Rattle.packets.specs.declared.Phase.TheVariants.{Read, Execute, Write}
use Rattle.plan.specs.Plan.{Plan}
use Rattle.plan_queues.specs.Queue.{active_in, passive_in, passive_out}
use Rattle.plan_queues.specs.Feeds.{Output}
use Rattle.plan_journeys.proofs.Places.{some_not_none}
use Rattle.rules.specs.State.{State, Choice, with_queue, with_flag, with_connection, join}
use Rattle.rules.specs.Visits.{launched, replied_as, replied, removed, noted, closed}
use Rattle.rules.proofs.Apart.{read_execute, read_write, execute_write}
use Rattle.theory.specs.Invariant.{WiresEmpty, FlagsDown, NoChoices, ChoicesSendable, Shape, in_read, in_execute}
use Rattle.theory.specs.Invariant.{in_write}
use Rattle.theory.proofs.Cases.{noted_keeps}
use Rattle.theory.proofs.Shape.Spared.{Spares, spared_sendable, spares_alike, spares_then, join_spares}
use Rattle.theory.proofs.Shape.Spared.{turn_spares, flag_spares}

-- ---- what a shape has, by phase
module _ {pl : Plan} (s : State) where
  -- in READ
  pub read_has : s.clock.phase ≡ Read → Shape pl s → NoChoices pl s
  read_has p (in_read e n) = n
  read_has p (in_execute e n w f) = n
  read_has p (in_write e w c) = absurd (read_write (sym p ∙ e))

  -- in EXECUTE
  pub execute_has : s.clock.phase ≡ Execute → Shape pl s → NoChoices pl s × WiresEmpty pl s × FlagsDown pl s
  execute_has p (in_read e n) = absurd (read_execute (sym e ∙ p))
  execute_has p (in_execute e n w f) = (n, w, f)
  execute_has p (in_write e w c) = absurd (execute_write (sym p ∙ e))

  -- in WRITE
  pub write_has : s.clock.phase ≡ Write → Shape pl s → WiresEmpty pl s × ChoicesSendable pl s
  write_has p (in_read e n) = absurd (read_write (sym e ∙ p))
  write_has p (in_execute e n w f) = absurd (execute_write (sym e ∙ p))
  write_has p (in_write e w c) = (w, c)

  -- ---- a change in WRITE that spares every output, and changes no wire and no choice
  pub spared_shape : (t : State) → t.clock.phase ≡ s.clock.phase → t.links.wire ≡ s.links.wire
      → t.links.choice ≡ s.links.choice → ((o : Output) → Spares pl s t o) → s.clock.phase ≡ Write → Shape pl s
      → Shape pl t
  spared_shape t p w c a q h =
      let g = write_has q h in
      in_write (p ∙ q) (λ o d. ap (λ (m : Output → Wire). m o) w ∙ g.0 o d)
      (λ o k d e. spared_sendable (a o) k (g.1 o k d (sym (ap (λ (m : Output → Choice). m o) c) ∙ e)))

  -- ---- a connection set or cleared
  pub connection_shape : (a p t : ℕ) (x : Bool) → Shape pl s → Shape pl (with_connection a p t x s)
  connection_shape a p t x (in_read e n) = in_read e n
  connection_shape a p t x (in_execute e n w f) = in_execute e n w f
  connection_shape a p t x (in_write e w c) =
      in_write e w (λ o k d q. spared_sendable (spares_alike s (with_connection a p t x s) refl refl refl refl) k
      (c o k d q))

  -- ---- the calls
  -- Launch, in READ
  pub launched_shape : (a p t : ℕ) → s.clock.phase ≡ Read → Shape pl s → Shape pl (launched a p t s)
  unfolding launched join
  launched_shape a p t q h = in_read q (read_has q h)

  -- Reply, in WRITE
  pub replied_shape : (p : ℕ) (k : Kind) (x : Packet) (rest : List Packet) → s.clock.phase ≡ Write → Shape pl s
      → Shape pl (replied p k (x ∷ rest) s)
  unfolding join
  replied_shape p k x rest q h = spared_shape (replied p k (x ∷ rest) s) refl refl refl spares q h
    where
      spares : (o : Output) → Spares pl s (replied p k (x ∷ rest) s) o
      spares o =
          spares_then s (with_queue (passive_in p) rest s) (replied p k (x ∷ rest) s)
          (turn_spares (passive_in p) (λ z. some_not_none z) rest s)
          (spares_then (with_queue (passive_in p) rest s) (with_flag (passive_in p) true
          (with_queue (passive_in p) rest s))
          (replied p k (x ∷ rest) s)
          (flag_spares (passive_in p) (λ z. some_not_none z) true (with_queue (passive_in p) rest s))
          (join_spares (passive_out p) (replied_as k x) (with_flag (passive_in p) true
          (with_queue (passive_in p) rest s))))

  -- Drop, in WRITE
  pub removed_shape : (a : ℕ) (rest : List Packet) → s.clock.phase ≡ Write → Shape pl s → Shape pl (removed a rest s)
  unfolding removed
  removed_shape a rest q h = spared_shape (removed a rest s) refl refl refl spares q h
    where
      spares : (o : Output) → Spares pl s (removed a rest s) o
      spares o =
          spares_then s (with_queue (active_in a) rest s) (removed a rest s)
          (turn_spares (active_in a) (λ z. some_not_none z) rest s)
          (spares_then (with_queue (active_in a) rest s) (with_flag (active_in a) true
          (with_queue (active_in a) rest s))
          (removed a rest s)
          (flag_spares (active_in a) (λ z. some_not_none z) true (with_queue (active_in a) rest s))
          (spares_alike (with_flag (active_in a) true (with_queue (active_in a) rest s)) (removed a rest s) refl refl
          refl
          refl))

  -- what it notes
  pub noted_shape : (x : Packet) → Shape pl s → Shape pl (noted pl x s)
  noted_shape x h = noted_keeps pl x s (Shape pl) (λ e. connection_shape x.active x.passive _ true h) h

  -- Close, in READ
  pub closed_shape : (a p t : ℕ) → s.clock.phase ≡ Read → Shape pl s → Shape pl (closed pl a p t s)
  unfolding closed join
  closed_shape a p t q h = in_read q (read_has q h)
