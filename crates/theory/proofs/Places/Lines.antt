-- The line of a queue: what a packet that joins it or leaves it keeps of Lined. And where a packet belongs, its queue
-- exists.
use mathlib.Core.Path.{◌≡◌, refl, sym, ap, ◌∙◌}
use mathlib.Core.Logic.{◌⊎◌, inl, inr, ◌≢◌}
use mathlib.Core.Bool.{Bool, true, false, false≢true}
use mathlib.Core.List.{List, [], ◌∷◌, ◌++◌}
use mathlib.Core.Option.{some}
use Prim.Native.Nat.{ℕ, ◌<◌}
use native.Mathlib.Omega.{arith}
use Rattle.basis.specs.Choice.{refuted}
use Rattle.basis.specs.Among.{In, in_either}
use Rattle.packets.specs.declared.Kind.{Kind}
use Rattle.packets.specs.declared.Kind.TheVariants.{Setup, Tdown, Ack, Nack}
use Rattle.packets.specs.declared.Packet.{Packet}
use Rattle.plan.specs.Plan.{Plan, R, A, P}
use Rattle.plan_walks.specs.Served.{Served}
use Rattle.plan_queues.specs.Queue.{Queue, active_out, active_in, passive_in, passive_out, U, Q, F, K, Exists}
use Rattle.plan_queues.specs.Role.{Role, sending, receiving, handling, passing, role, is_unit_as, is_unit, unit_or}
use Rattle.plan_queues.specs.Feeds.{Output, heading_of, output_of, in_queue, Ahead, Back, Fits, head_place_as}
use Rattle.plan_queues.specs.Feeds.{head_place}
use Rattle.plan_queues.specs.Feeds.{leaves_from}
use Rattle.plan_facts.specs.Wired.{Wired}
use Rattle.plan_journeys.proofs.Places.{may_exist, some_same, some_not_none}
use Rattle.plan_journeys.proofs.Fitting.{fits_visits}
use Rattle.rules.specs.Execute.{may_leave_as, may_leave}
use Rattle.rules.specs.State.{State}
use Rattle.rules.specs.Valid.{Belongs, Lined, Drives}
use Rattle.theory.specs.Invariant.{Marks}
use Rattle.theory.proofs.Places.CameIn.{stands_inside}

-- ---- marks
-- only a unit's queue has a mark
pub no_mark : (pl : Plan) (s : State) → Marks pl s → (q : Queue) → Exists pl q → is_unit q ≡ false
    → s.lines.handled q ≡ false
no_mark pl s m q h f = refuted (s.lines.handled q) (λ t. let g = m q h t in false≢true (sym f ∙ ap is_unit g.2))

-- an empty queue has none
pub empty_mark : (pl : Plan) (s : State) → Marks pl s → (q : Queue) → Exists pl q → s.lines.queue q ≡ []
    → s.lines.handled q ≡ false
empty_mark pl s m q h e = refuted (s.lines.handled q) (λ t. (m q h t).3 e)

-- the place of an unhandled head is its queue
pub head_unhandled : (q : Queue) → head_place false q ≡ in_queue q
head_unhandled q = by (role q)
  where
    by : (k : Role) → head_place_as k false q ≡ in_queue q
    by sending = refl
    by receiving = refl
    by (handling r i) = refl
    by passing = refl

-- the place of a head that may leave is the one that it leaves from
pub head_leaves : (s : State) (q : Queue) → may_leave s q ≡ true → head_place (s.lines.handled q) q ≡ leaves_from q
head_leaves s q t = by (role q) t
  where
    by : (k : Role) → may_leave_as k (s.lines.handled q) ≡ true
        → head_place_as k (s.lines.handled q) q ≡ head_place_as k true q
    by sending t = refl
    by receiving t = refl
    by (handling r i) t = rw t
    by passing t = refl

-- a head may leave if it is at no unit, or handled there
pub may_leave_lem : (s : State) (q : Queue) → ((r i : ℕ) → q ≡ Q r i → s.lines.handled q ≡ true) → may_leave s q ≡ true
may_leave_lem s q f = at (unit_or q)
  where
    by : (k : Role) → is_unit_as k ≡ false → may_leave_as k (s.lines.handled q) ≡ true
    by sending n = refl
    by receiving n = refl
    by (handling r i) n = absurd (false≢true (sym n))
    by passing n = refl

    at : ((r i : ℕ) × (q ≡ Q r i)) ⊎ (is_unit q ≡ false) → may_leave s q ≡ true
    at (inl (r, i, e)) = rw e (rw e at (f r i e))
    at (inr n) = by (role q) n

-- ---- lines
-- packets that belong in a queue are a line with an unhandled head
pub line_of : (pl : Plan) (q : Queue) (l : List Packet) → ((y : Packet) → In y l → Belongs pl (in_queue q) y)
    → Lined pl q false l
line_of pl q [] f = record {}
line_of pl q (x ∷ rest) f = (rw (head_unhandled q) (f x (inl refl)), λ y i. f y (inr i))

-- a packet that belongs in the queue joins its line; an empty line has no handled head
pub line_joined : (pl : Plan) (q : Queue) (done : Bool) (l : List Packet) (x : Packet) → (l ≡ [] → done ≡ false)
    → Belongs pl (in_queue q) x → Lined pl q done l → Lined pl q done (l ++ (x ∷ []))
line_joined pl q done [] x n b f = (rw (n refl) (rw (head_unhandled q) b), λ y i. absurd i)
line_joined pl q done (z ∷ rest) x n b f = (f.0, λ y i. by y (in_either y rest (x ∷ []) i))
  where
    by : (y : Packet) → In y rest ⊎ In y (x ∷ []) → Belongs pl (in_queue q) y
    by y (inl i) = f.1 y i
    by y (inr (inl e)) = rw e b
    by y (inr (inr i)) = absurd i

-- a line with a head is not empty
pub head_some : (x : Packet) (l : List Packet) → (x ∷ l) ≢ []
head_some x l e = let z : ◌≡◌ {A = ℕ} 0 1 = cc in omega arith

-- nor is one that a packet has joined
pub joined_some : (l : List Packet) (x : Packet) → (l ++ (x ∷ [])) ≢ []
joined_some [] x = head_some x []
joined_some (y ∷ l) x = head_some y (l ++ (x ∷ []))

-- ---- queues that exist
-- the output by which a queue of the plan is left is the plan's
pub output_drives : (pl : Plan) (q : Queue) (o : Output) → Exists pl q → output_of q ≡ some o → Drives pl o
output_drives pl (active_out x) o h e = rw (← some_same e) h
output_drives pl (active_in x) o h e = absurd (some_not_none e)
output_drives pl (passive_in x) o h e = absurd (some_not_none e)
output_drives pl (passive_out x) o h e = rw (← some_same e) h
output_drives pl (U r i) o h e = rw (← some_same e) h.0
output_drives pl (Q r i) o h e = rw (← some_same e) h.0
output_drives pl (F g r i) o h e = rw (← some_same e) h
output_drives pl (K r i j) o h e = rw (← some_same e) (h.0, h.2)

module _ {pl : Plan} (wired : Wired pl) where
  unit_exists : (k : Kind) (a p hub r i : ℕ) → a < A pl → p < P pl → Served pl a p
      → Fits pl k a p hub (in_queue (Q r i)) → (r < R pl) × (i < 4)
  unfolding Ahead Back
  unit_exists Setup a p hub r i ha hp s f = stands_inside wired a p ha hp s hub r i f
  unit_exists Tdown a p hub r i ha hp s (n, f, h, l) = stands_inside wired a p ha hp s n r i f
  unit_exists Ack a p hub r i ha hp s (f, e) = absurd f
  unit_exists Nack a p hub r i ha hp s f = absurd f

  -- the queue in which a packet belongs is the plan's
  pub belongs_exists : (q : Queue) (x : Packet) → Belongs pl (in_queue q) x → Exists pl q
  belongs_exists q x b = by q b.fits
    where
      at : (q : Queue) → Fits pl x.kind x.active x.passive x.hub.0 (leaves_from q) → Exists pl q
      at q f = may_exist wired x.active x.passive b.ranges.active b.ranges.passive b.serves
          (heading_of x.kind) q (fits_visits pl x.active x.passive x.kind x.hub.0 q f)

      by : (q : Queue) → Fits pl x.kind x.active x.passive x.hub.0 (in_queue q) → Exists pl q
      by (active_out y) f = at (active_out y) f
      by (active_in y) f = at (active_in y) f
      by (passive_in y) f = at (passive_in y) f
      by (passive_out y) f = at (passive_out y) f
      by (U r i) f = at (U r i) f
      by (Q r i) f = unit_exists x.kind x.active x.passive x.hub.0 r i b.ranges.active
          b.ranges.passive b.serves f
      by (F h r o) f = at (F h r o) f
      by (K r i o) f = at (K r i o) f
