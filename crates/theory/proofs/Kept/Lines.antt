-- Kept by a change of one queue's line: another line that fits, with its mark or without, a packet that joins, a head
-- that goes.
use mathlib.Core.Path.{◌≡◌}
use mathlib.Core.Logic.{◌≢◌}
use mathlib.Core.Bool.{Bool, true, false}
use mathlib.Core.List.{List, [], ◌∷◌, ◌++◌}
use Prim.Native.Nat.{ℕ}
use Rattle.basis.specs.Choice.{not_both}
use Rattle.basis.specs.Among.{In}
use Rattle.packets.specs.declared.Packet.{Packet}
use Rattle.plan.specs.Plan.{Plan}
use Rattle.plan_queues.specs.Queue.{Queue, Q, Exists}
use Rattle.plan_queues.specs.Feeds.{in_queue, head_place}
use Rattle.rules.specs.Store.{same_queue, same_queue_lem, queue_same}
use Rattle.rules.specs.State.{State, blank, with_queue, with_handled, join}
use Rattle.rules.specs.Valid.{Belongs, Lined, Bounded}
use Rattle.theory.proofs.Ground.Puts.{put_cases, put_outside, put_both}
use Rattle.theory.proofs.Places.Lines.{empty_mark, line_of, line_joined, joined_some}
use Rattle.theory.proofs.Kept.Parts.{Kept, lines_kept}

module _ {pl : Plan} {s : State} (k : Kept pl s) where
  abbrev b : Bounded pl s
  b = k.bounded

  -- ---- where the packets of a line belong
  -- its head where the mark says
  pub head_belongs : (q : Queue) (x : Packet) (rest : List Packet) → Exists pl q → s.lines.queue q ≡ x ∷ rest
      → Belongs pl (head_place (s.lines.handled q) q) x
  head_belongs q x rest h e = let l : Lined pl q (s.lines.handled q) (x ∷ rest) = rw e at (k.places q h) in l.0

  -- those behind it in the queue
  pub behind_belong : (q : Queue) (x : Packet) (rest : List Packet) → Exists pl q → s.lines.queue q ≡ x ∷ rest
      → (y : Packet) → In y rest → Belongs pl (in_queue q) y
  behind_belong q x rest h e = let l : Lined pl q (s.lines.handled q) (x ∷ rest) = rw e at (k.places q h) in l.1

  -- ---- changes
  -- a line replaced by one that fits, where a marked queue does not become empty
  pub line_kept : (q : Queue) (l : List Packet) → Exists pl q → Lined pl q (s.lines.handled q) l
      → (s.lines.handled q ≡ true → l ≢ []) → Kept pl (with_queue q l s)
  line_kept q l h f n =
      lines_kept k (with_queue q l s).lines (put_cases same_queue queue_same same_queue_lem
      (λ (x : Queue) (v : List Packet). Exists pl x → Lined pl x (s.lines.handled x) v) s.lines.queue q l
      (λ e. f) (λ x ne. k.places x))
      (put_cases same_queue queue_same same_queue_lem (λ (x : Queue) (v : List Packet). Exists pl x → s.lines.handled x
      ≡ true → (r i : ℕ) × (x ≡ Q r i) × (v ≢ [])) s.lines.queue q l
      (λ e t. let m = k.marks q e t in (m.0, m.1, m.2, n t)) (λ x ne. k.marks x))
      (put_outside same_queue queue_same same_queue_lem (Exists pl) s.lines.queue (blank pl).lines.queue q l h
      b.queue) b.handled

  -- the line and the mark of a queue replaced together
  pub mark_kept : (q : Queue) (done : Bool) (l : List Packet) → Exists pl q → Lined pl q done l
      → (done ≡ true → (r i : ℕ) × (q ≡ Q r i) × (l ≢ [])) → Kept pl (with_handled q done (with_queue q l s))
  mark_kept q done l h f n =
      lines_kept k (with_handled q done (with_queue q l s)).lines
      (put_both same_queue queue_same same_queue_lem (λ (x : Queue) (d : Bool) (v : List Packet). Exists pl x
      → Lined pl x d v) s.lines.handled s.lines.queue q done l (λ e. f) (λ x ne. k.places x))
      (put_both same_queue queue_same same_queue_lem (λ (x : Queue) (d : Bool) (v : List Packet). Exists pl x → d ≡ true
      → (r i : ℕ) × (x ≡ Q r i) × (v ≢ [])) s.lines.handled s.lines.queue q done l
      (λ e. n) (λ x ne. k.marks x))
      (put_outside same_queue queue_same same_queue_lem (Exists pl) s.lines.queue (blank pl).lines.queue q l h
      b.queue)
      (put_outside same_queue queue_same same_queue_lem (Exists pl) s.lines.handled (blank pl).lines.handled q done h
      b.handled)

  -- a packet joins the queue in which it belongs
  pub join_kept : (q : Queue) (x : Packet) → Exists pl q → Belongs pl (in_queue q) x → Kept pl (join q x s)
  unfolding join
  join_kept q x h f =
      line_kept q (s.lines.queue q ++ (x ∷ [])) h (line_joined pl q (s.lines.handled q) (s.lines.queue q) x
      (empty_mark pl s k.marks q h) f (k.places q h)) (λ t. joined_some (s.lines.queue q) x)

  -- an unhandled head goes
  pub gone_kept : (q : Queue) (x : Packet) (rest : List Packet) → Exists pl q → s.lines.queue q ≡ x ∷ rest
      → s.lines.handled q ≡ false → Kept pl (with_queue q rest s)
  gone_kept q x rest h e f =
      line_kept q rest h (rw f (line_of pl q rest (behind_belong q x rest h e))) (λ t. absurd (not_both t f))
