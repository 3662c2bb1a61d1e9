-- What is picked moves: after WRITE the queue of a picked head has lost it. A tear-down that ends has left its Q after
-- EXECUTE.
use mathlib.Core.Path.{◌≡◌, refl, sym, ap, ◌∙◌}
use mathlib.Core.Logic.{◌⊎◌, inl, inr, ◌≢◌}
use mathlib.Core.Bool.{true, false, true≢false}
use mathlib.Core.List.{List, [], ◌∷◌}
use mathlib.Core.Option.{Option, none, some}
use Prim.Native.Nat.{ℕ, suc, ◌<◌}
use native.Mathlib.Omega.{arith}
use Rattle.basis.specs.Choice.{pick, test}
use Rattle.basis.specs.Bounded.{below_suc}
use Rattle.basis.specs.Fold.{up_to, up_keeps_at}
use Rattle.packets.specs.declared.Packet.{Packet}
use Rattle.plan.specs.Plan.{Plan}
use Rattle.plan_queues.specs.Queue.{Queue}
use Rattle.plan_queues.specs.Feeds.{Output}
use Rattle.plan_journeys.proofs.Places.{some_same, some_not_none}
use Rattle.rules.specs.Store.{put, same_queue, queue_same, same_output, same_output_lem, output_same}
use Rattle.rules.specs.Outputs.{next_by, senders, outputs, output_at}
use Rattle.rules.specs.State.{State, Links, Choice, nobody, sender, with_queue}
use Rattle.rules.specs.Write.{of_rank, raise, spend, send_head, send_by, send, do_write}
use Rattle.rules.proofs.Apart.{nobody_not, sender_same}
use Rattle.theory.proofs.Ground.Cells.{queue_away, output_away}
use Rattle.theory.proofs.Places.Feeders.{one_output}
use Rattle.theory.proofs.Places.Senders.{raise_queue, raise_links}

spend_queue : (y : Option Queue) (s : State) → ((spend y s).lines.queue ≡ s.lines.queue)
    × ((spend y s).links.choice ≡ s.links.choice)
spend_queue none s = (refl, refl)
spend_queue (some q) s = (refl, refl)

-- what sending by an output does to queues and choices
pub data Sent (pl : Plan) (o : Output) (s : State) : Type 0 where
  nothing : (send pl o s).lines.queue ≡ s.lines.queue → (send pl o s).links.choice ≡ s.links.choice
      → s.links.choice o ≡ nobody → Sent pl o s
  idle : (send pl o s).lines.queue ≡ s.lines.queue
      → (send pl o s).links.choice ≡ put same_output s.links.choice o nobody
      → ((k : ℕ) (q : Queue) (x : Packet) (rest : List Packet) → s.links.choice o ≡ sender k → of_rank (senders o) k
      ≡ some q → s.lines.queue q ≡ x ∷ rest → ⊥) → Sent pl o s
  goes : (k : ℕ) (q : Queue) (x : Packet) (rest : List Packet) → s.links.choice o ≡ sender k
      → of_rank (senders o) k ≡ some q → s.lines.queue q ≡ x ∷ rest
      → (send pl o s).lines.queue ≡ put same_queue s.lines.queue q rest
      → (send pl o s).links.choice ≡ put same_output s.links.choice o nobody → Sent pl o s

pub sent : (pl : Plan) (o : Output) (s : State) → Sent pl o s
unfolding send send_by send_head
sent pl o s = by (s.links.choice o) refl
  where
    nil_cons : {x : Packet} {l : List Packet} → [] ≡ x ∷ l → ⊥
    nil_cons e = let z : ◌≡◌ {A = ℕ} 0 1 = cc in omega arith

    head : (k : ℕ) (q : Queue) → s.links.choice o ≡ sender k → of_rank (senders o) k ≡ some q → (l : List Packet)
        → s.lines.queue q ≡ l → Sent pl o s
    head k q c r [] e =
        idle (rw (c, send_by, r, e, send_head)) (rw (c, send_by, r, e, send_head))
        (λ m u x rest d f g. nil_cons
        (sym e ∙ ap s.lines.queue (some_same (sym r ∙ ap (of_rank (senders o)) (sender_same (sym c ∙ d)) ∙ f)) ∙ g))
    head k q c r (x ∷ rest) e =
        let b = spend_queue (next_by pl o x) (raise q (with_queue q rest s)) in
        goes k q x rest c r e (rw (c, send_by, r, e, send_head) (b.0 ∙ raise_queue q (with_queue q rest s)))
        (rw (c, send_by, r, e, send_head) (ap (λ (f : Output → Choice). put same_output f o nobody)
        (b.1 ∙ ap (λ (l : Links). l.choice) (raise_links q (with_queue q rest s)))))

    rank : (k : ℕ) → s.links.choice o ≡ sender k → (y : Option Queue) → of_rank (senders o) k ≡ y → Sent pl o s
    rank k c none r = idle (rw (c, send_by, r)) (rw (c, send_by, r))
        (λ m u x rest d f g. some_not_none (sym r ∙ ap (of_rank (senders o)) (sender_same (sym c ∙ d)) ∙ f))
    rank k c (some q) r = head k q c r (s.lines.queue q) refl

    by : (c : Choice) → s.links.choice o ≡ c → Sent pl o s
    by nobody c = nothing (rw (c, send_by)) (rw (c, send_by)) c
    by (sender k) c = rank k c (of_rank (senders o) k) refl

-- ---- one picked head through the whole of WRITE
module _ (pl : Plan) (s : State) (o : Output) (k : ℕ) (q : Queue) (x : Packet) (rest : List Packet)
    (r : of_rank (senders o) k ≡ some q) where
  -- not yet sent, or gone
  data Way (t : State) : Type 0 where
    waits : t.links.choice o ≡ sender k → t.lines.queue q ≡ x ∷ rest → Way t
    gone : t.links.choice o ≡ nobody → t.lines.queue q ≡ rest → Way t

  -- another output leaves it alone
  away : (u : Output) (t : State) → u ≢ o → ((send pl u t).lines.queue q ≡ t.lines.queue q)
      × ((send pl u t).links.choice o ≡ t.links.choice o)
  away u t ne = by (sent pl u t)
    where
      by : Sent pl u t → ((send pl u t).lines.queue q ≡ t.lines.queue q)
          × ((send pl u t).links.choice o ≡ t.links.choice o)
      by (nothing a b c) = (ap (λ (m : Queue → List Packet). m q) a, ap (λ (m : Output → Choice). m o) b)
      by (idle a b c) = (
        ap (λ (m : Queue → List Packet). m q) a,
        ap (λ (m : Output → Choice). m o) b
            ∙ output_away t.links.choice u nobody o (λ g. ne (sym g)),
      )
      by (goes j y z l c d e a b) = (
        ap (λ (m : Queue → List Packet). m q) a
            ∙ queue_away t.lines.queue y l q (λ g. ne (one_output u o j k q (rw (sym g) at d) r)),
        ap (λ (m : Output → Choice). m o) b ∙ output_away t.links.choice u nobody o (λ g. ne (sym g)),
      )

  -- its own output sends it
  own : (t : State) → Way t → Way (send pl o t) × ((send pl o t).links.choice o ≡ nobody)
  own t w = by (sent pl o t) w
    where
      cleared : (m : Output → Choice) → put same_output m o nobody o ≡ nobody
      cleared m = rw (output_same o, pick)

      by : Sent pl o t → Way t → Way (send pl o t) × ((send pl o t).links.choice o ≡ nobody)
      by (nothing a b c) (waits d e) = absurd (nobody_not (sym c ∙ d))
      by (nothing a b c) (gone d e) =
          let n : (send pl o t).links.choice o ≡ nobody = ap (λ (m : Output → Choice). m o) b ∙ c in
          (gone n (ap (λ (m : Queue → List Packet). m q) a ∙ e), n)
      by (idle a b c) (waits d e) = absurd (c k q x rest d r e)
      by (idle a b c) (gone d e) =
          let n : (send pl o t).links.choice o ≡ nobody = ap (λ (m : Output → Choice). m o) b
          ∙ cleared t.links.choice in
          (gone n (ap (λ (m : Queue → List Packet). m q) a ∙ e), n)
      by (goes j y z l c d e a b) (gone f g) = absurd (nobody_not (sym f ∙ c))
      by (goes j y z l c d e a b) (waits f g) =
          let n : (send pl o t).links.choice o ≡ nobody = ap (λ (m : Output → Choice). m o) b
          ∙ cleared t.links.choice in
          let same : y ≡ q = some_same (sym d ∙ ap (of_rank (senders o)) (sender_same (sym c ∙ f)) ∙ r) in
          let tail : l ≡ rest = tails (sym e ∙ ap t.lines.queue same ∙ g) in
          (gone n (ap (λ (m : Queue → List Packet). m q) a ∙ rw (same, queue_same q, pick) tail), n)
        where
          tails : {u v : Packet} {l m : List Packet} → u ∷ l ≡ v ∷ m → l ≡ m
          tails e = cc

  -- after the outputs below n: gone, or its output was not among them
  Passed : ℕ → State → Type 0
  Passed n t = Way t × (((m : ℕ) → m < n → output_at pl m ≢ o) ⊎ (t.links.choice o ≡ nobody))

  passes : (n : ℕ) (t : State) → Passed n t → Passed (suc n) (send pl (output_at pl n) t)
  unfolding Passed
  passes n t (w, d) = by (test (same_output (output_at pl n) o))
    where
      moved : Way t → ((send pl (output_at pl n) t).lines.queue q ≡ t.lines.queue q)
          × ((send pl (output_at pl n) t).links.choice o ≡ t.links.choice o) → Way (send pl (output_at pl n) t)
      moved (waits a b) (e, f) = waits (f ∙ a) (e ∙ b)
      moved (gone a b) (e, f) = gone (f ∙ a) (e ∙ b)

      still : output_at pl n ≢ o → ((m : ℕ) → m < n → output_at pl m ≢ o) ⊎ (t.links.choice o ≡ nobody)
          → ((m : ℕ) → m < suc n → output_at pl m ≢ o) ⊎ ((send pl (output_at pl n) t).links.choice o ≡ nobody)
      still ne (inl f) = inl (λ m h. at m (below_suc h))
        where
          at : (m : ℕ) → (m < n) ⊎ (m ≡ n) → output_at pl m ≢ o
          at m (inl l) = f m l
          at m (inr e) = rw e ne
      still ne (inr c) = inr ((away (output_at pl n) t ne).1 ∙ c)

      by : (same_output (output_at pl n) o ≡ true) ⊎ (same_output (output_at pl n) o ≡ false)
          → Passed (suc n) (send pl (output_at pl n) t)
      by (inl u) = let e = same_output_lem (output_at pl n) o u in let g = own t w in rw e (g.0, inr g.1)
      by (inr u) =
          let ne : output_at pl n ≢ o = λ e. true≢false (sym (output_same o) ∙ rw e at u) in
          (moved w (away (output_at pl n) t ne), still ne d)

  pub write_takes : s.links.choice o ≡ sender k → s.lines.queue q ≡ x ∷ rest → (m : ℕ) → m < outputs pl
      → output_at pl m ≡ o → (do_write pl s).lines.queue q ≡ rest
  unfolding do_write Passed
  write_takes c e m h at = by (up_keeps_at Passed (λ n. send pl (output_at pl n)) (outputs pl) s
      (λ n t l p. passes n t p) (waits c e, inl (λ i l. absurd (omega arith))))
    where
      end : State
      end = up_to (λ n. send pl (output_at pl n)) (outputs pl) s

      over : Way end → (end.links.choice o ≡ nobody) → end.lines.queue q ≡ rest
      over (waits a b) n = absurd (nobody_not (sym n ∙ a))
      over (gone a b) n = b

      by : Way end × (((i : ℕ) → i < outputs pl → output_at pl i ≢ o) ⊎ (end.links.choice o ≡ nobody))
          → end.lines.queue q ≡ rest
      by (w, inl f) = absurd (f m h at)
      by (w, inr n) = over w n
