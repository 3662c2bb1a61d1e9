-- WRITE: each output's choice can still be sent when its turn comes, for two outputs never share a sender, a next
-- queue or a wire. After WRITE there are no choices.
use mathlib.Core.Path.{◌≡◌, refl, sym, ap, subst, ◌∙◌}
use mathlib.Core.Logic.{◌⊎◌, inl, inr, ◌≢◌}
use mathlib.Core.List.{List, [], ◌∷◌}
use mathlib.Core.Option.{Option, none, some}
use Prim.Native.Nat.{ℕ, suc, ◌≤◌, ◌<◌}
use native.Mathlib.Nat.{not-suc-le-zero}
use native.Mathlib.Omega.{arith}
use Rattle.basis.specs.Bounded.{below_suc}
use Rattle.basis.specs.Fold.{up_to, up_keeps_at}
use Rattle.packets.specs.declared.Packet.{Packet}
use Rattle.packets.specs.declared.Wire.TheVariants.{Empty, Full}
use Rattle.plan.specs.Plan.{Plan}
use Rattle.plan_queues.specs.Queue.{Queue}
use Rattle.plan_queues.specs.Feeds.{Output, heading_of, output_of}
use Rattle.plan_facts.specs.Wired.{Wired}
use Rattle.plan_journeys.proofs.Places.{some_same}
use Rattle.rules.specs.Outputs.{next_by, senders, outputs, output_at, output_number}
use Rattle.rules.specs.State.{State, Links, Choice, nobody, sender, with_queue, with_wire}
use Rattle.rules.specs.Write.{of_rank, raise, spend, send_head, send_from, send_by, send, do_write}
use Rattle.rules.specs.Valid.{Drives}
use Rattle.rules.proofs.OutNumbers.{output_at_lem, output_below, drives_at, at_apart}
use Rattle.theory.proofs.Ground.Cells.{output_here, output_away}
use Rattle.theory.specs.Invariant.{WiresEmpty, NoChoices, Sendable, ChoicesSendable, Shape, in_read}
use Rattle.theory.proofs.Cases.{turn_taken}
use Rattle.theory.proofs.Places.Feeders.{one_feeder, sender_leaves}
use Rattle.theory.proofs.Places.Senders.{raise_links}
use Rattle.theory.proofs.Shape.Spared.{Spares, spared_sendable, spares_alike, spares_then, turn_spares}
use Rattle.theory.proofs.Shape.Spared.{raise_spares, spend_spares}

-- what a head's sending makes of a state
abbrev pub sent_from : Plan → Output → Queue → Packet → List Packet → State → State
sent_from pl o q x rest s = with_wire o (Full x) (spend (next_by pl o x) (raise q (with_queue q rest s)))

-- an output's turn does nothing; or it is taken; or it is taken and the head of the sender that was picked is sent
pub send_by_lem : (pl : Plan) (s : State) (P : State → Type 0) (o : Output) → (s.links.choice o ≡ nobody → P s)
    → ((k : ℕ) → P (turn_taken o k s))
    → ((k : ℕ) (q : Queue) (x : Packet) (rest : List Packet) → s.links.choice o ≡ sender k → of_rank (senders o) k
    ≡ some q → s.lines.queue q ≡ x ∷ rest → P (turn_taken o k (sent_from pl o q x rest s)))
    → P (send pl o s)
unfolding send send_by send_head
send_by_lem pl s P o same cleared sent = by (s.links.choice o) refl
  where
    head : (k : ℕ) → s.links.choice o ≡ sender k → (q : Queue) → of_rank (senders o) k ≡ some q → (xs : List Packet)
        → s.lines.queue q ≡ xs → P (turn_taken o k (send_head pl o q xs s))
    head k e q r [] h = cleared k
    head k e q r (x ∷ rest) h = sent k q x rest e r h

    from : (k : ℕ) → s.links.choice o ≡ sender k → (y : Option Queue) → of_rank (senders o) k ≡ y
        → P (turn_taken o k (send_from pl o y s))
    from k e none r = cleared k
    from k e (some q) r = head k e q r (s.lines.queue q) refl

    by : (c : Choice) → s.links.choice o ≡ c → P (send_by pl o c s)
    by nobody e = same e
    by (sender k) e = from k e (of_rank (senders o) k) refl

spend_links : (y : Option Queue) (s : State) → (spend y s).links ≡ s.links
spend_links none s = refl
spend_links (some q) s = refl

module _ (pl : Plan) where
  -- ---- another output's wire and choice stay
  -- another output's wire stays
  pub send_wire : (o u : Output) (s : State) → u ≢ o → (send pl o s).links.wire u ≡ s.links.wire u
  send_wire o u s ne =
      send_by_lem pl s (λ (t : State). t.links.wire u ≡ s.links.wire u) o (λ e. refl) (λ k. refl)
      (λ k q x rest e r h. output_away (spend (next_by pl o x) (raise q (with_queue q rest s))).links.wire o (Full x) u
      ne
      ∙ ap (λ (l : Links). l.wire u)
      (spend_links (next_by pl o x) (raise q (with_queue q rest s)) ∙ raise_links q (with_queue q rest s)))

  sent_choice : (o u : Output) (q : Queue) (x : Packet) (rest : List Packet) (s : State)
      → (sent_from pl o q x rest s).links.choice u ≡ s.links.choice u
  sent_choice o u q x rest s = ap (λ (l : Links). l.choice u)
      (spend_links (next_by pl o x) (raise q (with_queue q rest s)) ∙ raise_links q (with_queue q rest s))

  -- another output's choice stays
  pub send_choice : (o u : Output) (s : State) → u ≢ o → (send pl o s).links.choice u ≡ s.links.choice u
  send_choice o u s ne =
      send_by_lem pl s (λ (t : State). t.links.choice u ≡ s.links.choice u) o (λ e. refl)
      (λ k. output_away s.links.choice o nobody u ne)
      (λ k q x rest e r h. output_away (sent_from pl o q x rest s).links.choice o nobody u ne
      ∙ sent_choice o u q x rest s)

  -- the output's own choice is cleared
  pub send_clears : (o : Output) (s : State) → (send pl o s).links.choice o ≡ nobody
  send_clears o s =
      send_by_lem pl s (λ (t : State). t.links.choice o ≡ nobody) o (λ e. e)
      (λ k. output_here s.links.choice o nobody)
      (λ k q x rest e r h. output_here (sent_from pl o q x rest s).links.choice o nobody)

  -- ---- after WRITE there are no choices
  abbrev sends : ℕ → State → State
  sends n = send pl (output_at pl n)

  -- after WRITE no output has a choice
  pub write_choices : (s : State) → NoChoices pl (do_write pl s)
  unfolding do_write
  write_choices s o d = subst (λ (u : Output). (up_to sends (outputs pl) s).links.choice u ≡ nobody)
      (output_at_lem pl o d)
      (all (output_number pl o) (output_below pl o d))
    where
      step : (i : ℕ) (t : State) → i < outputs pl → ((j : ℕ) → j < i → t.links.choice (output_at pl j) ≡ nobody)
          → (j : ℕ) → j < suc i → (send pl (output_at pl i) t).links.choice (output_at pl j) ≡ nobody
      step i t h p j l = by (below_suc l)
        where
          by : (j < i) ⊎ (j ≡ i) → (send pl (output_at pl i) t).links.choice (output_at pl j) ≡ nobody
          by (inl m) = send_choice (output_at pl i) (output_at pl j) t
              (at_apart pl j i (omega arith) h (λ z. omega arith)) ∙ p j m
          by (inr e) = rw e (send_clears (output_at pl i) t)

      all : (j : ℕ) → j < outputs pl → (up_to sends (outputs pl) s).links.choice (output_at pl j) ≡ nobody
      all = up_keeps_at (λ (n : ℕ) (t : State). (j : ℕ) → j < n → t.links.choice (output_at pl j) ≡ nobody) sends
          (outputs pl) s step (λ j l. absurd (not-suc-le-zero l))

  -- WRITE ends in the shape of READ
  pub write_shape : (s : State) → Shape pl (do_write pl s)
  unfolding do_write
  write_shape s = in_read refl (write_choices s)

  -- ---- what is still to come
  -- while the outputs below n have sent: from n on, wires are empty and choices can be sent
  abbrev pub Pending : ℕ → State → Type 0
  Pending n s = (j : ℕ) → n ≤ j → j < outputs pl → (s.links.wire (output_at pl j) ≡ Empty)
      × ((k : ℕ) → s.links.choice (output_at pl j) ≡ sender k → Sendable pl s (output_at pl j) k)

  -- before the first output's turn
  pub pending_start : (s : State) → WiresEmpty pl s → ChoicesSendable pl s → Pending 0 s
  pending_start s w c j l h = (w (output_at pl j) (drives_at pl j h), λ k e. c (output_at pl j) k (drives_at pl j h) e)

  -- the output whose turn it is
  pub pending_now : (n : ℕ) (s : State) → n < outputs pl → Pending n s → (s.links.wire (output_at pl n) ≡ Empty)
      × ((k : ℕ) → s.links.choice (output_at pl n) ≡ sender k → Sendable pl s (output_at pl n) k)
  pending_now n s h p = p n (omega arith) h

  module _ (wired : Wired pl) where
    -- an output's turn spares every other output
    pub send_spares : (o u : Output) (s : State) → Drives pl o → Drives pl u → u ≢ o → Spares pl s (send pl o s) u
    send_spares o u s d e ne =
        send_by_lem pl s (λ (t : State). Spares pl s t u) o (λ c. spares_alike s s refl refl refl refl)
        (λ k. spares_alike s (turn_taken o k s) refl refl refl refl) sent
      where
        sent : (k : ℕ) (q : Queue) (x : Packet) (rest : List Packet) → s.links.choice o ≡ sender k
            → of_rank (senders o) k ≡ some q → s.lines.queue q ≡ x ∷ rest
            → Spares pl s (turn_taken o k (sent_from pl o q x rest s)) u
        sent k q x rest c r h =
            spares_then s (with_queue q rest s) (turn_taken o k (sent_from pl o q x rest s))
            (turn_spares q out rest s)
            (spares_then (with_queue q rest s) (raise q (with_queue q rest s))
            (turn_taken o k (sent_from pl o q x rest s)) (raise_spares q out (with_queue q rest s))
            (spares_then (raise q (with_queue q rest s)) (spend (next_by pl o x) (raise q (with_queue q rest s)))
            (turn_taken o k (sent_from pl o q x rest s))
            (spend_spares (next_by pl o x) (raise q (with_queue q rest s)) away)
            (spares_alike (spend (next_by pl o x) (raise q (with_queue q rest s)))
            (turn_taken o k (sent_from pl o q x rest s)) refl refl refl refl)))
          where
            out : output_of q ≡ some u → ⊥
            out l = ne (some_same (sym l ∙ sender_leaves o k q r))

            away : (n : Queue) (y : Packet) → next_by pl o x ≡ some n → next_by pl u y ≡ some n → ⊥
            away n y i j =
                ne (one_feeder wired (heading_of y.kind) (heading_of x.kind) y.active y.passive x.active
                x.passive u o e d n j i)

    -- an output's turn
    pub send_pending : (n : ℕ) (s : State) → n < outputs pl → Pending n s → Pending (suc n) (send pl (output_at pl n) s)
    send_pending n s h p j l m =
        let ne = at_apart pl j n m h (λ z. omega arith) in
        let g = p j (omega arith) m in (
          send_wire (output_at pl n) (output_at pl j) s ne ∙ g.0,
          λ k e. spared_sendable (send_spares (output_at pl n) (output_at pl j) s (drives_at pl n h) (drives_at pl j m)
              ne) k (g.1 k (sym (send_choice (output_at pl n) (output_at pl j) s ne) ∙ e)),
        )
