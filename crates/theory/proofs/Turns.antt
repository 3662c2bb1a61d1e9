-- What outputs remember is in range, and stays so: only a sending changes it, to the rank of a sender whose head goes.
use mathlib.Core.Path.{◌≡◌, refl, sym, ap, subst, ◌∙◌}
use mathlib.Core.Bool.{false, true≢false}
use Prim.Native.Nat.{ℕ, ◌<◌}
use native.Mathlib.Omega.{arith}
use lib.ListN.{length}
use Rattle.packets.specs.declared.Packet.{Packet}
use Rattle.plan.specs.declared.Joint.{Joint}
use Rattle.plan.specs.declared.Joint.TheVariants.{Nothing, Router, Active, Passive}
use Rattle.plan.specs.Plan.{Plan, R}
use Rattle.plan_queues.specs.Feeds.{Output, of_active, of_passive, of_side, to_unit, from_unit, heading_of, across}
use Rattle.plan_facts.specs.Wired.{Wired}
use Rattle.plan_journeys.proofs.Places.{some_not_none}
use Rattle.rules.specs.Store.{put, same_output, same_output_lem, output_same}
use Rattle.rules.specs.Outputs.{senders, last_in_order}
use Rattle.rules.specs.State.{State, Choice, nobody, sender, blank, start}
use Rattle.rules.specs.Read.{do_read}
use Rattle.rules.specs.Execute.{do_execute}
use Rattle.rules.specs.Write.{of_rank, send_by, send, do_write}
use Rattle.rules.specs.Visits.{noted}
use Rattle.rules.specs.Valid.{Drives, is_joined, Turns}
use Rattle.rules.proofs.Numbers.{rank_below}
use Rattle.theory.specs.Invariant.{Sendable, WiresEmpty, FlagsDown, ChoicesSendable}
use Rattle.theory.proofs.Ground.Puts.{put_cases}
use Rattle.theory.proofs.Cases.{candidate_heads, noted_keeps}
use Rattle.theory.proofs.Own.Same.{last_apart, deliver_leaves, settle_leaves, choose_leaves, sent_leaves}
use Rattle.theory.proofs.Own.Same.{undo_leaves, unit_leaves}
use Rattle.theory.proofs.Shape.Phases.{read_keeps, execute_keeps, write_keeps}

-- a side that is not joined has nothing beyond it
no_joint : (j : Joint) → is_joined j ≡ false → j ≡ Nothing
no_joint Nothing e = refl
no_joint (Router n t) e = absurd (true≢false e)
no_joint (Active n) e = absurd (true≢false e)
no_joint (Passive n) e = absurd (true≢false e)

module _ (pl : Plan) where
  -- so no sender of it is a candidate
  pub unjoined_waits : (s : State) (r o k : ℕ) → is_joined (pl.joint r o) ≡ false → Sendable pl s (of_side r o) k → ⊥
  unjoined_waits s r o k z g =
      let h = candidate_heads pl (of_side r o) s g.queue g.ready in
      let x = h.packet in
      some_not_none (sym (ap (across pl (heading_of x.kind) x.active x.passive) (no_joint (pl.joint r o) z))
      ∙ h.next)

  -- ---- what is remembered stays
  -- Start: the last in order
  pub start_turns : Turns pl (start pl)
  unfolding start blank
  start_turns = record { ranks = λ o d. few o; unjoined = λ r o hr ho z. refl }
    where
      few : (o : Output) → last_in_order o < length (senders o)
      few (of_active a) = omega arith
      few (of_passive p) = omega arith
      few (of_side r o) = omega arith
      few (to_unit r) = omega arith
      few (from_unit r) = omega arith

  -- what leaves it as it is keeps it in range
  pub turns_alike : (s t : State) → t.last_sender ≡ s.last_sender → Turns pl s → Turns pl t
  turns_alike s t e u =
      let at : (o : Output) → t.last_sender o ≡ s.last_sender o = λ o. ap (λ (m : Output → ℕ). m o) e in
      record {
        ranks = λ o d. rw (at o) (u.ranks o d);
        unjoined = λ r o hr ho z. at (of_side r o) ∙ u.unjoined r o hr ho z;
      }

  -- what a dropped packet notes
  pub noted_last : (x : Packet) (s : State) → (noted pl x s).last_sender ≡ s.last_sender
  noted_last x s = noted_keeps pl x s (λ (t : State). t.last_sender ≡ s.last_sender) (λ e. refl) refl

  -- READ
  pub read_last : (s : State) → (do_read pl s).last_sender ≡ s.last_sender
  read_last s =
      read_keeps pl (λ (t : State). t.last_sender ≡ s.last_sender) s
      (λ o t d e. deliver_leaves last_apart pl t o ∙ e) (λ q t h e. settle_leaves last_apart pl t q ∙ e) (λ t e. e)
      refl

  -- EXECUTE
  pub execute_last : (s : State) → FlagsDown pl s → (do_execute pl s).last_sender ≡ s.last_sender
  execute_last s f =
      execute_keeps pl (λ (t : State). t.last_sender ≡ s.last_sender) s
      (λ r i t h d e. unit_leaves (λ c l. l) pl t r i ∙ e) (λ o t d e. choose_leaves last_apart pl t o ∙ e)
      (λ a t h e. undo_leaves last_apart pl t a ∙ e) (λ t e. e) f refl

  -- ---- a sending: where nobody was picked nothing changes, and else the rank that was picked is remembered
  pub send_last : (o : Output) (s : State) (k : ℕ) → s.links.choice o ≡ sender k
      → (send pl o s).last_sender ≡ put same_output s.last_sender o k
  unfolding send send_by
  send_last o s k e =
      ap (λ (c : Choice). (send_by pl o c s).last_sender) e
      ∙ ap (λ (m : Output → ℕ). put same_output m o k) (sent_leaves last_apart pl s o (of_rank (senders o) k))

  pub send_idle : (o : Output) (s : State) → s.links.choice o ≡ nobody → (send pl o s).last_sender ≡ s.last_sender
  unfolding send send_by
  send_idle o s e = ap (λ (c : Choice). (send_by pl o c s).last_sender) e

  -- and it is in range: who was picked is a candidate
  send_turns : (o : Output) (s : State) → ((k : ℕ) → s.links.choice o ≡ sender k → Sendable pl s o k) → Turns pl s
      → Turns pl (send pl o s)
  send_turns o s able u = by (s.links.choice o) refl
    where
      by : (c : Choice) → s.links.choice o ≡ c → Turns pl (send pl o s)
      by nobody e = turns_alike s (send pl o s) (send_idle o s e) u
      by (sender k) e =
          let g = able k e in
          let at : (v : Output) → (send pl o s).last_sender v ≡ put same_output s.last_sender o k v =
          λ v. ap (λ (m : Output → ℕ). m v) (send_last o s k e) in
          let ranks' = put_cases same_output output_same same_output_lem (λ (v : Output) (n : ℕ). Drives pl v
          → n < length (senders v)) s.last_sender o k (λ d. rank_below (senders o) k g.queue g.rank)
          (λ v ne. u.ranks v) in
          let joined' = put_cases same_output output_same same_output_lem
          (λ (v : Output) (n : ℕ). (r i : ℕ) → v ≡ of_side r i
          → r < R pl → i < 4 → is_joined (pl.joint r i) ≡ false → n ≡ last_in_order v) s.last_sender o k
          (λ r i same hr hi z. absurd (unjoined_waits s r i k z (subst (λ (v : Output). Sendable pl s v k) same g)))
          (λ v ne r i same hr hi z. subst (λ (v : Output). s.last_sender v ≡ last_in_order v) (sym same)
          (u.unjoined r i hr hi z)) in
          record {
            ranks = λ v d. rw (at v) (ranks' v d);
            unjoined = λ r i hr hi z. at (of_side r i) ∙ joined' (of_side r i) r i refl hr hi z;
          }

  -- WRITE
  pub write_turns : Wired pl → (s : State) → WiresEmpty pl s → ChoicesSendable pl s → Turns pl s
      → Turns pl (do_write pl s)
  write_turns wired s w c u =
      write_keeps pl (Turns pl) s wired (λ o t d z able v. send_turns o t able v) (λ t v. turns_alike t _ refl v) w c u
