-- One output's turn: at every moment of WRITE a choice can be sent, and what the code stores is what the rule makes of
-- the state.
use mathlib.Core.Path.{◌≡◌, refl, sym, ap, ◌∙◌, subst}
use mathlib.Core.Logic.{◌⊎◌, inl, inr}
use mathlib.Core.Bool.{true, false}
use mathlib.Core.List.{List, ◌∷◌}
use mathlib.Core.Option.{Option, some}
use Prim.Native.Nat.{ℕ, suc, ◌+◌, ◌*◌, ◌-◌, ◌≤◌, ◌<◌}
use native.Mathlib.Omega.{arith}
use lib.ListN.{length, get_or, set}
use Rattle.basis.specs.Choice.{test}
use Rattle.kinds.specs.declared.Credit.{Credit}
use Rattle.packets.specs.declared.Packet.{Packet}
use Rattle.packets.specs.declared.Wire.TheVariants.{Full}
use Rattle.plan.specs.declared.Head.{Head}
use Rattle.plan.specs.Head.{InRange}
use Rattle.plan.specs.Plan.{Plan, A, P}
use Rattle.plan_queues.specs.Queue.{Queue, Exists, number}
use Rattle.plan_queues.specs.Feeds.{Output, Place, head_place}
use Rattle.plan_facts.specs.Wired.{Wired}
use Rattle.plan_journeys.proofs.Numbers.{number_below}
use Rattle.rules.specs.Outputs.{next_by, outputs, output_at}
use Rattle.rules.specs.State.{State, Choice, nobody, sender, with_queue, with_wire, with_choice, with_last_sender}
use Rattle.rules.specs.Write.{raise, spend, send_head, send_from, send_by, send}
use Rattle.rules.specs.Valid.{Belongs, fed}
use Rattle.rules.proofs.Numbers.{sender_exists}
use Rattle.rules.proofs.OutNumbers.{drives_at}
use Rattle.theory.specs.Invariant.{Core, Sendable, account}
use Rattle.theory.proofs.Places.Feeders.{sender_leaves}
use Rattle.theory.proofs.Places.Lines.{head_leaves, belongs_exists}
use Rattle.theory.proofs.Places.Makes.{next_belongs}
use Rattle.theory.proofs.Places.Senders.{raise_credit, candidate_ready}
use Rattle.theory.proofs.Kept.Parts.{kept_of}
use Rattle.theory.proofs.Kept.Lines.{head_belongs}
use Rattle.bytes_layout.specs.Offsets.{places, queue_row, output_row, turn_row}
use Rattle.bytes_layout.specs.Codes.{choice_of}
use Rattle.bytes_layout.specs.Encode.{encode}
use Rattle.bytes_layout.specs.Decode.{length_at, choice_at, capacity_most}
use Rattle.bytes_layout.proofs.Readings.{choice_at_lem, length_at_lem, credit_at_lem}
use Rattle.bytes_layout.proofs.Updates.{put_last_sender}
use Rattle.bytes_steps.specs.Acts.{Holds, Steps}
use Rattle.bytes_steps.specs.Counts.{output_count, outputs_from, turns_from}
use Rattle.next_queue.specs.Next.{number_or, AtUnit}
use Rattle.next_queue.proofs.Onward.{onward}
use Rattle.phase_read.proofs.Offsets.{range_counts, outputs_of, queues_of, output_row_lem, queue_row_lem, number_or_lem}
use Rattle.phase_read.proofs.Offsets.{turn_row_lem, first, queue_within, output_within, turn_within}
use Rattle.phase_write.specs.Writing.{sending, Leaves, Picking, sender_of, behind, left, Any, Headed, Sends}
use Rattle.phase_write.specs.Writing.{Takes, Enters}
use Rattle.phase_write.proofs.Senders.{sender_number}

-- a choice that is not 0 is the rank and one more
pub rank_is : {c k : ℕ} → (c ≡ 0 → ⊥) → k ≡ c - 1 → suc k ≡ c
rank_is n e = omega arith

-- ---- a choice that can be sent
module _ {pl : Plan} (wired : Wired pl) (range : InRange pl.head) where
  -- no queue has more than seven packets
  few : (s : State) → Core pl s → (q : Queue) → Exists pl q → length (s.lines.queue q) ≤ places
  unfolding account
  few s c q h = by (test (fed pl q))
    where
      by : (fed pl q ≡ true) ⊎ (fed pl q ≡ false) → length (s.lines.queue q) ≤ places
      by (inl f) = let sum = c.credits q h f in let most = capacity_most pl.head q range in omega arith
      by (inr f) = let most = capacity_most pl.head q range in let l = c.out_capacities q h f in omega arith

  pub picking : (m : ℕ) (s : State) → m < outputs pl → Core pl s
      → ((k : ℕ) → s.links.choice (output_at pl m) ≡ sender k → Sendable pl s (output_at pl m) k) → Picking pl m s
  picking m s l c able = record { leaves = λ k e. by k (able k e) }
    where
      by : (k : ℕ) → Sendable pl s (output_at pl m) k → Leaves pl s (output_at pl m) k
      by k g =
          let r = candidate_ready pl s (output_at pl m) g.queue g.ready in
          let h = sender_exists pl (output_at pl m) k g.queue (drives_at pl m l) g.rank in
          let here = head_belongs (kept_of pl s c) g.queue r.head r.rest h r.queue in
          let there = next_belongs wired range r.head (head_place (s.lines.handled g.queue) g.queue) here
          g.queue r.next (output_at pl m) (head_leaves s g.queue r.leaves)
          (sender_leaves (output_at pl m) k g.queue g.rank) r.goes in
          record {
            queue = g.queue;
            rank = g.rank;
            has = h;
            head = r.head;
            rest = r.rest;
            line = r.queue;
            few = few s c g.queue h;
            active = here.ranges.active;
            passive = here.ranges.passive;
            unit = onward wired (output_at pl m) g.queue h (sender_leaves (output_at pl m) k g.queue g.rank)
                (subst (λ (at : Place). Belongs pl at r.head) (head_leaves s g.queue r.leaves) here);
            next = r.next;
            goes = r.goes;
            there = belongs_exists wired r.next r.head there;
            credit = r.room;
          }

-- ---- what the rule makes of it
sent_is : (pl : Plan) (o : Output) (k : ℕ) (s : State) → s.links.choice o ≡ sender k → (g : Leaves pl s o k)
    → send pl o s ≡ with_last_sender o k
    (with_choice o nobody (with_wire o (Full g.head) (spend (some g.next) (left g.queue s))))
unfolding send send_by send_head
sent_is pl o k s e g =
    ap (λ (c : Choice). send_by pl o c s) e
    ∙ ap (λ (y : Option Queue). with_last_sender o k (with_choice o nobody (send_from pl o y s))) g.rank
    ∙ ap (with_last_sender o k) (rule (s.lines.queue g.queue) g.line)
  where
    rule : (l : List Packet) → l ≡ g.head ∷ g.rest
        → with_choice o nobody (send_head pl o g.queue l s)
        ≡ with_choice o nobody (with_wire o (Full g.head) (spend (some g.next)
        (raise g.queue (with_queue g.queue (behind l) s))))
    rule l f =
        ap (λ (y : List Packet). with_choice o nobody (send_head pl o g.queue y s)) f
        ∙ ap (λ (y : Option Queue). with_choice o nobody (with_wire o (Full g.head) (spend y
        (raise g.queue (with_queue g.queue g.rest s))))) g.goes
        ∙ ap (λ (y : List Packet). with_choice o nobody (with_wire o (Full g.head) (spend (some g.next)
        (raise g.queue (with_queue g.queue (behind y) s))))) (sym f)

-- ---- one turn on bytes
module _ (pl : Plan) {h : Head} (e : pl.head ≡ h) (m i : ℕ) (below : m < output_count h)
    (at : i ≡ outputs_from h + 7 * m) where
  -- output m and its row are the plan's
  l : m < outputs pl
  l = let n = outputs_of pl e in omega arith

  row : i ≡ output_row pl (output_at pl m)
  row = output_row_lem pl e m i below at

  -- the row lies inside
  pub choice_within : {I : State → Type 0} {b : List ℕ} → Holds pl I b → i + 7 ≤ length b
  choice_within g = output_within pl g m l i row

  -- the choice that is read
  choice_is : (s : State) (rest b : List ℕ) → b ≡ encode pl s rest
      → s.links.choice (output_at pl m) ≡ choice_of (get_or b (i + 6) 0)
  choice_is s rest b f =
      sym (ap (λ (k : ℕ). choice_at k b) row ∙ choice_at_lem pl s rest b f (output_at pl m) (drives_at pl m l))

  -- nobody is picked: nothing is done
  pub send_none : (b : List ℕ) → get_or b (i + 6) 0 ≡ 0 → Steps pl (Picking pl m) (sending pl m) b b
  unfolding send send_by
  send_none b z =
      record {
        done = λ s rest a f.
            f ∙ ap (λ (c : Choice). encode pl (send_by pl (output_at pl m) c s) rest)
            (sym (choice_is s rest b f ∙ ap choice_of z));
      }

  -- the sender of rank k is picked
  module _ {b : List ℕ} {k : ℕ} (picked : suc k ≡ get_or b (i + 6) 0) where
    chosen : (s : State) (rest : List ℕ) → b ≡ encode pl s rest → s.links.choice (output_at pl m) ≡ sender k
    chosen s rest f = choice_is s rest b f ∙ ap choice_of (sym picked)

    leaving : (a : Holds pl (Picking pl m) b) → Leaves pl a.state (output_at pl m) k
    leaving a = a.fit.leaves k (chosen a.state a.rest a.same)

    module _ {n : ℕ} (numbered : n ≡ sender_of h m k) where
      module _ (a : Holds pl (Picking pl m) b) where
        number_is : n ≡ number pl (leaving a).queue
        number_is =
            numbered ∙ ap (λ (y : Head). sender_of y m k) (sym e)
            ∙ sym (sender_number pl m k (leaving a).queue l (leaving a).rank)

        pub sender_small : InRange h → n ≤ 65535
        sender_small range =
            let z = number_below pl (leaving a).queue (leaving a).has in
            let y = number_is in
            let q = queues_of pl e in
            let c = range_counts range in
            omega arith

      module _ {j : ℕ} (stands : j ≡ 2 + 39 * n) where
        sends : (a : Holds pl (Picking pl m) b) → Sends h m j pl (leaving a).queue
        sends a =
            record {
              head = e;
              below = l;
              has = (leaving a).has;
              row = queue_row_lem pl (leaving a).queue n j (number_is a) stands;
              leaves = sender_leaves (output_at pl m) k (leaving a).queue (leaving a).rank;
            }

        -- the head may leave
        pub sender_within : Holds pl (Picking pl m) b → j + 39 ≤ length b
        sender_within a = queue_within pl a (leaving a).queue (leaving a).has j (sends a).row

        length_is : (a : Holds pl (Picking pl m) b) → length_at j b ≡ length (a.state.lines.queue (leaving a).queue)
        length_is a =
            ap (λ (u : ℕ). length_at u b) (sends a).row
            ∙ length_at_lem pl a.state a.rest b a.same (leaving a).queue (leaving a).has

        pub sender_some : Holds pl (Picking pl m) b → 1 ≤ length_at j b
        sender_some a =
            let z = length_is a in
            let y : length (a.state.lines.queue (leaving a).queue) ≡ suc (length (leaving a).rest) =
            ap length (leaving a).line in
            omega arith

        pub sender_few : Holds pl (Picking pl m) b → length_at j b ≤ 7
        sender_few a = let z = length_is a in let y = (leaving a).few in omega arith

        -- it has left
        module _ {x : Packet} {c : List ℕ} (taken : Takes h m j x b c) where
          module _ (a : Holds pl (Picking pl m) b) where
            headed : Headed (leaving a).queue (leaving a).head a.state
            headed = record { rest = (leaving a).rest; line = (leaving a).line; few = (leaving a).few }

            head_is : x ≡ (leaving a).head
            head_is =
                taken.head pl (leaving a).queue (sends a) a.state a.rest a.same (leaving a).head headed

            -- its pair is the plan's
            pub pair_of : (x.active < h.actives) × (x.passive < h.passives)
            pair_of =
                subst (λ (y : Head). (x.active < y.actives) × (x.passive < y.passives)) e
                (subst (λ (z : Packet). (z.active < A pl) × (z.passive < P pl)) (sym head_is)
                ((leaving a).active, (leaving a).passive))

            -- to a unit it goes four queues behind
            pub onward_of : AtUnit pl (output_at pl m) x (n + 4)
            onward_of =
                subst (λ (u : ℕ). AtUnit pl (output_at pl m) x (u + 4)) (sym (number_is a))
                (subst (λ (z : Packet). AtUnit pl (output_at pl m) z (number pl (leaving a).queue + 4)) (sym head_is)
                (leaving a).unit)

            after : c ≡ encode pl (left (leaving a).queue a.state) a.rest
            after =
                (taken.steps pl (leaving a).queue (sends a)).done a.state a.rest (rw head_is headed) a.same

            gone : Holds pl Any c
            gone = record { state = left (leaving a).queue a.state; rest = a.rest; fit = record {}; same = after }

            -- the output's row lies inside
            pub wire_within : i + 7 ≤ length c
            wire_within = choice_within gone

          module _ {v : ℕ} (next : v ≡ number_or pl (next_by pl (output_at pl m) x)) where
            module _ (a : Holds pl (Picking pl m) b) where
              next_is : v ≡ number pl (leaving a).next
              next_is =
                  next ∙ ap (λ (y : Packet). number_or pl (next_by pl (output_at pl m) y)) (head_is a)
                  ∙ number_or_lem pl _ (leaving a).next (leaving a).goes (leaving a).there

              pub next_small : InRange h → v < 65535
              next_small range =
                  let z = number_below pl (leaving a).next (leaving a).there in
                  let y = next_is in
                  let q = queues_of pl e in
                  let d = range_counts range in
                  omega arith

              next_row : 2 + 39 * v ≡ queue_row pl (leaving a).next
              next_row = queue_row_lem pl (leaving a).next v (2 + 39 * v) next_is refl

              -- the next queue's row lies inside
              pub next_within : 2 + 39 * v < length c
              next_within =
                  let z = queue_within pl (gone a) (leaving a).next (leaving a).there (2 + 39 * v) next_row in
                  omega arith

              -- and it has a credit
              pub next_credit : 1 ≤ get_or c (2 + 39 * v) 0
              next_credit =
                  let t : State = left (leaving a).queue a.state in
                  let z : get_or c (2 + 39 * v) 0 ≡ (a.state.flow.credit (leaving a).next).0 =
                  ap (λ (u : ℕ). get_or c u 0) (next_row ∙ first (queue_row pl (leaving a).next))
                  ∙ ap (λ (y : Credit). y.0)
                  (credit_at_lem pl t a.rest c (after a) (leaving a).next (leaving a).there)
                  ∙ ap (λ (y : Queue → Credit). (y (leaving a).next).0)
                  (raise_credit (leaving a).queue
                  (with_queue (leaving a).queue (behind (a.state.lines.queue (leaving a).queue)) a.state)) in
                  let y = (leaving a).credit in
                  omega arith

            -- and has entered the wire
            module _ {d : List ℕ} (enters : Enters i v x c d) where
              abbrev sent : Holds pl (Picking pl m) b → State
              sent a = with_choice (output_at pl m) nobody (with_wire (output_at pl m) (Full x)
                  (spend (some (leaving a).next) (left (leaving a).queue a.state)))

              entered : (a : Holds pl (Picking pl m) b) → d ≡ encode pl (sent a) a.rest
              entered a =
                  (enters.steps pl (output_at pl m) (leaving a).next (drives_at pl m l) row (leaving a).there
                  (next_is a)).done (left (leaving a).queue a.state) a.rest (record {}) (after a)

              -- the byte of what the output remembers lies inside
              remembers : turns_from h + m ≡ turn_row pl (output_at pl m)
              remembers = turn_row_lem pl e m (turns_from h + m) below refl

              pub last_within : Holds pl (Picking pl m) b → turns_from h + m < length d
              last_within a =
                  let g : Holds pl Any d = record {
                    state = sent a;
                    rest = a.rest;
                    fit = record {};
                    same = entered a;
                  } in
                  turn_within pl g m l (turns_from h + m) remembers

              -- and takes the rank
              pub send_done : {f : List ℕ} → f ≡ set d (turns_from h + m) (get_or b (i + 6) 0 - 1)
                  → Steps pl (Picking pl m) (sending pl m) b f
              send_done {f} stored = record { done = λ s rest p z. by s rest p z }
                where
                  by : (s : State) (rest : List ℕ) → Picking pl m s → b ≡ encode pl s rest
                      → f ≡ encode pl (sending pl m s) rest
                  by s rest p z =
                      let a : Holds pl (Picking pl m) b = record { state = s; rest = rest; fit = p; same = z } in
                      let y : get_or b (i + 6) 0 - 1 ≡ k = omega arith in
                      stored ∙ ap (set d (turns_from h + m)) y ∙ ap (λ (j : ℕ). set d j k) remembers
                      ∙ ap (λ (u : List ℕ). set u (turn_row pl (output_at pl m)) k) (entered a)
                      ∙ put_last_sender pl (sent a) rest (output_at pl m) k (drives_at pl m l)
                      ∙ ap (λ (u : Packet). encode pl (with_last_sender (output_at pl m) k
                      (with_choice (output_at pl m) nobody (with_wire (output_at pl m) (Full u)
                      (spend (some (leaving a).next) (left (leaving a).queue s))))) rest) (head_is a)
                      ∙ ap (λ (t : State). encode pl t rest)
                      (sym (sent_is pl (output_at pl m) k s (chosen s rest z) (leaving a)))
