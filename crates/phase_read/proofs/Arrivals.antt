-- Deliveries: along READ every packet on a wire finds a place in its next queue, and what the code stores is what the
-- rule makes of the state.
use mathlib.Core.Path.{◌≡◌, refl, sym, ap, subst, ◌∙◌}
use mathlib.Core.Bool.{Bool, false, not}
use mathlib.Core.List.{List}
use mathlib.Core.Option.{Option, some}
use Prim.Native.Nat.{ℕ, ◌+◌, ◌*◌, ◌≤◌, ◌<◌}
use native.Mathlib.Nat.{add-zero}
use native.Mathlib.Omega.{arith}
use lib.Dec.{eqb}
use lib.ListN.{length, get_or}
use lib.Seq.{sets}
use borrow.Author.Tests.{not-false, eqb-true}
use Rattle.basis.specs.Fold.{up_to, up_keeps}
use Rattle.packets.specs.declared.Packet.{Packet}
use Rattle.packets.specs.declared.Wire.{Wire}
use Rattle.packets.specs.declared.Wire.TheVariants.{Empty, Full}
use Rattle.plan.specs.declared.Head.{Head}
use Rattle.plan.specs.Head.{InRange, destinations}
use Rattle.plan.specs.Plan.{Plan, R}
use Rattle.plan_queues.specs.Queue.{Queue, Q, Exists, number}
use Rattle.plan_queues.specs.Feeds.{Output, to_unit, came_in}
use Rattle.plan_facts.specs.Wired.{Wired}
use Rattle.plan_journeys.proofs.Numbers.{number_below}
use Rattle.rules.specs.Outputs.{next_by, outputs, output_at, output_number}
use Rattle.rules.specs.State.{State, with_wire, join}
use Rattle.rules.specs.Read.{join_next, arrive, deliver}
use Rattle.rules.specs.Valid.{Drives}
use Rattle.rules.proofs.OutNumbers.{drives_at, at_output}
use Rattle.theory.specs.Invariant.{Core, account}
use Rattle.theory.proofs.Places.Lines.{belongs_exists}
use Rattle.theory.proofs.Account.Paid.{next_fed}
use Rattle.theory.proofs.Keeps.{deliver_core}
use Rattle.bytes_layout.specs.Offsets.{places, queue_row, output_row, wire_byte, wire_packet}
use Rattle.bytes_layout.specs.Codes.{flag_of}
use Rattle.bytes_layout.specs.Named.{exists_test_lem}
use Rattle.bytes_layout.specs.Places.{packet_at}
use Rattle.bytes_layout.specs.Encode.{encode, wire_bytes}
use Rattle.bytes_layout.specs.Decode.{wire_from, wire_at, length_at, capacity_most}
use Rattle.bytes_layout.specs.Updates.{push_at}
use Rattle.bytes_layout.proofs.Readings.{wire_at_lem, length_at_lem}
use Rattle.bytes_layout.proofs.Updates.{put_wire, push_queue}
use Rattle.bytes_steps.specs.Acts.{Holds, Steps}
use Rattle.bytes_steps.specs.Counts.{output_count, outputs_from}
use Rattle.next_queue.specs.Next.{number_or, base_of, AtUnit}
use Rattle.phase_read.specs.Awaiting.{Only}
use Rattle.phase_read.specs.Reading.{delivery, Joins, Arriving}
use Rattle.phase_read.proofs.Offsets.{range_counts, outputs_of, queues_of, output_row_lem, queue_row_lem, number_or_lem}
use Rattle.phase_read.proofs.Offsets.{queue_within, output_within}
use Rattle.phase_read.proofs.Awaited.{on_wire, awaits, only_of}

-- ---- at every moment of READ a delivery is possible
module _ {pl : Plan} (wired : Wired pl) (range : InRange pl.head) where
  -- a queue with a packet on its way has a place for it
  room : (o : Output) (x : Packet) (q : Queue) (s : State) → Drives pl o → s.links.wire o ≡ Full x
      → next_by pl o x ≡ some q → Exists pl q → Core pl s → length (s.lines.queue q) < places
  unfolding account
  room o x q s d e g h c =
      let on = on_wire wired o x q s d e g in
      let sum = c.credits q h (next_fed wired o x q d g) in
      let most = capacity_most pl.head q range in
      omega arith

  pub arriving : (m : ℕ) (s : State) → m < outputs pl → Core pl s → Arriving pl m s
  arriving m s l c = record { joins = λ x e. joins x e }
    where
      joins : (x : Packet) → s.links.wire (output_at pl m) ≡ Full x → Joins pl s (output_at pl m) x
      joins x e =
          let d = drives_at pl m l in
          let g = c.wires (output_at pl m) d x e in
          let h = belongs_exists wired g.queue x g.belongs in
          record {
            active = g.belongs.ranges.active;
            passive = g.belongs.ranges.passive;
            queue = g.queue;
            next = g.next;
            has = h;
            room = room (output_at pl m) x g.queue s d e g.next h c;
            unit = λ r u. awaits wired r x s (subst (Drives pl) u d) (ap s.links.wire (sym u) ∙ e) c;
          }

  -- deliveries keep the core
  pub delivered_core : (n : ℕ) → n ≤ outputs pl → (s : State) → Core pl s → Core pl (up_to (delivery pl) n s)
  delivered_core n l s c =
      up_keeps (Core pl) (delivery pl) n s
      (λ i t h k. deliver_core wired range (output_at pl i) t (drives_at pl i (omega arith)) k) c

-- ---- one delivery
-- what the rule makes of a full wire
delivered_is : (pl : Plan) (o : Output) (x : Packet) (q : Queue) (s : State) → s.links.wire o ≡ Full x
    → next_by pl o x ≡ some q → deliver pl o s ≡ join q x (with_wire o Empty s)
unfolding deliver arrive
delivered_is pl o x q s f g =
    ap (λ (w : Wire). arrive pl o w s) f ∙ ap (λ (y : Option Queue). join_next y x (with_wire o Empty s)) g

module _ (pl : Plan) {h : Head} (e : pl.head ≡ h) (m i : ℕ) (below : m < output_count h)
    (at : i ≡ outputs_from h + 7 * m) where
  -- output m and its row are the plan's
  l : m < outputs pl
  l = let n = outputs_of pl e in omega arith

  row : i ≡ output_row pl (output_at pl m)
  row = output_row_lem pl e m i below at

  -- the row lies inside
  pub wire_within : {I : State → Type 0} {b : List ℕ} → Holds pl I b → i + 6 ≤ length b
  wire_within g = let w = output_within pl g m l i row in omega arith

  -- the wire that is read
  wire_is : (s : State) (rest b : List ℕ) (w : Wire) → b ≡ encode pl s rest → w ≡ wire_at i b
      → s.links.wire (output_at pl m) ≡ w
  wire_is s rest b w f g =
      sym (g ∙ ap (λ (k : ℕ). wire_at k b) row ∙ wire_at_lem pl s rest b f (output_at pl m) (drives_at pl m l))

  -- an empty wire: nothing is done
  pub deliver_none : (b : List ℕ) {w : Wire} → w ≡ wire_at i b → w ≡ Empty
      → Steps pl (Arriving pl m) (delivery pl m) b b
  unfolding deliver arrive
  deliver_none b {w} g z =
      record {
        done = λ s rest a f.
            f ∙ ap (λ (u : Wire). encode pl (arrive pl (output_at pl m) u s) rest) (sym (wire_is s rest b w f g ∙ z));
      }

  -- the same by the wire's first byte
  pub deliver_idle : (b : List ℕ) {r : Bool} → r ≡ not (eqb (get_or b i 0) 0) → r ≡ false
      → Steps pl (Arriving pl m) (delivery pl m) b b
  deliver_idle b g z =
      let none : get_or b (i + wire_byte) 0 ≡ 0 =
      ap (λ (k : ℕ). get_or b k 0) (add-zero i) ∙ eqb-true _ _ (not-false _ (sym g ∙ z)) in
      deliver_none b (sym (ap (λ (v : ℕ). wire_from (flag_of v) (packet_at (i + wire_packet) b)) none)) refl

  -- a packet on the wire
  module _ {b : List ℕ} {w : Wire} {x : Packet} (g : w ≡ wire_at i b) (full : w ≡ Full x) where
    -- what the code may do
    pub joining : (a : Holds pl (Arriving pl m) b) → Joins pl a.state (output_at pl m) x
    joining a = a.fit.joins x (wire_is a.state a.rest b w a.same g ∙ full)

    -- its pair is the plan's
    pub pair_of : Holds pl (Arriving pl m) b → (x.active < h.actives) × (x.passive < h.passives)
    pair_of a = rw (← e) ((joining a).active, (joining a).passive)

    -- which of a unit's queues it joins, told of the one that lacks a credit
    pub unit_of : (a : Holds pl (Arriving pl m) b) {q : ℕ}
        → ((r c : ℕ) → m ≡ destinations h + 6 * r + 4 → Only (base_of h r + 4) c h.q.0 b → q ≡ base_of h r + 4 + c)
        → AtUnit pl (output_at pl m) x q
    unfolding output_number number
    unit_of a {q} f r u =
        let d : r < R pl = subst (Drives pl) u (drives_at pl m l) in
        let k : m ≡ output_number pl (to_unit r) = sym (at_output pl m l) ∙ ap (output_number pl) u in
        let w = (joining a).unit r u in
        let n = only_of pl a.state a.rest b a.same r d w in
        rw (exists_test_lem pl (Q r (came_in pl x.active x.passive r)) (d, w.below))
        (f r (came_in pl x.active x.passive r) (subst (λ (y : Head). m ≡ destinations y + 6 * r + 4) e k)
        (subst (λ (y : Head). Only (base_of y r + 4) (came_in pl x.active x.passive r) y.q.0 b) e n)
        ∙ ap (λ (y : Head). base_of y r + 4 + came_in pl x.active x.passive r) (sym e))

    module _ (a : Holds pl (Arriving pl m) b) {n : ℕ} (next : n ≡ number_or pl (next_by pl (output_at pl m) x)) where
      -- the number of the next queue
      next_is : n ≡ number pl (joining a).queue
      next_is = next ∙ number_or_lem pl _ (joining a).queue (joining a).next (joining a).has

      pub next_small : InRange h → n < 65535
      next_small range =
          let k = number_below pl (joining a).queue (joining a).has in
          let z = next_is in
          let q = queues_of pl e in
          let c = range_counts range in
          omega arith

      module _ {j : ℕ} (stands : j ≡ 2 + 39 * n) {c : List ℕ} (emptied : c ≡ sets b i (wire_bytes Empty)) where
        after : Holds pl (λ t. length (t.lines.queue (joining a).queue) < places) c
        after =
            record {
              state = with_wire (output_at pl m) Empty a.state;
              rest = a.rest;
              fit = (joining a).room;
              same = emptied ∙ ap (λ (k : ℕ). sets b k (wire_bytes Empty)) row
                  ∙ ap (λ (y : List ℕ). sets y (output_row pl (output_at pl m)) (wire_bytes Empty)) a.same
                  ∙ put_wire pl a.state a.rest (output_at pl m) (drives_at pl m l) Empty;
            }

        -- its row lies inside
        pub joins_within : j + 39 ≤ length c
        joins_within = queue_within pl after (joining a).queue (joining a).has j
            (queue_row_lem pl (joining a).queue n j next_is stands)

        -- and has a place
        pub joins_room : length_at j c < 7
        joins_room =
            let r = queue_row_lem pl (joining a).queue n j next_is stands in
            let k : length_at j c ≡ length (after.state.lines.queue (joining a).queue) =
            ap (λ (u : ℕ). length_at u c) r
            ∙ length_at_lem pl after.state after.rest c after.same (joining a).queue (joining a).has in
            let f = after.fit in
            omega arith

    -- what it has done
    pub deliver_full : {n j : ℕ} {c d : List ℕ} → n ≡ number_or pl (next_by pl (output_at pl m) x) → j ≡ 2 + 39 * n
        → c ≡ sets b i (wire_bytes Empty) → d ≡ push_at j x c → Steps pl (Arriving pl m) (delivery pl m) b d
    unfolding after
    deliver_full {n} {j} {c} {d} next stands emptied pushed = record { done = λ s rest a f. by s rest a f }
      where
        by : (s : State) (rest : List ℕ) → Arriving pl m s → b ≡ encode pl s rest
            → d ≡ encode pl (delivery pl m s) rest
        by s rest a f =
            let z : Holds pl (Arriving pl m) b = record { state = s; rest = rest; fit = a; same = f } in
            pushed
            ∙ ap (λ (k : ℕ). push_at k x c)
            (queue_row_lem pl (joining z).queue n j (next_is z next) stands)
            ∙ ap (push_at (queue_row pl (joining z).queue) x) (after z next stands emptied).same
            ∙ push_queue pl (with_wire (output_at pl m) Empty s) rest (joining z).queue (joining z).has x
            (joining z).room
            ∙ ap (λ (t : State). encode pl t rest) (sym
            (delivered_is pl (output_at pl m) x (joining z).queue s (wire_is s rest b w f g ∙ full) (joining z).next))
