-- Whom an output picked: what the code tests of its bytes is the test of its choice.
use mathlib.Core.Path.{◌≡◌, refl, sym, ap, ap₂, subst, ◌∙◌}
use mathlib.Core.Logic.{◌≢◌}
use mathlib.Core.Bool.{Bool, true, false, not, ◌||◌, false≢true}
use mathlib.Core.List.{List, [], ◌∷◌}
use mathlib.Core.Option.{Option, none, some}
use Prim.Native.Nat.{ℕ, zero, suc, ◌+◌, ◌*◌, ◌-◌, ◌<◌}
use native.Mathlib.Omega.{arith}
use lib.Dec.{eqb}
use lib.ListN.{get_or, length}
use borrow.Author.Tests.{ne_eqb}
use Rattle.basis.specs.Choice.{pick, also, also_true}
use Rattle.basis.specs.Bounded.{all_below, all_at, all_of}
use Rattle.packets.specs.declared.Packet.{Packet}
use Rattle.packets.specs.declared.Phase.{Phase}
use Rattle.packets.specs.declared.Phase.TheVariants.{Read, Write}
use Rattle.plan.specs.declared.Head.{Head}
use Rattle.plan.specs.Head.{Counts}
use Rattle.plan.specs.Plan.{Plan}
use Rattle.plan.specs.Tables.{table_plan}
use Rattle.plan_queues.specs.Queue.{Queue, Exists, number, queues, queue_at}
use Rattle.plan_queues.specs.Role.{Role, sending, receiving, handling, passing, role, is_unit_as}
use Rattle.plan_queues.specs.Feeds.{Output, Place, head_place, leaves_from, output_of}
use Rattle.rules.specs.Outputs.{next_by, senders, outputs, output_at}
use Rattle.rules.specs.State.{State, Choice, nobody, sender, is_full}
use Rattle.rules.specs.Execute.{has_credit, may_leave_as, may_leave, head_ready, candidate}
use Rattle.rules.specs.Write.{of_rank}
use Rattle.rules.specs.Calls.{is_phase}
use Rattle.rules.specs.Valid.{Belongs, Lined}
use Rattle.rules.proofs.Numbers.{exists_at, at_number, sender_exists}
use Rattle.rules.proofs.OutNumbers.{drives_at}
use Rattle.theory.proofs.Places.Feeders.{sender_leaves}
use Rattle.theory.proofs.Places.Lines.{head_leaves, belongs_exists}
use Rattle.theory.proofs.Places.Makes.{next_belongs}
use Rattle.valid.specs.Test.{lined_test, wire_test, may_test, down_test}
use Rattle.valid.proofs.Packets.{lined_decides}
use Rattle.bytes_layout.specs.Offsets.{phase_byte, places, credit_byte, flag_byte, handled_byte, length_byte}
use Rattle.bytes_layout.specs.Offsets.{first_place}
use Rattle.bytes_layout.specs.Offsets.{packet_width, queue_row, output_row, choice_byte}
use Rattle.bytes_layout.specs.Codes.{flag_of, choice_of}
use Rattle.bytes_layout.specs.Places.{packet_at, packets_at}
use Rattle.bytes_layout.specs.Named.{exists_test_lem, drives_test_lem}
use Rattle.bytes_layout.specs.Decode.{decode}
use Rattle.bytes_steps.specs.Counts.{queue_count, output_count, outputs_from, queues_by}
use Rattle.check_rule.specs.Forms.{queue_form, output_form}
use Rattle.check_rule.specs.Parts.{frame_test, queue_test, is_nobody, output_test, pick_test_of, pick_test}
use Rattle.check_rule.specs.Check.{queue_row_test, output_row_test, queues_part, outputs_part, picks_part}
use Rattle.check_frames.proofs.Frames.{unit_law}
use Rattle.next_queue.specs.Wiring.{Wiring}
use Rattle.next_queue.specs.Next.{no_queue, number_or, AtUnit}
use Rattle.next_queue.proofs.Onward.{onward_at}
use Rattle.check_choices.specs.Picks.{sender_of, may_leave_at, may_send}
use Rattle.check_choices.proofs.Bytes.{also_false, also_right, flag_test, some_test, not_write, head_is, decode_phase}
use Rattle.check_choices.proofs.Bytes.{outputs_are, output_row_lem}
use Rattle.check_choices.proofs.Named.{named, not_unnamed}
use Rattle.check_choices.proofs.Senders.{sender_number}

leaves_as : (k : Role) (done : Bool) → may_leave_as k done ≡ pick (is_unit_as k) done true
leaves_as sending done = refl
leaves_as receiving done = refl
leaves_as (handling r i) done = refl
leaves_as passing done = refl

not_ready : (pl : Plan) (s : State) (o : Output) (l : List Packet) → head_ready pl s o false l ≡ false
not_ready pl s o [] = refl
not_ready pl s o (x ∷ rest) = refl

module _ (h : Head) (routes : List (List ℕ)) (joints homes : List ℕ) (w : Wiring h routes joints homes)
    (b : List ℕ) where
  abbrev net : Plan
  net = table_plan h routes joints

  counts : Counts net.head
  counts = rw (head_is h routes joints) (w.range.routers.1, w.range.actives.1, w.range.passives.1)

  queues_are : queues net ≡ queue_count h
  unfolding table_plan
  queues_are = queues_by net

  outputs_here : outputs net ≡ output_count h
  outputs_here = outputs_are net h (head_is h routes joints)

  module _ (part : queues_part net b ≡ true) (m n : ℕ) (hm : m < output_count h) (hn : n < queue_count h)
      (leaves : output_of (queue_at net n) ≡ some (output_at net m)) (i : ℕ) (ei : i ≡ 2 + 39 * n) where
    abbrev q : Queue
    q = queue_at net n

    abbrev o : Output
    o = output_at net m

    abbrev s : State
    s = decode net b

    abbrev first : Packet
    first = packet_at (i + first_place) b

    here : Exists net q
    here = exists_at net n (rw queues_are hn)

    row_is : queue_row net q ≡ i
    unfolding queue_row
    row_is = rw (at_number net n (rw queues_are hn)) (sym ei)

    -- what the bytes say of the queue
    queue_is : s.lines.queue q ≡ packets_at places (get_or b (i + length_byte) 0) (i + first_place) b
    unfolding decode
    queue_is = rw (exists_test_lem net q here, row_is)

    mark_is : s.lines.handled q ≡ flag_of (get_or b (i + handled_byte) 0)
    unfolding decode
    mark_is = rw (exists_test_lem net q here, row_is)

    flag_is : s.flow.flag q ≡ flag_of (get_or b (i + flag_byte) 0)
    unfolding decode
    flag_is = rw (exists_test_lem net q here, row_is)

    -- a queue that has passed: its packets are lined up
    line : Lined net q (s.lines.handled q) (s.lines.queue q)
    unfolding queues_part queue_row_test queue_test
    line =
        let e = all_at (queues net) (λ k. queue_row_test net b (queue_at net k)) part n (rw queues_are hn) in
        (lined_decides w.wired q (s.lines.handled q) (s.lines.queue q)).holds
        (also_true
        {a = frame_test net s.clock.phase q (s.flow.credit q).0 (s.flow.flag q) (s.lines.handled q)
        (length (s.lines.queue q)) _} {b = lined_test net q (s.lines.handled q) (s.lines.queue q)}
        (also_true {a = queue_form (queue_row net q) b} {b = queue_test net s q} e).1).1

    -- its head
    headed : get_or b (i + length_byte) 0 ≢ 0 → (rest : List Packet) × (s.lines.queue q ≡ first ∷ rest)
    unfolding packets_at
    headed ne = by (get_or b (i + length_byte) 0) refl
      where
        by : (k : ℕ) → get_or b (i + length_byte) 0 ≡ k → (rest : List Packet) × (s.lines.queue q ≡ first ∷ rest)
        by zero e = absurd (ne e)
        by (suc k) e = (
          packets_at 6 k (i + first_place + packet_width) b,
          queue_is ∙ ap (λ (j : ℕ). packets_at places j (i + first_place) b) e,
        )

    belongs : get_or b (i + length_byte) 0 ≢ 0 → Belongs net (head_place (s.lines.handled q) q) first
    belongs ne = let y = headed ne in (rw y.1 at line).0

    pub head_ranges : get_or b (i + length_byte) 0 ≢ 0 → (x : Packet) → x ≡ first
        → (x.active < h.actives) × (x.passive < h.passives)
    unfolding table_plan
    head_ranges ne x ex = let r = (belongs ne).ranges in rw ex (r.active, r.passive)

    -- its mark
    leave_is : may_leave_at h b n i ≡ may_leave s q
    unfolding may_leave_at
    leave_is =
        sym
        (leaves_as (role q) (s.lines.handled q)
        ∙ ap₂ (λ (u v : Bool). pick u v true) (sym (unit_law h routes joints n))
        (mark_is ∙ flag_test (get_or b (i + handled_byte) 0)))

    -- on the way to a unit it goes four queues behind
    pub head_onward : get_or b (i + length_byte) 0 ≢ 0 → {t : Bool} → t ≡ may_leave_at h b n i → t ≡ true → (x : Packet)
        → x ≡ first → AtUnit net o x (n + 4)
    head_onward ne e f x ex =
        let at = subst (λ (k : Place). Belongs net k first) (head_leaves s q (sym leave_is ∙ sym e ∙ f)) (belongs ne) in
        onward_at w.wired o n (rw queues_are hn) leaves (subst (Belongs net (leaves_from q)) (sym ex) at)

    -- ---- the code's ways out
    pub send_empty : get_or b (i + length_byte) 0 ≡ 0 → false ≡ may_send net b m n
    unfolding may_send candidate packets_at
    send_empty e = rw (queue_is, e)

    pub send_flag : get_or b (i + flag_byte) 0 ≢ 0 → false ≡ may_send net b m n
    unfolding may_send
    send_flag ne =
        rw (flag_is, flag_test (get_or b (i + flag_byte) 0), ne_eqb (get_or b (i + flag_byte) 0) 0 ne)
        (sym (also_false (candidate net s o q)))

    pub send_mark : {t : Bool} → t ≡ may_leave_at h b n i → t ≡ false → false ≡ may_send net b m n
    unfolding may_send candidate
    send_mark e f =
        rw (← leave_is, ← e, f, not_ready net s o (s.lines.queue q))

    -- where its head goes is a queue of the plan
    next_here : get_or b (i + length_byte) 0 ≢ 0 → may_leave s q ≡ true → (y : Queue)
        → next_by net o first ≡ some y → Exists net y
    unfolding table_plan
    next_here ne l y e =
        belongs_exists w.wired y first
        (next_belongs w.wired w.range first (head_place (s.lines.handled q) q) (belongs ne) q y o
        (head_leaves s q l) leaves e)

    module _ (ne : get_or b (i + length_byte) 0 ≢ 0) (down : get_or b (i + flag_byte) 0 ≡ 0) {t : Bool}
        (e : t ≡ may_leave_at h b n i) (f : t ≡ true) (x : Packet) (ex : x ≡ first) (v : ℕ)
        (gx : v ≡ number_or net (next_by net o x)) where
      g : v ≡ number_or net (next_by net o first)
      g = gx ∙ ap (λ (y : Packet). number_or net (next_by net o y)) ex

      leave_so : may_leave s q ≡ true
      leave_so = sym leave_is ∙ sym e ∙ f

      -- the test is its next queue's credit
      send_is : may_send net b m n ≡ has_credit s (next_by net o first)
      unfolding may_send candidate
      send_is =
          rw ((headed ne).1, leave_so, flag_is, down)
          (also_right (has_credit s (next_by net o first)))

      pub send_none : v ≡ no_queue → false ≡ may_send net b m n
      send_none z = sym (send_is ∙ by (next_by net o first) refl)
        where
          by : (y : Option Queue) → next_by net o first ≡ y → has_credit s y ≡ false
          by none k = refl
          by (some y) k =
              absurd (not_unnamed net y v counts (next_here ne leave_so y k) (g ∙ ap (number_or net) k) z)

      pub send_below : v ≢ no_queue → v < queue_count h
      send_below z = let y = named net (next_by net o first) v g z in rw (← queues_are) y.below

      pub send_credit : v ≢ no_queue → (j : ℕ) → j ≡ 2 + 39 * v → not (eqb (get_or b j 0) 0) ≡ may_send net b m n
      unfolding decode queue_row
      send_credit z j ej =
          let y = named net (next_by net o first) v g z in
          let k : 2 + 39 * number net y.queue + credit_byte ≡ j = rw (← y.number) (omega arith) in
          sym
          (send_is ∙ ap (has_credit s) y.is
          ∙ rw (exists_test_lem net y.queue y.here, k) (some_test (get_or b j 0)))

  -- ---- an output's choice
  module _ (m : ℕ) (hm : m < output_count h) (i : ℕ) (ei : i ≡ outputs_from h + 7 * m) (c : ℕ)
      (ec : c ≡ get_or b (i + choice_byte) 0) where
    abbrev out : Output
    out = output_at net m

    abbrev now : State
    now = decode net b

    choice_is : now.links.choice out ≡ choice_of c
    unfolding decode
    choice_is =
        let l : m < outputs net = rw outputs_here hm in
        rw (drives_test_lem net out (drives_at net m l), output_row_lem net h (head_is h routes joints) m l i ei, ec)

    pub pick_nobody : c ≡ 0 → true ≡ pick_test net now out
    unfolding pick_test
    pick_nobody e = rw (choice_is, e)

    pick_sender : c ≢ 0 → pick_test net now out
        ≡ also (may_test net now out (of_rank (senders out) (c - 1))) (down_test now (of_rank (senders out) (c - 1)))
    unfolding pick_test
    pick_sender ne =
        ap (pick_test_of net now out) (choice_is ∙ by c ne)
      where
        by : (k : ℕ) → k ≢ 0 → choice_of k ≡ sender (k - 1)
        by zero x = absurd (x refl)
        by (suc k) x = ap sender (omega arith)

    module _ (ne : c ≢ 0) (n : ℕ) (e : n ≡ sender_of h m (c - 1)) where
      is_number : n ≡ number_or net (of_rank (senders out) (c - 1))
      is_number = e ∙ sender_number h routes joints m (c - 1) hm

      pub pick_none : n ≡ no_queue → false ≡ pick_test net now out
      pick_none z = sym (pick_sender ne ∙ by (of_rank (senders out) (c - 1)) refl)
        where
          by : (t : Option Queue) → of_rank (senders out) (c - 1) ≡ t
              → also (may_test net now out t) (down_test now t) ≡ false
          by none k = refl
          by (some q) k =
              absurd (not_unnamed net q n counts
              (sender_exists net out (c - 1) q (drives_at net m (rw outputs_here hm)) k)
              (is_number ∙ ap (number_or net) k) z)

      pub pick_queue : n ≢ no_queue → (n < queue_count h) × (output_of (queue_at net n) ≡ some out)
      pick_queue z =
          let y = named net (of_rank (senders out) (c - 1)) n is_number z in
          (rw (← queues_are) y.below, rw y.at (sender_leaves out (c - 1) y.queue y.is))

      pub pick_some : n ≢ no_queue → {t : Bool} → t ≡ may_send net b m n → t ≡ pick_test net now out
      unfolding may_send
      pick_some z f =
          let y = named net (of_rank (senders out) (c - 1)) n is_number z in
          f ∙ sym (pick_sender ne ∙ rw (y.is, ← y.at))

  -- ---- all outputs
  pub picks_all : picks_part net b
      ≡ all_below (output_count h) (λ k. pick_test net (decode net b) (output_at net k))
  unfolding picks_part
  picks_all = ap (λ (k : ℕ). all_below k (λ j. pick_test net (decode net b) (output_at net j))) outputs_here

-- ---- outside WRITE outputs that pass have picked nobody
-- one output
nobody_passes : (pl : Plan) (b : List ℕ) (o : Output) → is_phase (decode pl b).clock.phase Write ≡ false
    → output_row_test pl b o ≡ true → pick_test pl (decode pl b) o ≡ true
unfolding output_row_test output_test pick_test
nobody_passes pl b o p e =
    let x = (also_true {a = output_form (output_row pl o) b} {b = output_test pl (decode pl b) o} e).1 in
    let y = (also_true {a = wire_test pl o ((decode pl b).links.wire o)} {b = _} x).1 in
    let z = (also_true {a = is_phase (decode pl b).clock.phase Read || not (is_full ((decode pl b).links.wire o))}
    {b = is_phase (decode pl b).clock.phase Write || is_nobody ((decode pl b).links.choice o)} y).1 in
    by ((decode pl b).links.choice o) (rw p at z)
  where
    by : (c : Choice) → is_nobody c ≡ true → pick_test_of pl (decode pl b) o c ≡ true
    by nobody t = refl
    by (sender k) t = absurd (false≢true t)

pub picks_none : (pl : Plan) (b : List ℕ) → get_or b phase_byte 0 < 2 → outputs_part pl b ≡ true → picks_part pl b ≡
    true
unfolding outputs_part picks_part
picks_none pl b l e =
    all_of (outputs pl) (λ n. pick_test pl (decode pl b) (output_at pl n))
    (λ n k. nobody_passes pl b (output_at pl n) (ap (λ (x : Phase). is_phase x Write) (decode_phase pl b)
    ∙ not_write (get_or b phase_byte 0) l) (all_at (outputs pl) (λ j. output_row_test pl b (output_at pl j)) e n k))
