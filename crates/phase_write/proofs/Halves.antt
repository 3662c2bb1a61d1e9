-- The two halves of a turn on bytes: a head leaves its queue and the flag rises; a packet enters the wire for a
-- credit.
use mathlib.Core.Path.{◌≡◌, sym, ap, ◌∙◌}
use mathlib.Core.Bool.{true, false}
use mathlib.Core.List.{List}
use Prim.Native.Nat.{ℕ, ◌+◌, ◌*◌, ◌-◌, ◌%◌, ◌≤◌, ◌<◌}
use lib.ListN.{get_or, set}
use lib.Seq.{sets}
use Rattle.kinds.specs.declared.Credit.{Credit}
use Rattle.packets.specs.declared.Packet.{Packet}
use Rattle.packets.specs.declared.Wire.TheVariants.{Full}
use Rattle.packets.specs.Counters.{credit_down}
use Rattle.plan.specs.declared.Head.{Head}
use Rattle.plan.specs.Head.{destinations}
use Rattle.plan.specs.Plan.{Plan}
use Rattle.plan_queues.specs.Queue.{Queue, Exists, number}
use Rattle.plan_queues.specs.Role.{Role, role}
use Rattle.plan_queues.specs.Feeds.{Output}
use Rattle.rules.specs.State.{State, nobody, with_queue, with_wire, with_credit, with_handled, with_choice}
use Rattle.rules.specs.Write.{raise_as, raise}
use Rattle.rules.specs.Valid.{Drives}
use Rattle.bytes_layout.specs.Offsets.{credit_byte, queue_row, output_row}
use Rattle.bytes_layout.specs.Places.{packet_at}
use Rattle.bytes_layout.specs.Encode.{encode, wire_bytes}
use Rattle.bytes_layout.specs.Updates.{pop_at}
use Rattle.bytes_layout.proofs.Readings.{credit_at_lem, head_at}
use Rattle.bytes_layout.proofs.Updates.{put_credit, put_flag, put_handled, put_wire, put_choice, pop_queue}
use Rattle.phase_read.proofs.Offsets.{first, queue_row_lem}
use Rattle.phase_write.specs.Writing.{behind, left, entered, Headed, Sends, Raises, Takes, Enters}
use Rattle.phase_write.proofs.Senders.{role_out, role_passing, role_handling}

-- ---- the flag
module _ (h : Head) (m i : ℕ) (b : List ℕ) where
  -- what raising does, by the queue's role
  raised_as : (pl : Plan) (q : Queue) (k : Role) → role q ≡ k → (s : State) (rest : List ℕ) {c : List ℕ}
      → c ≡ encode pl (raise_as k q s) rest → c ≡ encode pl (raise q s) rest
  raised_as pl q k e s rest f = f ∙ ap (λ (x : Role). encode pl (raise_as x q s) rest) (sym e)

  -- an out-queue has none
  pub raise_none : m < destinations h → Raises h m i b b
  raise_none l =
      record {
        steps = λ pl q w.
            record {
              done = λ s rest a e.
                  raised_as pl q _ (role_out pl m q w.leaves (rw w.head l)) s rest e;
            };
      }

  module _ (past : destinations h ≤ m) where
    -- it rises
    pub raise_flag : (m - destinations h) % 6 < 5 → Raises h m i b (set b (i + 1) 1)
    raise_flag l =
        record {
          steps = λ pl q w.
              record {
                done = λ s rest a e.
                    raised_as pl q _ (role_passing pl m q w.leaves (rw w.head past) (rw w.head l)) s rest
                    (ap (λ (k : ℕ). set b (k + 1) 1) w.row
                    ∙ ap (λ (y : List ℕ). set y (queue_row pl q + 1) 1) e ∙ put_flag pl s rest q w.has true);
              };
        }

    -- and the mark goes
    pub raise_mark : 5 ≤ (m - destinations h) % 6 → Raises h m i b (set (set b (i + 2) 0) (i + 1) 1)
    raise_mark l =
        record {
          steps = λ pl q w.
              record {
                done = λ s rest a e.
                    raised_as pl q _ (role_handling pl m q w.leaves (rw w.head past) (rw w.head l)) s rest
                    (ap (λ (k : ℕ). set (set b (k + 2) 0) (k + 1) 1) w.row
                    ∙ ap (λ (y : List ℕ). set y (queue_row pl q + 1) 1)
                    (ap (λ (y : List ℕ). set y (queue_row pl q + 2) 0) e ∙ put_handled pl s rest q w.has false)
                    ∙ put_flag pl (with_handled q false s) rest q w.has true);
              };
        }

-- ---- a head leaves
pub takes : (h : Head) (m i : ℕ) {x : Packet} {b c d : List ℕ} → x ≡ packet_at (i + 4) b → c ≡ pop_at i b
    → Raises h m i c d → Takes h m i x b d
takes h m i {x} {b} {c} {d} e f g =
    record { head = heads; steps = λ pl q w. record { done = λ s rest a k. by pl q w s rest a k } }
  where
    heads : (pl : Plan) (q : Queue) → Sends h m i pl q → (s : State) (rest : List ℕ) → b ≡ encode pl s rest
        → (y : Packet) → Headed q y s → x ≡ y
    heads pl q w s rest k y a =
        e ∙ ap (λ (j : ℕ). packet_at (j + 4) b) w.row ∙ head_at pl s rest b k q w.has y a.rest a.line

    by : (pl : Plan) (q : Queue) → Sends h m i pl q → (s : State) (rest : List ℕ) → Headed q x s
        → b ≡ encode pl s rest → d ≡ encode pl (left q s) rest
    by pl q w s rest a k =
        (g.steps pl q w).done (with_queue q (behind (s.lines.queue q)) s) rest (record {})
        (f ∙ ap (λ (j : ℕ). pop_at j b) w.row ∙ ap (pop_at (queue_row pl q)) k
        ∙ pop_queue pl s rest q w.has x a.rest a.line a.few
        ∙ ap (λ (l : List Packet). encode pl (with_queue q (behind l) s) rest) (sym a.line))

-- ---- a packet enters
pub enters : (i n j : ℕ) (x : Packet) {b c : List ℕ} {v : Credit} → j ≡ 2 + 39 * n
    → v ≡ credit_down (record { 0 = get_or b j 0 }) → c ≡ sets (set b j v.0) i (wire_bytes (Full x))
    → Enters i n x b (set c (i + 6) 0)
enters i n j x {b} {c} {v} e f g =
    record { steps = λ pl o q d row h k. record { done = λ s rest a z. by pl o q d row h k s rest z } }
  where
    by : (pl : Plan) (o : Output) (q : Queue) → Drives pl o → i ≡ output_row pl o → Exists pl q → n ≡ number pl q
        → (s : State) (rest : List ℕ) → b ≡ encode pl s rest
        → set c (i + 6) 0 ≡ encode pl (entered o q x s) rest
    by pl o q d row h k s rest z =
        let at = queue_row_lem pl q n j k e in
        let was : v ≡ credit_down (s.flow.credit q) = f ∙ ap credit_down
        (ap (λ (u : ℕ). record { 0 = get_or b u 0 }) (at ∙ first (queue_row pl q)) ∙ credit_at_lem pl s rest b z q h) in
        let less : set b j v.0 ≡ encode pl (with_credit q v s) rest =
        ap (λ (u : ℕ). set b u v.0) (at ∙ first (queue_row pl q))
        ∙ ap (λ (y : List ℕ). set y (queue_row pl q + credit_byte) v.0) z ∙ put_credit pl s rest q h v in
        let full : c ≡ encode pl (with_wire o (Full x) (with_credit q v s)) rest =
        g ∙ ap (λ (u : ℕ). sets (set b j v.0) u (wire_bytes (Full x))) row
        ∙ ap (λ (y : List ℕ). sets y (output_row pl o) (wire_bytes (Full x))) less
        ∙ put_wire pl (with_credit q v s) rest o d (Full x) in
        ap (λ (u : ℕ). set c (u + 6) 0) row ∙ ap (λ (y : List ℕ). set y (output_row pl o + 6) 0) full
        ∙ put_choice pl (with_wire o (Full x) (with_credit q v s)) rest o d nobody
        ∙ ap (λ (u : Credit). encode pl (with_choice o nobody (with_wire o (Full x) (with_credit q u s))) rest) was
