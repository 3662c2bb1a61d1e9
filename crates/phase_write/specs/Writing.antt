-- WRITE output by output: what a turn needs of the state, and what the code does of it on bytes.
use Rattle.std.specs.Prelude.{◌≡◌, List, [], ◌∷◌, ℕ, ◌+◌, ◌*◌, ◌-◌, ◌/◌, ◌%◌, ◌≤◌, ◌<◌, eqb, ltb, length}
use Rattle.std.proofs.Math.Option.{some}
use Rattle.basis.specs.Choice.{pick}
use Rattle.packets.specs.declared.Packet.{Packet}
use Rattle.packets.specs.declared.Wire.TheVariants.{Full}
use Rattle.packets.specs.Counters.{credit_down}
use Rattle.plan.specs.declared.Head.{Head}
use Rattle.plan.specs.Head.{destinations}
use Rattle.plan.specs.Plan.{Plan, A, P}
use Rattle.plan_queues.specs.Queue.{Queue, Exists, number}
use Rattle.plan_queues.specs.Feeds.{Output, output_of}
use Rattle.rules.specs.Outputs.{next_by, senders, outputs, output_at}
use Rattle.rules.specs.State.{State, nobody, sender, with_queue, with_wire, with_credit, with_choice}
use Rattle.rules.specs.Write.{of_rank, raise, send}
use Rattle.rules.specs.Valid.{Drives}
use Rattle.theory.specs.Invariant.{Core, WiresEmpty, ChoicesSendable}
use Rattle.bytes_layout.specs.Offsets.{places, queue_row, output_row}
use Rattle.bytes_layout.specs.Encode.{encode}
use Rattle.bytes_steps.specs.Acts.{Steps}
use Rattle.next_queue.specs.Next.{base_of, AtUnit}

-- ---- the turn of an output
abbrev pub sending : Plan → ℕ → State → State
sending pl m = send pl (output_at pl m)

-- the sender that an output picked: its head, a packet of the plan, and that one's next queue, which has a credit
pub record Leaves (pl : Plan) (s : State) (o : Output) (k : ℕ) : Type 0 where
  pub queue : Queue
  pub rank : of_rank (senders o) k ≡ some queue
  pub has : Exists pl queue
  pub head : Packet
  pub rest : List Packet
  pub line : s.lines.queue queue ≡ head ∷ rest
  pub few : length (s.lines.queue queue) ≤ places
  pub active : head.active < A pl
  pub passive : head.passive < P pl
  pub unit : AtUnit pl o head (number pl queue + 4)
  pub next : Queue
  pub goes : next_by pl o head ≡ some next
  pub there : Exists pl next
  pub credit : 1 ≤ (s.flow.credit next).0

-- what a turn needs
pub record Picking (pl : Plan) (m : ℕ) (s : State) : Type 0 where
  pub leaves : (k : ℕ) → s.links.choice (output_at pl m) ≡ sender k → Leaves pl s (output_at pl m) k

-- what WRITE begins with: a whole state with empty wires and choices that can be sent
pub record Picked (pl : Plan) (s : State) : Type 0 where
  pub core : Core pl s
  pub empty : WiresEmpty pl s
  pub able : ChoicesSendable pl s

-- ---- the sender of a rank
-- its number, by the k-th output of router r, and by output m
abbrev pub router_sender : ℕ → ℕ → ℕ → ℕ
router_sender base o k = pick (ltb o 4) (base + 8 + 5 * o + k) (pick (eqb o 4) (base + k) (base + 4 + k))

unfoldable pub sender_of : Head → ℕ → ℕ → ℕ
sender_of h m k =
    pick (ltb m (destinations h)) m
    (router_sender (base_of h ((m - destinations h) / 6)) ((m - destinations h) % 6) k)

-- ---- the two halves of a turn
-- what stands behind the head
abbrev pub behind : List Packet → List Packet
behind [] = []
behind (x ∷ rest) = rest

-- the head leaves its queue, and the flag rises
abbrev pub left : Queue → State → State
left q s = raise q (with_queue q (behind (s.lines.queue q)) s)

-- a packet enters the wire for a credit of its next queue, and the choice is cleared
abbrev pub entered : Output → Queue → Packet → State → State
entered o q x s = with_choice o nobody (with_wire o (Full x) (with_credit q (credit_down (s.flow.credit q)) s))

-- ---- they do not depend on the plan's tables: what the code promises, whatever the plan
-- any state
pub record Any (s : State) : Type 0 where

-- a queue with a head, and with at most seven packets
pub record Headed (q : Queue) (x : Packet) (s : State) : Type 0 where
  pub rest : List Packet
  pub line : s.lines.queue q ≡ x ∷ rest
  pub few : length (s.lines.queue q) ≤ places

-- q is a queue of a plan with head h, its row stands at i, and its packets leave by output m
pub record Sends (h : Head) (m i : ℕ) (pl : Plan) (q : Queue) : Type 0 where
  pub head : pl.head ≡ h
  pub below : m < outputs pl
  pub has : Exists pl q
  pub row : i ≡ queue_row pl q
  pub leaves : output_of q ≡ some (output_at pl m)

-- the flag of such a queue rises, 'none for out-queues', and with the head of a unit's queue its mark goes
pub record Raises (h : Head) (m i : ℕ) (b c : List ℕ) : Type 0 where
  pub steps : (pl : Plan) (q : Queue) → Sends h m i pl q → Steps pl Any (raise q) b c

-- x is the head of such a queue, and has left it
pub record Takes (h : Head) (m i : ℕ) (x : Packet) (b c : List ℕ) : Type 0 where
  pub head : (pl : Plan) (q : Queue) → Sends h m i pl q → (s : State) (rest : List ℕ) → b ≡ encode pl s rest
      → (y : Packet) → Headed q y s → x ≡ y
  pub steps : (pl : Plan) (q : Queue) → Sends h m i pl q → Steps pl (Headed q x) (left q) b c

-- x has entered the wire of the output whose row stands at i, for a credit of the queue of number n
pub record Enters (i n : ℕ) (x : Packet) (b c : List ℕ) : Type 0 where
  pub steps : (pl : Plan) (o : Output) (q : Queue) → Drives pl o → i ≡ output_row pl o → Exists pl q → n ≡ number pl q
      → Steps pl Any (entered o q x) b c
