-- The core's parts that speak of places: slot, entries, packets, marks, one free entry a side, and nothing outside the
-- plan. Start has them, and a change of one part of a state keeps them under its condition.
use mathlib.Core.Path.{◌≡◌, refl}
use mathlib.Core.Bool.{Bool, true, false≢true}
use mathlib.Core.List.{[]}
use mathlib.Core.Logic.{◌≢◌}
use Prim.Native.Nat.{ℕ, ◌<◌}
use native.Mathlib.Omega.{arith}
use lib.Dec.{eqb}
use borrow.Author.Tests.{eqb-true}
use Rattle.kinds.specs.declared.Slot.{Slot}
use Rattle.kinds.specs.declared.Credit.{Credit}
use Rattle.packets.specs.declared.Packet.{Packet}
use Rattle.packets.specs.declared.Wire.{Wire}
use Rattle.packets.specs.declared.Wire.TheVariants.{Full}
use Rattle.packets.specs.declared.Phase.{Phase}
use Rattle.packets.specs.declared.Entry.{Entry}
use Rattle.packets.specs.declared.Entry.TheVariants.{Free, Booked}
use Rattle.plan.specs.Head.{InRange}
use Rattle.plan.specs.Plan.{Plan, R, A, P, S}
use Rattle.plan_queues.specs.Queue.{Queue, Exists, Q}
use Rattle.plan_queues.specs.Feeds.{Output}
use Rattle.rules.specs.Store.{put, same_queue, same_queue_lem, queue_same, same_output, same_output_lem, output_same}
use Rattle.rules.specs.State.{State, Lines, Choice, blank, start, with_phase, with_slot, with_wire, with_credit}
use Rattle.rules.specs.State.{with_flag, with_choice, with_entry, with_connection, with_allowance, with_last_sender}
use Rattle.rules.specs.State.{with_lines}
use Rattle.rules.specs.Valid.{Drives, Carries, Bounded, Lined}
use Rattle.rules.proofs.Apart.{full_not, booked_not}
use Rattle.theory.proofs.Ground.Puts.{put_cases, put_outside, number_one, entry_cases}
use Rattle.theory.specs.Invariant.{Core, SlotIn, EntriesIn, Places, Wires, Marks, FreeEntry}

-- what the steps keep of the places
pub record Kept (pl : Plan) (s : State) : Type 0 where
  pub slot : SlotIn pl s
  pub entries : EntriesIn pl s
  pub places : Places pl s
  pub wires : Wires pl s
  pub marks : Marks pl s
  pub free_entry : FreeEntry pl s
  pub bounded : Bounded pl s

-- a core has these parts
pub kept_of : (pl : Plan) (s : State) → Core pl s → Kept pl s
kept_of pl s c =
    record {
      slot = c.slot;
      entries = c.entries;
      places = c.places;
      wires = c.wires;
      marks = c.marks;
      free_entry = c.free_entry;
      bounded = c.bounded;
    }

-- Start has them
pub start_kept : (pl : Plan) → InRange pl.head → Kept pl (start pl)
unfolding start blank
start_kept pl range =
    record {
      slot = omega (arith, range.slots);
      entries = λ r o t i hr ho ht e. absurd (booked_not e);
      places = λ q h. record {};
      wires = λ o d x e. absurd (full_not e);
      marks = λ q h e. absurd (false≢true e);
      free_entry = λ r o hr ho. (0, omega (arith, range.slots), refl);
      bounded = record {
        queue = λ q n. refl;
        credit = λ q n. refl;
        flag = λ q n. refl;
        handled = λ q n. refl;
        wire = λ o n. refl;
        choice = λ o n. refl;
        table = λ r o t n. refl;
        connection = λ a p t n. refl;
        allowance = λ a n. refl;
        last_sender = λ o n. refl;
      };
    }

-- ---- what is kept, by the part of the state that it speaks of
-- a store that is blank outside the plan
abbrev Outside : {X B : Type 0} → (X → Type 0) → (X → B) → (X → B) → Type 0
Outside {X} E m n = (x : X) → (E x → ⊥) → m x ≡ n x

abbrev LinesKept : Plan → State → Type 0
LinesKept pl s =
    Places pl s × Marks pl s × Outside (Exists pl) s.lines.queue (blank pl).lines.queue
    × Outside (Exists pl) s.lines.handled (blank pl).lines.handled

abbrev FlowKept : Plan → State → Type 0
FlowKept pl s =
    Outside (Exists pl) s.flow.credit (blank pl).flow.credit
    × Outside (Exists pl) s.flow.flag (blank pl).flow.flag
    × Outside (λ a. a < A pl) s.flow.allowance (blank pl).flow.allowance

abbrev LinksKept : Plan → State → Type 0
LinksKept pl s = Wires pl s × Outside (Drives pl) s.links.wire (blank pl).links.wire
    × Outside (Drives pl) s.links.choice (blank pl).links.choice
    × Outside (Drives pl) s.last_sender (blank pl).last_sender

abbrev TableKept : Plan → State → Type 0
TableKept pl s = EntriesIn pl s × FreeEntry pl s
    × ((r o t : ℕ) → ((r < R pl) × (o < 4) × (t < S pl) → ⊥) → s.table r o t ≡ (blank pl).table r o t)

abbrev ConnectionsKept : Plan → State → Type 0
ConnectionsKept pl s =
    (a p t : ℕ) → ((a < A pl) × (p < P pl) × (t < S pl) → ⊥) → s.connections a p t ≡ (blank pl).connections a p t

-- a state is kept as its groups are
by_groups : (pl : Plan) (s : State) → SlotIn pl s → LinesKept pl s → FlowKept pl s → LinksKept pl s → TableKept pl s
    → ConnectionsKept pl s → Kept pl s
by_groups pl s slot lines flow links table connections =
    record {
      slot = slot;
      entries = table.0;
      places = lines.0;
      wires = links.0;
      marks = lines.1;
      free_entry = table.1;
      bounded =
          record {
            queue = lines.2;
            credit = flow.0;
            flag = flow.1;
            handled = lines.3;
            wire = links.1;
            choice = links.2;
            table = table.2;
            connection = connections;
            allowance = flow.2;
            last_sender = links.3;
          };
    }

module _ {pl : Plan} {s : State} (k : Kept pl s) where
  abbrev b : Bounded pl s
  b = k.bounded

  abbrev lines_of : LinesKept pl s
  lines_of = (k.places, k.marks, b.queue, b.handled)

  abbrev flow_of : FlowKept pl s
  flow_of = (b.credit, b.flag, b.allowance)

  abbrev links_of : LinksKept pl s
  links_of = (k.wires, b.wire, b.choice, b.last_sender)

  abbrev table_of : TableKept pl s
  table_of = (k.entries, k.free_entry, b.table)

  abbrev connections_of : ConnectionsKept pl s
  connections_of = b.connection

  -- ---- a change of one part
  -- any phase
  pub phase_kept : (x : Phase) → Kept pl (with_phase x s)
  phase_kept x = by_groups pl (with_phase x s) k.slot lines_of flow_of links_of table_of connections_of

  -- a slot of the plan
  pub slot_kept : (x : Slot) → x.0 < S pl → Kept pl (with_slot x s)
  slot_kept x h = by_groups pl (with_slot x s) h lines_of flow_of links_of table_of connections_of

  -- the lines, and the marks of their heads
  pub lines_kept : (l : Lines) → ((q : Queue) → Exists pl q → Lined pl q (l.handled q) (l.queue q))
      → ((q : Queue) → Exists pl q → l.handled q ≡ true → (r i : ℕ) × (q ≡ Q r i) × (l.queue q ≢ []))
      → Outside (Exists pl) l.queue (blank pl).lines.queue
      → Outside (Exists pl) l.handled (blank pl).lines.handled → Kept pl (with_lines l s)
  lines_kept l places marks lines heads =
      by_groups pl (with_lines l s) k.slot (places, marks, lines, heads) flow_of links_of table_of connections_of

  -- a wire of the plan, what it carries being on its way
  pub wire_kept : (o : Output) (x : Wire) → Drives pl o → ((y : Packet) → x ≡ Full y → Carries pl o y)
      → Kept pl (with_wire o x s)
  wire_kept o x h c =
      by_groups pl (with_wire o x s) k.slot lines_of flow_of (
        put_cases same_output output_same same_output_lem (λ (u : Output) (v : Wire). Drives pl u → (y : Packet)
            → v ≡ Full y → Carries pl u y) s.links.wire o x (λ d. c) (λ u ne. k.wires u),
        put_outside same_output output_same same_output_lem (Drives pl) s.links.wire (blank pl).links.wire o x h
            b.wire,
        b.choice,
        b.last_sender,
      )
      table_of connections_of

  -- a choice of an output, blank if the output is not the plan's
  pub choice_kept : (o : Output) (x : Choice) → ((Drives pl o → ⊥) → x ≡ (blank pl).links.choice o)
      → Kept pl (with_choice o x s)
  choice_kept o x h =
      by_groups pl (with_choice o x s) k.slot lines_of flow_of (
        k.wires,
        b.wire,
        put_cases same_output output_same same_output_lem (λ (u : Output) (v : Choice). (Drives pl u → ⊥)
            → v ≡ (blank pl).links.choice u) s.links.choice o x h (λ u ne. b.choice u),
        b.last_sender,
      ) table_of connections_of

  -- what an output of the plan remembers
  pub last_kept : (o : Output) (x : ℕ) → Drives pl o → Kept pl (with_last_sender o x s)
  last_kept o x h =
      by_groups pl (with_last_sender o x s) k.slot lines_of flow_of (
        k.wires,
        b.wire,
        b.choice,
        put_outside same_output output_same same_output_lem (Drives pl) s.last_sender (blank pl).last_sender o x h
            b.last_sender,
      ) table_of connections_of

  -- a credit of a queue of the plan
  pub credit_kept : (q : Queue) (x : Credit) → Exists pl q → Kept pl (with_credit q x s)
  credit_kept q x h =
      by_groups pl (with_credit q x s) k.slot lines_of (
        put_outside same_queue queue_same same_queue_lem (Exists pl) s.flow.credit (blank pl).flow.credit q x h
            b.credit,
        b.flag,
        b.allowance,
      ) links_of table_of connections_of

  -- its flag
  pub flag_kept : (q : Queue) (x : Bool) → Exists pl q → Kept pl (with_flag q x s)
  flag_kept q x h =
      by_groups pl (with_flag q x s) k.slot lines_of (
        b.credit,
        put_outside same_queue queue_same same_queue_lem (Exists pl) s.flow.flag (blank pl).flow.flag q x h
            b.flag,
        b.allowance,
      ) links_of table_of connections_of

  -- an allowance of an active of the plan
  pub allowance_kept : (a x : ℕ) → a < A pl → Kept pl (with_allowance a x s)
  allowance_kept a x h =
      by_groups pl (with_allowance a x s) k.slot lines_of (
        b.credit,
        b.flag,
        put_outside eqb number_one eqb-true (λ (c : ℕ). c < A pl) s.flow.allowance
            (blank pl).flow.allowance a x h b.allowance,
      ) links_of table_of connections_of

  -- an entry of the plan, booked if at all with one of the four sides, where its side keeps a free entry u
  pub entry_kept : (r o t : ℕ) (x : Entry) → r < R pl → o < 4 → t < S pl → ((i : ℕ) → x ≡ Booked i → i < 4) → (u : ℕ)
      → u < S pl → put eqb (s.table r o) t x u ≡ Free → Kept pl (with_entry r o t x s)
  entry_kept r o t x hr ho ht side u hu free =
      by_groups pl (with_entry r o t x s) k.slot lines_of flow_of links_of (
        λ r' o' t' i. entry_cases (λ (r' o' t' : ℕ) (v : Entry). (i : ℕ) → r' < R pl → o' < 4 → t' < S pl → v
            ≡ Booked i → i < 4) s.table r o t x (λ i a c d. side i) (λ r' o' t' i. k.entries r' o' t' i) r' o' t'
            i,
        put_cases eqb number_one eqb-true (λ (r' : ℕ) (v : ℕ → ℕ → Entry). (o' : ℕ) → r' < R pl → o' < 4 → (t : ℕ)
            × (t < S pl) × (v o' t ≡ Free)) s.table r (put eqb (s.table r) o (put eqb (s.table r o) t x))
            (put_cases eqb number_one eqb-true (λ (o' : ℕ) (v : ℕ → Entry). r < R pl → o' < 4 → (t : ℕ) × (t < S pl)
            × (v t ≡ Free)) (s.table r) o (put eqb (s.table r o) t x)
            (λ a c. (u, hu, free)) (λ o' ne. k.free_entry r o'))
            (λ r' ne o'. k.free_entry r' o'),
        entry_cases (λ (r' o' t' : ℕ) (v : Entry). ((r' < R pl) × (o' < 4) × (t' < S pl) → ⊥)
            → v ≡ (blank pl).table r' o' t') s.table r o t x (λ out. absurd (out (hr, ho, ht))) b.table,
      ) connections_of

  -- a connection of the plan's interfaces and slots, set or cleared
  pub connection_kept : (a p t : ℕ) (x : Bool) → a < A pl → p < P pl → t < S pl → Kept pl (with_connection a p t x s)
  connection_kept a p t x ha hp ht =
      by_groups pl (with_connection a p t x s) k.slot lines_of flow_of links_of table_of
      (entry_cases (λ (a' p' t' : ℕ) (v : Bool). ((a' < A pl) × (p' < P pl) × (t' < S pl) → ⊥)
      → v ≡ (blank pl).connections a' p' t') s.connections a p t x (λ out. absurd (out (ha, hp, ht)))
      b.connection)
