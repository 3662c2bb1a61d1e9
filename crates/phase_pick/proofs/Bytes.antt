-- Where rows stand by the plan's numbers, that they lie inside the bytes, and what their bytes tell of the state.
use mathlib.Core.Path.{◌≡◌, refl, sym, ap, ◌∙◌}
use mathlib.Core.Logic.{◌≢◌}
use mathlib.Core.Bool.{true, false}
use mathlib.Core.List.{List, [], ◌∷◌}
use Prim.Native.Nat.{ℕ, zero, suc, ◌+◌, ◌*◌, ◌≤◌, ◌<◌}
use native.Mathlib.Omega.{arith}
use lib.Dec.{eqb}
use lib.ListN.{length, get_or}
use borrow.Author.Tests.{ne_eqb}
use Rattle.packets.specs.declared.Packet.{Packet}
use Rattle.plan.specs.Plan.{Plan, R}
use Rattle.plan_queues.specs.Queue.{Queue, Exists, queues, queue_at}
use Rattle.plan_queues.specs.Feeds.{Output}
use Rattle.rules.specs.State.{State, is_free}
use Rattle.rules.specs.Outputs.{outputs, output_at}
use Rattle.rules.specs.Valid.{Drives}
use Rattle.rules.proofs.Numbers.{at_number}
use Rattle.rules.proofs.OutNumbers.{at_output}
use Rattle.bytes_layout.specs.Offsets.{size, outputs_at, table_at, turns_at, queue_row, output_row, entry_row, turn_row}
use Rattle.bytes_layout.specs.Codes.{flag_of, entry_from}
use Rattle.bytes_layout.specs.Decode.{length_at}
use Rattle.bytes_layout.specs.Encode.{encode}
use Rattle.bytes_layout.proofs.Readings.{length_bytes, queue_inside, output_inside, turn_inside, entry_inside}
use Rattle.bytes_layout.proofs.Readings.{mark_at_lem}
use Rattle.bytes_layout.proofs.Readings.{length_at_lem}

-- a line of no packets is empty, and another has a head
pub line_none : (l : List Packet) → length l ≡ 0 → l ≡ []
line_none [] e = refl
line_none (x ∷ l) e = absurd (omega arith)

pub line_some : (l : List Packet) → l ≢ [] → (x : Packet) × (rest : List Packet) × (l ≡ x ∷ rest)
line_some [] n = absurd (n refl)
line_some (x ∷ l) n = (x, l, refl)

pub flag_zero : (n : ℕ) → flag_of n ≡ false → n ≡ 0
flag_zero zero e = refl
flag_zero (suc n) e = let z : ◌≡◌ {A = ℕ} 0 1 = cc in absurd (omega arith)

pub flag_some : (n : ℕ) → (n ≡ 0 → ⊥) → flag_of n ≡ true
flag_some zero e = absurd (e refl)
flag_some (suc n) e = refl

-- a byte is that of a free entry if it is 0
pub free_byte : (n : ℕ) → is_free (entry_from n) ≡ eqb n 0
free_byte zero = refl
free_byte (suc n) = sym (ne_eqb (suc n) 0 (λ e. let z : ◌≡◌ {A = ℕ} 0 1 = cc in omega arith))

module _ (pl : Plan) where
  -- ---- rows by numbers
  pub row_at_lem : (n : ℕ) → n < queues pl → queue_row pl (queue_at pl n) ≡ 2 + 39 * n
  unfolding queue_row
  row_at_lem n h = rw (at_number pl n h)

  pub output_at_lem : (m : ℕ) → m < outputs pl → output_row pl (output_at pl m) ≡ outputs_at pl + 7 * m
  unfolding output_row
  output_at_lem m h = rw (at_output pl m h)

  pub turn_at : (m : ℕ) → m < outputs pl → turn_row pl (output_at pl m) ≡ turns_at pl + m
  unfolding turn_row
  turn_at m h = rw (at_output pl m h)

  pub entry_at_lem : (r o t : ℕ) → entry_row pl r o t ≡ table_at pl + 2 * (128 * r + 32 * o + t)
  unfolding entry_row
  entry_at_lem r o t = refl

  -- ---- the bytes of a state
  module _ (s : State) (rest b : List ℕ) (e : b ≡ encode pl s rest) where
    bytes : length b ≡ size pl + length rest
    bytes = ap length e ∙ length_bytes pl s rest

    pub queue_room : (q : Queue) → Exists pl q → queue_row pl q + 39 ≤ length b
    queue_room q h = let n = bytes in let i = queue_inside pl q h in omega arith

    pub output_room : (o : Output) → Drives pl o → output_row pl o + 7 ≤ length b
    output_room o h = let n = bytes in let i = output_inside pl o h in omega arith

    pub turn_room : (o : Output) → Drives pl o → turn_row pl o < length b
    turn_room o h = let n = bytes in let i = turn_inside pl o h in omega arith

    pub entry_room : (r o t : ℕ) → r < R pl → o < 4 → t < 32 → entry_row pl r o t + 2 ≤ length b
    entry_room r o t hr ho ht = let n = bytes in let i = entry_inside pl r o t hr ho ht in omega arith

    pub no_packet : (q : Queue) → Exists pl q → length_at (queue_row pl q) b ≡ 0 → s.lines.queue q ≡ []
    no_packet q h z = line_none (s.lines.queue q) (sym (length_at_lem pl s rest b e q h) ∙ z)

    pub some_packet : (q : Queue) → Exists pl q → (length_at (queue_row pl q) b ≡ 0 → ⊥) → s.lines.queue q ≢ []
    some_packet q h n z = n (length_at_lem pl s rest b e q h ∙ ap length z)

    pub marked : (q : Queue) → Exists pl q → (get_or b (queue_row pl q + 2) 0 ≡ 0 → ⊥) → s.lines.handled q ≡ true
    marked q h n = sym (mark_at_lem pl s rest b e q h) ∙ flag_some (get_or b (queue_row pl q + 2) 0) n

    pub unmarked : (q : Queue) → Exists pl q → get_or b (queue_row pl q + 2) 0 ≡ 0 → s.lines.handled q ≡ false
    unmarked q h z = sym (mark_at_lem pl s rest b e q h) ∙ ap flag_of z
