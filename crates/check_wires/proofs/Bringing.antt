-- Packets to come, counted one after the other.
use mathlib.Core.Path.{◌≡◌, refl, sym, ap, ◌∙◌}
use mathlib.Core.Logic.{◌⊎◌, inl, inr}
use mathlib.Core.Bool.{Bool, true, false}
use mathlib.Core.List.{List}
use mathlib.Core.Option.{Option, none, some}
use Prim.Native.Nat.{ℕ, zero, suc, ◌+◌, ◌≤◌, ◌<◌}
use native.Mathlib.Numerals.{add-one}
use native.Mathlib.Omega.{arith}
use lib.Dec.{eqb}
use lib.ListN.{get_or, set, length, length-set}
use lib.Seq.{get_or-set_same, get_or-set_other, set_out}
use borrow.Author.Tests.{eqb-true, eqb-false}
use Rattle.basis.specs.Choice.{test, refuted}
use Rattle.basis.specs.Bounded.{lt_or_ge}
use Rattle.packets.specs.declared.Wire.{Wire}
use Rattle.packets.specs.declared.Wire.TheVariants.{Empty, Full}
use Rattle.plan.specs.Head.{Counts}
use Rattle.plan.specs.Plan.{Plan}
use Rattle.plan_queues.specs.Queue.{Queue, number, queues, queue_at}
use Rattle.plan_queues.specs.Feeds.{Output}
use Rattle.rules.specs.Store.{same_queue, same_queue_lem, queue_same}
use Rattle.rules.specs.Outputs.{next_by, output_at}
use Rattle.rules.specs.Valid.{bit, sum, goes_to, brings, on_wires}
use Rattle.rules.proofs.Numbers.{at_number}
use Rattle.bytes_layout.specs.Decode.{decode}
use Rattle.bytes_steps.specs.Counts.{queues_by}
use Rattle.check_queues.specs.Lines.{Coming}
use Rattle.check_wires.specs.Outputs.{brings_to, Brought, UpTo, OutputsChecked}

-- ---- sums
pub sum_none : (n : ℕ) (f : ℕ → ℕ) → ((k : ℕ) → k < n → f k ≡ 0) → sum n f ≡ 0
unfolding sum
sum_none zero f h = refl
sum_none (suc n) f h = rw (sum_none n f (λ k l. h k (omega arith)), h n (omega arith))

pub sum_start : (f : ℕ → ℕ) → sum 0 f ≡ 0
unfolding sum
sum_start f = refl

pub sum_more : (n : ℕ) (f : ℕ → ℕ) → sum (n + 1) f ≡ sum n f + f n
unfolding sum
sum_more n f = rw add-one

sum_few : (n : ℕ) (f : ℕ → ℕ) → ((k : ℕ) → f k ≤ 1) → sum n f ≤ n
unfolding sum
sum_few zero f h = omega arith
sum_few (suc n) f h = let a = sum_few n f h in let b = h n in omega arith

-- ---- growing
module _ (pl : Plan) where
  pub brought_none : (t : List ℕ) → Brought pl (λ n. 0) t t
  brought_none t = record { long = λ l. l; grown = λ l n h. omega arith; most = λ n h. omega arith }

  pub brought_then : {w v : ℕ → ℕ} {t u x : List ℕ} → Brought pl w t u → Brought pl v u x
      → Brought pl (λ n. w n + v n) t x
  brought_then {w} {v} {t} {u} {x} f g =
      record {
        long = λ l. g.long (f.long l);
        grown = λ l n h. let a = f.grown l n h in let b = g.grown (f.long l) n h in omega arith;
        most = λ n h. let a = f.most n h in let b = g.most n h in omega arith;
      }

  pub brought_like : {w v : ℕ → ℕ} {t u : List ℕ} → ((n : ℕ) → n < queues pl → w n ≡ v n) → Brought pl w t u
      → Brought pl v t u
  brought_like {w} {v} {t} {u} e f =
      record {
        long = f.long;
        grown = λ l n h. let a = f.grown l n h in let b = e n h in omega arith;
        most = λ n h. let a = f.most n h in let b = e n h in omega arith;
      }

  -- ---- one packet, for queue k
  module _ (few : Counts pl.head) (q : Queue) (k : ℕ) (at : queue_at pl k ≡ q) (below : k < queues pl) where
    same_at : (n : ℕ) → n < queues pl → eqb k n ≡ false → same_queue q (queue_at pl n) ≡ false
    same_at n h ne =
        refuted (same_queue q (queue_at pl n))
        (λ t. eqb-false k n ne
        (sym (at_number pl k below) ∙ ap (number pl) (at ∙ same_queue_lem q (queue_at pl n) t) ∙ at_number pl n h))

    small : k < 512
    small = let e = queues_by pl in let a = few.0 in let b = few.1 in let c = few.2 in omega arith

    pub brought_one : (t : List ℕ) → Brought pl (λ n. bit (same_queue q (queue_at pl n))) t (set t k (get_or t k 0 + 1))
    brought_one t =
        record {
          long = λ l. length-set t k _ ∙ l;
          grown = λ l n h. grown l n h (test (eqb k n));
          most = λ n h. most n h (test (eqb k n)) (lt_or_ge k (length t));
        }
      where
        here : k < length t → get_or (set t k (get_or t k 0 + 1)) k 0 ≡ get_or t k 0 + 1
        here l = get_or-set_same t k _ 0 l

        away : (n : ℕ) → eqb k n ≡ false → get_or (set t k (get_or t k 0 + 1)) n 0 ≡ get_or t n 0
        away n f = get_or-set_other t k n _ 0 (λ z. eqb-false k n f (sym z))

        itself : same_queue q (queue_at pl k) ≡ true
        itself = rw at (queue_same q)

        grown : length t ≡ 512 → (n : ℕ) → n < queues pl → (eqb k n ≡ true) ⊎ (eqb k n ≡ false)
            → get_or (set t k (get_or t k 0 + 1)) n 0 ≡ get_or t n 0 + bit (same_queue q (queue_at pl n))
        grown l n h (inl f) = rw (← eqb-true k n f, itself) (here (rw l small))
        grown l n h (inr f) = rw (away n f, same_at n h f) (omega arith)

        most : (n : ℕ) → n < queues pl → (eqb k n ≡ true) ⊎ (eqb k n ≡ false) → (k < length t) ⊎ (length t ≤ k)
            → get_or (set t k (get_or t k 0 + 1)) n 0 ≤ get_or t n 0 + bit (same_queue q (queue_at pl n))
        most n h (inl f) (inl l) = rw (← eqb-true k n f, itself, here l) (omega arith)
        most n h (inl f) (inr l) = rw (← eqb-true k n f, set_out t k (get_or t k 0 + 1) l) (omega arith)
        most n h (inr f) l = rw (away n f) (omega arith)

  -- ---- all outputs
  goes_one : (q : Queue) (t : Option Queue) → goes_to q t ≤ 1
  goes_one q none = omega arith
  goes_one q (some n) = by (same_queue n q)
    where
      by : (t : Bool) → bit t ≤ 1
      by true = omega arith
      by false = omega arith

  brings_one : (q : Queue) (o : Output) (w : Wire) → brings pl q o w ≤ 1
  brings_one q o Empty = omega arith
  brings_one q o (Full x) = goes_one q (next_by pl o x)

  -- a wire brings at most one packet
  pub brought_few : (b : List ℕ) (m : ℕ) (c d : List ℕ) → ((n : ℕ) → get_or c n 0 ≡ 0)
      → Brought pl (λ n. sum m (brings_to pl b n)) c d → UpTo pl m d
  brought_few b m c d z f n h =
      let a = f.most n h in
      let e = z n in
      let s = sum_few m (brings_to pl b n)
      (λ k. brings_one (queue_at pl n) (output_at pl k) ((decode pl b).links.wire (output_at pl k))) in
      omega arith

  -- what the caller gets: how many packets are on the way to each queue
  pub coming_is : (b c d t u : List ℕ) {r : Bool} → length c ≡ 512 → ((n : ℕ) → get_or c n 0 ≡ 0)
      → OutputsChecked pl b r c d t u → r ≡ true → Coming pl b d
  unfolding on_wires
  coming_is b c d t u l z k e n h = let a = (k.come e).grown l n h in let y = z n in omega arith
