-- The senders of each output stand one behind the other.
use mathlib.Core.Path.{◌≡◌, refl, sym, ap, ◌∙◌}
use mathlib.Core.Logic.{◌⊎◌, inl, inr}
use mathlib.Core.Bool.{Bool, true, false}
use mathlib.Core.List.{List}
use Prim.Native.Nat.{ℕ, zero, suc, ◌+◌, ◌*◌, ◌-◌, ◌≤◌, ◌<◌}
use native.Mathlib.Nat.{add-zero}
use native.Mathlib.Omega.{arith}
use lib.Dec.{ltb}
use lib.ListN.{drop}
use borrow.Author.Tests.{lt-ltb, le-ltb}
use Rattle.basis.specs.Choice.{pick}
use Rattle.basis.specs.Bounded.{lt_or_ge}
use Rattle.plan.specs.Plan.{Plan, R, A, P}
use Rattle.plan_queues.specs.Queue.{Queue, U, Q, K, Exists, number, queues, queue_at, sender_at}
use Rattle.plan_queues.specs.Role.{is_unit}
use Rattle.plan_queues.specs.Feeds.{of_side, to_unit, from_unit}
use Rattle.plan_journeys.proofs.Numbers.{queue_at_lem}
use Rattle.rules.specs.Outputs.{output_at, output_number}
use Rattle.rules.specs.State.{Choice, nobody, sender}
use Rattle.rules.specs.Execute.{first_of, or_else, next_of}
use Rattle.rules.proofs.OutNumbers.{output_at_lem}
use Rattle.bytes_layout.specs.Codes.{choice_code}
use Rattle.phase_pick.specs.Senders.{named, Sends}

-- ---- the first that passes
module _ (pl : Plan) (f : Queue → Bool) where
  -- none of them
  pub first_nobody : (i n c : ℕ) → ((j : ℕ) → j < c → f (queue_at pl (n + j)) ≡ false)
      → first_of f i (named pl n c) ≡ nobody
  unfolding first_of named
  first_nobody i n zero h = refl
  first_nobody i n (suc c) h =
      let z : f (queue_at pl n) ≡ false = rw (add-zero n) at (h 0 (omega arith)) in
      rw z (first_nobody (suc i) (suc n) c (λ j l. step j (h (suc j) (omega arith))))
    where
      step : (j : ℕ) → f (queue_at pl (n + suc j)) ≡ false → f (queue_at pl (suc n + j)) ≡ false
      step j e = let q : suc n + j ≡ n + suc j = omega arith in rw q e

  -- the k-th
  pub first_sender : (i n c k : ℕ) → k < c → ((j : ℕ) → j < k → f (queue_at pl (n + j)) ≡ false)
      → f (queue_at pl (n + k)) ≡ true → first_of f i (named pl n c) ≡ sender (i + k)
  unfolding first_of named
  first_sender i n zero k l h t = absurd (omega arith)
  first_sender i n (suc c) zero l h t =
      let z : f (queue_at pl n) ≡ true = rw (add-zero n) at t in
      let e : i ≡ i + 0 = omega arith in
      rw z (ap sender e)
  first_sender i n (suc c) (suc k) l h t =
      let z : f (queue_at pl n) ≡ false = rw (add-zero n) at (h 0 (omega arith)) in
      let e : suc i + k ≡ i + suc k = omega arith in
      rw z (first_sender (suc i) (suc n) c k (omega arith) (λ j g. step j false (h (suc j) (omega arith)))
      (step k true t) ∙ ap sender e)
    where
      step : (j : ℕ) (b : Bool) → f (queue_at pl (n + suc j)) ≡ b → f (queue_at pl (suc n + j)) ≡ b
      step j b e = let q : suc n + j ≡ n + suc j = omega arith in rw q e

-- ---- the numbers from the i-th on
pub drop_named : (pl : Plan) (n c i : ℕ) → drop i (named pl n c) ≡ named pl (n + i) (c - i)
unfolding named
drop_named pl n c zero = let d : c - 0 ≡ c = omega arith in rw (add-zero n, d)
drop_named pl n zero (suc i) = let d : 0 - suc i ≡ 0 = omega arith in rw d
drop_named pl n (suc c) (suc i) =
    let e : suc n + i ≡ n + suc i = omega arith in
    let d : suc c - suc i ≡ c - i = omega arith in
    drop_named pl (suc n) c i ∙ rw (e, d)

-- ---- the next in turn
-- one that stands behind the last sender served
pub next_behind : (f : Queue → Bool) (qs : List Queue) {last k : ℕ} → last ≡ k
    → (choice_code (first_of f (last + 1) (drop (last + 1) qs)) ≡ 0 → ⊥)
    → choice_code (next_of f k qs) ≡ choice_code (first_of f (last + 1) (drop (last + 1) qs))
unfolding next_of
next_behind f qs {last} {k} e h =
    let z : suc k ≡ last + 1 = omega arith in
    rw z (by (first_of f (last + 1) (drop (last + 1) qs)) h)
  where
    by : (c : Choice) → (choice_code c ≡ 0 → ⊥) → choice_code (or_else c (first_of f 0 qs)) ≡ choice_code c
    by nobody g = absurd (g refl)
    by (sender j) g = refl

-- none does: the first of all
pub next_again : (f : Queue → Bool) (qs : List Queue) {last k : ℕ} → last ≡ k
    → choice_code (first_of f (last + 1) (drop (last + 1) qs)) ≡ 0
    → choice_code (next_of f k qs) ≡ choice_code (first_of f 0 qs)
unfolding next_of
next_again f qs {last} {k} e h =
    let z : suc k ≡ last + 1 = omega arith in
    rw z (by (first_of f (last + 1) (drop (last + 1) qs)) h)
  where
    by : (c : Choice) → choice_code c ≡ 0 → choice_code (or_else c (first_of f 0 qs)) ≡ choice_code (first_of f 0 qs)
    by nobody g = refl
    by (sender j) g = absurd (omega arith)

-- none passes
pub next_nobody : (pl : Plan) (f : Queue → Bool) (k n c : ℕ) → ((j : ℕ) → j < c → f (queue_at pl (n + j)) ≡ false)
    → next_of f k (named pl n c) ≡ nobody
unfolding next_of
next_nobody pl f k n c h = rw (drop_named pl n c (suc k), behind, first_nobody pl f 0 n c h)
  where
    behind : first_of f (suc k) (named pl (n + suc k) (c - suc k)) ≡ nobody
    behind = first_nobody pl f (suc k) (n + suc k) (c - suc k)
        (λ j l. let e : n + suc k + j ≡ n + (suc k + j) = omega arith in rw e (h (suc k + j) (omega arith)))

-- ---- the senders of each output
module _ (pl : Plan) where
  abbrev base : ℕ → ℕ
  base r = A pl + P pl + 28 * r

  sender_number : (r o k : ℕ) → o < 4 → number pl (sender_at r o k) ≡ base r + 8 + 5 * o + k
  unfolding number
  sender_number r o zero ho = refl
  sender_number r o (suc zero) ho = refl
  sender_number r o (suc (suc j)) ho = by (lt_or_ge j o)
    where
      by : (j < o) ⊎ (o ≤ j) → number pl (K r (pick (ltb j o) j (suc j)) o) ≡ base r + 8 + 5 * o + suc (suc j)
      by (inl l) = rw (lt-ltb j o l, lt-ltb j o l)
      by (inr g) = let h : o ≤ suc j = omega arith in rw (le-ltb j o g, le-ltb (suc j) o h)

  sender_here : (r o k : ℕ) → r < R pl → o < 4 → k < 5 → Exists pl (sender_at r o k)
  sender_here r o zero hr ho hk = (hr, ho)
  sender_here r o (suc zero) hr ho hk = (hr, ho)
  sender_here r o (suc (suc j)) hr ho hk = by (lt_or_ge j o)
    where
      by : (j < o) ⊎ (o ≤ j) → Exists pl (K r (pick (ltb j o) j (suc j)) o)
      by (inl l) = rw (lt-ltb j o l) (hr, omega arith, ho, λ z. omega arith)
      by (inr g) = rw (le-ltb j o g) (hr, omega arith, ho, λ z. omega arith)

  -- the sender of rank k at a side, and U[k], by their numbers
  sender_at_lem : (r o k n : ℕ) → r < R pl → o < 4 → k < 5 → n ≡ base r + 8 + 5 * o + k → queue_at pl n ≡ sender_at r o
      k
  sender_at_lem r o k n hr ho hk e =
      ap (queue_at pl) (e ∙ sym (sender_number r o k ho)) ∙ queue_at_lem pl (sender_at r o k)
      (sender_here r o k hr ho hk)

  up_at : (r k n : ℕ) → r < R pl → k < 4 → n ≡ base r + k → queue_at pl n ≡ U r k
  unfolding number
  up_at r k n hr hk e = ap (queue_at pl) e ∙ queue_at_lem pl (U r k) (hr, hk)

  passing_at : (r o k : ℕ) → is_unit (sender_at r o k) ≡ false
  passing_at r o zero = refl
  passing_at r o (suc zero) = refl
  passing_at r o (suc (suc k)) = refl

  pub sends_side : (r o : ℕ) → r < R pl → o < 4
      → Sends pl (A pl + P pl + 6 * r + o) (base r + 8 + 5 * o) 5 false
  unfolding named output_number queues
  sends_side r o hr ho =
      record {
        drives = omega arith;
        few = omega arith;
        are = rw (
          output_at_lem pl (of_side r o) (hr, ho),
          four 0 (base r + 8 + 5 * o) (omega arith) (omega arith),
          four 1 (suc (base r + 8 + 5 * o)) (omega arith) (omega arith),
          four 2 (suc (suc (base r + 8 + 5 * o))) (omega arith) (omega arith),
          four 3 (suc (suc (suc (base r + 8 + 5 * o)))) (omega arith) (omega arith),
          four 4 (suc (suc (suc (suc (base r + 8 + 5 * o))))) (omega arith) (omega arith),
        );
        units = λ k l. ap is_unit (four k (base r + 8 + 5 * o + k) l refl) ∙ passing_at r o k;
      }
    where
      four : (k n : ℕ) → k < 5 → n ≡ base r + 8 + 5 * o + k → queue_at pl n ≡ sender_at r o k
      four k n l e = sender_at_lem r o k n hr ho l e

  pub sends_up : (r : ℕ) → r < R pl → Sends pl (A pl + P pl + 6 * r + 4) (base r) 4 false
  unfolding named output_number queues
  sends_up r hr =
      record {
        drives = omega arith;
        few = omega arith;
        are = rw (
          output_at_lem pl (to_unit r) hr,
          four 0 (base r) (omega arith) (omega arith),
          four 1 (suc (base r)) (omega arith) (omega arith),
          four 2 (suc (suc (base r))) (omega arith) (omega arith),
          four 3 (suc (suc (suc (base r)))) (omega arith) (omega arith),
        );
        units = λ k l. ap is_unit (four k (base r + k) l refl);
      }
    where
      four : (k n : ℕ) → k < 4 → n ≡ base r + k → queue_at pl n ≡ U r k
      four k n l e = up_at r k n hr l e

  pub sends_down : (r : ℕ) → r < R pl → Sends pl (A pl + P pl + 6 * r + 5) (base r + 4) 4 true
  unfolding named output_number queues number
  sends_down r hr =
      record {
        drives = omega arith;
        few = omega arith;
        are = rw (
          output_at_lem pl (from_unit r) hr,
          four 0 (base r + 4) (omega arith) (omega arith),
          four 1 (suc (base r + 4)) (omega arith) (omega arith),
          four 2 (suc (suc (base r + 4))) (omega arith) (omega arith),
          four 3 (suc (suc (suc (base r + 4)))) (omega arith) (omega arith),
        );
        units = λ k l. ap is_unit (four k (base r + 4 + k) l refl);
      }
    where
      four : (k n : ℕ) → k < 4 → n ≡ base r + 4 + k → queue_at pl n ≡ Q r k
      four k n l e = ap (queue_at pl) e ∙ queue_at_lem pl (Q r k) (hr, l)

  -- an interface's one sender has its output's number
  pub sends_interface : (m : ℕ) → m < A pl + P pl → Sends pl m m 1 false
  unfolding named output_at queue_at queues
  sends_interface m h = by (lt_or_ge m (A pl))
    where
      by : (m < A pl) ⊎ (A pl ≤ m) → Sends pl m m 1 false
      by (inl l) =
          record {
            drives = omega arith;
            few = omega arith;
            are = rw (lt-ltb m (A pl) l);
            units = λ k g. let e : m + k ≡ m = omega arith in rw (e, lt-ltb m (A pl) l);
          }
      by (inr l) =
          record {
            drives = omega arith;
            few = omega arith;
            are = rw (le-ltb m (A pl) l, lt-ltb m (A pl + P pl) h);
            units = λ k g. let e : m + k ≡ m = omega arith in rw (e, le-ltb m (A pl) l, lt-ltb m (A pl + P pl) h);
          }
