-- Stores: functions from places, changed at one place. A place is a queue, an output or a number.
use Rattle.std.specs.Prelude.{◌≡◌, refl, ◌≢◌, Bool, true, ℕ, zero, suc, eqb}
use Rattle.std.proofs.Common.{sym, ap, ◌∙◌, eqb-true, eq-eqb}
use Rattle.basis.specs.Choice.{pick, also, also_true, also_of, refuted}
use Rattle.plan_queues.specs.Queue.{Heading, ahead, back, Queue, active_out, active_in, passive_in, passive_out, U, Q}
use Rattle.plan_queues.specs.Queue.{F, K}
use Rattle.plan_queues.specs.Queue.{rank_of}
use Rattle.plan_queues.specs.Feeds.{Output, of_active, of_passive, of_side, to_unit, from_unit}

-- m with a at the place k
abbrev pub put : {X A : Type 0} → (X → X → Bool) → (X → A) → X → A → X → A
put same m k a x = pick (same x k) a (m x)

-- ---- when two queues are one: the same kind, and the same numbers
abbrev kind_of : Queue → ℕ
kind_of (active_out x) = 0
kind_of (active_in x) = 1
kind_of (passive_in x) = 2
kind_of (passive_out x) = 3
kind_of (U r i) = 4
kind_of (Q r i) = 5
kind_of (F h r o) = 6
kind_of (K r i o) = 7

-- an interface's or a router's number, a side, and K's other side or whose F it is
abbrev first : Queue → ℕ
first (active_out x) = x
first (active_in x) = x
first (passive_in x) = x
first (passive_out x) = x
first (U r i) = r
first (Q r i) = r
first (F h r o) = r
first (K r i o) = r

abbrev second : Queue → ℕ
second (active_out x) = 0
second (active_in x) = 0
second (passive_in x) = 0
second (passive_out x) = 0
second (U r i) = i
second (Q r i) = i
second (F h r o) = o
second (K r i o) = i

abbrev third : Queue → ℕ
third (active_out x) = 0
third (active_in x) = 0
third (passive_in x) = 0
third (passive_out x) = 0
third (U r i) = 0
third (Q r i) = 0
third (F h r o) = rank_of h
third (K r i o) = o

abbrev pub same_queue : Queue → Queue → Bool
same_queue x y =
    also (eqb (kind_of x) (kind_of y))
    (also (eqb (first x) (first y)) (also (eqb (second x) (second y)) (eqb (third x) (third y))))

heading_from : ℕ → Heading
heading_from zero = ahead
heading_from (suc n) = back

-- the queue of a kind and its numbers
queue_of : ℕ → ℕ → ℕ → ℕ → Queue
queue_of zero a b c = active_out a
queue_of (suc zero) a b c = active_in a
queue_of (suc (suc zero)) a b c = passive_in a
queue_of (suc (suc (suc zero))) a b c = passive_out a
queue_of (suc (suc (suc (suc zero)))) a b c = U a b
queue_of (suc (suc (suc (suc (suc zero))))) a b c = Q a b
queue_of (suc (suc (suc (suc (suc (suc zero)))))) a b c = F (heading_from c) a b
queue_of (suc (suc (suc (suc (suc (suc (suc n))))))) a b c = K a b c

queue_of_lem : (x : Queue) → queue_of (kind_of x) (first x) (second x) (third x) ≡ x
unfolding queue_of heading_from
queue_of_lem (active_out x) = refl
queue_of_lem (active_in x) = refl
queue_of_lem (passive_in x) = refl
queue_of_lem (passive_out x) = refl
queue_of_lem (U r i) = refl
queue_of_lem (Q r i) = refl
queue_of_lem (F ahead r o) = refl
queue_of_lem (F back r o) = refl
queue_of_lem (K r i o) = refl

pub same_queue_lem : (x y : Queue) → same_queue x y ≡ true → x ≡ y
same_queue_lem x y e =
    let p = also_true {a = eqb (kind_of x) (kind_of y)}
    {b = also (eqb (first x) (first y)) (also (eqb (second x) (second y)) (eqb (third x) (third y)))} e in
    let q = also_true {a = eqb (first x) (first y)} {b = also (eqb (second x) (second y)) (eqb (third x) (third y))}
    p.1 in
    let r = also_true {a = eqb (second x) (second y)} {b = eqb (third x) (third y)} q.1 in
    let a : kind_of x ≡ kind_of y = eqb-true (kind_of x) (kind_of y) p.0 in
    let b : first x ≡ first y = eqb-true (first x) (first y) q.0 in
    let c : second x ≡ second y = eqb-true (second x) (second y) r.0 in
    let d : third x ≡ third y = eqb-true (third x) (third y) r.1 in
    sym (queue_of_lem x) ∙ ap (λ (k : ℕ). queue_of k (first x) (second x) (third x)) a
    ∙ ap (λ (k : ℕ). queue_of (kind_of y) k (second x) (third x)) b
    ∙ ap (λ (k : ℕ). queue_of (kind_of y) (first y) k (third x)) c ∙ ap (queue_of (kind_of y) (first y) (second y)) d
    ∙ queue_of_lem y

pub queue_same : (x : Queue) → same_queue x x ≡ true
queue_same x =
    also_of (eq-eqb (kind_of x) (kind_of x) refl)
    (also_of (eq-eqb (first x) (first x) refl)
    (also_of (eq-eqb (second x) (second x) refl) (eq-eqb (third x) (third x) refl)))

-- ---- when two outputs are one
abbrev out_kind : Output → ℕ
out_kind (of_active x) = 0
out_kind (of_passive x) = 1
out_kind (of_side r o) = 2
out_kind (to_unit r) = 3
out_kind (from_unit r) = 4

abbrev out_first : Output → ℕ
out_first (of_active x) = x
out_first (of_passive x) = x
out_first (of_side r o) = r
out_first (to_unit r) = r
out_first (from_unit r) = r

abbrev out_second : Output → ℕ
out_second (of_active x) = 0
out_second (of_passive x) = 0
out_second (of_side r o) = o
out_second (to_unit r) = 0
out_second (from_unit r) = 0

abbrev pub same_output : Output → Output → Bool
same_output x y =
    also (eqb (out_kind x) (out_kind y)) (also (eqb (out_first x) (out_first y)) (eqb (out_second x) (out_second y)))

output_from : ℕ → ℕ → ℕ → Output
output_from zero a b = of_active a
output_from (suc zero) a b = of_passive a
output_from (suc (suc zero)) a b = of_side a b
output_from (suc (suc (suc zero))) a b = to_unit a
output_from (suc (suc (suc (suc n)))) a b = from_unit a

output_from_lem : (x : Output) → output_from (out_kind x) (out_first x) (out_second x) ≡ x
unfolding output_from
output_from_lem (of_active x) = refl
output_from_lem (of_passive x) = refl
output_from_lem (of_side r o) = refl
output_from_lem (to_unit r) = refl
output_from_lem (from_unit r) = refl

pub same_output_lem : (x y : Output) → same_output x y ≡ true → x ≡ y
same_output_lem x y e =
    let p = also_true {a = eqb (out_kind x) (out_kind y)}
    {b = also (eqb (out_first x) (out_first y)) (eqb (out_second x) (out_second y))} e in
    let q = also_true {a = eqb (out_first x) (out_first y)} {b = eqb (out_second x) (out_second y)} p.1 in
    let a : out_kind x ≡ out_kind y = eqb-true (out_kind x) (out_kind y) p.0 in
    let b : out_first x ≡ out_first y = eqb-true (out_first x) (out_first y) q.0 in
    let c : out_second x ≡ out_second y = eqb-true (out_second x) (out_second y) q.1 in
    sym (output_from_lem x) ∙ ap (λ (k : ℕ). output_from k (out_first x) (out_second x)) a
    ∙ ap (λ (k : ℕ). output_from (out_kind y) k (out_second x)) b
    ∙ ap (output_from (out_kind y) (out_first y)) c ∙ output_from_lem y

pub output_same : (x : Output) → same_output x x ≡ true
output_same x =
    also_of (eq-eqb (out_kind x) (out_kind x) refl)
    (also_of (eq-eqb (out_first x) (out_first x) refl) (eq-eqb (out_second x) (out_second x) refl))

-- ---- what a store holds after a change
module _ {X A : Type 0} (same : X → X → Bool) (one : (x : X) → same x x ≡ true)
    (same-one : (x y : X) → same x y ≡ true → x ≡ y) where
  pub put_here : (m : X → A) (k : X) (a : A) → put same m k a k ≡ a
  put_here m k a = rw (one k, pick)

  pub put_away : (m : X → A) (k : X) (a : A) (x : X) → x ≢ k → put same m k a x ≡ m x
  put_away m k a x ne = rw (refuted (same x k) (λ t. ne (same-one x k t)), pick)
