-- One place of a store changed: what queues and outputs hold after it, what a number of each queue becomes, and what
-- the sum over the wires becomes.
use mathlib.Core.Path.{◌≡◌, sym, ap, ◌∙◌}
use mathlib.Core.Logic.{◌⊎◌, inl, inr, ◌≢◌}
use mathlib.Core.Bool.{Bool, true, false}
use Prim.Native.Nat.{ℕ, ◌+◌, ◌*◌, ◌<◌}
use native.Mathlib.Omega.{arith}
use Rattle.basis.specs.Choice.{test, same_test}
use Rattle.plan.specs.Plan.{Plan}
use Rattle.plan_queues.specs.Queue.{Queue}
use Rattle.plan_queues.specs.Feeds.{Output}
use Rattle.rules.specs.Store.{put, same_queue, same_queue_lem, queue_same, same_output, same_output_lem, output_same}
use Rattle.rules.specs.Store.{put_here}
use Rattle.rules.specs.Store.{put_away}
use Rattle.rules.specs.Outputs.{outputs, output_at, output_number}
use Rattle.rules.specs.Valid.{Drives, bit, sum, fed}
use Rattle.rules.proofs.OutNumbers.{output_at_lem, output_below, at_output}
use Rattle.theory.proofs.Ground.Sums.{sum_but}

-- ---- stores of queues and of outputs
-- two queues are one or not
pub queue_or : (x y : Queue) → (x ≡ y) ⊎ (x ≢ y)
queue_or x y = by (test (same_queue x y))
  where
    by : (same_queue x y ≡ true) ⊎ (same_queue x y ≡ false) → (x ≡ y) ⊎ (x ≢ y)
    by (inl t) = inl (same_queue_lem x y t)
    by (inr t) = inr (λ e. let u : same_queue x y ≡ true = rw e (queue_same y) in
        let z : ◌≡◌ {A = Bool} true false = sym u ∙ t in let c : ◌≡◌ {A = ℕ} 0 1 = cc in omega arith)

-- what stands where a queue's value was put, and elsewhere
pub queue_here : {X : Type 0} (m : Queue → X) (k : Queue) (a : X) → put same_queue m k a k ≡ a
queue_here m k a = put_here same_queue queue_same same_queue_lem m k a

-- elsewhere the store is as it was
pub queue_away : {X : Type 0} (m : Queue → X) (k : Queue) (a : X) (x : Queue) → x ≢ k → put same_queue m k a x ≡ m x
queue_away m k a x ne = put_away same_queue queue_same same_queue_lem m k a x ne

-- the same of an output's value
pub output_here : {X : Type 0} (m : Output → X) (k : Output) (a : X) → put same_output m k a k ≡ a
output_here m k a = put_here same_output output_same same_output_lem m k a

-- elsewhere the store is as it was
pub output_away : {X : Type 0} (m : Output → X) (k : Output) (a : X) (x : Output) → x ≢ k
    → put same_output m k a x ≡ m x
output_away m k a x ne = put_away same_output output_same same_output_lem m k a x ne

-- a queue is the other as the other is it
pub same_turn : (x y : Queue) → same_queue x y ≡ same_queue y x
same_turn x y = same_test (same_queue x y) (same_queue y x) (turn x y) (turn y x)
  where
    turn : (x y : Queue) → same_queue x y ≡ true → same_queue y x ≡ true
    turn x y t = rw (same_queue_lem x y t) (queue_same y)

-- a queue that no wire feeds is none that a wire feeds
pub fed_apart : (pl : Plan) (q p : Queue) → fed pl q ≡ false → fed pl p ≡ true → q ≢ p
fed_apart pl q p f t e =
    let z : ◌≡◌ {A = Bool} true false = sym t ∙ ap (fed pl) (sym e) ∙ f in
    let c : ◌≡◌ {A = ℕ} 0 1 = cc in
    omega arith

-- a number of each queue, where one queue's number grew by g and lost l
pub cell_sum : {X : Type 0} (w : X → ℕ) (m : Queue → X) (k : Queue) (a : X) (g l : ℕ) → w a + l ≡ w (m k) + g
    → (q : Queue) → w (put same_queue m k a q) + l * bit (same_queue q k) ≡ w (m q) + g * bit (same_queue q k)
cell_sum w m k a g l e q = by (test (same_queue q k))
  where
    by : (same_queue q k ≡ true) ⊎ (same_queue q k ≡ false)
        → w (put same_queue m k a q) + l * bit (same_queue q k) ≡ w (m q) + g * bit (same_queue q k)
    by (inl t) = let z : w (m q) ≡ w (m k) = ap (λ (x : Queue). w (m x)) (same_queue_lem q k t) in rw t (omega arith)
    by (inr t) = rw t (omega arith)

-- ---- sums
-- a sum over the outputs, of what each output's place holds, after one place was changed
pub outputs_put : {X : Type 0} (pl : Plan) (w : Output → X → ℕ) (m : Output → X) (o : Output) (a : X) → Drives pl o
    → sum (outputs pl) (λ n. w (output_at pl n) (put same_output m o a (output_at pl n))) + w o (m o)
    ≡ sum (outputs pl) (λ n. w (output_at pl n) (m (output_at pl n))) + w o a
outputs_put {X} pl w m o a d =
    let one = sum_but (outputs pl) (output_number pl o) (λ n. w (output_at pl n)
    (put same_output m o a (output_at pl n)))
    (λ n. w (output_at pl n) (m (output_at pl n))) (output_below pl o d) away in
    let old : w (output_at pl (output_number pl o)) (m (output_at pl (output_number pl o))) ≡ w o (m o) =
    ap (λ (u : Output). w u (m u)) (output_at_lem pl o d) in
    let new : w (output_at pl (output_number pl o)) (put same_output m o a (output_at pl (output_number pl o))) ≡ w o a
    =
    ap (λ (u : Output). w u (put same_output m o a u)) (output_at_lem pl o d) ∙ ap (w o) (output_here m o a) in
    omega arith
  where
    away : (j : ℕ) → j < outputs pl → j ≢ output_number pl o
        → w (output_at pl j) (put same_output m o a (output_at pl j)) ≡ w (output_at pl j) (m (output_at pl j))
    away j h ne = ap (w (output_at pl j))
        (output_away m o a (output_at pl j) (λ e. ne (sym (at_output pl j h) ∙ ap (output_number pl) e)))
