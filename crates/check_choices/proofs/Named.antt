-- A number that the code computes for a queue: it names that queue of the plan, or is that of no queue.
use mathlib.Core.Path.{◌≡◌, refl, ap, ◌∙◌}
use mathlib.Core.Logic.{◌⊎◌, inl, inr, ◌≢◌}
use mathlib.Core.Bool.{true, false}
use mathlib.Core.Option.{Option, none, some}
use Prim.Native.Nat.{ℕ, ◌+◌, ◌<◌}
use native.Mathlib.Omega.{arith}
use Rattle.basis.specs.Choice.{test}
use Rattle.plan.specs.declared.Head.{Head}
use Rattle.plan.specs.Head.{Counts, InRange}
use Rattle.plan.specs.Plan.{Plan}
use Rattle.plan_queues.specs.Queue.{Queue, Exists, number, queues, queue_at}
use Rattle.plan_journeys.proofs.Numbers.{queue_at_lem, number_below}
use Rattle.bytes_layout.specs.Named.{exists_test, test_exists, exists_test_lem}
use Rattle.bytes_steps.specs.Counts.{queues_by, queue_count}
use Rattle.next_queue.specs.Next.{no_queue, number_or}

-- v is the number of a queue of the plan
pub record Names (pl : Plan) (t : Option Queue) (v : ℕ) : Type 0 where
  pub queue : Queue
  pub is : t ≡ some queue
  pub here : Exists pl queue
  pub number : v ≡ number pl queue
  pub at : queue_at pl v ≡ queue
  pub below : v < queues pl

module _ (pl : Plan) where
  pub named : (t : Option Queue) (v : ℕ) → v ≡ number_or pl t → v ≢ no_queue → Names pl t v
  named none v e ne = absurd (ne e)
  named (some q) v e ne = by (test (exists_test pl q))
    where
      by : (exists_test pl q ≡ true) ⊎ (exists_test pl q ≡ false) → Names pl (some q) v
      by (inl x) =
          let h = test_exists pl q x in
          let k : v ≡ number pl q = rw x at e in
          record {
            queue = q;
            is = refl;
            here = h;
            number = k;
            at = ap (queue_at pl) k ∙ queue_at_lem pl q h;
            below = rw k (number_below pl q h);
          }
      by (inr x) = absurd (ne (rw x at e))

  -- a queue of the plan has a number
  pub not_unnamed : (q : Queue) (v : ℕ) → Counts pl.head → Exists pl q → v ≡ number_or pl (some q) → v ≡ no_queue → ⊥
  not_unnamed q v (cr, ca, cp) h e z =
      let k : v ≡ number pl q = rw (exists_test_lem pl q h) at e in
      let l = number_below pl q h in
      let m = queues_by pl in
      omega arith

-- four queues behind one of the plan's there is a number of its own, and so where the packet goes
pub some_queue : {h : Head} {n v : ℕ} → InRange h → n < queue_count h → (n + 4 < no_queue → v < no_queue) → v ≢ no_queue
some_queue r l f z =
    let a = r.routers.1 in let b = r.actives.1 in let c = r.passives.1 in
    let k = f (omega arith) in omega arith
