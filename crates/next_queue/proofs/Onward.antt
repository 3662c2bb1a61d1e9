-- From U[i] a packet goes to Q[i]: the walk of its pair came in by side i, and Q[i] stands four queues behind U[i].
use mathlib.Core.Path.{◌≡◌, ap, subst, ◌∙◌}
use mathlib.Core.Option.{some}
use Prim.Native.Nat.{ℕ, ◌+◌, ◌<◌}
use native.Mathlib.Omega.{arith}
use Rattle.packets.specs.declared.Kind.{Kind}
use Rattle.packets.specs.declared.Kind.TheVariants.{Setup, Tdown, Ack, Nack}
use Rattle.packets.specs.declared.Packet.{Packet}
use Rattle.plan.specs.Plan.{Plan}
use Rattle.plan_queues.specs.Queue.{Queue, active_out, active_in, passive_in, passive_out, U, Q, F, K, Exists, number}
use Rattle.plan_queues.specs.Queue.{queues}
use Rattle.plan_queues.specs.Queue.{queue_at}
use Rattle.plan_queues.specs.Feeds.{Output, to_unit, output_of, in_queue, leaves_from, Stands, Ahead, Back, Fits}
use Rattle.plan_queues.specs.Feeds.{came_in}
use Rattle.plan_facts.specs.Wired.{Wired}
use Rattle.plan_journeys.proofs.CameIn.{came_in_lem}
use Rattle.rules.specs.Valid.{Belongs}
use Rattle.rules.proofs.Numbers.{exists_at, at_number}
use Rattle.bytes_layout.specs.Named.{exists_test_lem}
use Rattle.next_queue.specs.Next.{number_or, AtUnit}

-- only U's packets leave to a unit
to_unit_lem : (q : Queue) (r : ℕ) → output_of q ≡ some (to_unit r) → (i : ℕ) × (q ≡ U r i)
to_unit_lem (U x i) r e = (i, let z : x ≡ r = cc in rw z)
to_unit_lem (active_out x) r e = absurd (let z : ◌≡◌ {A = ℕ} 0 1 = cc in omega arith)
to_unit_lem (active_in x) r e = absurd (let z : ◌≡◌ {A = ℕ} 0 1 = cc in omega arith)
to_unit_lem (passive_in x) r e = absurd (let z : ◌≡◌ {A = ℕ} 0 1 = cc in omega arith)
to_unit_lem (passive_out x) r e = absurd (let z : ◌≡◌ {A = ℕ} 0 1 = cc in omega arith)
to_unit_lem (Q x i) r e = absurd (let z : ◌≡◌ {A = ℕ} 0 1 = cc in omega arith)
to_unit_lem (F h x o) r e = absurd (let z : ◌≡◌ {A = ℕ} 0 1 = cc in omega arith)
to_unit_lem (K x i o) r e = absurd (let z : ◌≡◌ {A = ℕ} 0 1 = cc in omega arith)

module _ {pl : Plan} (wired : Wired pl) where
  -- a packet in U[i] stands there on its walk
  stands_in : (k : Kind) (a p hub r i : ℕ) → Fits pl k a p hub (in_queue (U r i)) → (n : ℕ) × Stands pl a p n r i
  unfolding Ahead Back
  stands_in Setup a p hub r i f = (hub, f)
  stands_in Tdown a p hub r i f = (f.0, f.1)
  stands_in Ack a p hub r i f = absurd f.0
  stands_in Nack a p hub r i f = absurd f

  -- the head of a queue, where it leaves by
  pub onward : (o : Output) (q : Queue) {x : Packet} → Exists pl q → output_of q ≡ some o → Belongs pl (leaves_from q) x
      → AtUnit pl o x (number pl q + 4)
  unfolding number
  onward o q {x} h e here r u = by (to_unit_lem q r (e ∙ ap some u))
    where
      by : (i : ℕ) × (q ≡ U r i)
          → number pl q + 4 ≡ number_or pl (some (Q r (came_in pl x.active x.passive r)))
      by (i, at) =
          let there : Exists pl (U r i) = subst (Exists pl) at h in
          let f : Fits pl x.kind x.active x.passive x.hub.0 (in_queue (U r i)) = rw at at here.fits in
          let s = stands_in x.kind x.active x.passive x.hub.0 r i f in
          let c = came_in_lem wired x.active x.passive here.ranges.active here.serves s.0 r i s.1 in
          let k : number pl q ≡ number pl (U r i) = ap (number pl) at in
          rw (c, exists_test_lem pl (Q r i) there) (omega arith)

  -- the same by the queue's number
  pub onward_at : (o : Output) (n : ℕ) {x : Packet} → n < queues pl → output_of (queue_at pl n) ≡ some o
      → Belongs pl (leaves_from (queue_at pl n)) x → AtUnit pl o x (n + 4)
  onward_at o n {x} l e here =
      subst (λ (k : ℕ). AtUnit pl o x (k + 4)) (at_number pl n l) (onward o (queue_at pl n) (exists_at pl n l) e here)
