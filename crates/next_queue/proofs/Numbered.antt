-- What the code computes is the number of the next queue.
use mathlib.Core.Path.{◌≡◌, refl, sym, ap, ◌∙◌}
use mathlib.Core.Logic.{◌⊎◌, inl, inr}
use mathlib.Core.Bool.{true, false}
use mathlib.Core.List.{List, []}
use mathlib.Core.Option.{some}
use Prim.Native.Nat.{ℕ, ◌+◌, ◌*◌, ◌-◌, ◌/◌, ◌%◌, ◌≤◌, ◌<◌}
use native.Mathlib.Omega.{arith}
use lib.Dec.{eqb, ltb}
use lib.ListN.{get_or}
use borrow.Author.Tests.{ltb-true, lt-ltb, le-ltb, eqb-true}
use Rattle.basis.specs.Choice.{test}
use Rattle.basis.specs.Bounded.{lt_or_ge}
use Rattle.packets.specs.declared.Kind.{Kind}
use Rattle.packets.specs.declared.Kind.TheVariants.{Setup, Tdown, Ack, Nack}
use Rattle.packets.specs.declared.Packet.{Packet}
use Rattle.plan.specs.declared.Head.{Head}
use Rattle.plan.specs.declared.Joint.{Joint}
use Rattle.plan.specs.declared.Joint.TheVariants.{Router, Active, Passive}
use Rattle.plan.specs.Head.{destinations}
use Rattle.plan.specs.Plan.{Plan, Port, Interface, active, passive, no_side, Has, route_to}
use Rattle.plan.specs.Rules.{port_of, port_or0, ports_of, home}
use Rattle.plan.specs.Tables.{table_plan, joint_of_byte, interface_at}
use Rattle.plan_facts.proofs.Joints.{router_some, interface_some}
use Rattle.plan_queues.specs.Queue.{U, K, Q, F, number}
use Rattle.plan_queues.specs.Feeds.{came_in, heading_of, destination, enters, across}
use Rattle.rules.specs.Outputs.{next_by, output_at, router_output}
use Rattle.next_queue.specs.Wiring.{Wiring}
use Rattle.next_queue.specs.Next.{number_or, goes_back, base_of, outputs_of, crossed_of, leaves_of}
use Rattle.next_queue.specs.Next.{entered_of, across_of, column_of, routed_of, next_of, AtUnit}

module _ (h : Head) (routes : List (List ℕ)) (joints : List ℕ) where
  abbrev pl : Plan
  pl = table_plan h routes joints

  -- U[i] of a router of the plan
  up_number : (r i : ℕ) → r < h.routers → i < 4 → base_of h r + i ≡ number_or pl (some (U r i))
  unfolding table_plan number
  up_number r i hr hi = rw (lt-ltb r h.routers hr, lt-ltb i 4 hi)

  -- K[i,o]
  crossed_number : (r i o : ℕ) → r < h.routers → i < 4 → crossed_of (base_of h r) i o ≡ number_or pl (some (K r i o))
  unfolding table_plan number crossed_of
  crossed_number r i o hr hi = by (test (ltb o 4)) (test (eqb i o))
    where
      by : (ltb o 4 ≡ true) ⊎ (ltb o 4 ≡ false) → (eqb i o ≡ true) ⊎ (eqb i o ≡ false)
          → crossed_of (base_of h r) i o ≡ number_or pl (some (K r i o))
      by (inl t) (inl u) = rw (lt-ltb r h.routers hr, lt-ltb i 4 hi, t, u)
      by (inl t) (inr u) = rw (lt-ltb r h.routers hr, lt-ltb i 4 hi, t, u)
      by (inr t) u = rw (lt-ltb r h.routers hr, lt-ltb i 4 hi, t)

  -- F[o]
  leaves_number : (k : Kind) (r o : ℕ) → r < h.routers
      → leaves_of (base_of h r) (goes_back k) o ≡ number_or pl (some (F (heading_of k) r o))
  unfolding table_plan number leaves_of
  leaves_number k r o hr = by k (test (ltb o 4))
    where
      by : (k : Kind) → (ltb o 4 ≡ true) ⊎ (ltb o 4 ≡ false)
          → leaves_of (base_of h r) (goes_back k) o ≡ number_or pl (some (F (heading_of k) r o))
      by Setup (inl t) = rw (lt-ltb r h.routers hr, t) (omega arith)
      by Tdown (inl t) = rw (lt-ltb r h.routers hr, t) (omega arith)
      by Ack (inl t) = rw (lt-ltb r h.routers hr, t)
      by Nack (inl t) = rw (lt-ltb r h.routers hr, t)
      by Setup (inr t) = rw (lt-ltb r h.routers hr, t)
      by Tdown (inr t) = rw (lt-ltb r h.routers hr, t)
      by Ack (inr t) = rw (lt-ltb r h.routers hr, t)
      by Nack (inr t) = rw (lt-ltb r h.routers hr, t)

  -- a packet that enters by a port
  entered_number : (k : Kind) (a p port : ℕ) → port < 4 * h.routers
      → entered_of h routes port (goes_back k) a ≡ number_or pl (some (enters pl (heading_of k) a p (port_of port)))
  unfolding entered_of table_plan
  entered_number Setup a p port l = up_number (port / 4) (port % 4) (omega arith) (omega arith)
  entered_number Tdown a p port l = up_number (port / 4) (port % 4) (omega arith) (omega arith)
  entered_number Ack a p port l =
      crossed_number (port / 4) (port % 4) (get_or (get_or routes (port / 4) []) a no_side) (omega arith) (omega arith)
  entered_number Nack a p port l =
      crossed_number (port / 4) (port % 4) (get_or (get_or routes (port / 4) []) a no_side) (omega arith) (omega arith)

module _ (h : Head) (routes : List (List ℕ)) (joints homes : List ℕ) (w : Wiring h routes joints homes) where
  abbrev net : Plan
  net = table_plan h routes joints

  head_is : net.head ≡ h
  unfolding table_plan
  head_is = refl

  -- an interface's port is one of the plan's
  pub port_small : (d : ℕ) → d < destinations h → get_or homes d 0 < 4 * h.routers
  unfolding table_plan home
  port_small d l = rw (w.ports d l) (by (lt_or_ge d h.actives))
    where
      at : (e : Interface) → Has net e → port_or0 (ports_of net e) < 4 * h.routers
      at e k =
          let j = w.wired.joined e k in
          let i = w.wired.inside (home net e).router (home net e).side
          (λ z. interface_some e (sym j.there ∙ z)) in
          let r : port_or0 (ports_of net e) / 4 < h.routers = i.0 in omega arith

      by : (d < h.actives) ⊎ (h.actives ≤ d) → port_or0 (ports_of net (interface_at h d)) < 4 * h.routers
      by (inl a) = rw (lt-ltb d h.actives a) (at (active d) a)
      by (inr g) = rw (le-ltb d h.actives g) (at (passive (d - h.actives)) (omega arith))

  pub port_few : (d : ℕ) → d < destinations h → get_or homes d 0 < 64
  port_few d l = let p = port_small d l in let r = w.range.routers.1 in omega arith

  -- a packet that leaves by a joint whose numbers are the plan's
  joint_number : (v : ℕ) (k : Kind) (a p : ℕ) → ((n t : ℕ) → joint_of_byte v ≡ Router n t → n < h.routers)
      → ((n : ℕ) → joint_of_byte v ≡ Active n → n < h.actives) → ((n : ℕ) → joint_of_byte v ≡ Passive n → n <
      h.passives)
      → across_of h routes v (goes_back k) a ≡ number_or net (across net (heading_of k) a p (joint_of_byte v))
  unfolding across_of joint_of_byte table_plan number
  joint_number v k a p fr fa fp = by (test (eqb (v / 64) 1)) (test (eqb (v / 64) 2)) (test (eqb (v / 64) 3))
    where
      by : (eqb (v / 64) 1 ≡ true) ⊎ (eqb (v / 64) 1 ≡ false) → (eqb (v / 64) 2 ≡ true) ⊎ (eqb (v / 64) 2 ≡ false)
          → (eqb (v / 64) 3 ≡ true) ⊎ (eqb (v / 64) 3 ≡ false)
          → across_of h routes v (goes_back k) a ≡ number_or net (across net (heading_of k) a p (joint_of_byte v))
      by (inl x) y z =
          let l = fr (v / 4 % 16) (v % 4) (rw x) in
          let e : v % 64 / 4 ≡ v / 4 % 16 = omega arith in
          let f : v % 64 % 4 ≡ v % 4 = omega arith in
          let q : v % 64 < 4 * h.routers = omega arith in
          rw x (entered_number h routes joints k a p (v % 64) q
          ∙ λ i. number_or net (some (enters net (heading_of k) a p (record { router = e i; side = f i }))))
      by (inr x) (inl y) z =
          let l = fa (v / 4 % 16) (rw (x, y)) in rw (x, y, lt-ltb (v / 4 % 16) h.actives l)
      by (inr x) (inr y) (inl z) =
          let l = fp (v / 4 % 16) (rw (x, y, z)) in rw (x, y, z, lt-ltb (v / 4 % 16) h.passives l)
      by (inr x) (inr y) (inr z) = rw (x, y, z)

  joint_byte : (r o : ℕ) → o < 4 → net.joint r o ≡ joint_of_byte (get_or joints (4 * r + o) 0)
  unfolding table_plan
  joint_byte r o ho = rw (lt-ltb o 4 ho)

  across_number : (k : Kind) (a p r o : ℕ) → o < 4
      → across_of h routes (get_or joints (4 * r + o) 0) (goes_back k) a
      ≡ number_or net (across net (heading_of k) a p (net.joint r o))
  unfolding table_plan
  across_number k a p r o ho =
      let e = joint_byte r o ho in
      joint_number (get_or joints (4 * r + o) 0) k a p
      (λ n t f. (w.wired.inside n t (λ z. router_some (sym (w.wired.named r o n t (e ∙ f)).1 ∙ z))).0)
      (λ n f. w.wired.known r o (active n) (e ∙ f)) (λ n f. w.wired.known r o (passive n) (e ∙ f))
      ∙ ap (λ (j : Joint). number_or net (across net (heading_of k) a p j)) (sym e)

  -- from a unit
  column_side : (k : Kind) (a p r : ℕ)
      → get_or (get_or routes r []) (column_of h (goes_back k) a p) no_side ≡ route_to net
      (destination (heading_of k) a p) r
  unfolding table_plan column_of
  column_side Setup a p r = refl
  column_side Tdown a p r = refl
  column_side Ack a p r = refl
  column_side Nack a p r = refl

  home_is : (e : Interface) (d : ℕ) → d < destinations h → interface_at h d ≡ e → port_of (get_or homes d 0) ≡ home net
      e
  unfolding home
  home_is e d l q = ap port_of (w.ports d l ∙ ap (λ (x : Interface). port_or0 (ports_of net x)) q)

  -- by an output of a router
  routed_number : (x : Packet) (r o q : ℕ) → r < h.routers → o < 6
      → (o ≡ 4 → q ≡ number_or net (some (Q r (came_in net x.active x.passive r))))
      → routed_of h routes joints r o q (goes_back x.kind) x.active x.passive
      ≡ number_or net (next_by net (router_output r o) x)
  unfolding routed_of
  routed_number x r o q hr ho at = by (test (ltb o 4)) (test (eqb o 4))
    where
      by : (ltb o 4 ≡ true) ⊎ (ltb o 4 ≡ false) → (eqb o 4 ≡ true) ⊎ (eqb o 4 ≡ false)
          → routed_of h routes joints r o q (goes_back x.kind) x.active x.passive
          ≡ number_or net (next_by net (router_output r o) x)
      by (inl f) g = rw f (across_number x.kind x.active x.passive r o (ltb-true o 4 f))
      by (inr f) (inl g) = rw (f, g) (at (eqb-true o 4 g))
      by (inr f) (inr g) = rw (f, g)
          (ap (leaves_of (base_of h r) (goes_back x.kind)) (column_side x.kind x.active x.passive r)
          ∙ leaves_number h routes joints x.kind r
          (route_to net (destination (heading_of x.kind) x.active x.passive) r) hr)

  -- by any output
  pub next_number : (m q : ℕ) (x : Packet) → m < outputs_of h → AtUnit net (output_at net m) x q
      → next_of h routes joints homes m q (goes_back x.kind) x.active x.passive
      ≡ number_or net (next_by net (output_at net m) x)
  unfolding next_of output_at table_plan
  next_number m q x l at = by (lt_or_ge m h.actives) (lt_or_ge m (destinations h))
    where
      into : (e : Interface) → m < destinations h → interface_at h m ≡ e
          → entered_of h routes (get_or homes m 0) (goes_back x.kind) x.active
          ≡ number_or net (some (enters net (heading_of x.kind) x.active x.passive (home net e)))
      into e d f =
          entered_number h routes joints x.kind x.active x.passive (get_or homes m 0) (port_small m d)
          ∙ ap (λ (y : Port). number_or net (some (enters net (heading_of x.kind) x.active x.passive y)))
          (home_is e m d f)

      by : (m < h.actives) ⊎ (h.actives ≤ m) → (m < destinations h) ⊎ (destinations h ≤ m)
          → next_of h routes joints homes m q (goes_back x.kind) x.active x.passive
          ≡ number_or net (next_by net (output_at net m) x)
      by (inl a) d =
          let k : m < destinations h = omega arith in
          rw (lt-ltb m (destinations h) k, lt-ltb m h.actives a) (into (active m) k (rw (lt-ltb m h.actives a)))
      by (inr a) (inl d) =
          rw (lt-ltb m (destinations h) d, le-ltb m h.actives a)
          (into (passive (m - h.actives)) d (rw (le-ltb m h.actives a)))
      by (inr a) (inr d) =
          rw (le-ltb m (destinations h) d, le-ltb m h.actives a)
          (routed_number x ((m - destinations h) / 6) ((m - destinations h) % 6) q (omega arith) (omega arith)
          (λ e. at ((m - destinations h) / 6)
          (rw (le-ltb m (destinations h) d, le-ltb m h.actives a, e))))
