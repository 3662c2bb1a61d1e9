-- The sum of what all packets have left: at most 133 for each packet, and 0 in an empty network alone.
use mathlib.Core.Path.{◌≡◌, refl, ap, subst}
use mathlib.Core.Logic.{◌⊎◌, inl, inr}
use mathlib.Core.Bool.{Bool, true, false}
use mathlib.Core.List.{List, [], ◌∷◌}
use Prim.Native.Nat.{ℕ, zero, suc, ◌*◌, ◌≤◌, ◌<◌}
use native.Mathlib.Omega.{arith}
use Rattle.basis.specs.Choice.{test}
use Rattle.basis.specs.Among.{In}
use Rattle.basis.specs.Walk.{Spot, on, is_on, spot, on_count}
use Rattle.packets.specs.declared.Kind.{Kind}
use Rattle.packets.specs.declared.Kind.TheVariants.{Setup, Tdown, Ack, Nack}
use Rattle.packets.specs.declared.Packet.{Packet}
use Rattle.packets.specs.declared.Wire.{Wire}
use Rattle.packets.specs.declared.Wire.TheVariants.{Empty, Full}
use Rattle.plan.specs.Head.{InRange}
use Rattle.plan.specs.Plan.{Plan, Port, active, passive, R}
use Rattle.plan.specs.Rules.{home}
use Rattle.plan_walks.specs.Walk.{onward, walk_size}
use Rattle.plan_queues.specs.Queue.{Queue, active_out, active_in, passive_in, passive_out, U, Q, F, K, Exists, queues}
use Rattle.plan_queues.specs.Queue.{queue_at}
use Rattle.plan_queues.specs.Queue.{ahead, back}
use Rattle.plan_queues.specs.Feeds.{Output, Place, in_queue, handled_at}
use Rattle.plan_queues.specs.Feeds.{Ahead, Back, Fits, head_place}
use Rattle.rules.specs.Outputs.{outputs, output_at}
use Rattle.rules.specs.State.{State}
use Rattle.rules.specs.Remaining.{packets}
use Rattle.rules.specs.Valid.{Belongs, Lined, Drives, Carries, sum, in_all}
use Rattle.rules.specs.Progress.{HasWire, Quiet}
use Rattle.rules.proofs.Numbers.{exists_at}
use Rattle.rules.proofs.OutNumbers.{drives_at}
use Rattle.theory.specs.Invariant.{Core, WiresEmpty}
use Rattle.theory.specs.Weights.{anywhere, in_line, on_wire, in_lines, in_wires, weighed}
use Rattle.theory.proofs.Ground.Sums.{sum_nought}
use Rattle.theory.proofs.Weights.Total.{weighed_line, weighed_wire, weighed_plain}
use Rattle.theory_drain.proofs.Ground.{SomePacket, some_packet, wire_drives}
use Rattle.theory_drain.specs.Left.{way_back, at_router, setup_left, tdown_left, answer_left, left_kind, left, all_left}

-- ---- one packet
count_most : {X : Type 0} (step : X → Spot X) (n : ℕ) (s : Spot X) → on_count step n s ≤ n
unfolding on_count
count_most step zero s = omega arith
count_most step (suc n) s = by (count_most step n s) (test (is_on (spot step n s)))
  where
    by : on_count step n s ≤ n → (is_on (spot step n s) ≡ true) ⊎ (is_on (spot step n s) ≡ false)
        → on_count step (suc n) s ≤ suc n
    by l (inl e) = rw (e, on_count) (omega arith)
    by l (inr e) = rw (e, on_count) (omega arith)

-- a way back has at most R routers
way_most : (pl : Plan) (a : ℕ) (x : Port) → way_back pl a x ≤ R pl
unfolding way_back walk_size
way_most pl a x = count_most (onward pl (active a)) (R pl) (on x)

answer_most : (pl : Plan) (a h : ℕ) (at : Place) → R pl ≤ 16 → h ≤ 16 → answer_left pl a h at ≤ 133
answer_most pl a h (in_queue (passive_out x)) r l = let w = way_most pl a (home pl (passive x)) in omega arith
answer_most pl a h (in_queue (K q i o)) r l = let w = way_most pl a (record { router = q; side = i }) in omega arith
answer_most pl a h (in_queue (F back q o)) r l = let w = way_most pl a (at_router q) in omega arith
answer_most pl a h (handled_at q i) r l = let w = way_most pl a (at_router q) in omega arith
answer_most pl a h (in_queue (active_in x)) r l = omega arith
answer_most pl a h (in_queue (active_out x)) r l = omega arith
answer_most pl a h (in_queue (passive_in x)) r l = omega arith
answer_most pl a h (in_queue (U q i)) r l = omega arith
answer_most pl a h (in_queue (Q q i)) r l = omega arith
answer_most pl a h (in_queue (F ahead q o)) r l = omega arith

setup_most : (h : ℕ) (at : Place) → setup_left h at ≤ 133
setup_most h (in_queue (active_out x)) = omega arith
setup_most h (in_queue (U r i)) = omega arith
setup_most h (in_queue (Q r i)) = omega arith
setup_most h (handled_at r i) = omega arith
setup_most h (in_queue (F ahead r o)) = omega arith
setup_most h (in_queue (F back r o)) = omega arith
setup_most h (in_queue (passive_in x)) = omega arith
setup_most h (in_queue (active_in x)) = omega arith
setup_most h (in_queue (passive_out x)) = omega arith
setup_most h (in_queue (K r i o)) = omega arith

tdown_most : (h : ℕ) (at : Place) → h ≤ 16 → tdown_left h at ≤ 133
tdown_most h (in_queue (active_out x)) l = omega arith
tdown_most h (in_queue (U r i)) l = omega arith
tdown_most h (in_queue (Q r i)) l = omega arith
tdown_most h (handled_at r i) l = omega arith
tdown_most h (in_queue (F ahead r o)) l = omega arith
tdown_most h (in_queue (F back r o)) l = omega arith
tdown_most h (in_queue (passive_in x)) l = omega arith
tdown_most h (in_queue (active_in x)) l = omega arith
tdown_most h (in_queue (passive_out x)) l = omega arith
tdown_most h (in_queue (K r i o)) l = omega arith

left_most : (pl : Plan) (at : Place) (x : Packet) → R pl ≤ 16 → x.hub.0 ≤ 16 → left pl at x ≤ 133
unfolding left
left_most pl at x r l = by x.kind
  where
    by : (k : Kind) → left_kind pl k x.active x.hub.0 at ≤ 133
    by Setup = setup_most x.hub.0 at
    by Tdown = tdown_most x.hub.0 at l
    by Ack = answer_most pl x.active x.hub.0 at r l
    by Nack = answer_most pl x.active x.hub.0 at r l

-- a packet where it belongs has a step left
left_some : (pl : Plan) (at : Place) (x : Packet) → Belongs pl at x → 1 ≤ left pl at x
unfolding left Ahead Back
left_some pl at x b = by x.kind at b.fits
  where
    setup : (n : ℕ) (at : Place) → Ahead pl x.active x.passive at n → 1 ≤ setup_left x.hub.0 at
    setup n (in_queue (active_out a)) f = omega arith
    setup n (in_queue (U r i)) f = omega arith
    setup n (in_queue (Q r i)) f = omega arith
    setup n (handled_at r i) f = omega arith
    setup n (in_queue (F ahead r o)) f = omega arith
    setup n (in_queue (passive_in a)) f = omega arith
    setup n (in_queue (active_in a)) f = absurd f
    setup n (in_queue (passive_out a)) f = absurd f
    setup n (in_queue (F back r o)) f = absurd f
    setup n (in_queue (K r i o)) f = absurd f

    tdown : (n : ℕ) (at : Place) → 1 ≤ x.hub.0 → Ahead pl x.active x.passive at n
        → ((p : ℕ) → at ≡ in_queue (passive_in p) → ⊥) → 1 ≤ tdown_left x.hub.0 at
    tdown n (in_queue (active_out a)) l f g = omega arith
    tdown n (in_queue (U r i)) l f g = omega arith
    tdown n (in_queue (Q r i)) l f g = omega arith
    tdown n (handled_at r i) l f g = omega arith
    tdown n (in_queue (F ahead r o)) l f g = omega arith
    tdown n (in_queue (passive_in a)) l f g = absurd (g a refl)
    tdown n (in_queue (active_in a)) l f g = absurd f
    tdown n (in_queue (passive_out a)) l f g = absurd f
    tdown n (in_queue (F back r o)) l f g = absurd f
    tdown n (in_queue (K r i o)) l f g = absurd f

    answer : (n : ℕ) (at : Place) → Back pl x.active x.passive at n
        → 1 ≤ answer_left pl x.active x.hub.0 at
    answer n (in_queue (passive_out a)) f = omega arith
    answer n (in_queue (K r i o)) f = omega arith
    answer n (in_queue (F back r o)) f = omega arith
    answer n (handled_at r i) f = omega arith
    answer n (in_queue (active_in a)) f = omega arith
    answer n (in_queue (active_out a)) f = absurd f
    answer n (in_queue (passive_in a)) f = absurd f
    answer n (in_queue (U r i)) f = absurd f
    answer n (in_queue (Q r i)) f = absurd f
    answer n (in_queue (F ahead r o)) f = absurd f

    -- a tear-down is at no passive: it has a router ahead
    not_there : (at : Place) → Fits pl Tdown x.active x.passive x.hub.0 at → (p : ℕ)
        → at ≡ in_queue (passive_in p) → ⊥
    not_there at f p e = here (subst (Fits pl Tdown x.active x.passive x.hub.0) e f)
      where
        here : Fits pl Tdown x.active x.passive x.hub.0 (in_queue (passive_in p)) → ⊥
        here (n, (a, z), l, m) = omega arith

    by : (k : Kind) (at : Place) → Fits pl k x.active x.passive x.hub.0 at
        → 1 ≤ left_kind pl k x.active x.hub.0 at
    by Setup at f = setup x.hub.0 at f
    by Tdown at f = tdown f.0 at f.2 f.1 (not_there at f)
    by Ack at f = answer x.hub.0 at f.0
    by Nack at f = answer x.hub.0 at f

-- ---- all packets
sum_scaled : (n : ℕ) (f g : ℕ → ℕ) → ((i : ℕ) → i < n → f i ≤ 133 * g i) → sum n f ≤ 133 * sum n g
unfolding sum
sum_scaled zero f g h = omega arith
sum_scaled (suc n) f g h =
    let a = sum_scaled n f g (λ i l. h i (omega arith)) in
    let b = h n (omega arith) in
    omega arith

abbrev one : Packet → ℕ
one x = 1

module _ (pl : Plan) (range : InRange pl.head) where
  abbrev few : R pl ≤ 16
  few = range.routers.1

  all_most : (at : Place) (l : List Packet) → ((y : Packet) → In y l → Belongs pl at y)
      → in_all (left pl at) l ≤ 133 * in_all one l
  all_most at [] h = omega arith
  all_most at (x ∷ l) h =
      let a = all_most at l (λ y i. h y (inr i)) in
      let b = left_most pl at x few (h x (inl refl)).ranges.hub in
      omega arith

  line_most : (q : Queue) (done : Bool) (l : List Packet) → Lined pl q done l
      → in_line (left pl) q done l ≤ 133 * in_line (anywhere one) q done l
  unfolding in_line
  line_most q done [] h = omega arith
  line_most q done (x ∷ l) (b, more) =
      let a = all_most (in_queue q) l more in
      let c = left_most pl (head_place done q) x few b.ranges.hub in
      omega arith

  wire_most : (o : Output) (v : Wire) → ((x : Packet) → v ≡ Full x → Carries pl o x)
      → on_wire pl (left pl) o v ≤ 133 * on_wire pl (anywhere one) o v
  unfolding on_wire
  wire_most o Empty h = omega arith
  wire_most o (Full x) h =
      let k = h x refl in
      let c = left_most pl (in_queue k.queue) x few k.belongs.ranges.hub in
      rw k.next (omega arith)

  -- At most 133 for each packet.
  pub left_bound : (s : State) → Core pl s → all_left pl s ≤ 133 * packets pl s
  unfolding all_left weighed in_lines in_wires
  left_bound s c =
      let lines = sum_scaled (queues pl)
      (λ n. in_line (left pl) (queue_at pl n) (s.lines.handled (queue_at pl n)) (s.lines.queue (queue_at pl n)))
      (λ n. in_line (anywhere one) (queue_at pl n) (s.lines.handled (queue_at pl n)) (s.lines.queue (queue_at pl n)))
      (λ n l. line_most (queue_at pl n) (s.lines.handled (queue_at pl n)) (s.lines.queue (queue_at pl n))
      (c.places (queue_at pl n) (exists_at pl n l))) in
      let wires = sum_scaled (outputs pl) (λ n. on_wire pl (left pl) (output_at pl n) (s.links.wire (output_at pl n)))
      (λ n. on_wire pl (anywhere one) (output_at pl n) (s.links.wire (output_at pl n)))
      (λ n l. wire_most (output_at pl n) (s.links.wire (output_at pl n))
      (c.wires (output_at pl n) (drives_at pl n l))) in
      let count = weighed_plain pl one s c in
      omega arith

-- ---- none left: an empty network
-- where wires and queues are empty, none is left
nought : (pl : Plan) (s : State) → WiresEmpty pl s
    → ((n : ℕ) → n < queues pl → s.lines.queue (queue_at pl n) ≡ []) → all_left pl s ≡ 0
unfolding all_left weighed in_lines in_wires in_line on_wire
nought pl s w empty =
    let lines = sum_nought (queues pl)
    (λ n. in_line (left pl) (queue_at pl n) (s.lines.handled (queue_at pl n)) (s.lines.queue (queue_at pl n)))
    (λ n l. ap (in_line (left pl) (queue_at pl n) (s.lines.handled (queue_at pl n))) (empty n l)) in
    let wires = sum_nought (outputs pl) (λ n. on_wire pl (left pl) (output_at pl n) (s.links.wire (output_at pl n)))
    (λ n l. ap (on_wire pl (left pl) (output_at pl n)) (w (output_at pl n) (drives_at pl n l))) in
    omega arith

module _ {pl : Plan} {s : State} (c : Core pl s) where
  -- a queue's line has no more left than all
  line_in_all : (q : Queue) → Exists pl q
      → in_line (left pl) q (s.lines.handled q) (s.lines.queue q) ≤ all_left pl s
  unfolding all_left in_line
  line_in_all q h =
      let all = weighed_line pl (left pl) q h (s.lines.handled q) [] s in
      omega arith

  wire_in_all : (o : Output) → Drives pl o → on_wire pl (left pl) o (s.links.wire o) ≤ all_left pl s
  unfolding all_left on_wire
  wire_in_all o d =
      let all = weighed_wire pl (left pl) o d Empty s in
      omega arith

  line_some : (q : Queue) (done : Bool) (x : Packet) (l : List Packet) → Lined pl q done (x ∷ l)
      → 1 ≤ in_line (left pl) q done (x ∷ l)
  unfolding in_line
  line_some q done x l (b, more) = let a = left_some pl (head_place done q) x b in omega arith

  wire_some : (o : Output) (x : Packet) → Carries pl o x → 1 ≤ on_wire pl (left pl) o (Full x)
  unfolding on_wire
  wire_some o x k = let a = left_some pl (in_queue k.queue) x k.belongs in rw k.next a

  pub none_left : all_left pl s ≡ 0 → Quiet pl s
  none_left z = record { queues = queues'; wires = wires' }
    where
      queues' : (q : Queue) → Exists pl q → s.lines.queue q ≡ []
      queues' q h = by (s.lines.queue q) refl
        where
          by : (l : List Packet) → s.lines.queue q ≡ l → l ≡ []
          by [] e = refl
          by (x ∷ l) e =
              let a = line_in_all q h in
              let b = line_some q (s.lines.handled q) x l
              (subst (Lined pl q (s.lines.handled q)) e (c.places q h)) in
              let d = ap (in_line (left pl) q (s.lines.handled q)) e in
              absurd (omega arith)

      wires' : (o : Output) → HasWire pl o → s.links.wire o ≡ Empty
      wires' o h = by (s.links.wire o) refl
        where
          by : (v : Wire) → s.links.wire o ≡ v → v ≡ Empty
          by Empty e = refl
          by (Full x) e =
              let a = wire_in_all o (wire_drives pl o h) in
              let b = wire_some o x (c.wires o (wire_drives pl o h) x e) in
              let d = ap (on_wire pl (left pl) o) e in
              absurd (omega arith)

  -- Where wires are empty and some is left, a queue has a packet.
  pub some_left : WiresEmpty pl s → 1 ≤ all_left pl s
      → (q : Queue) × Exists pl q × (x : Packet) × (rest : List Packet) × (s.lines.queue q ≡ x ∷ rest)
  some_left w l = by (some_packet (λ n. s.lines.queue (queue_at pl n)) (queues pl))
    where
      by : SomePacket (λ n. s.lines.queue (queue_at pl n)) (queues pl)
          ⊎ ((n : ℕ) → n < queues pl → s.lines.queue (queue_at pl n) ≡ [])
          → (q : Queue) × Exists pl q × (x : Packet) × (rest : List Packet) × (s.lines.queue q ≡ x ∷ rest)
      by (inl (n, h, x, rest, e)) = (queue_at pl n, exists_at pl n h, x, rest, e)
      by (inr nil) = let z = nought pl s w nil in absurd (omega arith)
