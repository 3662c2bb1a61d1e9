-- What a change of one queue, one handled mark or one wire does to the sum of a weight over all packets. Credits,
-- flags, choices, the table, allowances, phase and slot do not matter.
use mathlib.Core.Path.{◌≡◌, refl, sym, ap, ap₂, subst, ◌∙◌}
use mathlib.Core.Logic.{◌⊎◌, inl, inr, ◌≢◌}
use mathlib.Core.Bool.{Bool, true, false}
use mathlib.Core.List.{List, [], ◌∷◌, ◌++◌}
use mathlib.Core.Option.{some}
use Prim.Native.Nat.{ℕ, ◌+◌, ◌<◌}
use native.Mathlib.Omega.{arith}
use Rattle.basis.specs.Choice.{pick, test}
use Rattle.packets.specs.declared.Packet.{Packet}
use Rattle.packets.specs.declared.Wire.{Wire}
use Rattle.packets.specs.declared.Wire.TheVariants.{Empty, Full}
use Rattle.plan.specs.Plan.{Plan}
use Rattle.plan_queues.specs.Queue.{Queue, Exists, number, queues, queue_at}
use Rattle.plan_queues.specs.Feeds.{Output, in_queue, head_place}
use Rattle.plan_journeys.proofs.Numbers.{queue_at_lem, number_below}
use Rattle.rules.specs.Store.{put, same_queue, same_queue_lem, queue_same, same_output, same_output_lem, output_same}
use Rattle.rules.specs.Store.{put_here}
use Rattle.rules.specs.Store.{put_away}
use Rattle.rules.specs.Outputs.{next_by, outputs, output_at, output_number}
use Rattle.rules.specs.State.{State, blank, start, with_queue, with_wire, with_handled, join}
use Rattle.rules.specs.Valid.{Drives, in_all, in_wire, total}
use Rattle.rules.proofs.Numbers.{at_number}
use Rattle.rules.proofs.OutNumbers.{output_at_lem, output_below, drives_at, at_output}
use Rattle.theory.proofs.Ground.Sums.{sum_same, sum_but, sum_nought}
use Rattle.theory.specs.Weights.{Weight, anywhere, in_line, on_wire, line_of, wire_of, in_lines, in_wires}
use Rattle.theory.specs.Weights.{weighed}
use Rattle.theory.specs.Invariant.{Core}
use Rattle.theory.proofs.Places.Lines.{head_unhandled}

-- ---- one line
-- A line whose head is in the queue weighs what its packets weigh there.
pub line_in : (w : Weight) (q : Queue) (done : Bool) (xs : List Packet) → head_place done q ≡ in_queue q
    → in_line w q done xs ≡ in_all (w (in_queue q)) xs
unfolding in_line
line_in w q done [] e = refl
line_in w q done (x ∷ xs) e = rw e

-- So does an unhandled line.
pub line_fresh : (w : Weight) (q : Queue) (xs : List Packet) → in_line w q false xs ≡ in_all (w (in_queue q)) xs
line_fresh w q xs = line_in w q false xs (head_unhandled q)

in_all_joins : (w : Packet → ℕ) (xs : List Packet) (x : Packet) → in_all w (xs ++ (x ∷ [])) ≡ in_all w xs + w x
in_all_joins w [] x = omega arith
in_all_joins w (y ∷ ys) x = let h = in_all_joins w ys x in omega arith

-- A packet that joins a line weighs as in the queue, where the mark is down or another packet is the head.
pub line_joins : (w : Weight) (q : Queue) (done : Bool) (xs : List Packet) (x : Packet) → (done ≡ true → xs ≢ [])
    → in_line w q done (xs ++ (x ∷ [])) ≡ in_line w q done xs + w (in_queue q) x
unfolding in_line
line_joins w q true [] x h = absurd (h refl refl)
line_joins w q false [] x h = rw (head_unhandled q) (omega arith)
line_joins w q done (y ∷ ys) x h = let e = in_all_joins (w (in_queue q)) ys x in omega arith

-- ---- a change of one line, or of one wire
module _ (pl : Plan) (w : Weight) where
  -- Where but one queue's line changed, the sum changed by that line.
  pub lines_but : (q : Queue) → Exists pl q → (handled done : Queue → Bool) (queue line : Queue → List Packet)
      → ((x : Queue) → x ≢ q → done x ≡ handled x) → ((x : Queue) → x ≢ q → line x ≡ queue x)
      → in_lines pl w done line + in_line w q (handled q) (queue q) ≡ in_lines pl w handled queue
      + in_line w q (done q) (line q)
  unfolding in_lines
  lines_but q h handled done queue line e f =
      let old : line_of w handled queue (queue_at pl (number pl q)) ≡ line_of w handled queue q =
      ap (line_of w handled queue) (queue_at_lem pl q h) in
      let new : line_of w done line (queue_at pl (number pl q)) ≡ line_of w done line q =
      ap (line_of w done line) (queue_at_lem pl q h) in
      let all = sum_but (queues pl) (number pl q) (λ n. line_of w done line (queue_at pl n))
      (λ n. line_of w handled queue (queue_at pl n)) (number_below pl q h) same in
      omega arith
    where
      same : (n : ℕ) → n < queues pl → n ≢ number pl q
          → line_of w done line (queue_at pl n) ≡ line_of w handled queue (queue_at pl n)
      same n l ne = ap₂ (in_line w (queue_at pl n)) (e (queue_at pl n) away) (f (queue_at pl n) away)
        where
          away : queue_at pl n ≢ q
          away p = ne (sym (at_number pl n l) ∙ ap (number pl) p)

  -- Where but one output's wire changed, the sum changed by that wire.
  pub wires_but : (o : Output) → Drives pl o → (wire cable : Output → Wire) → ((x : Output) → x ≢ o → cable x ≡ wire x)
      → in_wires pl w cable + on_wire pl w o (wire o) ≡ in_wires pl w wire + on_wire pl w o (cable o)
  unfolding in_wires
  wires_but o d wire cable e =
      let old : wire_of pl w wire (output_at pl (output_number pl o)) ≡ wire_of pl w wire o =
      ap (wire_of pl w wire) (output_at_lem pl o d) in
      let new : wire_of pl w cable (output_at pl (output_number pl o)) ≡ wire_of pl w cable o =
      ap (wire_of pl w cable) (output_at_lem pl o d) in
      let all = sum_but (outputs pl) (output_number pl o) (λ n. wire_of pl w cable (output_at pl n))
      (λ n. wire_of pl w wire (output_at pl n)) (output_below pl o d) same in
      omega arith
    where
      same : (n : ℕ) → n < outputs pl → n ≢ output_number pl o
          → wire_of pl w cable (output_at pl n) ≡ wire_of pl w wire (output_at pl n)
      same n l ne = ap (on_wire pl w (output_at pl n))
          (e (output_at pl n) (λ p. ne (sym (at_output pl n l) ∙ ap (output_number pl) p)))

  -- One queue's packets replaced.
  pub weighed_queue : (q : Queue) → Exists pl q → (xs : List Packet) (s : State) → weighed pl w (with_queue q xs s)
      + in_line w q (s.lines.handled q) (s.lines.queue q) ≡ weighed pl w s + in_line w q (s.lines.handled q) xs
  unfolding weighed
  weighed_queue q h xs s =
      let now =
      ap (in_line w q (s.lines.handled q)) (put_here same_queue queue_same same_queue_lem s.lines.queue q xs) in
      let away = put_away same_queue queue_same same_queue_lem s.lines.queue q xs in
      let all = lines_but q h s.lines.handled s.lines.handled s.lines.queue
      (put same_queue s.lines.queue q xs) (λ x ne. refl) away in
      omega arith

  -- One queue's packets and handled mark replaced.
  pub weighed_line : (q : Queue) → Exists pl q → (done : Bool) (xs : List Packet) (s : State)
      → weighed pl w (with_handled q done (with_queue q xs s)) + in_line w q (s.lines.handled q) (s.lines.queue q)
      ≡ weighed pl w s + in_line w q done xs
  unfolding weighed
  weighed_line q h done xs s =
      let here = put_here same_queue queue_same same_queue_lem s.lines.queue q xs in
      let mark = put_here same_queue queue_same same_queue_lem s.lines.handled q done in
      let now = ap₂ (in_line w q) mark here in
      let away = put_away same_queue queue_same same_queue_lem s.lines.queue q xs in
      let others = put_away same_queue queue_same same_queue_lem s.lines.handled q done in
      let all = lines_but q h s.lines.handled (put same_queue s.lines.handled q done) s.lines.queue
      (put same_queue s.lines.queue q xs) others away in
      omega arith

  -- One output's wire replaced.
  pub weighed_wire : (o : Output) → Drives pl o → (v : Wire) (s : State)
      → weighed pl w (with_wire o v s) + on_wire pl w o (s.links.wire o) ≡ weighed pl w s + on_wire pl w o v
  unfolding weighed
  weighed_wire o d v s =
      let now = ap (on_wire pl w o) (put_here same_output output_same same_output_lem s.links.wire o v) in
      let all = wires_but o d s.links.wire (put same_output s.links.wire o v)
      (put_away same_output output_same same_output_lem s.links.wire o v) in
      omega arith

  -- A packet joins a queue.
  pub weighed_join : (q : Queue)
      → Exists pl q → (x : Packet) (s : State) → (s.lines.handled q ≡ true → s.lines.queue q ≢ [])
      → weighed pl w (join q x s) ≡ weighed pl w s + w (in_queue q) x
  unfolding join
  weighed_join q h x s m =
      let all = weighed_queue q h (s.lines.queue q ++ (x ∷ [])) s in
      let line = line_joins w q (s.lines.handled q) (s.lines.queue q) x m in
      omega arith

  -- Start has no packet.
  pub start_weighed : weighed pl w (start pl) ≡ 0
  unfolding weighed in_lines in_wires in_line on_wire start blank
  start_weighed =
      let lines = sum_nought (queues pl) (λ n. in_line w (queue_at pl n) false []) (λ n l. refl) in
      let wires = sum_nought (outputs pl) (λ n. on_wire pl w (output_at pl n) Empty) (λ n l. refl) in
      omega arith

-- ---- weights that do not depend on the place
-- every packet on a wire has a next queue
abbrev pub Bound : Plan → State → Type 0
Bound pl s =
    (o : Output) → Drives pl o → (x : Packet) → s.links.wire o ≡ Full x → (y : Queue) × (next_by pl o x ≡ some y)

module _ (pl : Plan) (w : Packet → ℕ) (s : State) where
  line_plain : (q : Queue) (done : Bool) (xs : List Packet) → in_line (anywhere w) q done xs ≡ in_all w xs
  unfolding in_line
  line_plain q done [] = refl
  line_plain q done (x ∷ xs) = refl

  wire_plain : (o : Output) (v : Wire) → ((x : Packet) → v ≡ Full x → (y : Queue) × (next_by pl o x ≡ some y))
      → on_wire pl (anywhere w) o v ≡ in_wire w v
  unfolding on_wire
  wire_plain o Empty h = refl
  wire_plain o (Full x) h = rw (h x refl).1

  -- The sum of such a weight is the total over queues and wires.
  pub weighed_total : Bound pl s → weighed pl (anywhere w) s ≡ total pl w s
  unfolding weighed in_lines in_wires total
  weighed_total b =
      ap₂ (λ (m n : ℕ). m + n)
      (sum_same (queues pl) (λ n. line_of (anywhere w) s.lines.handled s.lines.queue (queue_at pl n))
      (λ n. in_all w (s.lines.queue (queue_at pl n)))
      (λ n l. line_plain (queue_at pl n) (s.lines.handled (queue_at pl n)) (s.lines.queue (queue_at pl n))))
      (sum_same (outputs pl) (λ n. wire_of pl (anywhere w) s.links.wire (output_at pl n))
      (λ n. in_wire w (s.links.wire (output_at pl n)))
      (λ n l. wire_plain (output_at pl n) (s.links.wire (output_at pl n)) (b (output_at pl n) (drives_at pl n l))))

-- In a state every packet on a wire has a next queue.
pub core_bound : (pl : Plan) (s : State) → Core pl s → Bound pl s
core_bound pl s c o d x e = let k = c.wires o d x e in (k.queue, k.next)

-- So in a state the sum is the total.
pub weighed_plain : (pl : Plan) (w : Packet → ℕ) (s : State) → Core pl s → weighed pl (anywhere w) s ≡ total pl w s
weighed_plain pl w s c = weighed_total pl w s (core_bound pl s c)

-- A wire replaced by one whose packet has a next queue keeps it so.
pub bound_put : (pl : Plan) (s t : State) (o : Output) (v : Wire)
    → Bound pl s → ((x : Packet) → v ≡ Full x → (y : Queue) × (next_by pl o x ≡ some y))
    → t.links.wire ≡ put same_output s.links.wire o v → Bound pl t
bound_put pl s t o v b f q u d x e = by (test (same_output u o))
  where
    now : pick (same_output u o) v (s.links.wire u) ≡ Full x
    now = sym (ap (λ (m : Output → Wire). m u) q) ∙ e

    by : (same_output u o ≡ true) ⊎ (same_output u o ≡ false) → (y : Queue) × (next_by pl u x ≡ some y)
    by (inl z) = subst (λ (k : Output). (y : Queue) × (next_by pl k x ≡ some y)) (sym (same_output_lem u o z))
        (f x (sym (ap (λ (z : Bool). pick z v (s.links.wire u)) z) ∙ now))
    by (inr z) = b u d x (sym (ap (λ (z : Bool). pick z v (s.links.wire u)) z) ∙ now)
