-- A packet on the wire to a unit joins the one of the four queues there that lacks a credit: of the state, and on
-- bytes.
use mathlib.Core.Path.{◌≡◌, refl, sym, ap, ap₂, subst, ◌∙◌}
use mathlib.Core.Logic.{◌⊎◌, inl, inr, ◌≢◌}
use mathlib.Core.Bool.{true, false, not}
use mathlib.Core.List.{List}
use mathlib.Core.Option.{Option, none, some}
use Prim.Native.Nat.{ℕ, zero, suc, ◌+◌, ◌*◌, ◌≤◌, ◌<◌}
use native.Mathlib.Nat.{add-zero}
use native.Mathlib.Omega.{arith}
use lib.Dec.{eqb}
use lib.ListN.{get_or}
use borrow.Author.Tests.{eqb-true, eqb-false, eq-eqb, ne_eqb}
use Rattle.basis.specs.Choice.{test, not_both}
use Rattle.basis.specs.Bounded.{below_suc}
use Rattle.kinds.specs.declared.Credit.{Credit}
use Rattle.packets.specs.declared.Packet.{Packet}
use Rattle.packets.specs.declared.Wire.{Wire}
use Rattle.packets.specs.declared.Wire.TheVariants.{Empty, Full}
use Rattle.plan.specs.Plan.{Plan, R, A, P}
use Rattle.plan_queues.specs.Queue.{Queue, Q, Exists, number}
use Rattle.plan_queues.specs.Feeds.{Output, to_unit, heading_of, came_in}
use Rattle.plan_facts.specs.Wired.{Wired}
use Rattle.plan_journeys.proofs.Places.{some_same}
use Rattle.rules.specs.Capacity.{capacity}
use Rattle.rules.specs.Store.{same_queue, queue_same, same_queue_lem}
use Rattle.rules.specs.Outputs.{next_by, outputs, output_at, output_number}
use Rattle.rules.specs.State.{State}
use Rattle.rules.specs.Valid.{Drives, bit, brings, goes_to, on_wires}
use Rattle.rules.proofs.OutNumbers.{output_at_lem, output_below, drives_at}
use Rattle.theory.specs.Invariant.{Core, account}
use Rattle.theory.proofs.Ground.Sums.{sum_term, sum_nought}
use Rattle.theory.proofs.Places.Feeders.{fed_by}
use Rattle.theory.proofs.Places.Lines.{belongs_exists}
use Rattle.bytes_layout.specs.Offsets.{queue_row}
use Rattle.bytes_layout.specs.Codes.{flag_of}
use Rattle.bytes_layout.specs.Encode.{encode}
use Rattle.bytes_layout.proofs.Readings.{credit_at_lem, flag_at_lem, length_at_lem}
use Rattle.phase_read.specs.Awaiting.{held, Awaits, held_at, lacks_at, Only}

-- ---- the test of one queue
-- a flag's byte, by its value
down_bit : (v : ℕ) → v ≡ 0 → bit (flag_of v) ≡ 0
down_bit v e = rw e

up_bit : (v : ℕ) → v ≢ 0 → bit (flag_of v) ≡ 1
up_bit zero ne = absurd (ne refl)
up_bit (suc v) ne = refl

module _ (n cap : ℕ) (b : List ℕ) {at x y z : ℕ} (e : at ≡ 2 + 39 * n) (f : x ≡ get_or b at 0)
    (g : y ≡ get_or b (at + 3) 0) (h : z ≡ cap) where
  byte : (k : ℕ) → get_or b (at + k) 0 ≡ get_or b (2 + 39 * n + k) 0
  byte k = ap (λ (i : ℕ). get_or b (i + k) 0) e

  first : x ≡ get_or b (2 + 39 * n) 0
  first = f ∙ ap (λ (i : ℕ). get_or b i 0) e

  pub lacks_down : get_or b (at + 1) 0 ≡ 0 → not (eqb (x + y) z) ≡ lacks_at n cap b
  unfolding lacks_at held_at
  lacks_down down =
      let p = first in
      let q = g ∙ byte 3 in
      let r = down_bit (get_or b (2 + 39 * n + 1) 0) (sym (byte 1) ∙ down) in
      let t : x + y ≡ held_at n b = omega arith in
      ap₂ (λ (i j : ℕ). not (eqb i j)) t h

  pub lacks_up : get_or b (at + 1) 0 ≢ 0 → not (eqb (x + y + 1) z) ≡ lacks_at n cap b
  unfolding lacks_at held_at
  lacks_up up =
      let p = first in
      let q = g ∙ byte 3 in
      let r = up_bit (get_or b (2 + 39 * n + 1) 0) (λ k. up (byte 1 ∙ k)) in
      let t : x + y + 1 ≡ held_at n b = omega arith in
      ap₂ (λ (i j : ℕ). not (eqb i j)) t h

-- ---- of four queues the one that lacks a credit
-- those below the i-th do not
abbrev pub NoneBelow : ℕ → ℕ → ℕ → List ℕ → Type 0
NoneBelow n i cap b = (k : ℕ) → k < i → lacks_at (n + k) cap b ≡ false

pub none_more : (n i cap : ℕ) (b : List ℕ) → NoneBelow n i cap b → lacks_at (n + i) cap b ≡ false
    → NoneBelow n (i + 1) cap b
none_more n i cap b f e k l = by (below_suc {i = k} {n = i} (omega arith))
  where
    by : (k < i) ⊎ (k ≡ i) → lacks_at (n + k) cap b ≡ false
    by (inl h) = f k h
    by (inr h) = rw h e

pub found : (n i cap : ℕ) (b : List ℕ) → i < 4 → lacks_at (n + i) cap b ≡ true → (c : ℕ) → Only n c cap b
    → n + i ≡ n + c
found n i cap b l e c o = by (test (eqb i c))
  where
    by : (eqb i c ≡ true) ⊎ (eqb i c ≡ false) → n + i ≡ n + c
    by (inl t) = ap (λ (k : ℕ). n + k) (eqb-true i c t)
    by (inr t) = absurd (not_both e (o.others i l (eqb-false i c t)))

pub last : (n i cap : ℕ) (b : List ℕ) → 3 ≤ i → NoneBelow n i cap b → (c : ℕ) → Only n c cap b → n + 3 ≡ n + c
last n i cap b l f c o = by (below_suc {i = c} {n = 3} o.below)
  where
    by : (c < 3) ⊎ (c ≡ 3) → n + 3 ≡ n + c
    by (inl h) = absurd (not_both o.lacks (f c (omega arith)))
    by (inr h) = rw h

-- ---- in a state: a packet on the wire to a unit was paid for by the queue that it goes to, and no other one pays
module _ {pl : Plan} (wired : Wired pl) where
  -- the packet on a wire is counted among those bound for its queue
  pub on_wire : (o : Output) (x : Packet) (q : Queue) (s : State) → Drives pl o → s.links.wire o ≡ Full x
      → next_by pl o x ≡ some q → 1 ≤ on_wires pl q s
  unfolding on_wires
  on_wire o x q s d e g =
      let term = sum_term (outputs pl) (λ n. brings pl q (output_at pl n) (s.links.wire (output_at pl n)))
      (output_number pl o) (output_below pl o d) in
      let one : brings pl q (output_at pl (output_number pl o)) (s.links.wire (output_at pl (output_number pl o))) ≡ 1 =
      ap (λ (u : Output). brings pl q u (s.links.wire u)) (output_at_lem pl o d) ∙ ap (brings pl q o) e
      ∙ ap (goes_to q) g ∙ ap bit (queue_same q) in
      omega arith

  module _ (r : ℕ) (x : Packet) (s : State) (d : r < R pl) (e : s.links.wire (to_unit r) ≡ Full x) where
    abbrev side : ℕ
    side = came_in pl x.active x.passive r

    -- none is on its way to another of the unit's queues
    off_wire : (i : ℕ) → i ≢ side → on_wires pl (Q r i) s ≡ 0
    unfolding on_wires
    off_wire i ne =
        sum_nought (outputs pl) (λ n. brings pl (Q r i) (output_at pl n) (s.links.wire (output_at pl n)))
        (λ n l. carried (output_at pl n) (drives_at pl n l) (s.links.wire (output_at pl n)) refl)
      where
        goes : (o : Output) → Drives pl o → (y : Packet) → s.links.wire o ≡ Full y → (z : Option Queue)
            → next_by pl o y ≡ z → goes_to (Q r i) z ≡ 0
        goes o k y f none g = refl
        goes o k y f (some z) g = by (test (same_queue z (Q r i)))
          where
            by : (same_queue z (Q r i) ≡ true) ⊎ (same_queue z (Q r i) ≡ false) → goes_to (Q r i) (some z) ≡ 0
            by (inr t) = ap bit t
            by (inl t) =
                let at : next_by pl o y ≡ some (Q r i) = g ∙ ap some (same_queue_lem z (Q r i) t) in
                let u : o ≡ to_unit r =
                sym (some_same (fed_by wired (heading_of y.kind) y.active y.passive o k (Q r i) at)) in
                let v : Full y ≡ Full x = sym f ∙ ap s.links.wire u ∙ e in
                let w : y ≡ x = cc in
                let n : next_by pl (to_unit r) x ≡ some (Q r i) =
                sym (ap₂ (next_by pl) u w) ∙ at in
                absurd (ne (let m : i ≡ side = cc in m))

        carried : (o : Output) → Drives pl o → (w : Wire) → s.links.wire o ≡ w → brings pl (Q r i) o w ≡ 0
        carried o k Empty f = refl
        carried o k (Full y) f = goes o k y f (next_by pl o y) refl

    pub awaits : Core pl s → Awaits pl s r side
    unfolding account
    awaits c = record { below = there.1; lacks = short; others = whole }
      where
        there : Exists pl (Q r side)
        there =
            let g = c.wires (to_unit r) d x e in
            subst (Exists pl) (sym (some_same g.next)) (belongs_exists wired g.queue x g.belongs)

        short : held s (Q r side) ≢ capacity pl.head (Q r side)
        short f =
            let on = on_wire (to_unit r) x (Q r side) s d e refl in
            let sum = c.credits (Q r side) there refl in
            omega arith

        whole : (i : ℕ) → i < 4 → i ≢ side → held s (Q r i) ≡ capacity pl.head (Q r i)
        whole i l ne =
            let off = off_wire i ne in
            let sum = c.credits (Q r i) (d, l) refl in
            omega arith

-- ---- on bytes
module _ (pl : Plan) (s : State) (rest b : List ℕ) (e : b ≡ encode pl s rest) (r : ℕ) (hr : r < R pl) where
  -- the number of Q[i]
  abbrev base : ℕ
  base = A pl + P pl + 28 * r + 4

  held_is : (i : ℕ) → i < 4 → held_at (base + i) b ≡ held s (Q r i)
  unfolding held_at queue_row number
  held_is i l =
      let c = ap (λ (k : Credit). k.0) (credit_at_lem pl s rest b e (Q r i) (hr, l)) in
      let f = ap bit (flag_at_lem pl s rest b e (Q r i) (hr, l)) in
      let k = length_at_lem pl s rest b e (Q r i) (hr, l) in
      let z = sym (add-zero (2 + 39 * (base + i))) in
      ap₂ (λ (u v : ℕ). u + v) (ap₂ (λ (u v : ℕ). u + v) (ap (λ (j : ℕ). get_or b j 0) z ∙ c) k) f

  pub only_of : {c : ℕ} → Awaits pl s r c → Only base c pl.head.q.0 b
  unfolding lacks_at
  only_of {c} a =
      record {
        below = a.below;
        lacks = ap not (ne_eqb _ _ (λ z. a.lacks (sym (held_is c a.below) ∙ z)));
        others = λ i l ne. ap not (eq-eqb _ _ (held_is i l ∙ a.others i l ne));
      }
