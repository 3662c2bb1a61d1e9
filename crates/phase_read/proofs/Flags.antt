-- Flags: along READ a raised flag's queue lacks a credit, and what the code stores is what the rule makes of the
-- state.
use mathlib.Core.Path.{◌≡◌, refl, sym, ap, subst, ◌∙◌}
use mathlib.Core.Logic.{◌⊎◌, inl, inr, ◌≢◌}
use mathlib.Core.Bool.{Bool, true, false}
use mathlib.Core.List.{List}
use Prim.Native.Nat.{ℕ, zero, suc, ◌+◌, ◌*◌, ◌≤◌, ◌<◌}
use native.Mathlib.Omega.{arith}
use lib.Dec.{eqb}
use lib.ListN.{length, get_or, set}
use borrow.Author.Tests.{eqb-true}
use Rattle.basis.specs.Choice.{also, also_true, test, not_both}
use Rattle.basis.specs.Fold.{up_to, up_keeps}
use Rattle.kinds.specs.declared.Credit.{Credit}
use Rattle.packets.specs.Counters.{credit_up}
use Rattle.plan.specs.Head.{InRange}
use Rattle.plan.specs.Plan.{Plan}
use Rattle.plan_queues.specs.Queue.{Queue, queues, queue_at}
use Rattle.plan_facts.specs.Wired.{Wired}
use Rattle.rules.specs.State.{State, with_credit, with_flag}
use Rattle.rules.specs.Read.{lower, settle}
use Rattle.rules.specs.Valid.{bit, fed}
use Rattle.rules.proofs.Numbers.{exists_at}
use Rattle.theory.specs.Invariant.{Core, account}
use Rattle.theory.proofs.Keeps.{settle_core}
use Rattle.bytes_layout.specs.Offsets.{size, places, queue_row}
use Rattle.bytes_layout.specs.Codes.{flag_of}
use Rattle.bytes_layout.specs.Encode.{encode}
use Rattle.bytes_layout.specs.Decode.{credit_at, flag_at, capacity_most}
use Rattle.bytes_layout.proofs.Readings.{length_bytes, credit_at_lem, flag_at_lem}
use Rattle.bytes_layout.proofs.Updates.{put_credit, put_flag}
use Rattle.bytes_steps.specs.Acts.{steps_none, steps_more, holds_then}
use Rattle.phase_read.specs.Reading.{settling, Owed, Flagged, Settles, Whole, SettlesTo, Down}
use Rattle.phase_read.proofs.Offsets.{first, row_of, queue_within}

-- ---- at every moment of READ a raised flag's queue lacks a credit
module _ {pl : Plan} (range : InRange pl.head) where
  pub owed : (n : ℕ) (s : State) → n < queues pl → Core pl s → Owed pl n s
  unfolding account
  owed n s l c = record { lacks = λ up. by up (test (fed pl (queue_at pl n))) }
    where
      by : s.flow.flag (queue_at pl n) ≡ true → (fed pl (queue_at pl n) ≡ true) ⊎ (fed pl (queue_at pl n) ≡ false)
          → (s.flow.credit (queue_at pl n)).0 < places
      by up (inl f) =
          let sum = c.credits (queue_at pl n) (exists_at pl n l) f in
          let one : bit (s.flow.flag (queue_at pl n)) ≡ 1 = ap bit up in
          let most = capacity_most pl.head (queue_at pl n) range in
          omega arith
      by up (inr f) = absurd (not_both up (c.out_flags (queue_at pl n) (exists_at pl n l) f))

  -- settlings keep the core
  pub settled_core : Wired pl → (n : ℕ) → n ≤ queues pl → (s : State) → Core pl s → Core pl (up_to (settling pl) n s)
  settled_core wired n l s c =
      up_keeps (Core pl) (settling pl) n s
      (λ i t h k. settle_core wired range (queue_at pl i) t (exists_at pl i (omega arith)) k) c

-- ---- one flag
-- a byte that is not 0 is a raised flag
raised : (v : ℕ) → v ≢ 0 → flag_of v ≡ true
raised zero ne = absurd (ne refl)
raised (suc v) ne = refl

-- what the rule makes of a raised flag
lowered : (q : Queue) (s : State) → s.flow.flag q ≡ true
    → settle q s ≡ with_flag q false (with_credit q (credit_up (s.flow.credit q)) s)
unfolding settle lower
lowered q s e = ap (λ (f : Bool). lower q f s) e

module _ (n i : ℕ) (b : List ℕ) (at : i ≡ 2 + 39 * n) where
  -- the row lies inside
  pub flag_within : Flagged n b → i + 39 ≤ length b
  flag_within g =
      queue_within g.plan g.holds (queue_at g.plan n) (exists_at g.plan n g.below) i
      (row_of g.plan n i g.below at)

  module _ (pl : Plan) (l : n < queues pl) (s : State) (rest : List ℕ) (e : b ≡ encode pl s rest) where
    -- the flag and the credit that are read
    flag_is : flag_of (get_or b (i + 1) 0) ≡ s.flow.flag (queue_at pl n)
    flag_is = ap (λ (k : ℕ). flag_at k b) (row_of pl n i l at)
        ∙ flag_at_lem pl s rest b e (queue_at pl n) (exists_at pl n l)

    credit_is : ◌≡◌ {A = Credit} (record { 0 = get_or b i 0 }) (s.flow.credit (queue_at pl n))
    credit_is = ap (λ (k : ℕ). record { 0 = get_or b k 0 }) (first i) ∙ ap (λ (k : ℕ). credit_at k b)
        (row_of pl n i l at)
        ∙ credit_at_lem pl s rest b e (queue_at pl n) (exists_at pl n l)

  -- a flag that is down: nothing is done
  pub settle_none : get_or b (i + 1) 0 ≡ 0 → Settles n b b
  unfolding settle lower
  settle_none z =
      record {
        steps = λ pl l.
            record {
              done = λ s rest a e.
                  e ∙ ap (λ (f : Bool). encode pl (lower (queue_at pl n) f s) rest)
                  (sym (ap flag_of z) ∙ flag_is pl l s rest e);
            };
      }

  module _ (up : get_or b (i + 1) 0 ≢ 0) where
    -- a credit may be added
    pub credit_lacks : Flagged n b → get_or b i 0 < 7
    credit_lacks g =
        let f = flag_is g.plan g.below g.holds.state g.holds.rest g.holds.same in
        let c : get_or b i 0 ≡ (g.holds.state.flow.credit (queue_at g.plan n)).0 = ap (λ (x : Credit). x.0)
        (credit_is g.plan g.below g.holds.state g.holds.rest g.holds.same) in
        let less = g.holds.fit.lacks (sym f ∙ raised (get_or b (i + 1) 0) up) in
        omega arith

    -- it is added, and the flag is lowered
    pub settle_up : (v : Credit) → v ≡ credit_up (record { 0 = get_or b i 0 })
        → Settles n b (set (set b i v.0) (i + 1) 0)
    settle_up v g = record { steps = λ pl l. record { done = λ s rest a e. by pl l s rest e } }
      where
        by : (pl : Plan) → n < queues pl → (s : State) (rest : List ℕ) → b ≡ encode pl s rest
            → set (set b i v.0) (i + 1) 0 ≡ encode pl (settling pl n s) rest
        by pl l s rest e =
            let c : v ≡ credit_up (s.flow.credit (queue_at pl n)) = g ∙ ap credit_up (credit_is pl l s rest e) in
            ap (λ (k : ℕ). set (set b k v.0) (k + 1) 0) (row_of pl n i l at)
            ∙ ap (λ (y : List ℕ). set y (queue_row pl (queue_at pl n) + 1) 0)
            (ap (λ (y : List ℕ). set y (queue_row pl (queue_at pl n)) v.0) e
            ∙ ap (λ (k : ℕ). set (encode pl s rest) k v.0) (first (queue_row pl (queue_at pl n)))
            ∙ put_credit pl s rest (queue_at pl n) (exists_at pl n l) v)
            ∙ put_flag pl (with_credit (queue_at pl n) v s) rest (queue_at pl n) (exists_at pl n l) false
            ∙ ap (λ (x : Credit). encode pl (with_flag (queue_at pl n) false (with_credit (queue_at pl n) x s)) rest) c
            ∙ ap (λ (t : State). encode pl t rest)
            (sym (lowered (queue_at pl n) s (sym (flag_is pl l s rest e) ∙ raised (get_or b (i + 1) 0) up)))

-- ---- all flags
pub settles_none : (b : List ℕ) → SettlesTo 0 b b
settles_none b = record { steps = λ pl r w l. steps_none pl (Core pl) (settling pl) b }

module _ {n : ℕ} {b c : List ℕ} (x : SettlesTo n b c) where
  core_then : (pl : Plan) → InRange pl.head → Wired pl → n < queues pl → (s : State) → Core pl s
      → Owed pl n (up_to (settling pl) n s)
  core_then pl r w l s k = owed r n (up_to (settling pl) n s) l (settled_core r w n (omega arith) s k)

  -- the bytes at a turn
  pub settles_at : {count : ℕ} → n < count → Whole count b → Flagged n c
  settles_at l g =
      let k = g.has in
      record {
        plan = g.plan;
        below = omega arith;
        holds = holds_then g.plan g.holds (x.steps g.plan g.range g.wired (omega arith))
            (core_then g.plan g.range g.wired (omega arith));
      }

  -- a turn
  pub settles_more : {d : List ℕ} → Settles n c d → SettlesTo (n + 1) b d
  settles_more y =
      record {
        steps = λ pl r w l. steps_more pl (settling pl) n (x.steps pl r w (omega arith))
            (core_then pl r w (omega arith)) (y.steps pl (omega arith));
      }

-- of four queues, by their flags' bytes
pub four_of : (n : ℕ) (b : List ℕ) {at : ℕ} {x y v : Bool} → at ≡ 39 * n + 3
    → x ≡ also (eqb (get_or b at 0) 0) (eqb (get_or b (at + 39) 0) 0)
    → y ≡ also (eqb (get_or b (at + 78) 0) 0) (eqb (get_or b (at + 117) 0) 0)
    → v ≡ also x y → v ≡ true → (k : ℕ) → k < 4 → get_or b (39 * (n + k) + 3) 0 ≡ 0
four_of n b {at} {x} {y} {v} e f g h t = by
  where
    z : (x ≡ true) × (y ≡ true)
    z = also_true (sym h ∙ t)

    near : (eqb (get_or b at 0) 0 ≡ true) × (eqb (get_or b (at + 39) 0) 0 ≡ true)
    near = also_true (sym f ∙ z.0)

    far : (eqb (get_or b (at + 78) 0) 0 ≡ true) × (eqb (get_or b (at + 117) 0) 0 ≡ true)
    far = also_true (sym g ∙ z.1)

    byte : (i j : ℕ) → j ≡ i → eqb (get_or b i 0) 0 ≡ true → get_or b j 0 ≡ 0
    byte i j q u = ap (λ (m : ℕ). get_or b m 0) q ∙ eqb-true (get_or b i 0) 0 u

    by : (k : ℕ) → k < 4 → get_or b (39 * (n + k) + 3) 0 ≡ 0
    by zero l = byte at (39 * (n + 0) + 3) (omega arith) near.0
    by (suc zero) l = byte (at + 39) (39 * (n + 1) + 3) (omega arith) near.1
    by (suc (suc zero)) l = byte (at + 78) (39 * (n + 2) + 3) (omega arith) far.0
    by (suc (suc (suc zero))) l = byte (at + 117) (39 * (n + 3) + 3) (omega arith) far.1
    by (suc (suc (suc (suc k)))) l = absurd (omega arith)

-- ---- no flag is up: nothing is done
pub down_all : {k n : ℕ} {b : List ℕ} → n ≤ k → Down k b → Down n b
down_all l d = record { down = λ j h. d.down j (omega arith) }

pub settles_down : {n : ℕ} {b : List ℕ} → Down n b → SettlesTo n b b
settles_down {n} {b} d = by n d
  where
    by : (n : ℕ) → Down n b → SettlesTo n b b
    by zero d = settles_none b
    by (suc n) d =
        let e : 2 + 39 * n + 1 ≡ 39 * n + 3 = omega arith in
        let z = ap (λ (i : ℕ). get_or b i 0) e ∙ d.down n (omega arith) in
        let r : n + 1 ≡ suc n = omega arith in
        subst (λ (k : ℕ). SettlesTo k b b) r
        (settles_more (by n (down_all (omega arith) d)) (settle_none n (2 + 39 * n) b refl z))

-- the rows of a whole state lie inside
pub whole_long : {n : ℕ} {b : List ℕ} → Whole n b → 2 + 39 * n ≤ length b
unfolding size
whole_long g =
    let l = length_bytes g.plan g.holds.state g.holds.rest in
    let k = ap length g.holds.same in
    let m = g.has in
    omega arith
