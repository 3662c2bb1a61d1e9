-- The loops over the outputs.
use mathlib.Core.Path.{◌≡◌, sym, ap, ◌∙◌}
use mathlib.Core.List.{List}
use Prim.Native.Nat.{ℕ, zero, suc, ◌+◌, ◌*◌, ◌≤◌, ◌<◌}
use native.Mathlib.Nat.{add-zero}
use native.Mathlib.Omega.{arith}
use Rattle.basis.specs.Fold.{up_to, up_keeps_at}
use Rattle.plan.specs.declared.Head.{Head}
use Rattle.plan.specs.Head.{InRange, destinations}
use Rattle.plan.specs.Plan.{Plan}
use Rattle.plan.specs.Tables.{table_plan}
use Rattle.plan_facts.specs.Wired.{Wired}
use Rattle.rules.specs.Outputs.{outputs, output_at}
use Rattle.rules.specs.State.{State}
use Rattle.rules.specs.Execute.{choose, picked}
use Rattle.rules.proofs.OutNumbers.{at_apart}
use Rattle.theory.specs.Invariant.{Core}
use Rattle.theory.proofs.Ground.Cells.{output_away}
use Rattle.theory.proofs.Keeps.{choose_core}
use Rattle.bytes_steps.specs.Acts.{Holds, Steps, steps_none, steps_then, steps_more, holds_then}
use Rattle.bytes_steps.specs.Counts.{output_count}
use Rattle.next_queue.specs.Wiring.{Wiring}
use Rattle.phase_pick.specs.Moments.{Picks, chooses, chooses_from, chooses_at}
use Rattle.phase_pick.proofs.Steps.{steps_alike}
use Rattle.phase_pick.proofs.Tables.{range_of}

-- ---- what a pick leaves to the next
module _ {pl : Plan} (wired : Wired pl) (range : InRange pl.head) where
  pub pick_next : (n : ℕ) (s : State) → n < outputs pl → Picks pl n s → Picks pl (suc n) (chooses pl n s)
  unfolding choose
  pick_next n s h p =
      record {
        core = choose_core wired range (output_at pl n) s p.core;
        choices = λ m l k.
            output_away s.links.choice (output_at pl n) (picked pl s (output_at pl n)) (output_at pl m)
            (at_apart pl m n k h (λ z. omega arith)) ∙ p.choices m (omega arith) k;
      }

  -- the picks of n outputs, from output m on
  pub picks_on : (m n : ℕ) (s : State) → m + n ≤ outputs pl → Picks pl m s
      → Picks pl (m + n) (up_to (λ i. chooses pl (m + i)) n s)
  picks_on m n s l p =
      up_keeps_at (λ (i : ℕ) (u : State). Picks pl (m + i) u) (λ i. chooses pl (m + i)) n s
      (λ i u h g. next i (pick_next (m + i) u (omega arith) g)) (first p)
    where
      next : (i : ℕ) {u : State} → Picks pl (suc (m + i)) u → Picks pl (m + suc i) u
      next i g = let e : suc (m + i) ≡ m + suc i = omega arith in rw (← e) g

      first : {u : State} → Picks pl m u → Picks pl (m + 0) u
      first g = let e : m ≡ m + 0 = omega arith in rw (← e) g

-- ---- folds in groups
up_add : {X : Type 0} (f : ℕ → X → X) (a b : ℕ) (s : X) → up_to f (a + b) s ≡ up_to (λ i. f (a + i)) b (up_to f a s)
unfolding up_to
up_add f a zero s = ap (λ (n : ℕ). up_to f n s) (add-zero a)
up_add f a (suc b) s =
    let e : a + suc b ≡ suc (a + b) = omega arith in ap (λ (n : ℕ). up_to f n s) e ∙ ap (f (a + b)) (up_add f a b s)

-- the outputs from d on in groups of six
groups : (pl : Plan) (d n : ℕ) (s : State)
    → up_to (chooses_at pl d) n (up_to (chooses pl) d s) ≡ up_to (chooses pl) (d + 6 * n) s
unfolding up_to chooses_at chooses_from
groups pl d zero s = let e : d ≡ d + 6 * 0 = omega arith in ap (λ (n : ℕ). up_to (chooses pl) n s) e
groups pl d (suc n) s =
    let e : d + 6 * n + 6 ≡ d + 6 * suc n = omega arith in
    ap (chooses_at pl d n) (groups pl d n s) ∙ sym (up_add (chooses pl) (d + 6 * n) 6 s)
    ∙ ap (λ (k : ℕ). up_to (chooses pl) k s) e

module _ {h : Head} {routes : List (List ℕ)} {joints homes : List ℕ} (w : Wiring h routes joints homes) where
  abbrev pl : Plan
  pl = table_plan h routes joints

  -- ---- outputs of one router
  module _ {r : ℕ} (hr : r < h.routers) where
    abbrev first : ℕ
    first = destinations h + 6 * r

    on : (k : ℕ) (s : State) → k ≤ 6 → Picks pl first s → Picks pl (first + k) (chooses_from pl first k s)
    unfolding table_plan chooses_from
    on k s l p = picks_on w.wired (range_of w) first k s (omega arith) p

    pub from_none : (b : List ℕ) → Steps pl (Picks pl first) (chooses_from pl first 0) b b
    unfolding chooses_from
    from_none b = steps_none pl (Picks pl first) (λ i. chooses pl (first + i)) b

    pub from_hold : {k : ℕ} {b c : List ℕ} → k ≤ 6 → Holds pl (Picks pl first) b
        → Steps pl (Picks pl first) (chooses_from pl first k) b c → Holds pl (Picks pl (first + k)) c
    from_hold {k} l x y = holds_then pl x y (λ s p. on k s l p)

    pub from_more : {k : ℕ} {b c d : List ℕ} → k ≤ 6 → Steps pl (Picks pl first) (chooses_from pl first k) b c
        → Steps pl (Picks pl (first + k)) (chooses pl (first + k)) c d
        → Steps pl (Picks pl first) (chooses_from pl first (k + 1)) b d
    unfolding chooses_from
    from_more {k} l x y = steps_more pl (λ i. chooses pl (first + i)) k x (λ s p. on k s l p) y

    -- of the sides
    pub sides_hold : {k : ℕ} {b c : List ℕ} → k < 4 → Holds pl (Picks pl first) b
        → Steps pl (Picks pl first) (chooses_from pl first k) b c → Holds pl (Picks pl (first + k)) c
    sides_hold l x y = from_hold (omega arith) x y

    pub sides_more : {k : ℕ} {b c d : List ℕ} → k < 4 → Steps pl (Picks pl first) (chooses_from pl first k) b c
        → Steps pl (Picks pl (first + k)) (chooses pl (first + k)) c d
        → Steps pl (Picks pl first) (chooses_from pl first (k + 1)) b d
    sides_more l x y = from_more (omega arith) x y

    pub from_four : {b c : List ℕ} → Holds pl (Picks pl first) b
        → Steps pl (Picks pl first) (chooses_from pl first 4) b c → Holds pl (Picks pl (first + 4)) c
    from_four x y = from_hold {k = 4} (omega arith) x y

    pub from_six : {b c d e : List ℕ} → Steps pl (Picks pl first) (chooses_from pl first 4) b c
        → Steps pl (Picks pl (first + 4)) (chooses pl (first + 4)) c d
        → Steps pl (Picks pl (first + 5)) (chooses pl (first + 5)) d e
        → Steps pl (Picks pl first) (chooses_at pl (destinations h) r) b e
    unfolding chooses_at
    from_six x y z = from_more {k = 5} (omega arith) (from_more {k = 4} (omega arith) x y) z

    pub from_five : {b c d : List ℕ} → Holds pl (Picks pl first) b
        → Steps pl (Picks pl first) (chooses_from pl first 4) b c
        → Steps pl (Picks pl (first + 4)) (chooses pl (first + 4)) c d → Holds pl (Picks pl (first + 5)) d
    from_five k x y = from_hold {k = 5} (omega arith) k (from_more {k = 4} (omega arith) x y)

  -- ---- the routers
  by_routers : (n : ℕ) (s : State) → n ≤ h.routers → Picks pl (destinations h) s
      → Picks pl (destinations h + 6 * n) (up_to (chooses_at pl (destinations h)) n s)
  unfolding chooses_at
  by_routers n s l p =
      up_keeps_at (λ (i : ℕ) (u : State). Picks pl (destinations h + 6 * i) u) (chooses_at pl (destinations h)) n s
      (λ i u k g. next i (on {r = i} (omega arith) 6 u (omega arith) g)) (start p)
    where
      next : (i : ℕ) {u : State} → Picks pl (destinations h + 6 * i + 6) u → Picks pl (destinations h + 6 * suc i) u
      next i g = let e : destinations h + 6 * i + 6 ≡ destinations h + 6 * suc i = omega arith in rw (← e) g

      start : {u : State} → Picks pl (destinations h) u → Picks pl (destinations h + 6 * 0) u
      start g = let e : destinations h ≡ destinations h + 6 * 0 = omega arith in rw (← e) g

  pub routers_hold : {r : ℕ} {b c : List ℕ} → r < h.routers → Holds pl (Picks pl (destinations h)) b
      → Steps pl (Picks pl (destinations h)) (up_to (chooses_at pl (destinations h)) r) b c
      → Holds pl (Picks pl (destinations h + 6 * r)) c
  routers_hold {r} l x y = holds_then pl x y (λ s p. by_routers r s (omega arith) p)

  pub routers_more : {r : ℕ} {b c d : List ℕ} → r < h.routers
      → Steps pl (Picks pl (destinations h)) (up_to (chooses_at pl (destinations h)) r) b c
      → Steps pl (Picks pl (destinations h + 6 * r)) (chooses_at pl (destinations h) r) c d
      → Steps pl (Picks pl (destinations h)) (up_to (chooses_at pl (destinations h)) (r + 1)) b d
  routers_more {r} l x y = steps_more pl (chooses_at pl (destinations h)) r x (λ s p. by_routers r s (omega arith) p) y

  -- ---- the interfaces
  by_interfaces : (n : ℕ) (s : State) → n ≤ destinations h → Picks pl 0 s → Picks pl n (up_to (chooses pl) n s)
  unfolding table_plan
  by_interfaces n s l p =
      up_keeps_at (Picks pl) (chooses pl) n s (λ i u k g. pick_next w.wired (range_of w) i u (omega arith) g) p

  pub interfaces_hold : {n : ℕ} {b c : List ℕ} → n ≤ destinations h → Holds pl (Picks pl 0) b
      → Steps pl (Picks pl 0) (up_to (chooses pl) n) b c → Holds pl (Picks pl n) c
  interfaces_hold {n} l x y = holds_then pl x y (λ s p. by_interfaces n s l p)

  pub interfaces_more : {n : ℕ} {b c d : List ℕ} → n < destinations h
      → Steps pl (Picks pl 0) (up_to (chooses pl) n) b c → Steps pl (Picks pl n) (chooses pl n) c d
      → Steps pl (Picks pl 0) (up_to (chooses pl) (n + 1)) b d
  interfaces_more {n} l x y = steps_more pl (chooses pl) n x (λ s p. by_interfaces n s (omega arith) p) y

  -- ---- all outputs
  pub picks_all : {b c d : List ℕ} → Steps pl (Picks pl 0) (up_to (chooses pl) (destinations h)) b c
      → Steps pl (Picks pl (destinations h)) (up_to (chooses_at pl (destinations h)) h.routers) c d
      → Steps pl (Picks pl 0) (up_to (chooses pl) (output_count h)) b d
  picks_all x y =
      steps_alike pl (λ s i. groups pl (destinations h) h.routers s)
      (steps_then pl x (λ s p. by_interfaces (destinations h) s (omega arith) p) y)

  pub after_picks : (s : State) → Picks pl 0 s → Core pl (up_to (chooses pl) (output_count h) s)
  unfolding table_plan
  after_picks s p =
      (up_keeps_at (Picks pl) (chooses pl) (output_count h) s
      (λ i u k g. pick_next w.wired (range_of w) i u (omega arith) g) p).core
