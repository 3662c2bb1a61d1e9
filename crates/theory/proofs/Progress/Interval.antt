-- A list of calls along which nothing moves: what is seen in each of its rounds. Either some call moves a packet, or
-- each of the first n rounds was seen.
use mathlib.Core.Path.{◌≡◌, refl, ap}
use mathlib.Core.Logic.{◌⊎◌, inl, inr}
use mathlib.Core.List.{List, [], ◌∷◌}
use Prim.Native.Nat.{ℕ, suc, ◌+◌, ◌≤◌, ◌<◌}
use native.Mathlib.Omega.{arith}
use Rattle.basis.specs.Bounded.{below_suc}
use Rattle.plan.specs.Plan.{Plan}
use Rattle.rules.specs.State.{State}
use Rattle.rules.specs.Calls.{Call, call}
use Rattle.rules.specs.Progress.{Moved, is_timed, ends_round}
use Rattle.rules.specs.Ruled.{rounds, Moves}
use mathlib.Core.Bool.{true}

-- this call moves a packet
abbrev pub MovesNow : Plan → Call → State → Type 0
MovesNow pl c s = (is_timed c ≡ true) × Moved pl s (call pl c s).state

pub moves_now : (pl : Plan) (c : Call) (cs : List Call) (s : State) → MovesNow pl c s → Moves pl (c ∷ cs) s
moves_now pl c cs s (t, m) = record { before = []; at = c; rest = cs; split = refl; timed = t; moved = m }

pub moves_later : (pl : Plan) (c : Call) (cs : List Call) (s : State) → Moves pl cs (call pl c s).state
    → Moves pl (c ∷ cs) s
moves_later pl c cs s m =
    record {
      before = c ∷ m.before;
      at = m.at;
      rest = m.rest;
      split = ap (λ (l : List Call). c ∷ l) m.split;
      timed = m.timed;
      moved = m.moved;
    }

-- Calm j s: nothing has moved in the first j rounds, and s is as it then must be
module _ (pl : Plan) (Calm : ℕ → State → Type 0) (Seen : ℕ → Type 0) where
  -- what a call does to a calm state: it moves a packet, or it is calm again, and a round that ends was seen
  pub data Turn (j : ℕ) (c : Call) (s : State) : Type 0 where
    moves : MovesNow pl c s → Turn j c s
    stays : ends_round c (call pl c s).answer ≡ 0 → Calm j (call pl c s).state → Turn j c s
    ends : ends_round c (call pl c s).answer ≡ 1 → Calm (suc j) (call pl c s).state → Seen j → Turn j c s

  module _ (turn : (j : ℕ) (c : Call) (s : State) → Calm j s → Turn j c s) where
    from : (n j : ℕ) (cs : List Call) (s : State) → Calm j s → n ≤ j + rounds pl cs s
        → Moves pl cs s ⊎ ((i : ℕ) → j ≤ i → i < n → Seen i)
    from n j [] s c h = inr (λ i l m. absurd (omega arith))
    from n j (k ∷ ks) s c h = by (λ i d g. from n i ks (call pl k s).state d g) (turn j k s c)
      where
        up : Moves pl ks (call pl k s).state ⊎ ((a : ℕ) → j ≤ a → a < n → Seen a)
            → Moves pl (k ∷ ks) s ⊎ ((i : ℕ) → j ≤ i → i < n → Seen i)
        up (inl x) = inl (moves_later pl k ks s x)
        up (inr f) = inr f

        on : Seen j → Moves pl ks (call pl k s).state ⊎ ((a : ℕ) → suc j ≤ a → a < n → Seen a)
            → Moves pl (k ∷ ks) s ⊎ ((i : ℕ) → j ≤ i → i < n → Seen i)
        on now (inl x) = inl (moves_later pl k ks s x)
        on now (inr f) = inr (λ i l u. at i u (below_suc {i = j} {n = i} (omega arith)))
          where
            at : (i : ℕ) → i < n → (j < i) ⊎ (j ≡ i) → Seen i
            at i u (inl l) = f i l u
            at i u (inr e) = rw (← e) now

        by : ((i : ℕ) → Calm i (call pl k s).state → n ≤ i + rounds pl ks (call pl k s).state
            → Moves pl ks (call pl k s).state ⊎ ((a : ℕ) → i ≤ a → a < n → Seen a))
            → Turn j k s → Moves pl (k ∷ ks) s ⊎ ((i : ℕ) → j ≤ i → i < n → Seen i)
        by rec (moves m) = inl (moves_now pl k ks s m)
        by rec (stays e d) = up (rec j d (omega arith))
        by rec (ends e d now) = on now (rec (suc j) d (omega arith))

    pub interval : (n : ℕ) (cs : List Call) (s : State) → Calm 0 s → n ≤ rounds pl cs s
        → Moves pl cs s ⊎ ((i : ℕ) → i < n → Seen i)
    interval n cs s c h = shift (from n 0 cs s c (omega arith))
      where
        shift : Moves pl cs s ⊎ ((i : ℕ) → 0 ≤ i → i < n → Seen i) → Moves pl cs s ⊎ ((i : ℕ) → i < n → Seen i)
        shift (inl m) = inl m
        shift (inr f) = inr (λ i l. f i (omega arith) l)
