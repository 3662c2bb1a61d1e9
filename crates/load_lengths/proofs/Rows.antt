-- A row of sizes read place by place is that row.
use mathlib.Core.Path.{◌≡◌, sym, subst, ◌∙◌}
use mathlib.Core.List.{List, []}
use Prim.Native.Nat.{ℕ, ◌≤◌, ◌<◌}
use native.Mathlib.Omega.{arith}
use lib.ListN.{length, get_or, take, replicate}
use Rattle.std.proofs.lemmas.List.{ext_get_or}
use Rattle.basis.specs.Fold.{fill_at, length_fill}
use Rattle.load_arrivals.specs.Pairs.{copy_of}
use Rattle.load_arrivals.proofs.Steps.{in_part, part_end}

pub row_copied : (z : List (List ℕ)) (x : ℕ) → length (get_or z x []) ≡ 16 → get_or z x [] ≡ copy_of z x
unfolding copy_of
row_copied z x e =
    let f : ℕ → ℕ = λ p. get_or (get_or z x []) p 0 in
    ext_get_or 0 (get_or z x []) _ (e ∙ sym (length_fill f 16 (replicate 16 0)))
    (λ i l. sym (fill_at f 16 (replicate 16 0) i 0 (omega (arith, e)) (omega arith)))

-- a loop over the first n of sixteen rows that are alike: its turns are below n, and its end is n
pub row_below : {t : List (List ℕ)} {v : List ℕ} {n k : ℕ} → t ≡ replicate 16 v → n ≤ 16 → k < length (take n t) → k < n
row_below {v = v} {n = n} {k = k} e l h = in_part n 16 v l (subst (λ t. k < length (take n t)) e h)

pub rows_end : {t : List (List ℕ)} {v : List ℕ} {n k : ℕ} → t ≡ replicate 16 v → n ≤ 16 → length (take n t) ≤ k
    → k ≤ length (take n t) → k ≡ n
rows_end {v = v} {n = n} {k = k} e l h i =
    part_end n 16 v l (subst (λ t. length (take n t) ≤ k) e h) (subst (λ t. k ≤ length (take n t)) e i)
