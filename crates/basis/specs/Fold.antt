-- Steps made one after the other: the state after the steps at 0, 1, .., n - 1.
use Rattle.std.specs.Prelude.{◌≡◌, refl, ◌⊎◌, List, ℕ, zero, suc, ◌+◌, ◌-◌, ◌≤◌, ◌<◌, set, get_or}
use Rattle.std.specs.Prelude.{length, take, drop, ◌++◌}
use Rattle.std.specs.List.{fold}
use Rattle.std.proofs.Common.{ap, sym, ◌∙◌, inl, inr, add-one, arith, rules, length-set}
use Rattle.std.proofs.Common.{get_or-set_same, get_or-set_other}
use Rattle.std.proofs.lemmas.List.Sums.{fold_more}
use Rattle.std.proofs.lemmas.Bool.{cases_lt}
use Rattle.std.proofs.lemmas.Grind.{same_number_lists, common_steps}
use Rattle.basis.specs.Bounded.{below_suc}

unfoldable pub up_to : {A : Type 0} → (ℕ → A → A) → ℕ → A → A
up_to step zero s = s
up_to step (suc n) s = step n (up_to step n s)

-- ---- a loop: before it, a turn, after it
pub up_none : {A : Type 0} (step : ℕ → A → A) (s : A) → s ≡ up_to step 0 s
unfolding up_to
up_none step s = refl

pub up_more : {A : Type 0} (step : ℕ → A → A) (s : A) (i : ℕ) {t u : A} → t ≡ up_to step i s → u ≡ step i t
    → u ≡ up_to step (i + 1) s
unfolding up_to
up_more step s i e f = rw add-one (f ∙ ap (step i) e)

pub up_done : {A : Type 0} (step : ℕ → A → A) (s : A) {i n : ℕ} {t : A} → t ≡ up_to step i s → i ≡ n → t ≡ up_to step n
    s
up_done step s {i} {n} {t} e f = e ∙ ap (λ (k : ℕ). up_to step k s) f

pub up_suc : {A : Type 0} (step : ℕ → A → A) (n : ℕ) (s : A) → up_to step (suc n) s ≡ step n (up_to step n s)
unfolding up_to
up_suc step n s = refl

-- ---- what every step keeps, the loop keeps
pub up_keeps : {A : Type 0} (P : A → Type 0) (step : ℕ → A → A) (n : ℕ) (s : A)
    → ((i : ℕ) (t : A) → i < n → P t → P (step i t)) → P s → P (up_to step n s)
unfolding up_to
up_keeps P step zero s k p = p
up_keeps P step (suc n) s k p =
    k n (up_to step n s) (omega arith) (up_keeps P step n s (λ i t h q. k i t (omega arith) q) p)

-- the same with a fact that speaks of how many steps have been made
pub up_keeps_at : {A : Type 0} (P : ℕ → A → Type 0) (step : ℕ → A → A) (n : ℕ) (s : A)
    → ((i : ℕ) (t : A) → i < n → P i t → P (suc i) (step i t)) → P 0 s → P n (up_to step n s)
unfolding up_to
up_keeps_at P step zero s k p = p
up_keeps_at P step (suc n) s k p =
    k n (up_to step n s) (omega arith) (up_keeps_at P step n s (λ i t h q. k i t (omega arith) q) p)

-- two steps that agree below n make the same loop
pub up_same : {A : Type 0} (f g : ℕ → A → A) (n : ℕ) (s : A) → ((i : ℕ) (t : A) → i < n → f i t ≡ g i t)
    → up_to f n s ≡ up_to g n s
unfolding up_to
up_same f g zero s k = refl
up_same f g (suc n) s k = k n (up_to f n s) (omega arith) ∙ ap (g n) (up_same f g n s (λ i t h. k i t (omega arith)))

-- ---- a loop that fills a list: f i put at i
abbrev pub fill : {A : Type 0} → (ℕ → A) → ℕ → List A → List A
fill f i t = set t i (f i)

pub up_fill : {A : Type 0} (f : ℕ → A) (s : List A) (i : ℕ) {t : List A} {v : A} → t ≡ up_to (fill f) i s → v ≡ f i
    → set t i v ≡ up_to (fill f) (i + 1) s
up_fill f s i {t} {v} e g = up_more (fill f) s i e (ap (set t i) g)

pub length_fill : {A : Type 0} (f : ℕ → A) (n : ℕ) (s : List A) → length (up_to (fill f) n s) ≡ length s
unfolding up_to
length_fill f zero s = refl
length_fill f (suc n) s = length-set (up_to (fill f) n s) n (f n) ∙ length_fill f n s

pub fill_past : {A : Type 0} (f : ℕ → A) (n : ℕ) (s : List A) (i : ℕ) (d : A) → n ≤ i
    → get_or (up_to (fill f) n s) i d ≡ get_or s i d
unfolding up_to
fill_past f zero s i d h = refl
fill_past f (suc n) s i d h =
    get_or-set_other (up_to (fill f) n s) n i (f n) d (omega arith) ∙ fill_past f n s i d (omega arith)

pub fill_at : {A : Type 0} (f : ℕ → A) (n : ℕ) (s : List A) (i : ℕ) (d : A) → i < n → n ≤ length s
    → get_or (up_to (fill f) n s) i d ≡ f i
unfolding up_to
fill_at f zero s i d h k = absurd (omega arith)
fill_at f (suc n) s i d h k = by (λ g. fill_at f n s i d g (omega arith)) (below_suc h)
  where
    by : (i < n → get_or (up_to (fill f) n s) i d ≡ f i) → (i < n) ⊎ (i ≡ n)
        → get_or (set (up_to (fill f) n s) n (f n)) i d ≡ f i
    by rec (inl g) = get_or-set_other (up_to (fill f) n s) n i (f n) d (omega arith) ∙ rec g
    by rec (inr e) = rw e (get_or-set_same (up_to (fill f) n s) n (f n) d (rw (length_fill f n s) (omega arith)))

-- the first n places filled at once: a front of n values that are f's, and behind it what was there
pub front_fill : (f : ℕ → ℕ) (s : List ℕ) (n : ℕ) (front : List ℕ) → n ≤ length s → length front ≡ n
    → ((i : ℕ) → i < n → get_or front i 0 ≡ f i) → front ++ drop n s ≡ up_to (fill f) n s
front_fill f s n front h k e = same_number_lists _ _ long (λ i l. at i (cases_lt i n))
  where
    long : length (front ++ drop n s) ≡ length (up_to (fill f) n s)
    long =
        let a = length_fill f n s in
        let b : length (front ++ drop n s) ≡ length s = grind (arith, common_steps) in b ∙ sym a

    at : (i : ℕ) → (i < n) ⊎ (n ≤ i) → get_or (front ++ drop n s) i 0 ≡ get_or (up_to (fill f) n s) i 0
    at i (inl l) =
        let a = fill_at f n s i 0 l h in
        let b = e i l in
        let c : get_or (front ++ drop n s) i 0 ≡ get_or front i 0 = grind (arith, common_steps) in
        c ∙ b ∙ sym a
    at i (inr l) =
        let a = fill_past f n s i 0 l in
        let c : get_or (front ++ drop n s) i 0 ≡ get_or s i 0 = grind (arith, common_steps) in
        c ∙ sym a

-- ---- a loop down from n, of which the steps below k are still to be made
pub down_none : {A : Type 0} (g : ℕ → A → A) (n : ℕ) (s : A) → s ≡ up_to (λ j. g (n - 1 - j)) (n - n) s
unfolding up_to
down_none g n s = let e : n - n ≡ 0 = omega arith in rw e

pub down_more : {A : Type 0} (g : ℕ → A → A) (n : ℕ) (s : A) (k : ℕ) {t u : A} → k ≤ n → 0 < k
    → t ≡ up_to (λ j. g (n - 1 - j)) (n - k) s → u ≡ g (k - 1) t → u ≡ up_to (λ j. g (n - 1 - j)) (n - (k - 1)) s
down_more g n s k {t} {u} h l e f =
    let steps : n - (k - 1) ≡ n - k + 1 = omega arith in
    let at : n - 1 - (n - k) ≡ k - 1 = omega arith in
    rw steps (up_more (λ j. g (n - 1 - j)) s (n - k) e (f ∙ ap (λ (m : ℕ). g m t) (sym at)))

pub down_done : {A : Type 0} (g : ℕ → A → A) (n : ℕ) (s : A) {k : ℕ} {t : A} → t ≡ up_to (λ j. g (n - 1 - j)) (n - k) s
    → k ≡ 0 → t ≡ up_to (λ j. g (n - 1 - j)) n s
down_done g n s {k} {t} e f = up_done (λ j. g (n - 1 - j)) s e (let l : n - k ≡ n = omega arith in l)

-- a fold over the first n of a list is the loop over its places
pub up_fold : {A : Type 0} (f : A → ℕ → A) (s : A) (xs : List ℕ) (n : ℕ) → n ≤ length xs
    → fold f s (take n xs) ≡ up_to (λ i t. f t (get_or xs i 0)) n s
unfolding up_to
up_fold f s xs zero h = search rules
up_fold f s xs (suc n) h =
    let more : fold f s (take (n + 1) xs) ≡ f (fold f s (take n xs)) (get_or xs n 0) =
    fold_more f s xs n 0 (omega arith) in
    ap (λ (k : ℕ). fold f s (take k xs)) (sym (add-one n)) ∙ more
    ∙ ap (λ t. f t (get_or xs n 0)) (up_fold f s xs n (omega arith))
