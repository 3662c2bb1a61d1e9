-- A list of tests tells of a list of conditions: each test holds exactly where its condition does, as far as the ones
-- before it do not hold. So the first test that holds is that of the first condition that holds.
use mathlib.Core.Path.{◌≡◌, refl, sym, ap, ◌∙◌}
use mathlib.Core.Logic.{◌⊎◌, inl, inr}
use mathlib.Core.Bool.{Bool, true, false, true≢false}
use mathlib.Core.List.{List, [], ◌∷◌, ◌++◌}
use mathlib.Core.Option.{Option, none, some}
use Rattle.kinds.specs.declared.Refusal.{Refusal}
use Rattle.kinds.specs.Conditions.{Condition, First, NoneHolds}
use Rattle.plan_journeys.proofs.Places.{some_same, some_not_none}
use Rattle.rules.specs.Guards.{Guard, refusal_of}
use Rattle.valid.proofs.Decides.{Decides}

abbrev pub Tell : List Guard → List Condition → Type 0
Tell [] [] = record {}
Tell [] (c ∷ cs) = ⊥
Tell (g ∷ gs) [] = ⊥
Tell (g ∷ gs) (c ∷ cs) = (g.why ≡ c.why) × Decides g.holds c.Holds × ((c.Holds → ⊥) → Tell gs cs)

-- a condition whose test fails does not hold
pub fails : {t : Bool} {X : Type 0} → Decides t X → t ≡ false → X → ⊥
fails d e x = true≢false (sym (d.passes x) ∙ e)

-- and the test of one that does not hold fails
pub failed : {t : Bool} {X : Type 0} → Decides t X → (X → ⊥) → t ≡ false
failed {t = true} d n = absurd (n (d.holds refl))
failed {t = false} d n = refl

-- two lists that tell of two, one behind the other
pub tell_more : (gs hs : List Guard) (cs ds : List Condition) → Tell gs cs → (NoneHolds cs → Tell hs ds)
    → Tell (gs ++ hs) (cs ++ ds)
tell_more [] hs [] ds t more = more (record {})
tell_more [] hs (c ∷ cs) ds t more = absurd t
tell_more (g ∷ gs) hs [] ds t more = absurd t
tell_more (g ∷ gs) hs (c ∷ cs) ds (e, d, t) more = (e, d, λ n. tell_more gs hs cs ds (t n) (λ m. more (n, m)))

-- ---- the first of both
pub told_first : (gs : List Guard) (cs : List Condition) → Tell gs cs → (w : Refusal) → refusal_of gs ≡ some w
    → First w cs
told_first [] [] t w e = absurd (some_not_none e)
told_first [] (c ∷ cs) t w e = absurd t
told_first (g ∷ gs) [] t w e = absurd t
told_first (g ∷ gs) (c ∷ cs) (q, d, t) w e = by (λ n f. told_first gs cs (t n) w f) g.holds refl
  where
    by : ((c.Holds → ⊥) → refusal_of gs ≡ some w → First w cs) → (b : Bool) → g.holds ≡ b → First w (c ∷ cs)
    by more true h = inl (sym q ∙ some_same (rw h at e), d.holds h)
    by more false h = let n = fails d h in inr (n, more n (rw h at e))

pub first_told : (gs : List Guard) (cs : List Condition) → Tell gs cs → (w : Refusal) → First w cs
    → refusal_of gs ≡ some w
first_told [] [] t w f = absurd f
first_told [] (c ∷ cs) t w f = absurd t
first_told (g ∷ gs) [] t w f = absurd t
first_told (g ∷ gs) (c ∷ cs) (q, d, t) w (inl (e, h)) = rw (d.passes h) (ap some (q ∙ e))
first_told (g ∷ gs) (c ∷ cs) (q, d, t) w (inr (n, f)) = rw (failed d n) (first_told gs cs (t n) w f)

-- ---- none of either
pub told_none : (gs : List Guard) (cs : List Condition) → Tell gs cs → refusal_of gs ≡ none → NoneHolds cs
told_none [] [] t e = record {}
told_none [] (c ∷ cs) t e = absurd t
told_none (g ∷ gs) [] t e = absurd t
told_none (g ∷ gs) (c ∷ cs) (q, d, t) e = by (λ n f. told_none gs cs (t n) f) g.holds refl
  where
    by : ((c.Holds → ⊥) → refusal_of gs ≡ none → NoneHolds cs) → (b : Bool) → g.holds ≡ b → NoneHolds (c ∷ cs)
    by more true h = let f : some g.why ≡ none = rw h at e in absurd (some_not_none (sym f))
    by more false h = let n = fails d h in (n, more n (rw h at e))

pub none_told : (gs : List Guard) (cs : List Condition) → Tell gs cs → NoneHolds cs → refusal_of gs ≡ none
none_told [] [] t n = refl
none_told [] (c ∷ cs) t n = absurd t
none_told (g ∷ gs) [] t n = absurd t
none_told (g ∷ gs) (c ∷ cs) (q, d, t) (n, m) = rw (failed d n) (none_told gs cs (t n) m)

-- one of them is the first, or none holds
pub first_or_none : (gs : List Guard) (cs : List Condition) → Tell gs cs → ((w : Refusal) × First w cs) ⊎ NoneHolds cs
first_or_none gs cs t = by (refusal_of gs) refl
  where
    by : (o : Option Refusal) → refusal_of gs ≡ o → ((w : Refusal) × First w cs) ⊎ NoneHolds cs
    by none e = inr (told_none gs cs t e)
    by (some w) e = inl (w, told_first gs cs t w e)
