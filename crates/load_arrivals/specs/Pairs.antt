-- Which pairs are served and how long their walks are: what the code computes, and what it means.
use Rattle.std.specs.Prelude.{◌≡◌, ◌⊎◌, Bool, true, not, ◌&&◌, List, [], ℕ, ◌+◌, ◌/◌, ◌^◌, ◌≤◌, ◌<◌, eqb, ltb, get_or}
use Rattle.std.specs.Prelude.{length, replicate}
use Rattle.basis.specs.Choice.{pick}
use Rattle.basis.specs.Fold.{up_to, fill}
use Rattle.sets.specs.Sets.{has, both}
use Rattle.plan.specs.declared.Head.{Head}
use Rattle.plan.specs.Plan.{Plan, active, passive, A, P}
use Rattle.plan.specs.Rules.{home}
use Rattle.plan.specs.Tables.{table_plan}
use Rattle.plan_walks.specs.Walk.{walk_size}
use Rattle.plan_walks.specs.Served.{served}
use Rattle.plan_walks.specs.Drawn.{Arrivals, Serves}
use Rattle.load_arrivals.specs.Tables.{far_of}
use Rattle.load_arrivals.specs.Charted.{Charting}
use Rattle.load_arrivals.specs.Tracks.{Tracks}

-- ---- what is meant
-- the number of routers on the walk of a pair that is served, else 0
unfoldable pub pair_walk : Plan → ℕ → ℕ → ℕ
pair_walk pl a p = pick (served pl a p) (walk_size pl (passive p) (home pl (active a))) 0

-- the same for all pairs, by active and passive; 0 for numbers that the plan does not have
unfoldable pub lengths_of : Plan → List (List ℕ)
lengths_of pl =
    up_to (fill (λ a. up_to (fill (λ p. pick (ltb p (P pl)) (pair_walk pl a p) 0)) 16 (replicate 16 0))) (A pl)
    (replicate 16 (replicate 16 0))

-- ---- tables that give a plan
-- tables that give a plan whose joints match, with rows of 32 routes
pub record Tables (h : Head) (routes : List (List ℕ)) (joints homes : List ℕ) (by : List (List ℕ)) : Type 0 where
  pub chart : Charting (table_plan h routes joints) by joints homes
  pub rows : (r : ℕ) → r < 16 → length (get_or routes r []) ≡ 32
  pub past : (r d : ℕ) → h.actives + h.passives ≤ d → get_or (get_or routes r []) d 7 ≡ 7

-- ---- what the code computes
-- the routers below n that have no way back to active a
pub record Lacking (arrive : List ℕ) (a n s : ℕ) : Type 0 where
  pub small : s < 2 ^ 16
  pub members : (r : ℕ) → has s r ≡ (ltb r n && not (has (get_or arrive r 0) a))

-- the members of v whose word at router x has none of the routers missing
pub record Sift (up : List (List ℕ)) (x v missing w : ℕ) : Type 0 where
  pub members : (d : ℕ) → has w d ≡ (has v d && eqb (both (get_or (get_or up x []) d 0) missing) 0)

-- an active is served with all of v: there is none, or all routers have a way back to it
unfoldable pub plain_of : ℕ → ℕ → ℕ → Bool
plain_of all a v = pick (eqb v 0) true (has all a)

module _ (homes arrive : List ℕ) (h : Head) where
  -- the passives at which active a's walk arrives
  unfoldable pub at_home : ℕ → ℕ
  at_home a = both (get_or arrive (get_or homes a 0 / 4) 0) (far_of h)

  unfoldable pub at_homes : List ℕ
  at_homes = up_to (fill at_home) h.actives (replicate 16 0)

  -- active a's passives: all at which its walk arrives, or those of them whose walk meets no router without a way back
  abbrev pub Chosen : ℕ → List (List ℕ) → ℕ → ℕ → Type 0
  Chosen all up a w =
      ((plain_of all a w ≡ true) × (w ≡ at_home a))
      ⊎ ((m : ℕ) × Lacking arrive a h.routers m × Sift up (get_or homes a 0 / 4) (at_home a) m w)

  pub record Choices (all : ℕ) (up : List (List ℕ)) (n : ℕ) (t : List ℕ) : Type 0 where
    pub long : length t ≡ 16
    pub some : (a : ℕ) → a < n → Chosen all up a (get_or t a 0)
    pub none : (a : ℕ) → n ≤ a → get_or t a 0 ≡ 0

module _ (by : List (List ℕ)) (joints homes arrive : List ℕ) (h : Head) where
  -- the words of the walks of every plan that has these tables
  abbrev pub Known : List (List ℕ) → Type 0
  Known up =
      (routes : List (List ℕ)) → Tables h routes joints homes by → Tracks (table_plan h routes joints) up

  abbrev pub Serving : ℕ → ℕ → ℕ → Type 0
  Serving all a w =
      ((plain_of all a w ≡ true) × (w ≡ at_home homes arrive h a))
      ⊎ ((up : List (List ℕ)) × (m : ℕ) × Known up × Lacking arrive a h.routers m
      × Sift up (get_or homes a 0 / 4) (at_home homes arrive h a) m w)

  pub record Servings (all n : ℕ) (t : List ℕ) : Type 0 where
    pub long : length t ≡ 16
    pub some : (a : ℕ) → a < n → Serving all a (get_or t a 0)
    pub none : (a : ℕ) → n ≤ a → get_or t a 0 ≡ 0

unfoldable pub copy_of : List (List ℕ) → ℕ → List ℕ
copy_of z x = up_to (fill (λ p. get_or (get_or z x []) p 0)) 16 (replicate 16 0)

unfoldable pub mask_of : List (List ℕ) → ℕ → ℕ → ℕ → List ℕ
mask_of z x w column = up_to (fill (λ p. pick (has w (column + p)) (get_or (get_or z x []) p 0) 0)) 16 (replicate 16 0)

unfoldable pub length_of : List (List ℕ) → ℕ → ℕ → ℕ → ℕ → List ℕ
length_of z x w v column = pick (eqb w v) (copy_of z x) (mask_of z x w column)

unfoldable pub lengths_by : List (List ℕ) → List ℕ → List ℕ → List ℕ → Head → List (List ℕ)
lengths_by z arrive serve homes h =
    up_to
    (fill
    (λ a. length_of z (get_or homes a 0 / 4) (get_or serve a 0) (both (get_or arrive (get_or homes a 0 / 4) 0)
    (far_of h))
    h.actives))
    h.actives (replicate 16 (replicate 16 0))

-- ---- a plan's tables are right
abbrev pub Walks : Head → List (List ℕ) → List ℕ → List ℕ → List (List ℕ) → List ℕ → List (List ℕ) → List ℕ → Type 0
Walks h routes joints homes by arrive lengths serve =
    Tables h routes joints homes by
    → Arrivals (table_plan h routes joints) arrive × Serves (table_plan h routes joints) serve
    × (lengths ≡ lengths_of (table_plan h routes joints))
