-- What is where at first: passives at the homes of the actives that they are served with, actives at the routers that
-- their walks meet.
use Rattle.std.specs.Prelude.{◌≡◌, ◌≢◌, List, ℕ, ◌/◌, ◌%◌, ◌<◌, eqb, get_or, set, length, replicate}
use Rattle.basis.specs.Choice.{pick}
use Rattle.basis.specs.Fold.{up_to}
use Rattle.sets.specs.Sets.{either, single}
use Rattle.graph_flow.specs.Carried.{In, Spread}

-- the row of active a's router
unfoldable pub home_row : List ℕ → ℕ → ℕ
home_row homes a = get_or homes a 0 / 4 % 32

module _ (homes served : List ℕ) where
  unfoldable pub start_at : ℕ → List ℕ → List ℕ
  start_at a t = set t (home_row homes a) (either (get_or t (home_row homes a) 0) (get_or served a 0))

  -- what n actives are served with, at their routers
  unfoldable pub starts_of : ℕ → List ℕ
  starts_of n = up_to start_at n (replicate 32 0)

  -- what active a is served with, at its router
  unfoldable pub alone_of : ℕ → List ℕ
  alone_of a = set (replicate 32 0) (home_row homes a) (get_or served a 0)

-- active a, if it is served with some passive, and all such actives
unfoldable pub live_of : List ℕ → ℕ → ℕ
live_of served a = pick (eqb (get_or served a 0) 0) 0 (single a)

unfoldable pub lives_of : List ℕ → ℕ → ℕ
lives_of served n = up_to (λ a s. either s (live_of served a)) n 0

-- a set, with active a if m is not empty
unfoldable pub note_of : ℕ → ℕ → ℕ → ℕ
note_of a m s = pick (eqb m 0) s (either s (single a))

unfoldable pub notes_of : ℕ → List ℕ → ℕ → List ℕ → List ℕ
notes_of a m n t = up_to (λ x u. set u x (note_of a (get_or m x 0) (get_or u x 0))) n t

module _ (by : List (List ℕ)) (joints homes served : List ℕ) (n : ℕ) where
  -- the walks of active a come to router x
  abbrev pub Comes : ℕ → ℕ → Type 0
  Comes a x = (t : List ℕ) × Spread by joints n (alone_of homes served a) t × (get_or t x 0 ≢ 0)

  -- by router: those of the first i actives whose walks come to it
  pub record Answering (i : ℕ) (t : List ℕ) : Type 0 where
    pub long : length t ≡ 32
    pub sound : (x a : ℕ) → In t x a → (a < i) × (x < n) × Comes a x
    pub complete : (a : ℕ) → a < i
        → (m : List ℕ) × Spread by joints n (alone_of homes served a) m ×
        ((x : ℕ) → x < n → get_or m x 0 ≢ 0 → In t x a)

  -- by router: the actives whose answers come to it, or set out there
  pub record Answers (actives : ℕ) (t : List ℕ) : Type 0 where
    pub first : List ℕ
    pub answering : Answering actives first
    pub spread : Spread by joints n first t
