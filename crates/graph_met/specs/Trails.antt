-- The routers that a walk meets, by tables of sets: their set and their number in one word; and the table of these
-- words, by router and destination, that grows with what is reached.
use Rattle.std.specs.Prelude.{◌≡◌, true, false, List, [], ℕ, suc, ◌+◌, ◌*◌, ◌≤◌, ◌<◌, get_or, length}
use Rattle.sets.specs.Sets.{has, single}
use Rattle.graph_reach.specs.Reach.{side_set, beyond, through_of}

-- ---- the table: 32 words for each router
pub record Shaped (up : List (List ℕ)) : Type 0 where
  pub wide : (r : ℕ) → r < length up → length (get_or up r []) ≡ 32

abbrev pub cell : List (List ℕ) → ℕ → ℕ → ℕ
cell up r d = get_or (get_or up r []) d 0

pub record Blank (up : List (List ℕ)) : Type 0 where
  pub shape : Shaped up
  pub none : (r d : ℕ) → cell up r d ≡ 0

-- router n's words for the members of k are in the table, and small enough for one router more
abbrev pub Readable : List (List ℕ) → ℕ → ℕ → Type 0
Readable up n k = (d : ℕ) → has k d ≡ true → (n < length up) × (cell up n d ≤ 100000000)

-- ---- what the code does
-- at router x, for the members of k: the word of router n, and x itself with it
pub record Led (x n k : ℕ) (up up' : List (List ℕ)) : Type 0 where
  pub long : length up' ≡ length up
  pub shape : Shaped up'
  pub same : (r d : ℕ) → (r ≡ x → has k d ≡ true → ⊥) → cell up' r d ≡ cell up r d
  pub new : (d : ℕ) → has k d ≡ true → cell up' x d ≡ cell up n d + single x + 65536

-- the walks of one router, at the routers below n
pub record Started (n : ℕ) (t : List ℕ) (up : List (List ℕ)) : Type 0 where
  pub shape : Shaped up
  pub some : (r d : ℕ) → r < n → has (get_or t r 0) d ≡ true → cell up r d ≡ single r + 65536
  pub none : (r d : ℕ) → n ≤ r → cell up r d ≡ 0

-- ---- what is meant
-- a way from a router to d, step by step: over how many routers, and the sum of their places
pub data Trail (by : List (List ℕ)) (next first : List ℕ) (d : ℕ) : ℕ → ℕ → ℕ → Type 0 where
  last : (x : ℕ) → x < 16 → has (get_or first x 0) d ≡ true → Trail by next first d x 1 (single x)
  more : (x o m s : ℕ) → x < 16 → o < 4 → has (side_set by next x o) d ≡ true
      → Trail by next first d (beyond by next x o) m s → Trail by next first d x (suc m) (s + single x)

-- the word of a way of at most b routers
pub record Tracked (by : List (List ℕ)) (next first : List ℕ) (b d r v : ℕ) : Type 0 where
  pub count : ℕ
  pub sum : ℕ
  pub few : count ≤ b
  pub trail : Trail by next first d r count sum
  pub word : v ≡ sum + 65536 * count

module _ (by : List (List ℕ)) (next : List ℕ) where
  -- the word of each walk that is known to be reached
  pub record Trailed (first : List ℕ) (b : ℕ) (t : List ℕ) (up : List (List ℕ)) : Type 0 where
    pub long : length t ≡ 32
    pub shape : Shaped up
    pub rows : (r d : ℕ) → has (get_or t r 0) d ≡ true → r < length up
    pub some : (r d : ℕ) → has (get_or t r 0) d ≡ true → Tracked by next first b d r (cell up r d)

  -- where the words were right they still are, for ways that are k routers longer
  abbrev pub Lengthens : ℕ → List ℕ → List (List ℕ) → List ℕ → List (List ℕ) → Type 0
  Lengthens k t up t' up' = (first : List ℕ) (b : ℕ) → Trailed first b t up → Trailed first (b + k) t' up'

  -- the words are small enough for ways that are k routers longer
  abbrev pub Room : ℕ → List ℕ → List (List ℕ) → Type 0
  Room k t up = (first : List ℕ) × (b : ℕ) × (b + k ≤ 600) × Trailed first b t up

  -- inside a step at router x, of which the destinations in new are not reached yet: the sides below o are done
  pub record Turned (first : List ℕ) (b : ℕ) (t : List ℕ) (x new o : ℕ) (up : List (List ℕ)) : Type 0 where
    pub old : Trailed first b t up
    pub apart : (d : ℕ) → has new d ≡ true → has (get_or t x 0) d ≡ false
    pub done : (i d : ℕ) → i < o → has (through_of by next t x i) d ≡ true → has new d ≡ true
        → Tracked by next first (b + 1) d x (cell up x d)

  abbrev pub Turns : List ℕ → ℕ → ℕ → ℕ → List (List ℕ) → ℕ → List (List ℕ) → Type 0
  Turns t x new o up o' up' = (first : List ℕ) (b : ℕ) → Turned first b t x new o up → Turned first b t x new o' up'

  abbrev pub Turning : List ℕ → ℕ → ℕ → ℕ → List (List ℕ) → Type 0
  Turning t x new o up = (first : List ℕ) × (b : ℕ) × (b ≤ 600) × Turned first b t x new o up
