-- What is carried from router to router by tables of sets, and what the sweeps that find it keep.
use Rattle.std.specs.Prelude.{◌≡◌, true, false, List, [], ℕ, zero, suc, ◌+◌, ◌*◌, ◌/◌, ◌%◌, ◌≤◌, ◌<◌, eqb, get_or}
use Rattle.std.specs.Prelude.{length}
use Rattle.basis.specs.Choice.{pick}
use Rattle.sets.specs.Sets.{has}

-- the port that port k is joined to by a joint's byte, or 64 where no router is joined there
unfoldable pub partner_of : List ℕ → ℕ → ℕ
partner_of joints k = pick (eqb (get_or joints k 0 / 64) 1) (get_or joints k 0 % 64) 64

-- the router beyond port k, or 16
abbrev pub beyond_of : List ℕ → ℕ → ℕ
beyond_of joints k = partner_of joints k / 4

-- d is in the set of row y
abbrev pub In : List ℕ → ℕ → ℕ → Type 0
In t y d = has (get_or t y 0) d ≡ true

module _ (by : List (List ℕ)) (joints : List ℕ) where
  -- d leaves router x by side o
  abbrev pub Leaves : ℕ → ℕ → ℕ → Type 0
  Leaves x o d = has (get_or (get_or by x []) o 0) d ≡ true

  -- what router x had has gone on by side o
  abbrev pub Gone : ℕ → ℕ → List ℕ → List ℕ → Type 0
  Gone x o before after = (d : ℕ) → Leaves x o d → In before x d → In after (beyond_of joints (4 * x + o)) d

  -- d comes to y after k of n routers from where it is at first
  abbrev pub Carried : ℕ → List ℕ → ℕ → ℕ → ℕ → Type 0
  Carried n first d zero y = In first y d
  Carried n first d (suc k) y =
      (x o : ℕ) × (x < n) × (o < 4) × (beyond_of joints (4 * x + o) ≡ y) × Leaves x o d × Carried n first d k x

  -- only what is carried there is in the sets
  abbrev pub Fair : ℕ → List ℕ → List ℕ → Type 0
  Fair n first t = (y d : ℕ) → In t y d → (k : ℕ) × Carried n first d k y

  -- ---- what a turn does: nothing goes, what was at x goes on, and rows that grow are told of
  pub record Pushed (x o : ℕ) (before : List ℕ) (new : ℕ) (after : List ℕ) : Type 0 where
    pub long : length after ≡ length before
    pub keeps : (y d : ℕ) → In before y d → In after y d
    pub fair : (n : ℕ) (first : List ℕ) → x < n → Fair n first before → Fair n first after
    pub gone : Gone x o before after
    pub same : (y : ℕ) → has new y ≡ false → get_or after y 0 ≡ get_or before y 0

  pub record Passed (x : ℕ) (before : List ℕ) (new : ℕ) (after : List ℕ) : Type 0 where
    pub long : length after ≡ length before
    pub keeps : (y d : ℕ) → In before y d → In after y d
    pub fair : (n : ℕ) (first : List ℕ) → x < n → Fair n first before → Fair n first after
    pub gone : (o : ℕ) → o < 4 → Gone x o before after
    pub same : (y : ℕ) → has new y ≡ false → get_or after y 0 ≡ get_or before y 0

  -- what is not to be looked at again has gone on
  abbrev pub Off : ℕ → ℕ → List ℕ → Type 0
  Off n work t = (x : ℕ) → x < n → has work x ≡ false → (o : ℕ) → o < 4 → Gone x o t t

  pub record Stepped (x work : ℕ) (before : List ℕ) (left : ℕ) (after : List ℕ) : Type 0 where
    pub long : length after ≡ length before
    pub keeps : (y d : ℕ) → In before y d → In after y d
    pub fair : (n : ℕ) (first : List ℕ) → x < n → Fair n first before → Fair n first after
    pub gone : (n : ℕ) → x < n → Off n work before → (o : ℕ) → o < 4 → Gone x o before after
    pub off : (n : ℕ) → Off n work before → Off n left after

  -- all that comes after k routers is there
  pub record Round (n : ℕ) (first : List ℕ) (k work : ℕ) (t : List ℕ) : Type 0 where
    pub long : length t ≡ 32
    pub fair : Fair n first t
    pub off : Off n work t
    pub found : (j : ℕ) → j ≤ k → (y d : ℕ) → Carried n first d j y → In t y d

  -- all that comes to the n routers, and nothing else
  pub record Spread (n : ℕ) (first t : List ℕ) : Type 0 where
    pub sound : Fair n first t
    pub complete : (k : ℕ) → k ≤ n → (y d : ℕ) → Carried n first d k y → In t y d
