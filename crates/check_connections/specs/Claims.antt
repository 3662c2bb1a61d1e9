-- What the check of the accepted connections keeps and gives: the slots that are claimed at each router's side, by
-- 4 * router + side, each a set in a word.
use Rattle.std.specs.Prelude.{◌≡◌, Bool, true, not, List, ℕ, suc, ◌+◌, ◌*◌, ◌<◌, eqb, get_or, set, length, replicate}
use Rattle.basis.specs.Choice.{also}
use Rattle.sets.specs.Sets.{has, single, either}
use Rattle.packets.specs.Counters.{slot_after}
use Rattle.plan.specs.Plan.{Plan}
use Rattle.rules.specs.State.{State, has_connection}
use Rattle.valid.specs.Ties.{numbered, claimed_before, tie_test, pair_ties}
use Rattle.bytes_layout.specs.Decode.{decode}
use Rattle.check_rule.specs.Check.{pair_test}

-- nothing is claimed
unfoldable pub none_claimed : List ℕ
none_claimed = replicate 64 0

-- the claims c are those of the accepted connections of numbers below m
pub record Claims (pl : Plan) (s : State) (m : ℕ) (c : List ℕ) : Type 0 where
  pub long : length c ≡ 64
  pub same : (r o t : ℕ) → r < 16 → o < 4 → t < 32 → has (get_or c (4 * r + o) 0) t ≡ claimed_before pl s m r o t

-- ---- one entry
-- the byte at i holds a side and one more, and slot t is not claimed at the k-th router's side; then it is
pub record Claimed (b : List ℕ) (i side k t : ℕ) (r : Bool) (c d : List ℕ) : Type 0 where
  pub test : r ≡ also (eqb (get_or b i 0) (side + 1)) (not (has (get_or c k 0) t))
  pub grown : r ≡ true → d ≡ set c k (either (get_or c k 0) (single t))

-- the slot at the n-th router of a connection whose start slot is t
abbrev pub slot_from : ℕ → ℕ → ℕ → ℕ
slot_from t n slots = (slot_after (record { 0 = t }) (record { 0 = n }) slots).0

-- ---- connection m, which is accepted
pub record Tied (pl : Plan) (s : State) (m : ℕ) (r : Bool) (d : List ℕ) : Type 0 where
  pub test : r ≡ tie_test pl s m
  pub claims : r ≡ true → has_connection s (numbered m) ≡ true → Claims pl s (suc m) d

-- ---- the connections of pair n
-- the accepted ones have the start slots of a set, all of them slots of the plan
pub record Starts (s : State) (slots n word : ℕ) : Type 0 where
  pub held : (t : ℕ) → t < 32 → has_connection s (numbered (32 * n + t)) ≡ has word t
  pub few : (t : ℕ) → has word t ≡ true → t < slots

pub record StartsTied (pl : Plan) (s : State) (n : ℕ) (r : Bool) (d : List ℕ) : Type 0 where
  pub test : r ≡ pair_ties pl s n
  pub claims : r ≡ true → Claims pl s (32 * n + 32) d

-- and with the form of their bytes
pub record PairChecked (pl : Plan) (b : List ℕ) (n : ℕ) (r : Bool) (d : List ℕ) : Type 0 where
  pub test : r ≡ pair_test pl b n
  pub claims : r ≡ true → Claims pl (decode pl b) (32 * n + 32) d
