-- What outputs remember, by bytes, as the code tests it: a byte for each interface's output, then six for each router.
use Rattle.std.specs.Prelude.{Bool, List, ℕ, ◌+◌, ◌*◌, eqb, ltb, get_or}
use Rattle.basis.specs.Choice.{pick, also}
use Rattle.basis.specs.Bounded.{all_below}
use Rattle.plan.specs.declared.Head.{Head}
use Rattle.plan.specs.Head.{destinations}
use Rattle.plan.specs.Tables.{joint_of_byte}
use Rattle.rules.specs.Valid.{is_joined}
use Rattle.bytes_steps.specs.Counts.{turns_from}
use Rattle.check_rule.specs.Forms.{zeros}

-- a side whose joint's byte is j may remember rank x: one of five, and the last of them where it is not joined
unfoldable pub side_rank : ℕ → ℕ → Bool
side_rank j x = pick (is_joined (joint_of_byte j)) (ltb x 5) (eqb x 4)

-- n sides whose bytes begin at i, and their joints at k
unfoldable pub side_ranks : ℕ → ℕ → ℕ → List ℕ → List ℕ → Bool
side_ranks i k n joints b = all_below n (λ o. side_rank (get_or joints (k + o) 0) (get_or b (i + o) 0))

-- a router: its four sides, the way to the unit, the way back
unfoldable pub router_ranks : ℕ → ℕ → List ℕ → List ℕ → Bool
router_ranks i k joints b =
    also (side_ranks i k 4 joints b) (also (ltb (get_or b (i + 4) 0) 4) (ltb (get_or b (i + 5) 0) 4))

-- n routers
unfoldable pub routers_ranks : ℕ → ℕ → List ℕ → List ℕ → Bool
routers_ranks i n joints b = all_below n (λ r. router_ranks (i + 6 * r) (4 * r) joints b)

-- the interfaces have one sender each
unfoldable pub turns_fit : Head → List ℕ → List ℕ → Bool
turns_fit h joints b =
    also (zeros (turns_from h) (destinations h) b)
    (routers_ranks (turns_from h + destinations h) h.routers joints b)
