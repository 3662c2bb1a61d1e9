-- A queue's first four bytes, as the code tests them; and what the code knows of a queue by its number.
use Rattle.std.specs.Prelude.{Bool, true, false, not, ◌||◌, List, ℕ, zero, suc, ◌+◌, ◌*◌, ◌-◌, ◌/◌, ◌%◌, eqb, ltb, leb}
use Rattle.std.specs.Prelude.{get_or}
use Rattle.basis.specs.Choice.{pick, also}
use Rattle.plan.specs.declared.Head.{Head}
use Rattle.plan.specs.Head.{destinations}

-- a flag up: where a wire feeds the queue, and not in EXECUTE
unfoldable pub flag_fits : Bool → Bool → ℕ → Bool
flag_fits fed executes f = also (not executes || eqb f 0) (fed || eqb f 0)

-- a mark: on a unit's queue that is not empty
unfoldable pub mark_fits : Bool → ℕ → ℕ → Bool
mark_fits unit m n = eqb m 0 || also unit (not (eqb n 0))

-- flag f, mark m and length n of a queue of capacity cap
unfoldable pub flags_of : ℕ → Bool → Bool → Bool → ℕ → ℕ → ℕ → Bool
flags_of cap fed unit executes f m n =
    also (leb f 1) (also (leb m 1) (also (leb n cap) (also (flag_fits fed executes f) (mark_fits unit m n))))

-- and its credit c, w packets being on the way to it
unfoldable pub frame_of : ℕ → Bool → Bool → Bool → ℕ → ℕ → ℕ → ℕ → ℕ → Bool
frame_of cap fed unit executes c f m n w =
    also (flags_of cap fed unit executes f m n) (pick fed (eqb (c + n + w + f) cap) (eqb c cap))

-- queue n is a router's: its place among the router's queues
abbrev pub place_in : Head → ℕ → ℕ
place_in h n = (n - destinations h) % 28

abbrev pub router_in : Head → ℕ → ℕ
router_in h n = (n - destinations h) / 28

-- a joint's byte leads somewhere: kind 1, 2 or 3
unfoldable pub joined_by : ℕ → Bool
joined_by v = pick (eqb (v / 64) 1) true (pick (eqb (v / 64) 2) true (eqb (v / 64) 3))

abbrev pub joined_at : List ℕ → ℕ → Bool
joined_at joints i = joined_by (get_or joints i 0)

-- the side by which K of rank k at side o is entered, k from 0
abbrev pub cross_side : ℕ → ℕ → ℕ
cross_side k o = pick (ltb k o) k (suc k)

-- a wire feeds the k-th queue of router r
unfoldable pub fed_in_router : List ℕ → ℕ → ℕ → Bool
fed_in_router joints r k =
    pick (ltb k 4) (joined_at joints (4 * r + k))
    (pick (ltb k 8) true
    (pick (ltb ((k - 8) % 5) 2) true (joined_at joints (4 * r + cross_side ((k - 8) % 5 - 2) ((k - 8) / 5)))))

unfoldable pub fed_of : Head → List ℕ → ℕ → Bool
fed_of h joints n =
    pick (ltb n (destinations h)) false
    (pick (ltb n (destinations h + 28 * h.routers)) (fed_in_router joints (router_in h n) (place_in h n)) true)

unfoldable pub unit_of : Head → ℕ → Bool
unit_of h n =
    pick (ltb n (destinations h)) false
    (pick (ltb n (destinations h + 28 * h.routers)) (eqb (place_in h n / 4) 1) false)

-- only the head of a queue can have been handled
abbrev pub of_head : Bool → ℕ → Bool
of_head done zero = done
of_head done (suc k) = false
