-- Start on bytes: equal bytes, an array for the table, what outputs remember, arrays for the credits, which are stored
-- queue by queue, and the allowances.
use Rattle.std.specs.Prelude.{◌≡◌, List, ℕ, ◌+◌, ◌*◌, ◌-◌, ◌%◌, min, ltb, get_or, set, replicate}
use Rattle.basis.specs.Choice.{pick}
use Rattle.basis.specs.Fold.{up_to}
use Rattle.plan.specs.declared.Head.{Head}
use Rattle.plan.specs.Head.{destinations}
use Rattle.plan.specs.Plan.{Plan}
use Rattle.rules.specs.State.{start}
use Rattle.bytes_layout.specs.Rows.{past}
use Rattle.bytes_layout.specs.Offsets.{size}
use Rattle.bytes_layout.specs.Encode.{encode}
use Rattle.bytes_steps.specs.Counts.{turns_from}

-- the bytes of Start's state, for every plan that has this head, and the bytes past the state as they were
pub record Started (h : Head) (b d : List ℕ) : Type 0 where
  pub starts : (pl : Plan) → pl.head ≡ h → d ≡ encode pl (start pl) (past (size pl) b)

-- ---- equal bytes: n of them, and stored from an offset on
unfoldable pub copies : ℕ → ℕ → List ℕ
copies n v = replicate n v

unfoldable pub filled : ℕ → ℕ → ℕ → List ℕ → List ℕ
filled at n v b = up_to (λ i c. set c (at + i) v) n b

-- ---- bytes of an array, stored one after another from an offset on
unfoldable pub laid : ℕ → List ℕ → ℕ → List ℕ → List ℕ
laid at t n b = up_to (λ i c. set c (at + i) (get_or t i 0)) n b

-- and stored as the credits of the queues from a number on
unfoldable pub credits : ℕ → List ℕ → ℕ → List ℕ → List ℕ
credits from t n b = up_to (λ i c. set c (2 + 39 * (from + i)) (get_or t i 0)) n b

-- ---- 'the last in order' by its rank
-- of a router's outputs from an offset on: the four sides have five senders each, the ways to the unit and back have
-- four; and of n routers'
abbrev pub router_turns : ℕ → List ℕ → List ℕ
router_turns at b = filled (at + 4) 2 3 (filled at 4 4 b)

unfoldable pub inner_turns : ℕ → ℕ → List ℕ → List ℕ
inner_turns at n b = up_to (λ r c. router_turns (at + 6 * r) c) n b

-- of all outputs: those of the interfaces have one sender
unfoldable pub turned : Head → List ℕ → List ℕ
turned h b = inner_turns (turns_from h + destinations h) h.routers (filled (turns_from h) (destinations h) 0 b)

-- ---- 'credit of each queue fed by a wire = its capacity'
-- of a router's k-th queue
abbrev pub router_credit : Head → ℕ → ℕ
router_credit h k =
    pick (ltb k 4) h.u.0 (pick (ltb k 8) h.q.0 (pick (ltb ((k - 8) % 5) 2) h.f.0 h.k.0))

-- an array of K's credits in which the others are put: those of a router, from its first queue on; and of n routers
unfoldable pub router_credits : Head → ℕ → List ℕ → List ℕ
router_credits h at t =
    filled (at + 23) 2 h.f.0 (filled (at + 18) 2 h.f.0
    (filled (at + 13) 2 h.f.0 (filled (at + 8) 2 h.f.0
    (filled (at + 4) 4 h.q.0 (filled at 4 h.u.0 t)))))

unfoldable pub inner_credits : Head → ℕ → List ℕ → List ℕ
inner_credits h n t = up_to (λ r c. router_credits h (28 * r) c) n t

-- of every queue by its number
unfoldable pub credit_of : Head → ℕ → ℕ
credit_of h n =
    pick (ltb n h.actives) h.aout.0
    (pick (ltb n (destinations h)) h.pout.0
    (pick (ltb n (destinations h + 28 * h.routers)) (router_credit h ((n - destinations h) % 28))
    (pick (ltb n (destinations h + 28 * h.routers + h.actives)) h.ain.0 h.pin.0)))

-- and stored for k queues from a number on
unfoldable pub credited : Head → ℕ → ℕ → List ℕ → List ℕ
credited h from k b = up_to (λ i c. set c (2 + 39 * (from + i)) (credit_of h (from + i))) k b

-- ---- 'each active's allowance = the smaller of its two capacities'
abbrev pub allowance_of : Head → ℕ
allowance_of h = min h.aout.0 h.ain.0
