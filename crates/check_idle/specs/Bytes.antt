-- Tests of stretches of bytes, as the code makes them.
use Rattle.std.specs.Prelude.{◌≡◌, Bool, true, List, ℕ, ◌+◌, ◌*◌, ◌/◌, ◌%◌, ◌<◌, eqb, ltb, leb, get_or}
use Rattle.basis.specs.Choice.{pick, also}
use Rattle.basis.specs.Bounded.{any_below, all_below}
use Rattle.plan.specs.declared.Head.{Head}
use Rattle.plan.specs.Head.{destinations}
use Rattle.bytes_steps.specs.Counts.{output_count, outputs_from}
use Rattle.bytes_layout.specs.Decode.{four_at}
use Rattle.check_rule.specs.Forms.{zeros}

-- eight bytes from i on as a number, the first the lowest
unfoldable pub word_at : ℕ → List ℕ → ℕ
word_at i b = four_at i b + 4294967296 * four_at (i + 4) b

-- a queue's row at i with no packet, no flag, no mark and all its credit
pub record IdleRow (b : List ℕ) (i cap : ℕ) : Type 0 where
  pub credit : get_or b i 0 ≡ cap
  pub rest : zeros (i + 1) 38 b ≡ true

-- a stretch of n such rows from i on, all of one capacity
abbrev pub IdleRows : List ℕ → ℕ → ℕ → ℕ → Type 0
IdleRows b i n cap = (k : ℕ) → k < n → IdleRow b (i + 39 * k) cap

-- the queues of a router whose rows begin at i: four U, four Q, and for each side two F and three K
pub record IdleSide (h : Head) (b : List ℕ) (i : ℕ) : Type 0 where
  pub from_unit : IdleRows b i 2 h.f.0
  pub crossing : IdleRows b (i + 78) 3 h.k.0

pub record IdleRouter (h : Head) (b : List ℕ) (i : ℕ) : Type 0 where
  pub entering : IdleRows b i 4 h.u.0
  pub unit : IdleRows b (i + 156) 4 h.q.0
  pub sides : (o : ℕ) → o < 4 → IdleSide h b (i + 312 + 195 * o)

-- nothing on the way anywhere: every output's row is zero, every queue's row idle
pub record QuietBytes (h : Head) (b : List ℕ) : Type 0 where
  pub outputs : zeros (outputs_from h) (7 * output_count h) b ≡ true
  pub active_outs : IdleRows b 2 h.actives h.aout.0
  pub passive_outs : IdleRows b (2 + 39 * h.actives) h.passives h.pout.0
  pub routers : (r : ℕ) → r < h.routers → IdleRouter h b (2 + 39 * (destinations h + 28 * r))
  pub active_ins : IdleRows b (2 + 39 * (destinations h + 28 * h.routers)) h.actives h.ain.0
  pub passive_ins : IdleRows b (2 + 39 * (destinations h + 28 * h.routers + h.actives)) h.passives h.pin.0

-- a side's 32 entries from i on, of which the first `slots` are used: each in range, its second byte zero, both bytes
-- zero past the slots; and one that is free
abbrev pub entry_fits : ℕ → ℕ → List ℕ → ℕ → Bool
entry_fits i slots b t =
    also (leb (get_or b (i + 2 * t) 0) (pick (ltb t slots) 4 0)) (eqb (get_or b (i + 2 * t + 1) 0) 0)

abbrev pub entry_free : ℕ → ℕ → List ℕ → ℕ → Bool
entry_free i slots b t = also (ltb t slots) (eqb (get_or b (i + 2 * t) 0) 0)

unfoldable pub side_fits : ℕ → ℕ → List ℕ → Bool
side_fits i slots b = also (all_below 32 (entry_fits i slots b)) (any_below 32 (entry_free i slots b))

-- every side's, four for each of n routers
unfoldable pub sides_fit : ℕ → ℕ → ℕ → List ℕ → Bool
sides_fit i slots n b = all_below n (λ k. side_fits (i + 64 * k) slots b)

-- ---- the same by each byte's greatest value, which is zero where the byte must be
unfoldable pub limit_at : ℕ → ℕ → ℕ
limit_at slots k = pick (eqb (k % 2) 0) (pick (ltb (k / 2) slots) 4 0) 0

abbrev pub Limits : ℕ → List ℕ → Type 0
Limits slots l = (k : ℕ) → k < 64 → get_or l k 0 ≡ limit_at slots k

-- n bytes from i on, each within its limit; and one of them zero whose limit is not
unfoldable pub bytes_within : ℕ → ℕ → List ℕ → List ℕ → Bool
bytes_within i n l b = all_below n (λ k. leb (get_or b (i + k) 0) (get_or l k 0))

unfoldable pub byte_open : ℕ → ℕ → List ℕ → List ℕ → Bool
byte_open i n l b = any_below n (λ k. also (ltb (get_or b (i + k) 0) (get_or l k 0)) (eqb (get_or b (i + k) 0) 0))

-- n sides of which none is used
unfoldable pub sides_zero : ℕ → ℕ → List ℕ → Bool
sides_zero i n b = all_below n (λ k. zeros (i + 64 * k) 64 b)

-- ---- each active's allowance and what it has spent make the whole
unfoldable pub allowances_fit : ℕ → ℕ → ℕ → List ℕ → List ℕ → Bool
allowances_fit i n full spent b = all_below n (λ a. eqb (get_or b (i + a) 0 + get_or spent a 0) full)
