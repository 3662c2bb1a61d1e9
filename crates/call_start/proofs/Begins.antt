-- Zero bytes with what outputs remember behind them, and with the credits and the allowances stored, are the bytes of
-- Start's state.
use mathlib.Core.Path.{◌≡◌, refl, sym, ap, ap₂, ◌∙◌, subst}
use mathlib.Core.List.{List, [], ◌∷◌, ◌++◌, append_assoc}
use Prim.Native.Nat.{ℕ, suc, ◌+◌, ◌*◌, ◌≤◌, ◌<◌}
use native.Mathlib.Nat.{zero-add}
use native.Mathlib.Omega.{arith}
use lib.ListN.{length, get_or, set, length-append}
use Rattle.basis.specs.Fold.{up_to}
use Rattle.sets.specs.Sets.{those}
use Rattle.plan.specs.declared.Head.{Head}
use Rattle.plan.specs.Head.{InRange, Counts, destinations}
use Rattle.plan.specs.Plan.{Plan, R, A}
use Rattle.plan_queues.specs.Queue.{queues, queue_at}
use Rattle.rules.specs.Outputs.{outputs}
use Rattle.rules.specs.State.{blank, start, start_allowance}
use Rattle.bytes_layout.specs.Rows.{rows, rows_same, rows_length, past}
use Rattle.bytes_layout.specs.Offsets.{size, entries, pairs, allowances_at, turns_at}
use Rattle.bytes_layout.specs.Places.{place_bytes}
use Rattle.bytes_layout.specs.Encode.{queue_bytes, output_bytes, starts_bytes, connection_part, turn_part, encode}
use Rattle.bytes_layout.proofs.Lines.{set_behind}
use Rattle.bytes_steps.specs.Counts.{queue_count, allowances_from, table_from, connections_from, turns_from, state_size}
use Rattle.bytes_steps.specs.Counts.{queues_by, size_by, allowances_at_lem, turns_at_lem}
use Rattle.call_start.specs.Starting.{Started, copies, filled, laid, credits, router_turns, inner_turns, turned}
use Rattle.call_start.specs.Starting.{inner_credits, credit_of, credited, allowance_of}
use Rattle.call_start.proofs.Fills.{length_copies, copies_at, copies_split, copies_rows, laid_copies, zeros}
use Rattle.call_start.proofs.Fills.{cleared, cleared_none, cleared_more, rows_made}
use Rattle.call_start.proofs.Credits.{credit_of_lem, active_out_credit, passive_out_credit, router_part}
use Rattle.call_start.proofs.Credits.{active_in_credit, passive_in_credit, inner_at, credits_as, credited_more}
use Rattle.call_start.proofs.Turns.{turned_start}

module _ (pl : Plan) (rest : List ℕ) where
  -- ---- the parts of a state's bytes: the header, the queues' rows, the outputs' rows, the allowances, the table, the
  -- accepted connections, what outputs remember
  abbrev turns : List ℕ
  turns = turn_part pl (start pl) ++ rest

  abbrev tail : List ℕ
  tail = zeros (256 * R pl) ++ (zeros (64 * A pl) ++ turns)

  abbrev wires : List ℕ
  wires = rows 0 (outputs pl) (λ j. zeros 7)

  abbrev parts : (ℕ → List ℕ) → (ℕ → List ℕ) → List ℕ
  parts q a = zeros 2 ++ (rows 0 (queues pl) q ++ (wires ++ (rows 0 (A pl) a ++ tail)))

  -- ---- all zero before what outputs remember
  cleared_parts : zeros (turns_at pl) ++ turns ≡ parts (λ j. 0 ∷ zeros 38) (λ j. 0 ∷ [])
  unfolding copies
  cleared_parts =
      let last : ℕ = 256 * R pl + 64 * A pl in
      let e : turns_at pl ≡ 2 + (39 * queues pl + (7 * outputs pl + (1 * A pl + last))) = omega arith in
      ap (λ (n : ℕ). zeros n ++ turns) e
      ∙ copies_split 2 (39 * queues pl + (7 * outputs pl + (1 * A pl + last))) 0 turns
      ∙ ap (λ (x : List ℕ). zeros 2 ++ x)
      (copies_split (39 * queues pl) (7 * outputs pl + (1 * A pl + last)) 0 turns
      ∙ ap (λ (x : List ℕ). zeros (39 * queues pl) ++ x)
      (copies_split (7 * outputs pl) (1 * A pl + last) 0 turns
      ∙ ap (λ (x : List ℕ). zeros (7 * outputs pl) ++ x)
      (copies_split (1 * A pl) last 0 turns
      ∙ ap (λ (x : List ℕ). zeros (1 * A pl) ++ x) (copies_split (256 * R pl) (64 * A pl) 0 turns)
      ∙ sym (copies_rows 1 0 (A pl) 0 tail))
      ∙ sym (copies_rows 7 0 (outputs pl) 0 (rows 0 (A pl) (λ j. zeros 1) ++ tail)))
      ∙ sym (copies_rows 39 0 (queues pl) 0 (wires ++ (rows 0 (A pl) (λ j. zeros 1) ++ tail))))

  -- ---- the credits
  abbrev credit : ℕ → List ℕ
  credit n = credit_of pl.head n ∷ zeros 38

  credited_parts : credited pl.head 0 (queues pl) (parts (λ j. 0 ∷ zeros 38) (λ j. 0 ∷ []))
      ≡ parts credit (λ j. 0 ∷ [])
  unfolding credited
  credited_parts =
      rows_made 39 2 (0 ∷ zeros 38) credit (λ j. ap suc (length_copies 38 0))
      (λ n c. set c (2 + 39 * (0 + n)) (credit_of pl.head (0 + n)))
      (λ j l r o. set_behind l (0 ∷ (zeros 38 ++ r)) (2 + 39 * (0 + j)) 0 (credit_of pl.head (0 + j)) (omega arith)
      ∙ ap (λ (n : ℕ). l ++ (credit_of pl.head n ∷ (zeros 38 ++ r))) (zero-add j))
      (zeros 2) (sym (length_copies 2 0)) (queues pl) (wires ++ (rows 0 (A pl) (λ j. 0 ∷ []) ++ tail))

  -- ---- the allowances
  abbrev allowance : ℕ → List ℕ
  allowance n = start_allowance pl ∷ []

  before : List ℕ
  before = zeros 2 ++ (rows 0 (queues pl) credit ++ wires)

  group : (x : List ℕ) → zeros 2 ++ (rows 0 (queues pl) credit ++ (wires ++ x)) ≡ before ++ x
  unfolding before
  group x =
      ap (λ (y : List ℕ). zeros 2 ++ y) (sym (append_assoc (rows 0 (queues pl) credit) wires x))
      ∙ sym (append_assoc (zeros 2) (rows 0 (queues pl) credit ++ wires) x)

  before_long : allowances_at pl ≡ length before
  unfolding before
  before_long =
      rw (
        length-append (zeros 2) (rows 0 (queues pl) credit ++ wires),
        length-append (rows 0 (queues pl) credit) wires,
        rows_length 39 0 (queues pl) credit (λ j. ap suc (length_copies 38 0)),
        rows_length 7 0 (outputs pl) (λ j. zeros 7) (λ j. length_copies 7 0),
        length_copies 2 0,
      )
      (omega arith)

  allowed_parts : filled (allowances_at pl) (A pl) (start_allowance pl) (parts credit (λ j. 0 ∷ []))
      ≡ parts credit allowance
  unfolding filled
  allowed_parts =
      let at : ℕ = allowances_at pl in
      let v : ℕ = start_allowance pl in
      ap (filled at (A pl) v) (group (rows 0 (A pl) (λ j. 0 ∷ []) ++ tail))
      ∙ rows_made 1 at (0 ∷ []) allowance (λ j. refl) (λ i c. set c (at + i) v)
      (λ j l r o. set_behind l (0 ∷ r) (at + j) 0 v (omega arith)) before before_long (A pl) tail
      ∙ sym (group (rows 0 (A pl) allowance ++ tail))

  -- ---- Start's state
  -- no connection is accepted
  no_starts : (n : ℕ) → starts_bytes (start pl) n ≡ zeros 4
  unfolding start blank those copies
  no_starts n = refl

  start_connections : connection_part pl (start pl) ++ turns ≡ zeros (64 * A pl) ++ turns
  start_connections =
      let e : 4 * pairs pl ≡ 64 * A pl = omega arith in
      ap (λ (x : List ℕ). x ++ turns) (rows_same 0 (pairs pl) (starts_bytes (start pl)) (λ j. zeros 4)
      (λ j a b. no_starts j))
      ∙ copies_rows 4 0 (pairs pl) 0 turns ∙ ap (λ (n : ℕ). zeros n ++ turns) e

  start_parts : encode pl (start pl) rest ≡ parts credit allowance
  unfolding encode queue_bytes output_bytes place_bytes start blank copies
  start_parts =
      let more : List ℕ = connection_part pl (start pl) ++ turns in
      ap₂ (λ (x y : List ℕ). zeros 2 ++ (x ++ (wires ++ (rows 0 (A pl) allowance ++ y))))
      (rows_same 0 (queues pl) (λ n. queue_bytes (start pl) (queue_at pl n)) credit
      (λ j a b. ap (λ (x : ℕ). x ∷ zeros 38) (sym (credit_of_lem pl j))))
      (copies_rows 2 0 (entries pl) 0 more
      ∙ (let e : 2 * entries pl ≡ 256 * R pl = omega arith in ap (λ (n : ℕ). zeros n ++ more) e)
      ∙ ap (λ (x : List ℕ). zeros (256 * R pl) ++ x) start_connections)

-- ---- the whole
-- what the steps ask: counts that are few
pub few_counts : {h : Head} → InRange h → Counts h
few_counts range = (range.routers.1, range.actives.1, range.passives.1)

module _ (pl : Plan) (b : List ℕ) (long : state_size pl.head ≤ length b) where
  begun : filled (allowances_from pl.head) (A pl) (allowance_of pl.head)
      (credited pl.head 0 (queue_count pl.head) (turned pl.head (cleared (turns_from pl.head) b)))
      ≡ encode pl (start pl) (past (size pl) b)
  begun =
      let rest : List ℕ = past (size pl) b in
      ap₂ (λ (n : ℕ) (x : List ℕ). filled n (A pl) (start_allowance pl) x) (sym (allowances_at_lem pl))
      (ap₂ (λ (n : ℕ) (x : List ℕ). credited pl.head 0 n x) (sym (queues_by pl))
      (turned_start pl b long
      ∙ ap₂ (λ (n m : ℕ). zeros n ++ (turn_part pl (start pl) ++ past m b)) (sym (turns_at_lem pl)) (sym (size_by pl))
      ∙ cleared_parts pl rest)
      ∙ credited_parts pl rest)
      ∙ allowed_parts pl rest ∙ sym (start_parts pl rest)

pub started : {h : Head} {b d : List ℕ} → state_size h ≤ length b
    → d ≡ filled (allowances_from h) h.actives (allowance_of h)
    (credited h 0 (queue_count h) (turned h (cleared (turns_from h) b)))
    → Started h b d
started {h} {b} {d} long made =
    record {
      starts = λ pl e.
          subst
          (λ (x : Head). d ≡ filled (allowances_from x) x.actives (allowance_of x)
          (credited x 0 (queue_count x) (turned x (cleared (turns_from x) b))))
          (sym e) made
          ∙ begun pl b (subst (λ (x : Head). state_size x ≤ length b) (sym e) long);
    }

-- ---- the code's steps put together
-- equal bytes by values that the code computed; and by an array of them
pub filled_as : (n : ℕ) (b : List ℕ) {at to v w : ℕ} {d : List ℕ} → at ≡ to → v ≡ w → d ≡ filled at n v b
    → d ≡ filled to n w b
filled_as n b e f g = g ∙ ap₂ (λ (i x : ℕ). filled i n x b) e f

pub laid_as : (n m v : ℕ) (b : List ℕ) {at to : ℕ} {t d : List ℕ} → n ≤ m → at ≡ to → t ≡ copies m v
    → d ≡ laid at t n b → d ≡ filled to n v b
laid_as n m v b {at} {to} l e f g =
    g ∙ ap₂ (λ (i : ℕ) (x : List ℕ). laid i x n b) e f ∙ laid_copies to n m v b l

-- the credits of the routers' queues by an array
pub routers_as : (h : Head) (m : ℕ) (b : List ℕ) {n : ℕ} {t u d : List ℕ} → 28 * h.routers ≤ m
    → t ≡ copies m h.k.0 → u ≡ inner_credits h h.routers t → d ≡ credits (destinations h) u n b
    → n ≡ 28 * h.routers → d ≡ credited h (destinations h) (28 * h.routers) b
routers_as h m b {n} {t} {u} l e f g q =
    g ∙ ap (λ (k : ℕ). credits (destinations h) u k b) q
    ∙ credits_as h b (destinations h) (28 * h.routers) u
    (λ i k. ap (λ (x : List ℕ). get_or x i 0) (f ∙ ap (inner_credits h h.routers) e)
    ∙ inner_at h h.routers m l i k ∙ sym (router_part h i k))

-- out-queues, routers' queues, in-queues
pub all_groups : (h : Head) → Counts h → (b : List ℕ) {c d e f g : List ℕ}
    → c ≡ credits 0 (copies 16 h.aout.0) h.actives b
    → d ≡ credits h.actives (copies 16 h.pout.0) h.passives c
    → e ≡ credited h (destinations h) (28 * h.routers) d
    → f ≡ credits (destinations h + 28 * h.routers) (copies 16 h.ain.0) h.actives e
    → g ≡ credits (destinations h + 28 * h.routers + h.actives) (copies 16 h.pin.0) h.passives f
    → g ≡ credited h 0 (queue_count h) b
all_groups h few b {c} {d} {e} {f} p q r i j =
    let fa = few.1 in
    let fp = few.2 in
    let m : ℕ = destinations h + 28 * h.routers in
    let same : (v k : ℕ) → k < 16 → get_or (copies 16 v) k 0 ≡ v = copies_at 16 in
    let count : m + h.actives + h.passives ≡ queue_count h = omega arith in
    let one : c ≡ credited h 0 h.actives b =
    p ∙ credits_as h b 0 h.actives (copies 16 h.aout.0)
    (λ k l. same h.aout.0 k (omega arith) ∙ sym (active_out_credit h k l)) in
    let two = credited_more h b h.actives h.passives one
    (q ∙ credits_as h c h.actives h.passives (copies 16 h.pout.0)
    (λ k l. same h.pout.0 k (omega arith) ∙ sym (passive_out_credit h k l))) in
    let three = credited_more h b (destinations h) (28 * h.routers) two r in
    let four = credited_more h b m h.actives three
    (i ∙ credits_as h e m h.actives (copies 16 h.ain.0)
    (λ k l. same h.ain.0 k (omega arith) ∙ sym (active_in_credit h k l))) in
    credited_more h b (m + h.actives) h.passives four
    (j ∙ credits_as h f (m + h.actives) h.passives (copies 16 h.pin.0)
    (λ k l. same h.pin.0 k (omega arith) ∙ sym (passive_in_credit h k l)))
    ∙ ap (λ (n : ℕ). credited h 0 n b) count

-- what the routers' outputs remember
pub inner_turns_as : (n : ℕ) (b : List ℕ) {at to r : ℕ} {d : List ℕ} → at ≡ to → r ≡ n
    → d ≡ up_to (λ k x. router_turns (at + 6 * k) x) r b → d ≡ inner_turns to n b
unfolding inner_turns
inner_turns_as n b e q g = g ∙ ap₂ (λ (i k : ℕ). inner_turns i k b) e q

-- what the interfaces' outputs remember, and the routers'
pub both_turns : (h : Head) (b : List ℕ) {at : ℕ} {c d : List ℕ} → at ≡ turns_from h
    → c ≡ filled at (destinations h) 0 b → d ≡ inner_turns (turns_from h + destinations h) h.routers c → d ≡ turned h b
unfolding turned
both_turns h b e f g =
    g ∙ ap (inner_turns (turns_from h + destinations h) h.routers)
    (f ∙ ap (λ (i : ℕ). filled i (destinations h) 0 b) e)

-- all of Start
pub start_made : {h : Head} {at to : ℕ} {b c d m w e f : List ℕ} → state_size h ≤ length b
    → at ≡ table_from h → c ≡ filled 0 at 0 b → d ≡ filled (table_from h) (256 * h.routers) 0 c
    → to ≡ connections_from h → m ≡ filled to (64 * h.actives) 0 d → w ≡ turned h m
    → e ≡ credited h 0 (queue_count h) w → f ≡ filled (allowances_from h) h.actives (allowance_of h) e → Started h b f
start_made {h} {at} {to} {b} {c} {d} {m} long i p q j none last r s =
    let first : c ≡ cleared (table_from h) b =
    p ∙ ap₂ (λ (n : ℕ) (x : List ℕ). filled 0 n 0 x) i (cleared_none b) ∙ cleared_more 0 (table_from h) b (omega arith)
    ∙ ap (λ (n : ℕ). cleared n b) (zero-add (table_from h)) in
    let table : d ≡ cleared (connections_from h) b =
    q ∙ ap (filled (table_from h) (256 * h.routers) 0) first
    ∙ cleared_more (table_from h) (256 * h.routers) b (omega arith) in
    let starts : m ≡ cleared (turns_from h) b =
    none ∙ ap₂ (λ (n : ℕ) (x : List ℕ). filled n (64 * h.actives) 0 x) j table
    ∙ cleared_more (connections_from h) (64 * h.actives) b (omega arith) in
    started long
    (s ∙ ap (filled (allowances_from h) h.actives (allowance_of h))
    (r ∙ ap (credited h 0 (queue_count h)) (last ∙ ap (turned h) starts)))

-- what the steps ask: a length that stays
pub long_still : {n : ℕ} {m k : ℕ} → n ≤ k → m ≡ k → n ≤ m
long_still l e = omega arith
