-- What the code of the picks needs of its bytes.
use mathlib.Core.Path.{◌≡◌, refl, sym, ap, subst, ◌∙◌}
use mathlib.Core.Logic.{◌⊎◌, inl, inr}
use mathlib.Core.Bool.{Bool, true, false}
use mathlib.Core.List.{List}
use mathlib.Core.Option.{some}
use Prim.Native.Nat.{ℕ, zero, suc, ◌+◌, ◌*◌, ◌≤◌, ◌<◌}
use native.Mathlib.Omega.{arith}
use lib.Dec.{eqb}
use lib.ListN.{length, get_or}
use borrow.Author.Tests.{eqb-true, eq-eqb, ne_eqb, lt-ltb, le-ltb}
use Rattle.basis.specs.Bounded.{lt_or_ge}
use Rattle.packets.specs.declared.Packet.{Packet}
use Rattle.plan.specs.declared.Head.{Head}
use Rattle.plan.specs.Head.{Counts, destinations}
use Rattle.plan.specs.Plan.{Plan}
use Rattle.plan.specs.Tables.{table_plan}
use Rattle.plan_queues.specs.Queue.{number, queues, queue_at}
use Rattle.plan_queues.specs.Feeds.{output_of, of_side, to_unit, from_unit, leaves_from}
use Rattle.plan_journeys.proofs.Numbers.{number_below}
use Rattle.rules.specs.State.{State, is_free}
use Rattle.rules.specs.Outputs.{outputs, output_at, output_number, next_by}
use Rattle.rules.specs.Execute.{is_open}
use Rattle.rules.specs.Valid.{Belongs}
use Rattle.rules.proofs.Numbers.{exists_at}
use Rattle.rules.proofs.OutNumbers.{drives_at, output_at_lem}
use Rattle.theory.specs.Invariant.{Core}
use Rattle.bytes_layout.specs.Offsets.{queue_row, output_row, turn_row}
use Rattle.bytes_layout.specs.Places.{packet_at}
use Rattle.bytes_layout.specs.Decode.{length_at, entry_at}
use Rattle.bytes_layout.specs.Encode.{encode}
use Rattle.bytes_layout.proofs.Readings.{slot_at, entry_at_lem, last_sender_at}
use Rattle.bytes_steps.specs.Acts.{Holds, Steps}
use Rattle.bytes_steps.specs.Counts.{queue_count, output_count, outputs_from, outputs_at_lem, table_from, turns_from}
use Rattle.bytes_steps.specs.Counts.{turns_at_lem}
use Rattle.next_queue.specs.Wiring.{Wiring}
use Rattle.next_queue.specs.Next.{number_or, AtUnit}
use Rattle.next_queue.proofs.Onward.{onward_at}
use Rattle.phase_pick.specs.Moments.{Tells, Picks, Open, Leaves, chooses}
use Rattle.phase_pick.specs.Senders.{Sends}
use Rattle.phase_pick.proofs.Steps.{steps_by, holds_by}
use Rattle.phase_pick.proofs.Bytes.{row_at_lem, output_at_lem as output-row-at, turn_at as turn-row-at, queue_room}
use Rattle.phase_pick.proofs.Bytes.{output_room, turn_room as turn-byte-room, entry_room, free_byte}
use Rattle.phase_pick.proofs.Tables.{range_of, counts_of, entry_is, is_router}
use Rattle.phase_pick.proofs.Choosing.{Going, going, onto_number, onto_row, steps_closed}
use Rattle.phase_pick.proofs.Senders.{sends_side, sends_up, sends_down, sends_interface}

-- what was read at a row's first place
pub read_at : {x : Packet} {at : ℕ} (b : List ℕ) (n : ℕ) → x ≡ packet_at (at + 4) b → at ≡ 2 + 39 * n
    → x ≡ packet_at (2 + 39 * n + 4) b
read_at b n e f = rw (← f) e

-- four queues without a packet
pub idle_four : (at : ℕ) (b : List ℕ) → get_or b (at + 3) 0 ≡ 0 → get_or b (at + 42) 0 ≡ 0 → get_or b (at + 81) 0 ≡ 0
    → eqb (get_or b (at + 120) 0) 0 ≡ true → (k : ℕ) → k < 4 → length_at (at + 39 * k) b ≡ 0
idle_four at b e f g t zero l = let q : at + 39 * 0 + 3 ≡ at + 3 = omega arith in ap (λ (i : ℕ). get_or b i 0) q ∙ e
idle_four at b e f g t (suc zero) l =
    let q : at + 39 * 1 + 3 ≡ at + 42 = omega arith in ap (λ (i : ℕ). get_or b i 0) q ∙ f
idle_four at b e f g t (suc (suc zero)) l =
    let q : at + 39 * 2 + 3 ≡ at + 81 = omega arith in ap (λ (i : ℕ). get_or b i 0) q ∙ g
idle_four at b e f g t (suc (suc (suc zero))) l =
    let q : at + 39 * 3 + 3 ≡ at + 120 = omega arith in
    ap (λ (i : ℕ). get_or b i 0) q ∙ eqb-true (get_or b (at + 120) 0) 0 t
idle_four at b e f g t (suc (suc (suc (suc k)))) l = absurd (omega arith)

-- the rows of queues one behind the other
pub idle_rows : {at c : ℕ} (b : List ℕ) (n : ℕ) → at ≡ 2 + 39 * n
    → ((k : ℕ) → k < c → length_at (at + 39 * k) b ≡ 0) → (k : ℕ) → k < c → length_at (2 + 39 * (n + k)) b ≡ 0
idle_rows {at} b n ea z k l =
    let q : 2 + 39 * (n + k) + 3 ≡ at + 39 * k + 3 = omega arith in ap (λ (i : ℕ). get_or b i 0) q ∙ z k l

pub idle_row : {at : ℕ} (b : List ℕ) (n : ℕ) → at ≡ 2 + 39 * n → length_at at b ≡ 0 → (k : ℕ) → k < 1
    → length_at (2 + 39 * (n + k)) b ≡ 0
idle_row {at} b n ea z k l = let q : 2 + 39 * (n + k) + 3 ≡ at + 3 = omega arith in ap (λ (i : ℕ). get_or b i 0) q ∙ z

module _ {h : Head} {routes : List (List ℕ)} {joints homes : List ℕ} (w : Wiring h routes joints homes) where
  abbrev pl : Plan
  pl = table_plan h routes joints

  pub is_queue : {n : ℕ} → n < queue_count h → n < queues pl
  unfolding table_plan queues
  is_queue l = omega arith

  queue_is : {n : ℕ} → n < queues pl → n < queue_count h
  unfolding table_plan queues
  queue_is l = omega arith

  pub output_is : {m : ℕ} → m < outputs pl → m < output_count h
  unfolding table_plan
  output_is l = omega arith

  few : queue_count h ≤ 512
  few =
      let r = w.range.routers.1 in
      let a = w.range.actives.1 in
      let p = w.range.passives.1 in
      omega arith

  pub row_room : {I : State → Type 0} {n at : ℕ} {b : List ℕ} → n < queue_count h → at ≡ 2 + 39 * n → Holds pl I b
      → at + 39 ≤ length b
  row_room {I} {n} {at} {b} l ea k =
      let hn = is_queue l in
      rw (ea, ← row_at_lem pl n hn)
      (queue_room pl k.state k.rest b k.same (queue_at pl n) (exists_at pl n hn))

  -- ---- a head that may leave
  module _ (m : ℕ) {n : ℕ} {b : List ℕ} (hn : n < queue_count h)
      (eo : output_of (queue_at pl n) ≡ some (output_at pl m))
      (k : Holds pl (Leaves pl n) b) {x : Packet} (ex : x ≡ packet_at (2 + 39 * n + 4) b) where
    goes : Going w.wired (range_of w) m n b k.state
    goes = going w.wired (range_of w) m n k.state k.rest b (is_queue hn) eo k.fit k.same

    pub next_asks : (x.active < h.actives) × (x.passive < h.passives) × AtUnit pl (output_at pl m) x (n + 4)
    unfolding table_plan
    next_asks =
        let g = goes in
        let e : x ≡ g.head = ex ∙ g.read in
        let f = subst (Belongs pl (leaves_from (queue_at pl n))) (sym e) g.belongs in
        (f.ranges.active, f.ranges.passive, onward_at w.wired (output_at pl m) n (is_queue hn) eo f)

    module _ {v : ℕ} (ev : v ≡ number_or pl (next_by pl (output_at pl m) x)) where
      onto : v ≡ number pl goes.onto
      onto = onto_number w.wired (range_of w) m n b k.state goes ex ev

      pub onto_asks : v < 65535
      onto_asks =
          let q = queue_is (number_below pl goes.onto goes.there) in
          let f = few in
          let o = onto in
          omega arith

      pub onto_room : {at : ℕ} → at ≡ 2 + 39 * v → at < length b
      onto_room {at} ea =
          let e : at ≡ queue_row pl goes.onto = onto_row w.wired (range_of w) m n b k.state goes onto ea in
          let q = queue_room pl k.state k.rest b k.same goes.onto goes.there in
          omega arith

  -- ---- senders
  pub sends_asks : {m n c k : ℕ} {unit : Bool} → Sends pl m n c unit → k < c
      → (m < output_count h) × (n + k < queue_count h) × (n + k < 512)
  sends_asks ss l =
      let q = few in
      let z = queue_is (less ss l) in
      (output_is ss.drives, z, omega arith)
    where
      less : {m n c k : ℕ} {unit : Bool} → Sends pl m n c unit → k < c → n + k < queues pl
      less ss l = let f = ss.few in omega arith

  pub output_asks : {m n c : ℕ} {unit : Bool} → Sends pl m n c unit → Counts h × (m ≤ 65535)
  output_asks ss =
      let o = output_is ss.drives in
      let r = w.range.routers.1 in
      let a = w.range.actives.1 in
      let p = w.range.passives.1 in
      (counts_of w, omega arith)

  pub choice_small : {m n c at : ℕ} {unit : Bool} → Sends pl m n c unit → at ≡ outputs_from h + 7 * m → at < 65536
  choice_small ss ea =
      let o = output_is ss.drives in
      let r = w.range.routers.1 in
      let a = w.range.actives.1 in
      let p = w.range.passives.1 in
      omega arith

  pub choice_row : {m at : ℕ} → m < outputs pl → at ≡ outputs_from h + 7 * m → at ≡ output_row pl (output_at pl m)
  unfolding table_plan
  choice_row {m} hm ea = ea ∙ ap (λ (i : ℕ). i + 7 * m) (sym (outputs_at_lem pl)) ∙ sym (output-row-at pl m hm)

  pub choice_room : {I : State → Type 0} {m at : ℕ} {b : List ℕ} → m < outputs pl → at ≡ outputs_from h + 7 * m
      → Holds pl I b → at + 6 < length b
  choice_room {I} {m} {at} {b} hm ea k =
      let e = choice_row hm ea in
      let q = output_room pl k.state k.rest b k.same (output_at pl m) (drives_at pl m hm) in
      omega arith

  -- ---- the byte of the last sender served
  turn_row_lem : {m at : ℕ} → m < outputs pl → at ≡ turns_from h + m → at ≡ turn_row pl (output_at pl m)
  unfolding table_plan
  turn_row_lem {m} hm ea = ea ∙ ap (λ (i : ℕ). i + m) (sym (turns_at_lem pl)) ∙ sym (turn-row-at pl m hm)

  pub turn_room : {I : State → Type 0} {m at : ℕ} {b : List ℕ} → m < outputs pl → at ≡ turns_from h + m
      → Holds pl I b → at < length b
  turn_room {I} {m} {at} {b} hm ea k =
      let e = turn_row_lem hm ea in
      let q = turn-byte-room pl k.state k.rest b k.same (output_at pl m) (drives_at pl m hm) in
      omega arith

  pub turn_tells : {m at last : ℕ} {b : List ℕ} → m < outputs pl → at ≡ turns_from h + m → last ≡ get_or b at 0
      → Tells pl (Core pl) (λ s. s.last_sender (output_at pl m)) b last
  turn_tells {m} {at} {last} {b} hm ea el =
      record {
        told = λ s rest c e.
            el ∙ ap (λ (i : ℕ). get_or b i 0) (turn_row_lem hm ea)
            ∙ last_sender_at pl s rest b e (output_at pl m) (drives_at pl m hm);
      }

  -- ---- an open output's pick, told of all states
  pub holds_open : {n m : ℕ} {b : List ℕ} → m ≡ n
      → ((s : State) (rest : List ℕ) → Picks pl n s → b ≡ encode pl s rest → Open pl n s) → Holds pl (Picks pl n) b
      → Holds pl (Open pl m) b
  holds_open em f k = rw em (holds_by pl f k)

  pub steps_open : {n m : ℕ} {b c : List ℕ} → m ≡ n
      → ((s : State) (rest : List ℕ) → Picks pl n s → b ≡ encode pl s rest → Open pl n s)
      → Steps pl (Open pl m) (chooses pl m) b c → Steps pl (Picks pl n) (chooses pl n) b c
  steps_open em f x = steps_by pl f (rw em at x)

  -- ---- a router's outputs
  module _ {r : ℕ} (hr : r < h.routers) where
    abbrev first : ℕ
    first = destinations h + 6 * r

    pub side_sends : {o n m : ℕ} → o < 4 → n ≡ destinations h + 28 * r → m ≡ first
        → Sends pl (m + o) (n + 8 + 5 * o) 5 false
    unfolding table_plan
    side_sends {o} ho en em = rw (en, em) (sends_side pl r o (is_router w hr) ho)

    pub up_sends : {n m : ℕ} → n ≡ destinations h + 28 * r → m ≡ first → Sends pl (m + 4) n 4 false
    unfolding table_plan
    up_sends en em = rw (en, em) (sends_up pl r (is_router w hr))

    pub down_sends : {n m : ℕ} → n ≡ destinations h + 28 * r → m ≡ first → Sends pl (m + 5) (n + 4) 4 true
    unfolding table_plan
    down_sends en em = rw (en, em) (sends_down pl r (is_router w hr))

    pub base_asks : Counts h × (r ≤ 256)
    base_asks = let m = w.range.routers.1 in (counts_of w, omega arith)

    -- the rows of four of its queues
    four_room : {I : State → Type 0} (n : ℕ) {at : ℕ} {b : List ℕ} → n + 4 ≤ destinations h + 28 * h.routers
        → at ≡ 2 + 39 * n → Holds pl I b → (at + 156 ≤ length b) × (at < 65536)
    four_room {I} n {at} {b} l ea k =
        let q : n + 3 < queue_count h = omega arith in
        let e = row_room {n = n + 3} q refl k in
        let f = few in
        (omega arith, omega arith)

    pub up_room : {I : State → Type 0} {n at : ℕ} {b : List ℕ} → n ≡ destinations h + 28 * r → at ≡ 2 + 39 * n
        → Holds pl I b → (at + 156 ≤ length b) × (at < 65536)
    up_room {n = n} en ea k = four_room n (omega arith) ea k

    pub side_rows : {I : State → Type 0} {o n at : ℕ} {b : List ℕ} → o < 4 → n ≡ destinations h + 28 * r
        → at ≡ 2 + 39 * (n + 8 + 5 * o) → Holds pl I b → (at + 195 ≤ length b) × (at < 65536)
    side_rows {o = o} {n = n} {at = at} ho en ea k =
        let q : n + 8 + 5 * o + 4 < queue_count h = omega arith in
        let e = row_room {n = n + 8 + 5 * o + 4} q refl k in
        let f = few in
        (omega arith, omega arith)

    -- Q's row
    pub q_room : {I : State → Type 0} {n at : ℕ} {b : List ℕ} → n ≡ destinations h + 28 * r → at ≡ 2 + 39 * (n + 4)
        → Holds pl I b → (at + 156 ≤ length b) × (at < 65536)
    q_room {n = n} en ea k = four_room (n + 4) (omega arith) ea k

    side_is : (o : ℕ) → o < 4 → output_at pl (first + o) ≡ of_side r o
    unfolding table_plan output_number
    side_is o ho = output_at_lem pl (of_side r o) (is_router w hr, ho)

    drives_side : (o : ℕ) → o < 4 → first + o < outputs pl
    unfolding table_plan
    drives_side o ho = omega arith

    -- the current slot
    pub slot_small : (o : ℕ) {t : ℕ} {b : List ℕ} → Holds pl (Picks pl (first + o)) b → t ≡ get_or b 1 0 → t < 32
    unfolding table_plan
    slot_small o {b = b} k et =
        let c = k.fit.core.slot in
        let e = slot_at pl k.state k.rest b k.same in
        let m = w.range.slots.1 in
        omega arith

    pub side_asks : {o t : ℕ} {b : List ℕ} → o < 4 → Holds pl (Picks pl (first + o)) b → t ≡ get_or b 1 0
        → Counts h × (r ≤ 16) × (o ≤ 4) × (t ≤ 32)
    side_asks {o} ho k et =
        let s = slot_small o k et in
        let a = w.range.routers.1 in
        (counts_of w, omega arith, omega arith, omega arith)

    pub side_room : {o t at : ℕ} {b : List ℕ} → o < 4 → Holds pl (Picks pl (first + o)) b → t ≡ get_or b 1 0
        → at ≡ table_from h + 2 * (128 * r + 32 * o + t) → at < length b
    side_room {o} {t} {at} {b} ho k et ea =
        let s = slot_small o k et in
        let e = entry_is h routes joints r o t ea in
        let q = entry_room pl k.state k.rest b k.same r o t (is_router w hr) ho s in
        omega arith

    -- its entry for that slot
    entry_now : {o t at : ℕ} {b : List ℕ} → o < 4 → t < 32 → t ≡ get_or b 1 0
        → at ≡ table_from h + 2 * (128 * r + 32 * o + t) → (s : State) (rest : List ℕ) → b ≡ encode pl s rest
        → is_open s (output_at pl (first + o)) ≡ eqb (get_or b at 0) 0
    entry_now {o} {t} {at} {b} ho ht et ea s rest e =
        ap (is_open s) (side_is o ho)
        ∙ ap (λ (u : ℕ). is_free (s.table r o u)) (sym (slot_at pl s rest b e) ∙ sym et)
        ∙ ap is_free (sym (entry_at_lem pl s rest b e r o t (is_router w hr) ho ht))
        ∙ ap (λ (i : ℕ). is_free (entry_at i b)) (sym (entry_is h routes joints r o t ea)) ∙ free_byte (get_or b at 0)

    -- a free one: the side is open; a booked one: it is not
    pub side_open : {o t at : ℕ} {b : List ℕ} → o < 4 → t < 32 → t ≡ get_or b 1 0
        → at ≡ table_from h + 2 * (128 * r + 32 * o + t) → get_or b at 0 ≡ 0 → (s : State) (rest : List ℕ)
        → Picks pl (first + o) s → b ≡ encode pl s rest → Open pl (first + o) s
    side_open {at = at} {b = b} ho ht et ea z s rest p e =
        record { picks = p; opens = entry_now ho ht et ea s rest e ∙ eq-eqb (get_or b at 0) 0 z }

    pub side_shut : {o t at : ℕ} {b : List ℕ} → o < 4 → t < 32 → t ≡ get_or b 1 0
        → at ≡ table_from h + 2 * (128 * r + 32 * o + t) → (get_or b at 0 ≡ 0 → ⊥)
        → Steps pl (Picks pl (first + o)) (chooses pl (first + o)) b b
    side_shut {o} {at = at} {b = b} ho ht et ea n =
        steps_closed w.wired (range_of w) (first + o) (drives_side o ho)
        (λ s rest p e. entry_now ho ht et ea s rest e ∙ ne_eqb (get_or b at 0) 0 n)

    -- the ways to the unit and back are always open
    up_is : output_at pl (first + 4) ≡ to_unit r
    unfolding table_plan output_number
    up_is = output_at_lem pl (to_unit r) (is_router w hr)

    pub up_open : {b : List ℕ} (s : State) (rest : List ℕ) → Picks pl (first + 4) s → b ≡ encode pl s rest
        → Open pl (first + 4) s
    up_open s rest p e = record { picks = p; opens = ap (is_open s) up_is }

    down_is : output_at pl (first + 5) ≡ from_unit r
    unfolding table_plan output_number
    down_is = output_at_lem pl (from_unit r) (is_router w hr)

    pub down_open : {b : List ℕ} (s : State) (rest : List ℕ) → Picks pl (first + 5) s → b ≡ encode pl s rest
        → Open pl (first + 5) s
    down_open s rest p e = record { picks = p; opens = ap (is_open s) down_is }

  -- ---- an interface's output
  pub interface_sends : (m : ℕ) → m < destinations h → Sends pl m m 1 false
  unfolding table_plan
  interface_sends m l = sends_interface pl m l

  pub interface_room : {I : State → Type 0} {m at : ℕ} {b : List ℕ} → m < destinations h → at ≡ 2 + 39 * m
      → Holds pl I b → at + 39 ≤ length b
  interface_room {m = m} l ea k = let q : m < queue_count h = omega arith in row_room q ea k

  pub interface_open : {m : ℕ} {b : List ℕ} → m < destinations h → (s : State) (rest : List ℕ) → Picks pl m s
      → b ≡ encode pl s rest → Open pl m s
  unfolding table_plan output_at
  interface_open {m} l s rest p e = by (lt_or_ge m h.actives)
    where
      by : (m < h.actives) ⊎ (h.actives ≤ m) → Open pl m s
      by (inl a) = record { picks = p; opens = rw (lt-ltb m h.actives a) }
      by (inr g) = record { picks = p; opens = rw (le-ltb m h.actives g, lt-ltb m (destinations h) l) }
