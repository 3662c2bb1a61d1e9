-- What the check of rows gives, turn by turn: the code's ways out and its loops.
use mathlib.Core.Path.{◌≡◌, refl, sym, ap, ◌∙◌}
use mathlib.Core.Logic.{◌⊎◌, inl, inr}
use mathlib.Core.Bool.{Bool, true, false, false≢true}
use mathlib.Core.List.{List}
use Prim.Native.Nat.{ℕ, zero, suc, ◌+◌, ◌*◌, ◌-◌, ◌≤◌, ◌<◌}
use native.Mathlib.Numerals.{add-one}
use native.Mathlib.Omega.{arith}
use lib.Dec.{ltb, leb, eqb}
use lib.ListN.{get_or}
use borrow.Author.Tests.{ltb-true, leb-true, le-leb, lt-leb}
use Rattle.std.specs.Bool.{⊤}
use Rattle.std.specs.Option.{MatchOption, IfSome, unwrap_or}
use Rattle.std.specs.declared.option.Option.{Option}
use Rattle.std.specs.declared.option.Option.TheVariants.{None, Some}
use Rattle.basis.specs.Choice.{also, also_true, same_test, refuted}
use Rattle.basis.specs.Bounded.{all_below, all_none, all_more, all_fail, all_done, all_at, all_of, all_same, lt_or_ge}
use Rattle.packets.specs.declared.Packet.{Packet}
use Rattle.plan.specs.declared.Head.{Head}
use Rattle.plan.specs.Head.{InRange}
use Rattle.plan.specs.Tables.{table_plan}
use Rattle.plan.specs.Plan.{Plan, A, P, S}
use Rattle.plan_walks.specs.Served.{served}
use Rattle.plan_queues.specs.Queue.{Queue, Exists, queue_at, queues}
use Rattle.plan_queues.specs.Feeds.{head_place}
use Rattle.rules.specs.Valid.{PacketOk, sum, spends}
use Rattle.valid.specs.Test.{packet_test, fits_test, belongs_test}
use Rattle.bytes_layout.specs.Offsets.{packet_width}
use Rattle.bytes_layout.specs.Places.{packet_at}
use Rattle.check_places.specs.Asked.{Asked}
use Rattle.check_queues.specs.Ready.{Ready}
use Rattle.check_frames.specs.Tally.{tallied, Tallied}
use Rattle.check_frames.specs.Frame.{of_head}
use Rattle.check_queues.specs.Lines.{place_test, places_test, PlaceChecked, PlacesChecked, RowChecked, RowsChecked}
use Rattle.check_queues.specs.Lines.{spent_in, Rests, Skipped, Coming}
use Rattle.plan_queues.specs.Role.{is_unit}
use Rattle.rules.specs.Capacity.{capacity}
use Rattle.rules.specs.Valid.{fed, on_wires, in_all}
use Rattle.rules.proofs.Numbers.{exists_at, at_number}
use Rattle.bytes_layout.specs.Offsets.{queue_row}
use Rattle.bytes_layout.specs.Codes.{flag_of}
use Rattle.bytes_layout.specs.Decode.{decode, capacity_most}
use Rattle.bytes_steps.specs.Counts.{queue_count}
use Rattle.check_rule.specs.Forms.{zeros}
use Rattle.check_rule.specs.Check.{queue_row_test}
use Rattle.check_rule.proofs.Quiet.{zeros_row}
use Rattle.check_idle.specs.Bytes.{IdleRow}
use Rattle.check_frames.specs.Frame.{frame_of, fed_of, unit_of}
use Rattle.check_frames.proofs.Frames.{frame_few, fed_law, unit_law}
use Rattle.check_queues.proofs.Rowed.{row_law, row_spent}
use Rattle.check_queues.proofs.Lined.{sum_like}
use Rattle.check_frames.proofs.Tallies.{tallied_none, tallied_then, tallied_like, tallied_one}

-- a packet whose numbers pass
pub numbers_ok : (pl : Plan) (x : Packet) (more : Bool) → also (packet_test pl x) more ≡ true → PacketOk pl x
unfolding packet_test
numbers_ok pl x more e =
    let t = (also_true {a = packet_test pl x} {b = more} e).0 in
    let a = also_true {a = ltb x.active (A pl)} {b = _} t in
    let p = also_true {a = ltb x.passive (P pl)} {b = _} a.1 in
    let s = also_true {a = ltb x.slot.0 (S pl)} {b = leb x.hub.0 16} p.1 in
    record {
      active = ltb-true x.active (A pl) a.0;
      passive = ltb-true x.passive (P pl) p.0;
      slot = ltb-true x.slot.0 (S pl) s.0;
      hub = leb-true x.hub.0 16 s.1;
    }

-- what the place test is asked with, for a packet that passes
pub asking : {h : Head} {routes : List (List ℕ)} {joints homes : List ℕ} {lengths by up : List (List ℕ)}
    → Ready h routes joints homes lengths by up → (x : Packet)
    → also (packet_test (table_plan h routes joints) x) (served (table_plan h routes joints) x.active x.passive)
    ≡ true
    → Asked h h.actives (h.actives + h.passives) (28 * h.routers) routes joints homes lengths by up x.active
    x.passive
asking {h} {routes} {joints} r x e =
    let ok = numbers_ok (table_plan h routes joints) x _ e in
    record {
      lent = r.lent;
      tracks = r.tracks;
      counts = (refl, refl, refl);
      active = ok.active;
      passive = ok.passive;
      serves = (also_true {a = packet_test (table_plan h routes joints) x} {b = _} e).1;
    }

-- ---- one place
module _ (pl : Plan) (q : Queue) (done : Bool) (i : ℕ) (b : List ℕ) (k : ℕ) (t u : List ℕ) where
  abbrev at : ℕ
  at = i + packet_width * k

  abbrev here : Packet
  here = packet_at at b

  abbrev fits : Bool
  fits =
      fits_test pl here.kind here.active here.passive here.hub.0 (head_place (of_head done k) q)

  -- the kind's byte stands at the place
  kind_at : at + 0 ≡ at
  kind_at = omega arith

  none : {x : Bool} → false ≡ x → false ≡ true → Tallied (λ a. spends a here) t u
  none e f = absurd (false≢true f)

  pub place_kind : 3 < get_or b at 0 → PlaceChecked pl q done i b k false t u
  unfolding place_test
  place_kind l =
      record { test = rw (kind_at, lt-leb (get_or b at 0) 3 l); count = λ f. absurd (false≢true f) }

  pub place_numbers : {r : Bool} → get_or b at 0 ≤ 3 → r ≡ also (packet_test pl here)
      (served pl here.active here.passive)
      → r ≡ false → PlaceChecked pl q done i b k false t u
  unfolding place_test belongs_test
  place_numbers l e f =
      record {
        test = rw (kind_at, le-leb (get_or b at 0) 3 l) (sym (lost (packet_test pl here)
            (served pl here.active here.passive) fits (sym e ∙ f)));
        count = λ g. absurd (false≢true g);
      }
    where
      lost : (x y z : Bool) → also x y ≡ false → also x (also y z) ≡ false
      lost true true z g = absurd (false≢true (sym g))
      lost true false z g = refl
      lost false y z g = refl

  pub place_misfit : {r s : Bool} → get_or b at 0 ≤ 3
      → r ≡ also (packet_test pl here) (served pl here.active here.passive) → r ≡ true → s ≡ fits → s ≡ false
      → PlaceChecked pl q done i b k false t u
  unfolding place_test belongs_test
  place_misfit l e f g h =
      record {
        test =
            let p = also_true {a = packet_test pl here} {b = served pl here.active here.passive} (sym e ∙ f) in
            rw (kind_at, le-leb (get_or b at 0) 3 l, p.0, p.1, ← g, h);
        count = λ x. absurd (false≢true x);
      }

  pub place_done : {r s : Bool} → get_or b at 0 ≤ 3
      → r ≡ also (packet_test pl here) (served pl here.active here.passive) → r ≡ true → s ≡ fits → s ≡ true
      → here.active < 16 → u ≡ tallied here t → PlaceChecked pl q done i b k true t u
  unfolding place_test belongs_test
  place_done l e f g h m c =
      record {
        test =
            let p = also_true {a = packet_test pl here} {b = served pl here.active here.passive} (sym e ∙ f) in
            rw (kind_at, le-leb (get_or b at 0) 3 l, p.0, p.1, ← g, h);
        count = λ x. rw c (tallied_one here t m);
      }

-- ---- all places of a queue
module _ (pl : Plan) (q : Queue) (done : Bool) (i : ℕ) (b : List ℕ) (t : List ℕ) where
  abbrev spent_at : ℕ → ℕ → ℕ
  spent_at a k = spends a (packet_at (i + packet_width * k) b)

  -- what the loop keeps
  pub record Seen (k : ℕ) (u : List ℕ) : Type 0 where
    pub tests : all_below k (place_test pl q done i b) ≡ true
    pub counts : Tallied (λ a. sum k (spent_at a)) t u

  pub seen_none : Seen 0 t
  unfolding sum
  seen_none = record { tests = all_none (place_test pl q done i b); counts = tallied_none t }

  pub seen_more : (k : ℕ) {r : Bool} {u v : List ℕ} → Seen k u → PlaceChecked pl q done i b k r u v → r ≡ true
      → Seen (k + 1) v
  unfolding sum
  seen_more k {r} s c e =
      record {
        tests = all_more (place_test pl q done i b) k s.tests c.test e;
        counts = rw add-one (tallied_then s.counts (c.count e));
      }

  pub seen_fail : (n k : ℕ) {r : Bool} {u v : List ℕ} → k < n → PlaceChecked pl q done i b k r u v → r ≡ false
      → PlacesChecked pl q done n i b false t v
  unfolding places_test
  seen_fail n k l c e =
      record {
        test = sym (all_fail (place_test pl q done i b) n k l c.test e);
        count = λ f. absurd (false≢true f);
      }

  pub seen_done : (n : ℕ) {k : ℕ} {u : List ℕ} → Seen k u → k ≡ n → PlacesChecked pl q done n i b true t u
  unfolding places_test
  seen_done n s e =
      record {
        test = sym (all_done (place_test pl q done i b) s.tests e);
        count = λ f. rw (← e) s.counts;
      }

-- ---- rows
module _ (pl : Plan) (b : List ℕ) (from : ℕ) (t : List ℕ) where
  abbrev row_at : ℕ → Bool
  row_at k = queue_row_test pl b (queue_at pl (from + k))

  pub rows_none : RowsChecked pl b from 0 true t t
  unfolding sum
  rows_none = record { test = sym (all_none row_at); count = λ e. tallied_none t }

  pub rows_more : (k : ℕ) {r : Bool} {u v : List ℕ} → RowsChecked pl b from k true t u
      → RowChecked pl b (from + k) r u v → r ≡ true → RowsChecked pl b from (k + 1) true t v
  unfolding sum
  rows_more k s c e =
      record {
        test = sym (all_more row_at k (sym s.test) c.test e);
        count = λ f. rw add-one (tallied_then (s.count refl) (c.count e));
      }

  pub rows_fail : (n k : ℕ) {r : Bool} {u v : List ℕ} → k < n → RowChecked pl b (from + k) r u v → r ≡ false
      → RowsChecked pl b from n false t v
  rows_fail n k l c e =
      record { test = sym (all_fail row_at n k l c.test e); count = λ f. absurd (false≢true f) }

  pub rows_done : (n : ℕ) {k : ℕ} {u : List ℕ} → RowsChecked pl b from k true t u → k ≡ n
      → RowsChecked pl b from n true t u
  rows_done n s e = rw (← e) s

  -- d rows that leave the count as it is
  pub rows_rest : (k d : ℕ) {u : List ℕ} → RowsChecked pl b from k true t u
      → ((i : ℕ) → k ≤ i → i < k + d → RowChecked pl b (from + i) true u u) → RowsChecked pl b from (k + d) true t u
  rows_rest k zero s f = rows_done (k + 0) s (omega arith)
  rows_rest k (suc d) s f =
      rows_done (k + suc d) (rows_more (k + d) (rows_rest k d s (λ i l m. f i l (omega arith)))
      (f (k + d) (omega arith) (omega arith)) refl) (omega arith)

-- ---- rows that rest, as the code finds them
module _ (b coming caps : List ℕ) (from k m : ℕ) where
  abbrev Resting : ℕ → Type 0
  Resting i = Rests b (from + i) (get_or caps i 0) (get_or coming (from + i) 0)

  pub skip_found : k ≤ m → (o : Option ℕ)
      → MatchOption o ((i : ℕ) → k ≤ i → i < m → Resting i)
      (λ j. (k ≤ j) × (j < m) × ⊤ × ((i : ℕ) → k ≤ i → i < j → Resting i))
      → Skipped b coming caps from k m (unwrap_or o m) × IfSome o (λ j. j < m)
  skip_found l None h = (record { first = l; last = omega arith; rest = h }, tt)
  skip_found l (Some j) h = (record { first = h.0; last = omega (arith, h.1); rest = h.3 }, h.1)

-- ---- two stretches, one behind the other
all_split : (f : ℕ → Bool) (m n : ℕ) → all_below m f ≡ true → all_below (m + n) f ≡ all_below n (λ k. f (m + k))
all_split f m n e =
    same_test (all_below (m + n) f) (all_below n (λ k. f (m + k)))
    (λ g. all_of n (λ k. f (m + k)) (λ k l. all_at (m + n) f g (m + k) (omega arith)))
    (λ g. all_of (m + n) f (λ k l. by g k l (lt_or_ge k m)))
  where
    by : all_below n (λ k. f (m + k)) ≡ true → (k : ℕ) → k < m + n → (k < m) ⊎ (m ≤ k) → f k ≡ true
    by g k l (inl x) = all_at m f e k x
    by g k l (inr x) =
        let q : m + (k - m) ≡ k = omega arith in
        rw q at (all_at n (λ j. f (m + j)) g (k - m) (omega arith))

sum_split : (f : ℕ → ℕ) (m n : ℕ) → sum (m + n) f ≡ sum m f + sum n (λ k. f (m + k))
unfolding sum
sum_split f m zero = let q : m + 0 ≡ m = omega arith in rw q (omega arith)
sum_split f m (suc n) =
    let q : m + suc n ≡ suc (m + n) = omega arith in
    let e = sum_split f m n in
    rw q (omega arith)

module _ (pl : Plan) (b : List ℕ) (from m n : ℕ) where
  further : (k : ℕ) → from + (m + k) ≡ from + m + k
  further k = omega arith

  pub rows_join : {t u v : List ℕ} {r : Bool} → RowsChecked pl b from m true t u → RowsChecked pl b (from + m) n r u v
      → RowsChecked pl b from (m + n) r t v
  rows_join x y =
      record {
        test =
            y.test
            ∙ all_same n (λ k. queue_row_test pl b (queue_at pl (from + m + k)))
            (λ k. queue_row_test pl b (queue_at pl (from + (m + k))))
            (λ k l. ap (λ (j : ℕ). queue_row_test pl b (queue_at pl j)) (sym (further k)))
            ∙ sym (all_split (λ k. queue_row_test pl b (queue_at pl (from + k))) m n (sym x.test));
        count = λ e.
            tallied_like (λ a l.
            ap (λ (j : ℕ). sum m (λ k. spent_in pl b a (from + k)) + j)
            (sum_like n (λ k. spent_in pl b a (from + m + k)) (λ k. spent_in pl b a (from + (m + k)))
            (λ k h. ap (λ (j : ℕ). spent_in pl b a j) (sym (further k))))
            ∙ sym (sum_split (λ k. spent_in pl b a (from + k)) m n))
            (tallied_then (x.count refl) (y.count e));
      }

  -- the first stretch fails, so all do
  pub rows_lost : {t u : List ℕ} → RowsChecked pl b from m false t u → RowsChecked pl b from (m + n) false t u
  rows_lost x =
      record {
        test = sym (refuted (all_below (m + n) (λ k. queue_row_test pl b (queue_at pl (from + k))))
            (λ g. false≢true (x.test ∙ all_of m (λ k. queue_row_test pl b (queue_at pl (from + k)))
            (λ k l. all_at (m + n) (λ k. queue_row_test pl b (queue_at pl (from + k))) g k (omega arith)))));
        count = λ e. absurd (false≢true e);
      }

-- ---- one row
module _ (pl : Plan) (range : InRange pl.head) (b : List ℕ) (n : ℕ) (l : n < queues pl) (t u : List ℕ) where
  abbrev q : Queue
  q = queue_at pl n

  abbrev i : ℕ
  i = 2 + 39 * n

  abbrev m : ℕ
  m = get_or b (i + 3) 0

  exists : Exists pl q
  exists = exists_at pl n l

  -- the row's offset by the queue's number
  pub row_at_lem : queue_row pl q ≡ i
  unfolding queue_row
  row_at_lem = ap (λ (k : ℕ). 2 + 39 * k) (at_number pl n l)

  abbrev frame_at : ℕ → Bool
  frame_at j =
      frame_of (capacity pl.head q) (fed pl q) (is_unit q) (eqb (get_or b 0 0) 1) (get_or b (j + 0) 0)
      (get_or b (j + 1) 0) (get_or b (j + 2) 0) (get_or b (j + 3) 0) (on_wires pl q (decode pl b))

  abbrev rest_at : ℕ → Bool
  rest_at j =
      also (zeros (j + 4 + 5 * get_or b (j + 3) 0) (35 - 5 * get_or b (j + 3) 0) b)
      (places_test pl q (flag_of (get_or b (j + 2) 0)) (get_or b (j + 3) 0) (j + 4) b)

  row_is : queue_row_test pl b q ≡ also (frame_at i) (rest_at i)
  row_is = row_law pl b q exists range ∙ ap (λ (j : ℕ). also (frame_at j) (rest_at j)) row_at_lem

  pub row_frame : {x : Bool} → x ≡ frame_at i → x ≡ false → RowChecked pl b n false t u
  row_frame e f = record { test = sym (row_is ∙ rw (← e, f)); count = λ g. absurd (false≢true g) }

  pub row_zeros : {x y : Bool} → x ≡ frame_at i → x ≡ true → y ≡ zeros (i + 4 + 5 * m) (35 - 5 * m) b → y ≡ false
      → RowChecked pl b n false t u
  row_zeros e f g h =
      record { test = sym (row_is ∙ rw (← e, f, ← g, h)); count = λ x. absurd (false≢true x) }

  few : {x : Bool} → x ≡ frame_at i → x ≡ true → m ≤ 7
  few e f =
      let k = frame_few (capacity pl.head q) (fed pl q) (is_unit q) (eqb (get_or b 0 0) 1) (get_or b (i + 0) 0)
      (get_or b (i + 1) 0) (get_or b (i + 2) 0) m (on_wires pl q (decode pl b)) (sym e ∙ f) in
      let c = capacity_most pl.head q range in
      omega arith

  pub row_few : {x : Bool} → x ≡ frame_at i → x ≡ true → m ≤ 7
  row_few e f = few e f

  pub row_places : {x y r : Bool} → x ≡ frame_at i → x ≡ true → y ≡ zeros (i + 4 + 5 * m) (35 - 5 * m) b → y ≡ true
      → PlacesChecked pl q (flag_of (get_or b (i + 2) 0)) m (i + 4) b r t u → RowChecked pl b n r t u
  row_places e f g h c =
      record {
        test = c.test ∙ sym (row_is ∙ rw (← e, f, ← g, h));
        count = λ x. tallied_like
            (λ a k. ap (λ (j : ℕ). sum (get_or b (j + 3) 0) (λ d. spends a (packet_at (j + 4 + 5 * d) b)))
            (sym row_at_lem)
            ∙ row_spent pl b q exists a (rw row_at_lem (few e f)))
            (c.count x);
      }

  -- an idle row
  pub row_idle : {w : ℕ} → w ≡ on_wires pl q (decode pl b) → w ≡ 0 → IdleRow b i (capacity pl.head q)
      → RowChecked pl b n true t t
  row_idle e f s =
      let z = zeros_row pl b q (rw row_at_lem s.credit) (rw row_at_lem s.rest) (sym e ∙ f) exists in
      record {
        test = sym z.0;
        count = λ x. tallied_like (λ a k. ap (in_all (spends a)) (sym z.1)) (tallied_none t);
      }

-- ---- the plan of the tables
plan_head : (h : Head) (routes : List (List ℕ)) (joints : List ℕ) → (table_plan h routes joints).head ≡ h
unfolding table_plan
plan_head h routes joints = refl

-- a plan has at most 512 queues
pub queues_few : {h : Head} → InRange h → queue_count h ≤ 512
queues_few range =
    let r = range.routers.1 in
    let a = range.actives.1 in
    let p = range.passives.1 in
    omega arith

module _ (h : Head) (routes : List (List ℕ)) (joints : List ℕ) where
  pub queue_in : (n : ℕ) → n < queue_count h → n < queues (table_plan h routes joints)
  unfolding table_plan queues
  queue_in n l = omega arith

  pub active_few : InRange h → (x : Packet) → PacketOk (table_plan h routes joints) x → x.active < 16
  unfolding table_plan
  active_few range x k = let a = range.actives.1 in let l = k.active in omega arith

  pub head_range : InRange h → InRange (table_plan h routes joints).head
  unfolding table_plan
  head_range range = range

  -- the frame that the code tested is the row's
  pub frame_is : (b : List ℕ) (n j room w : ℕ) → j ≡ 2 + 39 * n
      → room ≡ capacity h (queue_at (table_plan h routes joints) n)
      → w ≡ on_wires (table_plan h routes joints) (queue_at (table_plan h routes joints) n)
      (decode (table_plan h routes joints) b) → {r : Bool}
      → r ≡ frame_of room (fed_of h joints n) (unit_of h n) (eqb (get_or b 0 0) 1) (get_or b j 0) (get_or b (j + 1) 0)
      (get_or b (j + 2) 0) (get_or b (j + 3) 0) w
      → r ≡ frame_of (capacity (table_plan h routes joints).head (queue_at (table_plan h routes joints) n))
      (fed (table_plan h routes joints) (queue_at (table_plan h routes joints) n))
      (is_unit (queue_at (table_plan h routes joints) n)) (eqb (get_or b 0 0) 1) (get_or b (2 + 39 * n + 0) 0)
      (get_or b (2 + 39 * n + 1) 0) (get_or b (2 + 39 * n + 2) 0) (get_or b (2 + 39 * n + 3) 0)
      (on_wires (table_plan h routes joints) (queue_at (table_plan h routes joints) n)
      (decode (table_plan h routes joints) b))
  frame_is b n j room w e f g {r} x =
      let p : room ≡ capacity (table_plan h routes joints).head (queue_at (table_plan h routes joints) n) =
      f ∙ ap (λ (z : Head). capacity z (queue_at (table_plan h routes joints) n)) (sym (plan_head h routes joints)) in
      let c : j ≡ 2 + 39 * n + 0 = omega arith in
      let d : j + 1 ≡ 2 + 39 * n + 1 = omega arith in
      let k : j + 2 ≡ 2 + 39 * n + 2 = omega arith in
      let l : j + 3 ≡ 2 + 39 * n + 3 = omega arith in
      x ∙ λ y. frame_of (p y) (fed_law h routes joints n y) (unit_law h routes joints n y) (eqb (get_or b 0 0) 1)
      (get_or b (c y) 0) (get_or b (d y) 0) (get_or b (k y) 0) (get_or b (l y) 0) (g y)

  -- the ways out of the code of a row that is not idle
  module _ (range : InRange h) (b : List ℕ) (n : ℕ) (l : n < queue_count h) (j room w : ℕ) (e : j ≡ 2 + 39 * n)
      (f : room ≡ capacity h (queue_at (table_plan h routes joints) n))
      (g : w ≡ on_wires (table_plan h routes joints) (queue_at (table_plan h routes joints) n)
      (decode (table_plan h routes joints) b)) {x : Bool}
      (known : x ≡ frame_of room (fed_of h joints n) (unit_of h n) (eqb (get_or b 0 0) 1) (get_or b j 0)
      (get_or b (j + 1) 0)
      (get_or b (j + 2) 0) (get_or b (j + 3) 0) w) where
    pub code_frame : (t u : List ℕ) → x ≡ false → RowChecked (table_plan h routes joints) b n false t u
    code_frame t u v =
        row_frame (table_plan h routes joints) (head_range range) b n (queue_in n l) t u
        (frame_is b n j room w e f g known) v

    pub code_few : x ≡ true → get_or b (j + 3) 0 ≤ 7
    code_few v =
        rw e (row_few (table_plan h routes joints) (head_range range) b n (queue_in n l) b b
        (frame_is b n j room w e f g known) v)

    pub code_zeros : (t u : List ℕ) → x ≡ true → {m : ℕ} {y : Bool} → m ≡ get_or b (j + 3) 0
        → y ≡ zeros (j + 4 + 5 * m) (35 - 5 * m) b → y ≡ false → RowChecked (table_plan h routes joints) b n false t u
    code_zeros t u v k z c =
        row_zeros (table_plan h routes joints) (head_range range) b n (queue_in n l) t u
        (frame_is b n j room w e f g known) v (rw (k, e) at z) c

    pub code_places : (t u : List ℕ) → x ≡ true → {m : ℕ} {y d r : Bool} → m ≡ get_or b (j + 3) 0
        → y ≡ zeros (j + 4 + 5 * m) (35 - 5 * m) b → y ≡ true → d ≡ flag_of (get_or b (j + 2) 0)
        → PlacesChecked (table_plan h routes joints) (queue_at (table_plan h routes joints) n) d m (j + 4) b r t u
        → RowChecked (table_plan h routes joints) b n r t u
    code_places t u v k z c o s =
        row_places (table_plan h routes joints) (head_range range) b n (queue_in n l) t u
        (frame_is b n j room w e f g known) v (rw (k, e) at z) c (rw (o, k, e) at s)

  -- and of one that is
  pub idle_of : InRange h → (b : List ℕ) (n : ℕ) → n < queue_count h → (t : List ℕ) (room w : ℕ)
      → room ≡ capacity h (queue_at (table_plan h routes joints) n)
      → w ≡ on_wires (table_plan h routes joints) (queue_at (table_plan h routes joints) n)
      (decode (table_plan h routes joints) b) → Rests b n room w → RowChecked (table_plan h routes joints) b n true t t
  idle_of range b n l t room w f g s =
      row_idle (table_plan h routes joints) (head_range range) b n (queue_in n l) t t g s.0
      (record {
        credit =
            s.1.credit ∙ f
            ∙ ap (λ (z : Head). capacity z (queue_at (table_plan h routes joints) n)) (sym (plan_head h routes joints));
        rest = s.1.rest;
      })

  -- rows that the code skips are checked
  pub skipped : InRange h → (b coming caps : List ℕ) (from k m j : ℕ) → from + m ≤ queue_count h
      → ((i : ℕ) → i < m → get_or caps i 0 ≡ capacity h (queue_at (table_plan h routes joints) (from + i)))
      → Coming (table_plan h routes joints) b coming → (t u : List ℕ)
      → RowsChecked (table_plan h routes joints) b from k true t u → Skipped b coming caps from k m j
      → RowsChecked (table_plan h routes joints) b from j true t u
  skipped range b coming caps from k m j few room come t u s p =
      rows_done (table_plan h routes joints) b from t j
      (rows_rest (table_plan h routes joints) b from t k (j - k) s (λ i l n. resting i l (omega (arith, p.first))))
      (omega (arith, p.first))
    where
      resting : (i : ℕ) → k ≤ i → i < j → RowChecked (table_plan h routes joints) b (from + i) true u u
      resting i l n =
          let inside : from + i < queue_count h = omega (arith, p.last) in
          idle_of range b (from + i) inside u (get_or caps i 0) (get_or coming (from + i) 0)
          (room i (omega (arith, p.last))) (come (from + i) (queue_in (from + i) inside)) (p.rest i l n)
