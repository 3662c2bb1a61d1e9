-- What the check of the queues' rows gives: whether each passes, and what their packets have spent.
use Rattle.std.specs.Prelude.{◌≡◌, Bool, true, List, ℕ, ◌+◌, ◌*◌, ◌-◌, ◌%◌, ◌≤◌, ◌<◌, leb, ltb, get_or, replicate}
use Rattle.basis.specs.Choice.{pick, also}
use Rattle.basis.specs.Bounded.{all_below}
use Rattle.basis.specs.Fold.{up_to, fill}
use Rattle.plan.specs.declared.Head.{Head}
use Rattle.plan.specs.Plan.{Plan}
use Rattle.plan_queues.specs.Queue.{Queue, queue_at, queues}
use Rattle.plan_queues.specs.Feeds.{head_place}
use Rattle.rules.specs.Valid.{sum, in_all, spends, on_wires}
use Rattle.valid.specs.Test.{belongs_test}
use Rattle.bytes_layout.specs.Offsets.{packet_kind, packet_width}
use Rattle.bytes_layout.specs.Places.{packet_at}
use Rattle.bytes_layout.specs.Decode.{decode}
use Rattle.check_rule.specs.Check.{queue_row_test, queues_part}
use Rattle.check_idle.specs.Bytes.{IdleRow}
use Rattle.check_frames.specs.Frame.{of_head}
use Rattle.check_frames.specs.Tally.{Tallied}

-- the k-th place from i on: a packet of one of four kinds that belongs there
unfoldable pub place_test : Plan → Queue → Bool → ℕ → List ℕ → ℕ → Bool
place_test pl q done i b k =
    also (leb (get_or b (i + packet_width * k + packet_kind) 0) 3)
    (belongs_test pl (head_place (of_head done k) q) (packet_at (i + packet_width * k) b))

-- the first n places
unfoldable pub places_test : Plan → Queue → Bool → ℕ → ℕ → List ℕ → Bool
places_test pl q done n i b = all_below n (place_test pl q done i b)

-- the packets of one place, of n places
pub record PlaceChecked (pl : Plan) (q : Queue) (done : Bool) (i : ℕ) (b : List ℕ) (k : ℕ) (r : Bool) (t u : List ℕ)
    : Type 0 where
  pub test : r ≡ place_test pl q done i b k
  pub count : r ≡ true → Tallied (λ a. spends a (packet_at (i + packet_width * k) b)) t u

pub record PlacesChecked (pl : Plan) (q : Queue) (done : Bool) (n i : ℕ) (b : List ℕ) (r : Bool) (t u : List ℕ)
    : Type 0 where
  pub test : r ≡ places_test pl q done n i b
  pub count : r ≡ true → Tallied (λ a. sum n (λ k. spends a (packet_at (i + packet_width * k) b))) t u

-- what the packets of queue n have spent
abbrev pub spent_in : Plan → List ℕ → ℕ → ℕ → ℕ
spent_in pl b a n = in_all (spends a) ((decode pl b).lines.queue (queue_at pl n))

-- queue n
pub record RowChecked (pl : Plan) (b : List ℕ) (n : ℕ) (r : Bool) (t u : List ℕ) : Type 0 where
  pub test : r ≡ queue_row_test pl b (queue_at pl n)
  pub count : r ≡ true → Tallied (λ a. spent_in pl b a n) t u

-- the queues from `from` on, m of them
pub record RowsChecked (pl : Plan) (b : List ℕ) (from m : ℕ) (r : Bool) (t u : List ℕ) : Type 0 where
  pub test : r ≡ all_below m (λ k. queue_row_test pl b (queue_at pl (from + k)))
  pub count : r ≡ true → Tallied (λ a. sum m (λ k. spent_in pl b a (from + k))) t u

-- coming says of each queue how many packets are on wires that lead to it
abbrev pub Coming : Plan → List ℕ → List ℕ → Type 0
Coming pl b coming =
    (n : ℕ) → n < queues pl → get_or coming n 0 ≡ on_wires pl (queue_at pl n) (decode pl b)

-- the row of queue n is idle, and w, what is on the way to it, is nothing
abbrev pub Rests : List ℕ → ℕ → ℕ → ℕ → Type 0
Rests b n cap w = (w ≡ 0) × IdleRow b (2 + 39 * n) cap

-- of m queues from `from` on, those from the k-th to before the j-th rest
pub record Skipped (b coming caps : List ℕ) (from k m j : ℕ) : Type 0 where
  pub first : k ≤ j
  pub last : j ≤ m
  pub rest : (i : ℕ) → k ≤ i → i < j → Rests b (from + i) (get_or caps i 0) (get_or coming (from + i) 0)

-- the capacities of a router's queues: U, Q, and for each side F and three K
unfoldable pub cap_in : Head → ℕ → ℕ
cap_in h k =
    pick (ltb k 4) h.u.0 (pick (ltb k 8) h.q.0 (pick (ltb ((k - 8) % 5) 2) h.f.0 h.k.0))

unfoldable pub router_caps : Head → List ℕ
router_caps h = up_to (fill (cap_in h)) 28 (replicate 28 0)

-- all queues
pub record LinesChecked (pl : Plan) (b : List ℕ) (r : Bool) (t u : List ℕ) : Type 0 where
  pub test : r ≡ queues_part pl b
  pub count : r ≡ true → Tallied (λ a. sum (queues pl) (λ n. spent_in pl b a n)) t u
