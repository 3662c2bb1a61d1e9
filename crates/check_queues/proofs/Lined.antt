-- A queue's places, one after the other: their form and what belongs there, and what their packets have spent.
use mathlib.Core.Path.{◌≡◌, refl, sym, ap, ap₂, ◌∙◌}
use mathlib.Core.Logic.{◌⊎◌, inl, inr}
use mathlib.Core.Bool.{Bool, true, false}
use mathlib.Core.List.{List}
use Prim.Native.Nat.{ℕ, zero, suc, ◌+◌, ◌*◌, ◌-◌, ◌≤◌, ◌<◌}
use native.Mathlib.Omega.{arith}
use lib.Dec.{leb, eqb}
use lib.ListN.{get_or}
use Rattle.basis.specs.Choice.{also, also_true, also_of, same_test}
use Rattle.basis.specs.Bounded.{all_at, all_of, lt_or_ge}
use Rattle.packets.specs.declared.Packet.{Packet}
use Rattle.plan.specs.Plan.{Plan}
use Rattle.plan_queues.specs.Queue.{Queue, active_out, active_in, passive_in, passive_out, U, Q, F, K}
use Rattle.plan_queues.specs.Feeds.{in_queue, head_place}
use Rattle.rules.specs.Valid.{sum, in_all, spends}
use Rattle.valid.specs.Test.{all_in, lined_test, belongs_test}
use Rattle.bytes_layout.specs.Offsets.{packet_kind, packet_width}
use Rattle.bytes_layout.specs.Places.{packet_at, packets_at}
use Rattle.check_rule.specs.Forms.{zeros, places_form}
use Rattle.check_frames.specs.Frame.{of_head}
use Rattle.check_queues.specs.Lines.{place_test, places_test}

left_true : (a c : Bool) → also a c ≡ true → a ≡ true
left_true a c e = (also_true {a = a} {b = c} e).0

right_true : (a c : Bool) → also a c ≡ true → c ≡ true
right_true a c e = (also_true {a = a} {b = c} e).1

-- ---- the form of places
module _ (b : List ℕ) where
  abbrev Kinds : ℕ → ℕ → Type 0
  Kinds n i = (k : ℕ) → k < n → leb (get_or b (i + packet_width * k + packet_kind) 0) 3 ≡ true

  abbrev Blank : ℕ → ℕ → Type 0
  Blank m i = (k : ℕ) → k < m → eqb (get_or b (i + k) 0) 0 ≡ true

  abbrev kind_test : ℕ → Bool
  kind_test i = leb (get_or b (i + packet_kind) 0) 3

  form_kinds : (c n i : ℕ) → n ≤ c → places_form c n i b ≡ true → Kinds n i
  unfolding places_form
  form_kinds zero n i l e k h = absurd (omega arith)
  form_kinds (suc c) zero i l e k h = absurd (omega arith)
  form_kinds (suc c) (suc n) i l e zero h =
      let f : i + packet_width * 0 + packet_kind ≡ i + packet_kind = omega arith in
      rw f (left_true (kind_test i) (places_form c n (i + packet_width) b) e)
  form_kinds (suc c) (suc n) i l e (suc k) h =
      let f : i + packet_width * suc k + packet_kind ≡ i + packet_width + packet_width * k + packet_kind = omega arith
      in
      rw f (form_kinds c n (i + packet_width) (omega arith)
      (right_true (kind_test i) (places_form c n (i + packet_width) b) e) k (omega arith))

  form_blank : (c n i : ℕ) → n ≤ c → places_form c n i b ≡ true
      → Blank (packet_width * c - packet_width * n) (i + packet_width * n)
  unfolding places_form zeros
  form_blank zero n i l e k h = absurd (omega arith)
  form_blank (suc c) zero i l e k h =
      by
      (form_blank c zero (i + packet_width) (omega arith)
      (right_true (zeros i packet_width b) (places_form c zero (i + packet_width) b) e))
      (lt_or_ge k packet_width)
    where
      by : Blank (packet_width * c - packet_width * 0) (i + packet_width + packet_width * 0)
          → (k < packet_width) ⊎ (packet_width ≤ k) → eqb (get_or b (i + packet_width * 0 + k) 0) 0 ≡ true
      by rec (inl x) =
          let f : i + packet_width * 0 + k ≡ i + k = omega arith in
          rw f (all_at packet_width (λ j. eqb (get_or b (i + j) 0) 0)
          (left_true (zeros i packet_width b) (places_form c zero (i + packet_width) b) e) k x)
      by rec (inr x) =
          let f : i + packet_width * 0 + k ≡ i + packet_width + packet_width * 0 + (k - packet_width) = omega arith in
          rw f (rec (k - packet_width) (omega arith))
  form_blank (suc c) (suc n) i l e k h =
      let f : i + packet_width * suc n + k ≡ i + packet_width + packet_width * n + k = omega arith in
      rw f (form_blank c n (i + packet_width) (omega arith)
      (right_true (kind_test i) (places_form c n (i + packet_width) b) e) k (omega arith))

  form_of : (c n i : ℕ) → n ≤ c → Kinds n i → Blank (packet_width * c - packet_width * n) (i + packet_width * n)
      → places_form c n i b ≡ true
  unfolding places_form zeros
  form_of zero n i l x y = refl
  form_of (suc c) zero i l x y =
      also_of
      (all_of packet_width (λ j. eqb (get_or b (i + j) 0) 0)
      (λ k h. let f : i + packet_width * 0 + k ≡ i + k = omega arith in rw f at (y k (omega arith))))
      (form_of c zero (i + packet_width) (omega arith) (λ k h. absurd (omega arith))
      (λ k h. let f : i + packet_width * 0 + (packet_width + k) ≡ i + packet_width + packet_width * 0 + k = omega arith
      in
      rw f at (y (packet_width + k) (omega arith))))
  form_of (suc c) (suc n) i l x y =
      also_of (let f : i + packet_width * 0 + packet_kind ≡ i + packet_kind = omega arith in rw f
      at (x 0 (omega arith)))
      (form_of c n (i + packet_width) (omega arith)
      (λ k h. let f : i + packet_width * suc k + packet_kind
      ≡ i + packet_width + packet_width * k + packet_kind = omega arith in
      rw f at (x (suc k) (omega arith)))
      (λ k h. let f : i + packet_width * suc n + k ≡ i + packet_width + packet_width * n + k = omega arith in
      rw f at (y k (omega arith))))

  -- ---- who stands there
  all_in_at : (f : Packet → Bool) (c n i : ℕ) → n ≤ c → all_in f (packets_at c n i b) ≡ true → (k : ℕ) → k < n
      → f (packet_at (i + packet_width * k) b) ≡ true
  unfolding packets_at
  all_in_at f zero n i l e k h = absurd (omega arith)
  all_in_at f (suc c) zero i l e k h = absurd (omega arith)
  all_in_at f (suc c) (suc n) i l e zero h =
      let g : i + packet_width * 0 ≡ i = omega arith in
      rw g (left_true (f (packet_at i b)) (all_in f (packets_at c n (i + packet_width) b)) e)
  all_in_at f (suc c) (suc n) i l e (suc k) h =
      let g : i + packet_width * suc k ≡ i + packet_width + packet_width * k = omega arith in
      rw g (all_in_at f c n (i + packet_width) (omega arith)
      (right_true (f (packet_at i b)) (all_in f (packets_at c n (i + packet_width) b)) e) k (omega arith))

  all_in_of : (f : Packet → Bool) (c n i : ℕ) → n ≤ c
      → ((k : ℕ) → k < n → f (packet_at (i + packet_width * k) b) ≡ true) → all_in f (packets_at c n i b) ≡ true
  unfolding packets_at
  all_in_of f zero n i l x = refl
  all_in_of f (suc c) zero i l x = refl
  all_in_of f (suc c) (suc n) i l x =
      also_of (let g : i + packet_width * 0 ≡ i = omega arith in rw g at (x 0 (omega arith)))
      (all_in_of f c n (i + packet_width) (omega arith)
      (λ k h. let g : i + packet_width * suc k ≡ i + packet_width + packet_width * k = omega arith in
      rw g at (x (suc k) (omega arith))))

-- a queue whose head has not been handled
head_plain : (q : Queue) → head_place false q ≡ in_queue q
head_plain (active_out a) = refl
head_plain (active_in a) = refl
head_plain (passive_in p) = refl
head_plain (passive_out p) = refl
head_plain (U r i) = refl
head_plain (Q r i) = refl
head_plain (F h r o) = refl
head_plain (K r i o) = refl

module _ (pl : Plan) (q : Queue) (done : Bool) (b : List ℕ) where
  abbrev Belong : ℕ → ℕ → Type 0
  Belong n i =
      (k : ℕ) → k < n → belongs_test pl (head_place (of_head done k) q) (packet_at (i + packet_width * k) b) ≡ true

  lined_at : (c n i : ℕ) → n ≤ c → lined_test pl q done (packets_at c n i b) ≡ true → Belong n i
  unfolding packets_at
  lined_at zero n i l e k h = absurd (omega arith)
  lined_at (suc c) zero i l e k h = absurd (omega arith)
  lined_at (suc c) (suc n) i l e zero h =
      let g : i + packet_width * 0 ≡ i = omega arith in
      rw g (left_true (belongs_test pl (head_place done q) (packet_at i b))
      (all_in (belongs_test pl (in_queue q)) (packets_at c n (i + packet_width) b)) e)
  lined_at (suc c) (suc n) i l e (suc k) h =
      let g : i + packet_width * suc k ≡ i + packet_width + packet_width * k = omega arith in
      rw (g, head_plain q) (all_in_at b (belongs_test pl (in_queue q)) c n (i + packet_width) (omega arith)
      (right_true (belongs_test pl (head_place done q) (packet_at i b))
      (all_in (belongs_test pl (in_queue q)) (packets_at c n (i + packet_width) b)) e) k (omega arith))

  lined_of : (c n i : ℕ) → n ≤ c → Belong n i → lined_test pl q done (packets_at c n i b) ≡ true
  unfolding packets_at
  lined_of zero n i l x = refl
  lined_of (suc c) zero i l x = refl
  lined_of (suc c) (suc n) i l x =
      also_of (let g : i + packet_width * 0 ≡ i = omega arith in rw g at (x 0 (omega arith)))
      (all_in_of b (belongs_test pl (in_queue q)) c n (i + packet_width) (omega arith)
      (λ k h. let g : i + packet_width * suc k ≡ i + packet_width + packet_width * k = omega arith in
      rw (g, head_plain q) at (x (suc k) (omega arith))))

  -- ---- both at once: the free places are zero, and each packet's place passes
  pub places_law : (c n i : ℕ) → n ≤ c
      → also (places_form c n i b) (lined_test pl q done (packets_at c n i b))
      ≡ also (zeros (i + packet_width * n) (packet_width * c - packet_width * n) b) (places_test pl q done n i b)
  unfolding zeros places_test place_test
  places_law c n i l = same_test _ _ to from
    where
      to : also (places_form c n i b) (lined_test pl q done (packets_at c n i b)) ≡ true
          → also (zeros (i + packet_width * n) (packet_width * c - packet_width * n) b) (places_test pl q done n i b) ≡
          true
      to e =
          let f = left_true (places_form c n i b) (lined_test pl q done (packets_at c n i b)) e in
          let g = right_true (places_form c n i b) (lined_test pl q done (packets_at c n i b)) e in
          also_of
          (all_of (packet_width * c - packet_width * n) (λ k. eqb (get_or b (i + packet_width * n + k) 0) 0)
          (form_blank b c n i l f))
          (all_of n (place_test pl q done i b) (λ k h. also_of (form_kinds b c n i l f k h) (lined_at c n i l g k h)))

      from : also (zeros (i + packet_width * n) (packet_width * c - packet_width * n) b) (places_test pl q done n i b)
          ≡ true
          → also (places_form c n i b) (lined_test pl q done (packets_at c n i b)) ≡ true
      from e =
          let f = left_true (zeros (i + packet_width * n) (packet_width * c - packet_width * n) b)
          (places_test pl q done n i b) e in
          let g = right_true (zeros (i + packet_width * n) (packet_width * c - packet_width * n) b)
          (places_test pl q done n i b) e in
          let x = all_at n (place_test pl q done i b) g in
          also_of
          (form_of b c n i l (λ k h. left_true (leb (get_or b (i + packet_width * k + packet_kind) 0) 3)
          (belongs_test pl (head_place (of_head done k) q) (packet_at (i + packet_width * k) b)) (x k h))
          (all_at (packet_width * c - packet_width * n) (λ k. eqb (get_or b (i + packet_width * n + k) 0) 0) f))
          (lined_of c n i l (λ k h. right_true (leb (get_or b (i + packet_width * k + packet_kind) 0) 3)
          (belongs_test pl (head_place (of_head done k) q) (packet_at (i + packet_width * k) b)) (x k h)))

-- ---- what packets have spent
sum_front : (n : ℕ) (f : ℕ → ℕ) → sum (suc n) f ≡ f 0 + sum n (λ k. f (suc k))
unfolding sum
sum_front zero f = omega arith
sum_front (suc n) f = let e = sum_front n f in omega arith

pub sum_like : (n : ℕ) (f g : ℕ → ℕ) → ((k : ℕ) → k < n → f k ≡ g k) → sum n f ≡ sum n g
unfolding sum
sum_like zero f g h = refl
sum_like (suc n) f g h = ap₂ ◌+◌ (sum_like n f g (λ k l. h k (omega arith))) (h n (omega arith))

pub spent_places : (a c n i : ℕ) (b : List ℕ) → n ≤ c
    → in_all (spends a) (packets_at c n i b) ≡ sum n (λ k. spends a (packet_at (i + packet_width * k) b))
unfolding packets_at sum
spent_places a zero n i b l = let e : n ≡ 0 = omega arith in rw e
spent_places a (suc c) zero i b l = refl
spent_places a (suc c) (suc n) i b l =
    ap₂ ◌+◌ (ap (λ (j : ℕ). spends a (packet_at j b)) first)
    (spent_places a c n (i + packet_width) b (omega arith)
    ∙ sum_like n (λ k. spends a (packet_at (i + packet_width + packet_width * k) b))
    (λ k. spends a (packet_at (i + packet_width * suc k) b))
    (λ k h. ap (λ (j : ℕ). spends a (packet_at j b)) (next k)))
    ∙ sym (sum_front n (λ k. spends a (packet_at (i + packet_width * k) b)))
  where
    first : i ≡ i + packet_width * 0
    first = omega arith

    next : (k : ℕ) → i + packet_width + packet_width * k ≡ i + packet_width * suc k
    next k = omega arith
