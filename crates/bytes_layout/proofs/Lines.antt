-- Joining and leaving a queue's places, whatever stands before and after them: so many places, then the whole row.
use mathlib.Core.Path.{◌≡◌, refl, sym, ap, ap₂, ◌∙◌}
use mathlib.Core.Bool.{Bool}
use mathlib.Core.List.{List, [], ◌∷◌, ◌++◌, append_assoc}
use Prim.Native.Nat.{ℕ, zero, suc, ◌+◌, ◌*◌, ◌-◌, ◌<◌}
use native.Mathlib.Nat.{zero-add, suc-add}
use native.Mathlib.Omega.{arith}
use lib.ListN.{length, get_or, set, length-append}
use lib.Seq.{sets, get_or-append-add}
use Rattle.basis.specs.Fold.{up_to, up_same}
use Rattle.kinds.specs.declared.Credit.{Credit}
use Rattle.packets.specs.declared.Packet.{Packet}
use Rattle.bytes_layout.specs.Offsets.{packet_width, places, length_byte, first_place}
use Rattle.bytes_layout.specs.Codes.{flag_code}
use Rattle.bytes_layout.specs.Places.{packet_bytes, no_packet, place_bytes}
use Rattle.bytes_layout.specs.Decode.{length_at}
use Rattle.bytes_layout.specs.Updates.{place_row, push_at, move_byte, move_place, close_up, pop_at}
use Rattle.bytes_layout.proofs.Changes.{sets_row}

-- a byte behind a list is read and stored there
pub get_behind : (l m : List ℕ) (i k : ℕ) → i ≡ length l + k → get_or (l ++ m) i 0 ≡ get_or m k 0
get_behind l m i k e = rw e (get_or-append-add l m k 0)

set_append : (l m : List ℕ) (k v : ℕ) → set (l ++ m) (length l + k) v ≡ l ++ set m k v
set_append [] m k v = rw (zero-add k)
set_append (x ∷ l) m k v = rw (suc-add (length l) k) (ap (λ t. x ∷ t) (set_append l m k v))

pub set_behind : (l m : List ℕ) (i k v : ℕ) → i ≡ length l + k → set (l ++ m) i v ≡ l ++ set m k v
set_behind l m i k v e = rw e (set_append l m k v)

-- ---- places
-- a packet behind the last
place_put : (c : ℕ) (xs : List Packet) (x : Packet) (l r : List ℕ) (i : ℕ) → length xs < c
    → i ≡ length l + packet_width * length xs
    → sets (l ++ (place_bytes c xs ++ r)) i (packet_bytes x) ≡ l ++ (place_bytes c (xs ++ (x ∷ [])) ++ r)
unfolding place_bytes
place_put zero xs x l r i h e = absurd (omega arith)
place_put (suc c) [] x l r i h e = sets_row no_packet (packet_bytes x) l (place_bytes c [] ++ r) i (omega arith) refl
place_put (suc c) (y ∷ xs) x l r i h e =
    ap (λ b. sets b i (packet_bytes x)) (sym (append_assoc l (packet_bytes y) (place_bytes c xs ++ r)))
    ∙ place_put c xs x (l ++ packet_bytes y) r i (omega arith) (omega (arith, length-append l (packet_bytes y)))
    ∙ append_assoc l (packet_bytes y) (place_bytes c (xs ++ (x ∷ [])) ++ r)

-- a byte moves a place up
byte_moves : (l m : List ℕ) (i k : ℕ) → i ≡ length l + k → move_byte i (l ++ m) ≡ l ++ move_byte k m
byte_moves l m i k e =
    ap (set (l ++ m) i) (get_behind l m (i + packet_width) (k + packet_width) (omega arith))
    ∙ set_behind l m i k (get_or m (k + packet_width) 0) e

-- the packet of the next place comes to the place at i
place_moves : (l r : List ℕ) (x y : Packet) (i : ℕ) → i ≡ length l
    → move_place i (l ++ (packet_bytes x ++ (packet_bytes y ++ r))) ≡ l ++ (packet_bytes y ++ (packet_bytes y ++ r))
unfolding move_place
place_moves l r x y i e =
    let m : List ℕ = packet_bytes x ++ (packet_bytes y ++ r) in
    let m0 : List ℕ = move_byte 0 m in
    let m1 : List ℕ = move_byte 1 m0 in
    let m2 : List ℕ = move_byte 2 m1 in
    let m3 : List ℕ = move_byte 3 m2 in
    ap (λ b. move_byte (i + 4) (move_byte (i + 3) (move_byte (i + 2) (move_byte (i + 1) b))))
    (byte_moves l m i 0 (omega arith))
    ∙ ap (λ b. move_byte (i + 4) (move_byte (i + 3) (move_byte (i + 2) b))) (byte_moves l m0 (i + 1) 1 (omega arith))
    ∙ ap (λ b. move_byte (i + 4) (move_byte (i + 3) b)) (byte_moves l m1 (i + 2) 2 (omega arith))
    ∙ ap (λ b. move_byte (i + 4) b) (byte_moves l m2 (i + 3) 3 (omega arith))
    ∙ byte_moves l m3 (i + 4) 4 (omega arith)

-- the first of n + 1 turns, then n
up_front : {A : Type 0} (f : ℕ → A → A) (n : ℕ) (s : A) → up_to f (suc n) s ≡ up_to (λ j. f (suc j)) n (f 0 s)
unfolding up_to
up_front f zero s = refl
up_front f (suc n) s = ap (f (suc n)) (up_front f n s)

close_none : (i : ℕ) (b : List ℕ) → close_up i 0 b ≡ b
unfolding close_up up_to
close_none i b = refl

close_more : (i n : ℕ) (b : List ℕ) → close_up i (suc n) b ≡ close_up (i + packet_width) n (move_place i b)
unfolding close_up
close_more i n b =
    up_front (λ j. move_place (i + packet_width * j)) n b
    ∙ ap (λ k. up_to (λ j. move_place (i + packet_width * suc j)) n (move_place k b)) here
    ∙ up_same (λ j. move_place (i + packet_width * suc j)) (λ j. move_place (i + packet_width + packet_width * j)) n
    (move_place i b) (λ j t h. ap (λ k. move_place k t) (next j))
  where
    here : i + packet_width * 0 ≡ i
    here = omega arith

    next : (j : ℕ) → i + packet_width * suc j ≡ i + packet_width + packet_width * j
    next j = omega arith

-- the first packet leaves: the others close up, and the last one's place is freed
place_pop : (c : ℕ) (x : Packet) (xs : List Packet) (l r : List ℕ) (i : ℕ) → length xs < c → i ≡ length l
    → sets (close_up i (length xs) (l ++ (place_bytes c (x ∷ xs) ++ r))) (i + packet_width * length xs) no_packet
    ≡ l ++ (place_bytes c xs ++ r)
unfolding place_bytes
place_pop zero x xs l r i h e = absurd (omega arith)
place_pop (suc c) x [] l r i h e =
    ap (λ b. sets b (i + 0) no_packet) (close_none i (l ++ (place_bytes (suc c) (x ∷ []) ++ r)))
    ∙ sets_row (packet_bytes x) no_packet l (place_bytes c [] ++ r) (i + 0) (omega arith) refl
place_pop (suc zero) x (y ∷ xs) l r i h e = absurd (omega arith)
place_pop (suc (suc c)) x (y ∷ xs) l r i h e =
    let b : List ℕ = l ++ (place_bytes (suc (suc c)) (x ∷ y ∷ xs) ++ r) in
    let k : i + packet_width * suc (length xs) ≡ i + packet_width + packet_width * length xs = omega arith in
    let moved : move_place i b ≡ (l ++ packet_bytes y) ++ (place_bytes (suc c) (y ∷ xs) ++ r) =
    place_moves l (place_bytes c xs ++ r) x y i e
    ∙ sym (append_assoc l (packet_bytes y) (packet_bytes y ++ (place_bytes c xs ++ r))) in
    ap₂ (λ t j. sets t j no_packet)
    (close_more i (length xs) b ∙ ap (close_up (i + packet_width) (length xs)) moved) k
    ∙ place_pop (suc c) y xs (l ++ packet_bytes y) r (i + packet_width) (omega arith)
    (omega (arith, length-append l (packet_bytes y)))
    ∙ append_assoc l (packet_bytes y) (place_bytes (suc c) xs ++ r)

-- ---- the whole row: credit, flag, handled mark, then the queue
abbrev pub row_of : Credit → Bool → Bool → List Packet → List ℕ
row_of c f m xs = c.0 ∷ flag_code f ∷ flag_code m ∷ length xs ∷ place_bytes places xs

module _ (c : Credit) (f m : Bool) (l r : List ℕ) (i : ℕ) (e : i ≡ length l) where
  -- the bytes before the places
  abbrev front : ℕ → List ℕ
  front n = c.0 ∷ flag_code f ∷ flag_code m ∷ n ∷ []

  to_places : (n : ℕ) (xs : List Packet)
      → l ++ ((front n ++ place_bytes places xs) ++ r) ≡ (l ++ front n) ++ (place_bytes places xs ++ r)
  to_places n xs = sym (append_assoc l (front n) (place_bytes places xs ++ r))

  row_length : (xs : List Packet) → length_at i (l ++ (row_of c f m xs ++ r)) ≡ length xs
  row_length xs = get_behind l (row_of c f m xs ++ r) (i + length_byte) length_byte (omega arith)

  -- the length byte is set over the places as they are
  row_count : (n k : ℕ) (xs : List Packet)
      → set ((l ++ front n) ++ (place_bytes places xs ++ r)) (i + length_byte) k
      ≡ l ++ ((front k ++ place_bytes places xs) ++ r)
  row_count n k xs =
      ap (λ b. set b (i + length_byte) k) (append_assoc l (front n) (place_bytes places xs ++ r))
      ∙ set_behind l (front n ++ (place_bytes places xs ++ r)) (i + length_byte) length_byte k (omega arith)

  pub row_push : (x : Packet) (xs : List Packet) → length xs < places
      → push_at i x (l ++ (row_of c f m xs ++ r)) ≡ l ++ (row_of c f m (xs ++ (x ∷ [])) ++ r)
  unfolding push_at
  row_push x xs h =
      let b : List ℕ = l ++ (row_of c f m xs ++ r) in
      let k : length (xs ++ (x ∷ [])) ≡ length xs + 1 = length-append xs (x ∷ []) in
      ap (λ n. set (sets b (place_row i n) (packet_bytes x)) (i + length_byte) (n + 1)) (row_length xs)
      ∙ ap (λ t. set (sets t (place_row i (length xs)) (packet_bytes x)) (i + length_byte) (length xs + 1))
      (to_places (length xs) xs)
      ∙ ap (λ t. set t (i + length_byte) (length xs + 1))
      (place_put places xs x (l ++ front (length xs)) r (place_row i (length xs)) h
      (omega (arith, length-append l (front (length xs)))))
      ∙ row_count (length xs) (length xs + 1) (xs ++ (x ∷ []))
      ∙ ap (λ n. l ++ ((front n ++ place_bytes places (xs ++ (x ∷ []))) ++ r)) (sym k)

  pub row_pop : (x : Packet) (xs : List Packet) → length xs < places
      → pop_at i (l ++ (row_of c f m (x ∷ xs) ++ r)) ≡ l ++ (row_of c f m xs ++ r)
  unfolding pop_at
  row_pop x xs h =
      let b : List ℕ = l ++ (row_of c f m (x ∷ xs) ++ r) in
      let k : length_at i b - 1 ≡ length xs = let n = row_length (x ∷ xs) in omega arith in
      ap (λ n. set (sets (close_up (i + first_place) n b) (place_row i n) no_packet) (i + length_byte) n) k
      ∙ ap (λ t. set (sets (close_up (i + first_place) (length xs) t) (place_row i (length xs)) no_packet)
      (i + length_byte) (length xs))
      (to_places (suc (length xs)) (x ∷ xs))
      ∙ ap (λ t. set t (i + length_byte) (length xs))
      (place_pop places x xs (l ++ front (suc (length xs))) r (i + first_place) h
      (omega (arith, length-append l (front (suc (length xs))))))
      ∙ row_count (suc (length xs)) (length xs) xs
