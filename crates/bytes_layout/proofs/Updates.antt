-- A store into a row of a state's bytes gives the bytes of the state with that part changed: one law for each part.
use mathlib.Core.Path.{◌≡◌, refl, sym, ap, ◌∙◌, subst}
use mathlib.Core.Bool.{Bool}
use mathlib.Core.List.{List, [], ◌∷◌, ◌++◌}
use Prim.Native.Nat.{ℕ, ◌+◌, ◌*◌, ◌/◌, ◌%◌, ◌<◌, ◌≤◌}
use native.Mathlib.Omega.{arith}
use lib.Dec.{eqb}
use lib.ListN.{length, set}
use lib.Seq.{sets}
use borrow.Author.Tests.{eqb-true, eq-eqb}
use Rattle.sets.specs.Sets.{those}
use Rattle.kinds.specs.declared.Slot.{Slot}
use Rattle.kinds.specs.declared.Credit.{Credit}
use Rattle.packets.specs.declared.Packet.{Packet}
use Rattle.packets.specs.declared.Wire.{Wire}
use Rattle.packets.specs.declared.Phase.{Phase}
use Rattle.packets.specs.declared.Entry.{Entry}
use Rattle.plan.specs.Plan.{Plan, A, R}
use Rattle.plan_queues.specs.Queue.{Queue, Exists, number, queues, queue_at}
use Rattle.plan_queues.specs.Feeds.{Output}
use Rattle.plan_journeys.proofs.Numbers.{queue_at_lem, number_below}
use Rattle.rules.specs.Outputs.{outputs, output_at, output_number}
use Rattle.rules.specs.Store.{put, same_queue, same_queue_lem, queue_same, same_output, same_output_lem, output_same}
use Rattle.rules.specs.State.{State, Choice, Lines, Links, with_lines, with_flow, with_links, with_phase}
use Rattle.rules.specs.State.{with_slot, with_queue, with_handled, with_credit, with_flag, with_allowance, with_wire}
use Rattle.rules.specs.State.{with_choice, with_entry, with_connection, with_last_sender, join}
use Rattle.rules.specs.Valid.{Drives}
use Rattle.rules.proofs.Numbers.{at_number}
use Rattle.rules.proofs.OutNumbers.{output_at_lem, output_below, at_output}
use Rattle.bytes_layout.specs.Offsets.{phase_byte, slot_byte, queue_width, output_width, entry_width, credit_byte}
use Rattle.bytes_layout.specs.Offsets.{flag_byte}
use Rattle.bytes_layout.specs.Offsets.{handled_byte, first_place, choice_byte, slot_room, router_entries, entry_index}
use Rattle.bytes_layout.specs.Offsets.{queues_at, outputs_at, allowances_at, table_at, queue_row, output_row}
use Rattle.bytes_layout.specs.Offsets.{allowance_row}
use Rattle.bytes_layout.specs.Offsets.{entry_row, entries, places, passive_room, starts_width, pairs, pair_index}
use Rattle.bytes_layout.specs.Offsets.{connections_at, starts_row, turns_at, turn_row}
use Rattle.bytes_layout.specs.Codes.{phase_code, flag_code, choice_code, entry_code}
use Rattle.bytes_layout.specs.Places.{packet_bytes, place_bytes}
use Rattle.bytes_layout.specs.Encode.{queue_bytes, wire_bytes, output_bytes, allowance_bytes, entry_bytes}
use Rattle.bytes_layout.specs.Encode.{entry_of_number}
use Rattle.bytes_layout.specs.Encode.{word_bytes, starts_of, starts_bytes, header, queue_part, output_part}
use Rattle.bytes_layout.specs.Encode.{allowance_part}
use Rattle.bytes_layout.specs.Encode.{table_part, connection_part, turn_bytes, turn_part, encode, length_queue}
use Rattle.bytes_layout.specs.Encode.{length_wire, length_output, length_queues, length_outputs, length_allowances}
use Rattle.bytes_layout.specs.Encode.{length_table, length_connections}
use Rattle.bytes_layout.specs.Updates.{push_at, pop_at}
use Rattle.bytes_layout.proofs.Changes.{RowChanges, changes_whole, changes_left, changes_right, changes_row}
use Rattle.bytes_layout.proofs.Changes.{changes_store, put_unseen, on_row, store_row, store_part}
use Rattle.bytes_layout.proofs.Lines.{row_of, row_push, row_pop}

-- an entry's router, side and slot give its number
number_of_entry : (j r o t : ℕ) → j / router_entries ≡ r → j % router_entries / slot_room ≡ o → j % slot_room ≡ t
    → j ≡ entry_index r o t
number_of_entry j r o t a b c = omega arith

-- and a pair's active and passive the pair's
number_of_pair : (j a p : ℕ) → j / passive_room ≡ a → j % passive_room ≡ p → j ≡ pair_index a p
number_of_pair j a p c d = omega arith

module _ (pl : Plan) (s : State) (rest : List ℕ) where
  abbrev bytes : List ℕ
  bytes = encode pl s rest

  -- ---- the header
  pub put_phase : (x : Phase) → set (encode pl s rest) phase_byte (phase_code x) ≡ encode pl (with_phase x s) rest
  unfolding encode queue_bytes output_bytes
  put_phase x = refl

  pub put_slot : (x : Slot) → set (encode pl s rest) slot_byte x.0 ≡ encode pl (with_slot x s) rest
  unfolding encode queue_bytes output_bytes
  put_slot x = refl

  -- ---- what stands behind the header is changed, behind the queues, behind the outputs, behind the allowances, behind
  -- the table, behind the connections
  from_queues : (x y : List ℕ) → RowChanges queues_at x y (header s ++ x) (header s ++ y)
  from_queues x y = changes_right 0 queues_at (header s) x y _ _ refl (changes_whole (header s ++ x) (header s ++ y))

  from_outputs : (x y : List ℕ)
      → RowChanges (outputs_at pl) x y (header s ++ (queue_part pl s ++ x)) (header s ++ (queue_part pl s ++ y))
  from_outputs x y =
      changes_right queues_at (outputs_at pl) (queue_part pl s) x y _ _ (rw (length_queues pl s))
      (from_queues (queue_part pl s ++ x) (queue_part pl s ++ y))

  from_allowances : (x y : List ℕ)
      → RowChanges (allowances_at pl) x y (header s ++ (queue_part pl s ++ (output_part pl s ++ x)))
      (header s ++ (queue_part pl s ++ (output_part pl s ++ y)))
  from_allowances x y =
      changes_right (outputs_at pl) (allowances_at pl) (output_part pl s) x y _ _ (rw (length_outputs pl s))
      (from_outputs (output_part pl s ++ x) (output_part pl s ++ y))

  from_table : (x y : List ℕ)
      → RowChanges (table_at pl) x y (header s ++ (queue_part pl s ++ (output_part pl s ++ (allowance_part pl s ++ x))))
      (header s ++ (queue_part pl s ++ (output_part pl s ++ (allowance_part pl s ++ y))))
  from_table x y =
      changes_right (allowances_at pl) (table_at pl) (allowance_part pl s) x y _ _
      (let l = length_allowances pl s in omega arith)
      (from_allowances (allowance_part pl s ++ x) (allowance_part pl s ++ y))

  from_connections : (x y : List ℕ)
      → RowChanges (connections_at pl) x y
      (header s ++ (queue_part pl s ++ (output_part pl s ++ (allowance_part pl s ++ (table_part pl s ++ x)))))
      (header s ++ (queue_part pl s ++ (output_part pl s ++ (allowance_part pl s ++ (table_part pl s ++ y)))))
  from_connections x y =
      changes_right (table_at pl) (connections_at pl) (table_part pl s) x y _ _ (rw (length_table pl s))
      (from_table (table_part pl s ++ x) (table_part pl s ++ y))

  from_turns : (x y : List ℕ)
      → RowChanges (turns_at pl) x y
      (header s ++ (queue_part pl s
      ++ (output_part pl s ++ (allowance_part pl s ++ (table_part pl s ++ (connection_part pl s ++ x))))))
      (header s ++ (queue_part pl s
      ++ (output_part pl s ++ (allowance_part pl s ++ (table_part pl s ++ (connection_part pl s ++ y))))))
  from_turns x y =
      changes_right (connections_at pl) (turns_at pl) (connection_part pl s) x y _ _ (rw (length_connections pl s))
      (from_connections (connection_part pl s ++ x) (connection_part pl s ++ y))

  -- ---- queues: the state with other lines, credits and flags
  abbrev with_rows : Lines → (Queue → Credit) → (Queue → Bool) → State
  with_rows l c f = with_lines l (with_flow (record { credit = c; flag = f; allowance = s.flow.allowance }) s)

  -- what is put into a store at a queue is put into its row
  queue_changes : {X : Type 0} (q : Queue) → Exists pl q → (row : X → Queue → List ℕ) (m : Queue → X) (v : X)
      (l : Lines) (c : Queue → Credit) (f : Queue → Bool) → ((x : Queue) → queue_bytes s x ≡ row (m x) x)
      → ((x : Queue) → queue_bytes (with_rows l c f) x ≡ row (put same_queue m q v x) x)
      → RowChanges (queue_row pl q) (row (m q) q) (row v q) bytes (encode pl (with_rows l c f) rest)
  unfolding encode queue_row output_bytes
  queue_changes q h row m v l c f was is =
      let t : State = with_rows l c f in
      let past : List ℕ =
      output_part pl s
      ++ (allowance_part pl s ++ (table_part pl s ++ (connection_part pl s ++ (turn_part pl s ++ rest)))) in
      changes_store same_queue queue_same same_queue_lem (number pl) (queue_at pl) row m q v queue_width (queues pl)
      queues_at
      (queue_bytes s) (queue_bytes t) bytes (encode pl t rest) was is (length_queue s) (at_number pl)
      (queue_at_lem pl q h)
      (number_below pl q h)
      (changes_left queues_at (queue_part pl s) (queue_part pl t) past bytes (encode pl t rest)
      (from_queues (queue_part pl s ++ past) (queue_part pl t ++ past)))

  module _ (q : Queue) (h : Exists pl q) where
    -- the row's parts as they are
    abbrev credit : ℕ
    credit = (s.flow.credit q).0

    abbrev flag : ℕ
    flag = flag_code (s.flow.flag q)

    abbrev mark : ℕ
    mark = flag_code (s.lines.handled q)

    abbrev line : List Packet
    line = s.lines.queue q

    pub put_credit : (c : Credit)
        → set (encode pl s rest) (queue_row pl q + credit_byte) c.0 ≡ encode pl (with_credit q c s) rest
    unfolding queue_bytes
    put_credit c =
        store_part (queue_row pl q) credit_byte [] (credit ∷ []) (c.0 ∷ [])
        (flag ∷ mark ∷ length line ∷ place_bytes places line) bytes (encode pl (with_credit q c s) rest) refl refl
        (queue_changes q h (λ k x. row_of k (s.flow.flag x) (s.lines.handled x) (s.lines.queue x))
        s.flow.credit c s.lines (put same_queue s.flow.credit q c) s.flow.flag (λ x. refl) (λ x. refl))

    pub put_flag : (f : Bool)
        → set (encode pl s rest) (queue_row pl q + flag_byte) (flag_code f) ≡ encode pl (with_flag q f s) rest
    unfolding queue_bytes
    put_flag f =
        store_part (queue_row pl q) flag_byte (credit ∷ []) (flag ∷ []) (flag_code f ∷ [])
        (mark ∷ length line ∷ place_bytes places line) bytes (encode pl (with_flag q f s) rest) refl refl
        (queue_changes q h (λ k x. row_of (s.flow.credit x) k (s.lines.handled x) (s.lines.queue x))
        s.flow.flag f s.lines s.flow.credit (put same_queue s.flow.flag q f) (λ x. refl) (λ x. refl))

    pub put_handled : (m : Bool)
        → set (encode pl s rest) (queue_row pl q + handled_byte) (flag_code m) ≡ encode pl (with_handled q m s) rest
    unfolding queue_bytes
    put_handled m =
        store_part (queue_row pl q) handled_byte (credit ∷ flag ∷ []) (mark ∷ []) (flag_code m ∷ [])
        (length line ∷ place_bytes places line) bytes (encode pl (with_handled q m s) rest) refl refl
        (queue_changes q h (λ k x. row_of (s.flow.credit x) (s.flow.flag x) k (s.lines.queue x))
        s.lines.handled m
        (record { queue = s.lines.queue; handled = put same_queue s.lines.handled q m }) s.flow.credit
        s.flow.flag (λ x. refl) (λ x. refl))

    -- other packets in the queue
    abbrev row_with : List Packet → List ℕ
    row_with xs = row_of (s.flow.credit q) (s.flow.flag q) (s.lines.handled q) xs

    line_changes : (xs ys : List Packet) → s.lines.queue q ≡ xs
        → RowChanges (queue_row pl q) (row_with xs) (row_with ys) bytes (encode pl (with_queue q ys s) rest)
    unfolding queue_bytes
    line_changes xs ys e =
        subst (λ (l : List Packet). RowChanges (queue_row pl q) (row_with l) (row_with ys) bytes
        (encode pl (with_queue q ys s) rest)) e
        (queue_changes q h (λ k x. row_of (s.flow.credit x) (s.flow.flag x) (s.lines.handled x) k)
        s.lines.queue ys
        (record { queue = put same_queue s.lines.queue q ys; handled = s.lines.handled }) s.flow.credit
        s.flow.flag (λ x. refl) (λ x. refl))

    -- a packet joins
    pub push_queue : (x : Packet) → length (s.lines.queue q) < 7
        → push_at (queue_row pl q) x (encode pl s rest) ≡ encode pl (join q x s) rest
    unfolding join
    push_queue x lt =
        on_row (queue_row pl q) (row_with line) (row_with (line ++ (x ∷ []))) bytes (encode pl (join q x s) rest)
        (push_at (queue_row pl q) x) (line_changes line (line ++ (x ∷ [])) refl)
        (λ l r o. row_push (s.flow.credit q) (s.flow.flag q) (s.lines.handled q) l r (queue_row pl q) o x line lt)

    module _ (x : Packet) (xs : List Packet) (e : s.lines.queue q ≡ x ∷ xs) where
      -- the first packet leaves
      pub pop_queue : length (s.lines.queue q) ≤ 7
          → pop_at (queue_row pl q) (encode pl s rest) ≡ encode pl (with_queue q xs s) rest
      pop_queue le =
          on_row (queue_row pl q) (row_with (x ∷ xs)) (row_with xs) bytes (encode pl (with_queue q xs s) rest)
          (pop_at (queue_row pl q)) (line_changes (x ∷ xs) xs e)
          (λ l r o. row_pop (s.flow.credit q) (s.flow.flag q) (s.lines.handled q) l r (queue_row pl q) o x xs
          (let k : length xs < 7 = rw e at le in k))

      -- another packet in the first one's place
      pub put_head : (y : Packet)
          → sets (encode pl s rest) (queue_row pl q + first_place) (packet_bytes y)
          ≡ encode pl (with_queue q (y ∷ xs) s) rest
      unfolding place_bytes
      put_head y =
          store_part (queue_row pl q) first_place (credit ∷ flag ∷ mark ∷ length (x ∷ xs) ∷ []) (packet_bytes x)
          (packet_bytes y) (place_bytes 6 xs) bytes (encode pl (with_queue q (y ∷ xs) s) rest) refl refl
          (line_changes (x ∷ xs) (y ∷ xs) e)

  -- ---- outputs: what is put into a store at an output is put into its row
  output_changes : {X : Type 0} (o : Output) → Drives pl o → (row : X → Output → List ℕ) (m : Output → X) (v : X)
      (l : Links) → ((x : Output) → output_bytes s x ≡ row (m x) x)
      → ((x : Output) → output_bytes (with_links l s) x ≡ row (put same_output m o v x) x)
      → RowChanges (output_row pl o) (row (m o) o) (row v o) bytes (encode pl (with_links l s) rest)
  unfolding encode output_row queue_bytes
  output_changes o h row m v l was is =
      let t : State = with_links l s in
      let past : List ℕ =
      allowance_part pl s ++ (table_part pl s ++ (connection_part pl s ++ (turn_part pl s ++ rest))) in
      changes_store same_output output_same same_output_lem (output_number pl) (output_at pl) row m o v output_width
      (outputs pl) (outputs_at pl) (output_bytes s) (output_bytes t) bytes (encode pl t rest) was is (length_output s)
      (at_output pl) (output_at_lem pl o h) (output_below pl o h)
      (changes_left (outputs_at pl) (output_part pl s) (output_part pl t) past bytes (encode pl t rest)
      (from_outputs (output_part pl s ++ past) (output_part pl t ++ past)))

  module _ (o : Output) (h : Drives pl o) where
    pub put_wire : (w : Wire)
        → sets (encode pl s rest) (output_row pl o) (wire_bytes w) ≡ encode pl (with_wire o w s) rest
    unfolding output_bytes
    put_wire w =
        store_row (output_row pl o) (wire_bytes (s.links.wire o)) (wire_bytes w) bytes
        (encode pl (with_wire o w s) rest)
        (length_wire w ∙ sym (length_wire (s.links.wire o)))
        (changes_left (output_row pl o) (wire_bytes (s.links.wire o)) (wire_bytes w)
        (choice_code (s.links.choice o) ∷ []) bytes (encode pl (with_wire o w s) rest)
        (output_changes o h (λ k x. wire_bytes k ++ (choice_code (s.links.choice x) ∷ [])) s.links.wire w
        (record { wire = put same_output s.links.wire o w; choice = s.links.choice }) (λ x. refl) (λ x. refl)))

    pub put_choice : (c : Choice)
        → set (encode pl s rest) (output_row pl o + choice_byte) (choice_code c) ≡ encode pl (with_choice o c s) rest
    unfolding output_bytes
    put_choice c =
        store_part (output_row pl o) choice_byte (wire_bytes (s.links.wire o)) (choice_code (s.links.choice o) ∷ [])
        (choice_code c ∷ []) [] bytes (encode pl (with_choice o c s) rest) (sym (length_wire (s.links.wire o))) refl
        (output_changes o h (λ k x. wire_bytes (s.links.wire x) ++ (choice_code k ∷ [])) s.links.choice c
        (record { wire = s.links.wire; choice = put same_output s.links.choice o c }) (λ x. refl) (λ x. refl))

  -- ---- allowances
  pub put_allowance : (a n : ℕ) → a < A pl
      → set (encode pl s rest) (allowance_row pl a) n ≡ encode pl (with_allowance a n s) rest
  unfolding encode allowance_row queue_bytes output_bytes
  put_allowance a n h =
      let t : State = with_allowance a n s in
      let past : List ℕ = table_part pl s ++ (connection_part pl s ++ (turn_part pl s ++ rest)) in
      let e : allowances_at pl + 1 * a ≡ allowances_at pl + a = omega arith in
      store_row (allowance_row pl a) (allowance_bytes s a) (n ∷ []) bytes (encode pl t rest) refl
      (subst (λ (i : ℕ). RowChanges i (allowance_bytes s a) (n ∷ []) bytes (encode pl t rest)) e
      (changes_store eqb (λ x. eq-eqb x x refl) eqb-true (λ x. x) (λ x. x) (λ k x. k ∷ []) s.flow.allowance a n 1
      (A pl) (allowances_at pl) (allowance_bytes s) (allowance_bytes t) bytes (encode pl t rest) (λ x. refl) (λ x. refl)
      (λ x. refl) (λ j k. refl) refl h
      (changes_left (allowances_at pl) (allowance_part pl s) (allowance_part pl t) past bytes (encode pl t rest)
      (from_allowances (allowance_part pl s ++ past) (allowance_part pl t ++ past)))))

  -- ---- the table: entries but one are as they were
  entry_away : (r o t : ℕ) (x : Entry) (a b c : ℕ) → ((a ≡ r) × (b ≡ o) × (c ≡ t) → ⊥)
      → s.table a b c ≡ (with_entry r o t x s).table a b c
  entry_away r o t x a b c ne =
      put_unseen eqb eqb-true (λ (f : ℕ → ℕ → Entry). f b c) s.table r _ a
      (λ ea. ap (λ (n : ℕ). s.table n b c) ea
      ∙ put_unseen eqb eqb-true (λ (f : ℕ → Entry). f c) (s.table r) o _ b
      (λ eb. ap (λ (n : ℕ). s.table r n c) eb
      ∙ put_unseen eqb eqb-true (λ (e : Entry). e) (s.table r o) t x c (λ ec. absurd (ne (ea, eb, ec)))))

  entry_here : (r o t : ℕ) (x : Entry) → (with_entry r o t x s).table r o t ≡ x
  entry_here r o t x = rw (eq-eqb r r refl, eq-eqb o o refl, eq-eqb t t refl)

  pub put_entry : (r o t : ℕ) (x : Entry) → r < R pl → o < 4 → t < slot_room
      → set (encode pl s rest) (entry_row pl r o t) (entry_code x) ≡ encode pl (with_entry r o t x s) rest
  unfolding encode entry_row queue_bytes output_bytes
  put_entry r o t x hr ho ht =
      let u : State = with_entry r o t x s in
      let n : ℕ = entry_index r o t in
      let a : n / router_entries ≡ r = omega arith in
      let c : n % router_entries / slot_room ≡ o = omega arith in
      let d : n % slot_room ≡ t = omega arith in
      let e : entry_of_number u n ≡ x = (λ i. u.table (a i) (c i) (d i)) ∙ entry_here r o t x in
      let old : Entry = entry_of_number s n in
      let past : List ℕ = connection_part pl s ++ (turn_part pl s ++ rest) in
      store_row (entry_row pl r o t) (entry_code old ∷ []) (entry_code x ∷ []) bytes (encode pl u rest) refl
      (changes_left (entry_row pl r o t) (entry_code old ∷ []) (entry_code x ∷ []) (0 ∷ []) bytes (encode pl u rest)
      (subst (λ (y : Entry). RowChanges (entry_row pl r o t) (entry_bytes old) (entry_bytes y) bytes (encode pl u rest))
      e
      (changes_row entry_width (entries pl) (table_at pl) (λ j. entry_bytes (entry_of_number s j))
      (λ j. entry_bytes (entry_of_number u j)) bytes (encode pl u rest) (λ j. refl) n (omega arith)
      (λ j k ne. ap entry_bytes
      (entry_away r o t x (j / router_entries) (j % router_entries / slot_room) (j % slot_room)
      (λ z. ne (number_of_entry j r o t z.0 z.1 z.2))))
      (changes_left (table_at pl) (table_part pl s) (table_part pl u) past bytes (encode pl u rest)
      (from_table (table_part pl s ++ past) (table_part pl u ++ past))))))

  -- ---- the accepted connections: those of all pairs but one are as they were
  starts_away : (a p t : ℕ) (x : Bool) (c d : ℕ) → ((c ≡ a) × (d ≡ p) → ⊥)
      → s.connections c d ≡ (with_connection a p t x s).connections c d
  starts_away a p t x c d ne =
      put_unseen eqb eqb-true (λ (f : ℕ → ℕ → Bool). f d) s.connections a _ c
      (λ ec. ap (λ (n : ℕ). s.connections n d) ec
      ∙ put_unseen eqb eqb-true (λ (f : ℕ → Bool). f) (s.connections a) p _ d (λ ed. absurd (ne (ec, ed))))

  pub put_connection : (a p t : ℕ) (x : Bool) → a < A pl → p < passive_room
      → sets (encode pl s rest) (starts_row pl a p) (word_bytes (starts_of (with_connection a p t x s) a p))
      ≡ encode pl (with_connection a p t x s) rest
  unfolding encode starts_row queue_bytes output_bytes
  put_connection a p t x ha hp =
      let u : State = with_connection a p t x s in
      let n : ℕ = pair_index a p in
      let c : n / passive_room ≡ a = omega arith in
      let d : n % passive_room ≡ p = omega arith in
      let e : starts_bytes u n ≡ word_bytes (starts_of u a p) = λ i. word_bytes (starts_of u (c i) (d i)) in
      let past : List ℕ = turn_part pl s ++ rest in
      store_row (starts_row pl a p) (starts_bytes s n) (word_bytes (starts_of u a p)) bytes (encode pl u rest) refl
      (subst (λ (y : List ℕ). RowChanges (starts_row pl a p) (starts_bytes s n) y bytes (encode pl u rest)) e
      (changes_row starts_width (pairs pl) (connections_at pl) (starts_bytes s) (starts_bytes u) bytes
      (encode pl u rest)
      (λ j. refl) n (omega arith)
      (λ j k ne. ap (λ (f : ℕ → Bool). word_bytes (those slot_room f))
      (starts_away a p t x (j / passive_room) (j % passive_room)
      (λ z. ne (number_of_pair j a p z.0 z.1))))
      (changes_left (connections_at pl) (connection_part pl s) (connection_part pl u) past bytes (encode pl u rest)
      (from_connections (connection_part pl s ++ past) (connection_part pl u ++ past)))))

  -- ---- what outputs remember
  pub put_last_sender : (o : Output) (k : ℕ) → Drives pl o
      → set (encode pl s rest) (turn_row pl o) k ≡ encode pl (with_last_sender o k s) rest
  unfolding encode turn_row queue_bytes output_bytes
  put_last_sender o k h =
      let u : State = with_last_sender o k s in
      let e : turns_at pl + 1 * output_number pl o ≡ turns_at pl + output_number pl o = omega arith in
      store_row (turn_row pl o) (turn_bytes s o) (k ∷ []) bytes (encode pl u rest) refl
      (subst (λ (i : ℕ). RowChanges i (turn_bytes s o) (k ∷ []) bytes (encode pl u rest)) e
      (changes_store same_output output_same same_output_lem (output_number pl) (output_at pl) (λ n x. n ∷ [])
      s.last_sender o k 1 (outputs pl) (turns_at pl) (turn_bytes s) (turn_bytes u) bytes (encode pl u rest)
      (λ x. refl) (λ x. refl) (λ x. refl) (at_output pl) (output_at_lem pl o h) (output_below pl o h)
      (changes_left (turns_at pl) (turn_part pl s) (turn_part pl u) rest bytes (encode pl u rest)
      (from_turns (turn_part pl s ++ rest) (turn_part pl u ++ rest)))))
