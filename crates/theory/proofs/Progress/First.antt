-- The units' turn in EXECUTE: a tear-down ends, which is a move, or every head is handled afterwards and no queue has
-- lost a packet.
use mathlib.Core.Path.{◌≡◌, refl, sym, ap, ◌∙◌}
use mathlib.Core.Logic.{◌⊎◌, inl, inr, ◌≢◌}
use mathlib.Core.Bool.{Bool, true, false}
use mathlib.Core.List.{List, [], ◌∷◌, ◌++◌}
use Prim.Native.Nat.{ℕ, zero, suc, ◌≤◌, ◌<◌, ◌*◌, ◌/◌, ◌%◌}
use native.Mathlib.Omega.{arith}
use lib.Dec.{eqb}
use lib.ListN.{length}
use borrow.Author.Tests.{eqb-true, eqb-false}
use Rattle.basis.specs.Choice.{test}
use Rattle.basis.specs.Bounded.{below_suc}
use Rattle.basis.specs.Fold.{up_to, up_keeps, up_keeps_at}
use Rattle.packets.specs.declared.Kind.TheVariants.{Setup, Tdown}
use Rattle.packets.specs.declared.Packet.{Packet}
use Rattle.plan.specs.Plan.{Plan, R, A, S}
use Rattle.plan_queues.specs.Queue.{Queue, active_out, active_in, Q}
use Rattle.rules.specs.Store.{put, same_queue}
use Rattle.rules.specs.Outputs.{outputs, output_at}
use Rattle.rules.specs.State.{State, with_queue, join}
use Rattle.rules.specs.Execute.{unit_at, booked, declined, freed, marked, tdown_of, choose, undo, do_execute}
use Rattle.rules.specs.Progress.{Moved}
use Rattle.theory.proofs.Ground.Cells.{queue_here, queue_away}
use Rattle.theory.proofs.Cases.{UnitDoes, rests, books, declines, ends, frees, unit_does, unit_books}
use Rattle.theory.proofs.Cases.{unit_declines, unit_ends, unit_frees, may_book_at, after_booked}
use Rattle.theory.proofs.Cases.{after_freed, after_ended, ActiveDoes, waits, tears, undo_does, undo_tears}
use Rattle.theory.proofs.Progress.Still.{all_chosen}
use Rattle.theory.proofs.Shape.Execute.{q_at, q_same}

-- a tear-down with hub 1 is at router r's unit, not yet handled
pub record Ends (s : State) (r : ℕ) : Type 0 where
  pub packet : Packet
  pub rest : List Packet
  pub queue : s.lines.queue (q_at r) ≡ packet ∷ rest
  pub fresh : s.lines.handled (q_at r) ≡ false
  pub kind : packet.kind ≡ Tdown
  pub last : eqb packet.hub.0 1 ≡ true

-- what a unit's turn changes: its own queue and mark, the table, and the flag of a Q whose tear-down ended
pub record Turned (pl : Plan) (r : ℕ) (s : State) : Type 0 where
  pub queue : (q : Queue) → q ≢ q_at r → (unit_at pl r s).lines.queue q ≡ s.lines.queue q
  pub handled : (q : Queue) → q ≢ q_at r → (unit_at pl r s).lines.handled q ≡ s.lines.handled q
  pub wire : (unit_at pl r s).links.wire ≡ s.links.wire
  pub slot : (unit_at pl r s).clock.slot ≡ s.clock.slot
  pub credit : (unit_at pl r s).flow.credit ≡ s.flow.credit

-- a turn that ends no packet: the head is handled, the queue keeps its length, no flag rises
pub record Handled (pl : Plan) (r : ℕ) (s : State) : Type 0 where
  pub done : ((unit_at pl r s).lines.queue (q_at r) ≡ []) ⊎ ((unit_at pl r s).lines.handled (q_at r) ≡ true)
  pub long : length ((unit_at pl r s).lines.queue (q_at r)) ≡ length (s.lines.queue (q_at r))
  pub flag : (unit_at pl r s).flow.flag ≡ s.flow.flag

module _ (pl : Plan) (r : ℕ) (s : State) where
  -- a head put back as x, handled
  as_turned : (t : State) → unit_at pl r s ≡ t → ((q : Queue) → q ≢ q_at r → t.lines.queue q ≡ s.lines.queue q)
      → ((q : Queue) → q ≢ q_at r → t.lines.handled q ≡ s.lines.handled q)
      → t.links.wire ≡ s.links.wire → t.clock.slot ≡ s.clock.slot → t.flow.credit ≡ s.flow.credit
      → Turned pl r s
  as_turned t e a b c d f =
      record {
        queue = λ q n. rw e (a q n);
        handled = λ q n. rw e (b q n);
        wire = rw e c;
        slot = rw e d;
        credit = rw e f;
      }

  pub turned : Turned pl r s
  turned = by (unit_does pl (r / 4) (r % 4) s)
    where
      by : UnitDoes pl (r / 4) (r % 4) s → Turned pl r s
      by (rests e) = as_turned s e (λ q n. refl) (λ q n. refl) refl refl refl
      by (books x l e f k t) =
          as_turned (after_booked pl (r / 4) (r % 4) x l s) (unit_books pl (r / 4) (r % 4) s x l e f k t)
          (λ q n. queue_away s.lines.queue (q_at r)
          (booked (S pl) x ∷ l) q n) (λ q n. queue_away s.lines.handled (q_at r) true q n) refl refl refl
      by (declines x l e f k t) =
          as_turned _ (unit_declines pl (r / 4) (r % 4) s x l e f k t) (λ q n. queue_away s.lines.queue (q_at r)
          (declined x ∷ l) q
          n) (λ q n. queue_away s.lines.handled (q_at r) true q n) refl refl refl
      by (ends x l e f k t) = as_turned (after_ended pl (r / 4) (r % 4) x l s) (unit_ends pl (r / 4)
          (r % 4) s x l e f k t)
          (λ q n. queue_away s.lines.queue (q_at r) l q n) (λ q n. refl) refl refl refl
      by (frees x l e f k t) =
          as_turned (after_freed pl (r / 4) (r % 4) x l s) (unit_frees pl (r / 4) (r % 4) s x l e f k t)
          (λ q n. queue_away s.lines.queue (q_at r)
          (freed (S pl) x ∷ l) q n) (λ q n. queue_away s.lines.handled (q_at r) true q n) refl refl refl

  -- a head replaced and marked
  as_handled : (t : State) (x y : Packet) (l : List Packet) → unit_at pl r s ≡ t → s.lines.queue (q_at r) ≡ x ∷ l
      → t.lines.queue ≡ put same_queue s.lines.queue (q_at r) (y ∷ l)
      → t.lines.handled ≡ put same_queue s.lines.handled (q_at r) true → t.flow.flag ≡ s.flow.flag
      → Handled pl r s
  as_handled t x y l e q a b c =
      record {
        done = inr (rw e (ap (λ (m : Queue → Bool). m (q_at r)) b ∙ queue_here s.lines.handled (q_at r) true));
        long = rw e (ap (λ (m : Queue → List Packet). length (m (q_at r))) a
            ∙ ap length (queue_here s.lines.queue (q_at r) (y ∷ l)) ∙ sym (ap length q));
        flag = rw e c;
      }

  -- an unhandled head is a set-up or a tear-down
  pub turn : ((x : Packet) (l : List Packet) → s.lines.queue (q_at r) ≡ x ∷ l → s.lines.handled (q_at r) ≡ false
      → (x.kind ≡ Setup) ⊎ (x.kind ≡ Tdown)) → Ends s r ⊎ Handled pl r s
  turn own = by (unit_does pl (r / 4) (r % 4) s)
    where
      -- a unit that rests has nothing unhandled
      at_rest : unit_at pl r s ≡ s → (l : List Packet) → s.lines.queue (q_at r) ≡ l
          → (s.lines.handled (q_at r) ≡ true) ⊎ (s.lines.handled (q_at r) ≡ false) → Handled pl r s
      at_rest e [] q h = record { done = inl (rw e q); long = rw e; flag = rw e }
      at_rest e (x ∷ l) q (inl h) = record { done = inr (rw e h); long = rw e; flag = rw e }
      at_rest e (x ∷ l) q (inr h) = kinds (own x l q h)
        where
          kinds : (x.kind ≡ Setup) ⊎ (x.kind ≡ Tdown) → Handled pl r s
          kinds (inl k) = books_it (test (may_book_at pl (r / 4) s x))
            where
              books_it : (may_book_at pl (r / 4) s x ≡ true) ⊎ (may_book_at pl (r / 4) s x ≡ false) → Handled pl r s
              books_it (inl t) = as_handled (after_booked pl (r / 4) (r % 4) x l s) x (booked (S pl) x) l
                  (unit_books pl (r / 4) (r % 4) s x l q h k t) q refl refl refl
              books_it (inr t) = as_handled _ x (declined x) l (unit_declines pl (r / 4)
                  (r % 4) s x l q h k t) q refl refl refl
          kinds (inr k) = frees_it (test (eqb x.hub.0 1))
            where
              frees_it : (eqb x.hub.0 1 ≡ true) ⊎ (eqb x.hub.0 1 ≡ false) → Handled pl r s
              frees_it (inl t) =
                  let g : s.lines.queue (q_at r) ≡ l = sym (ap (λ (u : State). u.lines.queue (q_at r)) e)
                  ∙ ap (λ (u : State). u.lines.queue (q_at r)) (unit_ends pl (r / 4) (r % 4) s x l q h k t)
                  ∙ queue_here s.lines.queue (q_at r) l in
                  let n : length (x ∷ l) ≡ length l = ap length (sym q ∙ g) in
                  absurd (omega arith)
              frees_it (inr t) = as_handled (after_freed pl (r / 4) (r % 4) x l s) x (freed (S pl) x) l
                  (unit_frees pl (r / 4) (r % 4) s x l q h k t) q refl refl refl

      by : UnitDoes pl (r / 4) (r % 4) s → Ends s r ⊎ Handled pl r s
      by (rests e) = inr (at_rest e (s.lines.queue (q_at r)) refl (test (s.lines.handled (q_at r))))
      by (books x l e f k t) = inr
          (as_handled (after_booked pl (r / 4) (r % 4) x l s) x (booked (S pl) x) l (unit_books pl (r / 4)
          (r % 4) s x l e f k t) e refl refl refl)
      by (declines x l e f k t) =
          inr (as_handled _ x (declined x) l (unit_declines pl (r / 4) (r % 4) s x l e f k t) e refl refl refl)
      by (ends x l e f k t) = inl (record { packet = x; rest = l; queue = e; fresh = f; kind = k; last = t })
      by (frees x l e f k t) = inr
          (as_handled (after_freed pl (r / 4) (r % 4) x l s) x (freed (S pl) x) l (unit_frees pl (r / 4)
          (r % 4) s x l e f k t) e refl refl refl)

-- ---- all units, one after the other, from the state e
module _ (pl : Plan) (e : State) (own : (r : ℕ) (x : Packet) (l : List Packet) → r < 4 * R pl → e.lines.queue (q_at r)
    ≡ x
    ∷ l → e.lines.handled (q_at r) ≡ false → (x.kind ≡ Setup) ⊎ (x.kind ≡ Tdown)) where
  -- after the units below n, none of which ended a packet
  pub record Upto (n : ℕ) (t : State) : Type 0 where
    pub others : (q : Queue) → ((r : ℕ) → q ≢ q_at r) → t.lines.queue q ≡ e.lines.queue q
    pub ahead : (r : ℕ) → n ≤ r → (t.lines.queue (q_at r) ≡ e.lines.queue (q_at r))
        × (t.lines.handled (q_at r) ≡ e.lines.handled (q_at r))
    pub done : (r : ℕ) → r < n → (t.lines.queue (q_at r) ≡ []) ⊎ (t.lines.handled (q_at r) ≡ true)
    pub long : (r : ℕ) → length (t.lines.queue (q_at r)) ≡ length (e.lines.queue (q_at r))
    pub flag : t.flow.flag ≡ e.flow.flag
    pub wire : t.links.wire ≡ e.links.wire
    pub slot : t.clock.slot ≡ e.clock.slot
    pub credit : t.flow.credit ≡ e.flow.credit

  begins : Upto 0 e
  begins =
      record {
        others = λ q n. refl;
        ahead = λ r h. (refl, refl);
        done = λ r h. absurd (omega arith);
        long = λ r. refl;
        flag = refl;
        wire = refl;
        slot = refl;
        credit = refl;
      }

  goes_on : (n : ℕ) (t : State) → Upto n t → Handled pl n t → Upto (suc n) (unit_at pl n t)
  goes_on n t u h =
      record {
        others = λ q d. k.queue q (d n) ∙ u.others q d;
        ahead = λ r l. (
          k.queue (q_at r) (apart r l) ∙ (u.ahead r (omega arith)).0,
          k.handled (q_at r) (apart r l)
              ∙ (u.ahead r (omega arith)).1,
        );
        done = λ r l. done' r (below_suc l);
        long = λ r. long' r (test (eqb r n));
        flag = h.flag ∙ u.flag;
        wire = k.wire ∙ u.wire;
        slot = k.slot ∙ u.slot;
        credit = k.credit ∙ u.credit;
      }
    where
      k : Turned pl n t
      k = turned pl n t

      apart : (r : ℕ) → suc n ≤ r → q_at r ≢ q_at n
      apart r l d = let m : r ≡ n = q_same r n d in omega arith

      done' : (r : ℕ) → (r < n) ⊎ (r ≡ n) → ((unit_at pl n t).lines.queue (q_at r) ≡ [])
          ⊎ ((unit_at pl n t).lines.handled (q_at r) ≡ true)
      done' r (inl l) = by (u.done r l)
        where
          ne : q_at r ≢ q_at n
          ne d = let m : r ≡ n = q_same r n d in omega arith

          by : (t.lines.queue (q_at r) ≡ []) ⊎ (t.lines.handled (q_at r) ≡ true) → ((unit_at pl n t).lines.queue
              (q_at r) ≡ [])
              ⊎ ((unit_at pl n t).lines.handled (q_at r) ≡ true)
          by (inl a) = inl (k.queue (q_at r) ne ∙ a)
          by (inr a) = inr (k.handled (q_at r) ne ∙ a)
      done' r (inr m) = rw m h.done

      long' : (r : ℕ) → (eqb r n ≡ true) ⊎ (eqb r n ≡ false)
          → length ((unit_at pl n t).lines.queue (q_at r)) ≡ length (e.lines.queue (q_at r))
      long' r (inl b) = let m : r ≡ n = eqb-true r n b in rw m (h.long ∙ u.long n)
      long' r (inr b) = ap length (k.queue (q_at r) (λ d. eqb-false r n b (q_same r n d))) ∙ u.long r

  -- some unit ends a packet, or none does
  pub units : (n : ℕ) → n ≤ 4 * R pl → ((r : ℕ) × (r < n) × Ends e r) ⊎ Upto n (up_to (unit_at pl) n e)
  unfolding up_to
  units zero h = inr begins
  units (suc n) h = by (units n (omega arith))
    where
      up : ((r : ℕ) × (r < n) × Ends e r) → ((r : ℕ) × (r < suc n) × Ends e r)
      up (r, l, x) = (r, omega arith, x)

      next : Upto n (up_to (unit_at pl) n e) → Ends (up_to (unit_at pl) n e) n ⊎ Handled pl n (up_to (unit_at pl) n e)
          → ((r : ℕ) × (r < suc n) × Ends e r) ⊎ Upto (suc n) (unit_at pl n (up_to (unit_at pl) n e))
      next u (inl x) =
          let a = u.ahead n (omega arith) in
          inl (
            n,
            omega arith,
            record {
              packet = x.packet;
              rest = x.rest;
              queue = sym a.0 ∙ x.queue;
              fresh = sym a.1 ∙ x.fresh;
              kind = x.kind;
              last = x.last;
            },
          )
      next u (inr g) = inr (goes_on n (up_to (unit_at pl) n e) u g)

      by : ((r : ℕ) × (r < n) × Ends e r) ⊎ Upto n (up_to (unit_at pl) n e)
          → ((r : ℕ) × (r < suc n) × Ends e r) ⊎ Upto (suc n) (unit_at pl n (up_to (unit_at pl) n e))
      by (inl x) = inl (up x)
      by (inr u) =
          let a = u.ahead n (omega arith) in
          next u (turn pl n (up_to (unit_at pl) n e) (λ x l q f. own n x l h (sym a.0 ∙ q) (sym a.1 ∙ f)))

-- ---- a packet that ends has left its queue
module _ (pl : Plan) (e : State) (r : ℕ) (x : Ends e r) where
  record Waits (t : State) : Type 0 where
    pub queue : t.lines.queue (q_at r) ≡ x.packet ∷ x.rest
    pub fresh : t.lines.handled (q_at r) ≡ false

  Passed : ℕ → State → Type 0
  Passed n t = ((n ≤ r) × Waits t) ⊎ ((r < n) × (t.lines.queue (q_at r) ≡ x.rest))

  passes : (n : ℕ) (t : State) → Passed n t → Passed (suc n) (unit_at pl n t)
  unfolding Passed
  passes n t p = by (test (eqb n r)) p
    where
      k : Turned pl n t
      k = turned pl n t

      by : (eqb n r ≡ true) ⊎ (eqb n r ≡ false) → ((n ≤ r) × Waits t) ⊎ ((r < n) × (t.lines.queue (q_at r) ≡ x.rest))
          → ((suc n ≤ r) × Waits (unit_at pl n t)) ⊎ ((r < suc n) × ((unit_at pl n t).lines.queue (q_at r) ≡ x.rest))
      by (inl b) (inl (l, w)) =
          let m : n ≡ r = eqb-true n r b in
          inr (
            omega arith,
            rw m (ap (λ (u : State). u.lines.queue (q_at r)) (unit_ends pl (r / 4) (r % 4) t x.packet x.rest
                w.queue w.fresh x.kind x.last) ∙ queue_here t.lines.queue (q_at r) x.rest),
          )
      by (inl b) (inr (l, q)) = let m : n ≡ r = eqb-true n r b in absurd (omega arith)
      by (inr b) (inl (l, w)) =
          let ne : n ≢ r = eqb-false n r b in
          let d : q_at r ≢ q_at n = λ g. ne (sym (q_same r n g)) in
          inl (omega arith, record { queue = k.queue (q_at r) d ∙ w.queue; fresh = k.handled (q_at r) d ∙ w.fresh })
      by (inr b) (inr (l, q)) =
          let d : q_at r ≢ q_at n = λ g. eqb-false n r b (sym (q_same r n g)) in
          inr (omega arith, k.queue (q_at r) d ∙ q)

  after_units : r < 4 * R pl → (up_to (unit_at pl) (4 * R pl) e).lines.queue (q_at r) ≡ x.rest
  unfolding Passed
  after_units h = by (up_keeps_at Passed (unit_at pl) (4 * R pl) e (λ n t l p. passes n t p)
      (inl (omega arith, record { queue = x.queue; fresh = x.fresh })))
    where
      by : ((4 * R pl ≤ r) × Waits (up_to (unit_at pl) (4 * R pl) e))
          ⊎ ((r < 4 * R pl) × ((up_to (unit_at pl) (4 * R pl) e).lines.queue (q_at r) ≡ x.rest))
          → (up_to (unit_at pl) (4 * R pl) e).lines.queue (q_at r) ≡ x.rest
      by (inl (l, w)) = absurd (omega arith)
      by (inr (l, q)) = q

  -- tearing down at an active leaves the units' queues
  undo_leaves : (t : State) (a : ℕ) → (undo pl a t).lines.queue (q_at r) ≡ t.lines.queue (q_at r)
  unfolding join
  undo_leaves t a = by (undo_does pl a t)
    where
      active_not : {a b c : ℕ} → Q a c ≡ active_in b → ⊥
      active_not g = let z : ◌≡◌ {A = ℕ} 0 1 = cc in omega arith

      out_not : {a b c : ℕ} → Q a c ≡ active_out b → ⊥
      out_not g = let z : ◌≡◌ {A = ℕ} 0 1 = cc in omega arith

      joined : (s : State) (y : Packet) → (join (active_out a) y s).lines.queue (q_at r) ≡ s.lines.queue (q_at r)
      joined s y = queue_away s.lines.queue (active_out a) (s.lines.queue (active_out a) ++ (y ∷ []))
          (q_at r) out_not

      by : ActiveDoes pl a t → (undo pl a t).lines.queue (q_at r) ≡ t.lines.queue (q_at r)
      by (waits g) = ap (λ (u : State). u.lines.queue (q_at r)) g
      by (tears y l q m h) =
          ap (λ (u : State). u.lines.queue (q_at r)) (undo_tears pl a t y l q m h)
          ∙ joined (with_queue (active_in a) (marked y ∷ l) t) (tdown_of (S pl) y)
          ∙ queue_away t.lines.queue (active_in a) (marked y ∷ l) (q_at r) active_not

  pub ends_moves : r < 4 * R pl → Moved pl e (do_execute pl e)
  unfolding do_execute
  ends_moves h =
      let u : State = up_to (unit_at pl) (4 * R pl) e in
      let c = all_chosen pl (up_to (unit_at pl) (4 * R pl) e) in
      let a : (up_to (λ n. choose pl (output_at pl n)) (outputs pl) (up_to (unit_at pl) (4 * R pl) e)).lines.queue
      (q_at r)
      ≡ x.rest
      = ap (λ (s : State). s.lines.queue (q_at r)) c.state ∙ after_units h in
      let b : (up_to (undo pl) (A pl)
      (up_to (λ n. choose pl (output_at pl n)) (outputs pl) (up_to (unit_at pl) (4 * R pl) e))).lines.queue (q_at r)
      ≡ x.rest
      = up_keeps (λ (s : State). s.lines.queue (q_at r) ≡ x.rest) (undo pl) (A pl)
      (up_to (λ n. choose pl (output_at pl n)) (outputs pl) (up_to (unit_at pl) (4 * R pl) e))
      (λ n s l q. undo_leaves s n ∙ q) a in
      let m : length (x.packet ∷ x.rest) ≡ length (e.lines.queue (q_at r)) = ap length (sym x.queue) in
      let n = ap length b in
      inr (q_at r, (omega arith, omega arith), omega arith)
