-- An output's pick on bytes: which sender is a candidate, and that the byte stored is the rule's choice.
use mathlib.Core.Path.{◌≡◌, refl, sym, ap, ◌∙◌}
use mathlib.Core.Logic.{◌⊎◌, inl, inr}
use mathlib.Core.Bool.{Bool, true, false, not}
use mathlib.Core.List.{List, [], ◌∷◌}
use mathlib.Core.Option.{some}
use Prim.Native.Nat.{ℕ, zero, suc, ◌+◌, ◌*◌, ◌-◌, ◌≤◌, ◌<◌}
use native.Mathlib.Nat.{add-zero}
use native.Mathlib.Omega.{arith}
use lib.Dec.{eqb, ltb}
use lib.ListN.{get_or, set, drop}
use borrow.Author.Tests.{lt-ltb, ne_eqb}
use Rattle.basis.specs.Choice.{pick, pick_same, test, not_both}
use Rattle.kinds.specs.declared.Credit.{Credit}
use Rattle.packets.specs.declared.Packet.{Packet}
use Rattle.plan.specs.Head.{InRange}
use Rattle.plan.specs.Plan.{Plan}
use Rattle.plan_queues.specs.Queue.{Queue, active_out, active_in, passive_in, passive_out, U, Q, F, K, Exists, number}
use Rattle.plan_queues.specs.Queue.{queues}
use Rattle.plan_queues.specs.Queue.{queue_at}
use Rattle.plan_queues.specs.Role.{is_unit}
use Rattle.plan_queues.specs.Feeds.{Output, heading_of, output_of, next, leaves_from}
use Rattle.plan_facts.specs.Wired.{Wired}
use Rattle.plan_journeys.proofs.Fitting.{fits_visits}
use Rattle.plan_journeys.proofs.Places.{some_not_none}
use Rattle.rules.specs.Store.{put, same_output, same_output_lem}
use Rattle.rules.specs.State.{State, Choice, nobody, sender, with_choice, with_links}
use Rattle.rules.specs.Outputs.{outputs, output_at, next_by, senders}
use Rattle.rules.specs.Execute.{head_ready, candidate, is_open, first_of, next_of, picked, choose}
use Rattle.rules.specs.Progress.{is_in_queue}
use Rattle.rules.specs.Valid.{Belongs}
use Rattle.rules.specs.Write.{of_rank}
use Rattle.rules.proofs.Numbers.{exists_at}
use Rattle.rules.proofs.OutNumbers.{drives_at}
use Rattle.theory.specs.Invariant.{Core}
use Rattle.theory.proofs.Places.Feeders.{sender_leaves}
use Rattle.theory.proofs.Places.Lines.{head_leaves, may_leave_lem, belongs_exists}
use Rattle.theory.proofs.Places.Makes.{next_belongs}
use Rattle.theory.proofs.Kept.Parts.{kept_of}
use Rattle.theory.proofs.Kept.Lines.{head_belongs}
use Rattle.theory.proofs.Progress.Stuck.{next_some}
use Rattle.bytes_layout.specs.Offsets.{queue_row, output_row}
use Rattle.bytes_layout.specs.Codes.{choice_code}
use Rattle.bytes_layout.specs.Places.{packet_at}
use Rattle.bytes_layout.specs.Decode.{length_at}
use Rattle.bytes_layout.specs.Encode.{encode}
use Rattle.bytes_layout.specs.Named.{exists_test_lem}
use Rattle.bytes_layout.proofs.Readings.{credit_at_lem, head_at}
use Rattle.bytes_layout.proofs.Updates.{put_choice}
use Rattle.bytes_steps.specs.Acts.{Steps}
use Rattle.next_queue.specs.Next.{number_or}
use Rattle.phase_pick.specs.Moments.{Tells, Picks, Open, Leaves, chooses, first_code, turn_code, is_candidate}
use Rattle.phase_pick.specs.Moments.{Passed}
use Rattle.phase_pick.specs.Senders.{named, Sends}
use Rattle.phase_pick.proofs.Steps.{steps_same}
use Rattle.phase_pick.proofs.Bytes.{line_some, row_at_lem, no_packet, some_packet, marked, unmarked}
use Rattle.phase_pick.proofs.Senders.{drop_named, first_nobody, first_sender, next_behind, next_again}
use Rattle.phase_pick.proofs.Senders.{next_nobody}

-- ---- a choice of nobody where there is none changes nothing
pub no_choice : (s : State) (o : Output) → s.links.choice o ≡ nobody → with_choice o nobody s ≡ s
no_choice s o e = λ i. with_links (record { wire = s.links.wire; choice = λ x. same x i }) s
  where
    same : (x : Output) → put same_output s.links.choice o nobody x ≡ s.links.choice x
    same x = by (test (same_output x o))
      where
        by : (same_output x o ≡ true) ⊎ (same_output x o ≡ false)
            → put same_output s.links.choice o nobody x ≡ s.links.choice x
        by (inl t) = rw t (sym e ∙ ap s.links.choice (sym (same_output_lem x o t)))
        by (inr t) = rw t

-- in-queues are left by no output
leaves_in : (q : Queue) (o : Output) → output_of q ≡ some o → is_in_queue q ≡ false
leaves_in (active_out x) o e = refl
leaves_in (active_in x) o e = absurd (some_not_none e)
leaves_in (passive_in x) o e = absurd (some_not_none e)
leaves_in (passive_out x) o e = refl
leaves_in (U r i) o e = refl
leaves_in (Q r i) o e = refl
leaves_in (F h r i) o e = refl
leaves_in (K r i j) o e = refl

unit_not : {b : Bool} (q : Queue) → is_unit q ≡ b → b ≡ false → (r i : ℕ) → q ≡ Q r i → ⊥
unit_not q e f r i z = not_both (ap is_unit z) (e ∙ f)

above_zero : (n : ℕ) → not (eqb n 0) ≡ ltb 0 n
above_zero zero = refl
above_zero (suc n) =
    rw (ne_eqb (suc n) 0 (λ e. let z : ◌≡◌ {A = ℕ} 0 1 = cc in omega arith), lt-ltb 0 (suc n) (omega arith))

module _ {pl : Plan} (wired : Wired pl) (range : InRange pl.head) where
  -- ---- a head that may leave by output m
  pub record Going (m n : ℕ) (b : List ℕ) (s : State) : Type 0 where
    pub head : Packet
    pub rest : List Packet
    pub line : s.lines.queue (queue_at pl n) ≡ head ∷ rest
    pub read : packet_at (2 + 39 * n + 4) b ≡ head
    pub belongs : Belongs pl (leaves_from (queue_at pl n)) head
    pub onto : Queue
    pub goes : next_by pl (output_at pl m) head ≡ some onto
    pub there : Exists pl onto

  pub going : (m n : ℕ) (s : State) (rest b : List ℕ) → n < queues pl → output_of (queue_at pl n) ≡ some
      (output_at pl m)
      → Leaves pl n s → b ≡ encode pl s rest → Going m n b s
  unfolding next
  going m n s rest b hn eo l e = by (line_some (s.lines.queue (queue_at pl n)) l.some)
    where
      q : Queue
      q = queue_at pl n

      by : (x : Packet) × (xs : List Packet) × (s.lines.queue (queue_at pl n) ≡ x ∷ xs) → Going m n b s
      by (x, xs, k) = onto_some (next_some wired x.active x.passive belongs.ranges.active
          belongs.ranges.passive belongs.serves (heading_of x.kind) (queue_at pl n)
          (fits_visits pl x.active x.passive x.kind x.hub.0 (queue_at pl n) belongs.fits)
          (leaves_in (queue_at pl n) (output_at pl m) eo))
        where
          belongs : Belongs pl (leaves_from (queue_at pl n)) x
          belongs = rw (← head_leaves s (queue_at pl n) l.may)
              (head_belongs (kept_of pl s l.core) (queue_at pl n) x xs (exists_at pl n hn) k)

          onto_some : (y : Queue) × (next pl (heading_of x.kind) x.active x.passive (queue_at pl n) ≡ some y)
              → Going m n b s
          onto_some (y, g) =
              let g' : next_by pl (output_at pl m) x ≡ some y = rw eo at g in
              record {
                head = x;
                rest = xs;
                line = k;
                read = rw (← row_at_lem pl n hn) (head_at pl s rest b e (queue_at pl n) (exists_at pl n hn) x xs k);
                belongs = belongs;
                onto = y;
                goes = g';
                there = belongs_exists wired y x (next_belongs wired range x (leaves_from (queue_at pl n)) belongs
                    (queue_at pl n) y (output_at pl m) refl eo g');
              }

  -- its next queue's number and row
  pub onto_number : (m n : ℕ) (b : List ℕ) (s : State) (g : Going m n b s) {x : Packet} {v : ℕ}
      → x ≡ packet_at (2 + 39 * n + 4) b → v ≡ number_or pl (next_by pl (output_at pl m) x) → v ≡ number pl g.onto
  onto_number m n b s g {x} {v} ex ev =
      ev ∙ ap (λ (y : Packet). number_or pl (next_by pl (output_at pl m) y)) (ex ∙ g.read)
      ∙ ap (number_or pl) g.goes ∙ rw (exists_test_lem pl g.onto g.there)

  pub onto_row : (m n : ℕ) (b : List ℕ) (s : State) (g : Going m n b s) {v at : ℕ} → v ≡ number pl g.onto
      → at ≡ 2 + 39 * v → at ≡ queue_row pl g.onto
  unfolding queue_row
  onto_row m n b s g ev ea = ea ∙ ap (λ (k : ℕ). 2 + 39 * k) ev

  -- the byte of its credit tells whether it is a candidate
  pub credit_tells : (m n : ℕ) {b : List ℕ} {x : Packet} {v at : ℕ} → n < queues pl
      → output_of (queue_at pl n) ≡ some (output_at pl m) → x ≡ packet_at (2 + 39 * n + 4) b
      → v ≡ number_or pl (next_by pl (output_at pl m) x) → at ≡ 2 + 39 * v
      → Tells pl (Leaves pl n) (is_candidate pl m n) b (not (eqb (get_or b at 0) 0))
  unfolding candidate
  credit_tells m n {b} {x} {v} {at} hn eo ex ev ea =
      record {
        told = λ s rest l e.
            let g = going m n s rest b hn eo l e in
            let row = onto_row m n b s g (onto_number m n b s g ex ev) ea in
            let c : get_or b (queue_row pl g.onto + 0) 0 ≡ (s.flow.credit g.onto).0 =
            ap (λ (k : Credit). k.0) (credit_at_lem pl s rest b e g.onto g.there) in
            let z : get_or b at 0 ≡ (s.flow.credit g.onto).0 =
            ap (λ (i : ℕ). get_or b i 0) (row ∙ sym (add-zero (queue_row pl g.onto))) ∙ c in
            ap (λ (k : ℕ). not (eqb k 0)) z ∙ above_zero (s.flow.credit g.onto).0
            ∙ sym (rw (g.line, l.may, g.goes));
      }

  -- ---- a queue of a state
  empty_not : (s : State) (o : Output) (q : Queue) → s.lines.queue q ≡ [] → candidate pl s o q ≡ false
  unfolding candidate
  empty_not s o q e = rw e

  pub empty_tells : (m n : ℕ) {at : ℕ} {b : List ℕ} → n < queues pl → at ≡ 2 + 39 * n → length_at at b ≡ 0
      → Tells pl (Core pl) (is_candidate pl m n) b false
  empty_tells m n {at} {b} hn ea z =
      record {
        told = λ s rest c e. sym (empty_not s (output_at pl m) (queue_at pl n)
            (no_packet pl s rest b e (queue_at pl n) (exists_at pl n hn) (rw (row_at_lem pl n hn, ← ea) z)));
      }

  unhandled_not : (s : State) (o : Output) (q : Queue) (r i : ℕ) → q ≡ Q r i → s.lines.handled q ≡ false
      → candidate pl s o q ≡ false
  unfolding candidate
  unhandled_not s o q r i e f = rw e (by (s.lines.queue (Q r i)))
    where
      by : (l : List Packet) → head_ready pl s o (s.lines.handled (Q r i)) l ≡ false
      by [] = refl
      by (x ∷ l) = rw (ap s.lines.handled (sym e) ∙ f)

  pub unhandled_tells : (m n : ℕ) {at : ℕ} {b : List ℕ} → n < queues pl → is_unit (queue_at pl n) ≡ true
      → at ≡ 2 + 39 * n → get_or b (at + 2) 0 ≡ 0 → Tells pl (Core pl) (is_candidate pl m n) b false
  unhandled_tells m n {at} {b} hn u ea z =
      record {
        told = λ s rest c e.
            let k = unit_of (queue_at pl n) u in
            sym (unhandled_not s (output_at pl m) (queue_at pl n) k.0 k.1 k.2
            (unmarked pl s rest b e (queue_at pl n) (exists_at pl n hn) (rw (row_at_lem pl n hn, ← ea) z)));
      }
    where
      unit_of : (q : Queue) → is_unit q ≡ true → (r i : ℕ) × (q ≡ Q r i)
      unit_of (active_out x) e = absurd (not_both e refl)
      unit_of (active_in x) e = absurd (not_both e refl)
      unit_of (passive_in x) e = absurd (not_both e refl)
      unit_of (passive_out x) e = absurd (not_both e refl)
      unit_of (U r i) e = absurd (not_both e refl)
      unit_of (Q r i) e = (r, i, refl)
      unit_of (F h r i) e = absurd (not_both e refl)
      unit_of (K r i j) e = absurd (not_both e refl)

  -- it has a head that may leave: a queue at no unit, or a handled head
  pub leaves_passing : (n : ℕ) {at : ℕ} {b : List ℕ} → n < queues pl → is_unit (queue_at pl n) ≡ false → at ≡ 2 + 39 * n
      → (length_at at b ≡ 0 → ⊥) → (s : State) (rest : List ℕ) → Core pl s → b ≡ encode pl s rest → Leaves pl n s
  leaves_passing n {at} {b} hn u ea f s rest c e =
      record {
        core = c;
        some = some_packet pl s rest b e (queue_at pl n) (exists_at pl n hn) (rw (row_at_lem pl n hn, ← ea) f);
        may = may_leave_lem s (queue_at pl n) (λ r i z. absurd (unit_not (queue_at pl n) u refl r i z));
      }

  pub leaves_handled : (n : ℕ) {at : ℕ} {b : List ℕ} → n < queues pl → at ≡ 2 + 39 * n → (length_at at b ≡ 0 → ⊥)
      → (get_or b (at + 2) 0 ≡ 0 → ⊥) → (s : State) (rest : List ℕ) → Core pl s → b ≡ encode pl s rest → Leaves pl n s
  leaves_handled n {at} {b} hn ea f g s rest c e =
      record {
        core = c;
        some = some_packet pl s rest b e (queue_at pl n) (exists_at pl n hn) (rw (row_at_lem pl n hn, ← ea) f);
        may = may_leave_lem s (queue_at pl n)
            (λ r i z. marked pl s rest b e (queue_at pl n) (exists_at pl n hn) (rw (row_at_lem pl n hn, ← ea) g));
      }

  -- ---- the loop over an output's senders
  pub passed_none : (m n i : ℕ) (b : List ℕ) → Passed pl m n i i b
  passed_none m n i b = record { passed = λ s rest c e j g l. absurd (omega arith) }

  -- the senders of rank i and more
  from_rank : (m n i c : ℕ) {unit : Bool} → Sends pl m n c unit
      → drop i (senders (output_at pl m)) ≡ named pl (n + i) (c - i)
  from_rank m n i c ss = ap (drop i) ss.are ∙ drop_named pl n c i

  pub first_found : (m n i c k : ℕ) {b : List ℕ} {r unit : Bool} → Sends pl m n c unit → i ≤ k → k < c
      → Passed pl m n i k b → Tells pl (Core pl) (is_candidate pl m (n + k)) b r → r ≡ true
      → Tells pl (Core pl) (first_code pl m i) b (k + 1)
  first_found m n i c k {b} {r} ss d l p t g = record { told = λ s rest x e. by s rest x e }
    where
      by : (s : State) (rest : List ℕ) → Core pl s → b ≡ encode pl s rest → k + 1 ≡ first_code pl m i s
      by s rest x e =
          let f : first_of (candidate pl s (output_at pl m)) i (named pl (n + i) (c - i)) ≡ sender (i + (k - i)) =
          first_sender pl (candidate pl s (output_at pl m)) i (n + i) (c - i) (k - i) (omega arith)
          (λ j h. let q : n + i + j ≡ n + (i + j) = omega arith in
          rw q (p.passed s rest x e (i + j) (omega arith) (omega arith)))
          (let q : n + i + (k - i) ≡ n + k = omega arith in rw q (sym (t.told s rest x e) ∙ g)) in
          let z : k + 1 ≡ suc (i + (k - i)) = omega arith in
          z ∙ ap choice_code (sym f)
          ∙ ap (λ (qs : List Queue). choice_code (first_of (candidate pl s (output_at pl m)) i qs))
          (sym (from_rank m n i c ss))

  pub first_none : (m n i c : ℕ) {k : ℕ} {b : List ℕ} {unit : Bool} → Sends pl m n c unit → Passed pl m n i k b
      → c ≤ k → Tells pl (Core pl) (first_code pl m i) b 0
  first_none m n i c {k} {b} ss p z = record { told = λ s rest x e. by s rest x e }
    where
      by : (s : State) (rest : List ℕ) → Core pl s → b ≡ encode pl s rest → 0 ≡ first_code pl m i s
      by s rest x e =
          ap choice_code (sym (first_nobody pl (candidate pl s (output_at pl m)) i (n + i) (c - i)
          (λ j h. let q : n + i + j ≡ n + (i + j) = omega arith in
          rw q (p.passed s rest x e (i + j) (omega arith) (omega arith)))))
          ∙ ap (λ (qs : List Queue). choice_code (first_of (candidate pl s (output_at pl m)) i qs))
          (sym (from_rank m n i c ss))

  -- ---- the turn: behind the last sender served there is a candidate, or there is none
  pub turn_found : (m : ℕ) {b : List ℕ} {last v : ℕ}
      → Tells pl (Core pl) (λ s. s.last_sender (output_at pl m)) b last
      → Tells pl (Core pl) (first_code pl m (last + 1)) b v → (v ≡ 0 → ⊥) → Tells pl (Core pl) (turn_code pl m) b v
  turn_found m {b} {last} {v} r t f = record { told = λ s rest x e. by s rest x e }
    where
      by : (s : State) (rest : List ℕ) → Core pl s → b ≡ encode pl s rest → v ≡ turn_code pl m s
      by s rest x e =
          t.told s rest x e
          ∙ sym (next_behind (candidate pl s (output_at pl m)) (senders (output_at pl m)) (r.told s rest x e)
          (λ z. f (t.told s rest x e ∙ z)))

  pub turn_again : (m : ℕ) {b : List ℕ} {last v w : ℕ}
      → Tells pl (Core pl) (λ s. s.last_sender (output_at pl m)) b last
      → Tells pl (Core pl) (first_code pl m (last + 1)) b v → v ≡ 0 → Tells pl (Core pl) (first_code pl m 0) b w
      → Tells pl (Core pl) (turn_code pl m) b w
  turn_again m {b} {last} {v} {w} r t f u = record { told = λ s rest x e. by s rest x e }
    where
      by : (s : State) (rest : List ℕ) → Core pl s → b ≡ encode pl s rest → w ≡ turn_code pl m s
      by s rest x e =
          u.told s rest x e
          ∙ sym (next_again (candidate pl s (output_at pl m)) (senders (output_at pl m)) (r.told s rest x e)
          (sym (t.told s rest x e) ∙ f))

  -- the k-th sender leaves by its output
  pub sends_by : {m n c : ℕ} {unit : Bool} → Sends pl m n c unit → (k : ℕ) → k < c
      → output_of (queue_at pl (n + k)) ≡ some (output_at pl m)
  unfolding named
  sends_by {m} {n} {c} ss k l = sender_leaves (output_at pl m) k (queue_at pl (n + k))
      (ap (λ (qs : List Queue). of_rank qs k) ss.are ∙ ranked n c k l)
    where
      ranked : (n c k : ℕ) → k < c → of_rank (named pl n c) k ≡ some (queue_at pl (n + k))
      ranked n zero k l = absurd (omega arith)
      ranked n (suc c) zero l = rw (add-zero n)
      ranked n (suc c) (suc k) l =
          let e : suc n + k ≡ n + suc k = omega arith in
          ranked (suc n) c k (omega arith) ∙ ap (λ (i : ℕ). some (queue_at pl i)) e

  -- ---- the pick
  pub steps_picked : (m : ℕ) {v at : ℕ} {b : List ℕ} → m < outputs pl → at ≡ output_row pl (output_at pl m)
      → Tells pl (Core pl) (turn_code pl m) b v → Steps pl (Open pl m) (chooses pl m) b (set b (at + 6) v)
  unfolding choose picked
  steps_picked m {v} {at} {b} hm ea t =
      record {
        done = λ s rest o e.
            rw (ea, t.told s rest o.picks.core e, o.opens)
            (ap (λ (c : List ℕ). set c (output_row pl (output_at pl m) + 6) (turn_code pl m s)) e
            ∙ put_choice pl s rest (output_at pl m) (drives_at pl m hm)
            (next_of (candidate pl s (output_at pl m)) (s.last_sender (output_at pl m)) (senders (output_at pl m))));
      }

  -- none of the senders has a packet
  pub steps_idle : (m n c : ℕ) {b : List ℕ} {unit : Bool} → Sends pl m n c unit
      → ((k : ℕ) → k < c → length_at (2 + 39 * (n + k)) b ≡ 0) → Steps pl (Picks pl m) (chooses pl m) b b
  unfolding choose picked
  steps_idle m n c {b} ss z =
      steps_same pl (λ s rest p e.
      let f : next_of (candidate pl s (output_at pl m)) (s.last_sender (output_at pl m)) (named pl n c) ≡ nobody =
      next_nobody pl (candidate pl s (output_at pl m)) (s.last_sender (output_at pl m)) n c
      (λ j l. empty_not s (output_at pl m) (queue_at pl (n + j))
      (let hn : n + j < queues pl = below j l in
      no_packet pl s rest b e (queue_at pl (n + j)) (exists_at pl (n + j) hn) (rw (row_at_lem pl (n + j) hn) (z j l))))
      in
      let g : picked pl s (output_at pl m) ≡ nobody =
      ap (λ (qs : List Queue). pick (is_open s (output_at pl m))
      (next_of (candidate pl s (output_at pl m)) (s.last_sender (output_at pl m)) qs) nobody) ss.are
      ∙ ap (λ (k : Choice). pick (is_open s (output_at pl m)) k nobody) f
      ∙ pick_same (is_open s (output_at pl m)) nobody in
      ap (λ (k : Choice). with_choice (output_at pl m) k s) g
      ∙ no_choice s (output_at pl m) (p.choices m (omega arith) ss.drives))
    where
      below : (j : ℕ) → j < c → n + j < queues pl
      below j l = let f = ss.few in omega arith

  -- the output is not open
  pub steps_closed : (m : ℕ) {b : List ℕ} → m < outputs pl
      → ((s : State) (rest : List ℕ) → Picks pl m s → b ≡ encode pl s rest → is_open s (output_at pl m) ≡ false)
      → Steps pl (Picks pl m) (chooses pl m) b b
  unfolding choose picked
  steps_closed m hm shut =
      steps_same pl (λ s rest p e.
      ap (λ (t : Bool). with_choice (output_at pl m) (pick t (next_of (candidate pl s (output_at pl m))
      (s.last_sender (output_at pl m)) (senders (output_at pl m))) nobody) s) (shut s rest p e)
      ∙ no_choice s (output_at pl m) (p.choices m (omega arith) hm))
