-- While nothing moves: the inner queues, the marks and the table stay, out-queues only grow behind, credits only grow,
-- wires stay empty.
use mathlib.Core.Path.{◌≡◌, refl, sym, ap, ◌∙◌}
use mathlib.Core.Logic.{◌⊎◌, inl, inr}
use mathlib.Core.Bool.{Bool, true, false, ◌&&◌, true≢false}
use mathlib.Core.List.{List, [], ◌∷◌, ◌++◌, append_assoc}
use Prim.Native.Nat.{ℕ, suc, ◌+◌, ◌≤◌, ◌<◌, ◌*◌, ◌/◌, ◌%◌}
use native.Mathlib.Omega.{arith}
use Rattle.basis.specs.Choice.{pick, test}
use Rattle.basis.specs.Bounded.{below_suc}
use Rattle.basis.specs.Fold.{up_to, up_keeps, up_keeps_at}
use Rattle.packets.specs.declared.Packet.{Packet}
use Rattle.packets.specs.declared.Kind.{Kind}
use Rattle.packets.specs.declared.Wire.TheVariants.{Empty}
use Rattle.packets.specs.declared.Phase.{Phase}
use Rattle.packets.specs.declared.Phase.TheVariants.{Execute, Write}
use Rattle.packets.specs.Counters.{slot_next}
use Rattle.plan.specs.Plan.{Plan, R, A, S}
use Rattle.plan_queues.specs.Queue.{Queue, active_out, active_in, passive_in, passive_out, Q, queues, queue_at}
use Rattle.plan_queues.specs.Role.{is_out_queue}
use Rattle.plan_queues.specs.Feeds.{Output}
use Rattle.rules.specs.Store.{put, same_queue, same_queue_lem, same_output, same_output_lem, output_same}
use Rattle.rules.specs.Outputs.{outputs, output_at}
use Rattle.rules.specs.State.{State, Choice, nobody, join, with_phase, with_queue, with_flag, with_choice}
use Rattle.rules.specs.State.{with_connection}
use Rattle.rules.specs.Read.{arrive, deliver, lower, settle, do_read}
use Rattle.rules.specs.Execute.{unit_at, unit, at_unit, picked}
use Rattle.rules.specs.Execute.{choose, answer, at_active, undo, do_execute, has_room, unmarked}
use Rattle.rules.specs.Write.{send_by, send, do_write}
use Rattle.rules.specs.Visits.{launched, replied, removed, closed}
use Rattle.rules.specs.Progress.{is_in_queue}
use Rattle.rules.proofs.OutNumbers.{drives_at}
use Rattle.theory.proofs.Ground.Cells.{queue_away}
use Rattle.theory.specs.Invariant.{WiresEmpty, NoChoices}
use Rattle.theory.proofs.Shape.Arbitration.{chosen, picks_alike}
use Rattle.theory.proofs.Shape.Execute.{q_at}

-- s is as p was, but for what may happen while nothing moves
pub record Same (pl : Plan) (p s : State) : Type 0 where
  pub inner : (q : Queue) → is_out_queue q ≡ false → is_in_queue q ≡ false → s.lines.queue q ≡ p.lines.queue q
  pub outs : (q : Queue) → is_out_queue q ≡ true → (more : List Packet) × (s.lines.queue q ≡ p.lines.queue q ++ more)
  pub handled : (q : Queue) → s.lines.handled q ≡ p.lines.handled q
  pub table : (r o t : ℕ) → s.table r o t ≡ p.table r o t
  pub credit : (q : Queue) → (p.flow.credit q).0 ≤ (s.flow.credit q).0
  pub wires : WiresEmpty pl s

pub same_self : (pl : Plan) (p : State) → WiresEmpty pl p → Same pl p p
same_self pl p w =
    record {
      inner = λ q f i. refl;
      outs = λ q f. ([], sym (nil (p.lines.queue q)));
      handled = λ q. refl;
      table = λ r o t. refl;
      credit = λ q. omega arith;
      wires = w;
    }
  where
    nil : (l : List Packet) → l ++ [] ≡ l
    nil [] = refl
    nil (x ∷ l) = ap (λ (m : List Packet). x ∷ m) (nil l)

-- ---- changes that keep it
module _ (pl : Plan) (p s : State) (same : Same pl p s) where
  -- an in-queue's contents are changed
  pub in_same : (k : Queue) (l : List Packet) → is_out_queue k ≡ false → is_in_queue k ≡ true → Same pl p
      (with_queue k l s)
  in_same k l f i =
      record {
        inner = λ q g j. queue_away s.lines.queue k l q (λ e. true≢false (sym i ∙ ap is_in_queue (sym e) ∙ j))
            ∙ same.inner q g j;
        outs = λ q g. let o = same.outs q g in
            (o.0, queue_away s.lines.queue k l q (λ e. true≢false (sym g ∙ ap is_out_queue e ∙ f)) ∙ o.1);
        handled = same.handled;
        table = same.table;
        credit = same.credit;
        wires = same.wires;
      }

  -- a packet joins an out-queue
  pub join_same : (k : Queue) (x : Packet) → is_out_queue k ≡ true → Same pl p (join k x s)
  unfolding join
  join_same k x f =
      record {
        inner = λ q g j. queue_away s.lines.queue k (s.lines.queue k ++ (x ∷ [])) q
            (λ e. true≢false (sym f ∙ ap is_out_queue (sym e) ∙ g)) ∙ same.inner q g j;
        outs = outs';
        handled = same.handled;
        table = same.table;
        credit = same.credit;
        wires = same.wires;
      }
    where
      outs' : (q : Queue) → is_out_queue q ≡ true → (more : List Packet)
          × (put same_queue s.lines.queue k (s.lines.queue k ++ (x ∷ [])) q ≡ p.lines.queue q ++ more)
      outs' q g = by (test (same_queue q k)) (same.outs q g)
        where
          by : (same_queue q k ≡ true) ⊎ (same_queue q k ≡ false)
              → (more : List Packet) × (s.lines.queue q ≡ p.lines.queue q ++ more)
              → (more : List Packet)
              × (put same_queue s.lines.queue k (s.lines.queue k ++ (x ∷ [])) q ≡ p.lines.queue q ++ more)
          by (inl t) (more, e) =
              let c : q ≡ k = same_queue_lem q k t in (
                more ++ (x ∷ []),
                rw (t, pick) (ap (λ (l : List Packet). l ++ (x ∷ []))
                    (ap s.lines.queue (sym c) ∙ e) ∙ append_assoc (p.lines.queue q) more (x ∷ [])),
              )
          by (inr t) (more, e) = (more, rw (t, pick) e)

-- ---- READ: with empty wires it only adds credits
no_delivery : (pl : Plan) (s : State) (o : Output) → s.links.wire o ≡ Empty → deliver pl o s ≡ s
unfolding deliver arrive
no_delivery pl s o e = rw e

pub none_delivered : (pl : Plan) (s : State) → WiresEmpty pl s
    → up_to (λ n. deliver pl (output_at pl n)) (outputs pl) s ≡ s
none_delivered pl s w =
    up_keeps (λ (t : State). t ≡ s) (λ n. deliver pl (output_at pl n)) (outputs pl) s
    (λ n t h e. no_delivery pl t (output_at pl n) (rw e (w (output_at pl n) (drives_at pl n h))) ∙ e) refl

-- what settling keeps
record Settled (pl : Plan) (p s t : State) : Type 0 where
  pub same : Same pl p t
  pub slot : t.clock.slot ≡ s.clock.slot

settles : (pl : Plan) (p s t : State) (q : Queue) → Settled pl p s t → Settled pl p s (settle q t)
unfolding settle lower
settles pl p s t q k = by (t.flow.flag q) refl
  where
    by : (b : Bool) → t.flow.flag q ≡ b → Settled pl p s (lower q b t)
    by false e = k
    by true e =
        record {
          same = record {
            inner = k.same.inner;
            outs = k.same.outs;
            handled = k.same.handled;
            table = k.same.table;
            credit = credit';
            wires = k.same.wires;
          };
          slot = k.slot;
        }
      where
        credit' : (x : Queue)
            → (p.flow.credit x).0 ≤ (put same_queue t.flow.credit q (record { 0 = (t.flow.credit q).0 + 1 }) x).0
        credit' x = at (test (same_queue x q)) (k.same.credit x)
          where
            at : (same_queue x q ≡ true) ⊎ (same_queue x q ≡ false) → (p.flow.credit x).0 ≤ (t.flow.credit x).0
                → (p.flow.credit x).0 ≤ (put same_queue t.flow.credit q (record { 0 = (t.flow.credit q).0 + 1 })
                x).0
            at (inl u) l = rw (u, pick) (let c : (t.flow.credit x).0 ≡ (t.flow.credit q).0 =
                ap (λ (z : Queue). (t.flow.credit z).0) (same_queue_lem x q u) in omega arith)
            at (inr u) l = rw (u, pick) l

settled_all : (pl : Plan) (p s : State) → Same pl p s
    → Settled pl p s (up_to (λ n. settle (queue_at pl n)) (queues pl) s)
settled_all pl p s k =
    up_keeps (Settled pl p s) (λ n. settle (queue_at pl n)) (queues pl) s
    (λ n t h d. settles pl p s t (queue_at pl n) d)
    (record { same = k; slot = refl })

-- the outcome of a phase in which nothing moves
pub record Stays (pl : Plan) (p s t : State) : Type 0 where
  pub same : Same pl p t
  pub slot : t.clock.slot ≡ s.clock.slot

phase_same : (pl : Plan) (p t : State) (x : Phase) → Same pl p t → Same pl p (with_phase x t)
phase_same pl p t x k =
    record {
      inner = k.inner;
      outs = k.outs;
      handled = k.handled;
      table = k.table;
      credit = k.credit;
      wires = k.wires;
    }

pub read_stays : (pl : Plan) (p s : State) → Same pl p s → Stays pl p s (do_read pl s)
unfolding do_read
read_stays pl p s k =
    let d = none_delivered pl s k.wires in
    let t : Settled pl p s (up_to (λ n. settle (queue_at pl n)) (queues pl)
    (up_to (λ n. deliver pl (output_at pl n)) (outputs pl) s)) = rw d (settled_all pl p s k) in
    record { same = phase_same pl p _ Execute t.same; slot = t.slot }

-- ---- EXECUTE: units with handled heads do nothing, outputs pick, actives tear down
-- no unit has a head that is not handled
abbrev pub AllHandled : Plan → State → Type 0
AllHandled pl s = (n : ℕ) → n < 4 * R pl → (s.lines.queue (q_at n) ≡ []) ⊎ (s.lines.handled (q_at n) ≡ true)

no_unit : (pl : Plan) (s : State) (r i : ℕ) → (s.lines.queue (Q r i) ≡ []) ⊎ (s.lines.handled (Q r i) ≡ true)
    → unit pl r i s ≡ s
unfolding unit at_unit
no_unit pl s r i (inl e) = rw e
no_unit pl s r i (inr e) = by (s.lines.queue (Q r i))
  where
    by : (l : List Packet) → at_unit pl r i l (s.lines.handled (Q r i)) s ≡ s
    by [] = refl
    by (x ∷ l) = rw e

pub no_units : (pl : Plan) (s : State) → AllHandled pl s → up_to (unit_at pl) (4 * R pl) s ≡ s
no_units pl s h =
    up_keeps (λ (t : State). t ≡ s) (unit_at pl) (4 * R pl) s (λ n t l e. no_unit pl t (n / 4) (n % 4) (rw e (h n l))
    ∙ e)
    refl

pub record Chosen (pl : Plan) (s t : State) (n : ℕ) : Type 0 where
  pub choices : Output → Choice
  pub state : t ≡ chosen s choices
  pub picks : (m : ℕ) → m < n → choices (output_at pl m) ≡ picked pl s (output_at pl m)

chooses : (pl : Plan) (s t : State) (n : ℕ) → Chosen pl s t n → Chosen pl s (choose pl (output_at pl n) t) (suc n)
unfolding choose
chooses pl s t n c =
    record {
      choices = put same_output c.choices (output_at pl n) (picked pl t (output_at pl n));
      state = ap (with_choice (output_at pl n) (picked pl t (output_at pl n))) c.state;
      picks = λ m h. at m (below_suc h) (test (same_output (output_at pl m) (output_at pl n)));
    }
  where
    now : picked pl t (output_at pl n) ≡ picked pl s (output_at pl n)
    now = ap (λ (u : State). picked pl u (output_at pl n)) c.state ∙ picks_alike pl s c.choices (output_at pl n)

    at : (m : ℕ) → (m < n) ⊎ (m ≡ n) → (same_output (output_at pl m) (output_at pl n) ≡ true)
        ⊎ (same_output (output_at pl m) (output_at pl n) ≡ false)
        → put same_output c.choices (output_at pl n) (picked pl t (output_at pl n)) (output_at pl m)
        ≡ picked pl s (output_at pl m)
    at m h (inl u) = rw (u, pick) (now ∙ ap (picked pl s) (sym (same_output_lem (output_at pl m) (output_at pl n) u)))
    at m (inl l) (inr u) = rw (u, pick) (c.picks m l)
    at m (inr e) (inr u) = absurd (true≢false (sym (output_same (output_at pl n)) ∙ rw e at u))

pub all_chosen : (pl : Plan) (s : State)
    → Chosen pl s (up_to (λ n. choose pl (output_at pl n)) (outputs pl) s) (outputs pl)
all_chosen pl s =
    up_keeps_at (λ (n : ℕ) (t : State). Chosen pl s t n) (λ n. choose pl (output_at pl n)) (outputs pl) s
    (λ n t h c. chooses pl s t n c)
    (record { choices = s.links.choice; state = refl; picks = λ m h. absurd (omega arith) })

-- what tearing down keeps
record Undone (pl : Plan) (p s t : State) : Type 0 where
  pub same : Same pl p t
  pub slot : t.clock.slot ≡ s.clock.slot
  pub choice : t.links.choice ≡ s.links.choice

undoes : (pl : Plan) (p s t : State) (a : ℕ) → Undone pl p s t → Undone pl p s (undo pl a t)
unfolding undo at_active answer join
undoes pl p s t a k = by (t.lines.queue (active_in a))
  where
    made : (x : Packet) (l : List Packet) (b : Bool) → Undone pl p s (answer pl a x l b t)
    made x l false = k
    made x l true =
        record {
          same = join_same pl p _ (in_same pl p t k.same (active_in a) _ refl refl) (active_out a) _ refl;
          slot = k.slot;
          choice = k.choice;
        }

    by : (l : List Packet) → Undone pl p s (at_active pl a l t)
    by [] = k
    by (x ∷ l) = made x l (unmarked x && has_room pl (active_out a) t)

-- the outcome of EXECUTE: besides, every output's choice is what it picks
pub record Picks (pl : Plan) (p s t : State) : Type 0 where
  pub same : Same pl p t
  pub slot : t.clock.slot ≡ s.clock.slot
  pub picks : (n : ℕ) → n < outputs pl → t.links.choice (output_at pl n) ≡ picked pl s (output_at pl n)

chosen_same : (pl : Plan) (p s : State) (f : Output → Choice) → Same pl p s → Same pl p (chosen s f)
chosen_same pl p s f k =
    record {
      inner = k.inner;
      outs = k.outs;
      handled = k.handled;
      table = k.table;
      credit = k.credit;
      wires = k.wires;
    }

-- after the units: outputs pick and actives tear down
pub execute_rest : (pl : Plan) (p s : State) → Same pl p s
    → Picks pl p s (up_to (undo pl) (A pl) (up_to (λ n. choose pl (output_at pl n)) (outputs pl) s))
execute_rest pl p s k =
    let c = all_chosen pl s in
    let begin : Undone pl p (chosen s c.choices) (up_to (λ n. choose pl (output_at pl n)) (outputs pl) s)
    = rw c.state (record { same = chosen_same pl p s c.choices k; slot = refl; choice = refl }) in
    let u = up_keeps (Undone pl p (chosen s c.choices)) (undo pl) (A pl) (up_to (λ n. choose pl (output_at pl n))
    (outputs pl) s) (λ a t h d. undoes pl p (chosen s c.choices) t a d) begin in
    record {
      same = u.same;
      slot = u.slot;
      picks = λ n h. ap (λ (f : Output → Choice). f (output_at pl n)) u.choice
          ∙ c.picks n h;
    }

pub execute_picks : (pl : Plan) (p s : State) → Same pl p s → AllHandled pl s → Picks pl p s (do_execute pl s)
unfolding do_execute
execute_picks pl p s k h =
    let e = no_units pl s h in
    let t : Picks pl p s (up_to (undo pl) (A pl)
    (up_to (λ n. choose pl (output_at pl n)) (outputs pl) (up_to (unit_at pl) (4 * R pl) s))) = rw e
    (execute_rest pl p s k) in
    record { same = phase_same pl p _ Write t.same; slot = t.slot; picks = t.picks }

-- ---- WRITE: where nobody is picked nothing is sent
no_send : (pl : Plan) (s : State) (o : Output) → s.links.choice o ≡ nobody → send pl o s ≡ s
unfolding send send_by
no_send pl s o e = rw e

pub none_sent : (pl : Plan) (s : State) → NoChoices pl s → up_to (λ n. send pl (output_at pl n)) (outputs pl) s ≡ s
none_sent pl s w =
    up_keeps (λ (t : State). t ≡ s) (λ n. send pl (output_at pl n)) (outputs pl) s
    (λ n t h e. no_send pl t (output_at pl n) (rw e (w (output_at pl n) (drives_at pl n h))) ∙ e) refl

pub write_stays : (pl : Plan) (p s : State) → Same pl p s → NoChoices pl s
    → Same pl p (do_write pl s) × ((do_write pl s).clock.slot ≡ slot_next s.clock.slot (S pl))
unfolding do_write
write_stays pl p s k n =
    let e = none_sent pl s n in (
      rw e (record {
        inner = k.inner;
        outs = k.outs;
        handled = k.handled;
        table = k.table;
        credit = k.credit;
        wires = k.wires;
      }),
      refl,
    )

-- ---- the calls between
pub launch_same : (pl : Plan) (p s : State) (a q t : ℕ) → Same pl p s → Same pl p (launched a q t s)
unfolding launched
launch_same pl p s a q t k =
    let j = join_same pl p s k (active_out a) _ refl in
    record {
      inner = j.inner;
      outs = j.outs;
      handled = j.handled;
      table = j.table;
      credit = j.credit;
      wires = j.wires;
    }

pub reply_same : (pl : Plan) (p s : State) (q : ℕ) (k : Kind) (x : Packet) (l : List Packet) → Same pl p s
    → Same pl p (replied q k (x ∷ l) s)
reply_same pl p s q k x l d =
    let i = in_same pl p s d (passive_in q) l refl refl in
    let f : Same pl p (with_flag (passive_in q) true (with_queue (passive_in q) l s)) = record {
      inner = i.inner;
      outs = i.outs;
      handled = i.handled;
      table = i.table;
      credit = i.credit;
      wires = i.wires;
    } in
    join_same pl p _ f (passive_out q) _ refl

pub remove_same : (pl : Plan) (p s : State) (a : ℕ) (l : List Packet) → Same pl p s → Same pl p (removed a l s)
unfolding removed
remove_same pl p s a l d =
    let i = in_same pl p s d (active_in a) l refl refl in
    record {
      inner = i.inner;
      outs = i.outs;
      handled = i.handled;
      table = i.table;
      credit = i.credit;
      wires = i.wires;
    }

-- a connection set or cleared
pub connection_same : (pl : Plan) (p s : State) (a q t : ℕ) (x : Bool) → Same pl p s
    → Same pl p (with_connection a q t x s)
connection_same pl p s a q t x k =
    record {
      inner = k.inner;
      outs = k.outs;
      handled = k.handled;
      table = k.table;
      credit = k.credit;
      wires = k.wires;
    }

pub close_same : (pl : Plan) (p s : State) (a q t : ℕ) → Same pl p s → Same pl p (closed pl a q t s)
unfolding closed
close_same pl p s a q t k = connection_same pl p _ a q t false (join_same pl p s k (active_out a) _ refl)
