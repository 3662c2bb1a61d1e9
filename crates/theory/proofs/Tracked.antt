-- Along a list of calls from Start: a state keeps core and shape, every booked entry is owned once, the connections
-- accepted and not closed since are those that the state keeps, and acceptances are counted against launches. From it
-- the ties that refusal 7 asks, the empty network's table, and demand 3 on the rules.
use mathlib.Core.Path.{◌≡◌, refl, ap}
use mathlib.Core.Bool.{false, false≢true}
use mathlib.Core.List.{List, [], ◌∷◌}
use Prim.Native.Nat.{ℕ, ◌+◌, ◌≤◌, ◌<◌}
use native.Mathlib.Omega.{arith}
use Rattle.kinds.specs.declared.Refusal.{Refusal}
use Rattle.packets.specs.declared.Wire.TheVariants.{Empty}
use Rattle.packets.specs.declared.Phase.{Phase}
use Rattle.packets.specs.declared.Phase.TheVariants.{Read, Execute, Write}
use Rattle.packets.specs.declared.Answer.TheVariants.{Refused, Done, Shows, Holds, Remains}
use Rattle.packets.specs.Counters.{slot_next}
use Rattle.plan.specs.Head.{InRange}
use Rattle.plan.specs.Plan.{Plan, R, A, S}
use Rattle.plan_queues.specs.Queue.{Queue, Q, Exists}
use Rattle.plan_queues.specs.Feeds.{Output, FeedRing}
use Rattle.plan_facts.specs.Wired.{Wired}
use Rattle.rules.specs.State.{State, sender, blank, start, with_phase, with_slot, join}
use Rattle.rules.specs.Read.{deliver, settle, do_read}
use Rattle.rules.specs.Execute.{unit, choose, undo, do_execute}
use Rattle.rules.specs.Write.{send, do_write}
use Rattle.rules.specs.Visits.{launched, reply_kind, replied, removed}
use Rattle.rules.specs.Calls.{Visit, of_launch, of_reply, of_look, of_drop, of_close, of_entry, of_remaining, Call}
use Rattle.rules.specs.Calls.{turn}
use Rattle.rules.specs.Calls.{visit, reply, look, entry, remaining, Outcome, gives, phase_step, call}
use Rattle.rules.specs.Remaining.{remaining_in}
use Rattle.theory.specs.Does.{Visited, launches, replies, looks, drops, closes, tells, counts, Does, refuses}
use Rattle.theory.specs.Does.{turns, visits}
use Rattle.rules.specs.Connections.{Connection, connection}
use Rattle.rules.specs.Accepted.{accept}
use Rattle.rules.specs.Valid.{Drives}
use Rattle.rules.specs.Progress.{Within}
use Rattle.rules.specs.Ruled.{Good, Ruled, Remembers, ruled_after, accepted_after, launches_call}
use Rattle.rules.specs.Ruled.{launches as launches_in, accepts_head, accepts_call, acceptances}
use Rattle.theory.proofs.Does.{call_does}
use Rattle.theory.specs.Invariant.{Core, Sendable, FlagsDown, WiresEmpty, ChoicesSendable, Inv}
use Rattle.theory.proofs.Shape.Calls.{execute_has, write_has}
use Rattle.theory.proofs.Shape.Phases.{read_keeps, execute_keeps, write_keeps}
use Rattle.theory.proofs.Keeps.{good_of, start_inv, call_inv, reply_kind_lem, phase_core, turn_core, deliver_core}
use Rattle.theory.proofs.Keeps.{settle_core, unit_core, choose_core, undo_core, send_core}
use Rattle.theory.proofs.Progress.FromRead.{progress}
use Rattle.theory.specs.Promises.{TdownsOwn}
use Rattle.theory.specs.Owners.{Owned}
use Rattle.theory.proofs.Own.Steps.{start_owned, phase_owned, slot_owned, settle_owned, choose_owned}
use Rattle.theory.proofs.Own.Steps.{deliver_owned, send_owned, undo_owned, launched_owned, replied_owned}
use Rattle.theory.proofs.Own.Steps.{removed_owned, noted_owned}
use Rattle.theory.proofs.Own.Same.{connections_apart, deliver_leaves, settle_leaves, choose_leaves, send_leaves}
use Rattle.theory.proofs.Own.Same.{undo_leaves, unit_leaves}
use Rattle.theory.proofs.Own.Listed.{remembers_same, noted_remembers, closed_remembers}
use Rattle.theory.proofs.Own.Closing.{closed_owned}
use Rattle.theory.proofs.Own.Ties.{owned_ties}
use Rattle.theory.proofs.Own.Units.{unit_owned, tdown_own}
use Rattle.theory.proofs.Own.Table.{owned_table}
use Rattle.theory.proofs.Weights.Launches.{Counted, start_counted, counted_times, phase_counted, slot_counted}
use Rattle.theory.proofs.Weights.Launches.{settle_counted, choose_counted, removed_counted, deliver_counted}
use Rattle.theory.proofs.Weights.Launches.{send_counted, unit_counted, undo_counted, launched_counted}
use Rattle.theory.proofs.Weights.Launches.{replied_counted, noted_counted, closed_counted}

-- inside a phase: the core, who owns what, which connections are kept, and what is on its way to be accepted, with m
-- acceptances and n launches of each connection so far
pub record Midway (pl : Plan) (acc : List Connection) (m n : Connection → ℕ) (s : State) : Type 0 where
  pub core : Core pl s
  pub owned : Owned pl acc s
  pub remembers : Remembers acc s
  pub counted : (d : Connection) → Counted pl d (m d) (n d) s

-- after a call: besides, the shape
pub record Tracked (pl : Plan) (acc : List Connection) (m n : Connection → ℕ) (s : State) : Type 0 where
  pub inv : Inv pl s
  pub owned : Owned pl acc s
  pub remembers : Remembers acc s
  pub counted : (d : Connection) → Counted pl d (m d) (n d) s

module _ {pl : Plan} (wired : Wired pl) (range : InRange pl.head) where
  -- ---- each phase keeps it
  module _ (acc : List Connection) (m n : Connection → ℕ) where
    abbrev M : State → Type 0
    M s = Midway pl acc m n s

    deliver_mid : (o : Output) (s : State) → Drives pl o → M s → M (deliver pl o s)
    deliver_mid o s d k =
        record {
          core = deliver_core wired range o s d k.core;
          owned = deliver_owned wired s k.core k.owned o d;
          remembers = remembers_same s (deliver pl o s) k.remembers (deliver_leaves connections_apart pl s o);
          counted = λ c. deliver_counted pl c wired s k.core (k.counted c) o d;
        }

    settle_mid : (q : Queue) (s : State) → Exists pl q → M s → M (settle q s)
    settle_mid q s h k =
        record {
          core = settle_core wired range q s h k.core;
          owned = settle_owned s k.owned q;
          remembers = remembers_same s (settle q s) k.remembers (settle_leaves connections_apart pl s q);
          counted = λ c. settle_counted pl c s (k.counted c) q;
        }

    phase_mid : (x : Phase) (s : State) → M s → M (with_phase x s)
    phase_mid x s k =
        record {
          core = phase_core wired range x s k.core;
          owned = phase_owned s k.owned x;
          remembers = remembers_same s (with_phase x s) k.remembers refl;
          counted = λ c. phase_counted pl c s (k.counted c) x;
        }

    unit_mid : (r i : ℕ) (s : State) → (r < R pl) × (i < 4) → s.flow.flag (Q r i) ≡ false → M s → M (unit pl r i s)
    unit_mid r i s h f k =
        record {
          core = unit_core wired range r i s h f k.core;
          owned = unit_owned wired s k.core k.owned r i h;
          remembers = remembers_same s (unit pl r i s) k.remembers (unit_leaves (λ c l. c) pl s r i);
          counted = λ c. unit_counted pl c wired s k.core (k.counted c) r i h;
        }

    choose_mid : (o : Output) (s : State) → Drives pl o → M s → M (choose pl o s)
    choose_mid o s d k =
        record {
          core = choose_core wired range o s k.core;
          owned = choose_owned s k.owned o;
          remembers = remembers_same s (choose pl o s) k.remembers (choose_leaves connections_apart pl s o);
          counted = λ c. choose_counted pl c s (k.counted c) o;
        }

    undo_mid : (a : ℕ) (s : State) → a < A pl → M s → M (undo pl a s)
    undo_mid a s h k =
        record {
          core = undo_core wired range a s h k.core;
          owned = undo_owned wired s k.core k.owned a h;
          remembers = remembers_same s (undo pl a s) k.remembers (undo_leaves connections_apart pl s a);
          counted = λ c. undo_counted pl c wired s k.core (k.counted c) a h;
        }

    send_mid : (o : Output) (s : State) → Drives pl o → s.links.wire o ≡ Empty
        → ((k : ℕ) → s.links.choice o ≡ sender k → Sendable pl s o k) → M s → M (send pl o s)
    send_mid o s d w r k =
        record {
          core = send_core wired range o s d w r k.core;
          owned = send_owned wired s k.core k.owned o d r w;
          remembers = remembers_same s (send pl o s) k.remembers
              (send_leaves connections_apart pl s (λ x t. refl) o);
          counted = λ c. send_counted pl c wired s k.core (k.counted c) o d r w;
        }

    turn_mid : (x s : State) → Core pl x → M s → M (with_phase Read (with_slot (slot_next x.clock.slot (S pl)) s))
    turn_mid x s b k =
        record {
          core = turn_core wired range x s b k.core;
          owned = phase_owned (with_slot (slot_next x.clock.slot (S pl)) s)
              (slot_owned s k.owned (slot_next x.clock.slot (S pl))) Read;
          remembers = remembers_same s (with_phase Read (with_slot (slot_next x.clock.slot (S pl)) s)) k.remembers
              refl;
          counted = λ c. phase_counted pl c (with_slot (slot_next x.clock.slot (S pl)) s)
              (slot_counted pl c s (k.counted c) (slot_next x.clock.slot (S pl))) Read;
        }

    read_mid : (s : State) → M s → M (do_read pl s)
    read_mid s k = read_keeps pl M s deliver_mid settle_mid (phase_mid Execute) k

    execute_mid : (s : State) → FlagsDown pl s → M s → M (do_execute pl s)
    execute_mid s f k = execute_keeps pl M s unit_mid choose_mid undo_mid (phase_mid Write) f k

    write_mid : (s : State) → WiresEmpty pl s → ChoicesSendable pl s → M s → M (do_write pl s)
    write_mid s w c k = write_keeps pl M s wired send_mid (λ t. turn_mid s t k.core) w c k

    -- ---- each call keeps ownership and count, with what it accepts, closes and launches
    module _ (s : State) (k : Tracked pl acc m n s) where
      mid : M s
      mid = record { core = k.inv.core; owned = k.owned; remembers = k.remembers; counted = k.counted }

      -- after a call c with its outcome
      pub record Told (c : Call) (r : Outcome) : Type 0 where
        pub owned : Owned pl (accept pl c s r.answer acc) r.state
        pub remembers : Remembers (accept pl c s r.answer acc) r.state
        pub counted : (d : Connection)
            → Counted pl d (accepts_call pl d c s r.answer + m d) (launches_call d c r.answer + n d) r.state

      -- nothing is accepted and nothing closed
      as_before : (c : Call) (r : Outcome) → accept pl c s r.answer acc ≡ acc
          → ((d : Connection) → accepts_call pl d c s r.answer ≡ 0) → Owned pl acc r.state
          → Remembers acc r.state → ((d : Connection) → Counted pl d (m d) (n d) r.state) → Told c r
      as_before c r e z o h f =
          record {
            owned = rw e o;
            remembers = rw e h;
            counted = λ d. record { count = let g = z d in omega (arith, (f d).count) };
          }

      none_accepted : (c : Call) (w : Refusal) → accept pl c s (Refused w) acc ≡ acc
      none_accepted (turn x) w = refl
      none_accepted (visit (of_launch a p t)) w = refl
      none_accepted (visit (of_reply p x)) w = refl
      none_accepted (visit (of_look a)) w = refl
      none_accepted (visit (of_drop a)) w = refl
      none_accepted (visit (of_close a p t)) w = refl
      none_accepted (visit (of_entry r o t)) w = refl
      none_accepted (visit of_remaining) w = refl

      none_counted : (c : Call) (w : Refusal) (d : Connection) → accepts_call pl d c s (Refused w) ≡ 0
      none_counted (turn x) w d = refl
      none_counted (visit (of_launch a p t)) w d = refl
      none_counted (visit (of_reply p x)) w d = refl
      none_counted (visit (of_look a)) w d = refl
      none_counted (visit (of_drop a)) w d = refl
      none_counted (visit (of_close a p t)) w d = refl
      none_counted (visit (of_entry r o t)) w d = refl
      none_counted (visit of_remaining) w d = refl

      turn_mid_at : (x : Phase) → s.clock.phase ≡ x → M (phase_step pl x s)
      turn_mid_at Read e = read_mid s mid
      turn_mid_at Execute e = execute_mid s (execute_has s e k.inv.shape).2 mid
      turn_mid_at Write e = let h = write_has s e k.inv.shape in write_mid s h.0 h.1 mid

      visit_told : (v : Visit) (o : Outcome) → Visited pl s v o → Told (visit v) o
      unfolding launched removed join
      visit_told v o (launches a p t g) =
          record {
            owned = launched_owned wired s k.inv.core k.owned a p t g.active;
            remembers = remembers_same s (launched a p t s) k.remembers refl;
            counted = λ d. record {
              count = omega (
                arith,
                (launched_counted pl d wired s k.inv.core (k.counted d) a p t g.active
                    g.slot).count,
              );
            };
          }
      visit_told v o (replies p c x rest g) =
          let kind = reply_kind_lem wired range c in
          as_before (reply p c) (gives Done (replied p (reply_kind c) (x ∷ rest) s)) refl (λ d. refl)
          (replied_owned wired s k.inv.core k.owned p (reply_kind c) x rest g.passive kind g.line)
          (remembers_same s (replied p (reply_kind c) (x ∷ rest) s) k.remembers refl)
          (λ d. replied_counted pl d wired s k.inv.core (k.counted d) p (reply_kind c) x rest g.passive kind
          g.line)
      visit_told v o (looks a x rest g) =
          as_before (look a) (gives (Shows x) s) refl (λ d. refl) k.owned k.remembers k.counted
      visit_told v o (drops a x rest g) =
          record {
            owned = rw g.line (noted_owned (removed a rest s)
                (removed_owned wired s k.inv.core k.owned a x rest g.active g.line g.marked) x);
            remembers = rw g.line (noted_remembers (removed a rest s)
                (remembers_same s (removed a rest s) k.remembers refl) pl x);
            counted = λ d. record {
              count = let head = ap (accepts_head pl d) g.line in omega (
                arith,
                (noted_counted pl d (removed a rest s)
                    (removed_counted pl d s (k.counted d) a x rest g.active g.line) x).count,
              );
            };
          }
      visit_told v o (closes a p t g) =
          record {
            owned = closed_owned wired s k.inv.core k.owned a p t g.active g.slot
                (k.remembers.only (connection a p t) g.accepted);
            remembers = closed_remembers pl s k.remembers a p t;
            counted = λ d. record {
              count = omega (
                arith,
                (closed_counted pl d wired s k.inv.core (k.counted d) a p t g.active
                    ).count,
              );
            };
          }
      visit_told v o (tells r i t g) =
          as_before (entry r i t) (gives (Holds (s.table r i t)) s) refl (λ d. refl) k.owned k.remembers
          k.counted
      visit_told v o counts =
          as_before remaining (gives (Remains (remaining_in pl s)) s) refl (λ d. refl) k.owned k.remembers
          k.counted

      told : (c : Call) (o : Outcome) → Does pl s c o → Told c o
      told c o (refuses d w g) =
          as_before d (gives (Refused w) s) (none_accepted d w) (none_counted d w) k.owned k.remembers
          k.counted
      told c o (turns x e) =
          let g = turn_mid_at x e in
          as_before (turn x) (gives Done (phase_step pl x s)) refl (λ d. refl) g.owned g.remembers g.counted
      told c o (visits v r d) = visit_told v r d

      pub call_tracked : (c : Call) → Tracked pl (accept pl c s (call pl c s).answer acc)
          (λ d. accepts_call pl d c s (call pl c s).answer + m d) (λ d. launches_call d c (call pl c s).answer + n d)
          (call pl c s).state
      call_tracked c =
          let d = told c (call pl c s) (call_does pl s c) in
          record {
            inv = call_inv wired range c s k.inv;
            owned = d.owned;
            remembers = d.remembers;
            counted = d.counted;
          }

  -- ---- along a list
  pub start_tracked : Tracked pl [] (λ d. 0) (λ d. 0) (start pl)
  unfolding start blank
  start_tracked =
      record {
        inv = start_inv wired range;
        owned = start_owned pl;
        remembers = record { has = λ c i. absurd i; only = λ c h. absurd (false≢true h) };
        counted = λ d. start_counted pl d;
      }

  -- after every list: the accepted connections, the acceptances, and at least as many launches
  pub list_tracked : (cs : List Call) (acc : List Connection) (m n : Connection → ℕ) (s : State)
      → Tracked pl acc m n s
      → Tracked pl (accepted_after pl cs s acc) (λ d. acceptances pl d cs s + m d) (λ d. launches_in pl d cs s + n d)
      (ruled_after pl cs s)
  list_tracked [] acc m n s k =
      record {
        inv = k.inv;
        owned = k.owned;
        remembers = k.remembers;
        counted = λ d. record { count = omega (arith, (k.counted d).count) };
      }
  list_tracked (c ∷ cs) acc m n s k =
      let g = list_tracked cs (accept pl c s (call pl c s).answer acc)
      (λ d. accepts_call pl d c s (call pl c s).answer + m d) (λ d. launches_call d c (call pl c s).answer + n d)
      (call pl c s).state (call_tracked acc m n s k c) in
      record {
        inv = g.inv;
        owned = g.owned;
        remembers = g.remembers;
        counted = λ d. record { count = omega (arith, (g.counted d).count) };
      }

  -- from Start
  pub reached : (cs : List Call) → Tracked pl (accepted_after pl cs (start pl) [])
      (λ d. acceptances pl d cs (start pl) + 0) (λ d. launches_in pl d cs (start pl) + 0) (ruled_after pl cs (start pl))
  reached cs = list_tracked cs [] (λ d. 0) (λ d. 0) (start pl) start_tracked

  -- what is tracked is not refused 7: the ties follow from ownership
  pub tracked_good : {acc : List Connection} {m n : Connection → ℕ} (s : State) → Tracked pl acc m n s → Good pl s
  tracked_good s k = good_of pl s k.inv (owned_ties wired s k.owned k.remembers)

  -- no state reached from Start is refused 7
  pub reached_good : (cs : List Call) → Good pl (ruled_after pl cs (start pl))
  reached_good cs = tracked_good (ruled_after pl cs (start pl)) (reached cs)

  -- no queue holds more than its capacity
  pub reached_within : (cs : List Call) → Within pl (ruled_after pl cs (start pl))
  reached_within cs = (reached_good cs).valid.capacities

  -- the list has at least as many accepted Launches of a triple as Drops that accepted it
  pub reached_launches : (cs : List Call) (d : Connection)
      → acceptances pl d cs (start pl) ≤ launches_in pl d cs (start pl)
  reached_launches cs d = let m = counted_times pl d ((reached cs).counted d) in omega arith

  -- every booked entry is owned by exactly one packet under way or accepted connection, and nothing else is booked
  pub reached_owned : (cs : List Call) → Owned pl (accepted_after pl cs (start pl) []) (ruled_after pl cs (start pl))
  reached_owned cs = (reached cs).owned

  -- the connections accepted and not closed since are those that the state keeps
  pub reached_told : (cs : List Call) → Remembers (accepted_after pl cs (start pl) []) (ruled_after pl cs (start pl))
  reached_told cs = (reached cs).remembers

  -- every TDOWN frees an entry of its own connection
  pub tdowns_own : TdownsOwn pl
  tdowns_own cs = (
    reached_owned cs,
    λ r i x rest h l e f q. tdown_own wired (ruled_after pl cs (start pl)) (reached cs).inv.core (reached_owned cs) r i
        (h, l) x rest e f q,
  )

  -- ---- what every call keeps: core, shape and ownership, with some connections accepted, some acceptances and some
  -- launches
  abbrev pub Held : State → Type 0
  Held s = (acc : List Connection) × (m : Connection → ℕ) × (n : Connection → ℕ) × Tracked pl acc m n s

  pub held_kept : (c : Call) (s : State) → Held s → Held (call pl c s).state
  held_kept c s (acc, m, n, k) = (
    accept pl c s (call pl c s).answer acc,
    (λ d. accepts_call pl d c s (call pl c s).answer + m d),
    (λ d. launches_call d c (call pl c s).answer + n d),
    call_tracked acc m n s k c,
  )

  -- ---- demand 3 on the rules
  pub ruled : (FeedRing pl → ⊥) → Ruled pl
  ruled free =
      record {
        Reached = Held;
        starts = ([], (λ d. 0), (λ d. 0), start_tracked);
        keeps = held_kept;
        good = λ s k. tracked_good s k.3;
        table = λ cs q. owned_table wired (ruled_after pl cs (start pl)) (reached cs).inv.core (reached_owned cs) q;
        told = reached_told;
        progress = λ s g w cs l. progress wired range free s g w cs l;
        launched = reached_launches;
      }
