-- A packet on a wire: what the code looks up of it is the test that it belongs where it goes.
use mathlib.Core.Path.{◌≡◌, refl, sym, ap, ◌∙◌}
use mathlib.Core.Logic.{◌≢◌}
use mathlib.Core.Bool.{Bool, true, false, false≢true}
use mathlib.Core.List.{List}
use mathlib.Core.Option.{Option, none, some}
use Prim.Native.Nat.{ℕ, ◌+◌, ◌*◌, ◌<◌}
use native.Mathlib.Omega.{arith}
use lib.ListN.{get_or, set}
use Rattle.basis.specs.Choice.{also, also_true, refuted}
use Rattle.packets.specs.declared.Packet.{Packet}
use Rattle.plan.specs.declared.Head.{Head}
use Rattle.plan.specs.Head.{Counts}
use Rattle.plan.specs.Plan.{Plan}
use Rattle.plan.specs.Tables.{table_plan}
use Rattle.plan_walks.specs.Served.{served}
use Rattle.plan_queues.specs.Queue.{Queue, queues, queue_at}
use Rattle.plan_queues.specs.Feeds.{Output, in_queue, head_place}
use Rattle.rules.specs.Outputs.{next_by, output_at}
use Rattle.theory.proofs.Places.Lines.{belongs_exists, head_unhandled}
use Rattle.valid.specs.Test.{packet_test, fits_test, belongs_test, bound_test}
use Rattle.valid.proofs.Packets.{belongs_decides}
use Rattle.bytes_steps.specs.Counts.{queues_by}
use Rattle.check_places.specs.Asked.{Asked}
use Rattle.check_queues.specs.Ready.{Ready}
use Rattle.check_frames.specs.Tally.{tallied}
use Rattle.check_frames.proofs.Tallies.{tallied_one}
use Rattle.check_queues.proofs.Turns.{asking}
use Rattle.next_queue.specs.Wiring.{Wiring}
use Rattle.next_queue.specs.Next.{no_queue, number_or}
use Rattle.check_wires.specs.Outputs.{Carried}
use Rattle.check_choices.proofs.Bytes.{head_is}
use Rattle.check_choices.proofs.Named.{Names, named, not_unnamed}
use Rattle.check_wires.proofs.Bringing.{brought_one}

none_of : (a b c : Bool) → false ≡ also a b → false ≡ also a (also b c)
none_of true true c g = absurd (false≢true g)
none_of true false c g = refl
none_of false b c g = refl

-- a number below that of no queue
pub not_none : {n : ℕ} → n < no_queue → n ≢ no_queue
not_none l e = omega arith

-- a packet that does not pass is not counted
pub not_carried : (pl : Plan) (m : ℕ) (x : Packet) (c d t u : List ℕ)
    → false ≡ bound_test pl x (next_by pl (output_at pl m) x) → Carried pl m x false c d t u
not_carried pl m x c d t u e =
    record { test = e; come = λ f. absurd (false≢true f); count = λ f. absurd (false≢true f) }

module _ {h : Head} {routes : List (List ℕ)} {joints homes : List ℕ} {lengths by up : List (List ℕ)}
    (ready : Ready h routes joints homes lengths by up) where
  abbrev net : Plan
  net = table_plan h routes joints

  pub table_head : net.head ≡ h
  table_head = head_is h routes joints

  pub ready_wiring : Wiring h routes joints homes
  unfolding table_plan
  ready_wiring =
      record {
        range = ready.lent.range;
        wired = ready.lent.tables.chart.wired;
        ports = ready.lent.tables.chart.ports;
      }

  pub ready_counts : Counts h
  ready_counts =
      let r = ready.lent.range in (r.routers.1, r.actives.1, r.passives.1)

  counts : Counts net.head
  counts = rw table_head ready_counts

  module _ (x : Packet) {p : Bool} (e : p ≡ also (packet_test net x) (served net x.active x.passive)) where
    -- its numbers, and its pair
    pub unfit : (m : ℕ) → p ≡ false → false ≡ bound_test net x (next_by net (output_at net m) x)
    unfolding belongs_test
    unfit m f = at (next_by net (output_at net m) x)
      where
        at : (t : Option Queue) → false ≡ bound_test net x t
        at none = refl
        at (some q) =
            none_of (packet_test net x) (served net x.active x.passive)
            (fits_test net x.kind x.active x.passive x.hub.0 (in_queue q)) (sym f ∙ e)

    module _ (f : p ≡ true) where
      tested : (packet_test net x ≡ true) × (served net x.active x.passive ≡ true)
      tested = also_true {a = packet_test net x} {b = served net x.active x.passive} (sym e ∙ f)

      pub asked : Asked h h.actives (h.actives + h.passives) (28 * h.routers) routes joints homes lengths by up
          x.active x.passive
      asked = asking ready x (sym e ∙ f)

      pub numbers : (x.active < h.actives) × (x.passive < h.passives)
      unfolding table_plan
      numbers = (asked.active, asked.passive)

      pub active_few : x.active < 16
      active_few = let a = ready.lent.range.actives.1 in let b = numbers.0 in omega arith

      pub passive_few : x.passive < 16
      passive_few = let a = ready.lent.range.passives.1 in let b = numbers.1 in omega arith

      -- where it goes
      module _ (m v : ℕ) (g : v ≡ number_or net (next_by net (output_at net m) x)) where
        abbrev o : Output
        o = output_at net m

        abbrev bound : Bool
        bound = bound_test net x (next_by net o x)

        pub nowhere : v ≡ no_queue → false ≡ bound
        nowhere z = at (next_by net o x) refl
          where
            at : (t : Option Queue) → next_by net o x ≡ t → false ≡ bound_test net x t
            at none k = refl
            at (some q) k =
                sym (refuted (belongs_test net (in_queue q) x) (λ b. not_unnamed net q v counts
                (belongs_exists ready_wiring.wired q x
                ((belongs_decides ready_wiring.wired (in_queue q) x).holds b))
                (g ∙ ap (number_or net) k) z))

        module _ (ne : v ≢ no_queue) where
          abbrev to : Names net (next_by net o x) v
          to = named net (next_by net o x) v g ne

          pub in_queues : v < queues net
          in_queues = to.below

          pub in_table : v < 512
          in_table =
              let l = in_queues in let k = queues_by net in
              let a = counts.0 in let b = counts.1 in let c = counts.2 in
              omega arith

          module _ {y : Bool}
              (fit : y ≡ fits_test net x.kind x.active x.passive x.hub.0
              (head_place false (queue_at net v))) where
            bound_is : bound ≡ y
            unfolding belongs_test
            bound_is =
                ap (bound_test net x) to.is
                ∙ rw (tested.0, tested.1, fit, to.at, head_unhandled to.queue)

            pub misfit : y ≡ false → false ≡ bound
            misfit k = sym (bound_is ∙ k)

            pub carried : y ≡ true → (c t : List ℕ) {u : List ℕ} → u ≡ tallied x t
                → Carried net m x true c (set c v (get_or c v 0 + 1)) t u
            carried k c t k2 =
                record {
                  test = sym (bound_is ∙ k);
                  come = λ z. rw to.is (brought_one net counts to.queue v to.at to.below c);
                  count = λ z. rw k2 (tallied_one x t active_few);
                }
