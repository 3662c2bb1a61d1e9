-- The tests of packets decide what Valid says of them: a packet belongs at a place, the packets of a queue are lined
-- up, a wire's packet is bound for its queue.
use mathlib.Core.Path.{◌≡◌, refl, sym, ◌∙◌}
use mathlib.Core.Bool.{Bool}
use mathlib.Core.List.{List, [], ◌∷◌}
use mathlib.Core.Option.{Option, none, some}
use Prim.Native.Nat.{ℕ, ◌<◌}
use Rattle.packets.specs.declared.Packet.{Packet}
use Rattle.packets.specs.declared.Wire.{Wire}
use Rattle.packets.specs.declared.Wire.TheVariants.{Empty, Full}
use Rattle.plan.specs.Plan.{Plan, A, P, S}
use Rattle.plan_walks.specs.Served.{Served, served}
use Rattle.plan_queues.specs.Queue.{Queue}
use Rattle.plan_queues.specs.Feeds.{Output, Place, in_queue, head_place}
use Rattle.rules.specs.Outputs.{next_by}
use Rattle.rules.specs.Valid.{PacketOk, Belongs, Lined, Carries}
use Rattle.plan_facts.specs.Wired.{Wired}
use Rattle.plan_journeys.proofs.Walks.{served_of, serves_of}
use Rattle.plan_journeys.proofs.Places.{some_not_none, some_same}
use Rattle.rules.proofs.Apart.{full_not, full_same}
use Rattle.valid.proofs.Decides.{Decides, like, never, always, less, most, both, all_in_lem}
use Rattle.valid.specs.Test.{packet_test, belongs_test, lined_test, bound_test, wire_test}
use Rattle.valid.proofs.Fitting.{fits_decides}

module _ {pl : Plan} (wired : Wired pl) where
  packet_decides : (x : Packet) → Decides (packet_test pl x) (PacketOk pl x)
  unfolding packet_test
  packet_decides x =
      like (both (less x.active (A pl))
      (λ a. both (less x.passive (P pl)) (λ p. both (less x.slot.0 (S pl)) (λ t. most x.hub.0 16))))
      (λ f. record { active = f.0; passive = f.1.0; slot = f.1.1.0; hub = f.1.1.1 })
      (λ k. (k.active, (k.passive, (k.slot, k.hub))))

  pub served_decides : (a p : ℕ) → a < A pl → Decides (served pl a p) (Served pl a p)
  served_decides a p h = record { holds = served_of wired a p h; passes = serves_of wired a p h }

  -- at a place where a journey of its served pair puts it, with a hub that fits
  pub belongs_decides : (at : Place) (x : Packet) → Decides (belongs_test pl at x) (Belongs pl at x)
  unfolding belongs_test
  belongs_decides at x =
      like
      (both (packet_decides x) (λ k. both (served_decides x.active x.passive k.active)
      (λ s. fits_decides wired x.active x.passive k.active k.passive s x.kind x.hub.0 at)))
      (λ f. record { ranges = f.0; serves = f.1.0; fits = f.1.1 })
      (λ b. (b.ranges, (b.serves, b.fits)))

  pub lined_decides : (q : Queue) (done : Bool) (xs : List Packet)
      → Decides (lined_test pl q done xs) (Lined pl q done xs)
  lined_decides q done [] = always (record {})
  lined_decides q done (x ∷ rest) =
      both (belongs_decides (head_place done q) x)
      (λ b. all_in_lem (belongs_test pl (in_queue q)) (Belongs pl (in_queue q)) (belongs_decides (in_queue q)) rest)

  -- ---- wires
  bound_decides : (o : Output) (x : Packet) (t : Option Queue) → next_by pl o x ≡ t
      → Decides (bound_test pl x t) (Carries pl o x)
  bound_decides o x none e = never (λ c. some_not_none (sym e ∙ c.next))
  bound_decides o x (some q) e =
      like (belongs_decides (in_queue q) x) (λ b. record { queue = q; next = e; belongs = b })
      (λ c. rw (some_same (sym e ∙ c.next)) c.belongs)

  pub wire_decides : (o : Output) (t : Wire) → Decides (wire_test pl o t) ((x : Packet) → t ≡ Full x → Carries pl o x)
  wire_decides o Empty = always (λ x e. absurd (full_not e))
  wire_decides o (Full x) =
      like (bound_decides o x (next_by pl o x) refl) (λ c y e. rw (← full_same e) c) (λ f. f x refl)
