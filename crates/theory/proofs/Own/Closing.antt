-- A Close keeps every entry owned: what the accepted connection owned its tear-down owns, and nothing else.
use mathlib.Core.Path.{◌≡◌, refl, ap₂, ◌∙◌}
use mathlib.Core.List.{List}
use Prim.Native.Nat.{ℕ, ◌+◌, ◌<◌}
use native.Mathlib.Omega.{arith}
use Rattle.basis.specs.Among.{In}
use Rattle.kinds.specs.declared.Slot.{Slot}
use Rattle.packets.specs.declared.Kind.TheVariants.{Tdown}
use Rattle.packets.specs.Counters.{start_slot}
use Rattle.plan.specs.Plan.{Plan, R, A, S}
use Rattle.plan_queues.specs.Queue.{active_out}
use Rattle.plan_queues.specs.Feeds.{in_queue, span}
use Rattle.plan_facts.specs.Wired.{Wired}
use Rattle.rules.specs.State.{State, join}
use Rattle.rules.specs.Visits.{closing_of, closed}
use Rattle.rules.specs.Connections.{Connection, connection, without}
use Rattle.theory.specs.Invariant.{Core}
use Rattle.theory.specs.Weights.{weighed}
use Rattle.theory.specs.Owners.{Holder, owning, behind, owns_down, owns, owns_made, made, holds, Owned}
use Rattle.theory.proofs.Places.Slots.{start_none}
use Rattle.theory.proofs.Weights.Changes.{closed_weighed}
use Rattle.theory.proofs.Own.Packets.{owns_of}
use Rattle.theory.proofs.Own.Listed.{without_in}
use Rattle.theory.proofs.Own.Made.{made_once, owned_once}

-- A closing tear-down in its active's out-queue owns what its connection owned: all routers of the walk are ahead.
pub closing_owns : (pl : Plan) (r o u : ℕ) (v : Holder) (a p t : ℕ) → t < S pl
    → owns pl r o u v (in_queue (active_out a)) (closing_of pl a p t) ≡ owns_made pl r o u v (connection a p t)
unfolding behind owns_made
closing_owns pl r o u v a p t h =
    let down : owns pl r o u v (in_queue (active_out a)) (closing_of pl a p t)
    ≡ owns_down pl r o u v 0 (closing_of pl a p t) =
    owns_of pl r o u v Tdown (in_queue (active_out a)) (closing_of pl a p t) refl in
    let first : start_slot (record { 0 = t }) (record { 0 = 0 }) (S pl) ≡ record { 0 = t } =
    start_none (S pl) (record { 0 = t }) h in
    let size : 0 + span pl a p ≡ span pl a p = omega arith in
    down ∙ ap₂ (λ (b : Slot) (n : ℕ). owning pl r o u v a p b 0 n) first size

-- A Close keeps the ownership, without its connection among the accepted ones.
pub closed_owned : {pl : Plan} → Wired pl → {acc : List Connection} (s : State) → Core pl s → Owned pl acc s
    → (a p t : ℕ) → a < A pl → t < S pl → In (connection a p t) acc
    → Owned pl (without (connection a p t) acc) (closed pl a p t s)
unfolding closed join
closed_owned {pl} wired {acc} s c k a p t ha ht i =
    record {
      holders = k.holders;
      entries = k.entries;
      owners = owners';
      agreed = λ d j. k.agreed d (without_in d (connection a p t) acc j).0;
    }
  where
    owners' : (r o u : ℕ) → r < R pl → o < 4 → u < S pl → (v : Holder)
        → weighed pl (owns pl r o u v) (closed pl a p t s) + made pl r o u v (without (connection a p t) acc)
        ≡ holds (k.holders r o u) v
    owners' r o u hr ho hu v =
        let all = closed_weighed pl (owns pl r o u v) c a p t ha in
        let own = closing_owns pl r o u v a p t ht in
        let less = made_once pl r o u v (connection a p t) acc (owned_once wired s k (connection a p t) i) in
        let old = k.owners r o u hr ho hu v in
        omega arith
