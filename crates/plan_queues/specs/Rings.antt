-- Document 02 (i): 'such plans are refused as rings. Split Q by incoming side, and F[o] into one queue for set-ups and
-- tear-downs and one for answers .. Feeding is read over the new queues: the crossing two-router plan loads'.
-- Evaluated: with both splits that plan has no ring of feeding queues; with only one of them it has one.
use Rattle.std.specs.Prelude.{◌≡◌, refl, Bool, true, false, ◌||◌, List, [], ◌∷◌, ◌++◌, ℕ, zero, suc, eqb}
use Rattle.std.proofs.Math.Option.{Option, none, some}
use Rattle.basis.specs.Choice.{pick}
use Rattle.basis.specs.Fold.{up_to}
use Rattle.basis.specs.Walk.{spot}
use Rattle.fields.specs.Bits.{bit_at, field_of}
use Rattle.plan.specs.Head.{capacity_at, head_of}
use Rattle.plan.specs.Plan.{Plan, joint_in, plan_of}
use Rattle.plan.specs.Rules.{ports_of, home}
use Rattle.plan_walks.specs.Walk.{onward}
use Rattle.plan_walks.specs.Steps.{index_in, index_on}
use Rattle.plan.specs.Samples.{crossing}
use Rattle.plan_queues.specs.Queue.{Heading, ahead, back, Queue, active_out, active_in, passive_in, passive_out, U, Q}
use Rattle.plan_queues.specs.Queue.{F}
use Rattle.plan_queues.specs.Queue.{K}
use Rattle.plan_queues.specs.Queue.{number}
use Rattle.plan_queues.specs.Role.{is_unit}
use Rattle.plan_queues.specs.Feeds.{came_in, next}

-- ---- journeys
abbrev then : (Queue → List Queue) → Option Queue → List Queue
then f none = []
then f (some q) = f q

-- the queues that a packet of the pair (a, p) goes through from q on, at most n behind it
abbrev journey : Plan → Heading → ℕ → ℕ → ℕ → Queue → List Queue
journey pl h a p zero q = q ∷ []
journey pl h a p (suc n) q = q ∷ then (journey pl h a p n) (next pl h a p q)

-- a queue that feeds another, by their numbers
pub record Edge : Type 0 where
  pub from : ℕ
  pub to : ℕ

abbrev edges : (Queue → ℕ) → List Queue → List Edge
edges f [] = []
edges f (x ∷ []) = []
edges f (x ∷ y ∷ rest) = record { from = f x; to = f y } ∷ edges f (y ∷ rest)

-- of NACKs from the units among some queues
abbrev nacks : Plan → (Queue → ℕ) → ℕ → ℕ → ℕ → List Queue → List Edge
nacks pl f a p n [] = []
nacks pl f a p n (q ∷ rest) = pick (is_unit q) (edges f (journey pl back a p n q)) [] ++ nacks pl f a p n rest

-- of a pair: set-ups and tear-downs along the walk, answers back from the passive, NACKs back from the units
abbrev of_pair : Plan → (Queue → ℕ) → ℕ → ℕ → ℕ → List Edge
of_pair pl f n a p =
    edges f (journey pl ahead a p n (active_out a)) ++ edges f (journey pl back a p n (passive_out p))
    ++ nacks pl f a p n (journey pl ahead a p n (active_out a))

-- ---- rings
abbrev leads : ℕ → List Edge → Bool
leads k [] = false
leads k (e ∷ rest) = eqb e.from k || leads k rest

-- those whose second queue feeds another among all
abbrev going_on : List Edge → List Edge → List Edge
going_on all [] = []
going_on all (e ∷ rest) = pick (leads e.to all) (e ∷ going_on all rest) (going_on all rest)

abbrev size : List Edge → ℕ
size [] = 0
size (e ∷ rest) = suc (size rest)

abbrev peeled : ℕ → List Edge → List Edge
peeled zero all = all
peeled (suc n) all = peeled n (going_on all all)

abbrev some? : List Edge → Bool
some? [] = false
some? (e ∷ rest) = true

-- what is left when nothing can be taken away goes round
abbrev ring_in : List Edge → Bool
ring_in all = some? (peeled (size all) all)

-- ---- the splits
abbrev pub both_split : Queue → Queue
both_split q = q

-- one Q for all sides
abbrev pub one_q : Queue → Queue
one_q (Q r i) = Q r 0
one_q (active_out x) = active_out x
one_q (active_in x) = active_in x
one_q (passive_in x) = passive_in x
one_q (passive_out x) = passive_out x
one_q (U r i) = U r i
one_q (F h r o) = F h r o
one_q (K r i o) = K r i o

-- one F[o] for set-ups, tear-downs and answers
abbrev pub one_f : Queue → Queue
one_f (F h r o) = F ahead r o
one_f (active_out x) = active_out x
one_f (active_in x) = active_in x
one_f (passive_in x) = passive_in x
one_f (passive_out x) = passive_out x
one_f (U r i) = U r i
one_f (Q r i) = Q r i
one_f (K r i o) = K r i o

-- ---- evaluated
-- the pairs of the crossing plan, all of which are served: set-ups cross both ways, and each active reaches the passive
-- at its own router
unfoldable pub crossing_ring : (Queue → Queue) → Bool
unfolding up_to spot bit_at field_of capacity_at head_of joint_in plan_of ports_of home onward index_in index_on came_in
    next number
crossing_ring m = ring_in (of_pairs (plan_of crossing) (λ q. number (plan_of crossing) (m q)))
  where
    of_pairs : Plan → (Queue → ℕ) → List Edge
    of_pairs pl f = of_pair pl f 20 0 0 ++ of_pair pl f 20 0 1 ++ of_pair pl f 20 1 0 ++ of_pair pl f 20 1 1

pub crossing_no_ring : crossing_ring both_split ≡ false
unfolding crossing_ring
crossing_no_ring = refl

pub crossing_one_q : crossing_ring one_q ≡ true
unfolding crossing_ring
crossing_one_q = refl

pub crossing_one_f : crossing_ring one_f ≡ true
unfolding crossing_ring
crossing_one_f = refl
