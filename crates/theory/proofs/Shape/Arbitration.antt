-- The laws of arbitration: what an output picks is a candidate among its senders; an open output that picks nobody has
-- none; and from the last sender that it served on, cyclically, no candidate comes before what it picks. And what it
-- looks at: not at choices, so that outputs may pick in any order. Nothing else looks at how the pick is made.
use mathlib.Core.Path.{◌≡◌, refl, sym, ap, ap₂, ◌∙◌}
use mathlib.Core.Logic.{◌⊎◌, inl, inr}
use mathlib.Core.Bool.{Bool, true, false}
use mathlib.Core.List.{List, [], ◌∷◌}
use mathlib.Core.Option.{Option, none, some}
use Prim.Native.Nat.{ℕ, zero, suc, ◌+◌, ◌-◌, ◌≤◌, ◌<◌}
use native.Mathlib.Omega.{arith}
use lib.Dec.{ltb}
use lib.ListN.{drop}
use Rattle.basis.specs.Choice.{also, test, not_both}
use Rattle.kinds.specs.declared.Credit.{Credit}
use Rattle.plan.specs.Plan.{Plan}
use Rattle.packets.specs.declared.Packet.{Packet}
use Rattle.plan_queues.specs.Queue.{Queue}
use Rattle.plan_queues.specs.Role.{role}
use Rattle.plan_queues.specs.Feeds.{Output, of_active, of_passive, of_side, to_unit, from_unit}
use Rattle.plan_journeys.proofs.Places.{some_same, some_not_none}
use Rattle.rules.specs.Outputs.{next_by, senders}
use Rattle.rules.specs.State.{State, Choice, nobody, sender, with_links}
use Rattle.rules.specs.Execute.{has_credit, may_leave_as, may_leave, head_ready, candidate, is_open, first_of, or_else}
use Rattle.rules.specs.Execute.{next_of, picked}
use Rattle.rules.specs.Write.{of_rank}
use Rattle.rules.proofs.Apart.{nobody_not, sender_same}

first_found : (ready : Queue → Bool) (n : ℕ) (qs : List Queue) (k : ℕ) → first_of ready n qs ≡ sender k
    → (m : ℕ) × (k ≡ n + m) × ((q : Queue) × (of_rank qs m ≡ some q) × (ready q ≡ true))
unfolding first_of
first_found ready n [] k e = absurd (nobody_not e)
first_found ready n (p ∷ qs) k e = by (λ f. first_found ready (suc n) qs k f) (test (ready p))
  where
    later : (m : ℕ) × (k ≡ suc n + m) × ((q : Queue) × (of_rank qs m ≡ some q) × (ready q ≡ true))
        → (m : ℕ) × (k ≡ n + m) × ((q : Queue) × (of_rank (p ∷ qs) m ≡ some q) × (ready q ≡ true))
    later (m, l, f) = (suc m, omega arith, f)

    by : (first_of ready (suc n) qs ≡ sender k → (m : ℕ) × (k ≡ suc n + m)
        × ((q : Queue) × (of_rank qs m ≡ some q) × (ready q ≡ true)))
        → (ready p ≡ true) ⊎ (ready p ≡ false)
        → (m : ℕ) × (k ≡ n + m) × ((q : Queue) × (of_rank (p ∷ qs) m ≡ some q) × (ready q ≡ true))
    by rec (inl t) = let z : n ≡ k = sender_same (rw (t, first_of) at e) in (0, omega arith, (p, refl, t))
    by rec (inr t) = later (rec (rw (t, first_of) at e))

first_none : (ready : Queue → Bool) (n : ℕ) (qs : List Queue) → first_of ready n qs ≡ nobody → (k : ℕ) (q : Queue)
    → of_rank qs k ≡ some q → ready q ≡ false
unfolding first_of
first_none ready n [] e k q r = absurd (some_not_none r)
first_none ready n (p ∷ qs) e k q r = by (λ f m g. first_none ready (suc n) qs f m q g) (test (ready p))
  where
    by : (first_of ready (suc n) qs ≡ nobody → (m : ℕ) → of_rank qs m ≡ some q → ready q ≡ false)
        → (ready p ≡ true) ⊎ (ready p ≡ false) → ready q ≡ false
    by rec (inl t) = absurd (nobody_not (sym (rw (t, first_of) at e)))
    by rec (inr t) = at k r
      where
        at : (k : ℕ) → of_rank (p ∷ qs) k ≡ some q → ready q ≡ false
        at zero f = rw (← some_same f) t
        at (suc m) f = rec (rw (t, first_of) at e) m f

-- no candidate comes before the first
first_least : (ready : Queue → Bool) (n : ℕ) (qs : List Queue) (k : ℕ) → first_of ready n qs ≡ sender k
    → (m : ℕ) (q : Queue) → of_rank qs m ≡ some q → ready q ≡ true → k ≤ n + m
unfolding first_of
first_least ready n [] k e m q r c = absurd (some_not_none r)
first_least ready n (p ∷ qs) k e m q r c = by (λ f i g. first_least ready (suc n) qs k f i q g c) (test (ready p))
  where
    by : (first_of ready (suc n) qs ≡ sender k → (i : ℕ) → of_rank qs i ≡ some q → k ≤ suc n + i)
        → (ready p ≡ true) ⊎ (ready p ≡ false) → k ≤ n + m
    by rec (inl t) = let z : n ≡ k = sender_same (rw (t, first_of) at e) in omega arith
    by rec (inr t) = at m r
      where
        at : (i : ℕ) → of_rank (p ∷ qs) i ≡ some q → k ≤ n + i
        at zero f = absurd (not_both (rw (some_same f) c) t)
        at (suc i) f = let l = rec (rw (t, first_of) at e) i f in omega arith

-- ---- from behind a rank on, and then from the beginning
-- the senders behind i ones have ranks from i on
rank_behind : (i : ℕ) (qs : List Queue) (m : ℕ) → of_rank (drop i qs) m ≡ of_rank qs (i + m)
rank_behind zero qs m = let z : m ≡ 0 + m = omega arith in ap (of_rank qs) z
rank_behind (suc i) [] m = refl
rank_behind (suc i) (q ∷ qs) m =
    let z : suc (i + m) ≡ suc i + m = omega arith in rank_behind i qs m ∙ ap (of_rank (q ∷ qs)) z

-- one of the two, and the other only where that is nobody
else_cases : (c d : Choice) (k : ℕ) → or_else c d ≡ sender k → (c ≡ sender k) ⊎ ((c ≡ nobody) × (d ≡ sender k))
else_cases nobody d k e = inr (refl, e)
else_cases (sender n) d k e = inl e

else_none : (c d : Choice) → or_else c d ≡ nobody → d ≡ nobody
else_none nobody d e = e
else_none (sender n) d e = absurd (nobody_not (sym e))

-- what is found is a candidate
next_found : (ready : Queue → Bool) (l : ℕ) (qs : List Queue) (k : ℕ) → next_of ready l qs ≡ sender k
    → (q : Queue) × (of_rank qs k ≡ some q) × (ready q ≡ true)
unfolding next_of
next_found ready l qs k e = by (else_cases (first_of ready (suc l) (drop (suc l) qs)) (first_of ready 0 qs) k e)
  where
    from : (i : ℕ) → (m : ℕ) × (k ≡ i + m) × ((q : Queue) × (of_rank (drop i qs) m ≡ some q) × (ready q ≡ true))
        → (q : Queue) × (of_rank qs k ≡ some q) × (ready q ≡ true)
    from i (m, z, (q, r, c)) = (q, ap (of_rank qs) z ∙ sym (rank_behind i qs m) ∙ r, c)

    by : (first_of ready (suc l) (drop (suc l) qs) ≡ sender k)
        ⊎ ((first_of ready (suc l) (drop (suc l) qs) ≡ nobody) × (first_of ready 0 qs ≡ sender k))
        → (q : Queue) × (of_rank qs k ≡ some q) × (ready q ≡ true)
    by (inl f) = from (suc l) (first_found ready (suc l) (drop (suc l) qs) k f)
    by (inr (g, f)) = from 0 (first_found ready 0 qs k f)

-- where nobody is found there is no candidate
next_none : (ready : Queue → Bool) (l : ℕ) (qs : List Queue) → next_of ready l qs ≡ nobody → (k : ℕ) (q : Queue)
    → of_rank qs k ≡ some q → ready q ≡ false
unfolding next_of
next_none ready l qs e =
    first_none ready 0 qs (else_none (first_of ready (suc l) (drop (suc l) qs)) (first_of ready 0 qs) e)

-- from behind rank l on, cyclically, rank k comes not after rank j
abbrev pub NotAfter : ℕ → ℕ → ℕ → Type 0
NotAfter l k j = ((l < k) × (l < j → k ≤ j)) ⊎ ((k ≤ j) × (j ≤ l))

-- no candidate comes before what is found
next_least : (ready : Queue → Bool) (l : ℕ) (qs : List Queue) (k : ℕ) → next_of ready l qs ≡ sender k
    → (j : ℕ) (q : Queue) → of_rank qs j ≡ some q → ready q ≡ true → NotAfter l k j
unfolding next_of
next_least ready l qs k e j q r c = by (else_cases (first_of ready (suc l) (drop (suc l) qs)) (first_of ready 0 qs) k e)
  where
    -- a candidate behind l
    there : (l < j) → (m : ℕ) × (j ≡ suc l + m) × (of_rank (drop (suc l) qs) m ≡ some q)
    there h = let z : j ≡ suc l + (j - suc l) = omega arith in
        (j - suc l, z, rank_behind (suc l) qs (j - suc l) ∙ ap (of_rank qs) (sym z) ∙ r)

    behind : first_of ready (suc l) (drop (suc l) qs) ≡ sender k → (l < j) → k ≤ j
    behind f h = let (m, z, g) = there h in
        let b = first_least ready (suc l) (drop (suc l) qs) k f m q g c in omega arith

    by : (first_of ready (suc l) (drop (suc l) qs) ≡ sender k)
        ⊎ ((first_of ready (suc l) (drop (suc l) qs) ≡ nobody) × (first_of ready 0 qs ≡ sender k)) → NotAfter l k j
    by (inl f) = inl (let (m, z, g) = first_found ready (suc l) (drop (suc l) qs) k f in omega arith, behind f)
    by (inr (g, f)) = let b = first_least ready 0 qs k f j q r c in inr (omega arith, none_behind)
      where
        none_behind : j ≤ l
        none_behind =
            let a : l < j → ⊥ = λ h. not_both c
            (first_none ready (suc l) (drop (suc l) qs) g (there h).0 q (there h).2) in
            omega arith

-- ---- the pick
-- what is picked is a candidate, of an open output
pub picked_candidate : (pl : Plan) (s : State) (o : Output) (k : ℕ) → picked pl s o ≡ sender k
    → (is_open s o ≡ true) × ((q : Queue) × (of_rank (senders o) k ≡ some q) × (candidate pl s o q ≡ true))
unfolding picked
picked_candidate pl s o k e = by (test (is_open s o))
  where
    by : (is_open s o ≡ true) ⊎ (is_open s o ≡ false)
        → (is_open s o ≡ true) × ((q : Queue) × (of_rank (senders o) k ≡ some q) × (candidate pl s o q ≡ true))
    by (inl t) = (t, next_found (candidate pl s o) (s.last_sender o) (senders o) k (rw (t, picked) at e))
    by (inr t) = absurd (nobody_not (rw (t, picked) at e))

-- where nobody is picked, the output is not open, or no sender is a candidate
pub picked_none : (pl : Plan) (s : State) (o : Output) → picked pl s o ≡ nobody
    → (is_open s o ≡ false) ⊎ ((k : ℕ) (q : Queue) → of_rank (senders o) k ≡ some q → candidate pl s o q ≡ false)
unfolding picked
picked_none pl s o e = by (test (is_open s o))
  where
    by : (is_open s o ≡ true) ⊎ (is_open s o ≡ false)
        → (is_open s o ≡ false) ⊎ ((k : ℕ) (q : Queue) → of_rank (senders o) k ≡ some q → candidate pl s o q ≡ false)
    by (inl t) = inr (next_none (candidate pl s o) (s.last_sender o) (senders o) (rw (t, picked) at e))
    by (inr t) = inl t

-- from the last sender on, cyclically, no candidate comes before what is picked
pub picked_least : (pl : Plan) (s : State) (o : Output) (k : ℕ) → picked pl s o ≡ sender k → (j : ℕ) (q : Queue)
    → of_rank (senders o) j ≡ some q → candidate pl s o q ≡ true → NotAfter (s.last_sender o) k j
unfolding picked
picked_least pl s o k e = by (test (is_open s o))
  where
    by : (is_open s o ≡ true) ⊎ (is_open s o ≡ false) → (j : ℕ) (q : Queue) → of_rank (senders o) j ≡ some q
        → candidate pl s o q ≡ true → NotAfter (s.last_sender o) k j
    by (inl t) = next_least (candidate pl s o) (s.last_sender o) (senders o) k (rw (t, picked) at e)
    by (inr t) = absurd (nobody_not (rw (t, picked) at e))

-- ---- the pick does not look at choices
-- s with other choices
abbrev pub chosen : State → (Output → Choice) → State
chosen s f = with_links (record { wire = s.links.wire; choice = f }) s

credit_alike : (s t : State) → t.flow.credit ≡ s.flow.credit → (y : Option Queue) → has_credit t y ≡ has_credit s y
credit_alike s t c none = refl
credit_alike s t c (some q) = ap (λ (m : Queue → Credit). ltb 0 (m q).0) c

ready_alike : (pl : Plan) (s t : State) → t.flow.credit ≡ s.flow.credit → (o : Output) (b : Bool) (l : List Packet)
    → head_ready pl t o b l ≡ head_ready pl s o b l
ready_alike pl s t c o b [] = refl
ready_alike pl s t c o b (x ∷ l) = ap (also b) (credit_alike s t c (next_by pl o x))

-- whether a queue is a candidate is told by its packets, its mark and the credits
pub candidate_alike : (pl : Plan) (s t : State) (o : Output) (q : Queue) → t.lines.queue q ≡ s.lines.queue q
    → t.lines.handled q ≡ s.lines.handled q → t.flow.credit ≡ s.flow.credit
    → candidate pl t o q ≡ candidate pl s o q
unfolding candidate
candidate_alike pl s t o q l m c =
    ap₂ (λ (b : Bool) (xs : List Packet). head_ready pl t o (may_leave_as (role q) b) xs) m l
    ∙ ready_alike pl s t c o (may_leave s q) (s.lines.queue q)

open_alike : (s : State) (f : Output → Choice) (o : Output) → is_open (chosen s f) o ≡ is_open s o
open_alike s f (of_active a) = refl
open_alike s f (of_passive a) = refl
open_alike s f (of_side r o) = refl
open_alike s f (to_unit r) = refl
open_alike s f (from_unit r) = refl

first_alike : (f g : Queue → Bool) → ((q : Queue) → f q ≡ g q) → (k : ℕ) (qs : List Queue)
    → first_of f k qs ≡ first_of g k qs
unfolding first_of
first_alike f g h k [] = refl
first_alike f g h k (q ∷ qs) = rw (h q, first_alike f g h (suc k) qs)

next_alike : (f g : Queue → Bool) → ((q : Queue) → f q ≡ g q) → (l : ℕ) (qs : List Queue)
    → next_of f l qs ≡ next_of g l qs
unfolding next_of
next_alike f g h l qs = ap₂ or_else (first_alike f g h (suc l) (drop (suc l) qs)) (first_alike f g h 0 qs)

-- an output picks the same whatever was picked before
pub picks_alike : (pl : Plan) (s : State) (f : Output → Choice) (o : Output) → picked pl (chosen s f) o ≡ picked pl s o
unfolding picked
picks_alike pl s f o = rw (
  open_alike s f o,
  next_alike (candidate pl (chosen s f) o) (candidate pl s o)
      (λ q. candidate_alike pl s (chosen s f) o q refl refl refl) (s.last_sender o) (senders o),
)
