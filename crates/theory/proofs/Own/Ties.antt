-- What refusal 7 asks of the accepted connections follows from ownership: where the state's connections are those that
-- own entries, each is of a served pair and has its entries booked, and no two share one.
use mathlib.Core.Path.{◌≡◌, sym, ◌∙◌}
use mathlib.Core.Logic.{◌⊎◌, inl, inr}
use mathlib.Core.Bool.{true, false}
use mathlib.Core.List.{List}
use Prim.Native.Nat.{ℕ}
use native.Mathlib.Omega.{arith}
use Rattle.basis.specs.Choice.{test}
use Rattle.basis.specs.Among.{In}
use Rattle.plan.specs.Plan.{Plan}
use Rattle.plan_facts.specs.Wired.{Wired}
use Rattle.plan_journeys.proofs.Places.{some_same}
use Rattle.rules.specs.State.{State}
use Rattle.rules.specs.Connections.{Connection, same_connection, Makes}
use Rattle.rules.specs.Valid.{Ties}
use Rattle.rules.specs.Ruled.{Remembers}
use Rattle.theory.specs.Owners.{Holder, holder_of, owns_made, Owned}
use Rattle.theory.proofs.Own.Listed.{same_connection_lem}
use Rattle.theory.proofs.Own.Made.{made_two, makes_owns, makes_inside, holds_most, owned_holder, owned_booked}

-- In an owned state whose connections are those of the list, they are tied to the table.
pub owned_ties : {pl : Plan} → Wired pl → {acc : List Connection} (s : State) → Owned pl acc s → Remembers acc s
    → Ties pl s
owned_ties {pl} wired {acc} s k m =
    record {
      serves = λ c h. (k.agreed c (m.only c h)).serves;
      booked = λ c h. owned_booked wired s k c (m.only c h);
      apart = λ c d h g r o t i j. shared c d (m.only c h) (m.only d g) r o t i j;
    }
  where
    -- two that make one entry have one holder, and own it once together
    shared : (c d : Connection) → In c acc → In d acc → (r o t i j : ℕ) → Makes pl c r o t i → Makes pl d r o t j
        → c ≡ d
    shared c d x y r o t i j e f = by (test (same_connection c d))
      where
        by : (same_connection c d ≡ true) ⊎ (same_connection c d ≡ false) → c ≡ d
        by (inl q) = same_connection_lem c d q
        by (inr q) =
            let v : Holder = holder_of pl c.active c.passive r in
            let h = makes_inside wired c (k.agreed c x) r o t i e in
            let same : v ≡ holder_of pl d.active d.passive r =
            some_same (sym (owned_holder wired s k c x r o t i e) ∙ owned_holder wired s k d y r o t j f) in
            let one : owns_made pl r o t v c ≡ 1 = makes_owns wired c (k.agreed c x) r o t i e in
            let two : owns_made pl r o t v d ≡ 1 = rw same (makes_owns wired d (k.agreed d y) r o t j f) in
            let all = made_two pl r o t v c d acc x y q in
            let sum = k.owners r o t h.0 h.1 h.2 v in
            let most = holds_most (k.holders r o t) v in
            absurd (omega arith)
