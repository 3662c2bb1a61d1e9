-- The side by which a pair's walk comes in to a router, as it is looked up, is the one that the rules speak of.
use Rattle.std.proofs.Math.Option.{Option as Maybe, some, none}
use mathlib.Core.Path.{◌≡◌, refl, sym, ◌∙◌}
use mathlib.Core.Logic.{inl, inr}
use mathlib.Core.Bool.{Bool, true, false}
use mathlib.Core.List.{List}
use Prim.Native.Nat.{ℕ, ◌+◌, ◌*◌, ◌/◌, ◌%◌, ◌≤◌, ◌<◌}
use native.Mathlib.Omega.{arith}
use lib.ListN.{get_or}
use Rattle.std.specs.Option.{MatchOption, unwrap_or}
use Rattle.std.specs.declared.option.Option.{Option}
use Rattle.std.specs.declared.option.Option.TheVariants.{None, Some}
use Rattle.basis.specs.Choice.{not_both}
use Rattle.packets.specs.declared.Kind.TheVariants.{Setup}
use Rattle.packets.specs.declared.Packet.{Packet}
use Rattle.plan.specs.declared.Head.{Head}
use Rattle.plan.specs.Plan.{Plan, active, passive, A, P, no_side}
use Rattle.plan.specs.Rules.{home}
use Rattle.plan.specs.Tables.{table_plan}
use Rattle.plan_walks.specs.Served.{Served}
use Rattle.plan_walks.specs.Steps.{index_on}
use Rattle.plan_queues.specs.Feeds.{came_by, came_in}
use Rattle.load_arrivals.specs.Charted.{Charting}
use Rattle.load_arrivals.specs.Tracks.{Tracks}
use Rattle.theory.proofs.Places.CameIn.{stands_inside, came_in_lem}
use Rattle.theory.proofs.Places.Indices.{index_stands}
use Rattle.check_places.specs.declared.Trip.{Trip}
use Rattle.check_places.specs.Asked.{Asked}
use Rattle.check_places.specs.Look.{track_at, trip_of, next_by, comes_by, SideIn}
use Rattle.check_places.proofs.OnTrack.{Trips}
use Rattle.check_places.proofs.Fitting.{comes_by_lem}
use Rattle.check_places.proofs.Exits.{comes_here, comes_later}
use Rattle.check_places.proofs.Law.{chart, pair, trips}

-- ---- the search
module _ (joints : List ℕ) (by up : List (List ℕ)) (from d r : ℕ) where
  -- the walk begins at the router
  pub by_start : from / 4 ≡ r → SideIn joints by up from d r (from % 4)
  by_start e =
      let at : from ≡ 4 * r + from % 4 = omega arith in
      inl (omega arith, sym (comes_here joints by up from d (4 * r + from % 4) at))

  -- it begins elsewhere: what is looked up of side i
  module _ (other : from / 4 ≡ r → ⊥) (i : ℕ) (l : i < 4) {t : Bool}
      (e : t ≡ next_by joints by (track_at up (from / 4) d) d (4 * r + i)) where
    comes : t ≡ comes_by joints by up from d (4 * r + i)
    comes = comes_later joints by up from d (4 * r + i) (λ z. other (omega arith)) e

  -- so the first side that is found is the one
  abbrev Next : ℕ → Bool
  Next i = next_by joints by (track_at up (from / 4) d) d (4 * r + i)

  pub by_search : (from / 4 ≡ r → ⊥) → (o : Option ℕ)
      → MatchOption o ((k : ℕ) → 0 ≤ k → k < 4 → Next k ≡ false)
      (λ i. (0 ≤ i) × (i < 4) × (Next i ≡ true) × ((k : ℕ) → 0 ≤ k → k < i → Next k ≡ false))
      → SideIn joints by up from d r (unwrap_or o no_side)
  by_search other None h = inr (refl, λ k l. sym (comes other k l refl) ∙ h k (omega arith) l)
  by_search other (Some i) h = inl (h.1, sym (comes other i h.1 refl) ∙ h.2)

-- ---- what it finds
module _ {pl : Plan} {by : List (List ℕ)} {joints homes : List ℕ} (c : Charting pl by joints homes)
    (up : List (List ℕ)) (tracks : Tracks pl up) (a p : ℕ) (ha : a < A pl) (hp : p < P pl) (s : Served pl a p)
    (t : Trip) (trip : Trips pl a p t) (r : ℕ) (l : r < 16) where
  found_side : (i : ℕ) → SideIn joints by up t.home t.column r i → i ≡ came_in pl a p r
  unfolding came_in
  found_side i (inl (four, e)) =
      let m = (comes_by_lem c up tracks a p ha hp s t trip r l Setup 0 i four).holds e in
      sym (came_in_lem c.wired a p ha hp s m.steps r i m.here)
  found_side i (inr (e, f)) = e ∙ sym (off (index_on pl (passive p) (home pl (active a)) r) refl)
    where
      off : (k : Maybe ℕ) → index_on pl (passive p) (home pl (active a)) r ≡ k → came_by pl a p k ≡ no_side
      off none g = refl
      off (some k) g =
          let j = index_stands pl a p r k g in
          let four = (stands_inside c.wired a p ha hp s k r j.0 j.1).1 in
          absurd (not_both ((comes_by_lem c up tracks a p ha hp s t trip r l Setup 0 j.0 four).passes
          (record { steps = k; here = j.1 })) (f j.0 four))

-- an active's port, read at its number
pub home_few : {v i j : ℕ} (homes : List ℕ) → v ≡ get_or homes i 0 → i ≡ j → get_or homes j 0 < 64 → v < 64
home_few homes e f l = rw (e, f) l

pub side_in_is : {h : Head} {actives outs inner : ℕ} {routes : List (List ℕ)} {joints homes : List ℕ}
    {lengths by up : List (List ℕ)} (x : Packet)
    → (asked : Asked h actives outs inner routes joints homes lengths by up x.active x.passive)
    → {r i from a p : ℕ} → r < 16 → from ≡ get_or homes a 0 → a ≡ x.active → p ≡ x.passive
    → SideIn joints by up from (actives + p) r i → i ≡ came_in (table_plan h routes joints) x.active x.passive r
unfolding trip_of
side_in_is {actives = actives} {homes = homes} {lengths = lengths} {up = up} x asked {r} {i} l e f g found =
    found_side (chart x asked) up asked.tracks x.active x.passive asked.active asked.passive
    (pair x asked) (trip_of actives homes lengths x) (trips x asked refl) r l i (rw (e, f, g) at found)
