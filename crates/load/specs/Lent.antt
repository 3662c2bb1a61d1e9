-- What an accepted Load leaves in the lent tables: the plan of its bytes, and the port of each interface.
use Rattle.std.specs.Prelude.{◌≡◌, Bool, true, false, List, [], ℕ, ◌*◌, ◌≤◌, ◌<◌, ltb, get_or, replicate}
use Rattle.std.specs.Prelude.{Result, Ok}
use Rattle.kinds.specs.declared.Refusal.{Refusal}
use Rattle.std.proofs.Common.{sym, ap, ◌∙◌, arith, lt-ltb}
use Rattle.std.proofs.lemmas.List.{length-replicate}
use Rattle.basis.specs.Choice.{pick}
use Rattle.basis.specs.Fold.{up_to, up_keeps, fill, fill_at}
use Rattle.plan.specs.declared.Head.{Head}
use Rattle.plan.specs.Head.{InRange, Counts, head_of, destinations}
use Rattle.plan.specs.declared.Ports.{Ports}
use Rattle.plan.specs.declared.Ports.TheVariants.{Missing, One, Several}
use Rattle.plan.specs.Plan.{Plan, Interface, R, A, P, plan_of}
use Rattle.plan.specs.Rules.{joint_of_port, leads_to, meet, ports_of, port_or0}
use Rattle.plan.specs.Tables.{interface_at, table_plan, homes_of, routes_of, joints_of}
use Rattle.load_arrivals.specs.Pairs.{pair_walk, lengths_of}
use Rattle.plan_facts.proofs.Heads.{head_ok_lem}
use Rattle.plan_facts.proofs.Tables.{table_plan_lem}
use Rattle.load.specs.Load.{load_of, load_routes, load_joints, load_homes, load_lengths}
use Rattle.load.specs.Rules.{passes}

-- the lent tables of an accepted plan: they give the plan of the bytes, and the ports of its interfaces
pub record Lent (b : List ℕ) (h : Head) (routes : List (List ℕ)) (joints homes : List ℕ)
    (lengths : List (List ℕ)) : Type 0 where
  pub range : InRange h
  pub plan : table_plan h routes joints ≡ plan_of b
  pub ports : homes ≡ homes_of (table_plan h routes joints)
  pub walks : lengths ≡ lengths_of (table_plan h routes joints)

pub lent : (b : List ℕ) (t : List (List ℕ)) (j o : List ℕ) (u : List (List ℕ)) {h : Head} {l : Result Head Refusal}
    {routes : List (List ℕ)} {joints homes : List ℕ}
    {lengths : List (List ℕ)} → l ≡ load_of b → l ≡ Ok h
    → routes ≡ load_routes b t (load_of b) → joints ≡ load_joints b j (load_of b) → homes ≡ load_homes b o (load_of b)
    → lengths ≡ load_lengths b u (load_of b) → Lent b h routes joints homes lengths
lent b t j o u {h} {l} {routes} {joints} {homes} e a f g k m =
    let accepted : load_of b ≡ Ok h = sym e ∙ a in
    let p = passes b h accepted in
    let range : InRange (head_of b) = head_ok_lem (head_of b) p.0.ranges in
    let routed : routes ≡ routes_of b (head_of b) = f ∙ ap (load_routes b t) accepted ∙ ap (routes_of b) p.1 in
    let joined : joints ≡ joints_of b (head_of b) = g ∙ ap (load_joints b j) accepted ∙ ap (joints_of b) p.1 in
    let same : table_plan h routes joints ≡ plan_of b = rw (routed, joined, p.1) (table_plan_lem b range) in
    record {
      range = rw p.1 range;
      plan = same;
      ports = k ∙ ap (load_homes b o) accepted ∙ ap homes_of (sym same);
      walks = m ∙ ap (load_lengths b u) accepted ∙ ap lengths_of (sym same);
    }

-- ---- the table of lengths
pub length_at_lem : (pl : Plan) (a p : ℕ) → A pl ≤ 16 → P pl ≤ 16 → a < A pl → p < P pl
    → get_or (get_or (lengths_of pl) a []) p 0 ≡ pair_walk pl a p
unfolding lengths_of
length_at_lem pl a p ma mp la lp =
    ap (λ (row : List ℕ). get_or row p 0)
    (fill_at (λ i. up_to (fill (λ q. pick (ltb q (P pl)) (pair_walk pl i q) 0)) 16 (replicate 16 0)) (A pl)
    (replicate 16 (replicate 16 0)) a [] la (rw length-replicate ma))
    ∙ fill_at (λ q. pick (ltb q (P pl)) (pair_walk pl a q) 0) 16 (replicate 16 0) p 0 (omega arith)
    (rw length-replicate (omega arith))
    ∙ rw (lt-ltb p (P pl) lp)

-- ---- the table of homes
pub homes_at : (pl : Plan) (d : ℕ) → destinations pl.head ≤ 32 → d < destinations pl.head
    → get_or (homes_of pl) d 0 ≡ port_or0 (ports_of pl (interface_at pl.head d))
unfolding homes_of
homes_at pl d m l =
    fill_at (λ d. port_or0 (ports_of pl (interface_at pl.head d))) (destinations pl.head) (replicate 32 0) d 0 l
    (rw length-replicate (omega arith))

-- ---- the port of an interface is one of 64
meet_below : (found : Bool) (i : ℕ) (t : Ports) → i < 64 → port_or0 t < 64 → port_or0 (meet found i t) < 64
meet_below true i Missing l h = l
meet_below false i Missing l h = h
meet_below true i (One k) l h = omega arith
meet_below false i (One k) l h = h
meet_below found i Several l h = h

home_below : (pl : Plan) (e : Interface) → R pl ≤ 16 → port_or0 (ports_of pl e) < 64
unfolding ports_of
home_below pl e h =
    up_keeps (λ t. port_or0 t < 64) (λ i t. meet (leads_to e (joint_of_port pl i)) i t) (4 * R pl) Missing
    (λ i t l q. meet_below (leads_to e (joint_of_port pl i)) i t (omega arith) q) (omega arith)

pub home_small : (h : Head) (routes : List (List ℕ)) (joints : List ℕ) → Counts h → {homes : List ℕ}
    → homes ≡ homes_of (table_plan h routes joints) → (d : ℕ) {from : ℕ} → d < destinations h → from ≡ get_or homes d 0
    → from < 64
unfolding table_plan
home_small h routes joints few known d l e =
    let same : get_or (homes_of (table_plan h routes joints)) d 0
    ≡ port_or0 (ports_of (table_plan h routes joints) (interface_at h d))
    = homes_at (table_plan h routes joints) d (omega arith) l in
    rw (e, known, same) (home_below (table_plan h routes joints) (interface_at h d) few.0)
