use mathlib.Core.Path.{◌≡◌, ◌∙◌, sym}
use native.Mathlib.Omega.{arith}
use lib.ListN.{get_or, take}
use Prim.Native.Nat.{◌*◌}
use Rattle.std.proofs.lemmas.Grind.{common_steps}
use borrow.Author.Rules.{rules}
use Rattle.basis.specs.Fold.{up_none, up_more, up_done}
use Rattle.plan.specs.Tables.{interface_at, joint_of_byte}
use Rattle.plan_interfaces.proofs.PortLaws.{port_met, port_passed, ports_up}
use Rattle.plan_interfaces.proofs.ports.Goals as goal
use Rattle.plan_interfaces.proofs.ports.Goals.{then-eq, else-eq}

pub loop-i-init : goal.loop-i-init
loop-i-init c = up_none _ _

pub loop-i-preserved : goal.loop-i-preserved
loop-i-preserved c =
    let e = interface_at c.args.h c.args.d in
    let js = c.args.joints.now in
    let was = c.loop-i.found in
    let here : get_or (take (4 * c.args.h.routers) js) c.loop-i.i 0 ≡ get_or js c.loop-i.i 0 =
    grind (arith, common_steps) in
    let known : c.joint_of.result ≡ joint_of_byte (get_or js c.loop-i.i 0) = rw here at c.joint_of.ensures in
    elim c.if-eq.branch [
      | then-eq k ↦ up_more _ _ _ c.loop-i.invariant
          (k.found-is ∙ k.met-found.ensures
          ∙ port_met c.args.h js e c.loop-i.i was known
          (let same : c.joint_of.result ≡ c.leading_to-wanted.result = search (rules, k.if-eq.true) in
          same ∙ c.leading_to-wanted.ensures))
      | else-eq k ↦ up_more _ _ _ c.loop-i.invariant
          (k.found-is
          ∙ port_passed c.args.h js e c.loop-i.i was known
          (let other : c.joint_of.result ≡ c.leading_to-wanted.result → ⊥ = search (rules, k.if-eq.false) in
          λ q. other (q ∙ sym c.leading_to-wanted.ensures)))
    ]

pub returns : goal.returns
returns c = up_done _ _ c.loop-i.invariant (grind (arith, common_steps)) ∙ sym (ports_up _ _ _)
