use mathlib.Core.Path.{◌≡◌}
use mathlib.Core.List.{[]}
use Rattle.basis.specs.Fold.{up_to}
use Rattle.plan.specs.declared.Ports.TheVariants.{Missing}
use Rattle.plan.specs.Tables.{table_plan, interface_at}
use Rattle.plan_interfaces.proofs.PortLaws.{port_step}
use Rattle.plan_interfaces.proofs.ports.Given as goal

abbrev pub invariant-loop-i : goal.invariant-loop-i
invariant-loop-i l =
    l.found ≡ up_to (port_step (table_plan l.fn.h [] l.joints) (interface_at l.fn.h l.d)) l.i Missing
