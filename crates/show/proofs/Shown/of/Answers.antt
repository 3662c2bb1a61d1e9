use Rattle.load.specs.Lent.{lent}
use Rattle.show.proofs.Shown.of.Goals as goal

pub invariant_of-result : goal.invariant_of-result
invariant_of-result c =
    let e = c.load.ensures in
    let t = lent _ _ _ _ _ e.0 c.in_ok-h.was e.1 e.2 e.3 e.4 in
    record { few = (t.range.routers.1, t.range.actives.1, t.range.passives.1); ports = t.ports }
