use Rattle.check_places.proofs.Exits.{router_side, router_unit, router_sender_lem}
use Rattle.check_places.proofs.at_router.Goals as goal

pub returns-then-k-lt4 : goal.returns-then-k-lt4
returns-then-k-lt4 c = router_side _ _ _ _ _ _ _ _ _ _ c.if-k-lt4.true c.at_side.ensures

pub returns-then-k-lt8 : goal.returns-then-k-lt8
returns-then-k-lt8 c =
    router_unit _ _ _ _ _ _ _ _ _ _ c.if-k-lt4.false c.if-k-lt8.true c.at_unit.ensures

pub returns : goal.returns
returns c =
    router_sender_lem _ _ _ _ _ _ _ _ _ _ c.if-k-lt4.false c.if-k-lt8.false c.at_sender.ensures
