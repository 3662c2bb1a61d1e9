use Rattle.call_start.proofs.Credits.{router_made}
use Rattle.call_start.proofs.router_credits.Goals as goal

pub returns : goal.returns
returns c =
    router_made _ _ _ c.fill.ensures c.fill-2.ensures
    c.fill-3.ensures c.fill-4.ensures
    c.fill-5.ensures c.fill-6.ensures
