use Rattle.std.proofs.Common.{rules}
use Rattle.check_connections.proofs.Exits.{zeros_pass}
use Rattle.check_connections.proofs.ties_ok.Goals as goal

pub returns-then-zeros : goal.returns-then-zeros
returns-then-zeros c =
    zeros_pass c.requires (λ j. search rules)
    c.connections_row-i.ensures c.zeros.ensures c.if-zeros.true
