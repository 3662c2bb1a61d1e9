use Rattle.call_start.proofs.Begins.{start_made}
use Rattle.call_start.proofs.start.Goals as goal

pub returns : goal.returns
returns c =
    start_made c.requires.1 c.table_row.ensures c.fill.ensures
    c.free_table.ensures c.connections_row.ensures c.fill-2.ensures
    c.last_turns.ensures c.all_credits.ensures c.allow.ensures
