use Rattle.graph_flow.proofs.Laws.{partner_some, partner_none}
use Rattle.graph_flow.proofs.partner.Goals as goal

pub returns-then-v-eq1 : goal.returns-then-v-eq1
returns-then-v-eq1 c = partner_some _ _ c.from-v.ensures c.if-v-eq1.true

pub returns-else-v-eq1 : goal.returns-else-v-eq1
returns-else-v-eq1 c = partner_none _ _ c.from-v.ensures c.if-v-eq1.false
