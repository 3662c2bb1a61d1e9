use Rattle.graph_flow.proofs.Laws.{pushed_empty, pushed_none, pushed_some}
use Rattle.graph_flow.proofs.push.Goals as goal

pub returns-then-m-eq0 : goal.returns-then-m-eq0
returns-then-m-eq0 c = pushed_empty _ _ _ _ _ c.both-m.ensures c.if-m-eq0.true

pub returns-then-less-eq0 : goal.returns-then-less-eq0
returns-then-less-eq0 c =
    let at = c in
    pushed_none _ _ _ _ _ at.beyond-n.ensures.0 at.both-m.ensures
    c.less.ensures
    c.if-less-eq0.true

pub returns : goal.returns
returns c =
    let at = c in
    let start = at in
    pushed_some _ _ _ _ _ start.requires.2 at.beyond-n.ensures start.requires.1
    at.both-m.ensures c.either.ensures c.single.ensures
