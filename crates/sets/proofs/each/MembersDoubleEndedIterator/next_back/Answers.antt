use Rattle.std.proofs.Common.{rules, arith, ◌<◌, ◌^◌}
use Rattle.sets.specs.Laws.{highest_is, without_less}
use Rattle.sets.proofs.each.MembersDoubleEndedIterator.next_back.Goals as goal

pub returns-clause-goes : goal.returns-clause-goes
returns-clause-goes g c =
    let fits : g.W.Word.value c.args.self.now.left < 2 ^ 64 = omega (arith, c.wide.ensures.0) in
    let some : 0 < g.W.Word.value c.args.self.now.left = search rules in
    let top = highest_is _ some fits in
    let smaller : g.W.Word.value c.without-self.result < g.W.Word.value c.args.self.now.left =
    rw (c.without-self.ensures, c.highest-top.ensures.0) (without_less _ _ top.there) in
    search rules
