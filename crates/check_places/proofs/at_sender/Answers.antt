use Rattle.check_places.proofs.Exits.{sender_unit, sender_not, sender_answer, sender_never, sender_below}
use Rattle.check_places.proofs.Exits.{sender_above, back_answers}
use Rattle.check_places.proofs.at_sender.Goals as goal

pub returns-then-goes_back : goal.returns-then-goes_back
returns-then-goes_back c =
    sender_not _ _ _ _ _ _ _ _ _ _ c.if-j-eq0.true (back_answers _ c.goes_back.ensures) c.if-goes_back.true

pub returns-then-j-eq0 : goal.returns-then-j-eq0
returns-then-j-eq0 c =
    sender_unit _ _ _ _ _ _ _ _ _ _ c.if-j-eq0.true (back_answers _ c.goes_back.ensures)
    c.if-goes_back.false c.at_out.ensures

pub returns-then-goes_back-2 : goal.returns-then-goes_back-2
returns-then-goes_back-2 c =
    sender_answer _ _ _ _ _ _ _ _ _ _ c.if-j-eq0.false
    c.if-j-eq1.true (back_answers _ c.goes_back-then-j-eq1.ensures) c.if-goes_back-2.true
    c.at_out-then-goes_back-2.ensures

pub returns-then-j-eq1 : goal.returns-then-j-eq1
returns-then-j-eq1 c =
    sender_never _ _ _ _ _ _ _ _ _ _ c.if-j-eq0.false c.if-j-eq1.true
    (back_answers _ c.goes_back-then-j-eq1.ensures) c.if-goes_back-2.false

pub returns-then-j-o : goal.returns-then-j-o
returns-then-j-o c =
    sender_below _ _ _ _ _ _ _ _ _ _ c.if-j-eq0.false c.if-j-eq1.false
    c.if-j-o.true c.at_cross.ensures

pub returns : goal.returns
returns c =
    sender_above _ _ _ _ _ _ _ _ _ _ c.if-j-eq0.false c.if-j-eq1.false
    c.if-j-o.false c.at_cross-2.ensures
