use Rattle.load_arrivals.proofs.served.lack.Goals as goal

pub returns-else-back : goal.returns-else-back
returns-else-back c = rw c.if-back.false c.with.ensures
