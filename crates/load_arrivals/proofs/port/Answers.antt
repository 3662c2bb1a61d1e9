use Rattle.load_arrivals.proofs.port.Goals as goal

pub returns : goal.returns
returns c =
    let l = c.requires.2 c.args.d c.requires.0 in
    (c.from.ensures, rw c.from.ensures l)
