use Rattle.check_idle.proofs.word.Goals as goal

pub returns : goal.returns
unfolding Rattle.check_idle.specs.Bytes.word_at
returns c = simp (c.from.ensures, c.four.ensures, c.from-2.ensures, c.four-2.ensures)
