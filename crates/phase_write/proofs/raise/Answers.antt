use Rattle.phase_write.proofs.Halves.{raise_none, raise_flag, raise_mark}
use Rattle.phase_write.proofs.raise.Goals as goal

pub returns-then-m-n : goal.returns-then-m-n
returns-then-m-n c = raise_none _ _ _ _ c.if-m-n.true

pub returns-then-m-n-lt5 : goal.returns-then-m-n-lt5
returns-then-m-n-lt5 c = raise_flag _ _ _ _ c.if-m-n.false c.if-m-n-lt5.true

pub returns : goal.returns
returns c = raise_mark _ _ _ _ c.if-m-n.false c.if-m-n-lt5.false
