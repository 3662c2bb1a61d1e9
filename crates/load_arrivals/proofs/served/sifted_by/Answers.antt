use mathlib.Core.Path.{refl}
use Rattle.load_arrivals.proofs.Meeting.{blank, rows}
use Rattle.load_arrivals.proofs.served.sifted_by.Goals as goal

pub sifted_in-requires : goal.sifted_in-requires
sifted_in-requires o c =
    let pre = c.requires in (pre.0, pre.1, rw (rows o.row.N refl) pre.2, blank o.row.N refl)
