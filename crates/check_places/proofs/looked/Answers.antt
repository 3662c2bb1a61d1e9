use Rattle.check_places.proofs.Exits.{fits_out, fits_router, fits_in}
use Rattle.check_places.proofs.looked.Goals as goal

pub returns-then-n-outs : goal.returns-then-n-outs
returns-then-n-outs c = fits_out _ _ _ _ _ _ _ _ _ _ _ _ c.if-n-outs.true c.sent.ensures

pub returns-then-m-inner : goal.returns-then-m-inner
returns-then-m-inner c =
    fits_router _ _ _ _ _ _ _ _ _ _ _ _ c.if-n-outs.false c.if-m-inner.true
    c.at_router.ensures

pub returns : goal.returns
returns c =
    fits_in _ _ _ _ _ _ _ _ _ _ _ _ c.if-n-outs.false c.if-m-inner.false c.received.ensures
