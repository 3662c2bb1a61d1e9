use Rattle.show.specs.Hex.{bytes_fit}
use native.Mathlib.Omega.{arith}
use Rattle.show.proofs.show_text.Goals as goal

pub slice_bounds-plan-end : goal.slice_bounds-plan-end
slice_bounds-plan-end g c =
    let few = bytes_fit c.decode.ensures.fits.0 c.in-Ok.is in
    omega arith
