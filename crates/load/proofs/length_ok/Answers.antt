use native.Mathlib.Omega.{arith}
use Rattle.plan_facts.proofs.Heads.{counts_most}
use Rattle.load.proofs.Exits.{length_wrong, length_fits}
use Rattle.load.proofs.length_ok.Goals as goal

pub overflow_add-bits : goal.overflow_add-bits
overflow_add-bits c = let most = counts_most _ c.requires.1 in omega (arith, most.bits, c.bit_count-bits.ensures)

pub returns-then-plan-bits : goal.returns-then-plan-bits
returns-then-plan-bits c = length_wrong _ c.requires.0 c.bit_count-bits.ensures c.if-plan-bits.true

pub fill_ok-requires : goal.fill_ok-requires
fill_ok-requires c =
    let most = counts_most _ c.requires.1 in
    omega (arith, most.bits, c.bit_count-bits.ensures, c.if-plan-bits.false)

pub returns : goal.returns
returns c = length_fits _ c.requires.0 c.bit_count-bits.ensures
    c.if-plan-bits.false c.fill_ok.ensures
