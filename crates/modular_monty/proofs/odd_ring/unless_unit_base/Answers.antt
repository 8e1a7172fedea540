use Rattle.modular_monty.proofs.UnitBases.{unit_reduction}
use Rattle.modular_monty.proofs.odd_ring.unless_unit_base.Goals as goal

pub returns-then-is_unit_base : goal.returns-then-is_unit_base
returns-then-is_unit_base g c =
    let n = g.T.RingWord.number in
    unit_reduction g.T.PathWord.base (n c.args.m) (g.T.PathWord.double_number c.args.t) (n c.split.result.0)
    (n c.split.result.1) (c.is_unit_base.ensures c.if-is_unit_base.true) c.requires.below c.is_below.ensures.fits
    c.split.ensures.value
