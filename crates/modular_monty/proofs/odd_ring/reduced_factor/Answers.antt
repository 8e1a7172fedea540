use Rattle.modular_monty.proofs.UnitBases.{factor_of_reduction}
use Rattle.modular_monty.proofs.odd_ring.reduced_factor.Goals as goal

pub returns-clause-factor : goal.returns-clause-factor
returns-clause-factor g c =
    let n = g.T.RingWord.number in
    factor_of_reduction g.T.PathWord.base (n c.args.m) (g.T.PathWord.double_number c.args.t) (n c.clearing-x.result)
    (n c.reduce_below_by.result) c.requires.below c.reduce_below_by.ensures.reduction c.reduce_below_by.ensures.whole
