use Rattle.std.proofs.Common.{arith}
use Rattle.modular_folds.proofs.FoldSteps.{power_fits}
use Rattle.modular_folds.proofs.far.reduced_far.Goals as goal

pub plus-mask-requires : goal.plus-mask-requires
plus-mask-requires g c =
    omega (arith, power_fits c.requires.folding, c.one.ensures, c.minus.ensures, c.requires.folding.whole)
