use Rattle.std.proofs.Common.{arith}
use Rattle.modular_folds.proofs.solinas.FoldRing+T+TrinomialModulus+T+F.reduce_single.Goals as goal

pub returns : goal.returns
returns g c = search arith
