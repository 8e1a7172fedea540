use Rattle.std.proofs.Common.{arith}
use Rattle.modular_folds.specs.SolinasLaws.{trinomial_positive}
use Rattle.modular_folds.proofs.solinas.FoldRing+T+TrinomialModulus+T+F.remainder.Goals as goal

pub narrow_remainder-requires : goal.narrow_remainder-requires
narrow_remainder-requires g c = omega (arith, trinomial_positive c.requires, c.fixed_modulus.ensures.value)
