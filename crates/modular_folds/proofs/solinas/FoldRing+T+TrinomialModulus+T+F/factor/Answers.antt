use Rattle.std.proofs.Common.{arith}
use Rattle.modular_folds.specs.SolinasLaws.{power_fits, trinomial_positive}
use Rattle.modular_folds.proofs.TrinomialSteps.{term_read}
use Rattle.modular_folds.proofs.solinas.FoldRing+T+TrinomialModulus+T+F.factor.Goals as goal

pub word_of-requires : goal.word_of-requires
word_of-requires g c =
    let whole = rw (c.p1.ensures, c.p2.ensures, term_read c.k.result c.k.type_inv c.k.ensures) at c.factor_of.ensures in
    omega (arith, g.met.T.PathWord.base_is, power_fits c.requires, trinomial_positive c.requires, whole)
