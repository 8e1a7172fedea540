use Rattle.std.proofs.Common.{arith, pos, ap, ◌∙◌}
use Rattle.modular_folds.specs.SolinasLaws.{trinomial_fits, trinomial_is}
use Rattle.modular_folds.proofs.TrinomialSteps.{term_read}
use Rattle.modular_folds.proofs.solinas.FoldRing+T+TrinomialModulus+T+F.fixed_modulus.Goals as goal

pub word_of-requires : goal.word_of-requires
word_of-requires g c = search (arith, term_read, trinomial_fits)

pub returns : goal.returns
returns g c =
    let term = term_read c.k-2.result c.k-2.type_inv c.k-2.ensures in
    let value = c.word_of.ensures ∙ rw (c.p1-2.ensures, c.p2-2.ensures, term) at c.modulus_of.ensures in
    record { value = value; whole = ap pos value ∙ trinomial_is c.requires }
