use Rattle.long_product.proofs.Coefficients.{by_words}
use Rattle.long_product.proofs.reciprocal.remainder_by_words.Goals as goal

pub returns-clause-value : goal.returns-clause-value
returns-clause-value c = by_words _ c.args.t _ _ c.residue_of_word-top.ensures.value c.remainder.ensures.value
