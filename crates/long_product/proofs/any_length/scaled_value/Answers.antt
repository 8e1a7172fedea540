use Rattle.std.proofs.Common.{length, arith}
use Rattle.long_product.proofs.Bluestein.{horner_all}
use Rattle.long_product.proofs.any_length.scaled_value.Goals as goal

pub returns : goal.returns
returns c =
    horner_all _ _ c.args.w (length c.args.xs.now) c.terms.i _ _ c.args.xs.now (omega arith) c.terms.invariant.value
    c.residue_of_product.ensures.value
