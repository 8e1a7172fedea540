use Rattle.std.proofs.Common.{refl, arith}
use Rattle.modular_transform.proofs.ConvolveLemmas.{convolution_end}
use Rattle.modular_transform.proofs.convolution.multiply.Goals as goal

pub returns-clause-product : goal.returns-clause-product
returns-clause-product g c =
    convolution_end _ _ _ _ _ _ _ _ _ _ _ _ _ _ (g.met.R.Reducer.canonical c.args.r.now) c.requires.suits
    c.requires.inverse refl c.requires.equal (omega arith) (omega arith) (omega arith)
    (omega arith) c.ntt.ensures.entries c.ntt-2.ensures.entries c.multiply_lists.ensures.entries
    c.transform_back.ensures.entries
