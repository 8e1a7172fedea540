use Rattle.std.proofs.Common.{◌∙◌, arith}
use Rattle.num_modular_c.proofs.SameTerms.{same_transform, cyclic_product_same}
use Rattle.num_modular_c.proofs.transforms.convolved.Goals as goal

pub returns : goal.returns
returns g c =
    let equal = c.requires.equal in
    let done = c.convolve-always.ensures.inverse.1 (rw c.load.auto.xs c.requires.inverse) in
    record {
      product = λ e l. c.unload.ensures e (omega arith) ∙ c.convolve-always.ensures.values done e (omega arith)
          ∙ cyclic_product_same _ e (omega arith) (λ i k. c.load.ensures.values i (omega arith))
          (λ j k. c.load-2.ensures.values j (omega arith));
      transformed = λ j l. c.unload-2.ensures j (omega arith)
          ∙ c.convolve-always.ensures.transformed_values done j (omega arith)
          ∙ same_transform _ j c.transform-g.ensures.value (omega arith)
          (λ i k. c.load-2.ensures.values i (omega arith));
    }

pub convolve-always-requires-clause-suits : goal.convolve-always-requires-clause-suits
convolve-always-requires-clause-suits g c =
    rw (c.transform-g.ensures.value, c.load.auto.xs) c.requires.suits
