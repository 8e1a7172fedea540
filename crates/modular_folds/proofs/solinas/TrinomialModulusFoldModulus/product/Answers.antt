use Rattle.modular_folds.specs.SolinasLaws.{trinomial_folding}
use Rattle.modular_folds.proofs.TrinomialSteps.{term_read, low_passed}
use Rattle.modular_folds.proofs.solinas.TrinomialModulusFoldModulus.product.Goals as goal

pub reduce_product-requires-clause-folding : goal.reduce_product-requires-clause-folding
reduce_product-requires-clause-folding g c =
    let read = term_read c.k.result c.k.type_inv c.k.ensures in
    trinomial_folding c.args.self.now.range _ _ _
    (λ low. let t = c.is_low.ensures.1 (low_passed c.p1.ensures c.p2.ensures read low) in cc (t, c.if-is_low.false))
    c.p1-else-is_low.ensures c.factor.ensures c.modulus.ensures
