use Rattle.modular_folds.specs.Solinas.{IsLowTrinomial}
use Rattle.modular_folds.specs.SolinasLaws.{trinomial_folding}
use Rattle.modular_folds.proofs.TrinomialSteps.{term_read, low_passed}
use Rattle.modular_folds.proofs.solinas.FoldRing+T+TrinomialModulus+T+F.reduce_counted.Goals as goal
use Rattle.modular_folds.proofs.solinas.FoldRing+T+TrinomialModulus+T+F.reduce_counted.Goals.{After-p1-else-is_low}

-- the modulus isn't low where the folds are
counted_trinomial_is_not_low : (g : _) (c : After-p1-else-is_low g) → ¬ IsLowTrinomial g.F.Trinomial.p1 g.F.Trinomial.p2
    g.F.Trinomial.k
counted_trinomial_is_not_low g c low =
    let read = term_read c.k.result c.k.type_inv c.k.ensures in
    let t = c.is_low.ensures.1 (low_passed c.p1.ensures c.p2.ensures read low) in
    cc (t, c.if-is_low.false)

pub reduce_by_folds-requires : goal.reduce_by_folds-requires
reduce_by_folds-requires g c =
    let d = (goal.at.reduce_by_folds-requires g c).After-p1-else-is_low in
    trinomial_folding c.requires _ _ _ (counted_trinomial_is_not_low g d) c.p1-else-is_low.ensures c.factor.ensures
    c.fixed_modulus.ensures.value
