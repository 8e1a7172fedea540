use Rattle.std.proofs.Common.{◌*◌, sym, ◌∙◌, arith}
use Rattle.modular_plan_passes.proofs.FactorProducts.{any_times_below}
use Rattle.modular_plan_transforms.proofs.Reductions.{IsReducing, is_reducing, high_words, reduced_congruent}
use Rattle.modular_plan_transforms.proofs.products.reduced_product.Goals as goal
use Rattle.modular_plan_transforms.proofs.products.reduced_product.Goals.{After-split-multiple}

-- the product and the multiple of m
split_product_is_reducing : (g : _) (c : After-split-multiple g)
    → IsReducing g.T.PathWord.base (g.T.RingWord.number c.args.m.now.modulus)
    (g.T.RingWord.number c.args.x * g.T.RingWord.number c.args.y) (g.T.RingWord.number c.wrapping_mul.result)
    (g.T.RingWord.number c.split-low.result.0) (g.T.RingWord.number c.split-low.result.1)
    (g.T.RingWord.number c.split-multiple.result.1)
split_product_is_reducing g c =
    let n = g.T.RingWord.number in
    is_reducing _ _ _ _ (n c.split-multiple.result.0) _ c.requires.inverse
    (sym c.product.ensures.value ∙ c.split-low.ensures.value)
    (any_times_below _ _ _ _ c.product.ensures.fits c.requires.below)
    c.split-low.ensures.low_fits c.wrapping_mul.ensures.value c.wrapping_mul.ensures.fits
    (sym c.product-2.ensures.value ∙ c.split-multiple.ensures.value) c.split-multiple.ensures.low_fits

pub minus-requires : goal.minus-requires
minus-requires g c = (high_words
    (split_product_is_reducing g (goal.at.minus-requires g c).After-split-multiple)).multiple_at_most

pub plus-requires : goal.plus-requires
plus-requires g c =
    let below = (high_words (split_product_is_reducing g (goal.at.plus-requires g c).After-split-multiple)).below in
    omega (arith, below, c.minus.ensures.value, c.args.m.now.some, c.args.m.now.room)

pub returns-clause-below : goal.returns-clause-below
returns-clause-below g c =
    let below = (high_words (split_product_is_reducing g (goal.at.returns-clause-below g c).After-split-multiple)).below
    in
    omega (arith, below, c.minus.ensures.value, c.plus.ensures)

pub returns-clause-congruent : goal.returns-clause-congruent
returns-clause-congruent g c =
    reduced_congruent _ _ (split_product_is_reducing g (goal.at.returns-clause-congruent g c).After-split-multiple)
    c.minus.ensures.value
    c.plus.ensures
