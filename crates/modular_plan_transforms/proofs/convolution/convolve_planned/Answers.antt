use Rattle.std.proofs.Common.{length, ◌∙◌, arith}
use Rattle.modular_plan_transforms.proofs.Convolutions.{product_is_cyclic}
use Rattle.modular_plan_transforms.proofs.convolution.convolve_planned.Goals as goal

pub returns-clause-product : goal.returns-clause-product
returns-clause-product g c h root z e twiddles below =
    c.convolve_block.ensures.product h root z e twiddles below
    ∙ product_is_cyclic _ (length c.args.xs.now) e root z _ _ (omega (arith, below))
