use Rattle.std.proofs.Common.{length, ◌∙◌, arith}
use Rattle.std.proofs.lemmas.Nat.{pow_pos}
use Rattle.modular_plan_transforms.proofs.Convolutions.{block_one_is_negacyclic}
use Rattle.modular_plan_transforms.proofs.convolution.convolve_negacyclic.Goals as goal

pub returns-clause-product : goal.returns-clause-product
returns-clause-product g c h root z e twiddles below =
    let blocks = c.requires.blocks in
    c.convolve_block.ensures.product h root z e twiddles below
    ∙ block_one_is_negacyclic _ e root z (length c.args.table.now) _ _ _ (omega (arith, c.args.m.now.some))
    (omega (arith, blocks.within, blocks.count.1, pow_pos blocks.count.0)) twiddles
