use Rattle.std.proofs.Common.{◌/◌, length, refl}
use Rattle.modular_plan_passes.proofs.Levels.{remainders_of}
use Rattle.modular_plan_transforms.proofs.split.split_loosely.Goals as goal

pub returns-in-None : goal.returns-in-None
returns-in-None g c = record {
  remainders = λ r z twiddles.
      remainders_of r z c.args.b (length c.args.xs.now / c.args.last) c.args.last (length c.args.xs.now) _ _ _
      c.requires.blocks.whole (c.split_blocks-in-None.ensures.level r z twiddles) (λ i l. refl);
}
