use Rattle.std.proofs.Common.{◌/◌, length}
use Rattle.modular_plan_transforms.proofs.Convolutions.{residues_again}
use Rattle.modular_plan_transforms.proofs.convolution.split_first.Goals as goal

pub returns-else-last-eq1 : goal.returns-else-last-eq1
returns-else-last-eq1 g c = record {
  below = λ other. c.split.ensures.below;
  remainders = λ r z twiddles.
      residues_again r z c.args.b (length c.args.xs.now / c.args.last) c.args.last _ _
      (c.split.ensures.remainders r z twiddles);
}
