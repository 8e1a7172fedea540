use Rattle.std.proofs.lemmas.Bool.{false≢true}
use Rattle.modular_plan_transforms.proofs.Convolutions.{blocks_of}
use Rattle.modular_plan_transforms.proofs.convolution.convolves.Goals as goal

pub returns-then-not-splits : goal.returns-then-not-splits
returns-then-not-splits c =
    let known = c.if-not-splits.ensures in
    (λ h. absurd (false≢true h), λ h. known.1 (blocks_of h))
