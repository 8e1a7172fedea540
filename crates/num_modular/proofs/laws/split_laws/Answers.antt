-- The law of splits, from the lemmas on the order of the remainders.
use Rattle.modular_plan_transforms.proofs.NaturalOrder.{transform_reversed, transform_reversed_whole}
use Rattle.modular_plan_transforms.proofs.Backward.{remainders_reversed}
use Rattle.num_modular.proofs.laws.split_laws.Goals as goal

pub returns : goal.returns
returns c = record {
  transform = λ m g bits n j x y whole are l. transform_reversed_whole m g bits n j x y whole are l;
  shorter = λ m g d bits n j x y whole are l. transform_reversed m g d bits n j x y whole are l;
  remainders = λ m g bits n x y whole are. remainders_reversed m g n bits x y whole are;
}
