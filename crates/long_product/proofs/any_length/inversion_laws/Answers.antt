use Rattle.num_modular.specs.Transforms.{transform}
use Rattle.long_product.proofs.RootsOfOrder.{transform_undone, inverse_undone}
use Rattle.long_product.proofs.any_length.inversion_laws.Goals as goal
use Rattle.std.proofs.Common.{sym}
use Rattle.std.proofs.Math.Nat.{mod-mod}

pub returns : goal.returns
returns c = record {
  restored = λ m g h part n i x inverse of_length root within.
      transform_undone m g h part n i x (transform m g n x) inverse.one of_length.one root within
      (λ j l. sym (mod-mod _ m));
  reached = λ m g h part n j x inverse of_length root within.
      inverse_undone m g h part n j x inverse.one of_length.one root within;
}
