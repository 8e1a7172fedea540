use Rattle.num_modular.proofs.PrimePowers.{fermat_for_all, half_of_square, root_of_half, root_power}
use Rattle.num_modular.proofs.laws.prime_power_laws.Goals as goal

pub returns : goal.returns
returns c = record {
  fermat = fermat_for_all;
  euler = λ a p o u. (root_of_half a p o u, λ h. half_of_square a p h.0 o u h.1 h.2);
  root = root_power;
}
