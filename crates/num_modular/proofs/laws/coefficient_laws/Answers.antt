use Rattle.num_modular.proofs.Coefficients.{cyclic_coefficient_is_linear, coefficient_of_lists}
use Rattle.num_modular.proofs.laws.coefficient_laws.Goals as goal

pub returns : goal.returns
returns c = record { values = cyclic_coefficient_is_linear; lists = coefficient_of_lists }
