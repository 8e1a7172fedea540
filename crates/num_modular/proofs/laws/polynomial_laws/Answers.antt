use Rattle.num_modular.specs.PolynomialLaws.{polynomial-none, polynomial-first}
use Rattle.num_modular.specs.InterpolationLaws.{zero_list, same_lists, same_coefficients, same_descending}
use Rattle.num_modular.specs.InterpolationLaws.{distinct_units, reversed}
use Rattle.num_modular.proofs.laws.polynomial_laws.Goals as goal

pub returns : goal.returns
returns c = record {
  none = polynomial-none;
  first = polynomial-first;
  reversed = reversed;
  zero = zero_list;
  lists = same_lists;
  values = λ m n c d x apart same i l. (same_coefficients m n c d x apart (λ i l. record { same = same i l }) i l).same;
  descending = same_descending;
  prime = distinct_units;
}
