use Rattle.modular_word.proofs.Sums.{sum_below-same, sum_below-bounded}
use Rattle.num_modular.specs.SumLaws.{single, tail}
use Rattle.num_modular.proofs.laws.sum_below_laws.Goals as goal

pub returns : goal.returns
returns c = record { same = sum_below-same; single = single; tail = tail; bound = sum_below-bounded }
