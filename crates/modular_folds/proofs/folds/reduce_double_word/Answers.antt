use Rattle.std.proofs.Common.{◌≡◌, ◌+◌, ◌^◌, arith}
use Rattle.modular_folds.proofs.FoldSteps.{two_bits}
use Rattle.modular_folds.proofs.folds.reduce_double_word.Goals as goal
use Rattle.modular_folds.proofs.folds.reduce_double_word.Goals.{After-is_short}

-- the modulus of c = 1
modulus_plus_one_is_power : (g : _) (c : After-is_short g) → g.T.RingWord.number c.args.m + 1 ≡ 2 ^ c.args.p
modulus_plus_one_is_power g c = search arith

pub reduce_by_one_fold-requires : goal.reduce_by_one_fold-requires
reduce_by_one_fold-requires g c = search (arith, modulus_plus_one_is_power)

pub has_few_folds-requires-clause-some : goal.has_few_folds-requires-clause-some
has_few_folds-requires-clause-some g c = two_bits c.requires
