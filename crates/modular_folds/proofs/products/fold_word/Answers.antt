use Rattle.std.proofs.Common.{◌≡◌, ℕ, ◌^◌, ◌<◌, ◌≤◌, arith}
use Rattle.std.proofs.Math.Nat.{pow-le-pow_right, div-eq_of_lt}
use Rattle.modular_folds.specs.Folds.{fold_of}
use Rattle.modular_folds.proofs.FoldBounds.{fold_fits, fold_sum_fits, once_below}
use Rattle.modular_folds.proofs.products.fold_word.Goals as goal

-- a word of at most p bits has nothing to fold
fold_of_low_word : (w p c v : ℕ) → w ≤ p → v < 2 ^ w → v ≡ fold_of p c v
fold_of_low_word w p c v most fits = search (arith, pow-le-pow_right, div-eq_of_lt, once_below)

pub times-requires : goal.times-requires
times-requires g c = grind (arith, fold_fits)

pub plus-requires : goal.plus-requires
plus-requires g c = grind (arith, fold_sum_fits)

pub returns-else-p-bits : goal.returns-else-p-bits
returns-else-p-bits g c = search (arith, fold_of_low_word)
