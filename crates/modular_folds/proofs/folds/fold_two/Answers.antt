use Rattle.std.proofs.Common.{ℕ, ◌^◌, ◌<◌, ◌≤◌, arith, lit<}
use Rattle.std.proofs.Math.Nat.{pow-le-pow_right}
use Rattle.modular_folds.proofs.FoldSteps.{two_folds_keep}
use Rattle.modular_folds.proofs.FoldBounds.{two_low}
use Rattle.modular_folds.proofs.FoldCounts.{folds-none}
use Rattle.modular_folds.proofs.folds.fold_two.Goals as goal

-- 1 has fewer than p bits
one_below : (p : ℕ) → 1 ≤ p → 1 < 2 ^ p
one_below p some = omega (arith, pow-le-pow_right {n = 2} (lit< tt) some)

pub fold-first-requires-clause-less : goal.fold-first-requires-clause-less
fold-first-requires-clause-less g c = rw c.one.ensures (one_below _ c.requires.some)

pub fold-second-requires-clause-less : goal.fold-second-requires-clause-less
fold-second-requires-clause-less g c = rw c.one-2.ensures (one_below _ c.requires.some)

pub returns : goal.returns
returns g c = search (arith, two_low, two_folds_keep, folds-none)
