use Rattle.std.proofs.Common.{◌≡◌, ℕ, ◌%◌, ◌<◌, arith, subst, sym}
use Rattle.std.proofs.Math.Nat.{mod-lt}
use Rattle.modular_plan_passes.specs.Steps.{IsPairSplit}
use Rattle.modular_word.proofs.Congruence.{mod_of_eq, mod_trans, residue_of}
use Rattle.modular_plan_passes.proofs.PairSteps.{pair_up_to}
use Rattle.modular_plan_passes.proofs.Fours.{four_of_pairs}
use Rattle.modular_plan_passes.proofs.split_steps.SplitToResiduesFourStep.four.Goals as goal

-- the residues of a pair do as well
pair_of_residues : {m : ℕ} (w : ℕ) {a b sum difference sum' difference' : ℕ} → sum' ≡ sum % m
    → difference' ≡ difference % m → IsPairSplit m w a b sum difference → IsPairSplit m w a b sum' difference'
pair_of_residues {m} w {a} {b} {sum} {difference} {sum'} {difference'} first second pair =
    pair_up_to w a b sum difference sum' difference' (mod_trans (mod_of_eq first) (residue_of sum))
    (mod_trans (mod_of_eq second) (residue_of difference)) pair

split_residue_below_modulus : {m x : ℕ} (y : ℕ) → 0 < m → x ≡ y % m → x < m
split_residue_below_modulus {m} {x} y some is = subst (λ v. v < m) (sym is) (mod-lt y some)

pub returns : goal.returns
returns g c = search (arith, split_residue_below_modulus, four_of_pairs, pair_of_residues)
