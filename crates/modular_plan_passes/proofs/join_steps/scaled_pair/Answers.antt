use Rattle.std.proofs.Common.{◌≡◌, ◌+◌, arith}
use Rattle.modular_word.proofs.Congruence.{mod_of_eq, mod_trans, residue_of}
use Rattle.modular_plan_passes.proofs.JoinedPairs.{joined_by_one, joined_pair_up_to, joined_pair_scaled}
use Rattle.modular_plan_passes.proofs.join_steps.scaled_pair.Goals as goal

pub returns-clause-pair : goal.returns-clause-pair
returns-clause-pair g c =
    let n = g.T.RingWord.number in
    let bound = n c.args.bound in
    let apart : n c.plus-2.result + n c.args.y ≡ n c.args.x + bound =
    omega (arith, c.plus-2.ensures, c.minus.ensures.value) in
    joined_pair_up_to 1 _ _ _ _ _ _ (mod_trans (mod_of_eq c.product-sum.ensures) (residue_of _))
    (mod_trans (mod_of_eq c.product-difference.ensures) (residue_of _))
    (joined_pair_scaled 1 _ _ _ _ (n c.args.s.now.value)
    (joined_by_one _ _ bound _ _ c.requires.multiple c.plus.ensures apart))
