use Rattle.std.proofs.Common.{◌*◌, subst}
use Rattle.modular_word.specs.Congruence.{Congruent}
use Rattle.modular_plan_passes.proofs.JoinedPairs.{joined_pair_of}
use Rattle.modular_plan_passes.proofs.join_steps.gather.Goals as goal

pub returns-clause-pair : goal.returns-clause-pair
returns-clause-pair g c =
    let n = g.T.RingWord.number in
    let m = n c.args.m.now.modulus in
    let v = n c.args.v.now.value in
    let product = subst (λ s. Congruent m (n c.times.result) (s * v)) c.plus-2.ensures c.times.ensures.congruent in
    λ w inverse.
    joined_pair_of w v (n c.args.x) (n c.args.y) (n c.minus.result) (n c.args.bound) (n c.times.result)
    (n c.plus.result)
    c.requires.multiple c.minus.ensures.value c.plus.ensures product inverse
