use Rattle.std.proofs.Common.{◌-◌, ◌*◌, ◌^◌, subst, arith}
use Rattle.modular_word.specs.Congruence.{Congruent}
use Rattle.modular_prim.proofs.DifferenceSteps.{word_taken, rest_taken, shifted_factor_fits_reduction}
use Rattle.modular_prim.proofs.inverse.without_twos.Goals as goal

pub words-preserved : goal.words-preserved
words-preserved g c =
    let next =
    word_taken _ _ _ _ _ _ _ _ _
    g.met.T.PathWord.base_is c.merge.ensures.value c.zero.ensures c.redc-rest.ensures c.words.invariant.value in
    grind arith

pub redc-requires-clause-below : goal.redc-requires-clause-below
redc-requires-clause-below g c =
    shifted_factor_fits_reduction _ _ _ _ _ c.words.left
    _ g.met.T.PathWord.base_is c.bits-else-left-eq0.ensures c.shift_left_wide.ensures.value c.words.invariant.below

pub returns-else-left-eq0-clause-value : goal.returns-else-left-eq0-clause-value
returns-else-left-eq0-clause-value g c =
    let n = g.T.RingWord.number in
    let left = c.words.left in
    let taken =
    rest_taken _ _ _ _ _ _ _ left (c.args.twos - left) _ c.requires.odd
    g.met.T.PathWord.base_is (omega (arith, c.bits.ensures)) c.bits-else-left-eq0.ensures
    c.shift_left_wide.ensures.value c.redc.ensures
    c.words.invariant.value in
    subst (λ v. Congruent (n c.args.m) (n c.redc.result * 2 ^ v) (n c.args.w)) (omega arith) taken
