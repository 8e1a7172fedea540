use Rattle.std.proofs.Common.{pos, ◌-ℤ◌, arith}
use Rattle.modular_word.specs.Residues.{residue}
use Rattle.modular_reduced.proofs.ListPairs.{kept_below, pair_done}
use Rattle.modular_reduced.proofs.lanes.sub_each.Goals as goal

pub difference_by_sign-requires-clause-left : goal.difference_by_sign-requires-clause-left
difference_by_sign-requires-clause-left g c = kept_below g.T.RingWord.number _ _ c.args.xs.now c.signs.xs c.signs.i
    c.index-xs-i.result c.requires.left c.signs.auto.xs (omega arith) c.index-xs-i.is c.signs.invariant

pub signs-preserved : goal.signs-preserved
signs-preserved g c = pair_done g.T.RingWord.number c.signs.xs c.args.ys.now c.signs.i c.index-xs-i.result
    c.index-ys-i.result c.difference_by_sign.result (λ v w. residue (g.T.RingWord.number c.args.m) (pos v -ℤ pos w)) _
    (omega arith) (omega arith) c.index-xs-i.is c.index-ys-i.is
    c.signs.invariant c.difference_by_sign.ensures.value

pub sub_below-requires-clause-left : goal.sub_below-requires-clause-left
sub_below-requires-clause-left g c = kept_below g.T.RingWord.number _ _ c.args.xs.now c.words.xs c.words.i
    c.index-xs-i-in-words.result c.requires.left c.words.auto.xs (omega arith) c.index-xs-i-in-words.is
    c.words.invariant

pub words-preserved : goal.words-preserved
words-preserved g c = pair_done g.T.RingWord.number c.words.xs c.args.ys.now c.words.i c.index-xs-i-in-words.result
    c.index-ys-i-in-words.result c.sub_below.result (λ v w. residue (g.T.RingWord.number c.args.m) (pos v -ℤ pos w)) _
    (omega arith) (omega arith) c.index-xs-i-in-words.is
    c.index-ys-i-in-words.is c.words.invariant c.sub_below.ensures.value
