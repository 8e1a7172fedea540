use Rattle.std.proofs.Common.{◌+◌, ◌%◌, arith}
use Rattle.modular_reduced.proofs.ListPairs.{kept_below, pair_done}
use Rattle.modular_reduced.proofs.lanes.add_each.Goals as goal

pub sum_by_sign-requires-clause-left : goal.sum_by_sign-requires-clause-left
sum_by_sign-requires-clause-left g c = kept_below g.T.RingWord.number _ _ c.args.xs.now c.signs.xs c.signs.i
    c.index-xs-i.result c.requires.left c.signs.auto.xs (omega arith) c.index-xs-i.is c.signs.invariant

pub signs-preserved : goal.signs-preserved
signs-preserved g c = pair_done g.T.RingWord.number c.signs.xs c.args.ys.now c.signs.i c.index-xs-i.result
    c.index-ys-i.result c.sum_by_sign.result (λ v w. (v + w) % g.T.RingWord.number c.args.m) _ (omega arith)
    (omega arith) c.index-xs-i.is c.index-ys-i.is
    c.signs.invariant c.sum_by_sign.ensures.value

pub add_below-requires-clause-left : goal.add_below-requires-clause-left
add_below-requires-clause-left g c = kept_below g.T.RingWord.number _ _ c.args.xs.now c.words.xs c.words.i
    c.index-xs-i-in-words.result c.requires.left c.words.auto.xs (omega arith) c.index-xs-i-in-words.is
    c.words.invariant

pub words-preserved : goal.words-preserved
words-preserved g c = pair_done g.T.RingWord.number c.words.xs c.args.ys.now c.words.i c.index-xs-i-in-words.result
    c.index-ys-i-in-words.result c.add_below.result (λ v w. (v + w) % g.T.RingWord.number c.args.m) _ (omega arith)
    (omega arith) c.index-xs-i-in-words.is
    c.index-ys-i-in-words.is c.words.invariant c.add_below.ensures.value
