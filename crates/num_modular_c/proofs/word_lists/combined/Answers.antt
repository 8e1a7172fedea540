use Rattle.std.proofs.Common.{◌<◌, ◌∙◌, arith}
use Rattle.num_modular_c.proofs.WordLists.{sum_of_words, difference_of_words, product_of_words}
use Rattle.num_modular_c.proofs.word_lists.combined.Goals as goal

pub returns-in-Add : goal.returns-in-Add
returns-in-Add g c =
    rw c.in-Add.is (c.residue.ensures.value ∙ c.add.ensures.value
    ∙ sum_of_words _ _ _ _ _ c.transform-x.ensures.value c.transform-y.ensures.value)

pub returns-in-Sub : goal.returns-in-Sub
returns-in-Sub g c =
    let m = g.R.Reducer.modulus c.args.r.now in
    let some : 0 < m = let below = c.transform-x.ensures.checked.below in omega arith in
    rw c.in-Sub.is (c.residue-in-Sub.ensures.value ∙ c.sub.ensures.value
    ∙ difference_of_words m _ _ _ _ some c.transform-x.ensures.value c.transform-y.ensures.value)

pub returns-in-Mul : goal.returns-in-Mul
returns-in-Mul g c =
    rw c.in-Mul.is (c.residue-in-Mul.ensures.value ∙ c.mul.ensures.value
    ∙ product_of_words _ _ _ _ _ c.transform-x.ensures.value c.transform-y.ensures.value)
