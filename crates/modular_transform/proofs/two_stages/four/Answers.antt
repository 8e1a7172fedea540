use Rattle.std.proofs.Common.{◌+◌, ◌*◌, arith}
use Rattle.modular_transform.proofs.FourValues.{four_checked, two_stages_of_four_done}
use Rattle.modular_transform.proofs.two_stages.four.Goals as goal

pub returns-clause-checked : goal.returns-clause-checked
returns-clause-checked g c =
    four_checked g.T.RingWord.number g.R.Reducer.form g.R.Reducer.value _ _ c.args.forms.now
    (c.args.block * (4 * c.args.step) + c.args.index) c.args.step _ _ _ _ (g.met.R.Reducer.canonical c.args.r.now)
    c.requires.checked c.add.ensures.form c.mul_difference.ensures.form c.add-2.ensures.form
    c.mul_difference-2.ensures.form

pub returns-clause-done : goal.returns-clause-done
returns-clause-done g c =
    two_stages_of_four_done _ _ _ _ _ _ _ _ _ _ _ c.index-forms-place.result c.index-forms-second_place.result
    c.index-forms-third_place.result c.index-forms-fourth_place.result c.add-left.result c.add-right.result
    c.mul_difference-left_turned.result c.mul_difference-right_turned.result c.add.result c.mul_difference.result
    c.add-2.result c.mul_difference-2.result (g.met.R.Reducer.canonical c.args.r.now) c.requires.checked
    (omega (arith, c.requires.within)) (omega (arith, c.requires.within)) c.index-forms-place.is
    c.index-forms-second_place.is c.index-forms-third_place.is c.index-forms-fourth_place.is c.add-left.ensures.form
    c.add-right.ensures.form c.mul_difference-left_turned.ensures.form c.mul_difference-right_turned.ensures.form
    c.add.ensures.form c.mul_difference.ensures.form c.add-2.ensures.form c.mul_difference-2.ensures.form
