use Rattle.modular_transform.proofs.ValueLemmas.{written_pair_is_done}
use Rattle.modular_transform.proofs.stage.pair.Goals as goal

pub returns-clause-done : goal.returns-clause-done
returns-clause-done g c =
    written_pair_is_done _ _ _ _ _ _ _ c.args.second c.index-forms-first.result c.index-forms-second.result c.add.result
    c.mul_difference.result _ (g.met.R.Reducer.canonical c.args.r.now) c.requires.checked c.requires.within.0
    c.requires.within.1 c.index-forms-first.is c.index-forms-second.is c.add.ensures.form c.mul_difference.ensures.form
