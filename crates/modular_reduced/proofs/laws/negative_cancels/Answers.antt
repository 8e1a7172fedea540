use Rattle.modular_reduced.proofs.RingLaws as law
use Rattle.modular_reduced.proofs.laws.negative_cancels.Goals as goal

pub returns-clause-zero : goal.returns-clause-zero
returns-clause-zero g c =
    let v = g.R.Reducer.value (g.R.Reducer.modulus c.args.reducer.now) (g.T.RingWord.number c.args.a) in
    law.negative_cancels v (g.met.R.Reducer.canonical c.args.reducer.now) c.requires.below
    c.neg-negative.ensures.form c.add.ensures.form
