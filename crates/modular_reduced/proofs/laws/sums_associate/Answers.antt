use Rattle.modular_reduced.proofs.RingLaws as law
use Rattle.modular_reduced.proofs.laws.sums_associate.Goals as goal

pub returns-clause-same : goal.returns-clause-same
returns-clause-same g c =
    let v = λ (x : g.row.T.Denot). g.R.Reducer.value (g.R.Reducer.modulus c.args.reducer.now) (g.T.RingWord.number x) in
    g.met.T.RingWord.injective _ _
    (law.sums_associate (v c.args.a) (v c.args.b) (v c.args.c) (g.met.R.Reducer.canonical c.args.reducer.now)
    c.add.ensures.form c.add-left.ensures.form c.add-2.ensures.form c.add-right.ensures.form)
