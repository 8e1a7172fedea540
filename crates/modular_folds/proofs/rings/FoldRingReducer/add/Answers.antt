use Rattle.std.proofs.Math.Nat.{mod-lt}
use Rattle.modular_reduced.proofs.FormLemmas.{answered_by_form}
use Rattle.modular_folds.proofs.rings.FoldRingReducer.add.Goals as goal

pub returns : goal.returns
returns g c =
    let canonical = g.met.M.FoldModulus.canonical c.args.self.now.kept in
    answered_by_form canonical
    (record { below = mod-lt _ canonical.positive; same = rw c.modulus.ensures at c.add_below.ensures.value })
