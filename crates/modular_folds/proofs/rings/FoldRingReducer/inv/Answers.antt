use Rattle.modular_reduced.proofs.FormLemmas.{inverse_answered, plain_inverse}
use Rattle.modular_folds.proofs.rings.FoldRingReducer.inv.Goals as goal

pub returns : goal.returns
returns g c =
    inverse_answered _ _ _ (g.met.M.FoldModulus.canonical c.args.self.now.kept)
    (plain_inverse _ _ _ _ (rw c.modulus.ensures at c.inverse_by_euclid.ensures))
