use Rattle.std.proofs.Common.{Some, None}
use Rattle.modular_reduced.proofs.FormLemmas.{inverse_answered}
use Rattle.modular_barrett.specs.ScaledForms.{scaled_canonical}
use Rattle.modular_barrett.proofs.ScaledLemmas.{inverse_stands, no_inverse_stands}
use Rattle.modular_barrett.proofs.premul.PreMulInv2by1Reducer.inv.Goals as goal

pub returns : goal.returns
returns g c =
    inverse_answered g.T.RingWord.number _ (Some c.shift_left.result) (scaled_canonical c.args.self.now.scaling)
    (inverse_stands _ _ _ _ _ _ _ _ _ c.args.self.now.scaling c.modulus.ensures
    c.residue.ensures.form c.in_ok-inverse.ensures
    c.shift_left.ensures)

pub returns-in_err-inverse : goal.returns-in_err-inverse
returns-in_err-inverse g c =
    rw c.from_residual.ensures
    (inverse_answered g.T.RingWord.number _ None (scaled_canonical c.args.self.now.scaling)
    (no_inverse_stands _ _ _ _ _ c.modulus.ensures c.residue.ensures.form c.in_err-inverse.ensures))
