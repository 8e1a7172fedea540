use Rattle.modular_reduced.proofs.FormLemmas.{answered_by_form}
use Rattle.modular_barrett.specs.ScaledForms.{scaled_canonical}
use Rattle.modular_barrett.proofs.ScaledLemmas.{double_stands}
use Rattle.modular_barrett.proofs.premul.PreMulInv2by1Reducer.dbl.Goals as goal

pub returns : goal.returns
returns g c =
    answered_by_form (scaled_canonical c.args.self.now.scaling)
    (double_stands _ _ _ _ _ c.args.self.now.scaling.positive c.divisor.ensures.scaled
    c.requires c.dbl_below_stored.ensures.value)
