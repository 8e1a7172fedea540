use Rattle.modular_reduced.proofs.FormLemmas.{answered_by_form}
use Rattle.modular_barrett.specs.ScaledForms.{scaled_canonical}
use Rattle.modular_barrett.proofs.ScaledLemmas.{difference_stands}
use Rattle.modular_barrett.proofs.premul.PreMulInv2by1Reducer.sub.Goals as goal

pub returns : goal.returns
returns g c =
    answered_by_form (scaled_canonical c.args.self.now.scaling)
    (difference_stands _ _ _ _ _ _ c.args.self.now.scaling.positive c.divisor.ensures.scaled
    c.requires.left c.requires.right
    c.sub_below.ensures.value)
