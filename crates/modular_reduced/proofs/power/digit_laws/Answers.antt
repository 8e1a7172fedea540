use Rattle.modular_reduced.proofs.PowerCounts.{digits_above, digits_least}
use Rattle.modular_reduced.proofs.power.digit_laws.Goals as goal

pub returns : goal.returns
returns c = record { above = digits_above; least = digits_least }
