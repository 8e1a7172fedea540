use Rattle.std.proofs.Common.{lit<}
use Rattle.modular_barrett.proofs.Multiplier.{multiplier_computed}
use Rattle.modular_barrett.proofs.computed.multiplier_64.Goals as goal

pub returns : goal.returns
returns c = (multiplier_computed 64 c.args.d (lit< tt) c.requires c.ranges.d.fits).2
