use Rattle.std.proofs.Common.{arith}
use Rattle.modular_transform.proofs.PowersOfTwo.{power_by_zeros}
use Rattle.modular_transform.proofs.roots.exponent.Goals as goal

pub returns : goal.returns
returns g c = grind (arith, c.halvings.invariant, power_by_zeros c.args.n c.requires (omega arith))
