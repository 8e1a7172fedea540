use Rattle.std.proofs.Common.{arith}
use Rattle.modular_transform.proofs.PowersOfTwo.{power_of_two_tested}
use Rattle.modular_transform.proofs.PlainSums.{suits_by_power}
use Rattle.modular_transform.proofs.plain.suits.Goals as goal

pub returns : goal.returns
returns c =
    let tested = suits_by_power _ _ _ _ ((power_of_two_tested c.args.n).0 cc) (omega arith) c.power_of.ensures in
    tested
