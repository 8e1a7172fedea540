use Rattle.std.proofs.Common.{refl}
use Rattle.check_digits.specs.Standards.{from_right}
use Rattle.check_digits.proofs.standards.standard_codes.Goals as goal

pub returns : goal.returns
unfolding from_right
returns c = refl
