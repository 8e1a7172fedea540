use Rattle.std.proofs.Common.{arith}
use Rattle.residue_numbers.proofs.MixedRadix.{mixed_within}
use Rattle.residue_numbers.proofs.Signs.{ordered_alike}
use Rattle.residue_numbers.proofs.mixed_radix.System.compare_signed.Goals as goal

pub returns-then-is_left-is_right : goal.returns-then-is_left-is_right
returns-then-is_left-is_right c = search (arith, ordered_alike, mixed_within)
