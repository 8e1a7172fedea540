use Rattle.std.proofs.Common.{◌≡◌, ◌+◌, ◌*◌, ◌≤◌, length}
use Rattle.num_modular.specs.Systems.{range_below, range_of}
use Rattle.residue_numbers.specs.MixedRadix.{mixed_below, mixed_number}
use Rattle.residue_numbers.proofs.mixed_radix.System.is_negative.Given as goal

-- the digits from here on are the halves of odd moduli: twice the number is the range, less the product of the moduli
-- before, and twice the number of the digits before
abbrev pub invariant-digits : goal.invariant-digits
invariant-digits l = let ms = l.self.moduli.now in record {
  within : l.place ≤ length ms;
  halves : 2 * mixed_number ms l.digits + range_below l.place ms ≡ 2 * mixed_below l.place ms l.digits + range_of ms;
}

abbrev pub decreases-digits : goal.decreases-digits
decreases-digits l = l.place
