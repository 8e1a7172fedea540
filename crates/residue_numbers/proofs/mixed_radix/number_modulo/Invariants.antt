use Rattle.std.proofs.Common.{◌≡◌, ℕ, ◌+◌, ◌*◌, ◌%◌, ◌≤◌}
use Rattle.num_modular.specs.Systems.{range_below}
use Rattle.residue_numbers.specs.MixedRadix.{mixed_below}
use Rattle.residue_numbers.proofs.mixed_radix.number_modulo.Given as goal

-- the digits so far denote a number in the radix of the moduli from here on
abbrev pub invariant-digits : goal.invariant-digits
invariant-digits l = record {
  within : l.place ≤ l.count;
  above : (high : ℕ) × (mixed_below l.count l.moduli l.digits
      ≡ mixed_below l.place l.moduli l.digits + range_below l.place l.moduli * high) × (l.number ≡ high % l.m);
}

abbrev pub decreases-digits : goal.decreases-digits
decreases-digits l = l.place
