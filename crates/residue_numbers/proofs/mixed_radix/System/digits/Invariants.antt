use Rattle.std.proofs.Common.{◌≡◌, ℕ, ◌%◌, ◌<◌, get_or, length}
use Rattle.num_modular.specs.Systems.{range_below}
use Rattle.residue_numbers.specs.MixedRadix.{mixed_below}
use Rattle.residue_numbers.proofs.mixed_radix.System.digits.Given as goal

-- the digits so far denote the number with the residues so far
abbrev pub invariant-moduli : goal.invariant-moduli
invariant-moduli l = record {
  entries : length l.digits ≡ length l.moduli;
  below : (i : ℕ) → i < l.place → get_or l.digits i 0 < get_or l.moduli i 0;
  each : (i : ℕ) → i < l.place → mixed_below l.place l.moduli l.digits % get_or l.moduli i 0 ≡ get_or l.residues i 0;
  only : (x : ℕ) → ((i : ℕ) → i < l.place → x % get_or l.moduli i 0 ≡ get_or l.residues i 0)
      → x % range_below l.place l.moduli ≡ mixed_below l.place l.moduli l.digits;
}
