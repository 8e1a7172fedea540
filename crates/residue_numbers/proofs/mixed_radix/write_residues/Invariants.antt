use Rattle.std.proofs.Common.{◌≡◌, ℕ, ◌%◌, ◌<◌, get_or, length}
use Rattle.residue_numbers.specs.MixedRadix.{mixed_number}
use Rattle.residue_numbers.proofs.mixed_radix.write_residues.Given as goal

-- the residues so far
abbrev pub invariant-others : goal.invariant-others
invariant-others l = record {
  entries : length l.residues ≡ length l.others;
  each : (i : ℕ) → i < l.place → get_or l.residues i 0 ≡ mixed_number l.moduli l.digits % get_or l.others i 0;
}
