use Rattle.std.proofs.Common.{◌≡◌, ℕ, ◌%◌, ◌<◌, get_or, length}
use Rattle.residue_numbers.specs.MixedRadix.{number_of_words}
use Rattle.num_modular_c.proofs.residues.write_residues.Given as goal

-- the residues so far
abbrev pub invariant-moduli : goal.invariant-moduli
invariant-moduli l = record {
  entries : length l.residues ≡ length l.moduli;
  each : (i : ℕ) → i < l.place → get_or l.residues i 0 ≡ number_of_words l.words % get_or l.moduli i 0;
}
