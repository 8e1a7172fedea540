use Rattle.std.proofs.Common.{ℕ, ◌<◌, get_or}
use Rattle.num_modular_c.proofs.residues.are_positive.Given as goal

-- the moduli so far are above 0
abbrev pub invariant-moduli : goal.invariant-moduli
invariant-moduli l = (i : ℕ) → i < l.place → 0 < get_or l.moduli i 0
