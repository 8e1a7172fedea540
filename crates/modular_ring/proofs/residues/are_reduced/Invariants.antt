use Rattle.std.proofs.Common.{ℕ, ◌<◌, get_or}
use Rattle.modular_ring.proofs.residues.are_reduced.Given as goal

-- the residues so far are below their moduli
abbrev pub invariant-moduli : goal.invariant-moduli
invariant-moduli l = (i : ℕ) → i < l.place → get_or l.residues i 0 < get_or l.moduli i 0
