use Rattle.std.proofs.Common.{◌≡◌, ℕ, ◌%◌, ◌<◌, get_or}
use Rattle.modular_ring.proofs.residues.encode.Given as goal

-- the residues so far
abbrev pub invariant-moduli : goal.invariant-moduli
invariant-moduli l = (i : ℕ) → i < l.place → get_or l.residues i 0 ≡ l.number % get_or l.moduli i 0
