use Rattle.std.proofs.Common.{ℕ, ◌<◌, get_or}
use Rattle.num_modular.specs.Divisors.{Coprime}
use Rattle.residue_numbers.proofs.mixed_radix.is_coprime_system.Given as goal

-- the moduli so far are above 0 and coprime
abbrev pub invariant-moduli : goal.invariant-moduli
invariant-moduli l = record {
  positive : (i : ℕ) → i < l.place → 0 < get_or l.moduli i 0;
  coprime : (i j : ℕ) → j < i → i < l.place → Coprime (get_or l.moduli j 0) (get_or l.moduli i 0);
}
