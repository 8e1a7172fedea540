use Rattle.std.proofs.Common.{◌≡◌, ℕ, ◌<◌, ◌^◌, get_or}
use Rattle.modular_word.specs.Divisors.{Coprime}
use Rattle.modular_ring.specs.Systems.{range_below}
use Rattle.modular_ring.proofs.residues.is_system.Given as goal

-- the moduli so far are above 0, no two have a common divisor, and their product is a word
abbrev pub invariant-moduli : goal.invariant-moduli
invariant-moduli l = record {
  range : l.range ≡ range_below l.place l.moduli;
  fits : l.range < 2 ^ 128;
  positive : (i : ℕ) → i < l.place → 0 < get_or l.moduli i 0;
  coprime : (i j : ℕ) → j < i → i < l.place → Coprime (get_or l.moduli j 0) (get_or l.moduli i 0);
}
