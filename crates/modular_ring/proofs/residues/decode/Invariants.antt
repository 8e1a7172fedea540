use Rattle.std.proofs.Common.{◌≡◌, ℕ, ◌%◌, ◌<◌, get_or}
use Rattle.modular_ring.specs.Systems.{range_below}
use Rattle.modular_ring.proofs.residues.decode.Given as goal

-- the number below the product of the moduli so far that has their residues, which is the only one
abbrev pub invariant-moduli : goal.invariant-moduli
invariant-moduli l = record {
  range : l.range ≡ range_below l.place l.moduli;
  below : l.number < l.range;
  each : (i : ℕ) → i < l.place → l.number % get_or l.moduli i 0 ≡ get_or l.residues i 0;
  only : (x : ℕ) → ((i : ℕ) → i < l.place → x % get_or l.moduli i 0 ≡ get_or l.residues i 0) → x % l.range ≡ l.number;
}
