use Rattle.std.proofs.Common.{◌≡◌, ℕ, ◌<◌, get_or, length}
use Rattle.num_modular.specs.Inverses.{IsInverse}
use Rattle.num_modular.specs.Systems.{range_below}
use Rattle.residue_numbers.proofs.mixed_radix.fill_inverses.Given as goal

-- the inverses so far
abbrev pub invariant-moduli : goal.invariant-moduli
invariant-moduli l = record {
  entries : length l.inverses ≡ length l.moduli;
  inverted : (i : ℕ) → i < l.place → IsInverse (get_or l.moduli i 0) (range_below i l.moduli) (get_or l.inverses i 0);
}
