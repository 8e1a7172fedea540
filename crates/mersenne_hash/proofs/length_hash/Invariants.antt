use Rattle.std.proofs.Common.{◌≡◌, ◌+◌, ◌%◌, ◌∷◌, slice_index}
use Rattle.num_modular.specs.Integers.{residue_of}
use Rattle.num_modular.specs.Mersenne.{mersenne}
use Rattle.num_modular.specs.Sums.{polynomial_highest_first}
use Rattle.mersenne_hash.proofs.length_hash.Given as goal

-- the value of the polynomial of the symbol 1 and the bytes so far
abbrev pub invariant-bytes : goal.invariant-bytes
invariant-bytes l = residue_of l.value
    ≡ polynomial_highest_first (l.byte-index + 1) (slice_index (1 ∷ l.text)) (residue_of l.base) % mersenne 61 1
