use Rattle.std.proofs.Common.{◌≡◌, ◌%◌, take, length, slice_index}
use Rattle.modular_reduced.specs.Integers.{residue_of}
use Rattle.modular_folds.specs.Mersenne.{mersenne}
use Rattle.modular_word.specs.Sums.{polynomial_highest_first}
use Rattle.modular_ring.proofs.hashes.hash.Given as goal

-- the value of the polynomial of the bytes so far
abbrev pub invariant-bytes : goal.invariant-bytes
invariant-bytes l =
    let read = take l.byte-index l.text in
    residue_of l.value ≡ polynomial_highest_first (length read) (slice_index read) (residue_of l.base) % mersenne 61 1
