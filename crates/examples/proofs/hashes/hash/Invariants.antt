use Rattle.std.proofs.Common.{◌%◌, slice_index}
use Rattle.num_modular.specs.Integers.{IsReduced}
use Rattle.num_modular.specs.Sums.{polynomial_highest_first}
use Rattle.examples.proofs.hashes.hash.Given as goal

-- the hash of the bytes so far
abbrev pub invariant-bytes : goal.invariant-bytes
invariant-bytes l = IsReduced 2305843009213693951
    (polynomial_highest_first l.byte-index (slice_index l.fn.bytes) l.fn.x % 2305843009213693951) l.value
