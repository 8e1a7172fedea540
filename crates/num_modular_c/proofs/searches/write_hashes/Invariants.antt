use Rattle.std.proofs.Common.{◌≡◌, ℕ, ◌*◌, ◌<◌, get_or, length}
use Rattle.num_modular.specs.Integers.{residue_of}
use Rattle.mersenne_hash.specs.Collisions.{hash_of}
use Rattle.mersenne_hash.specs.Patterns.{pattern_of}
use Rattle.num_modular_c.proofs.searches.write_hashes.Given as goal

-- the hashes so far
abbrev pub invariant-patterns : goal.invariant-patterns
invariant-patterns l = record {
  entries : length l.patterns ≡ length l.hashes * l.size;
  hashed : (k : ℕ) → k < l.k → get_or l.hashes k 0 ≡ hash_of (pattern_of l.patterns l.size k) (residue_of l.base);
}
