use Rattle.std.proofs.Common.{◌≡◌, ℕ, ◌+◌, ◌<◌, ◌≤◌, get_or, length, slice_range}
use Rattle.num_modular.specs.Integers.{residue_of}
use Rattle.mersenne_hash.specs.Collisions.{hash_of}
use Rattle.mersenne_hash.specs.Patterns.{IsFirstPattern}
use Rattle.num_modular_c.proofs.searches.find_patterns.Given as goal

-- the hash is that of the window, if there is one, and the entries before it are right
abbrev pub invariant-places : goal.invariant-places
invariant-places l = record {
  hashed : l.at + l.size ≤ length l.text
      → residue_of l.window ≡ hash_of (slice_range l.text l.at (l.at + l.size)) (residue_of l.base);
  written : (i : ℕ) → i < l.at → IsFirstPattern l.text l.patterns l.size (length l.hashes) i (get_or l.found i 0);
}
