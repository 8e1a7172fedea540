use Rattle.std.proofs.Common.{ℕ, ◌<◌, length, get_or}
use Rattle.mersenne_hash.specs.Patterns.{IsFirstPattern}
use Rattle.mersenne_hash.proofs.prefixes.PrefixHashes.find_all.Given as goal

-- the entries so far
abbrev pub invariant-places : goal.invariant-places
invariant-places l = (i : ℕ) → i < l.at → IsFirstPattern l.self.text.now l.patterns.symbols.now l.patterns.size
    (length l.patterns.hashes.now) i (get_or l.found i 0)
