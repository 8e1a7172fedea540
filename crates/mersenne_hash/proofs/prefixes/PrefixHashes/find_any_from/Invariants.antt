use Rattle.std.proofs.Common.{ℕ, ◌<◌, ◌≤◌, length}
use Rattle.num_modular.specs.Hashes.{StandsAt}
use Rattle.mersenne_hash.specs.Patterns.{pattern_of}
use Rattle.mersenne_hash.proofs.prefixes.PrefixHashes.find_any_from.Given as goal

-- no pattern occurs at a position before
abbrev pub invariant-places : goal.invariant-places
invariant-places l = (j h : ℕ) → l.from ≤ j → j < l.at → h < length l.patterns.hashes.now
    → StandsAt l.self.text.now (pattern_of l.patterns.symbols.now l.patterns.size h) j → ⊥
