use Rattle.std.proofs.Common.{ℕ, ◌<◌}
use Rattle.num_modular.specs.Hashes.{StandsAt}
use Rattle.mersenne_hash.specs.Patterns.{pattern_of}
use Rattle.mersenne_hash.proofs.prefixes.PrefixHashes.pattern_at.Given as goal

-- none of the patterns so far occurs there
abbrev pub invariant-patterns : goal.invariant-patterns
invariant-patterns l =
    (j : ℕ) → j < l.k → StandsAt l.self.text.now (pattern_of l.patterns.symbols.now l.size j) l.at → ⊥
