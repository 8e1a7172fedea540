use Rattle.std.proofs.Common.{ℕ, ◌<◌}
use Rattle.num_modular.specs.Hashes.{StandsAt}
use Rattle.mersenne_hash.specs.Patterns.{pattern_of}
use Rattle.num_modular_c.proofs.searches.first_pattern.Given as goal

-- none of the patterns so far occurs there
abbrev pub invariant-patterns : goal.invariant-patterns
invariant-patterns l = (j : ℕ) → j < l.k → StandsAt l.text (pattern_of l.patterns l.size j) l.at → ⊥
