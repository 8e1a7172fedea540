use Rattle.std.proofs.Common.{ℕ, ◌<◌, ◌≤◌}
use Rattle.num_modular.specs.Hashes.{StandsAt}
use Rattle.mersenne_hash.proofs.prefixes.PrefixHashes.find_from.Given as goal

-- the pattern stands at no position before
abbrev pub invariant-places : goal.invariant-places
invariant-places l = (j : ℕ) → l.from ≤ j → j < l.at → StandsAt l.self.text.now l.pattern j → ⊥
