use Rattle.std.proofs.Common.{arith}
use Rattle.mersenne_hash.proofs.Patterns.{pattern_length}
use Rattle.mersenne_hash.proofs.prefixes.PrefixHashes.pattern_at.Goals as goal
use Rattle.mersenne_hash.proofs.prefixes.PrefixHashes.pattern_at.Goals.{then-at-self-via-then-at-self}
use Rattle.mersenne_hash.proofs.prefixes.PrefixHashes.pattern_at.Goals.{then-at-self-via-else-at-self+then-self-at}

pub returns-then-at-self : goal.returns-then-at-self
returns-then-at-self c =
    search (arith, pattern_length, then-at-self-via-then-at-self, then-at-self-via-else-at-self+then-self-at)

pub returns : goal.returns
returns c = search arith
