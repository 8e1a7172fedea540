use Rattle.std.proofs.Common.{◌≡◌, ℕ, ◌+◌, ◌≤◌, ◌<◌, length}
use Rattle.modular_reduced.specs.Integers.{residue_of}
use Rattle.modular_ring.specs.Hashes.{StandsAt, window_hash}
use Rattle.modular_ring.proofs.hashes.Search.first_before.Given as goal

-- both hashes are those of their windows, and the pattern occurs at no position before one of these in its half
abbrev pub invariant-windows : goal.invariant-windows
invariant-windows l =
    let text = l.self.text.now in
    let pattern = l.self.pattern.now in
    record {
      low : residue_of l.low ≡ window_hash text (length pattern) (residue_of l.self.base) l.at;
      high : residue_of l.high ≡ window_hash text (length pattern) (residue_of l.self.base) (l.half + l.at);
      below : (j : ℕ) → j < l.at → StandsAt text pattern j → ⊥;
      above : (j : ℕ) → l.half ≤ j → j < l.half + l.at → StandsAt text pattern j → ⊥;
    }
