use Rattle.std.proofs.Common.{◌≡◌, ℕ, ◌≤◌, ◌<◌, length}
use Rattle.modular_reduced.specs.Integers.{residue_of}
use Rattle.modular_ring.specs.Hashes.{StandsAt, window_hash}
use Rattle.modular_ring.proofs.hashes.Search.first_between.Given as goal

-- the hash is that of the window, and the pattern occurs nowhere before it
abbrev pub invariant-windows : goal.invariant-windows
invariant-windows l = record {
  hashed : residue_of l.window ≡ window_hash l.self.text.now (length l.self.pattern.now) (residue_of l.self.base) l.at;
  nowhere : (j : ℕ) → l.from ≤ j → j < l.at → StandsAt l.self.text.now l.self.pattern.now j → ⊥;
}
