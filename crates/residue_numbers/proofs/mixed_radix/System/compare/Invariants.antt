use Rattle.std.proofs.Common.{◌≡◌, ℕ, ◌≤◌, ◌<◌, get_or, length}
use Rattle.residue_numbers.proofs.mixed_radix.System.compare.Given as goal

-- the digits from here on are equal
abbrev pub invariant-digits : goal.invariant-digits
invariant-digits l = record {
  within : l.place ≤ length l.self.moduli.now;
  same : (i : ℕ) → l.place ≤ i → i < length l.self.moduli.now → get_or l.left i 0 ≡ get_or l.right i 0;
}

abbrev pub decreases-digits : goal.decreases-digits
decreases-digits l = l.place
