use Rattle.std.proofs.Common.{◌≡◌, ◌≢◌, ℕ, ◌+◌, ◌*◌, ◌<◌, get_or, length}
use Rattle.residue_numbers.proofs.mixed_radix.runs.unload_column.Given as goal

-- the residues so far; words at other places are unchanged
abbrev pub invariant-registers : goal.invariant-registers
invariant-registers g l = let ring = g.R.Reducer in let m = ring.modulus l.reducer in record {
  entries : length l.words ≡ length l.fn.words;
  written : (r : ℕ) → r < l.register → get_or l.words (r * l.count + l.place) 0 ≡ ring.value m (get_or l.forms r 0);
  kept : (r i : ℕ) → r < length l.forms → i < l.count → i ≢ l.place
      → get_or l.words (r * l.count + i) 0 ≡ get_or l.fn.words (r * l.count + i) 0;
}
