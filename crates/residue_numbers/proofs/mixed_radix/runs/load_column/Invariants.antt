use Rattle.std.proofs.Common.{◌≡◌, ℕ, ◌+◌, ◌*◌, ◌%◌, ◌<◌, get_or, length}
use Rattle.num_modular.specs.Forms.{IsForm}
use Rattle.residue_numbers.proofs.mixed_radix.runs.load_column.Given as goal

-- the forms so far
abbrev pub invariant-registers : goal.invariant-registers
invariant-registers g l = let ring = g.R.Reducer in let m = ring.modulus l.reducer in record {
  entries : length l.forms ≡ length l.fn.forms;
  each : (r : ℕ) → r < l.register → IsForm ring.form ring.value m (get_or l.forms r 0)
      × (ring.value m (get_or l.forms r 0) ≡ get_or l.words (r * l.count + l.place) 0 % m);
}
