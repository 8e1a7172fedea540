use Rattle.std.proofs.Common.{ℕ, ◌+◌, ◌*◌, cond, eqb, ◌||◌, slice_index, sym, ap}
use Rattle.modular_word.specs.Sums.{sum_below}
use Rattle.modular_word.proofs.Congruence.{mod_of_eq, mod_trans, residue_of}
use Rattle.modular_transform.proofs.PlainSums.{empty_sum_residue_is_zero, sum_residue_of_next_term}
use Rattle.modular_transform.proofs.plain.product_entry.Goals as goal

pub rows-init : goal.rows-init
rows-init c = empty_sum_residue_is_zero _ _

pub rows-preserved : goal.rows-preserved
rows-preserved c =
    let row = λ (n : ℕ). sum_below n (λ j. cond (eqb (c.rows.i + j) c.args.e || eqb (c.rows.i + j) (c.args.e + n))
    (slice_index c.args.xs.now c.rows.i * slice_index c.args.ys.now j) 0) in
    sum_residue_of_next_term _ c.rows.i _ _ _ c.rows.invariant
    (mod_trans (mod_of_eq c.row_sum-row.ensures) (mod_trans (residue_of _) (mod_of_eq (ap row (sym c.requires.equal)))))
