use Rattle.std.proofs.Common.{◌≡◌, ◌*◌, ◌%◌, get_or}
use Rattle.num_modular.specs.Forms.{IsForm}
use Rattle.num_modular.specs.Sums.{sum_below}
use Rattle.num_modular_c.proofs.word_lists.sum_products.Given as goal

-- the first i products are added
abbrev pub invariant-entries : goal.invariant-entries
invariant-entries g l =
    let ring = g.R.Reducer in let m = ring.modulus l.r in
    record {
      form : IsForm ring.form ring.value m l.sum;
      value : ring.value m l.sum ≡ sum_below l.i (λ k. get_or l.xs k 0 * get_or l.ys k 0) % m;
    }
