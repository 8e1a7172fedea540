use Rattle.std.proofs.Common.{◌≡◌, ◌*◌, ◌%◌, slice_index}
use Rattle.num_modular.specs.Forms.{IsForm}
use Rattle.num_modular.specs.Sums.{sum_below}
use Rattle.examples.proofs.inner_products.inner_product.Given as goal

-- the sum of the products so far
abbrev pub invariant-terms : goal.invariant-terms
invariant-terms g l =
    let ring = g.R.Reducer in let m = ring.modulus l.fn.r in
    IsForm ring.form ring.value m l.sum
    × (ring.value m l.sum ≡ sum_below l.i (λ i. slice_index l.fn.xs i * slice_index l.fn.ys i) % m)
