use Rattle.std.proofs.Common.{◌≡◌, ◌+◌, ◌*◌, ◌%◌}
use Rattle.modular_word.specs.Sums.{sum_below}
use Rattle.modular_reduced.specs.Entries.{entry}
use Rattle.modular_reduced.specs.Forms.{IsForm}
use Rattle.modular_reduced.proofs.reducer.Reducer.add_products.Given as goal

-- the first i products are added
abbrev pub invariant-products : goal.invariant-products
invariant-products g l =
    let ring = g.Self.Reducer in let m = ring.modulus l.self in let number = g.T.RingWord.number in
    let x = entry number ring.value m l.xs in let y = entry number ring.value m l.ys in
    record {
      form : IsForm ring.form ring.value m (number l.total);
      value : ring.value m (number l.total)
          ≡ (ring.value m (number l.fn.sum) + sum_below l.i (λ k. x k * y k)) % m;
    }
