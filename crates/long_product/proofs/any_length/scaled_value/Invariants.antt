use Rattle.std.proofs.Common.{◌≡◌, ◌+◌, ◌-◌, ◌*◌, ◌/◌, ◌%◌, ◌^◌, ◌<◌, get_or}
use Rattle.num_modular.specs.Sums.{sum_below}
use Rattle.long_product.proofs.any_length.scaled_value.Given as goal

-- the value of the last i coefficients
abbrev pub invariant-terms : goal.invariant-terms
invariant-terms l =
    let m = l.by.divider.divisor / 2 ^ l.by.shift in
    record {
      value : l.sum ≡ sum_below l.i (λ k. get_or l.xs (l.n - l.i + k) 0 * l.w ^ k) % m;
      below : l.sum < m;
    }
