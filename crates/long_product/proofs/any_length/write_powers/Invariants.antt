use Rattle.std.proofs.Common.{◌≡◌, ℕ, ◌*◌, ◌/◌, ◌%◌, ◌^◌, ◌<◌, get_or}
use Rattle.long_product.specs.AnyLength.{choose_two}
use Rattle.long_product.proofs.any_length.write_powers.Given as goal

-- the powers before k are written; the next one, and the factor to the one after it
abbrev pub invariant-powers : goal.invariant-powers
invariant-powers l =
    let m = l.by.divider.divisor / 2 ^ l.by.shift in
    record {
      written : (i : ℕ) → i < l.k → get_or l.out i 0 ≡ (l.first * l.g ^ choose_two i) % m;
      below : (i : ℕ) → i < l.k → get_or l.out i 0 < m;
      power : l.power ≡ (l.first * l.g ^ choose_two l.k) % m;
      power_below : l.power < m;
      step : l.step ≡ l.g ^ l.k % m;
      step_below : l.step < m;
    }
