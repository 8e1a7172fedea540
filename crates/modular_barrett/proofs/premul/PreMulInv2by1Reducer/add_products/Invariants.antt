use Rattle.std.proofs.Common.{◌≡◌, ℕ, ◌+◌, ◌-◌, ◌*◌, ◌/◌, ◌%◌, ◌^◌, ◌≤◌, length, map, slice_index}
use Rattle.modular_word.specs.Sums.{sum_below}
use Rattle.modular_barrett.specs.Scaling.{scaled_value}
use Rattle.modular_barrett.proofs.ScaledLemmas.{IsScaledForm}
use Rattle.modular_barrett.proofs.premul.PreMulInv2by1Reducer.add_products.Given as goal

-- the products before `from` are added
abbrev pub invariant-each_block : goal.invariant-each_block
invariant-each_block g l =
    let number = g.T.RingWord.number in let w = g.T.RingWord.width in
    let m = number l.self.divider.divisor / 2 ^ l.self.shift in
    let value = λ (f : ℕ). scaled_value w m f in
    let f = λ (i : ℕ). value (slice_index (map number l.xs) i) * value (slice_index (map number l.ys) i) in
    record {
      form : IsScaledForm w m (number l.total);
      value : value (number l.total) ≡ (value (number l.fn.sum) + sum_below l.from f) % m;
      within : l.from ≤ length l.xs;
    }

abbrev pub decreases-each_block : goal.decreases-each_block
decreases-each_block g l = length l.xs - l.from
