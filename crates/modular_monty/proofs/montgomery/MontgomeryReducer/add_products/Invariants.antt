use Rattle.std.proofs.Common.{◌≡◌, ◌+◌, ◌*◌, ◌%◌, ◌^◌}
use Rattle.modular_word.specs.Sums.{sum_below}
use Rattle.modular_reduced.specs.Entries.{entry}
use Rattle.modular_reduced.specs.Forms.{IsForm}
use Rattle.modular_monty.specs.TwoParts.{two_part_form, two_part_value}
use Rattle.modular_monty.proofs.montgomery.MontgomeryReducer.add_products.Given as goal

-- the first i products are added
abbrev pub invariant-products : goal.invariant-products
invariant-products g l =
    let number = g.T.RingWord.number in let m = number l.self.odd.kept.modulus * 2 ^ l.self.twos in
    let w = g.T.RingWord.width in let value = two_part_value w in
    let x = entry number value m l.xs in let y = entry number value m l.ys in
    record {
      form : IsForm (two_part_form w) value m (number l.total);
      value : value m (number l.total) ≡ (value m (number l.fn.sum) + sum_below l.i (λ k. x k * y k)) % m;
    }
