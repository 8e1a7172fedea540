use Rattle.std.proofs.Common.{◌≡◌, ℕ, ◌+◌, ◌*◌, ◌/◌, ◌%◌, ◌^◌, ◌≤◌, length, map, slice_index, sym, ap, ◌∙◌, arith}
use Rattle.modular_word.specs.Sums.{sum_below}
use Rattle.modular_reduced.proofs.FormLemmas.{form_as, form_of_value}
use Rattle.modular_reduced.proofs.ListProducts.{number_checked, products_of_numbers}
use Rattle.modular_barrett.specs.Scaling.{scaled_form, scaled_value}
use Rattle.modular_barrett.specs.ScaledForms.{scaled_canonical}
use Rattle.modular_barrett.proofs.ScaledLemmas.{divisor_is, form_below}
use Rattle.modular_barrett.proofs.ScaledSums.{scaled_products, block_adds_scaled_products, block_stands}
use Rattle.modular_barrett.proofs.ScaledSums.{block_residue_extends_sum}
use Rattle.modular_barrett.proofs.premul.PreMulInv2by1Reducer.add_products.Goals as goal
use Rattle.modular_barrett.proofs.premul.PreMulInv2by1Reducer.add_products.Goals.{After-reduced_products-reduced}

-- the product of the values at an index
abbrev term : (g : _) (c : After-reduced_products-reduced g) → ℕ → ℕ
term g c i =
    let number = g.T.RingWord.number in let w = g.T.RingWord.width in
    let m = number c.args.self.now.divider.divisor / 2 ^ c.args.self.now.shift in
    scaled_value w m (slice_index (map number c.args.xs.now) i)
    * scaled_value w m (slice_index (map number c.args.ys.now) i)

-- the sum of the products of entries, by that of the products of their values
entry_products_sum_is_scaled : (g : _) (c : After-reduced_products-reduced g) (n : ℕ) → n ≤ length c.args.xs.now
    → let number = g.T.RingWord.number in let p = 2 ^ c.args.self.now.shift in
    sum_below n (λ i. slice_index (map number c.args.xs.now) i * slice_index (map number c.args.ys.now) i)
    ≡ p * (p * sum_below n (term g c))
entry_products_sum_is_scaled g c n within =
    let number = g.T.RingWord.number in let w = g.T.RingWord.width in let ring = c.args.self.now in
    let m = number ring.divider.divisor / 2 ^ ring.shift in
    let form = scaled_form w in let value = scaled_value w in
    scaled_products w n (λ i. slice_index (map number c.args.xs.now) i) (λ i. slice_index (map number c.args.ys.now) i)
    (ap (λ k. 2 ^ k) ring.scaling.zeros)
    (λ i l. number_checked number form value m c.args.xs.now i c.requires.checked_xs (omega (arith, l, within)))
    (λ i l. number_checked number form value m c.args.ys.now i c.requires.checked_ys
    (omega (arith, l, within, c.requires.equal)))

-- the remainder of one block
block_is : (g : _) (c : After-reduced_products-reduced g)
    → g.T.RingWord.number c.reduced_products-reduced.result
    ≡ (2 ^ c.args.self.now.shift * sum_below c.min.result (λ i. term g c (c.each_block.from + i)))
    % g.T.RingWord.number c.args.self.now.divider.divisor
block_is g c =
    let from = c.each_block.from in let k = c.min.result in
    c.reduced_products-reduced.ensures (sum_below k (λ i. term g c (from + i)))
    (block_adds_scaled_products (2 ^ c.args.self.now.shift) from k (term g c) _ _ (entry_products_sum_is_scaled g c from
    c.each_block.invariant.within)
    (entry_products_sum_is_scaled g c (from + k) (omega (arith, c.min.ensures))))

pub add_below-total-requires-clause-right : goal.add_below-total-requires-clause-right
add_below-total-requires-clause-right g c =
    let is = c.args.self.now.scaling in
    let at = (goal.at.add_below-total-requires-clause-right g c).After-reduced_products-reduced in
    form_below _ _ _ _ c.divisor.ensures.scaled
    (form_of_value (scaled_canonical is) (block_stands _ _ is (block_is g at)))

pub each_block-preserved : goal.each_block-preserved
each_block-preserved g c =
    let at = (goal.at.each_block-preserved g c).After-reduced_products-reduced in
    let is = c.args.self.now.scaling in
    let number = g.T.RingWord.number in
    let added : number c.add_below-total.result
    ≡ (number c.each_block.total + number c.reduced_products-reduced.result)
    % number c.args.self.now.divider.divisor =
    c.add_below-total.ensures.value
    ∙ ap (λ d. (number c.each_block.total + number c.reduced_products-reduced.result) % d)
    (c.divisor.ensures.scaled ∙ sym (divisor_is is)) in
    let made = block_residue_extends_sum (number c.each_block.total) (number c.reduced_products-reduced.result) _
    (scaled_value g.T.RingWord.width _ (number c.args.sum)) c.each_block.from c.min.result (term g at) is
    c.each_block.invariant.form c.each_block.invariant.value (block_is g at) added in
    record {
      form = made.checked;
      value = made.value;
      within = omega (arith, c.min.ensures);
    }

pub returns : goal.returns
returns g c =
    let number = g.T.RingWord.number in let value = scaled_value g.T.RingWord.width in
    let m = number c.args.self.now.divider.divisor / 2 ^ c.args.self.now.shift in
    let xs = c.args.xs.now in let ys = c.args.ys.now in
    let all : c.each_block.from ≡ length xs = omega (arith, c.each_block.invariant.within) in
    let f = λ (i : ℕ). value m (slice_index (map number xs) i) * value m (slice_index (map number ys) i) in
    let sum = c.each_block.invariant.value
    ∙ ap (λ n. (value m (number c.args.sum) + n) % m)
    (ap (λ n. sum_below n f) all ∙ products_of_numbers number value m xs ys c.requires.equal) in
    record { form = form_as c.each_block.invariant.form sum; checked = c.each_block.invariant.form; value = sum }
