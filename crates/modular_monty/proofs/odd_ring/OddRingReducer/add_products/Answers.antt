use Rattle.std.proofs.Common.{◌≡◌, ℕ, ◌+◌, ◌*◌, ◌%◌, length, map, slice_index, arith, subst}
use Rattle.modular_word.specs.Congruence.{Congruent}
use Rattle.modular_word.specs.Sums.{sum_below}
use Rattle.modular_word.proofs.Congruence.{mod_of_eq}
use Rattle.modular_word.proofs.Sums.{sum_below-zero}
use Rattle.modular_reduced.proofs.ListProducts.{number_checked, products_of_numbers}
use Rattle.modular_monty.specs.Montgomery.{montgomery_form, montgomery_value}
use Rattle.modular_monty.proofs.ReducedSums.{reduced_block_extends_sum}
use Rattle.modular_monty.proofs.MontgomerySteps.{Made, form_below, products_made}
use Rattle.modular_monty.proofs.odd_ring.OddRingReducer.add_products.Goals as goal

pub each_block-init : goal.each_block-init
each_block-init g c =
    let number = g.T.RingWord.number in
    let f = λ (i : ℕ). slice_index (map number c.args.xs.now) i * slice_index (map number c.args.ys.now) i in
    let s = number c.args.sum * g.T.PathWord.base in
    let none : s ≡ s + sum_below 0 f = let z = sum_below-zero f in omega arith in
    record {
      below = form_below (g.met.M.OddModulus.is_odd_ring c.args.self.now.kept) c.requires.sum;
      congruent = mod_of_eq none;
      within = omega arith;
    }

pub reduced_products-reduced-requires-clause-below_xs : goal.reduced_products-reduced-requires-clause-below_xs
reduced_products-reduced-requires-clause-below_xs g c =
    λ i l. form_below (g.met.M.OddModulus.is_odd_ring c.args.self.now.kept)
    (number_checked _ _ _ _ c.args.xs.now i c.requires.checked_xs l)

pub reduced_products-reduced-requires-clause-below_ys : goal.reduced_products-reduced-requires-clause-below_ys
reduced_products-reduced-requires-clause-below_ys g c =
    λ i l. form_below (g.met.M.OddModulus.is_odd_ring c.args.self.now.kept)
    (number_checked _ _ _ _ c.args.ys.now i c.requires.checked_ys (omega (arith, l, c.requires.equal)))

pub each_block-preserved : goal.each_block-preserved
each_block-preserved g c =
    let number = g.T.RingWord.number in
    let f = λ (i : ℕ). slice_index (map number c.args.xs.now) i * slice_index (map number c.args.ys.now) i in
    let from = c.each_block.from in
    let added = rw c.modulus.ensures at c.add_below-total.ensures in
    record {
      below = added.below;
      congruent = reduced_block_extends_sum g.T.PathWord.base (number c.args.sum) (number c.each_block.total)
          (number c.reduced_products-reduced.result) (sum_below from f) (sum_below (from + c.min.result) f)
          c.each_block.invariant.congruent c.reduced_products-reduced.ensures.congruent added.value;
      within = omega arith;
    }

pub returns : goal.returns
returns g c =
    let m = g.M.OddModulus.modulus c.args.self.now.kept in let number = g.T.RingWord.number in
    let w = g.T.RingWord.width in let form = montgomery_form w in let value = montgomery_value w in
    let xs = c.args.xs.now in let ys = c.args.ys.now in
    let x = slice_index (map number xs) in let y = slice_index (map number ys) in
    let all : c.each_block.from ≡ length xs = omega (arith, c.each_block.invariant.within) in
    let made = products_made (g.met.M.OddModulus.is_odd_ring c.args.self.now.kept) (length xs) x y c.requires.sum
    (λ i l. number_checked number form value m xs i c.requires.checked_xs l)
    (λ i l. number_checked number form value m ys i c.requires.checked_ys (omega (arith, l, c.requires.equal)))
    c.each_block.invariant.below
    (subst (λ n. Congruent m (number c.each_block.total * g.T.PathWord.base)
    (number c.args.sum * g.T.PathWord.base + sum_below n (λ i. x i * y i))) all c.each_block.invariant.congruent) in
    subst (λ n. Made w m (number c.each_block.total) ((value m (number c.args.sum) + n) % m))
    (products_of_numbers number value m xs ys c.requires.equal) made
