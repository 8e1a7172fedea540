use Rattle.std.proofs.Common.{◌≡◌, ◌*◌, ◌/◌, ◌%◌, length, refl, ◌∙◌, sym, ap, arith}
use Rattle.std.proofs.lemmas.List.{get_or-map}
use Rattle.modular_word.specs.Congruence.{Congruent}
use Rattle.std.proofs.Math.Nat.{div-one}
use Rattle.modular_plan_transforms.proofs.Convolutions.{blocks_of, product_is_cyclic, joined_product, residues_again}
use Rattle.modular_plan_transforms.proofs.SmallProducts.{are_products_of_one}
use Rattle.num_modular_c.specs.Plans.{words_of}
use Rattle.num_modular_c.proofs.plan_squares.nm_plan_square.Goals as goal

pub inverse_of_count-requires : goal.inverse_of_count-requires
inverse_of_count-requires c = rw div-one at (c.if-not-is_pair.ensures.0 refl).blocks.count

pub join_scaled-requires-clause-blocks : goal.join_scaled-requires-clause-blocks
join_scaled-requires-clause-blocks c =
    let same : length c.square_each.new.xs ≡ length c.args.xs.now = omega arith in
    rw same (blocks_of (c.if-not-is_pair.ensures.0 refl).blocks)

pub returns-clause-did : goal.returns-clause-did
returns-clause-did c pair inverse =
    let m = c.args.plan.now.modulus in
    let xs = c.args.xs.now in
    let n = length xs in
    let part = c.in-Some.part.value in
    let split = c.split.new.xs in
    let squares = c.square_each.new.xs in
    let same : length squares ≡ n = omega arith in
    let is_inverse = rw c.new-m.ensures at c.in-Some.ensures.1 in
    let unit : Congruent m (n / 1 * part) 1 = record { same = rw div-one is_inverse.one } in
    let each = rw c.new-m.ensures at c.square_each.ensures.squares in
    let joined = rw (c.new-m.ensures, same) at c.join_scaled.ensures.joined in (
      refl,
      record {
        below = rw c.new-m.ensures at c.join_scaled.ensures.below;
        square = λ g z e twiddles l.
            let are = (rw c.new-m.ensures at c.split.ensures.remainders) g z twiddles in
            joined_product g z 0 1 (length c.args.plan.now.table.now) (n / 1) n part _ (words_of xs) (words_of xs)
            (words_of split) (words_of split) (words_of squares) (words_of c.join_scaled.new.xs)
            pair.blocks.count pair.blocks.whole pair.blocks.within twiddles unit
            (residues_again g z 0 (n / 1) 1 (words_of xs) (words_of split) are) are
            (are_products_of_one g z 0 (n / 1) 1 (words_of split) (words_of split) (words_of squares) refl
            (λ i k.
            get_or-map (λ x. x) squares i 0 0 (omega (arith, k)) ∙ each i (omega (arith, k))
            ∙ sym (ap (λ v. (v * v) % m) (get_or-map (λ x. x) split i 0 0 (omega (arith, k))))))
            (λ r. joined g z r twiddles) e l
            ∙ product_is_cyclic m n e g z (words_of xs) (words_of xs) (omega (arith, l));
      },
    )
