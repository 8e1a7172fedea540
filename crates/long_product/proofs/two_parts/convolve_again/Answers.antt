use Rattle.std.proofs.Common.{◌≡◌, ℕ, ◌+◌, ◌/◌, ◌%◌, ◌^◌, length, refl, sym, ◌∙◌, ap, arith, subst}
use Rattle.std.proofs.Math.Nat.{mod-mod}
use Rattle.std.proofs.lemmas.List.{get_or-map}
use Rattle.num_modular.specs.Plans.{numbers, AreRemainders}
use Rattle.num_modular.specs.Transforms.{Suits, cyclic_product}
use Rattle.long_product.proofs.TwoParts.{remainders_of_cyclic}
use Rattle.long_product.proofs.two_parts.convolve_again.Goals as goal

pub returns-clause-product : goal.returns-clause-product
returns-clause-product g c = λ y are e l.
    let plan = c.args.plan.now in
    let m = plan.modulus.modulus in
    let root = plan.root in
    let bits = plan.bits in
    let n = length c.args.xs.now in
    let x = numbers (λ (x : ℕ). x) c.args.xs.now in
    let u = numbers (λ (x : ℕ). x) c.split.new.xs in
    let v = numbers (λ (x : ℕ). x) c.args.ys.now in
    let p = numbers (λ (x : ℕ). x) c.multiply.new.xs in
    let after_split = c.split.auto.xs in
    let after_products = c.multiply.auto.xs in
    let after_join = c.join.auto.xs in
    let half : 2 ^ bits / 2 ≡ length plan.table.now = let twice = plan.half in omega (arith, twice) in
    let suits : Suits m root (2 ^ bits) = record {
      power_of_two = (bits, refl);
      half_turn = λ more. ap (λ k. (root ^ k + 1) % m) half ∙ plan.half_turn;
    } in
    let first = subst (λ k. AreRemainders m root bits 0 k 1 x u) (let e : n / 1 ≡ n = omega arith in e)
    c.split.ensures.remainders in
    let products = remainders_of_cyclic root bits n x y u v p c.requires.whole suits first are
    (λ i li. c.multiply.ensures.products i (omega (arith, after_split, li))) in
    let joined = c.join.ensures.joined (cyclic_product m n x y) (subst (λ k. AreRemainders m root bits 0 k 1
    (cyclic_product m n x y) (λ i. p i % m))
    (let e : n ≡ length c.multiply.new.xs / 1 = omega (arith, after_split, after_products) in e) products) e
    (omega (arith, after_split, after_products, l)) in
    sym (get_or-map (λ (x : ℕ). x) c.join.new.xs e 0 0 (omega (arith, after_split, after_products, after_join, l)))
    ∙ joined
    ∙ mod-mod _ m
