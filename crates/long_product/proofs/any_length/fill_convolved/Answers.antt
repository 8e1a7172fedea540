use Rattle.std.proofs.Common.{◌≡◌, ◌+◌, ◌-◌, ◌*◌, ◌%◌, length, get_or, arith, ◌∙◌, ap}
use Rattle.std.proofs.lemmas.List.{get_or-drop}
use Rattle.long_product.specs.Polynomials.{product_entry}
use Rattle.long_product.proofs.Bluestein.{same_modulus, entry_convolved, same_room}
use Rattle.long_product.proofs.any_length.fill_convolved.Goals as goal

pub write_middle-requires : goal.write_middle-requires
write_middle-requires g c =
    let n = length c.args.xs.now in
    record {
      some = omega arith;
      enough = omega arith;
      places = omega arith;
      room = same_room n (2 * n - 1) (length c.args.words.now - 6 * n) c.args.plans.now.factors _ _ _
          (omega arith) (omega arith) (omega arith) (c.requires.fits.room c.requires.long).1;
    }

pub returns : goal.returns
returns g c = λ j l.
    let n = length c.args.xs.now in
    let long = c.requires.long in
    let equal = c.requires.fits.equal in
    let m = c.args.m in
    let same = c.reciprocal_of-by.ensures in
    let ws = c.write_powers.new.out in
    let bs = c.write_powers-2.new.out in
    let us = c.write_products.new.out in
    let sums = c.write_middle.new.out in
    let lw : length c.split_at_mut-weights.result.0.now ≡ n = omega arith in
    let lb : length c.split_at_mut-powers.result.0.now ≡ 2 * n - 1 = omega arith in
    entry_convolved m c.args.part c.args.g c.args.h n j _ _ c.args.xs.now ws us bs c.requires.inverse (omega arith)
    (omega arith) (λ k l. same_modulus _ m _ _ same (c.write_powers.ensures.powers k (omega arith)))
    (λ k l. same_modulus _ m _ _ same (c.write_powers-2.ensures.powers k (omega arith)))
    (λ i l. same_modulus _ m _ _ same (c.write_products.ensures i (omega arith)))
    (same_modulus _ m _ _ same (c.write_middle.ensures (n - 1 + j) (omega arith) (omega arith))
    ∙ ap (λ us. product_entry m us bs (n - 1 + j)) c.reverse.ensures.after)
    (same_modulus _ m _ _ same (c.write_products-2.ensures j (omega arith)) ∙ ap (λ v. (v * get_or ws j 0) % m)
    (ap (λ rest. get_or rest j 0) c.split_at.ensures.back ∙ get_or-drop (n - 1) sums j 0))
