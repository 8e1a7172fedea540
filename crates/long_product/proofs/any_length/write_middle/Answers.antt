use Rattle.std.proofs.Common.{◌+◌, ◌%◌, length, refl, ap, sym, ◌∙◌, subst, arith}
use Rattle.long_product.specs.Polynomials.{product_sum}
use Rattle.long_product.specs.Room.{HasScratch}
use Rattle.long_product.proofs.Coefficients.{residue_without_second_term}
use Rattle.long_product.proofs.any_length.write_middle.Goals as goal

pub entries_for-n-requires-clause-room : goal.entries_for-n-requires-clause-room
entries_for-n-requires-clause-room g c =
    let long = c.if-xs-lt-LEAST_TRANSFORMED.false in
    subst (λ t. HasScratch (length c.args.xs.now + length c.args.ys.now) (length c.args.words.now) t)
    (sym c.factors.ensures)
    (c.requires.room.scratch long (omega (arith, c.requires.enough, long)))

pub returns : goal.returns
returns g c e l k =
    let xs = c.args.xs.now in
    let ys = c.args.ys.now in
    c.multiply_modulo.ensures e (omega (arith, k, c.requires.places, c.requires.some))
    ∙ sym (residue_without_second_term _ 0 (product_sum xs ys e) (product_sum xs ys (e + length c.args.out.now)) refl)
    ∙ ap (λ m. product_sum xs ys e % m) c.modulus.ensures
