use Rattle.std.proofs.Common.{refl}
use Rattle.std.proofs.lemmas.Bool.{false≢true}
use Rattle.num_modular_c.proofs.users.nm_product.Goals as goal

pub returns-else-product-clause-bad_argument : goal.returns-else-product-clause-bad_argument
returns-else-product-clause-bad_argument c none =
    let same = c.if-product.ensures.unchanged false≢true in
    (((refl, same.0), same.1), same.2)
