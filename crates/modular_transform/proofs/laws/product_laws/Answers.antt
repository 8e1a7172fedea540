-- The law of cyclic products, from the lemmas on polynomials.
use Rattle.modular_transform.proofs.PolynomialProducts.{polynomial_product}
use Rattle.modular_transform.proofs.laws.product_laws.Goals as goal

pub returns : goal.returns
returns c m n b s t x y few few_y small room = polynomial_product n b s t x y few few_y small room
