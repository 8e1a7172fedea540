use Rattle.modular_ring.specs.ProductLaws.{inverse_left, inverse_right, inverse_both, inverse_before}
use Rattle.modular_ring.specs.ProductLaws.{inverse_last, has_both, has_each, has_product}
use Rattle.num_modular.proofs.laws.inverse_product_laws.Goals as goal

pub returns : goal.returns
returns c = record {
  both = has_both;
  left = inverse_left;
  right = inverse_right;
  product = inverse_both;
  before = inverse_before;
  last = inverse_last;
  each = λ m n f p. (has_each m n f, has_product m n f p);
}
