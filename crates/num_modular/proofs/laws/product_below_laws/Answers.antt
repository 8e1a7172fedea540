use Rattle.modular_ring.specs.ProductLaws.{product-zero, product-more, product-same}
use Rattle.num_modular.proofs.laws.product_below_laws.Goals as goal

pub returns : goal.returns
returns c = record { none = product-zero; more = product-more; same = product-same }
