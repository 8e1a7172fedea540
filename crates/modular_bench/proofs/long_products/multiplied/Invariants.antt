use Rattle.std.proofs.Common.{◌≡◌, ◌*◌, ◌<◌}
use Rattle.long_product.specs.Numbers.{number_of}
use Rattle.modular_bench.proofs.long_products.multiplied.Given as goal

-- after the first turn the digits are those of the product
abbrev pub invariant-turns : goal.invariant-turns
invariant-turns g l = 0 < l.counter → number_of l.digits ≡ number_of l.xs * number_of l.ys
