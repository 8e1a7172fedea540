-- Laws of remainders and their products, for proofs of callers. The names are the library's own words.

-- an entry of a table, as `num_modular::plans` exports it
pub use Rattle.modular_plan_passes.specs.declared.factor.Factor.{Factor}
-- the result of the test for a power of two
pub use Rattle.modular_transform.proofs.PowersOfTwo.{power_of_two_tested}
-- reversed bits: they are below the same power of two; with one more bit; and of twice a number
pub use Rattle.modular_transform.proofs.BitReversal.{bits_reversed_below, bits_reversed_of_high, bits_reversed_twice}
-- the exponent of a table's length; a table that holds the factors of the powers of a root is the root's table;
-- so is what `fill_table` writes
pub use Rattle.modular_plan_passes.proofs.Tables.{half_has_previous_exponent}
pub use Rattle.modular_plan_transforms.proofs.PlanTables.{table_of, made_table}
-- the number at an index of a list, and the constants of a block's two halves
pub use Rattle.modular_plan_passes.proofs.Entries.{number_at}
pub use Rattle.modular_plan_transforms.proofs.Constants.{IsPairOfConstants, pair_of_constants}
-- products modulo X - c and X^2 - c, coefficient by coefficient
pub use Rattle.modular_plan_transforms.proofs.SmallProducts.{product_of_one, product_of_two_low, product_of_two_high}
-- the products of remainders are the remainders of the product; block 1 starts from X^n + 1
pub use Rattle.modular_plan_transforms.proofs.Convolutions.{remainders_of_product, block_one_is_negacyclic}
