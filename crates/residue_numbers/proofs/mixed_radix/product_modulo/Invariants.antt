use Rattle.std.proofs.Common.{◌≡◌, ◌%◌}
use Rattle.num_modular.specs.Systems.{range_below}
use Rattle.residue_numbers.proofs.mixed_radix.product_modulo.Given as goal

-- the product of the moduli so far
abbrev pub invariant-moduli : goal.invariant-moduli
invariant-moduli l = l.product ≡ range_below l.place l.moduli % l.m
