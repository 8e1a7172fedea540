use Rattle.std.proofs.Common.{refl, arith}
use Rattle.long_product.proofs.Halvings.{half_of_power_of_two}
use Rattle.num_modular_c.proofs.any_length.table_length.Goals as goal

pub returns-clause-lengths : goal.returns-clause-lengths
returns-clause-lengths c =
    let is = c.transform_length.ensures in
    let few = is.least 4294967296 (32, refl) (omega (arith, c.requires)) in
    record {
      power = (half_of_power_of_two 1 c.transform_length.result (0, refl) is.power.0 is.power.1
          (omega (arith, is.enough, c.if-n-lt-LEAST_TRANSFORMED.false))).power;
      few = omega (arith, few);
      equal = refl;
      equal_third = refl;
    }

pub returns-clause-room : goal.returns-clause-room
returns-clause-room c words table room long =
    let is = c.transform_length.ensures in
    let half = half_of_power_of_two 1 c.transform_length.result (0, refl) is.power.0 is.power.1
    (omega (arith, is.enough, c.if-n-lt-LEAST_TRANSFORMED.false)) in
    let old = room long in (
      old.0,
      record {
        places = refl;
        scratch = λ a b.
            let other = (old.1.scratch a b).1 in
            let least = is.least other.0 other.1 (omega (arith, other.2)) in (
              (old.1.scratch a b).0,
              (
                c.transform_length.result,
                is.power,
                omega (arith, is.enough),
                omega (arith, least, other.3),
                omega (arith, half.whole),
              ),
            );
      },
    )

pub returns-clause-within : goal.returns-clause-within
returns-clause-within c words table room long =
    let is = c.transform_length.ensures in
    let other = ((room (omega (arith, long))).1.scratch long (omega (arith, long))).1 in
    let least = is.least other.0 other.1 (omega (arith, other.2)) in
    omega (arith, least, other.4)
