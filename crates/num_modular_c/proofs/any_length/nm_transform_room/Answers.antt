use Rattle.std.proofs.Common.{ℕ, ◌*◌, ◌/◌, ◌≤◌, refl, arith}
use Rattle.long_product.specs.AnyLength.{HasTransformRoom}
use Rattle.num_modular_c.proofs.any_length.nm_transform_room.Goals as goal

-- 2^35 words and tables of 2^31 factors are room for all
greatest_transform_room : (n : ℕ) → 3 * n ≤ 4294967296 → HasTransformRoom n 34359738368 2147483648
greatest_transform_room n few long = (
  omega (arith, few),
  record {
    places = refl;
    scratch = λ a b.
        (omega (arith, few), (4294967296, (32, refl), omega (arith, few), omega (arith, few), omega arith));
  },
)

pub overflow_mul-factors : goal.overflow_mul-factors
overflow_mul-factors c =
    let few : 3 * c.args.length ≤ 4294967296 = omega arith in
    let most = ((c.room-needed.ensures 34359738368 2147483648).0 (greatest_transform_room c.args.length few)).1 in
    omega (arith, most)

pub returns-clause-did : goal.returns-clause-did
returns-clause-did c few = (
  refl,
  λ w f. (
    λ h. let needed = (c.room-needed.ensures w (f / 3)).0 h in (needed.0, omega (arith, needed.1)),
    λ h. (c.room-needed.ensures w (f / 3)).1 (h.0, omega (arith, h.1)),
  ),
)
