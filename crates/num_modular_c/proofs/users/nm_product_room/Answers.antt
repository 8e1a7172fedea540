use Rattle.std.proofs.Common.{ℕ, ◌+◌, ◌/◌, ◌≤◌, refl, arith}
use Rattle.long_product.specs.Room.{HasRoom}
use Rattle.num_modular_c.proofs.users.nm_product_room.Goals as goal

-- 2^34 words and tables of 2^31 factors are room for all
greatest_product_room : (n k : ℕ) → n + k ≤ 4294967296 → HasRoom n k (n + k) 17179869184 2147483648
greatest_product_room n k few = record {
  places = refl;
  scratch = λ a b. (few, (4294967296, (32, refl), few, omega arith, omega arith));
}

pub overflow_mul-factors : goal.overflow_mul-factors
overflow_mul-factors c =
    let few : c.args.xs_length + c.args.ys_length ≤ 4294967296 = omega arith in
    let most = ((c.room-needed.ensures 17179869184 2147483648).0 (greatest_product_room _ _ few)).1 in
    omega (arith, most)

pub returns-clause-did : goal.returns-clause-did
returns-clause-did c few = (
  refl,
  λ w f. (
    λ h. let needed = (c.room-needed.ensures w (f / 3)).0 h in (needed.0, omega (arith, needed.1)),
    λ h. (c.room-needed.ensures w (f / 3)).1 (h.0, omega (arith, h.1)),
  ),
)
