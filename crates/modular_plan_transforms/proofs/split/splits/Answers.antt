use Rattle.std.proofs.Common.{ℕ, ◌+◌, ◌*◌, ◌/◌, ◌<◌, ◌≤◌, IsTrue, nat_lt, arith}
use Rattle.std.proofs.Math.Nat.{div-mul-le_self, div-lt_iff_lt-mul, mul-le-mul_right}
use Rattle.std.proofs.lemmas.Bool.Decides.{nat_tests}
use Rattle.std.proofs.lemmas.Nat.{pow_pos}
use Rattle.modular_transform.proofs.PowersOfTwo.{power_of_two_tested}
use Rattle.modular_plan_transforms.proofs.split.splits.Goals as goal

block_below_by_test : (b q : ℕ) → IsTrue (nat_lt b q) → b < q
block_below_by_test b q h = grind (arith, nat_tests)

test_holds_of_block : (b q : ℕ) → b < q → IsTrue (nat_lt b q)
test_holds_of_block b q h = grind (arith, nat_tests)

next_block_within_factors : (b half factors : ℕ) → b < factors / half → (b + 1) * half ≤ factors
next_block_within_factors b half factors l =
    let more : (b + 1) * half ≤ factors / half * half = mul-le-mul_right half (omega arith) in
    omega (arith, div-mul-le_self factors half, more)

block_below_factor_quotient : (b half factors : ℕ) → 0 < half → (b + 1) * half ≤ factors → b < factors / half
block_below_factor_quotient b half factors some room = grind (arith, div-lt_iff_lt-mul {x = factors} {y = b + 1} some)

pub returns : goal.returns
returns c = search (
  arith,
  power_of_two_tested,
  pow_pos,
  next_block_within_factors,
  block_below_by_test,
  test_holds_of_block,
  block_below_factor_quotient,
)
