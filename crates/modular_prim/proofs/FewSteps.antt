-- Few steps: a remainder is at most half of the number, and numbers of w bits allow 2w halvings of their product.
use Rattle.std.proofs.Common.{◌≡◌, ℕ, suc, ◌+◌, ◌*◌, ◌%◌, ◌^◌, ◌<◌, ◌≤◌, arith, ⊎_elim, ◌⊎◌}
use Rattle.std.proofs.lemmas.Bool.{cases_lt}
use Rattle.std.proofs.lemmas.Nat.{mod_below, pow-add, mul-lt, le-div}
use Rattle.std.proofs.Math.Nat.{mul-le-mul_left, pow-le-pow_right}

pub zero_or_positive : (a : ℕ) → (a ≡ 0) ⊎ (0 < a)
zero_or_positive a = grind arith

pub rest_twice : (u v : ℕ) → 0 < v → v ≤ u → 2 * (u % v) ≤ u
rest_twice u v p l = grind (arith, mod_below, le-div, mul-le-mul_left)

-- steps that each double a power, which stays at most twice the product of two numbers of w bits
pub few_steps : (w s a b : ℕ) → a < 2 ^ w → b < 2 ^ w → 2 ^ s ≤ 2 * (a * b) → s ≤ 2 * w
few_steps w s a b h k l =
    ⊎_elim
    (λ (t : 2 * w < s).
    let u : suc (w + w) ≤ s = omega arith in
    let g = pow-le-pow_right (let two : 0 < 2 = omega arith in two) u in
    let e = pow-add 2 w w in
    let m = mul-lt a b (2 ^ w) (2 ^ w) h k in
    absurd (omega arith))
    (λ (t : s ≤ 2 * w). t) (cases_lt (2 * w) s)
