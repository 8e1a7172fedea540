-- The moduli k * 2^n + 1.
use Rattle.std.proofs.Common.{subst, ◌≡◌, ℕ, ◌+◌, ◌-◌, ◌*◌, ◌%◌, ◌^◌, ap, ◌∙◌, arith}
use Rattle.std.proofs.Math.Nat.{pow-suc, add-mul-mod_self_left}
use Rattle.modular_monty.specs.Montgomery.{IsOddRing}
use Rattle.modular_monty.specs.Proth.{IsProth, IsProthRange, proth_modulus}

-- such a modulus is odd
pub proth_odd : {w greatest n k m : ℕ} → IsProth w greatest n k m → m % 2 ≡ 1
proth_odd {w} {greatest} {n} {k} {m} is =
    let half = 2 ^ (n - 1) in
    let even : 2 ^ n ≡ half * 2 = ap (λ v. 2 ^ v) (omega (arith, is.range.n_positive)) ∙ pow-suc 2 (n - 1) in
    let whole : m ≡ 1 + 2 * (k * half) = is.same ∙ ap (λ v. k * v + 1) even ∙ omega arith in
    ap (λ v. v % 2) whole ∙ add-mul-mod_self_left 1 2 (k * half)

-- what a function without a condition computes of the modulus
pub ring_of_proth : {w b greatest n k m i square : ℕ} → IsProthRange w greatest n k → m ≡ proth_modulus n k
    → (m % 2 ≡ 1 → IsOddRing w b m i square) → IsOddRing w b (proth_modulus n k) i square
ring_of_proth {w} {b} {greatest} {n} {k} {m} {i} {square} range same ring =
    subst (λ v. IsOddRing w b v i square) same (ring (proth_odd (record { range = range; same = same })))
