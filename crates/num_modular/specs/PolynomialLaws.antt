-- Laws of polynomials by their coefficients. Callers cite them in their lemma files and answers. The names are the
-- library's own words.
use Rattle.std.proofs.Common.{◌≡◌, ℕ, zero, suc, ◌+◌, ◌*◌, ◌^◌, ◌<◌, ap, arith}
use Rattle.std.proofs.Math.Nat.{pow-zero, pow-suc}
use Rattle.modular_word.specs.Congruence.{Congruent}
use Rattle.modular_word.proofs.Congruence.{mod_mul, mod_pow}
use Rattle.modular_word.proofs.Sums.{sum_below-zero, sum_below-suc, sum_below-same, sum_below-congruent}
use Rattle.num_modular.specs.Polynomials.{polynomial_at}

-- without a coefficient
pub polynomial-none : (c : ℕ → ℕ) (x : ℕ) → polynomial_at 0 c x ≡ 0
polynomial-none c x = sum_below-zero (λ i. c i * x ^ i)

-- Horner's rule
pub polynomial-first : (n : ℕ) (c : ℕ → ℕ) (x : ℕ)
    → polynomial_at (suc n) c x ≡ c 0 + x * polynomial_at n (λ i. c (suc i)) x
polynomial-first zero c x =
    let s = sum_below-suc 0 (λ i. c i * x ^ i) in
    let z = sum_below-zero (λ i. c i * x ^ i) in
    let e : c 0 * x ^ 0 ≡ c 0 * 1 = ap (λ k. c 0 * k) (pow-zero x) in
    let u = ap (λ k. x * k) (sum_below-zero (λ i. c (suc i) * x ^ i)) in
    omega (arith, s, z, e, u)
polynomial-first (suc n) c x =
    let s = sum_below-suc (suc n) (λ i. c i * x ^ i) in
    let i = polynomial-first n c x in
    let e : c (suc n) * x ^ suc n ≡ c (suc n) * (x ^ n * x) = ap (λ k. c (suc n) * k) (pow-suc x n) in
    let u = ap (λ k. x * k) (sum_below-suc n (λ i. c (suc i) * x ^ i)) in
    omega (arith, s, i, e, u)

-- equal coefficients give equal values
pub polynomial-same : (n : ℕ) (c d : ℕ → ℕ) (x : ℕ) → ((i : ℕ) → i < n → c i ≡ d i)
    → polynomial_at n c x ≡ polynomial_at n d x
polynomial-same n c d x same =
    sum_below-same n (λ i. c i * x ^ i) (λ i. d i * x ^ i) (λ i l. ap (λ k. k * x ^ i) (same i l))

-- congruent coefficients give congruent values at congruent numbers
pub polynomial-congruent : {m : ℕ} (n : ℕ) (c d : ℕ → ℕ) (x y : ℕ) → ((i : ℕ) → i < n → Congruent m (c i) (d i))
    → Congruent m x y → Congruent m (polynomial_at n c x) (polynomial_at n d y)
polynomial-congruent n c d x y same e =
    sum_below-congruent n (λ i. c i * x ^ i) (λ i. d i * y ^ i) (λ i l. mod_mul (same i l) (mod_pow i e))
