-- The Jacobi symbol over a product, and over a product of odd primes, from the count.
use Rattle.std.proofs.Common.{◌≡◌, ℕ, suc, ◌+◌, ◌-◌, ◌*◌, ◌%◌, ◌/◌, ◌<◌, ℤ, pos, negsuc, ◌*ℤ◌}
use Rattle.std.proofs.Common.{List, [], ◌∷◌, fold, sym, ◌∙◌, ap, arith, ⊎_elim, refl}
use Rattle.std.proofs.lemmas.Nat.{mod_below}
use Rattle.std.proofs.Math.Nat.{mod-eq_of_lt, mod-add-mod, add-mul-mod_self_left}
use Rattle.std.specs.List.{AllZip}
use Rattle.modular_word.specs.Divisors.{Coprime}
use Rattle.modular_word.specs.Residues.{residue}
use Rattle.modular_word.proofs.Congruence.{mod_of_multiple}
use Rattle.modular_word.proofs.Divisors.{remainder_of_multiple_is_zero, divides_through}
use Rattle.modular_word.proofs.Divisors.{Coprime-swap, Coprime-left, Coprime-right, Coprime-product, Coprime-from_gcd}
use Rattle.modular_symbols.proofs.Euler.{classed_power-jacobi}
use Rattle.modular_symbols.specs.PrimeFactors.{IsLegendre, product, symbol_product}
use Rattle.modular_symbols.specs.Jacobi.{half_system_count, jacobi}
use Rattle.modular_symbols.proofs.HalfSystem.{half_system_count-product}
use Rattle.modular_symbols.proofs.JacobiLaws.{jacobi-coprime, jacobi-shared, coprime_or_not, jacobi-residue}
use Rattle.modular_symbols.proofs.JacobiLaws.{jacobi-zero_one, even_or_odd, product_parity, sign-sum, zero_times}
use Rattle.modular_symbols.proofs.JacobiLaws.{times_zero}
use Rattle.modular_symbols.proofs.JacobiLaws.{jacobi-values, jacobi-zero_exactly, jacobi-product, jacobi-two}
use Rattle.modular_symbols.proofs.JacobiLaws.{jacobi-reciprocal}
use Rattle.modular_symbols.proofs.Lattice.{counts_reciprocal}
use Rattle.modular_symbols.proofs.LegendreClass.{class_over_prime}
use Rattle.modular_symbols.proofs.ResidueProducts.{residue_below, residue_opposite, residue_minus}

-- ---- over a product of odd numbers, for an odd b that is at least 1
-- the half of m * n has the parity of the sum of the halves
half_of_product : (m n i j : ℕ) → m ≡ 2 * i + 1 → n ≡ 2 * j + 1 → (m * n - 1) / 2 ≡ i + j + 2 * (i * j)
half_of_product m n i j e f =
    let g : (2 * i + 1) * (2 * j + 1) ≡ 4 * (i * j) + 2 * i + 2 * j + 1 = omega arith in
    search arith

-- so the numbers of pairs add up, up to an even number
pairs_of_product : (m n k : ℕ) → m % 2 ≡ 1 → n % 2 ≡ 1
    → ((m * n - 1) / 2 * k) % 2 ≡ ((m - 1) / 2 * k + (n - 1) / 2 * k) % 2
pairs_of_product m n k o p =
    let i : ℕ = (m - 1) / 2 in
    let j : ℕ = (n - 1) / 2 in
    let h = half_of_product _ _ _ _ (omega arith) (omega arith) in
    let d : (i + j + 2 * (i * j)) * k ≡ i * k + j * k + 2 * (i * j * k) = omega arith in
    ap (λ v. (v * k) % 2) h ∙ ap (λ v. v % 2) d ∙ add-mul-mod_self_left (i * k + j * k) _ (i * j * k)

odd_product : (m n : ℕ) → m % 2 ≡ 1 → n % 2 ≡ 1 → (m * n) % 2 ≡ 1
odd_product m n o p = product_parity m n ∙ ap (λ v. v * (n % 2)) o ∙ omega arith

-- by reciprocity for each of m, n and m * n, and by the product in the upper argument over b
count_over_product : (b m n : ℕ) → b % 2 ≡ 1 → m % 2 ≡ 1 → n % 2 ≡ 1 → Coprime b m → Coprime b n → Coprime b (m * n)
    → half_system_count (pos b) (m * n) % 2 ≡ (half_system_count (pos b) m + half_system_count (pos b) n) % 2
count_over_product b m n q o p c d w =
    let whole = counts_reciprocal b (m * n) (odd_product m n o p) q w in
    let first = counts_reciprocal b m o q c in
    let second = counts_reciprocal b n p q d in
    let upper = half_system_count-product m n b q (Coprime-swap _ _ w) (Coprime-swap _ _ d) in
    omega (arith, pairs_of_product m n ((b - 1) / 2) o p)

odd_over_product : (b m n : ℕ) → b % 2 ≡ 1 → m % 2 ≡ 1 → n % 2 ≡ 1
    → jacobi (pos b) (m * n) ≡ jacobi (pos b) m *ℤ jacobi (pos b) n
odd_over_product b m n q o p =
    ⊎_elim
    (λ (c : Coprime b m).
    ⊎_elim
    (λ (d : Coprime b n).
    let w = Coprime-swap _ _ (Coprime-product _ _ _ (omega arith) (Coprime-swap _ _ c) (Coprime-swap _ _ d)) in
    search (arith, jacobi-coprime, sign-sum, count_over_product))
    (λ (z : Coprime b n → ⊥).
    search (arith, odd_product, jacobi-shared, Coprime-swap, Coprime-right, times_zero))
    (coprime_or_not _ _ (omega arith)))
    (λ (z : Coprime b m → ⊥).
    search (arith, odd_product, jacobi-shared, Coprime-swap, Coprime-left, zero_times))
    (coprime_or_not _ _ (omega arith))

-- ---- over a product of odd numbers, for every a
-- the residue modulo a divisor
residue_of_multiple : (m k : ℕ) (z : ℤ) → 0 < m → 0 < m * k → residue (m * k) z % m ≡ residue m z
residue_of_multiple m k (pos x) p q = mod_of_multiple m k x
residue_of_multiple m k (negsuc x) p q =
    sym (residue_minus _ (suc x) _ (mod_below _ _ p)
    (mod-add-mod _ _ (suc x)
    ∙ divides_through _ _ ((residue (m * k) (negsuc x)) + suc x) (remainder_of_multiple_is_zero _ _ _ refl)
    (residue_opposite _ x q)))

-- an odd number that is congruent to z modulo an odd number
odd_representative : (n : ℕ) (z : ℤ) → n % 2 ≡ 1 → (b : ℕ) × (b % 2 ≡ 1) × (b % n ≡ residue n z)
odd_representative n z o =
    let r : ℕ = residue n z in
    let e : n * 1 ≡ n = omega arith in
    ⊎_elim
    (λ (i : r % 2 ≡ 0). (
      r + n,
      omega arith,
      ap (λ v. (r + v) % n) (sym e) ∙ add-mul-mod_self_left _ _ _ ∙ mod-eq_of_lt (residue_below _ _ (omega arith)),
    ))
    (λ (i : r % 2 ≡ 1). (r, i, mod-eq_of_lt (residue_below _ _ (omega arith)))) (even_or_odd _)

jacobi_of_same_residues : (a : ℤ) (b n : ℕ) → 0 < n → b % n ≡ residue n a → jacobi a n ≡ jacobi (pos b) n
jacobi_of_same_residues a b n p e = jacobi-residue a n p ∙ sym (jacobi-residue (pos b) n p
    ∙ ap (λ v. jacobi (pos v) n) e)

pub jacobi-factors : (a : ℤ) (m n : ℕ) → m % 2 ≡ 1 → n % 2 ≡ 1 → jacobi a (m * n) ≡ jacobi a m *ℤ jacobi a n
jacobi-factors a m n o p =
    let t : 0 < m * n = omega (arith, (odd_product _ _ o p)) in
    let s : n * m ≡ m * n = omega arith in
    let h = odd_representative _ _ (odd_product _ _ o p) in
    let b : ℕ = h.0 in
    let e : b % m ≡ residue m a =
    sym (mod_of_multiple _ _ _) ∙ ap (λ v. v % m) h.2 ∙ residue_of_multiple _ _ _ (omega arith) t in
    let f : b % n ≡ residue n a =
    sym (mod_of_multiple _ _ _) ∙ ap (λ v. b % v % n) s ∙ ap (λ v. v % n) h.2
    ∙ ap (λ v. residue v a % n) (sym s) ∙ residue_of_multiple _ _ _ (omega arith) (omega arith) in
    jacobi_of_same_residues _ _ _ t h.2 ∙ odd_over_product _ _ _ h.1 o p ∙ sym (search (arith, jacobi_of_same_residues))

-- ---- over a product of odd primes
primes_after : (a : ℤ) (primes : List ℕ) (symbols : List ℤ) (n : ℕ) (z : ℤ) → n % 2 ≡ 1 → jacobi a n ≡ z
    → AllZip (IsLegendre a) primes symbols
    → jacobi a (fold (λ k p. k * p) n primes) ≡ fold (λ y s. y *ℤ s) z symbols
primes_after a [] [] n z o e h = e
primes_after a [] (s ∷ ss) n z o e h = absurd h
primes_after a (p ∷ ps) [] n z o e h = absurd h
primes_after a (p ∷ ps) (s ∷ ss) n z o e h =
    primes_after a ps ss (n * p) (z *ℤ s) (odd_product _ p o h.0.0.0)
    (search (arith, jacobi-factors, class_over_prime a (pos p) h.0.0)) h.1

pub jacobi-primes : (a : ℤ) (primes : List ℕ) (symbols : List ℤ) → AllZip (IsLegendre a) primes symbols
    → jacobi a (product primes) ≡ symbol_product symbols
jacobi-primes a primes symbols h =
    primes_after a primes symbols 1 (pos 1) (omega arith)
    (search (arith, residue_below, jacobi-residue, jacobi-zero_one)) h

-- the laws of the symbol
pub ruleset symbol_laws = (
  jacobi-values,
  jacobi-zero_exactly,
  jacobi-residue,
  jacobi-product,
  jacobi-two,
  jacobi-reciprocal,
  classed_power-jacobi,
  jacobi-factors,
  jacobi-primes,
  Coprime-from_gcd,
)
