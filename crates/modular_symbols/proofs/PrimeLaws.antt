-- What holds of a prime: coprime numbers, Fermat's theorem, and that the symbols over an odd prime are there.
use Rattle.std.proofs.Common.{◌≡◌, ◌≢◌, ℕ, ◌+◌, ◌-◌, ◌*◌, ◌/◌, ◌%◌, ◌^◌, ◌<◌, ℤ}
use Rattle.std.proofs.Common.{IsSome, sym, subst, arith, ⊎_elim, refl, ◌⊎◌}
use Rattle.std.proofs.lemmas.Bool.{cases_eq}
use Rattle.std.proofs.lemmas.Nat.{mod_below, mul-mod, mul-mod_second, pow-add}
use Rattle.std.proofs.Math.Nat.{mod-eq_of_lt}
use Rattle.modular_word.specs.Divisors.{Coprime}
use Rattle.modular_word.specs.Inverses.{HasInverse}
use Rattle.modular_word.proofs.Divisors.{HasInverse-from_Coprime}
use Rattle.modular_word.proofs.Powers.{pow-one}
use Rattle.modular_symbols.specs.Legendre.{checked_legendre_of}
use Rattle.modular_symbols.specs.Primes.{IsPrime, IsOddPrime}
use Rattle.modular_symbols.proofs.Euler.{below_coprime, power_by_count, powers_of_last, last_times_last}
use Rattle.modular_symbols.proofs.LegendreClass.{class_over_prime}

-- a number that a prime doesn't divide
pub prime_to : (a p : ℕ) → IsPrime p → a % p ≢ 0 → Coprime a p
prime_to a p u z = search (arith, below_coprime, mod_below)

pub inverse_to : (a p : ℕ) → IsPrime p → a % p ≢ 0 → HasInverse p a
inverse_to a p u z = HasInverse-from_Coprime a p (omega arith) (prime_to a p u z)

-- the half power is 1 or -1, and its square is 1
square_of_half : (p v : ℕ) → 1 < p → (v % p ≡ 1) ⊎ (v % p ≡ p - 1) → (v * v) % p ≡ 1
square_of_half p v l h = search (arith, mul-mod, mod-eq_of_lt, mul-mod_second, last_times_last)

half_power_is_sign : (a p : ℕ) → p % 2 ≡ 1 → IsPrime p → a % p ≢ 0
    → (a ^ ((p - 1) / 2) % p ≡ 1) ⊎ (a ^ ((p - 1) / 2) % p ≡ p - 1)
half_power_is_sign a p o u z = search (arith, power_by_count, prime_to, powers_of_last)

-- Fermat's theorem
pub fermats_little_theorem : (a p : ℕ) → IsPrime p → a % p ≢ 0 → a ^ (p - 1) % p ≡ 1
fermats_little_theorem a p u z =
    ⊎_elim
    (λ (o : p % 2 ≡ 1).
    let e : p - 1 ≡ ((p - 1) / 2) + ((p - 1) / 2) = omega arith in
    search (arith, pow-add, square_of_half, half_power_is_sign))
    (λ (n : p % 2 ≡ 1 → ⊥). let two : p ≡ 2 = search (arith, cases_eq) in search (arith, pow-one)) (cases_eq _ _)

-- over an odd prime the symbols are there
pub class_is_some : (a z : ℤ) → IsOddPrime z → IsSome (checked_legendre_of a z)
class_is_some a z p = subst IsSome (sym (class_over_prime a z p)) refl
