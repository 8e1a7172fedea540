-- Numbers in the mixed radix of the moduli of a residue system (Garner, "The residue number system", IRE Transactions on
-- Electronic Computers 8, 1959; Knuth, The Art of Computer Programming, volume 2, section 4.1 and 4.3.2).
use Rattle.std.specs.Prelude.{ℕ, ◌*◌, ◌<◌, List, length, slice_index}
use Rattle.num_modular.specs.Divisors.{Coprime}
use Rattle.num_modular.specs.Sums.{sum_below, polynomial_at}
use Rattle.num_modular.specs.Systems.{range_below}

-- the moduli are above 0, and any two are coprime
pub record IsCoprimeSystem (moduli : List ℕ) : Type 0 where
  pub positive : (i : ℕ) → i < length moduli → 0 < slice_index moduli i
  pub coprime : (i j : ℕ) → j < i → i < length moduli → Coprime (slice_index moduli j) (slice_index moduli i)

-- the number that the first n digits denote: digit i counts the product of the moduli before modulus i
abbrev pub mixed_below : ℕ → List ℕ → List ℕ → ℕ
mixed_below n moduli digits = sum_below n (λ i. slice_index digits i * range_below i moduli)

-- and all of them
abbrev pub mixed_number : List ℕ → List ℕ → ℕ
mixed_number moduli digits = mixed_below (length moduli) moduli digits

-- each digit is below its modulus
pub record AreDigits (moduli digits : List ℕ) : Type 0 where
  pub below : (i : ℕ) → i < length moduli → slice_index digits i < slice_index moduli i

-- the number that words of 64 bits denote, the lowest first
abbrev pub number_of_words : List ℕ → ℕ
number_of_words words = polynomial_at (length words) (slice_index words) 18446744073709551616
