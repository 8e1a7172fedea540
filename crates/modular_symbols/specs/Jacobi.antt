-- The Jacobi symbol by a count of residues (Gauss's lemma as Schering generalised it, "Zur Theorie der
-- quadratischen Reste", Acta Mathematica 1, 1882; for a prime n: Hardy and Wright, "An Introduction to the Theory
-- of Numbers", theorem 92). The definition uses neither reciprocity nor the factors of n.
use Rattle.std.specs.Prelude.{ℕ, ◌-◌, ◌/◌, ◌%◌, ℤ, pos, negsuc, ◌*ℤ◌, nat_abs}
use Rattle.std.specs.Prelude.{◌==◌, nat_lt, if◌then◌else◌, Option, Some, None}
use Rattle.modular_word.specs.Divisors.{gcd}
use Rattle.modular_word.specs.Residues.{residue}
use Rattle.modular_word.specs.Sums.{count_to}

-- the number of x from 1 to (n - 1) / 2 whose product with a has a residue modulo n above (n - 1) / 2, for odd n
unfoldable pub half_system_count : ℤ → ℕ → ℕ
half_system_count a n = count_to (λ x. nat_lt ((n - 1) / 2) (residue n (a *ℤ pos x))) ((n - 1) / 2)

-- -1 to the power k
abbrev pub sign : ℕ → ℤ
sign k = if k % 2 == 0 then pos 1 else negsuc 0

-- the Jacobi symbol of a over n, for odd n: 0 where they have a common divisor above 1
unfoldable pub jacobi : ℤ → ℕ → ℤ
jacobi a n = if gcd (nat_abs a) n == 1 then sign (half_system_count a n) else pos 0

-- the Jacobi symbol where it exists: over odd n that are at least 1 (`negsuc n` is -(n + 1))
abbrev pub checked_jacobi_of : ℤ → ℤ → Option ℤ
checked_jacobi_of a (pos n) = if n % 2 == 0 then None else Some (jacobi a n)
checked_jacobi_of a (negsuc n) = None
