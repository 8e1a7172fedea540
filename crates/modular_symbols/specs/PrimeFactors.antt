-- The Jacobi symbol by the prime factors of n, as textbooks define it (Ireland and Rosen, "A Classical Introduction to
-- Modern Number Theory", section 5.2).
use Rattle.std.specs.Prelude.{◌≡◌, ℕ, ◌*◌, ℤ, pos, ◌*ℤ◌, Some, List, fold}
use Rattle.modular_symbols.specs.Legendre.{checked_legendre_of}
use Rattle.modular_symbols.specs.Primes.{IsOddPrime}

-- p is an odd prime, and s is the Legendre symbol of a over it
abbrev pub IsLegendre : ℤ → ℕ → ℤ → Type 0
IsLegendre a p s = IsOddPrime (pos p) × (checked_legendre_of a (pos p) ≡ Some s)

-- the product of a list of numbers
abbrev pub product : List ℕ → ℕ
product numbers = fold (λ n p. n * p) 1 numbers

-- the product of a list of symbols
abbrev pub symbol_product : List ℤ → ℤ
symbol_product symbols = fold (λ z s. z *ℤ s) (pos 1) symbols
