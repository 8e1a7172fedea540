-- The class of the power: by the power itself, and over an odd prime.
use Rattle.std.proofs.Common.{if◌then◌else◌, ◌≡◌, ◌≢◌, ℕ, ◌-◌, ◌/◌, ◌%◌, ◌^◌, ◌==◌, Bool, false}
use Rattle.std.proofs.Common.{ℤ, pos, negsuc, nat_abs, Option, Some, None, arith}
use Rattle.std.proofs.lemmas.Bool.{cond-false, ne_eqb}
use Rattle.modular_word.specs.Residues.{residue}
use Rattle.modular_symbols.specs.Jacobi.{jacobi}
use Rattle.modular_symbols.specs.Kronecker.{signed}
use Rattle.modular_symbols.specs.Legendre.{checked_legendre_of}
use Rattle.modular_symbols.specs.Primes.{IsOddPrime}
use Rattle.modular_symbols.proofs.Euler.{classed_power-jacobi}

-- is the Jacobi symbol
pub class_over_prime : (a z : ℤ) → IsOddPrime z → checked_legendre_of a z ≡ Some (jacobi a (nat_abs z))
class_over_prime a (pos n) p = search (arith, cond-false, ne_eqb, classed_power-jacobi)
class_over_prime a (negsuc n) p = absurd p

-- ---- the class by the power
-- of a power that is found, `last` the number before n
abbrev pub class_by : ℕ → ℕ → Option ℤ
class_by last power =
    if power == 0 then Some (pos 0) else if power == 1 then Some (pos 1) else if power
    == last then Some (negsuc 0) else None

pub class_is : (z : ℤ) (minus : Bool) (n last half rest power : ℕ) → minus ≡ false → n ≢ 0
    → last ≡ n - 1 → half ≡ last / 2
    → rest ≡ residue n z → power ≡ rest ^ half % n → checked_legendre_of z (signed minus (pos n)) ≡ class_by last power
class_is z minus n last half rest power m some l h r p = search (arith, cond-false, ne_eqb)
