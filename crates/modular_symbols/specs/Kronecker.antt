-- The Kronecker symbol: the Jacobi symbol over any whole number (Cohen, "A Course in Computational Algebraic Number
-- Theory", definition 1.4.8).
use Rattle.std.specs.Prelude.{ℕ, zero, suc, ◌/◌, ◌%◌, ◌^◌, ℤ, pos, negsuc, ◌*ℤ◌, neg_ℤ}
use Rattle.std.specs.Prelude.{nat_abs, int_lt, Bool, ◌==◌, ◌&&◌, ◌||◌, if◌then◌else◌}
use Rattle.std.specs.Int.{int_pow}
use Rattle.modular_word.specs.Residues.{residue}
use Rattle.modular_symbols.specs.Jacobi.{jacobi}

-- z, or -z where `turned` is true: the number with this sign and magnitude
abbrev pub signed : Bool → ℤ → ℤ
signed turned z = if turned then neg_ℤ z else z

-- the greatest exponent from 0 to k of a power of 2 that divides n
unfoldable pub twos_up_to : ℕ → ℕ → ℕ
twos_up_to n zero = 0
twos_up_to n (suc k) = if n % 2 ^ suc k == 0 then suc k else twos_up_to n k

-- the exponent of 2 in n, for n that is at least 1
abbrev pub twos : ℕ → ℕ
twos n = twos_up_to n n

-- the symbol of a over 2
abbrev pub over_two : ℤ → ℤ
over_two a = if residue 2 a == 0 then pos 0 else if (residue 8 a == 1) || (residue 8 a == 7) then pos 1 else negsuc 0

-- the symbol of a over n that is at least 1: the product of one over 2 for each factor 2 of n, and of the Jacobi
-- symbol over the odd part
unfoldable pub kronecker_above : ℤ → ℕ → ℤ
kronecker_above a n = int_pow (over_two a) (twos n) *ℤ jacobi a (n / 2 ^ twos n)

-- the Kronecker symbol of a over n: over 0 it is 1 only for 1 and -1, and it is negated where both are negative
abbrev pub kronecker : ℤ → ℤ → ℤ
kronecker a n =
    if nat_abs n == 0 then (if nat_abs a == 1 then pos 1 else pos 0)
    else signed (int_lt a (pos 0) && int_lt n (pos 0)) (kronecker_above a (nat_abs n))
