-- The class of a power, which for an odd prime n is the Legendre symbol (Euler's criterion: Hardy and Wright, "An
-- Introduction to the Theory of Numbers", theorem 83).
use Rattle.std.specs.Prelude.{ℕ, ◌-◌, ◌/◌, ◌%◌, ◌^◌, ℤ, pos, negsuc, Option, Some, None, ◌==◌, if◌then◌else◌}
use Rattle.modular_word.specs.Residues.{residue}

-- 0, 1 or -1 where a ^ ((n - 1) / 2) is congruent to 0, 1 or n - 1 modulo n, tried in this order; else `None`
abbrev pub classed_power : ℤ → ℕ → Option ℤ
classed_power a n =
    let p = residue n a ^ ((n - 1) / 2) % n in
    if p == 0 then Some (pos 0) else if p == 1 then Some (pos 1) else if p == n - 1 then Some (negsuc 0) else None

-- the class of the power where it exists: over n that are at least 1 (`negsuc n` is -(n + 1))
abbrev pub checked_legendre_of : ℤ → ℤ → Option ℤ
checked_legendre_of a (pos n) = if n == 0 then None else classed_power a n
checked_legendre_of a (negsuc n) = None
