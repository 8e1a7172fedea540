use Rattle.std.proofs.Common.{◌%◌, map, take, length, slice_index}
use Rattle.modular_word.specs.Sums.{polynomial_highest_first}
use Rattle.modular_reduced.specs.Integers.{IsInteger}
use Rattle.test_operations.proofs.tests.polynomial.horner.Given as goal

-- the value of the polynomial of the coefficients so far
abbrev pub invariant-terms : goal.invariant-terms
invariant-terms g l =
    let ring = g.I.ModularInteger in
    let m = ring.modulus_number l.x in
    let numbers = map ring.residue_number (take l.c-index l.coefficients) in
    IsInteger ring.modulus_number ring.residue_number m
    (polynomial_highest_first (length numbers) (slice_index numbers) (ring.residue_number l.x) % m) l.value
