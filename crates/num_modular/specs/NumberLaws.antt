-- Laws of whole numbers that proofs of callers combine. The names are the library's own words.

-- congruence: of equal numbers, of a number and its residue, its symmetry and its transitivity
pub use Rattle.modular_word.proofs.Congruence.{mod_of_eq, mod_refl, residue_of, mod_sym, mod_trans}
-- congruence of sums, products and powers, and modulo a factor of the modulus; a summand on both sides cancels
pub use Rattle.modular_word.proofs.Congruence.{mod_add, mod_mul, mod_pow, mod_of_multiple, mod_add_cancel}
-- congruent numbers below the modulus are equal; a factor above 0 on both sides of an equation cancels
pub use Rattle.modular_word.proofs.Congruence.{equal_below, factor_cancel}
-- inverses of a number and of its residue; divisors of divisors, and coprime numbers in the other order
pub use Rattle.modular_word.proofs.InverseLemmas.{inverse_mod, inverse_from_mod}
pub use Rattle.modular_word.proofs.Divisors.{divides_through, Coprime-swap}
-- the residue of a difference, plus the subtrahend
pub use Rattle.modular_word.proofs.ResidueLemmas.{difference_and}
-- sums over a range: the empty one, with one more term, by the first term, and in two parts
pub use Rattle.modular_word.proofs.Sums.{sum_below-zero, sum_below-suc, sum_below-first, sum_below-joined}
pub use Rattle.modular_word.proofs.Polynomials.{sum_below-more}
-- of equal and of congruent terms, of multiples, of sums, of zeros, of n numbers c, and of terms up to a bound
pub use Rattle.modular_word.proofs.Sums.{sum_below-same, sum_below-congruent, sum_below-mul, sum_below-add}
pub use Rattle.modular_word.proofs.Sums.{sum_below-of_zeros, sum_below-of_constant, sum_below-bounded}
-- the order of two sums
pub use Rattle.modular_word.proofs.Sums.{sum_below-exchanged, sum_below-reversed}
-- the residue of a sum over a range: of the empty one, and with one more term
pub use Rattle.modular_transform.proofs.PlainSums.{empty_sum_residue_is_zero, sum_residue_of_next_term}
-- powers of 1, and powers to a product
pub use Rattle.modular_word.proofs.Powers.{one-pow, pow-mul}
