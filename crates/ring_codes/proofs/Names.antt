-- The names of other libraries and of the definitions that the proofs here use, in one place.
pub use Rattle.std.proofs.Common.{◌%◌, ◌*◌, ◌++◌, ◌+◌, ◌-ℤ◌, ◌-◌, ◌/◌, ◌<◌, ◌^◌, ◌↔◌, ◌∙◌, ◌∷◌, ◌≡◌, ◌≢◌, ◌≤◌, ◌⊎◌, All}
pub use Rattle.std.proofs.Common.{Bool, IsTrue, List, MatchOption, None, Option, Some, [], add-one, ap, arith}
pub use Rattle.std.proofs.Common.{below_more, cond, drop, eqb, false, get_or, get_or-drop, get_or-set_other}
pub use Rattle.std.proofs.Common.{get_or-set_same, inl, inr, is_some, length, length-append, length-drop, ltb}
pub use Rattle.std.proofs.Common.{mod-eq_of_lt, mod-lt, not, pos, refl, rules, set, slice_index, slice_range, suc, sym}
pub use Rattle.std.proofs.Common.{take, true, zero, ℕ}
pub use Rattle.std.proofs.Math.Logic.{∥∥₁_elim}
pub use Rattle.std.proofs.Math.Nat.{add-mul-mod_self_left, le_refl, mod-mod, mul-le-mul_left}
pub use Rattle.std.proofs.Math.Nat.{mul-le-mul_right, pow-suc, pow-zero, zero-mod}
pub use Rattle.std.proofs.lemmas.Bool.{cases_eq, cases_lt, false≢true}
pub use Rattle.std.proofs.lemmas.Bool.Decides.{eqb_tells, leb_tells}
pub use Rattle.std.proofs.lemmas.Int.{ints}
pub use Rattle.std.proofs.lemmas.List.{get_or-append_right, get_or-take, get_or_read, length-take-le}
pub use Rattle.std.proofs.lemmas.Nat.{div-mul-add, mod-mul-add, mul-mod_first, mul-mod_second, pow-add}
pub use Rattle.std.proofs.lemmas.Slice.{take-put_mid, take-put_mid_below}
pub use Rattle.std.specs.Int.{IsPowerOfTwo}
pub use Rattle.num_modular.specs.Callers.{DoneBelow, HoldBelow, IsCheckedFormOf, IsForm, done_more, done_none, entry}
pub use Rattle.num_modular.specs.Callers.{entry_at, entry_kept, entry_past, entry_read, entry_written, form_read}
pub use Rattle.num_modular.specs.Callers.{forms_written, has_each, has_product, held_entry, held_forms, hold_more}
pub use Rattle.num_modular.specs.Callers.{product_below, product_step, same_coefficients, subst, values_below}
pub use Rattle.num_modular.specs.Congruence.{Congruent}
pub use Rattle.num_modular.specs.Inverses.{HasInverse, IsInverse, IsInversion}
pub use Rattle.num_modular.specs.NumberLaws.{equal_below, factor_cancel}
pub use Rattle.num_modular.specs.NumberLaws.{difference_and, inverse_from_mod, inverse_mod, mod_add, mod_add_cancel}
pub use Rattle.num_modular.specs.NumberLaws.{mod_mul, mod_of_eq, mod_pow, mod_refl, mod_sym, mod_trans, one-pow}
pub use Rattle.num_modular.specs.NumberLaws.{pow-mul, residue_of, sum_below-congruent, sum_below-more}
pub use Rattle.num_modular.specs.NumberLaws.{sum_below-of_zeros, sum_below-same, sum_below-suc, sum_below-zero}
pub use Rattle.num_modular.specs.Plans.{numbers}
pub use Rattle.num_modular.specs.PolynomialLaws.{polynomial-congruent, polynomial-first, polynomial-none}
pub use Rattle.num_modular.specs.PolynomialLaws.{polynomial-same}
pub use Rattle.num_modular.specs.Polynomials.{HaveUnitDifferences, polynomial_at}
pub use Rattle.num_modular.specs.ProductLaws.{has_both, product-more, product-zero}
pub use Rattle.num_modular.specs.Residues.{residue}
pub use Rattle.num_modular.specs.SumLaws.{single, tail}
pub use Rattle.num_modular.specs.Sums.{sum_below}
pub use Rattle.num_modular.specs.Transforms.{Suits, transform}
pub use Rattle.ring_codes.specs.Erasure.{ArePlaces, IsEncoding, IsErasureCodeword, IsFault, distance}
pub use Rattle.ring_codes.specs.Newton.{difference, newton_form}
pub use Rattle.ring_codes.specs.Powers.{ArePowers}
pub use Rattle.ring_codes.specs.Prepared.{AreRows, product_but}
pub use Rattle.ring_codes.specs.Roots.{AreRootCoefficients, HasRoots}
pub use Rattle.ring_codes.specs.Secrets.{FitsShares, IsPerfectlySecret}
pub use Rattle.ring_codes.specs.Shifts.{shifted}
