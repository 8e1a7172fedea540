-- The names that proofs of a caller's loops use, in one place: those of forms, entries and inverses with their
-- laws, those of polynomials by their values, and those of the standard library. The names are those of their
-- files, and the library's own words.
pub use Rattle.std.proofs.Common.{◌≡◌, ◌≢◌, ◌<◌, ◌≤◌, ◌↔◌, ◌+◌, ◌-◌, ◌*◌, ◌/◌, ◌%◌, ℕ, zero, suc, List, length, All}
pub use Rattle.std.proofs.Common.{refl, sym, ◌∙◌, ap, subst, inl, inr, arith, mod-eq_of_lt}
pub use Rattle.modular_word.specs.Inverses.{IsInverse, HasInverse}
pub use Rattle.modular_reduced.specs.Forms.{IsForm}
pub use Rattle.modular_reduced.specs.Entries.{entry, IsCheckedFormOf, HoldBelow, DoneBelow, DoneFrom}
pub use Rattle.modular_reduced.specs.EntryLaws.{entry_at, entry_read, form_read, entry_past, entry_written, entry_kept}
pub use Rattle.modular_reduced.specs.EntryLaws.{forms_written, done_none, done_more, done_before}
pub use Rattle.modular_reduced.specs.EntryLaws.{hold_more, held_read, held_forms, held_entry}
pub use Rattle.modular_transform.proofs.ValueLemmas.{values_below}
pub use Rattle.modular_ring.specs.Products.{product_below}
pub use Rattle.modular_ring.specs.ProductLaws.{product_none, product_step, inverse_left, inverse_right}
pub use Rattle.modular_ring.specs.ProductLaws.{inverse_before, inverse_last, inverse_both}
pub use Rattle.num_modular.specs.InterpolationLaws.{same_coefficients}
pub use Rattle.modular_ring.specs.ProductLaws.{has_both, has_each, has_product, no_inverse}
pub use Rattle.num_modular.specs.Remainders.{remainders, inner_remainders}
use Rattle.modular_ring.specs.ProductLaws as products

-- the set for `using` with which a loop that fills a list with the products so far needs no answer
pub ruleset products_so_far = (products.products_so_far)
