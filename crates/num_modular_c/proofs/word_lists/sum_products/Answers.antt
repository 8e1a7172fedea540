use Rattle.std.proofs.Common.{◌≡◌, ◌%◌, ◌∙◌, ap, length, sym, arith}
use Rattle.num_modular.specs.NumberLaws.{mod_of_eq, mod_trans, residue_of, sum_below-zero, sum_residue_of_next_term}
use Rattle.num_modular_c.proofs.WordLists.{product_of_words}
use Rattle.num_modular_c.proofs.word_lists.sum_products.Goals as goal

pub entries-init : goal.entries-init
entries-init g c = record {
  form = c.transform-sum.ensures.checked;
  value = c.transform-sum.ensures.value ∙ ap (λ v. v % g.R.Reducer.modulus c.args.r.now) (sym (sum_below-zero _));
}

pub entries-preserved : goal.entries-preserved
entries-preserved g c =
    let product = product_of_words _ _ _ _ _ c.transform.ensures.value c.transform-in-entries.ensures.value in
    record {
      form = c.add-sum.ensures.checked;
      value = c.add-sum.ensures.value ∙ sum_residue_of_next_term _ c.entries.i _ _ _ c.entries.invariant.value
          (mod_trans (mod_of_eq (c.mul-product.ensures.value ∙ product)) (residue_of _));
    }

pub returns : goal.returns
returns g c =
    let all : c.entries.i ≡ length c.args.xs.now = omega arith in
    c.residue.ensures.value ∙ (rw all at c.entries.invariant.value)
