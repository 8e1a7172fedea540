use Rattle.num_modular.specs.Callers.{◌∙◌, arith}
use Rattle.num_modular.specs.Callers.{entry, entry_at, entry_read, forms_written, done_more}
use Rattle.num_modular.specs.NumberLaws.{mod_of_eq}
use Rattle.ring_decoder.proofs.SyndromeSums.{product_of_equal}
use Rattle.num_modular.specs.NumberLaws.{sum_residue_of_next_term}
use Rattle.ring_decoder.proofs.syndromes.next_sum.Goals as goal

pub terms-preserved : goal.terms-preserved
terms-preserved g c =
    let ring = g.R.Reducer in let m = ring.modulus c.args.r.now in let number = g.T.RingWord.number in
    let points = c.args.points.now in let list = c.terms.terms in let i = c.terms.i in let so_far = c.terms.invariant in
    let old = entry number ring.value m c.args.terms.now in
    let kept = so_far.2.kept i (omega arith) in
    let term = entry_at number ring.value m list i c.index-terms-i.result (omega arith) ∙ kept in
    let again = entry_at number ring.value m list i c.index-terms-i-in-terms.result (omega arith) ∙ kept in
    let point = entry_read number ring.value m points i _ (omega arith) c.index-points-i.is in (
      forms_written number ring.form ring.value m list i c.mul.result c.mul.ensures.checked so_far.0,
      record {
        checked = c.add-sum.ensures.checked;
        same = c.add-sum.ensures.value ∙ sum_residue_of_next_term m i _ _ old so_far.1.same (mod_of_eq term);
      },
      done_more number ring.value m list i c.mul.result _ old (omega arith) so_far.2
          (product_of_equal m _ _ _ (old i) (entry number ring.value m points i) c.mul.ensures.value again point),
    )
