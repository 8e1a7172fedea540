use Rattle.num_modular.specs.Callers.{◌%◌, ◌∙◌, ap, sym, arith, entry, entry_read, form_read}
use Rattle.ring_codes.proofs.Distances.{counted, one_counted}
use Rattle.ring_decoder.proofs.LostPlaces.{without_alike, without_below}
use Rattle.ring_decoder.specs.Corrector.{without}
use Rattle.ring_decoder.proofs.choices.count_wrong.Goals as goal

pub errors-preserved : goal.errors-preserved
errors-preserved g c =
    let ring = g.R.Reducer in let m = ring.modulus c.args.r.now in let number = g.T.RingWord.number in
    let errors = c.args.errors.now in let lost = c.args.lost.now in let i = c.errors.i in
    let e = entry number ring.value m errors in let so_far = c.errors.invariant in let x = c.index-errors-i.result in
    let at = entry_read number ring.value m errors i x c.errors-test.true c.index-errors-i.is in
    let form = form_read number ring.form ring.value m errors i x c.requires.errors c.errors-test.true
    c.index-errors-i.is in (
      one_counted i _ _ (λ i. without lost e i % m) (λ i. 0) so_far.0
          (c.is_wrong-wrong.ensures.counted
          ∙ ap (λ v. counted v 0) (without_alike lost (λ _. ring.value m (number x)) e i (λ _. at)
          ∙ sym (without_below m lost e i (rw at at form.below)))),
      omega (arith, c.is_wrong-wrong.ensures.few, so_far.1),
    )
