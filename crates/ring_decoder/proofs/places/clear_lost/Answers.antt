use Rattle.num_modular.specs.Callers.{◌<◌, ◌%◌, ◌∙◌, ap, inl, inr, sym, refl, arith, length}
use Rattle.num_modular.specs.Callers.{entry, entry_written, entry_kept, forms_written}
use Rattle.std.proofs.Common.{slice_index}
use Rattle.std.proofs.Math.Nat.{zero-mod}
use Rattle.std.proofs.lemmas.Bool.{cases_eq}
use Rattle.ring_decoder.proofs.LostPlaces.{without_more, without_kept}
use Rattle.ring_decoder.proofs.places.clear_lost.Goals as goal

pub places-preserved : goal.places-preserved
places-preserved g c =
    let ring = g.R.Reducer in let m = ring.modulus c.args.r.now in let number = g.T.RingWord.number in
    let lost = c.args.lost.now in let k = c.places.i in let p = slice_index lost k in let values = c.places.values in
    let old = entry number ring.value m c.args.values.now in let so_far = c.places.invariant in
    let within : p < length values = omega (arith, c.requires.within k c.places-test.true, c.places.auto.values) in (
      forms_written number ring.form ring.value m values p c.transform-zero.result c.transform-zero.ensures.checked
          so_far.0,
      λ i. elim (cases_eq i p) [
        | inl e ↦ rw e (entry_written number ring.value m values p c.transform-zero.result within
            ∙ c.transform-zero.ensures.value ∙ ap (λ v. v % m) c.zero.ensures ∙ zero-mod m
            ∙ sym (without_more lost k p old c.places-test.true refl))
        | inr other ↦ entry_kept number ring.value m values p i c.transform-zero.result other ∙ so_far.1 i
            ∙ sym (without_kept lost k i old c.places-test.true other)
      ],
    )
