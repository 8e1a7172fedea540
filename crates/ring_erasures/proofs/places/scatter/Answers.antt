use Rattle.num_modular.specs.Callers.{◌<◌, arith, length, entry_read, form_read, forms_written}
use Rattle.ring_erasures.proofs.ErasedPlaces.{scattered_more}
use Rattle.ring_erasures.proofs.places.scatter.Goals as goal

pub places-preserved : goal.places-preserved
places-preserved g c =
    let number = g.T.RingWord.number in let ring = g.R.Reducer in let m = ring.modulus c.args._r.now in
    let l = c.places.l in let so_far = c.places.invariant in
    let within : l < length c.args.numbers.now = omega (arith, c.requires.each, c.places-test.true) in
    let is = c.index-numbers-l.is in (
      forms_written number _ _ _ _ _ _
          (form_read number _ _ _ c.args.numbers.now l _ c.requires.numbers within is) so_far.0,
      scattered_more number ring.value m l _ _ _ _ _ _ (rw c.places.auto.list c.requires.places) c.places-test.true
          so_far.1
          (entry_read number ring.value m c.args.numbers.now l _ within is),
    )
