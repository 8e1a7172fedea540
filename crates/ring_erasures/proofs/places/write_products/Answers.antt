use Rattle.num_modular.specs.Callers.{arith, entry_read, forms_written}
use Rattle.std.proofs.Common.{slice_index}
use Rattle.ring_erasures.proofs.ErasedPlaces.{scattered_more}
use Rattle.ring_erasures.proofs.places.write_products.Goals as goal

pub places-preserved : goal.places-preserved
places-preserved g c =
    let ring = g.R.Reducer in let m = ring.modulus c.args.r.now in let number = g.T.RingWord.number in
    let values = c.args.values.now in let factors = c.args.factors.now in let l = c.places.l in
    let p = slice_index c.args.lost.now l in let so_far = c.places.invariant in
    let below = c.places-test.true in let there = c.requires.places.within l below in
    let left = entry_read number ring.value m values p _ (omega (arith, there, c.requires.each_value))
    c.index-values-place.is in
    let right = entry_read number ring.value m factors p _ (omega (arith, there, c.requires.each_factor))
    c.index-factors-place.is in (
      forms_written number _ _ _ _ _ _ c.mul.ensures.checked so_far.0,
      scattered_more number ring.value m l _ _ _ _ _ _ (rw c.places.auto.word c.requires.places) below so_far.1
          (rw (← left, ← right) c.mul.ensures.value),
    )
