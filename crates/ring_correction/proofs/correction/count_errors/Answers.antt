use Rattle.num_modular.specs.Callers.{◌<◌, ◌∙◌, arith, length, entry, entry_read, form_read}
use Rattle.std.proofs.Common.{slice_index}
use Rattle.ring_correction.proofs.NearPairs.{counted_forms}
use Rattle.ring_codes.proofs.Distances.{one_counted}
use Rattle.ring_correction.proofs.correction.count_errors.Goals as goal

pub places-preserved : goal.places-preserved
places-preserved g c =
    let ring = g.R.Reducer in let m = ring.modulus c.args._r.now in let number = g.T.RingWord.number in
    let symbols = c.args.symbols.now in let word = c.args.word.now in let places = c.args.places.now in
    let i = c.places.i in let p = slice_index places i in let so_far = c.places.invariant in
    let few = c.difference-errors.ensures.few in let before = so_far.1 in
    let here : i < length symbols = omega (arith, c.requires.pairs) in
    let there = c.requires.within i c.places-test.true in (
      one_counted i _ _ (entry number ring.value m symbols) (λ j. entry number ring.value m word (slice_index places j))
          so_far.0
          (c.difference-errors.ensures.counted
          ∙ counted_forms ring.form ring.value m _ _ _ _
          (form_read number ring.form ring.value m symbols i _ c.requires.symbols here c.index-symbols-i.is)
          (form_read number ring.form ring.value m word p _ c.requires.word there c.index-word-places.is)
          (entry_read number ring.value m symbols i _ here c.index-symbols-i.is)
          (entry_read number ring.value m word p _ there c.index-word-places.is)),
      omega (arith, few, before),
    )
