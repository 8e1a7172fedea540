use Rattle.num_modular.specs.Callers.{◌*◌, ◌%◌, All, IsForm, entry}
use Rattle.std.proofs.Common.{slice_index}
use Rattle.ring_erasures.specs.Erasures.{IsScattered}
use Rattle.ring_erasures.proofs.places.write_products.Given as goal

-- the products so far are at their places
abbrev pub invariant-places : goal.invariant-places
invariant-places g l =
    let ring = g.R.Reducer in let m = ring.modulus l.fn.r in let number = g.T.RingWord.number in
    let values = entry number ring.value m in
    All (λ f. IsForm ring.form ring.value m (number f)) l.word
    × IsScattered l.l l.fn.lost (λ i. (values l.fn.values (slice_index l.fn.lost i)
    * values l.fn.factors (slice_index l.fn.lost i)) % m) (values l.fn.word) (values l.word)
