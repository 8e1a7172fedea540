use Rattle.num_modular.specs.Callers.{◌*◌, ◌%◌, All, IsForm, HoldBelow, entry}
use Rattle.ring_erasures.specs.Erasures.{IsScattered}
use Rattle.ring_erasures.proofs.places.multiply_kept.Given as goal

-- the products so far
abbrev pub invariant-symbols : goal.invariant-symbols
invariant-symbols g l =
    let ring = g.R.Reducer in let m = ring.modulus l.fn.r in let number = g.T.RingWord.number in
    let values = entry number ring.value m in
    HoldBelow number ring.form ring.value m l.products (λ i. (values l.fn.word i * values l.fn.factors i) % m) l.i

-- 0 stands at the places so far, and the other products are as they were
abbrev pub invariant-places : goal.invariant-places
invariant-places g l =
    let ring = g.R.Reducer in let m = ring.modulus l.fn.r in let number = g.T.RingWord.number in
    let values = entry number ring.value m in
    All (λ f. IsForm ring.form ring.value m (number f)) l.products
    × IsScattered l.l l.fn.lost (λ i. 0) (values l.initial.products) (values l.products)
