use Rattle.num_modular.specs.Callers.{◌*◌, ◌%◌, HoldBelow, entry}
use Rattle.ring_decoder.proofs.errors.multiply_each.Given as goal

-- the products so far
abbrev pub invariant-numbers : goal.invariant-numbers
invariant-numbers g l =
    let ring = g.R.Reducer in let m = ring.modulus l.fn.r in let number = g.T.RingWord.number in
    HoldBelow number ring.form ring.value m l.products
    (λ i. (entry number ring.value m l.fn.xs i * entry number ring.value m l.fn.ys i) % m) l.i
