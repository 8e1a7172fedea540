use Rattle.num_modular.specs.Callers.{◌≡◌, ◌%◌, All, IsForm, DoneBelow, IsCheckedFormOf, entry}
use Rattle.ring_erasures.specs.Erasures.{derivative}
use Rattle.ring_erasures.proofs.derivative.differentiate.Given as goal

-- the coefficients so far are those of the derivative
abbrev pub invariant-coefficients : goal.invariant-coefficients
invariant-coefficients g l =
    let ring = g.R.Reducer in let m = ring.modulus l.fn.r in let number = g.T.RingWord.number in
    let old = entry number ring.value m l.fn.coefficients in
    All (λ f. IsForm ring.form ring.value m (number f)) l.coefficients
    × IsCheckedFormOf ring.form ring.value m (number l.index) (l.i % m)
    × DoneBelow (λ i v. v ≡ derivative old i % m) l.i old (entry number ring.value m l.coefficients)
