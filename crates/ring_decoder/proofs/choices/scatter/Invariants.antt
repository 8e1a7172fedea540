use Rattle.num_modular.specs.Callers.{◌≡◌, ◌≤◌, HoldBelow, entry}
use Rattle.ring_decoder.specs.ErrorPatterns.{zeros, spread}
use Rattle.ring_decoder.proofs.choices.scatter.Given as goal

-- the errors at the places so far
abbrev pub invariant-values : goal.invariant-values
invariant-values g l =
    let ring = g.R.Reducer in let m = ring.modulus l.fn.r in let number = g.T.RingWord.number in
    let z = entry number ring.value m l.fn.values in
    (l.next ≡ zeros l.i z) × (l.next ≤ l.i)
    × HoldBelow number ring.form ring.value m l.errors (spread z (entry number ring.value m l.fn.chosen)) l.i
