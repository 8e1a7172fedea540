use Rattle.num_modular.specs.Callers.{◌≡◌, ◌≤◌, entry}
use Rattle.ring_decoder.specs.ErrorPatterns.{zeros}
use Rattle.ring_decoder.proofs.choices.count_zeros.Given as goal

-- the zeros so far
abbrev pub invariant-values : goal.invariant-values
invariant-values g l =
    let ring = g.R.Reducer in let m = ring.modulus l.fn.r in
    (l.count ≡ zeros l.i (entry g.T.RingWord.number ring.value m l.fn.values)) × (l.count ≤ l.i)
