use Rattle.num_modular.specs.Callers.{◌≡◌, ◌≤◌, entry}
use Rattle.ring_decoder.specs.ErrorPatterns.{listed_weight}
use Rattle.ring_decoder.proofs.choices.count_wrong.Given as goal

-- the wrong symbols so far
abbrev pub invariant-errors : goal.invariant-errors
invariant-errors g l =
    let ring = g.R.Reducer in let m = ring.modulus l.fn.r in
    (l.wrong ≡ listed_weight m l.i l.fn.lost (entry g.T.RingWord.number ring.value m l.fn.errors)) × (l.wrong ≤ l.i)
