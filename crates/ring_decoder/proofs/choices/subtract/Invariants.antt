use Rattle.num_modular.specs.Callers.{◌+◌, All, IsForm, DoneBelow, entry}
use Rattle.num_modular.specs.Congruence.{Congruent}
use Rattle.ring_decoder.proofs.choices.subtract.Given as goal

-- the symbols so far are less their errors
abbrev pub invariant-places : goal.invariant-places
invariant-places g l =
    let ring = g.R.Reducer in let m = ring.modulus l.fn.r in let number = g.T.RingWord.number in
    let old = entry number ring.value m l.fn.word in
    All (λ f. IsForm ring.form ring.value m (number f)) l.word
    × DoneBelow (λ i new. Congruent m (new + entry number ring.value m l.fn.errors i) (old i)) l.i old
    (entry number ring.value m l.word)
