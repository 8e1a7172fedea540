use Rattle.num_modular.specs.Callers.{All, IsForm, entry}
use Rattle.ring_erasures.specs.Erasures.{IsScattered}
use Rattle.ring_erasures.proofs.places.scatter.Given as goal

-- the numbers so far are at their places
abbrev pub invariant-places : goal.invariant-places
invariant-places g l =
    let ring = g.R.Reducer in let m = ring.modulus l.fn._r in let number = g.T.RingWord.number in
    let values = entry number ring.value m in
    All (λ f. IsForm ring.form ring.value m (number f)) l.list
    × IsScattered l.l l.fn.lost (values l.fn.numbers) (values l.fn.list) (values l.list)
