use Rattle.num_modular.specs.Callers.{◌≡◌, ◌*◌, ◌%◌, All, IsForm, IsCheckedFormOf, DoneBelow, entry}
use Rattle.num_modular.specs.Sums.{sum_below}
use Rattle.ring_decoder.proofs.syndromes.next_sum.Given as goal

-- the sum of the terms so far, each of which is multiplied by its point
abbrev pub invariant-terms : goal.invariant-terms
invariant-terms g l =
    let ring = g.R.Reducer in let m = ring.modulus l.fn.r in let number = g.T.RingWord.number in
    let old = entry number ring.value m l.fn.terms in let x = entry number ring.value m l.fn.points in
    All (λ f. IsForm ring.form ring.value m (number f)) l.terms
    × IsCheckedFormOf ring.form ring.value m (number l.sum) (sum_below l.i old % m)
    × DoneBelow (λ k v. v ≡ (old k * x k) % m) l.i old (entry number ring.value m l.terms)
