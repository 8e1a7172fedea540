use Rattle.num_modular.specs.Callers.{◌+◌, ◌*◌, ◌%◌, HoldBelow, entry, length}
use Rattle.num_modular.specs.Sums.{sum_below}
use Rattle.ring_decoder.proofs.syndromes.fill_moments.Given as goal

-- the moments so far
abbrev pub invariant-moments : goal.invariant-moments
invariant-moments g l =
    let ring = g.R.Reducer in let m = ring.modulus l.fn.r in let number = g.T.RingWord.number in
    HoldBelow number ring.form ring.value m l.moments
    (λ h. sum_below (length l.product) (λ k. entry number ring.value m l.product k
    * entry number ring.value m l.fn.syndromes (h + k)) % m) l.h
