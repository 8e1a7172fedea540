use Rattle.num_modular.specs.Callers.{◌+◌, ◌*◌, ◌%◌, HoldBelow, entry, length}
use Rattle.num_modular.specs.Sums.{sum_below}
use Rattle.ring_decoder.proofs.checks.fill_checked_syndromes.Given as goal

-- the syndromes so far
abbrev pub invariant-syndromes : goal.invariant-syndromes
invariant-syndromes g l =
    let ring = g.R.Reducer in let m = ring.modulus l.fn.r in let number = g.T.RingWord.number in
    let n = length l.fn.word in
    HoldBelow number ring.form ring.value m l.syndromes
    (λ h. sum_below n (λ i. entry number ring.value m l.fn.word i * entry number ring.value m l.fn.checks (h * n + i))
    % m) l.h
