use Rattle.ring_codes.proofs.Names.{◌%◌, ◌^◌, HoldBelow, IsCheckedFormOf}
use Rattle.ring_codes.proofs.erasure.powers.fill_powers.Given as goal

-- the powers so far, and the next
abbrev pub invariant-powers : goal.invariant-powers
invariant-powers g l =
    let ring = g.R.Reducer in let m = ring.modulus l.fn.r in let number = g.T.RingWord.number in
    HoldBelow number ring.form ring.value m l.points (λ i. ring.value m (number l.fn.g) ^ i % m) l.i
    × IsCheckedFormOf ring.form ring.value m (number l.power) (ring.value m (number l.fn.g) ^ l.i % m)
