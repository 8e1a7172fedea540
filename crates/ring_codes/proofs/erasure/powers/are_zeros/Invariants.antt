use Rattle.ring_codes.proofs.Names.{◌≡◌, ◌<◌, ◌≤◌, ℕ, entry}
use Rattle.ring_codes.proofs.erasure.powers.are_zeros.Given as goal

-- the entries so far are 0
abbrev pub invariant-entries : goal.invariant-entries
invariant-entries g l =
    let ring = g.R.Reducer in let m = ring.modulus l.fn.r in
    (i : ℕ) → i < l.i → l.fn.from ≤ i → entry g.T.RingWord.number ring.value m l.fn.entries i ≡ 0
