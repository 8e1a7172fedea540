use Rattle.ring_codes.proofs.Names.{◌+◌, ◌*◌, ◌%◌, ◌≡◌, All, IsForm, entry, DoneBelow}
use Rattle.ring_codes.proofs.erasure.values.step_each.Given as goal

-- the values so far are those of the next step
abbrev pub invariant-points : goal.invariant-points
invariant-points g l =
    let ring = g.R.Reducer in let m = ring.modulus l.fn.r in let number = g.T.RingWord.number in
    let old = entry number ring.value m l.fn.values in
    All (λ f. IsForm ring.form ring.value m (number f)) l.values
    × DoneBelow (λ k v. v ≡ (ring.value m (number l.fn.coefficient) + old k * entry number ring.value m l.fn.points
    k % m) % m)
    l.i old (entry number ring.value m l.values)
