use Rattle.ring_codes.proofs.Names.{◌+◌, ◌*◌, All, IsForm, entry, DoneBelow, IsCheckedFormOf, Congruent, shifted}
use Rattle.ring_codes.proofs.erasure.roots.multiply_by_root.Given as goal

-- the coefficients so far are replaced, and the one before is kept
abbrev pub invariant-coefficients : goal.invariant-coefficients
invariant-coefficients g l =
    let ring = g.R.Reducer in let m = ring.modulus l.fn.r in let number = g.T.RingWord.number in
    let old = entry number ring.value m l.fn.coefficients in
    All (λ f. IsForm ring.form ring.value m (number f)) l.coefficients
    × IsCheckedFormOf ring.form ring.value m (number l.before) (shifted old l.i)
    × DoneBelow (λ k v. Congruent m (v + ring.value m (number l.fn.point) * old k) (shifted old k))
    l.i old (entry number ring.value m l.coefficients)
