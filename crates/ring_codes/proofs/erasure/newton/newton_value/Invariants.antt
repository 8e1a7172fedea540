use Rattle.ring_codes.proofs.Names.{◌+◌, ◌-◌, ◌*◌, IsForm, entry, Congruent, newton_form}
use Rattle.ring_codes.proofs.NewtonForms.{differences}
use Rattle.ring_codes.proofs.erasure.newton.newton_value.Given as goal

-- the values of the last k coefficients of each half, and the product of the differences from the points of the lower
abbrev pub invariant-coefficients : goal.invariant-coefficients
invariant-coefficients g l =
    let ring = g.R.Reducer in let m = ring.modulus l.fn.r in let number = g.T.RingWord.number in
    let e = entry number ring.value m l.fn.form in let x = entry number ring.value m l.fn.points in
    let a = ring.value m (number l.fn.point) in
    IsForm ring.form ring.value m (number l.low)
    × Congruent m (ring.value m (number l.low)) (newton_form m e x a (l.half - l.k) l.k)
    × IsForm ring.form ring.value m (number l.product)
    × Congruent m (ring.value m (number l.product)) (differences m x a (l.half - l.k) l.k)
    × IsForm ring.form ring.value m (number l.high)
    × Congruent m (ring.value m (number l.high)) (newton_form m e x a (2 * l.half - l.k)
    (l.k + (l.fn.count - 2 * l.half)))
