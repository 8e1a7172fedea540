use Rattle.modular_monty.proofs.NegatedInverses.{negated_inverse_tested}
use Rattle.modular_monty.proofs.odd_ring.is_negated_inverse.Goals as goal

pub returns : goal.returns
returns g c =
    let zero = c.is_zero_word.ensures.zero in
    let tested = negated_inverse_tested g.T.PathWord.base _ _ _ _ _ c.wrapping_mul.ensures.value
    c.wrapping_mul.ensures.fits c.one.ensures c.wrapping_add.ensures.value in
    (λ told. tested.0 (zero.0 told), λ inverse. zero.1 (tested.1 inverse))
