use Rattle.num_modular.specs.Callers.{◌≡◌, ◌∙◌, length, arith}
use Rattle.ring_correction.proofs.KeyPairs.{raised_pair_is_key_pair}
use Rattle.std.proofs.Common.{take_at, drop_at}
use Rattle.ring_correction.proofs.key_equation.raise.Goals as goal

pub returns-clause-pair : goal.returns-clause-pair
returns-clause-pair g c d k i u v x y whole lengths next at pair =
    let split = c.args.split in let m = g.R.Reducer.modulus c.args.r.now in let cut =
    c.split_at_mut-numerator.ensures in
    let is_d : length c.split_at_mut-numerator.result.1.now ≡ d = omega (arith, cut.back_len, whole) in
    let parts = rw (← cut.front, ← cut.back) at pair in let long = c.multiply_by_root.auto.coefficients
    ∙ cut.front_len in
    rw (
      take_at c.multiply_by_root.new.coefficients c.multiply_by_root-2.new.coefficients split long,
      drop_at c.multiply_by_root.new.coefficients c.multiply_by_root-2.new.coefficients split long,
    )
    (raised_pair_is_key_pair m k split d i u v _ x y _ _ _ _ lengths next at
    (λ l b. c.multiply_by_root.ensures.product l (omega (arith, b, cut.front_len)))
    (λ l b. c.multiply_by_root-2.ensures.product l (omega (arith, b, is_d))) parts)
