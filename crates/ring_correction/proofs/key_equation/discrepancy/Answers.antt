use Rattle.std.proofs.Common.{take, drop, length-take-le, length-drop}
use Rattle.num_modular.specs.Callers.{◌≡◌, arith, length}
use Rattle.ring_correction.proofs.KeyPairs.{rest_whole}
use Rattle.num_modular.specs.NumberLaws.{mod_sym, mod_trans, mod_add, mod_mul, mod_refl}
use Rattle.ring_codes.proofs.Congruences.{mod_of_combination, mod_of_residue, mod_of_difference}
use Rattle.ring_correction.proofs.key_equation.discrepancy.Goals as goal

pub returns-clause-value : goal.returns-clause-value
returns-clause-value g c d s t whole at_s at_t =
    let ring = g.R.Reducer in let m = ring.modulus c.args.r.now in let number = g.T.RingWord.number in
    let positive = (g.met.R.Reducer.canonical c.args.r.now).positive in
    let pair = c.args.pair.now in let split = c.args.split in let left = length-drop split pair in
    let front : length (take split pair) ≡ split = length-take-le split pair c.requires.within in
    let back : length (drop split pair) ≡ d = omega (arith, left, whole) in
    let value = rw front at c.evaluate-value.ensures.value in
    let located = mod_of_residue (rw (rest_whole pair split, back) at c.evaluate-located.ensures.value) in
    let product = mod_trans (mod_of_residue (rw (← at_t) at c.mul-product.ensures.value))
    (mod_mul (mod_refl t) located) in
    rw at_s (mod_of_combination (mod_add
    (mod_of_difference (ring.value m (number c.mul-product.result)) positive c.sub.ensures.value)
    (mod_add (mod_sym product) (mod_of_residue value))) (omega arith))
