use Rattle.std.proofs.Common.{◌≡◌, ◌+◌, ◌-◌, ◌*◌, ◌/◌, ◌^◌, ◌∙◌, ap, arith}
use Rattle.std.proofs.lemmas.Nat.{pow_pos}
use Rattle.modular_barrett.proofs.ScaledSums.{base_parts, reduced_sum_is_scaled_residue}
use Rattle.modular_barrett.proofs.list_products.reduced_products.Goals as goal

pub returns : goal.returns
returns g c =
    λ v whole.
    let number = g.T.RingWord.number in let b = g.T.PathWord.base in
    let s = c.args.shift in let k = g.T.RingWord.width - s in
    let parts : b ≡ 2 ^ s * 2 ^ k = base_parts s k g.met.T.PathWord.base_is (omega (arith, c.requires.shift)) in
    let sum : g.T.PathWord.double_number c.carried_sum-sum.result.0 + b * b * number c.carried_sum-sum.result.1
    ≡ 2 ^ s * (2 ^ s * v) = omega (arith, c.carried_sum-sum.ensures, whole) in
    reduced_sum_is_scaled_residue (number c.split-low.result.0) (number c.split-low.result.1)
    (number c.carried_sum-sum.result.1)
    (2 ^ k) v (pow_pos s) parts
    c.split-low.ensures.value c.upper-rest.ensures
    (rw (c.double_shift_right-shifted.ensures ∙ ap (λ n. n / 2 ^ s) c.merge.ensures.value) at c.div_rem_2by1.ensures)
    sum
