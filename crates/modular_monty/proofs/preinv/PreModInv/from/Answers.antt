use Rattle.std.proofs.Common.{◌≡◌, ◌-◌, ◌*◌, ◌/◌, ◌%◌, ◌^◌, ap, ◌∙◌, arith}
use Rattle.modular_word.proofs.Lifting.{base_above_two}
use Rattle.modular_monty.proofs.NegatedInverses.{product_with_opposite_is_one}
use Rattle.modular_monty.proofs.preinv.PreModInv.from.Goals as goal

pub returns : goal.returns
returns g c =
    let n = g.T.RingWord.number in
    let b = g.T.PathWord.base in
    let many = base_above_two g.T.RingWord.width b g.met.T.PathWord.base_is g.met.T.RingWord.width_from in
    let greatest : n c.ones.result ≡ b - 1 =
    omega (arith, c.ones.ensures ∙ ap (λ v. 2 ^ v) c.bits.ensures, g.met.T.PathWord.base_is) in
    let unit : (n c.args.d * n c.wrapping_sub-d_inv.result) % b ≡ 1 =
    product_with_opposite_is_one b (n c.args.d) (n c.neginv.result) (n c.wrapping_sub-d_inv.result)
    (omega (arith, many)) c.neginv.ensures (c.wrapping_sub-d_inv.ensures.value ∙ c.zero.ensures) in
    record {
      unit = ap (λ v. (n c.args.d * v) % b) c.new.ensures.inverse ∙ unit;
      greatest = c.new.ensures.limit ∙ c.quotient-q_lim.ensures ∙ ap (λ v. v / n c.args.d) greatest;
    }
