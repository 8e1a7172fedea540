use Rattle.std.proofs.Common.{◌≡◌, ◌-◌, ◌*◌, ◌^◌, ap, ◌∙◌, arith}
use Rattle.std.proofs.Math.Pow.{pow-lt}
use Rattle.modular_plan_passes.proofs.modulus.part_of_base.Goals as goal

pub shift_left-requires : goal.shift_left-requires
shift_left-requires g c =
    let w = g.T.RingWord.width in
    let k = c.args.k in
    let wide = g.met.T.RingWord.width_from in
    let bits : c.bits.result - k ≡ w - k = ap (λ v. v - k) c.bits.ensures in
    let shifted : g.T.RingWord.number c.one.result * 2 ^ (c.bits.result - k) ≡ 1 * 2 ^ (w - k) =
    ap (λ v. v * 2 ^ (c.bits.result - k)) c.one.ensures ∙ ap (λ v. 1 * 2 ^ v) bits in
    let less = pow-lt {i = w - k} {j = w} (omega (arith, wide, c.requires.some)) in
    record {
      by = omega (arith, bits, wide, c.requires.some);
      fits = omega (arith, less, shifted, g.met.T.PathWord.base_is);
    }

pub returns : goal.returns
returns g c =
    let k = c.args.k in
    let shifted : g.T.RingWord.number c.one.result * 2 ^ (c.bits.result - k) ≡ 1 * 2 ^ (g.T.RingWord.width - k) =
    ap (λ v. v * 2 ^ (c.bits.result - k)) c.one.ensures ∙ ap (λ v. 1 * 2 ^ (v - k)) c.bits.ensures in
    omega (arith, c.shift_left.ensures, shifted)
