use Rattle.std.proofs.Common.{◌≡◌, ◌*◌, ◌^◌, ◌<◌, ap, arith}
use Rattle.std.proofs.lemmas.Nat.{pow_pos}
use Rattle.std.proofs.Math.Nat.{mul-lt-mul_of_pos_right}
use Rattle.modular_plan_passes.proofs.FactorProducts.{scaled_quotient}
use Rattle.modular_plan_passes.proofs.modulus.PlannedModulus.factor.Goals as goal

pub div_2by1-quotient-requires-clause-high : goal.div_2by1-quotient-requires-clause-high
div_2by1-quotient-requires-clause-high g c =
    let less = mul-lt-mul_of_pos_right c.requires (pow_pos c.args.self.now.shift) in
    let high : g.T.RingWord.number c.shift_left-scaled.result < g.T.RingWord.number c.shift_left-divisor.result =
    omega (arith, less, c.shift_left-divisor.ensures, c.shift_left-scaled.ensures) in
    let some : 0 < g.T.PathWord.base = omega (arith, c.args.self.now.some, c.args.self.now.room) in
    let more = mul-lt-mul_of_pos_right high some in
    omega (arith, more, c.merge.ensures.value, c.zero.ensures)

pub returns-clause-factor : goal.returns-clause-factor
returns-clause-factor g c =
    let self = c.args.self.now in
    let n = g.T.RingWord.number in
    let p = 2 ^ self.shift in
    let times_b = ap (λ v. g.T.PathWord.base * v) c.shift_left-scaled.ensures in
    let dividend : g.T.PathWord.double_number c.merge.result ≡ g.T.PathWord.base * (n c.args.w * p) =
    omega (arith, c.merge.ensures.value, c.zero.ensures, times_b) in
    record {
      below = c.requires;
      quotient = scaled_quotient _ _ _ _ _ _ (pow_pos self.shift)
          (rw (dividend, c.shift_left-divisor.ensures) at c.div_2by1-quotient.ensures);
    }
