-- Halving an even number keeps its product with the power of two.
use Rattle.std.proofs.Common.{◌≡◌, ◌≢◌, ◌*◌, ◌%◌, ◌^◌, ◌<◌, ◌≤◌, ◌∙◌, arith, ap, inl, inr}
use Rattle.std.proofs.Math.Nat.{pow-suc, mul-le-mul_right, mul-one}
use Rattle.std.proofs.Math.Pow.{pow_mono}
use Rattle.std.proofs.lemmas.Bool.{cases_lt}
use Rattle.modular_symbols.proofs.halving.odd_part_by_halves.Goals as goal

pub halves-init : goal.halves-init
halves-init g c = record { some = c.requires; whole = mul-one _ }

pub halves-preserved : goal.halves-preserved
halves-preserved g c =
    let n = g.T.RingWord.number in
    let k = c.halves.twos in
    let even : n c.halves.odd % 2 ≢ 1 = grind arith in
    let some = c.halves.invariant.some in
    let twice : 2 * n c.half-odd.result ≡ n c.halves.odd = omega (arith, even, some, c.half-odd.ensures.value) in
    record {
      some = omega (arith, twice, some);
      whole = ap (λ v. (n c.half-odd.result) * v) (ap (λ j. 2 ^ j) (omega arith) ∙ pow-suc _ k) ∙ (omega arith)
          ∙ ap (λ v. v * 2 ^ k) twice ∙ c.halves.invariant.whole;
    }

pub overflow_add-twos : goal.overflow_add-twos
overflow_add-twos g c =
    let k = c.halves.twos in
    let less : k < g.T.RingWord.width = elim (cases_lt k _) [
      | inl within ↦ within
      | inr past ↦
          let times : 1 * 2 ^ k ≤ g.T.RingWord.number c.halves.odd * 2 ^ k = grind (arith, mul-le-mul_right) in
          absurd (omega (arith, (pow_mono past), times, c.halves.invariant.whole, c.is_zero_word.ensures.fits))
    ] in
    omega (arith, less, g.met.T.RingWord.width_to)
