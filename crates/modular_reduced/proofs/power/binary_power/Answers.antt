use Rattle.std.proofs.Common.{arith, ◌≡◌, ◌≢◌, ◌%◌, ◌∙◌, sym}
use Rattle.std.proofs.lemmas.Bool.{false≢true}
use Rattle.modular_reduced.proofs.PowerForms.{power_start, power_odd_step, power_even_step, power_end}
use Rattle.modular_reduced.proofs.PowerCounts.{steps_of_zero, steps_left, steps_step, steps_fit}
use Rattle.modular_reduced.proofs.power.binary_power.Goals as goal
use Rattle.modular_reduced.proofs.power.binary_power.Goals.{then-is_odd, else-is_odd}

pub digits-init : goal.digits-init
digits-init g c = record {
  so_far = power_start (g.met.R.Reducer.canonical c.args.reducer.now) c.requires.form c.one.ensures
      c.transform-product.ensures.form;
  counted = omega arith;
}

pub overflow_add-count : goal.overflow_add-count
overflow_add-count g c =
    let number = g.T.RingWord.number in
    let some : number c.digits.rest ≢ 0 = λ e. false≢true (sym c.digits-test.true ∙ c.is_zero_word.ensures.zero.1 e) in
    let fit = steps_fit (number c.args.exp) g.T.RingWord.width c.requires.fits g.met.T.RingWord.width_to in
    let left = steps_left (number c.digits.rest) some in
    omega (arith, c.digits.invariant.counted)

pub overflow_add-count-in-digits : goal.overflow_add-count-in-digits
overflow_add-count-in-digits g c =
    let number = g.T.RingWord.number in
    let some : number c.digits.rest ≢ 0 = λ e. false≢true (sym c.digits-test.true ∙ c.is_zero_word.ensures.zero.1 e) in
    let fit = steps_fit (number c.args.exp) g.T.RingWord.width c.requires.fits g.met.T.RingWord.width_to in
    let left = steps_left (number c.digits.rest) some in
    elim c.if-is_odd.branch [
      | then-is_odd w ↦ omega (arith, c.digits.invariant.counted)
      | else-is_odd w ↦ omega (arith, c.digits.invariant.counted)
    ]

pub digits-preserved : goal.digits-preserved
digits-preserved g c =
    let number = g.T.RingWord.number in
    let canonical = g.met.R.Reducer.canonical c.args.reducer.now in
    let half = c.half-rest.ensures.value in
    let some : number c.digits.rest ≢ 0 = λ e. false≢true (sym c.digits-test.true ∙ c.is_zero_word.ensures.zero.1 e) in
    let step = steps_step (number c.digits.rest) (number c.half-rest.result) half some in
    elim c.if-is_odd.branch [
      | then-is_odd w ↦
          let odd : number c.digits.rest % 2 ≡ 1 = c.is_odd.ensures.odd.0 w.if-is_odd.true in
          record {
            so_far = rw w.product-is (power_odd_step canonical c.digits.invariant.so_far odd w.mul-product.ensures.form
                c.sqr-power.ensures.form half);
            counted = omega (arith, c.digits.invariant.counted);
          }
      | else-is_odd w ↦
          let even : number c.digits.rest % 2 ≢ 1 = λ e. false≢true (sym w.if-is_odd.false ∙ c.is_odd.ensures.odd.1 e)
          in
          record {
            so_far = rw w.product-is
                (power_even_step canonical c.digits.invariant.so_far even c.sqr-power.ensures.form half);
            counted = omega (arith, c.digits.invariant.counted);
          }
    ]

pub returns : goal.returns
returns g c =
    let ended : g.T.RingWord.number c.digits.rest ≡ 0 = c.is_zero_word.ensures.zero.0 c.digits-test.false in
    let none = steps_of_zero (g.T.RingWord.number c.digits.rest) ended in
    record { power = power_end c.digits.invariant.so_far ended; count = omega (arith, c.digits.invariant.counted) }

pub digits-smaller : goal.digits-smaller
digits-smaller g c =
    let some : g.T.RingWord.number c.digits.rest ≢ 0 = λ e.
    false≢true (sym c.digits-test.true ∙ c.is_zero_word.ensures.zero.1 e) in
    omega (arith, c.half-rest.ensures.value, some)
