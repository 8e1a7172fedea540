use Rattle.num_modular.specs.Callers.{◌<◌, ◌≡◌, ℕ, ◌+◌, ◌-◌, ◌*◌, ◌%◌, ◌∙◌, ap, sym, arith, entry, entry_read}
use Rattle.num_modular.specs.NumberLaws.{mod_of_eq, mod_trans, mod_mul, residue_of, sum_below-zero}
use Rattle.num_modular.specs.NumberLaws.{sum_residue_of_next_term}
use Rattle.num_modular.specs.Polynomials.{polynomial_at}
use Rattle.ring_codes.proofs.NewtonForms.{zero_is_empty_polynomial_value, horner_step_extends_value}
use Rattle.ring_decoder.proofs.errors.quotient_sum.Goals as goal

pub coefficients-init : goal.coefficients-init
coefficients-init g c =
    let m = g.R.Reducer.modulus c.args.r.now in
    let zero = c.transform-zero.ensures.value ∙ ap (λ v. v % m) c.zero.ensures in (
      record { checked = c.transform-zero.ensures.checked; same = zero_is_empty_polynomial_value m _ _ _ zero },
      record {
        checked = c.transform-zero.ensures.checked;
        same = zero ∙ ap (λ v. v % m) (sym (sum_below-zero _));
      },
    )

pub coefficients-preserved : goal.coefficients-preserved
coefficients-preserved g c =
    let ring = g.R.Reducer in let m = ring.modulus c.args.r.now in let number = g.T.RingWord.number in
    let coefficients = c.args.coefficients.now in let numbers = c.args.numbers.now in
    let f = entry number ring.value m coefficients in let s = entry number ring.value m numbers in
    let a = ring.value m (number c.args.point.now) in let q = c.args.q in let k = c.coefficients.k in
    let so_far = c.coefficients.invariant in let below : k < q = c.coefficients-test.true in
    let V : ℕ → ℕ = λ k. polynomial_at (k + 1) (λ i. f (q + 1 - (k + 1) + i)) a in
    let at : q - k ≡ q + 1 - 1 - k = omega (arith, below) in
    let read = entry_read number ring.value m coefficients (q - k) _ (omega (arith, c.requires.each))
    c.index-coefficients-q.is in
    let other = entry_read number ring.value m numbers (q - 1 - k) _ (omega (arith, below, c.requires.enough))
    c.index-numbers-q.is in
    let next = horner_step_extends_value m (q + 1) k f a _ _ _ (omega (arith, below)) so_far.0.same
    c.mul-product.ensures.value
    (c.add-quotient.ensures.value ∙ ap (λ v. (v + ring.value m (number c.mul-product.result)) % m) (read ∙ ap f at)) in (
      record { checked = c.add-quotient.ensures.checked; same = next },
      record {
        checked = c.add-sum.ensures.checked;
        same = c.add-sum.ensures.value ∙ sum_residue_of_next_term m k _ _ (λ k. V k * s (q - 1 - k)) so_far.1.same
            (mod_trans (mod_of_eq c.mul-term.ensures.value) (mod_trans (residue_of _)
            (mod_mul (mod_trans (mod_of_eq next) (residue_of (V k))) (mod_of_eq other))));
      },
    )

pub returns-clause-value : goal.returns-clause-value
returns-clause-value g c =
    let count : c.coefficients.k ≡ c.args.q = omega arith in rw count at c.coefficients.invariant.1.same
