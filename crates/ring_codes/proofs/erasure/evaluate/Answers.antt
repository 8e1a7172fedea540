use Rattle.ring_codes.proofs.Names.{◌+◌, ◌-◌, ◌%◌, ◌∙◌, ℕ, length, ap, arith, entry, entry_read}
use Rattle.ring_codes.proofs.NewtonForms.{horner_step_extends_value}
use Rattle.ring_codes.proofs.erasure.evaluate.Goals as goal

pub coefficients-preserved : goal.coefficients-preserved
coefficients-preserved g c =
    let ring = g.R.Reducer in let m = ring.modulus c.args.r.now in let number = g.T.RingWord.number in
    let cs = c.args.coefficients.now in let n = length cs in let k = c.coefficients.k in let i : ℕ = n - 1 - k in
    let read = entry_read number ring.value m cs i _ (omega arith) c.index-coefficients-i.is in
    record {
      checked = c.add-value.ensures.checked;
      same = horner_step_extends_value m n k (entry number ring.value m cs) _ _ _ _ (omega arith)
          c.coefficients.invariant.same
          c.mul-product.ensures.value
          (c.add-value.ensures.value ∙ ap (λ v. (v + ring.value m (number c.mul-product.result)) % m) read);
    }
