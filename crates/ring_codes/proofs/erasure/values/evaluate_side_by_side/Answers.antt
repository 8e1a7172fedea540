use Rattle.ring_codes.proofs.Names.{◌-◌, ◌*◌, ◌%◌, ◌≡◌, ℕ, length, refl, arith, entry, entry_read}
use Rattle.ring_codes.proofs.NewtonForms.{horner_step_extends_value, value_all}
use Rattle.ring_codes.proofs.erasure.values.evaluate_side_by_side.Goals as goal

pub coefficients-preserved : goal.coefficients-preserved
coefficients-preserved g c =
    let ring = g.R.Reducer in let m = ring.modulus c.args.r.now in let number = g.T.RingWord.number in
    let cs = c.args.coefficients.now in let n = length cs in let k = c.coefficients.k in let i : ℕ = n - 1 - k in
    let read = entry_read number ring.value m cs i _ (omega arith) c.index-coefficients-i.is in
    let x = entry number ring.value m c.args.points.now in let v = entry number ring.value m c.coefficients.values in (
      c.step_each.ensures.checked,
      λ j l. horner_step_extends_value m n k (entry number ring.value m cs) (x j) (v j) (v j * x j % m) _ (omega arith)
          (c.coefficients.invariant.1 j l) refl
          (rw read at (c.step_each.ensures.values j l)),
    )

pub returns-clause-encoding : goal.returns-clause-encoding
returns-clause-encoding g c =
    let ring = g.R.Reducer in let m = ring.modulus c.args.r.now in let number = g.T.RingWord.number in
    let cs = entry number ring.value m c.args.coefficients.now in let n = length c.args.coefficients.now in
    let count : c.coefficients.k ≡ n = omega arith in record {
      symbol = λ j l. let a = entry number ring.value m c.args.points.now j in
          rw (count, value_all n a cs) at (c.coefficients.invariant.1 j l);
    }
