use Rattle.num_modular.specs.Callers.{◌∙◌, arith, inl, inr, length, entry_past, entry_kept, held_entry}
use Rattle.std.proofs.lemmas.Bool.{cases_lt}
use Rattle.ring_correction.proofs.key_equation.set_unit.Goals as goal

pub returns-clause-others : goal.returns-clause-others
returns-clause-others g c i other =
    let ring = g.R.Reducer in let m = ring.modulus c.args.r.now in let number = g.T.RingWord.number in
    let list = c.coefficients.coefficients in
    entry_kept number ring.value m list c.args.place i _ other
    ∙ elim (cases_lt i (length list)) [
      | inl b ↦ held_entry _ _ _ _ list _ c.coefficients.i i c.coefficients.invariant (omega arith) b
      | inr b ↦ entry_past number ring.value m list i b
    ]
