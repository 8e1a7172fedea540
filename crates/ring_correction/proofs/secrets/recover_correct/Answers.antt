use Rattle.num_modular.specs.Callers.{entry_read, form_read, ◌∙◌, arith}
use Rattle.ring_correction.proofs.secrets.recover_correct.Goals as goal

pub returns-in-Ok : goal.returns-in-Ok
returns-in-Ok g c =
    let ring = g.R.Reducer in let m = ring.modulus c.args.r.now in let number = g.T.RingWord.number in
    let is = c.index-coefficients-0.is in let first = c.index-coefficients-0.result in
    record {
      checked = form_read number ring.form ring.value m c.correct.new.message 0 first c.in-Ok.ensures.forms
          (omega arith) is;
      secret = λ original other code near.
          entry_read number ring.value m c.correct.new.message 0 first (omega arith) is
          ∙ (c.in-Ok.ensures.only original other code near).1 0 (omega arith);
      errors = c.in-Ok.field-0;
      corrected = c.in-Ok.ensures;
    }
