use Rattle.std.proofs.Common.{refl}
use Rattle.num_modular_c.proofs.CorrectedResidues.{corrected_residues, fault_of_residues}
use Rattle.num_modular_c.proofs.correctors.corrected.Goals as goal

pub returns-in-Ok-clause-ok : goal.returns-in-Ok-clause-ok
returns-in-Ok-clause-ok g c ok =
    let ring = g.R.Reducer in let m = ring.modulus c.args.r.now in let same = c.over-code.ensures in (
      refl,
      corrected_residues ring.form ring.value m _ _ _ _ _ _ _ _ c.requires.lists.point_forms
          c.load_from.ensures.values c.unload_from.ensures (rw (same.0, same.1, same.2) at c.in-Ok.ensures),
    )

pub returns-in-Err-clause-failure : goal.returns-in-Err-clause-failure
returns-in-Err-clause-failure g c bad =
    let ring = g.R.Reducer in let m = ring.modulus c.args.r.now in let same = c.over-code.ensures in
    let fault = rw (same.0, same.1, same.2) at c.in-Err.ensures in (
      record {
        error = c.in-Err.error;
        code_is = c.correct_code.ensures.code;
        reason = fault_of_residues ring.form ring.value m _ _ _ _ _ _ c.requires.lists.point_forms
            c.load_from.ensures.values fault.1;
        number = c.correct_code.ensures.number;
      },
      refl,
      refl,
    )
