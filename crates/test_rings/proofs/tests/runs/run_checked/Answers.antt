use Rattle.std.proofs.Common.{refl}
use Rattle.test_rings.proofs.tests.runs.run_checked.Goals as goal

pub run-requires : goal.run-requires
run-requires g c = record {
  checked = c.if-all_checked.ensures.0 refl;
  fit = c.if-commands_fit.ensures.0 refl;
}
