use Rattle.test_callers.proofs.operations.inverse_modulo.Goals as goal

pub invm-requires : goal.invm-requires
invm-requires c = c.requires
