use Rattle.std.proofs.Common.{arith, refl}
use Rattle.test_callers.proofs.vanilla.form_of_a_sum.Goals as goal

pub add-requires-clause-left : goal.add-requires-clause-left
add-requires-clause-left c = record { below = omega (arith, c.new.ensures); same = refl }

pub add-requires-clause-right : goal.add-requires-clause-right
add-requires-clause-right c = record { below = omega (arith, c.new.ensures); same = refl }
