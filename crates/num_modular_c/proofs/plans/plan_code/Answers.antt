use Rattle.std.proofs.Common.{arith, refl}
use Rattle.std.proofs.lemmas.Bool.{false≢true}
use Rattle.num_modular_c.proofs.plans.plan_code.Goals as goal

pub returns-then-not-admits-clause-fits : goal.returns-then-not-admits-clause-fits
returns-then-not-admits-clause-fits c = (
  λ ok. absurd (omega (arith, ok)),
  λ both. absurd (false≢true (c.if-not-admits.ensures.1 both.0)),
)

pub returns-clause-fits : goal.returns-clause-fits
returns-clause-fits c = (
  λ ok. (c.if-not-admits.ensures.0 refl, rw c.new.ensures at (c.root_code.ensures.suits ok)),
  λ both. (rw c.new.ensures at c.root_code.ensures.fits) both.1,
)
