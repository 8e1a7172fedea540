use Rattle.std.proofs.Common.{arith, refl}
use Rattle.std.proofs.lemmas.Bool.{false≢true}
use Rattle.num_modular_c.proofs.planned.pair_code.Goals as goal

pub returns-then-not-is_pair-clause-fits : goal.returns-then-not-is_pair-clause-fits
returns-then-not-is_pair-clause-fits c =
    (λ e. absurd (omega (arith, e)), λ both. absurd (false≢true (c.if-not-is_pair.ensures.1 both.0)))

pub returns-then-are_factors-clause-fits : goal.returns-then-are_factors-clause-fits
returns-then-are_factors-clause-fits c =
    (λ e. (c.if-not-is_pair.ensures.0 refl, c.if-are_factors.ensures.0 refl), λ both. refl)

pub returns-else-are_factors-clause-fits : goal.returns-else-are_factors-clause-fits
returns-else-are_factors-clause-fits c =
    (λ e. absurd (omega (arith, e)), λ both. absurd (false≢true (c.if-are_factors.ensures.1 both.1)))
