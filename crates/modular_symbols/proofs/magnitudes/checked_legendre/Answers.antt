-- Over an odd prime the class of the power is the Jacobi symbol.
use Rattle.std.proofs.Common.{◌∙◌, pos}
use Rattle.modular_symbols.specs.Kronecker.{signed}
use Rattle.modular_symbols.proofs.LegendreClass.{class_over_prime}
use Rattle.modular_symbols.proofs.magnitudes.checked_legendre.Goals as goal

pub returns-clause-prime : goal.returns-clause-prime
returns-clause-prime g c p =
    let n = g.T.RingWord.number in
    c.class_of_power.ensures
    ∙ class_over_prime (signed c.args.a_minus (pos (n c.args.a))) (signed c.args.n_minus (pos (n c.args.n))) p
