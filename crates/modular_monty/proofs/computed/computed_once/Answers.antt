use Rattle.std.proofs.Common.{arith}
use Rattle.std.proofs.lemmas.Nat.{mul-mod_second}
use Rattle.modular_monty.proofs.computed.computed_once.Goals as goal

pub returns-clause-ring : goal.returns-clause-ring
returns-clause-ring c = λ odd.
    let known = c.negated_inverse.ensures odd in
    search (arith, mul-mod_second)
