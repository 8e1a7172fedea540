use Rattle.modular_monty.proofs.ProthModuli.{ring_of_proth}
use Rattle.modular_monty.proofs.proth.ProthNumber64.COMPUTED.Goals as goal

pub invariant_of-result : goal.invariant_of-result
invariant_of-result g c = record {
  ring = λ range. ring_of_proth range (c.modulus_64.ensures range) c.computed_once-negated_inverse.ensures.ring;
}
