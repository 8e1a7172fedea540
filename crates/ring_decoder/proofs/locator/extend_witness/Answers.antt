use Rattle.ring_decoder.proofs.LocatorSteps.{witness_kept, witness_more}
use Rattle.ring_decoder.proofs.locator.extend_witness.Goals as goal

pub returns-then-is_zero-clause-units : goal.returns-then-is_zero-clause-units
returns-then-is_zero-clause-units g c unit =
    absurd (witness_kept _ _ _ _ c.requires.met.below c.requires.some c.mul-product.ensures.value
    (c.is_zero.ensures.0 c.if-is_zero.true) unit)

pub returns-else-is_zero-clause-units : goal.returns-else-is_zero-clause-units
returns-else-is_zero-clause-units g c unit = witness_more _ _ _ _ c.mul-product.ensures.value unit
