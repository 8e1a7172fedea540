use Rattle.std.proofs.Common.{arith}
use Rattle.modular_transform.proofs.BitReversal.{step_in_word}
use Rattle.modular_transform.proofs.order.next_reversed.Goals as goal

pub overflow_sub-step-2 : goal.overflow_sub-step-2
overflow_sub-step-2 c =
    omega (arith, step_in_word _ _ _ c.requires.few c.requires.below c.requires.last c.if-place-eq0.false)

pub overflow_add-result : goal.overflow_add-result
overflow_add-result c =
    omega (arith, step_in_word _ _ _ c.requires.few c.requires.below c.requires.last c.if-place-eq0.false)

pub overflow_mul-result : goal.overflow_mul-result
overflow_mul-result c =
    omega (arith, step_in_word _ _ _ c.requires.few c.requires.below c.requires.last c.if-place-eq0.false)

pub overflow_sub-result : goal.overflow_sub-result
overflow_sub-result c =
    omega (arith, step_in_word _ _ _ c.requires.few c.requires.below c.requires.last c.if-place-eq0.false)

pub overflow_sub-result-2 : goal.overflow_sub-result-2
overflow_sub-result-2 c =
    omega (arith, step_in_word _ _ _ c.requires.few c.requires.below c.requires.last c.if-place-eq0.false)
