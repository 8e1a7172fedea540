use Rattle.num_modular.specs.Callers.{◌+◌, length, entry}
use Rattle.ring_decoder.proofs.LocatorSteps.{negated_condition_swaps_lists}
use Rattle.ring_decoder.specs.LocatorSteps.{IsSearch}
use Rattle.ring_decoder.proofs.locator.step.Goals as goal

pub returns-in-Some-clause-advanced : goal.returns-in-Some-clause-advanced
returns-in-Some-clause-advanced g c =
    let ring = g.R.Reducer in let m = ring.modulus c.args.r.now in let number = g.T.RingWord.number in
    let next = c.in-Some.next in
    negated_condition_swaps_lists next.1
    (λ s b. IsSearch m (length c.args.moments.now) (c.args.i + 1) next.0 (ring.value m (number next.2))
    (ring.value m (number next.3)) (entry number ring.value m s) (entry number ring.value m b)
    (entry number ring.value m c.args.moments.now))
    c.advance.new.locator c.advance.new.other c.in-Some.ensures.advanced
