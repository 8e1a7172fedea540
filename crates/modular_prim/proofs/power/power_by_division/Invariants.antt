use Rattle.std.proofs.Common.{◌%◌, ◌^◌}
use Rattle.modular_prim.proofs.PowerSteps.{PowerSoFar}
use Rattle.modular_prim.proofs.power.power_by_division.Given as goal

abbrev pub invariant-digits : goal.invariant-digits
invariant-digits g l =
    let n = g.T.RingWord.number in
    PowerSoFar (λ x. x) (λ y. y) (n l.fn.m) (n l.fn.base ^ n l.fn.exp % n l.fn.m) (n l.power) (n l.product) (n l.rest)

abbrev pub decreases-digits : goal.decreases-digits
decreases-digits g l = g.T.RingWord.number l.rest
