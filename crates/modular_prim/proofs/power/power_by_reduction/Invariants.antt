use Rattle.std.proofs.Common.{◌*◌, ◌%◌, ◌^◌}
use Rattle.modular_prim.proofs.PowerSteps.{PowerSoFar}
use Rattle.modular_prim.proofs.power.power_by_reduction.Given as goal

abbrev pub invariant-digits : goal.invariant-digits
invariant-digits g l =
    let n = g.T.RingWord.number in
    PowerSoFar (λ x. (x * g.T.PathWord.base) % n l.fn.m) (λ y. y) (n l.fn.m) (n l.fn.base ^ n l.fn.exp % n l.fn.m)
    (n l.power) (n l.product) (n l.rest)

abbrev pub decreases-digits : goal.decreases-digits
decreases-digits g l = g.T.RingWord.number l.rest
