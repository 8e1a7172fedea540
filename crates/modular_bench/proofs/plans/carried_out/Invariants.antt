use Rattle.std.proofs.Common.{◌<◌, All}
use Rattle.modular_bench.proofs.plans.carried_out.Given as goal

-- the entries are below the modulus
abbrev pub invariant-turns : goal.invariant-turns
invariant-turns g l =
    let number = g.T.RingWord.number in
    let m = number l.plan.modulus.modulus in
    record { entries_xs : All (λ x. number x < m) l.xs; entries_ys : All (λ x. number x < m) l.ys }
