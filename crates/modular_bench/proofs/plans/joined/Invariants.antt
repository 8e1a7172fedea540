use Rattle.std.proofs.Common.{◌<◌, All}
use Rattle.modular_bench.proofs.plans.joined.Given as goal

-- the entries are below the modulus
abbrev pub invariant-turns : goal.invariant-turns
invariant-turns g l = let number = g.T.RingWord.number in All (λ x. number x < number l.m.modulus) l.xs
