use Rattle.std.proofs.Common.{◌<◌, All}
use Rattle.modular_bench.proofs.lattices.bench_ml_dsa.Given as goal

-- the coefficients are residues
abbrev pub invariant-turns : goal.invariant-turns
invariant-turns l = All (λ x. x < 8380417) l.xs
