use Rattle.std.proofs.Common.{◌<◌, All}
use Rattle.modular_bench.proofs.lattices.bench_ml_kem.Given as goal

-- the coefficients are residues
abbrev pub invariant-turns : goal.invariant-turns
invariant-turns l = All (λ x. x < 3329) l.xs
