use Rattle.std.proofs.Common.{◌≡◌, ℕ, ◌%◌, ◌<◌, ◌≤◌}
use Rattle.modular_plan_passes.specs.Plans.{numbers}
use Rattle.modular_plan_transforms.proofs.join.reduce_each.Given as goal

-- the first i entries are done
abbrev pub invariant-entries : goal.invariant-entries
invariant-entries g l =
    let number = g.T.RingWord.number in
    record {
      done : (k : ℕ) → k < l.i → numbers number l.xs k ≡ numbers number l.fn.xs k % g.M.JoinSteps.modulus l.m;
      kept : (k : ℕ) → l.i ≤ k → numbers number l.xs k ≡ numbers number l.fn.xs k;
    }
