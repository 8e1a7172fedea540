use Rattle.std.proofs.Common.{◌≡◌, ℕ, ◌*◌, ◌<◌, ◌≤◌}
use Rattle.modular_word.specs.Congruence.{Congruent}
use Rattle.modular_plan_passes.specs.Plans.{numbers}
use Rattle.modular_plan_transforms.proofs.products.reduce_products.Given as goal

-- the first i entries are done
abbrev pub invariant-entries : goal.invariant-entries
invariant-entries g l =
    let number = g.T.RingWord.number in
    let m = number l.m.modulus in
    record {
      below : (k : ℕ) → k < l.i → numbers number l.xs k < 2 * m;
      done : (k : ℕ) → k < l.i → Congruent m (numbers number l.xs k * g.T.PathWord.base)
          (numbers number l.fn.xs k * numbers number l.ys k);
      kept : (k : ℕ) → l.i ≤ k → numbers number l.xs k ≡ numbers number l.fn.xs k;
    }
