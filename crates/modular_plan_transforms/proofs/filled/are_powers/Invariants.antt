use Rattle.std.proofs.Common.{◌≡◌, ℕ, ◌-◌, ◌%◌, ◌^◌, ◌<◌}
use Rattle.modular_plan_passes.specs.Plans.{numbers}
use Rattle.modular_transform.specs.Orders.{bits_reversed}
use Rattle.modular_plan_transforms.proofs.filled.are_powers.Given as goal

-- the first powers stand at their places, and `place` is that of the last of them
abbrev pub invariant-powers : goal.invariant-powers
invariant-powers g l =
    let n = g.T.RingWord.number in
    record {
      power : n l.power ≡ n l.fn.g ^ l.exponent % n l.m.modulus;
      place : l.place ≡ bits_reversed l.bits (l.exponent - 1);
      passed : (k : ℕ) → k < l.exponent
          → numbers g.F.PlanEntry.value l.table (bits_reversed l.bits k) ≡ n l.fn.g ^ k % n l.m.modulus;
    }
